-- Why a content is refused. Document 01, 'Refusal numbers', from "then by tag" on, for curves and claims.
--
--     number_of              the number of each refusal
--     Checked                what a check of a content finds: nothing, or a refusal
--     on                     a test that refuses, before what is tried after it
--     no_span, limit_fault   what is refused of a curve by its numbers, over values_fit, values_rise and seam_holds
--     listed_fault           a curve and a list of values, as the writer gets them; curve_fault: a content, as the
--                            reader does
--     statement_fault        a claim by its numbers, by kind_fault over none_named, last_id and far_x; claim_fault: a
--                            content
--     stated_of              a claim as a value: claimed_of, its claimed curve
--     statement_field, claim_field     the same, with what is stated where nothing is refused (stated, stated_or)
--     on_sound, or_false     what is known where nothing was refused; claim_odd, claim_whole: by the length of a
--                            claim's content
use Rattle.std.specs.Prelude.{ℕ, suc, ◌+◌, ◌-◌, ◌*◌, ◌≡◌, refl, Bool, true, false, ◌||◌, not, List, length, get_or, leb, ltb, eqb, Result, Ok, Err}
use Rattle.std.proofs.Common.{true≢false, eq-eqb, ne_eqb}
use Rattle.std.proofs.Math.Option.{Option, none, some}
use Rattle.minplus.specs.Curve.{Curve, count, max_listed, max_units, seam_holds}
use Rattle.minplus.specs.Claim.{Kind, result, bound, kind_by, max_x}
use Rattle.minplus.specs.Search.{all_below}
use Rattle.curve.specs.Filled.{list_of}
use Rattle.curve.specs.Kinds.{claim_with}
use Rattle.content.specs.declared.Refusal.{Refusal}
use Rattle.content.specs.declared.Refusal.TheVariants.{Torn, UnknownTag, OutOfOrder, TooMany, WrongVersion, CurveLength, CurvePeriod, TooManyUnits, CurveFalls, WrongClaim, NoSuchCurve, TooLarge, WrongEnd, NoRoom, BookTooLong}
use Rattle.content.specs.declared.Stated.{Stated}
use Rattle.content.specs.declared.Statement.{Statement}
use Rattle.content.specs.Layout.{rank_in, period_in, count_in, curve_head, curve_in, third_width, claim_in, claim_length}

unfoldable pub number_of : Refusal → ℕ
number_of Torn = 1
number_of UnknownTag = 2
number_of OutOfOrder = 3
number_of TooMany = 4
number_of WrongVersion = 5
number_of CurveLength = 6
number_of CurvePeriod = 7
number_of TooManyUnits = 8
number_of CurveFalls = 9
number_of WrongClaim = 10
number_of NoSuchCurve = 11
number_of TooLarge = 12
number_of WrongEnd = 13
number_of NoRoom = 14
number_of BookTooLong = 15

-- what a check of a content finds
abbrev pub Checked : Type 0
Checked = Result (Unit {0}) Refusal

abbrev pub on : {A : Type 0} → Bool → Refusal → Result A Refusal → Result A Refusal
on true x after = Err x
on false x after = after

-- ---- curve

-- "7 d = 0 or T+d > 256"
unfoldable pub no_span : ℕ → ℕ → Bool
no_span rank period = eqb period 0 || ltb max_listed (rank + period)

unfoldable pub values_fit : List ℕ → Bool
unfolding all_below
values_fit values = all_below (λ n. leb (get_or values n 0) max_units) (length values)

unfoldable pub values_rise : List ℕ → Bool
unfolding all_below
values_rise values = all_below (λ n. leb (get_or values n 0) (get_or values (suc n) 0)) (length values - 1)

-- "8 c or a value over 1,000,000; 9 values fall". Document 02, A2: "Refusal 9 must also be given when f(T)+c is below
-- f(T+d-1)"
unfoldable pub limit_fault : Curve → Checked
unfolding values_fit values_rise
limit_fault f =
    on (ltb max_units f.increment || not (values_fit f.listed)) TooManyUnits
    (on (not (values_rise f.listed) || not (seam_holds f)) CurveFalls
    (Ok tt))

-- written: "7, 6 (the list isn't T+d values), 8, 9 for a curve"
unfoldable pub listed_fault : Curve → Checked
unfolding no_span limit_fault
listed_fault f =
    on (no_span f.rank f.period) CurvePeriod
    (on (not (eqb (length f.listed) (count f))) CurveLength
    (limit_fault f))

-- read: "6 length under 8; 7 d = 0 or T+d > 256; 6 length isn't 8+4*(T+d); 8 c or a value over 1,000,000; 9 values
-- fall"
unfoldable pub curve_fault : List ℕ → Checked
unfolding no_span limit_fault list_of
curve_fault content =
    on (ltb (length content) curve_head) CurveLength
    (on (no_span (rank_in content) (period_in content)) CurvePeriod
    (on (not (eqb (length content) (curve_head + 4 * count_in content))) CurveLength
    (limit_fault (curve_in content))))

-- ---- claim

-- one of three ids names no curve of so many
unfoldable pub none_named : ℕ → ℕ → ℕ → ℕ → Bool
none_named curves left right last = leb curves left || leb curves right || leb curves last

-- of kinds 1 to 3 the third is h, the last id; of 4 to 7 right is the last
abbrev pub last_id : Kind → Statement → ℕ
last_id (result o) c = c.third
last_id (bound δ t) c = c.right

-- kinds 1 to 3 have no X
unfoldable pub far_x : Kind → Statement → Bool
far_x (result o) c = false
far_x (bound δ t) c = ltb max_x c.third

-- "11 an id that names no curve; 12 X too large"
unfoldable pub kind_fault : Kind → ℕ → Statement → Checked
unfolding none_named far_x
kind_fault κ curves c =
    on (none_named curves c.left c.right (last_id κ c)) NoSuchCurve
    (on (far_x κ c) TooLarge
    (Ok tt))

-- written: "10, 11, 12 for a claim .. An unknown kind is 10"
unfoldable pub statement_fault : ℕ → Statement → Checked
unfolding kind_fault
statement_fault curves c = elim (kind_by c.kind) [ none ↦ Err WrongClaim | some κ ↦ kind_fault κ curves c ]

-- read: "10 empty, unknown kind or wrong length; 11 an id that names no curve; 12 X too large". An empty content has
-- not the length of its kind, which is read as 0
unfoldable pub claim_fault : ℕ → List ℕ → Checked
unfolding statement_fault third_width
claim_fault curves content =
    on (not (eqb (length content) (claim_length (claim_in content).kind))) WrongClaim
    (statement_fault curves (claim_in content))

-- ---- a claim as a value

-- kinds 4 to 7 have no claimed curve: 0 stands there
abbrev pub claimed_of : Kind → Statement → ℕ
claimed_of (result o) c = c.third
claimed_of (bound δ t) c = 0

abbrev pub stated_of : Kind → Statement → Stated
stated_of κ c = record { claim = claim_with κ c.third; left = c.left; right = c.right; claimed = claimed_of κ c }

abbrev pub stated_or : Checked → Stated → Result Stated Refusal
stated_or (Err x) st = Err x
stated_or (Ok sound) st = Ok st

unfoldable pub stated : Option Kind → ℕ → Statement → Result Stated Refusal
unfolding kind_fault
stated none curves c = Err WrongClaim
stated (some κ) curves c = stated_or (kind_fault κ curves c) (stated_of κ c)

unfoldable pub statement_field : ℕ → Statement → Result Stated Refusal
unfolding stated
statement_field curves c = stated (kind_by c.kind) curves c

unfoldable pub claim_field : ℕ → List ℕ → Result Stated Refusal
unfolding statement_field third_width
claim_field curves content =
    elim (eqb (length content) (claim_length (claim_in content).kind)) [ true ↦ statement_field curves (claim_in content) | false ↦ Err WrongClaim ]

-- ---- laws

pub on_sound : {A : Type 0} (b : Bool) (x : Refusal) (later : Result A Refusal) {a : A} → on b x later ≡ Ok a → (b ≡ false) × (later ≡ Ok a)
on_sound true x later e = (cc, cc)
on_sound false x later e = (refl, e)

pub or_false : (a b : Bool) → a || b ≡ false → (a ≡ false) × (b ≡ false)
or_false true b e = absurd (true≢false e)
or_false false b e = (refl, e)

-- a claim's content that has not the length of its kind, and one that has
pub claim_odd : (curves : ℕ) (content : List ℕ) → ¬ (length content ≡ claim_length (claim_in content).kind) → claim_field curves content ≡ Err WrongClaim
unfolding claim_field
claim_odd curves content odd = rw (ne_eqb (length content) (claim_length (claim_in content).kind) odd, claim_field)

pub claim_whole : (curves : ℕ) (content : List ℕ) → length content ≡ claim_length (claim_in content).kind → claim_field curves content ≡ statement_field curves (claim_in content)
unfolding claim_field
claim_whole curves content whole = rw (eq-eqb (length content) (claim_length (claim_in content).kind) whole, claim_field)
