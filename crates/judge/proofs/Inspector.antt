-- The laws of specs/Inspector.antt.
use Rattle.std.specs.Prelude.{ℕ, zero, suc, ◌+◌, ◌*◌, ◌≤◌, ◌<◌, ◌≡◌, Bool, List, ◌↔◌, ◌⊎◌, leb, eqb}
use Rattle.std.proofs.Math.Path.{refl, sym, ap, subst}
use Rattle.std.proofs.Common.{◌∙◌}
use Rattle.std.proofs.Math.Bool.{true, false}
use Rattle.std.proofs.Math.Option.{some}
use Rattle.std.proofs.Math.Logic.{inl, inr}
use native.Mathlib.Omega.{arith}
use Rattle.std.proofs.Math.ListN.{length}
use Rattle.std.proofs.Math.Dec.{ltb}
use borrow.Author.Tests.{ltb-true, ltb-false, leb-true, le-leb, eqb-true, eq-eqb}
use Rattle.minplus.specs.Search.{both_true, false_unless}
use Rattle.minplus.specs.Curve.{Curve, WellFormed, value}
use Rattle.minplus.specs.Claim.{Claim, Claimed, Kind, Tightness, WellFormedClaim, at_most, bound, bounds, convolution, delay, due, equals, exactly, max_x, result}
use Rattle.minplus.specs.Conv.{conv, conv_attained}
use Rattle.minplus.proofs.Conv.{conv_below}
use Rattle.minplus.specs.Horizon.{horizon, max_horizon}
use Rattle.minplus.specs.Verdict.{Record, Verdict, accepted, refuted_at, refuted_by_rate, not_least, not_judged, record_of, record_on, record_with, verdict, tried}
use Rattle.minplus.specs.Recorded.{verdict_by, verdict-by}
use Rattle.minplus.specs.Meaning.{Meaning, Proper, Rule, well_formed_proper}
use Rattle.minplus.proofs.Exact.{verdict_exact, accepted_exactly, rate_exactly}
use Rattle.minplus.specs.Delay.{Delayed}
use Rattle.minplus.proofs.Delay.{delay_means}
use Rattle.content.specs.declared.Refusal.{Refusal}
use Rattle.content.specs.declared.Refusal.TheVariants.{Torn, UnknownTag, OutOfOrder, TooMany, WrongVersion, CurveLength, CurvePeriod, TooManyUnits, CurveFalls, WrongClaim, NoSuchCurve, TooLarge, WrongEnd, NoRoom, BookTooLong}
use Rattle.content.specs.declared.Stated.{Stated}
use Rattle.content.specs.Layout.{kind_in, claim_in, third_in}
use Rattle.content.specs.Refusals.{number_of, stated_of}
use Rattle.field.specs.Steps.{max_claims}
use Rattle.book.specs.Reading.{Contents, Read, sound, refused, max_bytes, read_book}
use Rattle.book.specs.Sound.{sound_book, refused_inside}
use Rattle.book.specs.Values.{curve_named}
use Rattle.numbers.specs.Put.{put, length-put, drop-put}
use Rattle.judge.specs.Answer.{answer_parts, accepted_in, claims_in, certified, record_size, code_in, record_in}
use Rattle.judge.specs.Claims.{claim_on, record_for, stated_kind, stands_over, claim_read_lem, claim_well}
use Rattle.judge.specs.Records.{records_to, length_records}
use Rattle.judge.specs.Totals.{is_accepted, is_refuted, is_unjudged, count_to, totals_to, together, totals_word, totals_add_up, count_all}
use Rattle.judge.specs.Run.{Room, claim_at, record_at, code_at, admitted_on, admitted, refused_word, answer_on, buffer_on, answer_of, buffer_of}
use Rattle.judge.specs.Readback.{Fits, record_fits, records_back}
use Rattle.judge.specs.Inspector.{Asked, Says, claim_content, IsClaim, claim_curve, claim_x, ClaimJudged, Judged, Refused}

-- a record's code is exactly its verdict's
by_code : (v : Verdict) (count k : ℕ) → (record_with v count).code ≡ k → v ≡ verdict_by k (record_with v count)
by_code v count k e = sym (verdict-by v count) ∙ ap (λ (j : ℕ). verdict_by j (record_with v count)) e

-- a claim tries the ticks that its horizon asks for
tried_asked : (c : Claim) (n : ℕ) → (n < tried c) ↔ Asked c n
unfolding tried
tried_asked (equals op f g h) n = (λ lt. omega (arith, lt), λ le. omega (arith, le))
tried_asked (bounds δ t f g X) n = (λ lt. lt, λ lt. lt)

module _ (c : Claim) (well : WellFormedClaim c) where
  abbrev r : Record
  r = record_on c

  abbrev proper : Proper c
  proper = well_formed_proper c well

  -- a code says what its verdict says
  meant : {M : Type 0} (k : ℕ) (v : Verdict) → v ≡ verdict_by k r → (record_of c v).code ≡ k → (verdict c ≡ v) ↔ M → (r.code ≡ k) ↔ M
  unfolding record_on
  meant k v is code exact =
      (λ e. exact.0 (by_code (verdict c) _ k e ∙ sym is), λ m. ap (λ (w : Verdict). (record_of c w).code) (exact.1 m) ∙ code)

  named : (v : Verdict) → (verdict c ≡ v) ↔ Meaning c v
  named = verdict_exact c proper

  verdict-says : Says c r
  unfolding verdict_by record_on
  verdict-says = record {
    code_known = known (verdict c);
    code_1 = meant 1 accepted refl refl (accepted_exactly c proper);
    code_2 = meant 2 (refuted_at r.tick r.left r.right) refl refl (named _);
    code_3 = meant 3 refuted_by_rate refl refl (rate_exactly c proper);
    code_3_later = meant 3 refuted_by_rate refl refl (named _);
    code_4 = meant 4 not_least refl refl (named _);
    code_5 = meant 5 not_judged refl refl (named _);
    else_zero = zeros (verdict c);
    tried_all = all (verdict c) ((named (verdict c)).0 refl);
    tried_2 = at (verdict c);
    tried_5 = none_tried (verdict c);
  }
    where
      known : (v : Verdict) → (1 ≤ (record_of c v).code) × ((record_of c v).code ≤ 5)
      known accepted = (omega arith, omega arith)
      known (refuted_at tick left right) = (omega arith, omega arith)
      known refuted_by_rate = (omega arith, omega arith)
      known not_least = (omega arith, omega arith)
      known not_judged = (omega arith, omega arith)

      zeros : (v : Verdict) → ¬ ((record_of c v).code ≡ 2) → ((record_of c v).tick ≡ 0) × ((record_of c v).left ≡ 0) × ((record_of c v).right ≡ 0)
      zeros accepted other = (refl, refl, refl)
      zeros (refuted_at tick left right) other = absurd (other refl)
      zeros refuted_by_rate other = (refl, refl, refl)
      zeros not_least other = (refl, refl, refl)
      zeros not_judged other = (refl, refl, refl)

      all : (v : Verdict) → Meaning c v → ¬ ((record_of c v).code ≡ 2) → ¬ ((record_of c v).code ≡ 5)
          → (n : ℕ) → ((n < (record_of c v).tried) ↔ Asked c n) × (n < (record_of c v).tried → Rule c n)
      all accepted m other known n = (tried_asked c n, λ lt. m.1 n)
      all (refuted_at tick left right) m other known n = absurd (other refl)
      all refuted_by_rate m other known n = (tried_asked c n, m.1 n)
      all not_least m other known n = (tried_asked c n, λ lt. m.1 n)
      all not_judged m other known n = absurd (known refl)

      at : (v : Verdict) → (record_of c v).code ≡ 2 → (record_of c v).tried ≡ (record_of c v).tick + 1
      at accepted e = absurd (omega (arith, e))
      at (refuted_at tick left right) e = refl
      at refuted_by_rate e = absurd (omega (arith, e))
      at not_least e = absurd (omega (arith, e))
      at not_judged e = absurd (omega (arith, e))

      none_tried : (v : Verdict) → (record_of c v).code ≡ 5 → (record_of c v).tried ≡ 0
      none_tried accepted e = absurd (omega (arith, e))
      none_tried (refuted_at tick left right) e = absurd (omega (arith, e))
      none_tried refuted_by_rate e = absurd (omega (arith, e))
      none_tried not_least e = absurd (omega (arith, e))
      none_tried not_judged e = refl

-- two counts of which each tick is below one exactly when it is below the other
count_one : (a b : ℕ) → ((n : ℕ) → (n < a) ↔ (n < b)) → a ≡ b
count_one a b same =
    let up : b ≤ a = ltb-false a b (false_unless (ltb a b) (λ e. let lt : a < a = (same a).1 (ltb-true a b e) in omega (arith, lt))) in
    let down : a ≤ b = ltb-false b a (false_unless (ltb b a) (λ e. let lt : b < b = (same b).0 (ltb-true b a e) in omega (arith, lt))) in
    omega (arith, up, down)

-- what holds of each code
code_cases : (P : ℕ → Type 0) → P 1 → P 2 → P 3 → P 4 → P 5 → (k : ℕ) → 1 ≤ k → k ≤ 5 → P k
code_cases P one two three four five zero low high = absurd (omega (arith, low))
code_cases P one two three four five (suc zero) low high = one
code_cases P one two three four five (suc (suc zero)) low high = two
code_cases P one two three four five (suc (suc (suc zero))) low high = three
code_cases P one two three four five (suc (suc (suc (suc zero)))) low high = four
code_cases P one two three four five (suc (suc (suc (suc (suc zero))))) low high = five
code_cases P one two three four five (suc (suc (suc (suc (suc (suc k)))))) low high = absurd (omega (arith, high))

module _ (c : Claim) (well : WellFormedClaim c) (r : Record) (says : Says c r) where
  -- of codes 1, 3 and 4
  all_same : (v : Verdict) (k : ℕ) → r.code ≡ k → ¬ (k ≡ 2) → ¬ (k ≡ 5) → record { code = k; tick = 0; left = 0; right = 0; tried = tried c } ≡ record_of c v
      → verdict c ≡ v → r ≡ record_on c
  unfolding record_on
  all_same v k e two five is due =
      let zero-else = says.else_zero (λ at. two (sym e ∙ at)) in
      let asked = says.tried_all (λ at. two (sym e ∙ at)) (λ at. five (sym e ∙ at)) in
      let count : r.tried ≡ tried c =
      count_one r.tried (tried c) (λ n.
      let all = tried_asked c n in
      (λ lt. all.1 ((asked n).0.0 lt), λ lt. (asked n).0.1 (all.0 lt))) in
      (λ i. record { code = e i; tick = zero-else.0 i; left = zero-else.1 i; right = zero-else.2 i; tried = count i })
      ∙ is ∙ ap (record_of c) (sym due)

  says_record : r ≡ record_on c
  unfolding record_on
  says_record =
      code_cases (λ k. r.code ≡ k → r ≡ record_on c)
      (λ e. all_same accepted 1 e (λ x. omega (arith, x)) (λ x. omega (arith, x)) refl ((accepted_exactly c (proper c well)).1 (says.code_1.0 e)))
      (λ e.
      let at : verdict c ≡ refuted_at r.tick r.left r.right = (named c well _).1 (says.code_2.0 e) in
      (λ i. record { code = e i; tick = r.tick; left = r.left; right = r.right; tried = says.tried_2 e i }) ∙ ap (record_of c) (sym at))
      (λ e. all_same refuted_by_rate 3 e (λ x. omega (arith, x)) (λ x. omega (arith, x)) refl ((named c well _).1 (says.code_3_later.0 e)))
      (λ e. all_same not_least 4 e (λ x. omega (arith, x)) (λ x. omega (arith, x)) refl ((named c well _).1 (says.code_4.0 e)))
      (λ e.
      let zero-else = says.else_zero (λ two. omega (arith, e, two)) in
      (λ i. record { code = e i; tick = zero-else.0 i; left = zero-else.1 i; right = zero-else.2 i; tried = says.tried_5 e i })
      ∙ ap (record_of c) (sym ((named c well not_judged).1 (says.code_5.0 e))))
      r.code says.code_known.0 says.code_known.1 refl

pub says_one : (c : Claim) → WellFormedClaim c → (r r' : Record) → Says c r → Says c r' → r ≡ r'
says_one c well r r' says says' = says_record c well r says ∙ sym (says_record c well r' says')

-- a book is refused by one of document 01's numbers, at a place that fits the answer
number_fits : (x : Refusal) → (1 ≤ number_of x) × (number_of x ≤ 15)
unfolding number_of
number_fits Torn = (omega arith, omega arith)
number_fits UnknownTag = (omega arith, omega arith)
number_fits OutOfOrder = (omega arith, omega arith)
number_fits TooMany = (omega arith, omega arith)
number_fits WrongVersion = (omega arith, omega arith)
number_fits CurveLength = (omega arith, omega arith)
number_fits CurvePeriod = (omega arith, omega arith)
number_fits TooManyUnits = (omega arith, omega arith)
number_fits CurveFalls = (omega arith, omega arith)
number_fits WrongClaim = (omega arith, omega arith)
number_fits NoSuchCurve = (omega arith, omega arith)
number_fits TooLarge = (omega arith, omega arith)
number_fits WrongEnd = (omega arith, omega arith)
number_fits NoRoom = (omega arith, omega arith)
number_fits BookTooLong = (omega arith, omega arith)

-- what a buffer admits
module _ (s b : List ℕ) where
  Admits : Read → Type 0
  Admits (refused x p) = p ≤ max_bytes
  Admits (sound c) = (read_book s ≡ sound c) × Room b c

  admits : Admits (admitted s (length b))
  unfolding admitted Admits
  admits = go (read_book s) refl
    where
      go : (r : Read) → read_book s ≡ r → Admits (admitted_on r (length b))
      go (refused x p) e = (refused_inside s x p e).1
      go (sound c) e = room (ltb (length b) (record_size * length c.claims)) refl
        where
          room : (t : Bool) → ltb (length b) (record_size * length c.claims) ≡ t → Admits (elim t as (λ _. Read) [ true ↦ refused NoRoom 0 | false ↦ sound c ])
          room true short = omega arith
          room false enough = (e, ltb-false _ _ enough)

count_same : (p : ℕ → Bool) (f g : ℕ → ℕ) (n : ℕ) → ((k : ℕ) → k < n → f k ≡ g k) → count_to p f n ≡ count_to p g n
unfolding count_to
count_same p f g zero same = refl
count_same p f g (suc n) same = rw (count_same p f g n (λ k lt. same k (omega arith)), same n (omega arith))

module _ (s b : List ℕ) (c : Contents) (so : read_book s ≡ sound c) (room : Room b c) where
  abbrev claims : ℕ
  claims = length c.claims

  abbrev after : List ℕ
  after = put b 0 (records_to (record_at s c) claims)

  claim_judged : (k : ℕ) → k < claims → ClaimJudged s c k (record_at s c k) × Fits (record_at s c k)
  unfolding claim_at record_for
  claim_judged k lt =
      let over = stands_over s c (sound_book s c so) k lt in
      let claim : Claim = claim_on s c.curves over.stands.stated in
      let well : WellFormedClaim claim = claim_well over in
      let is : record_on claim ≡ record_at s c k = ap record_for (sym (claim_read_lem over)) in (
        record {
          claim = claim;
          is_claim = said (stated_kind _ _ _ over.stands.so);
          well_formed_lem = well;
          says = subst (Says claim) is (verdict-says claim well);
        },
        subst Fits is (record_fits claim well),
      )
    where
      said : {st : Stated} → (κ : Kind) × (kind_in (claim_content s c k) ≡ some κ) × (st ≡ stated_of κ (claim_in (claim_content s c k))) → IsClaim s c k (claim_on s c.curves st)
      said (κ, kind, e) = (κ, kind, ap (claim_on s c.curves) e)

  -- what is read from the buffer again
  pub record_back : (k : ℕ) → k < claims → record_in after k ≡ record_at s c k
  record_back k lt = records_back b (record_at s c) claims k lt (claim_judged k lt).1

  counts : (p : ℕ → Bool) → count_to p (code_at s c) claims ≡ count_to p (code_in after) claims
  counts p = count_same p (code_at s c) (code_in after) claims (λ k lt. ap (λ (r : Record). r.code) (sym (record_back k lt)))

  is_judged : Judged s b (totals_word (totals_to (code_at s c) claims)) after
  unfolding totals_to
  is_judged =
      let t = totals_to (code_at s c) claims in
      let all : together t ≡ claims = totals_add_up (claim_at s c) claims in
      let few : claims ≤ max_claims = (sound_book s c so).claims-fit in
      let size : length (records_to (record_at s c) claims) ≡ record_size * claims = length_records (record_at s c) claims in
      let end : 0 + length (records_to (record_at s c) claims) ≡ record_size * claims = omega (arith, size) in
      let parts = answer_parts 0 0 t.accepted t.refuted t.unjudged (omega arith) (omega arith) (omega (arith, all, few)) (omega (arith, all, few)) in
      record {
        contents = c;
        book_sound = so;
        room = room;
        no_refusal = (parts.0, parts.1);
        accepted_count = parts.2 ∙ counts is_accepted;
        refuted_count = parts.3 ∙ counts is_refuted;
        unjudged_count = parts.4 ∙ counts is_unjudged;
        add_up = rw (parts.2, parts.3, parts.4) all;
        each_claim = λ k lt. subst (ClaimJudged s c k) (sym (record_back k lt)) (claim_judged k lt).0;
        same_length = length-put b 0 (records_to (record_at s c) claims) (omega (arith, size, room));
        rest_stays = rw end at (drop-put b 0 (records_to (record_at s c) claims) (omega (arith, size, room)));
      }

module _ (s b : List ℕ) where
  is_refused : (x : Refusal) (p : ℕ) → admitted s (length b) ≡ refused x p → p ≤ max_bytes → Refused s b (refused_word x p) b
  is_refused x p e near =
      let fits = number_fits x in
      let parts = answer_parts (number_of x) p 0 0 0 (omega (arith, fits.1)) (omega (arith, near)) (omega arith) (omega arith) in
      record {
        refusal = x;
        place = p;
        book_refused = e;
        number_and_place = (parts.0, parts.1);
        is_refusal = λ none. omega (arith, none, parts.0, fits.0);
        no_totals = (parts.2, parts.3, parts.4);
        nothing_written = refl;
      }

  pub inspected : Judged s b (answer_of s b) (buffer_of s b) ⊎ Refused s b (answer_of s b) (buffer_of s b)
  unfolding answer_of buffer_of Admits
  inspected = go (admitted s (length b)) refl (admits s b)
    where
      go : (r : Read) → admitted s (length b) ≡ r → Admits s b r → Judged s b (answer_on s r) (buffer_on s b r) ⊎ Refused s b (answer_on s r) (buffer_on s b r)
      go (sound c) e (so, room) = inl (is_judged s b c so room)
      go (refused x p) e near = inr (is_refused x p e near)

-- what is judged is what the bytes say of the claim's kind
claim_of_lem : {s : List ℕ} {c : Contents} {k : ℕ} {r : Record} → (judged : ClaimJudged s c k r) (κ : Kind) → kind_in (claim_content s c k) ≡ some κ
    → judged.claim ≡ claim_on s c.curves (stated_of κ (claim_in (claim_content s c k)))
claim_of_lem {s} {c} {k} judged κ kind =
    let is : judged.is_claim.0 ≡ κ = cc judged.is_claim.1 in
    judged.is_claim.2 ∙ ap (λ (κ : Kind). claim_on s c.curves (stated_of κ (claim_in (claim_content s c k)))) is

-- kind 3, accepted: h(n) is the least f(u)+g(n-u), at every n
pub accepted_convolution : {s : List ℕ} {c : Contents} {k : ℕ} {r : Record} → ClaimJudged s c k r → kind_in (claim_content s c k) ≡ some (result convolution) → r.code ≡ 1
    → (n : ℕ)
    → ((u v : ℕ) → u + v ≡ n → value (claim_curve s c k 3) n ≤ value (claim_curve s c k 1) u + value (claim_curve s c k 2) v)
    × ((u : ℕ) × (v : ℕ) × (u + v ≡ n) × (value (claim_curve s c k 3) n ≡ value (claim_curve s c k 1) u + value (claim_curve s c k 2) v))
unfolding due
accepted_convolution {s} {c} {k} {r} judged kind code n =
    let f : Curve = claim_curve s c k 1 in
    let g : Curve = claim_curve s c k 2 in
    let h : Curve = claim_curve s c k 3 in
    let claim : judged.claim ≡ equals convolution f g h =
    claim_of_lem judged (result convolution) kind
    ∙ ap (λ (n : ℕ). equals convolution f g (curve_named s c.curves n)) (third_in (claim_content s c k) (result convolution) kind) in
    let says : Says (equals convolution f g h) r = subst (λ (x : Claim). Says x r) claim judged.says in
    let equal : value h n ≡ conv (value f) (value g) n = (says.code_1.0 code).1 n in
    let least = conv_attained (value f) (value g) n in
    (λ u v e. rw equal (conv_below (value f) (value g) n u v e), (least.0, least.1, least.2, equal ∙ least.3))

-- kinds 4 and 5: code 1 exactly when the horizon is within the limit and every tick has a least wait of at most X; for
-- kind 5, when that of some tick is X, too
pub accepted_delay : {s : List ℕ} {c : Contents} {k : ℕ} {r : Record} → ClaimJudged s c k r → (t : Tightness) → kind_in (claim_content s c k) ≡ some (bound delay t)
    → (r.code ≡ 1)
    ↔ ((horizon (bounds delay t (claim_curve s c k 1) (claim_curve s c k 2) (claim_x s c k)) ≤ max_horizon)
    × Delayed t (value (claim_curve s c k 1)) (value (claim_curve s c k 2)) (claim_x s c k))
accepted_delay {s} {c} {k} {r} judged t kind =
    let f : Curve = claim_curve s c k 1 in
    let g : Curve = claim_curve s c k 2 in
    let X : ℕ = claim_x s c k in
    let claim : judged.claim ≡ bounds delay t f g X =
    claim_of_lem judged (bound delay t) kind ∙ on-curves t ∙ ap (bounds delay t f g) (third_in (claim_content s c k) (bound delay t) kind) in
    let code = (subst (λ (x : Claim). Says x r) claim judged.says).code_1 in
    let well : WellFormed f × WellFormed g × (X ≤ max_x) = subst WellFormedClaim claim judged.well_formed_lem in
    let means = delay_means f g well.0.period_positive well.1.period_positive well.1.rises t X in
    (λ e. ((code.0 e).0, means.0 (code.0 e).1), λ m. code.1 (m.0, means.1 m.1))
  where
    on-curves : (t : Tightness)
        → claim_on s c.curves (stated_of (bound delay t) (claim_in (claim_content s c k)))
        ≡ bounds delay t (claim_curve s c k 1) (claim_curve s c k 2) (claim_in (claim_content s c k)).third
    on-curves at_most = refl
    on-curves exactly = refl

-- "yes exactly when there is at least one claim and all are accepted": each is within the limit and holds at every tick
pub certified_means : {s b : List ℕ} {a : ℕ} {after : List ℕ} → (judged : Judged s b a after)
    → (certified (claims_in a) (accepted_in a) ≡ true)
    ↔ ((1 ≤ length judged.contents.claims)
    × ((k : ℕ) (lt : k < length judged.contents.claims) → (horizon (judged.each_claim k lt).claim ≤ max_horizon) × Claimed (judged.each_claim k lt).claim))
certified_means {a = a} {after = after} judged =
    let claims : ℕ = length judged.contents.claims in
    let tests = both_true (leb 1 (claims_in a)) (eqb (accepted_in a) (claims_in a)) in
    let all = count_all is_accepted (code_in after) claims in
    let some-claim : 1 ≤ claims → 1 ≤ claims_in a = λ le. omega (arith, le, judged.add_up) in (
      λ e. (
        rw (← judged.add_up) (leb-true 1 (claims_in a) (tests.0 e).0),
        λ k lt.
            (judged.each_claim k lt).says.code_1.0
            (eqb-true _ _ (all.0 (sym judged.accepted_count ∙ eqb-true _ _ (tests.0 e).1 ∙ judged.add_up) k lt)),
      ),
      λ w. tests.1 (
        le-leb 1 (claims_in a) (some-claim w.0),
        eq-eqb (accepted_in a) (claims_in a) (judged.accepted_count ∙ all.1 (λ k lt. eq-eqb _ _ ((judged.each_claim k lt).says.code_1.1 (w.1 k lt))) ∙ sym judged.add_up),
      ),
    )
