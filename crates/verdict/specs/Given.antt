-- What the code answers, in the words of the crate minplus.
--
--     verdict_of, numbers_of   the verdict, and the numbers of a record
--     decided_of               the record of a verdict and the ticks tried for it; no two of the code's have the same
--                              one (decided_one)
--     judged_of                the answer on a claim: such a record, or none
--     judgement                what it has to be: none for a claim that is not well formed (judgement_none), else its
--                              record (judgement_some)
--     record_far               which is "not judged" beyond the limit, with no tick tried,
--     ordered, record_near     and within it goes by what the tests find, in the order of the codes, with as many ticks
--                              as the search has compared
--     later_code               the codes after the first break (later_is); IsLater, LaterAsked: of two curves, and what
--                              they ask (later_asked)
use Rattle.std.specs.Prelude.{ℕ, ◌≤◌, ◌<◌, ◌≡◌, refl, Bool, true, false, Result, Ok, Err, Some, None}
use Rattle.std.proofs.Common.{sym, ap, ap₂, ◌∙◌, lt-ltb, le-ltb}
use Rattle.std.specs.Prelude as code_option
use Rattle.std.proofs.Math.Option.{Option, none, some}
use Rattle.minplus.specs.Curve.{Curve}
use Rattle.minplus.specs.Claim.{Claim, well_formed_claim}
use Rattle.minplus.specs.Horizon.{horizon, max_horizon}
use Rattle.minplus.specs.Verdict as C
use Rattle.minplus.specs.Verdict.{accepted, by_rate, codes_in_order, first_break, left_at, less_holds, not_judged, not_least, record_of, record_on, record_with, refuted_at, refuted_by_rate, right_at, tried, verdict}
use Rattle.minplus.specs.Recorded.{verdict_by}
use Rattle.curve.specs.declared.Ticks.{Ticks}
use Rattle.curve.specs.declared.Claim as code
use Rattle.curve.specs.declared.Claim.TheVariants.{Equals, AtMost, Exactly}
use Rattle.curve.specs.Steps.{Steps, curve_from}
use Rattle.curve.specs.Claimed.{claim_over}
use Rattle.verdict.specs.declared.Verdict.{Verdict}
use Rattle.verdict.specs.declared.Verdict.TheVariants.{Accepted, RefutedAt, RefutedByRate, NotLeast, NotJudged}
use Rattle.verdict.specs.declared.Decided.{Decided}
use Rattle.limits.specs.declared.IllFormed.{IllFormed}
use Rattle.verdict.specs.declared.Record.{Record}
use Rattle.search.specs.declared.Compared.{Compared}
use Rattle.search.specs.declared.Break.{Break}
use Rattle.search.specs.Found.{compared_from, compared_of}
use Rattle.search.specs.Break.{Judgeable, LessAsked, break_of}
use Rattle.verdict.specs.Codes.{number_of}

abbrev pub verdict_of : Verdict → C.Verdict
verdict_of Accepted = accepted
verdict_of (RefutedAt broken) = refuted_at broken.tick.0 broken.left.0 broken.right.0
verdict_of RefutedByRate = refuted_by_rate
verdict_of NotLeast = not_least
verdict_of NotJudged = not_judged

abbrev pub numbers_of : Record → C.Record
numbers_of r = record { code = number_of r.code; tick = r.tick.0; left = r.left.0; right = r.right.0; tried = r.tried.0 }

abbrev pub decided_of : Decided → C.Record
decided_of d = record_with (verdict_of d.verdict) d.tried.0

abbrev pub judged_of : Result Decided IllFormed → Option C.Record
judged_of (Ok d) = some (decided_of d)
judged_of (Err e) = none

unfoldable pub judgement : Claim → Option C.Record
unfolding well_formed_claim record_on
judgement c = elim (well_formed_claim c) [ true ↦ some (record_on c) | false ↦ none ]

-- where no tried tick breaks the rule
abbrev pub later_code : Claim → C.Verdict
later_code c = codes_in_order c false none (by_rate c) (less_holds c)

-- the claimed curve of kinds 1 to 3 has no part in them
abbrev pub IsLater : C.Verdict → code.Claim → Curve → Curve → Type 0
IsLater v claim f g = (h : Curve) → v ≡ later_code (claim_over claim f g h)

-- kinds 5 and 7 alone ask for anything: whether X-1 is a bound
abbrev pub LaterAsked : code.Claim → Curve → Curve → ℕ → Type 0
LaterAsked (Equals o) f g at = Unit {0}
LaterAsked (AtMost x) f g at = Unit {0}
LaterAsked (Exactly x) f g at = LessAsked x f g at

abbrev pub ordered : code_option.Option Break → Claim → C.Verdict
ordered (Some broken) c = refuted_at broken.tick.0 broken.left.0 broken.right.0
ordered None c = later_code c

-- ---- laws

undecided : C.Record → Decided
undecided r = record { verdict = go (verdict_by r.code r); tried = record { 0 = r.tried } }
  where
    go : C.Verdict → Verdict
    go accepted = Accepted
    go (refuted_at tick left right) = RefutedAt (record { tick = record { 0 = tick }; left = record { 0 = left }; right = record { 0 = right } })
    go refuted_by_rate = RefutedByRate
    go not_least = NotLeast
    go not_judged = NotJudged

pub decided_one : (d e : Decided) → decided_of d ≡ decided_of e → d ≡ e
unfolding undecided verdict_by record_with
decided_one d e same = sym (back d.verdict d.tried) ∙ ap undecided same ∙ back e.verdict e.tried
  where
    back : (v : Verdict) (n : Ticks) → undecided (decided_of (record { verdict = v; tried = n })) ≡ record { verdict = v; tried = n }
    back Accepted n = refl
    back (RefutedAt broken) n = refl
    back RefutedByRate n = refl
    back NotLeast n = refl
    back NotJudged n = refl

pub judgement_none : (c : Claim) → well_formed_claim c ≡ false → none ≡ judgement c
unfolding judgement
judgement_none c e = rw (e, judgement)

pub judgement_some : (c : Claim) → well_formed_claim c ≡ true → some (record_on c) ≡ judgement c
unfolding judgement
judgement_some c e = rw (e, judgement)

pub record_far : (c : Claim) → max_horizon < horizon c → record_with not_judged 0 ≡ record_on c
unfolding record_on
record_far c far = rw (lt-ltb max_horizon (horizon c) far)

pub record_near : (c : Claim) → horizon c ≤ max_horizon → {compared : Compared} → compared ≡ break_of c
    → record_with (ordered compared.found c) compared.ticks.0 ≡ record_on c
unfolding record_on compared_of
record_near c near e = rw (e, le-ltb max_horizon (horizon c) near) (go (first_break c))
  where
    -- of none of these codes the count depends on which it is
    by_tests : (rate less : Bool) → let v = codes_in_order c false none rate less in record_with v (tried c) ≡ record_of c v
    by_tests true less = refl
    by_tests false true = refl
    by_tests false false = refl

    go : (o : Option ℕ)
        → (let x = compared_from (left_at c) (right_at c) (tried c) o in record_with (ordered x.found c) x.ticks.0 ≡ record_of c (codes_in_order c false o (by_rate c) (less_holds c)))
    go (some n) = refl
    go none = by_tests (by_rate c) (less_holds c)

-- from what the tests on the way found; a test that is not reached is handed on as it stands
pub later_is : (c : Claim) (rate less : Bool) → rate ≡ by_rate c → less ≡ less_holds c → codes_in_order c false none rate less ≡ later_code c
later_is c rate less e e' = ap₂ (codes_in_order c false none) e e'

pub later_asked : (c : code.Claim) {f g h : Steps} {at : ℕ} → Judgeable c f g h at → LaterAsked c (curve_from f) (curve_from g) at
later_asked (Equals o) j = tt
later_asked (AtMost x) j = tt
later_asked (Exactly x) j = record { x_fits = j.third; is_horizon = j.is_horizon; within = j.within }
