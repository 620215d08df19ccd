-- What an answer of the code says of every tick.
--
--     judged_exact        an answer that the contract of verdict_on allows is the record of v exactly when Meaning says
--                         so of v
--     is_record           it is the record of minplus, on a well-formed claim
--     judged_accepted     it is "accepted" exactly when the horizon is within the limit and the claim holds at every
--                         tick, without end
--
-- The hypotheses are met by every answer of verdict_on, whose contract the second one is, on a claim that keeps
-- document 01's limits.
use Rattle.std.specs.Prelude.{◌≡◌, ◌↔◌, ◌≤◌, Result}
use Rattle.std.proofs.Common.{sym, ◌∙◌}
use Rattle.std.proofs.Math.Path.{ap}
use Rattle.std.proofs.Math.Option.{some}
use Rattle.minplus.specs.Claim.{Claim, Claimed, WellFormedClaim, well_formed_claim_lem}
use Rattle.minplus.specs.Horizon.{horizon, max_horizon}
use Rattle.minplus.specs.Verdict as C
use Rattle.minplus.specs.Verdict.{record_of, record_on}
use Rattle.minplus.specs.Recorded.{record_one}
use Rattle.minplus.specs.Meaning.{Meaning, well_formed_proper}
use Rattle.minplus.proofs.Exact.{verdict_exact, accepted_exactly}
use Rattle.limits.specs.declared.IllFormed.{IllFormed}
use Rattle.verdict.specs.declared.Decided.{Decided}
use Rattle.verdict.specs.Given.{judged_of, judgement, judgement_some}

-- what the code may answer on a well-formed claim is the record of its verdict
module _ (r : Result Decided IllFormed) (c : Claim) (well : WellFormedClaim c) (meets : judged_of r ≡ judgement c) where
  pub is_record : judged_of r ≡ some (record_on c)
  is_record = meets ∙ sym (judgement_some c ((well_formed_claim_lem c).1 well))

  the_verdict : (v : C.Verdict) → (judged_of r ≡ some (record_of c v)) ↔ (C.verdict c ≡ v)
  unfolding record_on
  the_verdict v = (
    λ e. let same : record_on c ≡ record_of c v = cc is_record in record_one _ _ _ _ same,
    λ e. is_record ∙ ap (λ (w : C.Verdict). some (record_of c w)) e,
  )

  pub judged_exact : (v : C.Verdict) → (judged_of r ≡ some (record_of c v)) ↔ Meaning c v
  judged_exact v =
      let exact = verdict_exact c (well_formed_proper c well) v in
      (λ e. exact.0 ((the_verdict v).0 e), λ m. (the_verdict v).1 (exact.1 m))

  pub judged_accepted : (judged_of r ≡ some (record_of c C.accepted)) ↔ ((horizon c ≤ max_horizon) × Claimed c)
  judged_accepted =
      let exact = accepted_exactly c (well_formed_proper c well) in
      (λ e. exact.0 ((the_verdict C.accepted).0 e), λ m. (the_verdict C.accepted).1 (exact.1 m))
