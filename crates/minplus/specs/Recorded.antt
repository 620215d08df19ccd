-- What a record tells of its verdict.
--
--     verdict_by code r     the verdict of a record with this code (verdict-by)
--     record_one            no two verdicts have the same record, whatever the ticks tried
use Rattle.std.specs.Prelude.{ℕ, ◌≡◌, refl, true, false, eqb}
use Rattle.std.proofs.Common.{sym, ap, ◌∙◌}
use Rattle.minplus.specs.Verdict.{Record, Verdict, accepted, not_judged, not_least, record_with, refuted_at, refuted_by_rate}

unfoldable pub verdict_by : ℕ → Record → Verdict
verdict_by code r =
    elim (eqb code 1) [
      | true ↦ accepted
      | false ↦
          elim (eqb code 2) [
            | true ↦ refuted_at r.tick r.left r.right
            | false ↦ elim (eqb code 3) [ true ↦ refuted_by_rate | false ↦ elim (eqb code 4) [ true ↦ not_least | false ↦ not_judged ] ]
          ]
    ]

pub verdict-by : (v : Verdict) (count : ℕ) → verdict_by (record_with v count).code (record_with v count) ≡ v
unfolding verdict_by record_with
verdict-by accepted count = refl
verdict-by (refuted_at tick left right) count = refl
verdict-by refuted_by_rate count = refl
verdict-by not_least count = refl
verdict-by not_judged count = refl

pub record_one : (v w : Verdict) (count count' : ℕ) → record_with v count ≡ record_with w count' → v ≡ w
record_one v w count count' e = sym (verdict-by v count) ∙ ap (λ (r : Record). verdict_by r.code r) e ∙ verdict-by w count'
