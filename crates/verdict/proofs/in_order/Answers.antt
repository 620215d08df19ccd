use Rattle.std.specs.Prelude.{Option}
use mathlib.Core.Path.{◌≡◌, sym, ap, ◌∙◌}
use Prim.Native.Nat.{◌≤◌}
use native.Mathlib.Omega.{arith}
use Rattle.minplus.specs.Claim.{Claim}
use Rattle.minplus.specs.Horizon.{horizon, max_horizon}
use Rattle.minplus.specs.Verdict as C
use Rattle.minplus.specs.Verdict.{record_on, record_with}
use Rattle.search.specs.declared.Compared.{Compared}
use Rattle.search.specs.declared.Break.{Break}
use Rattle.search.specs.Break.{break_of}
use Rattle.verdict.specs.Given.{later_asked, ordered, record_near}
use Rattle.verdict.proofs.in_order.Goals as goal

-- where the search is done
recorded : (claim : Claim) (compared : Compared) (found : Option Break) → horizon claim ≤ max_horizon → compared.found ≡ found → compared ≡ break_of claim
    → record_with (ordered found claim) compared.ticks.0 ≡ record_on claim
recorded claim compared found few is e =
    ap (λ (x : Option Break). record_with (ordered x claim) compared.ticks.0) (sym is)
    ∙ record_near claim few e

pub returns-in-Some : goal.returns-in-Some
returns-in-Some c =
    let j = c.requires.judgeable in
    recorded _ c.first_break-compared.result _ (omega (arith, j.is_horizon, j.within)) c.in-Some.is c.first_break-compared.ensures

pub later_code-verdict-requires : goal.later_code-verdict-requires
later_code-verdict-requires c = later_asked c.args.claim c.requires.judgeable

pub returns : goal.returns
returns c =
    let j = c.requires.judgeable in
    let compared = c.first_break-compared.result in
    ap (λ (v : C.Verdict). record_with v compared.ticks.0) (c.later_code-verdict.ensures _)
    ∙ recorded _ compared _ (omega (arith, j.is_horizon, j.within)) c.in_default.is c.first_break-compared.ensures
