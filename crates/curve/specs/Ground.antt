-- Forms of document 01's curves, computed: A is 0 4 | 5 6 .., B is 0 0 0 | 2 4 .., S is 2 2 2 | 4 4 4 ...
--
--     form_A, form_B, form_S     their first values and rises; the last one is the seam's
--     forms_met                  each is a good form, so that the hypotheses of Rises.antt and Stepped.antt can be met
--     ground_values              W1, and a value at the largest tick that can be asked, by rises and by whole periods
--     vendor-told, fall_told, open_told     what falls at the seam or in its list, and rises that do not close, are no
--                                curve's
use Rattle.std.specs.Prelude.{◌≡◌, refl, false, [], ◌∷◌}
use Rattle.minplus.specs.Curve.{Curve, well_formed, well_formed_lem}
use Rattle.minplus.specs.Ground.{A, B, vendor}
use Rattle.curve.specs.Filled.{list_of}
use Rattle.curve.specs.Steps.{Good, curve_from, listed_from, stepped, value_by}
use Rattle.curve.specs.Rises.{rise, next_of, steps_of, steps_good}

abbrev S : Curve
S = record { rank = 0; period = 3; increment = 2; listed = 2 ∷ 2 ∷ 2 ∷ [] }

pub form_A : steps_of A ≡ record { rank = 1; period = 1; increment = 1; first = 0; rises = 4 ∷ 1 ∷ [] }
unfolding A list_of rise next_of
form_A = refl

pub form_B : steps_of B ≡ record { rank = 2; period = 1; increment = 2; first = 0; rises = 0 ∷ 0 ∷ 2 ∷ [] }
unfolding B list_of rise next_of
form_B = refl

pub form_S : steps_of S ≡ record { rank = 0; period = 3; increment = 2; first = 2; rises = 0 ∷ 0 ∷ 2 ∷ [] }
unfolding list_of rise next_of
form_S = refl

pub forms_met : Good (steps_of A) × Good (steps_of B) × Good (steps_of S)
unfolding A B well_formed
forms_met = (steps_good A ((well_formed_lem A).0 refl), steps_good B ((well_formed_lem B).0 refl), steps_good S ((well_formed_lem S).0 refl))

pub ground_values : (stepped (steps_of A) 5 ≡ 8) × (stepped (steps_of B) 5 ≡ 6) × (stepped (steps_of S) 7 ≡ 6)
    × (value_by (steps_of A) 2_000_000_000 ≡ 2_000_000_003) × (value_by (steps_of S) 2_000_000_000 ≡ 1_333_333_334)
unfolding A B stepped value_by list_of rise next_of
ground_values = (refl, refl, refl, refl, refl)

-- document 02's vendor: 0 10 | 1 11 ..
pub vendor-told : well_formed (curve_from (steps_of vendor)) ≡ false
unfolding vendor well_formed listed_from list_of rise next_of
vendor-told = refl

-- before the rank, where a period adds up to c all the same
pub fall_told : well_formed (curve_from (steps_of (record { rank = 2; period = 1; increment = 1; listed = 5 ∷ 4 ∷ 4 ∷ [] }))) ≡ false
unfolding well_formed listed_from list_of rise next_of
fall_told = refl

-- A's numbers with a seam's rise that is not c
pub open_told : well_formed (curve_from (record { rank = 1; period = 1; increment = 1; first = 0; rises = 4 ∷ 2 ∷ [] })) ≡ false
unfolding well_formed listed_from
open_told = refl
