-- The curve that the code's values stand for.
--
--     held_as, steps_of, steps_in  numbers and an array of rises as a form; those of a curve as it is lent; of a struct
--     curve_of                     its curve. What stands in the array from T+d on counts for nothing (form_same)
--     rates_of                     a curve of a form's numbers that lists nothing: rates depend on no value
--     held_over, form_over         a curve with its rises in the place of its values, and its other numbers
--     padded, holding              a list in the working array (padded-listed: F(0) to F(k-1)), and a curve in the
--                                  working copy
--     held_count, rises_into       how many rises of a form count, and these over the front of a list
--     holding-length               of any curve, what is held fills the working array
--     holding_back                 of a well-formed curve, what is held is that curve
--     holding_tells                of T+d values, what is held is well formed exactly when they are
use Prim.Native.Nat.{ℕ, ◌+◌, ◌≤◌, ◌<◌, min}
use Rattle.std.specs.Prelude.{◌≡◌, ◌↔◌}
use Rattle.std.proofs.Common.{sym, ◌∙◌, subst, arith}
use Rattle.std.proofs.Math.Path.{ap}
use Rattle.std.proofs.Math.Bool.{true, false}
use mathlib.Core.List.{List, []}
use Rattle.std.proofs.Math.ListN.{length, get_or}
use Rattle.std.proofs.Math.Seq.{paste}
use Rattle.minplus.specs.Curve as C
use Rattle.minplus.specs.Curve.{count, listed_at}
use Rattle.curve.specs.declared.Curve.{Curve}
use Rattle.curve.specs.declared.Form.{Form}
use Rattle.curve.specs.declared.Held.{Held}
use Rattle.curve.specs.Filled.{list_of, filled, length-list_of, list_of_at, list_of_same, filled-length, filled_at, filled_same, over_at, over-length}
use Rattle.curve.specs.Steps.{Steps, reached, risen_to, closes, listed_from, curve_from, sum_same}
use Rattle.curve.specs.Rises as R
use Rattle.curve.specs.Rises.{rise_of, rises_over, rise_same, steps_back, steps_tell}

abbrev pub held_as : Form → List ℕ → Steps
held_as form rises = record { rank = form.rank.0; period = form.period.0; increment = form.increment; first = form.first; rises = rises }

abbrev pub steps_of : Held → Steps
steps_of f = held_as f.form f.rises.now

abbrev pub rates_of : Form → C.Curve
rates_of form = record { rank = form.rank.0; period = form.period.0; increment = form.increment; listed = [] }

abbrev pub steps_in : Curve → Steps
steps_in f = held_as f.form f.rises

abbrev pub curve_of : Curve → C.Curve
curve_of f = curve_from (steps_in f)

-- what is held of a curve beside its rises
abbrev pub form_over : C.Curve → Form
form_over f = record { rank = record { 0 = f.rank }; period = record { 0 = f.period }; increment = f.increment; first = listed_at f 0 }

-- with its rises in the place of its values
abbrev pub held_over : C.Curve → Curve
held_over f = record { form = form_over f; rises = rises_over f }

-- a list in the working array, which starts as 0: as much of it as there is room for
abbrev pub padded : List ℕ → List ℕ
padded l = filled (λ n. get_or l n 0) C.max_listed (min (length l) C.max_listed)

abbrev pub holding : C.Curve → Curve
holding f = held_over (record { rank = f.rank; period = f.period; increment = f.increment; listed = padded f.listed })

-- how many rises of a form count, and have room in the working array
abbrev pub held_count : Form → ℕ
held_count form = min (form.rank.0 + form.period.0) C.max_listed

-- those of a curve in its working copy, over the front of a list, as far as it has room
abbrev pub rises_into : List ℕ → Curve → List ℕ
rises_into s f = paste s 0 f.rises (min (held_count f.form) (length s))

-- ---- laws

module _ (form : Form) (l l' : List ℕ) (same : (n : ℕ) → n < form.rank.0 + form.period.0 → get_or l n 0 ≡ get_or l' n 0) where
  reached_same : (n : ℕ) → n ≤ form.rank.0 + form.period.0 → reached (held_as form l) n ≡ reached (held_as form l') n
  unfolding risen_to
  reached_same n le = ap (λ (x : ℕ). form.first + x) (sum_same (λ i. get_or l i 0) (λ i. get_or l' i 0) n (λ i lt. same i (omega arith)))

  closes_same : closes (held_as form l) ≡ closes (held_as form l')
  unfolding closes
  closes_same =
      let T : ℕ = form.rank.0 in
      rw (sum_same (λ i. get_or l (T + i) 0) (λ i. get_or l' (T + i) 0) form.period.0 (λ i lt. same (T + i) (omega arith)))

  pub form_same : curve_from (held_as form l) ≡ curve_from (held_as form l')
  unfolding listed_from
  form_same =
      ap (λ (x : List ℕ). record { rank = form.rank.0; period = form.period.0; increment = form.increment; listed = x })
      (λ i. elim (closes_same i) as (λ _. List ℕ) [
        | true ↦ list_of_same (reached (held_as form l)) (reached (held_as form l')) (form.rank.0 + form.period.0) (λ n lt. reached_same n (omega arith)) i
        | false ↦ []
      ])

pub padded-listed : (F : ℕ → ℕ) (k : ℕ) → padded (list_of F k) ≡ filled F C.max_listed (min k C.max_listed)
padded-listed F k =
    rw (length-list_of F k)
    (filled_same (λ n. get_or (list_of F k) n 0) F C.max_listed (min k C.max_listed) (λ n lt. list_of_at F k n (omega arith)))

module _ (f : C.Curve) where
  -- of T+d values that have room
  holding_form : 1 ≤ f.period → length f.listed ≡ count f → count f ≤ C.max_listed → curve_of (holding f) ≡ curve_from (R.steps_of f)
  holding_form positive whole fits =
      let array : List ℕ = padded f.listed in
      let g : C.Curve = record { rank = f.rank; period = f.period; increment = f.increment; listed = array } in
      let stored : min (length f.listed) C.max_listed ≡ count f = omega (arith, whole, fits) in
      let room : length array ≡ C.max_listed = filled-length (λ n. get_or f.listed n 0) C.max_listed (min (length f.listed) C.max_listed) (omega arith) in
      let same : (k : ℕ) → k < count f → get_or array k 0 ≡ get_or f.listed k 0 =
      λ k lt. filled_at (λ n. get_or f.listed n 0) C.max_listed (min (length f.listed) C.max_listed) k (omega (arith, stored)) in
      ap (λ (v : ℕ). curve_from (record { rank = f.rank; period = f.period; increment = f.increment; first = v; rises = rises_over g }))
      (same 0 (omega arith))
      ∙ form_same (record { rank = record { 0 = f.rank }; period = record { 0 = f.period }; increment = f.increment; first = listed_at f 0 })
      (rises_over g) (R.steps_of f).rises
      (λ n lt.
      over_at (rise_of g) (min (count f) (length array)) array n (omega (arith, room, fits))
      ∙ rise_same f.rank f.period f.increment array f.listed positive same n lt ∙ sym (list_of_at (rise_of f) (count f) n lt))

  -- what is held of any curve fills the working array
  pub holding-length : length (holding f).rises ≡ C.max_listed
  holding-length =
      let array : List ℕ = padded f.listed in
      let room : length array ≡ C.max_listed = filled-length (λ n. get_or f.listed n 0) C.max_listed (min (length f.listed) C.max_listed) (omega arith) in
      over-length (rise_of (record { rank = f.rank; period = f.period; increment = f.increment; listed = array })) (min (count f) (length array)) array (omega arith) ∙ room

  pub holding_back : C.WellFormed f → curve_of (holding f) ≡ f
  holding_back w = holding_form w.period_positive w.listed_whole w.count_fits ∙ steps_back f w

  pub holding_tells : length f.listed ≡ count f → C.WellFormed (curve_of (holding f)) ↔ C.WellFormed f
  holding_tells whole = (
    λ w.
        let form = holding_form w.period_positive whole w.count_fits in
        subst C.WellFormed (form ∙ steps_tell f whole (subst C.WellFormed form w)) w,
    λ w. subst C.WellFormed (sym (holding_back w)) w,
  )
