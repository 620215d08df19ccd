-- The form of a curve: its first value and its rises. Each T, d, c and list has exactly one.
--
--     rise a b                  from a up to b. A fall has no rise: the largest number of 32 bits stands there, and no
--                               curve that is well formed has such a rise (rise_falls, rise_holds)
--     next_of, rise_of, steps_of     what comes after a listed value, the rise to it, and the form of a curve
--                               (next_inside, next_last)
--     rise_within, after_last   the same of a list that may lack values, and what comes after its last one
--                               (after_missing, after_seam)
--     rises_over                the rises in the place of the values (rises-last)
--     rise_same                 the same T+d values have the same rises
--     steps_back                a well-formed curve is the curve of its form,
--     steps_good                which is a good one
--     steps_tell                and T+d values that are not well formed have not the form of a curve that is
--     good_back, good_one       a good form is the form of its curve, and two good forms of one curve are one
use Prim.Native.Nat.{ℕ, zero, suc, ◌+◌, ◌-◌, ◌≤◌, ◌<◌, min}
use Rattle.std.specs.Prelude.{◌≡◌, refl, Bool, true, false, List, length, get_or, set, ltb}
use Rattle.std.proofs.Common.{sym, ap₂, ◌∙◌, subst, ext_get_or, lt-ltb, le-ltb, ltb-false}
use Rattle.std.proofs.Math.Path.{ap}
use native.Mathlib.Omega.{arith}
use Rattle.std.proofs.Math.Decide.{dec_le}
use Rattle.std.proofs.Math.ListN.{get_or-eq_default}
use Rattle.minplus.specs.Curve as C
use Rattle.minplus.specs.Curve.{listed_at, count, WellFormed, max_units}
use Rattle.curve.specs.Filled.{list_of, over, length-list_of, list_of_at, over-more, over_same}
use Rattle.curve.specs.Steps.{Steps, step_count, rise_in, reached, risen_to, closes, listed_from, curve_from, largest, Good, sum_to, reached-next, close_sum, sum-closes, closed_listed, listed-reached, well_closes}

unfoldable pub rise : ℕ → ℕ → ℕ
rise before after = elim (ltb after before) [ true ↦ largest | false ↦ min (after - before) largest ]

-- what comes after the n-th listed value: the next one, and f(T)+c after the last
unfoldable pub next_of : C.Curve → ℕ → ℕ
next_of f n = elim (ltb (suc n) (count f)) [ true ↦ listed_at f (suc n) | false ↦ listed_at f f.rank + f.increment ]

abbrev pub rise_of : C.Curve → ℕ → ℕ
rise_of f n = rise (listed_at f n) (next_of f n)

abbrev pub steps_of : C.Curve → Steps
steps_of f = record { rank = f.rank; period = f.period; increment = f.increment; first = listed_at f 0; rises = list_of (rise_of f) (count f) }

-- the rises from each listed value to the next, and what comes after the last one that there is
abbrev pub rise_within : List ℕ → ℕ → ℕ
rise_within l n = rise (get_or l n 0) (get_or l (suc n) 0)

unfoldable pub after_last : C.Curve → ℕ
after_last f = elim (ltb (length f.listed) (count f)) [ true ↦ 0 | false ↦ listed_at f f.rank + f.increment ]

-- in the place of as many listed values as there are
abbrev pub rises_over : C.Curve → List ℕ
rises_over f = over (rise_of f) (min (count f) (length f.listed)) f.listed

-- ---- laws

pub rise_falls : (a b : ℕ) → b < a → rise a b ≡ largest
unfolding rise
rise_falls a b lt = rw (lt-ltb b a lt, rise)

pub rise_holds : (a b : ℕ) → a ≤ b → rise a b ≡ min (b - a) largest
unfolding rise
rise_holds a b le = rw (le-ltb b a le, rise)

rise_up : (a b : ℕ) → a ≤ b → b ≤ max_units + max_units → a + rise a b ≡ b
rise_up a b le near = omega (arith, rise_holds a b le)

pub next_inside : (f : C.Curve) (n : ℕ) → suc n < count f → next_of f n ≡ listed_at f (suc n)
unfolding next_of
next_inside f n lt = rw (lt-ltb (suc n) (count f) lt, next_of)

pub next_last : (f : C.Curve) (n : ℕ) → count f ≤ suc n → next_of f n ≡ listed_at f f.rank + f.increment
unfolding next_of
next_last f n past = rw (le-ltb (suc n) (count f) past, next_of)

-- where each rise leads from a listed value to the next, the form has the list; and where the rises close, the curve
module _ (f : C.Curve) (lead : (n : ℕ) → suc n < count f → listed_at f n + rise_in (steps_of f) n ≡ listed_at f (suc n)) where
  led_listed : (n : ℕ) → n < count f → reached (steps_of f) n ≡ listed_at f n
  unfolding risen_to
  led_listed zero lt = omega arith
  led_listed (suc n) lt =
      reached-next (steps_of f) n ∙ ap (λ (x : ℕ). x + rise_in (steps_of f) n) (led_listed n (omega arith)) ∙ lead n lt

  led_back : length f.listed ≡ count f → closes (steps_of f) ≡ true → curve_from (steps_of f) ≡ f
  led_back whole closed =
      ap (λ (l : List ℕ). record { rank = f.rank; period = f.period; increment = f.increment; listed = l })
      (ext_get_or 0 (listed_from (steps_of f)) f.listed (long ∙ sym whole)
      (λ n lt. listed-reached (steps_of f) closed n (omega (arith, lt, long)) ∙ led_listed n (omega (arith, lt, long))))
    where
      long : length (listed_from (steps_of f)) ≡ count f
      long = ap length (closed_listed (steps_of f) closed) ∙ length-list_of (reached (steps_of f)) (count f)

module _ (f : C.Curve) (w : WellFormed f) where
  rank_inside : f.rank < count f
  rank_inside = omega (arith, w.period_positive)

  -- the value after a listed one is not below it, nor above twice the limit
  next-rises : (n : ℕ) → n < count f → (listed_at f n ≤ next_of f n) × (next_of f n ≤ max_units + max_units)
  next-rises n lt = elim (dec_le (suc (suc n)) (count f)) [
    | yes inside ↦ (
      omega (arith, next_inside f n inside, w.rises.listed-rise n (omega (arith, inside))),
      omega (arith, next_inside f n inside, w.values_fit_lem (suc n) inside),
    )
    | no last ↦
        let e : suc n ≡ count f = omega (arith, lt, last) in
        let here : n ≡ count f - 1 = omega (arith, e) in (
          omega (arith, next_last f n (omega (arith, e)), ap (listed_at f) here, w.rises.seam_holds_lem),
          omega (arith, next_last f n (omega (arith, e)), w.increment_fits, w.values_fit_lem f.rank rank_inside),
        )
  ]

  -- each rise leads from a listed value to what comes after it
  next-reached : (n : ℕ) → n < count f → listed_at f n + rise_in (steps_of f) n ≡ next_of f n
  next-reached n lt =
      ap (λ (x : ℕ). listed_at f n + x) (list_of_at (rise_of f) (count f) n lt)
      ∙ rise_up (listed_at f n) (next_of f n) (next-rises n lt).0 (next-rises n lt).1

  inside_reached : (n : ℕ) → suc n < count f → listed_at f n + rise_in (steps_of f) n ≡ listed_at f (suc n)
  inside_reached n lt = next-reached n (omega (arith, lt)) ∙ next_inside f n lt

  reached-listed : (n : ℕ) → n < count f → reached (steps_of f) n ≡ listed_at f n
  reached-listed = led_listed f inside_reached

  steps_close : closes (steps_of f) ≡ true
  steps_close =
      let last : ℕ = count f - 1 in
      let inside : last < count f = omega (arith, w.period_positive) in
      let e : count f ≡ suc last = omega (arith, w.period_positive) in
      sum-closes (steps_of f)
      (ap (reached (steps_of f)) e ∙ reached-next (steps_of f) last
      ∙ ap (λ (x : ℕ). x + rise_in (steps_of f) last) (reached-listed last inside)
      ∙ next-reached last inside ∙ next_last f last (omega (arith, e))
      ∙ ap (λ (x : ℕ). x + f.increment) (sym (reached-listed f.rank rank_inside)))

  pub steps_back : curve_from (steps_of f) ≡ f
  steps_back = led_back f inside_reached w.listed_whole steps_close

  pub steps_good : Good (steps_of f)
  steps_good = record { whole = length-list_of (rise_of f) (count f); well = subst WellFormed (sym steps_back) w }

pub after_missing : (f : C.Curve) → length f.listed < count f → after_last f ≡ 0
unfolding after_last
after_missing f lt = rw (lt-ltb (length f.listed) (count f) lt, after_last)

pub after_seam : (f : C.Curve) → count f ≤ length f.listed → after_last f ≡ listed_at f f.rank + f.increment
unfolding after_last
after_seam f le = rw (le-ltb (length f.listed) (count f) le, after_last)

-- each but the last by itself, and then the last
pub rises-last : (f : C.Curve) (last : ℕ) → suc last ≡ min (count f) (length f.listed)
    → set (over (rise_within f.listed) last f.listed) last (rise (listed_at f last) (after_last f)) ≡ rises_over f
rises-last f last e =
    let l : List ℕ = f.listed in
    let inner : over (rise_within l) last l ≡ over (rise_of f) last l =
    over_same (rise_within l) (rise_of f) last l (λ n lt. ap (rise (listed_at f n)) (sym (next_inside f n (omega (arith, lt, e))))) in
    let after : after_last f ≡ next_of f last =
    elim (dec_le (count f) (length l)) [
      | yes all ↦ after_seam f all ∙ sym (next_last f last (omega (arith, all, e)))
      | no missing ↦
          let short : length l < count f = omega (arith, missing) in
          after_missing f short
          ∙ sym (next_inside f last (omega (arith, short, e)) ∙ get_or-eq_default l 0 (omega (arith, short, e)))
    ] in
    let more : last + 1 ≡ min (count f) (length l) = omega (arith, e) in
    ap₂ (λ (s : List ℕ) (x : ℕ). set s last (rise (listed_at f last) x)) inner after
    ∙ over-more (rise_of f) last l (omega (arith, e)) ∙ ap (λ (k : ℕ). over (rise_of f) k l) more

-- two lists with the same T+d values have the same rises
pub rise_same : (T d c : ℕ) (l l' : List ℕ) → 1 ≤ d → ((k : ℕ) → k < T + d → get_or l k 0 ≡ get_or l' k 0) → (n : ℕ) → n < T + d
    → rise_of (record { rank = T; period = d; increment = c; listed = l }) n ≡ rise_of (record { rank = T; period = d; increment = c; listed = l' }) n
rise_same T d c l l' positive same n lt =
    let f : C.Curve = record { rank = T; period = d; increment = c; listed = l } in
    let g : C.Curve = record { rank = T; period = d; increment = c; listed = l' } in
    ap₂ rise (same n lt) (elim (dec_le (suc (suc n)) (T + d)) [
      | yes inside ↦ next_inside f n inside ∙ same (suc n) inside ∙ sym (next_inside g n inside)
      | no last ↦
          next_last f n (omega (arith, last)) ∙ ap (λ (x : ℕ). x + c) (same T (omega arith)) ∙ sym (next_last g n (omega (arith, last)))
    ])

-- ---- a list that falls

-- a fall or a rise that is too large shows
rise-told : (a b : ℕ) → rise a b ≤ max_units → a + rise a b ≡ b
unfolding rise
rise-told a b = go (ltb b a) refl
  where
    go : (t : Bool) → ltb b a ≡ t → let r : ℕ = elim t as (λ _. ℕ) [ true ↦ largest | false ↦ min (b - a) largest ] in r ≤ max_units → a + r ≡ b
    go true falls small = absurd (omega (arith, small))
    go false up small = omega (arith, small, ltb-false b a up)

-- where the curve of a list's form is well formed, it is the curve of that list: what is not well formed is not held
-- as if it were
module _ (f : C.Curve) (whole : length f.listed ≡ count f) (w : WellFormed (curve_from (steps_of f))) where
  told : (n : ℕ) → suc n < count f → listed_at f n + rise_in (steps_of f) n ≡ listed_at f (suc n)
  told n lt =
      let rises = list_of_at (rise_of f) (count f) n (omega (arith, lt)) in
      let fits = w.values_fit_lem (suc n) lt in
      let here = listed-reached (steps_of f) (well_closes (steps_of f) w) (suc n) lt in
      let small : rise_of f n ≤ max_units = omega (arith, fits, here, reached-next (steps_of f) n, rises) in
      omega (arith, rises, rise-told (listed_at f n) (next_of f n) small, next_inside f n lt)

  pub steps_tell : curve_from (steps_of f) ≡ f
  steps_tell = led_back f told whole (well_closes (steps_of f) w)

-- ---- one form for one curve

module _ (s : Steps) (w : WellFormed (curve_from s)) where
  first_back : listed_at (curve_from s) 0 ≡ s.first
  unfolding risen_to sum_to
  first_back = listed-reached s (well_closes s w) 0 (omega (arith, w.period_positive)) ∙ omega arith

  next_back : (n : ℕ) → n < step_count s → next_of (curve_from s) n ≡ reached s (suc n)
  next_back n lt =
      let closed = well_closes s w in
      elim (dec_le (suc (suc n)) (step_count s)) [
        | yes inside ↦ next_inside (curve_from s) n inside ∙ listed-reached s closed (suc n) inside
        | no last ↦
            let e : suc n ≡ step_count s = omega (arith, lt, last) in
            next_last (curve_from s) n (omega (arith, e))
            ∙ ap (λ (x : ℕ). x + s.increment) (listed-reached s closed s.rank (omega (arith, w.period_positive)))
            ∙ sym (close_sum s closed) ∙ ap (reached s) (sym e)
      ]

  rise_back : (n : ℕ) → n < step_count s → rise_of (curve_from s) n ≡ rise_in s n
  rise_back n lt =
      let next = next-rises (curve_from s) w n lt in
      let up = rise_up (listed_at (curve_from s) n) (next_of (curve_from s) n) next.0 next.1 in
      omega (arith, up, next_back n lt, listed-reached s (well_closes s w) n lt, reached-next s n)

pub good_back : {s : Steps} → Good s → steps_of (curve_from s) ≡ s
good_back {s} g = λ i. record {
  rank = s.rank;
  period = s.period;
  increment = s.increment;
  first = first_back s g.well i;
  rises =
      ext_get_or 0 (list_of (rise_of (curve_from s)) (step_count s)) s.rises (long ∙ sym g.whole)
      (λ n lt. list_of_at (rise_of (curve_from s)) (step_count s) n (omega (arith, lt, long)) ∙ rise_back s g.well n (omega (arith, lt, long))) i;
}
  where
    long : length (list_of (rise_of (curve_from s)) (step_count s)) ≡ step_count s
    long = length-list_of (rise_of (curve_from s)) (step_count s)

pub good_one : {s t : Steps} → Good s → Good t → curve_from s ≡ curve_from t → s ≡ t
good_one g h same = sym (good_back g) ∙ ap steps_of same ∙ good_back h
