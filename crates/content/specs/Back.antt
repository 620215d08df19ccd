-- Reading and writing a content undo each other.
--
--     length_values, length_curve, length-claim     how many bytes are written; curve_small, claim_small: at most
--     curve_back            of a well formed curve's bytes that curve is read, and they are not refused (curve_taken)
--     curve_again           a content that is not refused is the bytes of the curve that it says
--     claim_back, claim_taken, claim_again     the same for a claim, of at most 256 curves
--     bytes_curve, bytes-claim     what is written is bytes
use Prim.Native.Nat.{ℕ, zero, suc, ◌+◌, ◌*◌, ◌^◌, ◌≤◌, ◌<◌}
use Rattle.std.specs.Prelude.{◌≡◌, refl, false, not, take, drop, get_or, ltb, eqb, Ok}
use Rattle.std.proofs.Common.{sym, ap₂, ◌∙◌, take_all, take-add, drop-drop, ext_get_or}
use Rattle.std.proofs.Math.Path.{ap}
use mathlib.Core.List.{List, [], ◌∷◌, ◌++◌, flat_map, append-nil}
use native.Mathlib.Omega.{arith}
use Rattle.std.proofs.Math.ListN.{length}
use borrow.Author.Tests.{ltb-false, eqb-true, not-false, le-ltb, eq-eqb}
use Rattle.minplus.specs.Curve.{Curve, WellFormed, count}
use Rattle.minplus.specs.Claim.{Kind, result, bound, sum, minimum, convolution, delay, backlog, at_most, exactly, max_x, kind_number, kind_by_lem}
use Rattle.curve.specs.Filled.{list_of, length-list_of, list_of_at}
use Rattle.numbers.specs.Lists.{flat_more}
use Rattle.numbers.specs.Numbers.{number_at}
use Rattle.numbers.specs.Put.{bytes_of, length-bytes}
use Rattle.numbers.specs.Back.{Bytes, bytes-append, bytes_flat, length_then, number_on}
use Rattle.numbers.proofs.HighFirst.{bytes_of_lem, number_front, bytes_again, bytes_then}
use Rattle.content.specs.declared.Refusal.TheVariants.{CurveLength, CurvePeriod, WrongClaim}
use Rattle.content.specs.declared.Statement.{Statement}
use Rattle.content.specs.Layout.{rank_in, period_in, increment_in, count_in, curve_head, value_in, curve_in, values_bytes, curve_bytes, id_in, third_width, claim_in, claim_length, claim_bytes, third_small}
use Rattle.content.specs.Refusals.{on, no_span, curve_fault, last_id, far_x, statement_fault, claim_fault, on_sound}
use Rattle.content.specs.Sound.{well_span, well_limits, WellStated, well_stated, claim_sound}

-- ---- a curve's values

pub length_values : (l : List ℕ) → length (values_bytes l) ≡ 4 * length l
unfolding flat_map
length_values [] = refl
length_values (v ∷ l) = length_then 4 v (values_bytes l) ∙ rw (length_values l) (omega arith)

value_back : (l : List ℕ) (n : ℕ) → n < length l → get_or l n 0 < 256 ^ 4 → number_at 4 (values_bytes l) (4 * n) ≡ get_or l n 0
unfolding flat_map
value_back [] n lt small = absurd (omega (arith, lt))
value_back (v ∷ l) zero lt small = number_front 4 v (values_bytes l) small
value_back (v ∷ l) (suc n) lt small =
    let next : 4 * suc n ≡ 4 + 4 * n = omega arith in
    ap (number_at 4 (bytes_of 4 v ++ values_bytes l)) next ∙ number_on 4 (4 * n) 4 (bytes_of 4 v) (values_bytes l) (length-bytes 4 v)
    ∙ value_back l n (omega (arith, lt)) small

-- what is read from 8 on, written
values_again : (content : List ℕ) → Bytes content → (n : ℕ) → curve_head + 4 * n ≤ length content
    → values_bytes (list_of (value_in content) n) ≡ take (4 * n) (drop curve_head content)
unfolding flat_map list_of
values_again content small zero fits = refl
values_again content small (suc n) fits =
    let at : 4 * suc n ≡ 4 * n + 4 = omega arith in
    flat_more (bytes_of 4) (list_of (value_in content) n) (value_in content n)
    ∙ ap₂ (λ (x y : List ℕ). x ++ y) (values_again content small n (omega (arith, fits)))
    (bytes_again 4 (curve_head + 4 * n) content small (omega (arith, fits)) ∙ ap (take 4) (sym (drop-drop (4 * n) curve_head content)))
    ∙ sym (ap (λ (k : ℕ). take k (drop curve_head content)) at ∙ take-add (4 * n) 4 (drop curve_head content))

-- ---- a curve

pub length_curve : (f : Curve) → length (curve_bytes f) ≡ curve_head + 4 * length f.listed
unfolding curve_bytes
length_curve f =
    length_then 2 f.rank _
    ∙ rw (length_then 2 f.period (bytes_of 4 f.increment ++ values_bytes f.listed), length_then 4 f.increment (values_bytes f.listed), length_values f.listed)
    (omega arith)

module _ (f : Curve) (w : WellFormed f) where
  abbrev bytes : List ℕ
  bytes = curve_bytes f

  rank_back : rank_in bytes ≡ f.rank
  unfolding curve_bytes
  rank_back = number_front 2 f.rank _ (omega (arith, w.count_fits))

  period_back : period_in bytes ≡ f.period
  unfolding curve_bytes
  period_back = number_on 2 0 2 (bytes_of 2 f.rank) _ (length-bytes 2 f.rank) ∙ number_front 2 f.period _ (omega (arith, w.count_fits))

  -- past T and d
  past : (i : ℕ) → number_at 4 bytes (4 + i) ≡ number_at 4 (bytes_of 4 f.increment ++ values_bytes f.listed) i
  unfolding curve_bytes
  past i =
      let e : 4 + i ≡ 2 + (2 + i) = omega arith in
      ap (number_at 4 bytes) e ∙ number_on 4 (2 + i) 2 (bytes_of 2 f.rank) _ (length-bytes 2 f.rank)
      ∙ number_on 4 i 2 (bytes_of 2 f.period) _ (length-bytes 2 f.period)

  increment_back : increment_in bytes ≡ f.increment
  increment_back = past 0 ∙ number_front 4 f.increment (values_bytes f.listed) (omega (arith, w.increment_fits))

  listed_back : (curve_in bytes).listed ≡ f.listed
  listed_back = ext_get_or 0 (list_of (value_in bytes) (count_in bytes)) f.listed (long ∙ sym w.listed_whole) each
    where
      long : length (list_of (value_in bytes) (count_in bytes)) ≡ count f
      long = length-list_of (value_in bytes) (count_in bytes) ∙ ap₂ (λ (T d : ℕ). T + d) rank_back period_back

      each : (n : ℕ) → n < length (list_of (value_in bytes) (count_in bytes)) → get_or (list_of (value_in bytes) (count_in bytes)) n 0 ≡ get_or f.listed n 0
      each n lt =
          let e : curve_head + 4 * n ≡ 4 + (4 + 4 * n) = omega arith in
          list_of_at (value_in bytes) (count_in bytes) n (omega (arith, lt, length-list_of (value_in bytes) (count_in bytes))) ∙ ap (number_at 4 bytes) e ∙ past (4 + 4 * n)
          ∙ number_on 4 (4 * n) 4 (bytes_of 4 f.increment) (values_bytes f.listed) (length-bytes 4 f.increment)
          ∙ value_back f.listed n (omega (arith, lt, long, w.listed_whole)) (omega (arith, w.values_fit_lem n (omega (arith, lt, long))))

  pub curve_back : curve_in (curve_bytes f) ≡ f
  curve_back = λ i. record { rank = rank_back i; period = period_back i; increment = increment_back i; listed = listed_back i }

  pub curve_taken : curve_fault (curve_bytes f) ≡ Ok tt
  unfolding curve_fault
  curve_taken =
      let long : length bytes ≡ curve_head + 4 * count f = length_curve f ∙ ap (λ (k : ℕ). curve_head + 4 * k) w.listed_whole in
      rw (
        listed_back,
        rank_back,
        period_back,
        increment_back,
        le-ltb (length bytes) curve_head (omega (arith, long)),
        well_span f w,
        eq-eqb (length bytes) (curve_head + 4 * count f) long,
      )
      (well_limits f w)

pub curve_small : (f : Curve) → WellFormed f → length (curve_bytes f) ≤ 1032
curve_small f w = omega (arith, length_curve f, w.listed_whole, w.count_fits)

pub bytes_curve : (f : Curve) → Bytes (curve_bytes f)
unfolding curve_bytes
bytes_curve f =
    bytes-append (bytes_of 2 f.rank) _ (bytes_of_lem 2 f.rank)
    (bytes-append (bytes_of 2 f.period) _ (bytes_of_lem 2 f.period) (bytes-append (bytes_of 4 f.increment) _ (bytes_of_lem 4 f.increment) (bytes_flat (bytes_of 4) (bytes_of_lem 4) f.listed)))

pub curve_again : (content : List ℕ) → Bytes content → curve_fault content ≡ Ok tt → curve_bytes (curve_in content) ≡ content
unfolding curve_fault curve_bytes
curve_again content small e =
    let t₁ = on_sound (ltb (length content) curve_head) CurveLength _ e in
    let t₂ = on_sound (no_span (rank_in content) (period_in content)) CurvePeriod _ t₁.1 in
    let t₃ = on_sound (not (eqb (length content) (curve_head + 4 * count_in content))) CurveLength _ t₂.1 in
    let long : length content ≡ curve_head + 4 * count_in content = eqb-true _ _ (not-false _ t₃.0) in
    let n : ℕ = 4 * count_in content in
    ap (λ (t : List ℕ). bytes_of 2 (rank_in content) ++ (bytes_of 2 (period_in content) ++ (bytes_of 4 (increment_in content) ++ t)))
    (values_again content small (count_in content) (omega (arith, long)))
    ∙ ap (λ (t : List ℕ). bytes_of 2 (rank_in content) ++ (bytes_of 2 (period_in content) ++ t)) (bytes_then 4 n 4 content small (omega (arith, long)))
    ∙ ap (λ (t : List ℕ). bytes_of 2 (rank_in content) ++ t) (bytes_then 2 (4 + n) 2 content small (omega (arith, long)))
    ∙ bytes_then 2 (2 + (4 + n)) 0 content small (omega (arith, long))
    ∙ take_all (2 + (2 + (4 + n))) content (omega (arith, long))

-- ---- a claim

pub length-claim : (c : Statement) → length (claim_bytes c) ≡ claim_length c.kind
unfolding claim_bytes
length-claim c =
    let w : ℕ = third_width c.kind in
    length_then 1 c.kind _
    ∙ rw (length_then 1 c.left (bytes_of 1 c.right ++ bytes_of w c.third), length_then 1 c.right (bytes_of w c.third), length-bytes w c.third) (omega arith)

pub claim_small : (c : Statement) → length (claim_bytes c) ≤ 7
claim_small c = omega (arith, length-claim c, third_small c.kind)

pub bytes-claim : (c : Statement) → Bytes (claim_bytes c)
unfolding claim_bytes
bytes-claim c =
    bytes-append (bytes_of 1 c.kind) _ (bytes_of_lem 1 c.kind)
    (bytes-append (bytes_of 1 c.left) _ (bytes_of_lem 1 c.left)
    (bytes-append (bytes_of 1 c.right) _ (bytes_of_lem 1 c.right) (bytes_of_lem (third_width c.kind) c.third)))

module _ {curves : ℕ} (c : Statement) (few : curves ≤ 256) (w : WellStated curves c) where
  abbrev claim : List ℕ
  claim = claim_bytes c

  -- each number fits its bytes
  numbers_fit : (κ : Kind) → last_id κ c < curves → far_x κ c ≡ false → (kind_number κ < 256 ^ 1) × (c.third < 256 ^ third_width (kind_number κ))
  unfolding kind_number third_width far_x
  numbers_fit (result sum) last near = (omega arith, omega (arith, last, few))
  numbers_fit (result minimum) last near = (omega arith, omega (arith, last, few))
  numbers_fit (result convolution) last near = (omega arith, omega (arith, last, few))
  numbers_fit (bound delay at_most) last near = (omega arith, omega (arith, ltb-false max_x c.third near))
  numbers_fit (bound delay exactly) last near = (omega arith, omega (arith, ltb-false max_x c.third near))
  numbers_fit (bound backlog at_most) last near = (omega arith, omega (arith, ltb-false max_x c.third near))
  numbers_fit (bound backlog exactly) last near = (omega arith, omega (arith, ltb-false max_x c.third near))

  fits : (c.kind < 256 ^ 1) × (c.third < 256 ^ third_width c.kind)
  fits = rw ((kind_by_lem c.kind w.kind).0 w.known) (numbers_fit w.kind w.last_named w.x_near)

  kind_back : number_at 1 claim 0 ≡ c.kind
  unfolding claim_bytes
  kind_back = number_front 1 c.kind _ fits.0

  left_back : id_in claim 1 ≡ c.left
  unfolding claim_bytes
  left_back = number_on 1 0 1 (bytes_of 1 c.kind) _ (length-bytes 1 c.kind) ∙ number_front 1 c.left _ (omega (arith, w.left_named, few))

  right_back : id_in claim 2 ≡ c.right
  unfolding claim_bytes
  right_back =
      number_on 1 1 1 (bytes_of 1 c.kind) _ (length-bytes 1 c.kind) ∙ number_on 1 0 1 (bytes_of 1 c.left) _ (length-bytes 1 c.left)
      ∙ number_front 1 c.right _ (omega (arith, w.right_named, few))

  third_back : (claim_in claim).third ≡ c.third
  unfolding claim_bytes
  third_back =
      let v : ℕ = third_width c.kind in
      ap (λ (k : ℕ). number_at (third_width k) claim 3) kind_back ∙ number_on v 2 1 (bytes_of 1 c.kind) _ (length-bytes 1 c.kind)
      ∙ number_on v 1 1 (bytes_of 1 c.left) _ (length-bytes 1 c.left) ∙ number_on v 0 1 (bytes_of 1 c.right) _ (length-bytes 1 c.right)
      ∙ ap (λ (t : List ℕ). number_at v t 0) (sym (append-nil (bytes_of v c.third))) ∙ number_front v c.third [] fits.1

  pub claim_back : claim_in (claim_bytes c) ≡ c
  claim_back = λ i. record { kind = kind_back i; left = left_back i; right = right_back i; third = third_back i }

  pub claim_taken : claim_fault curves (claim_bytes c) ≡ Ok tt
  unfolding claim_fault
  claim_taken =
      ap (λ (d : Statement). on (not (eqb (length claim) (claim_length d.kind))) WrongClaim (statement_fault curves d)) claim_back
      ∙ rw (eq-eqb (length claim) (claim_length c.kind) (length-claim c)) ((well_stated curves c).1 w)

pub claim_again : (curves : ℕ) (content : List ℕ) → Bytes content → claim_fault curves content ≡ Ok tt → claim_bytes (claim_in content) ≡ content
unfolding claim_bytes
claim_again curves content small e =
    let c : Statement = claim_in content in
    let v : ℕ = third_width c.kind in
    let long : length content ≡ 3 + v = (claim_sound curves content e).0 in
    ap (λ (t : List ℕ). bytes_of 1 c.kind ++ (bytes_of 1 c.left ++ (bytes_of 1 c.right ++ t))) (bytes_again v 3 content small (omega (arith, long)))
    ∙ ap (λ (t : List ℕ). bytes_of 1 c.kind ++ (bytes_of 1 c.left ++ t)) (bytes_then 1 v 2 content small (omega (arith, long)))
    ∙ ap (λ (t : List ℕ). bytes_of 1 c.kind ++ t) (bytes_then 1 (1 + v) 1 content small (omega (arith, long)))
    ∙ bytes_then 1 (1 + (1 + v)) 0 content small (omega (arith, long))
    ∙ take_all (1 + (1 + (1 + v))) content (omega (arith, long))
