-- The written records, read from the buffer's bytes again.
--
--     Fits                a record whose numbers fit their bytes: of a well-formed claim it is one (record_fits)
--     records_back        record k of the buffer is the record that was written there
use Rattle.std.specs.Prelude.{ℕ, zero, suc, ◌+◌, ◌*◌, ◌^◌, ◌≤◌, ◌<◌, ◌≡◌, refl, List, [], ◌++◌, length, drop}
use Rattle.std.proofs.Common.{sym, ap, ◌∙◌, append_assoc, append-nil, arith, below_more}
use Rattle.minplus.specs.Curve.{value, value_at_most}
use Rattle.minplus.specs.Claim.{Claim, WellFormedClaim, equals, bounds, sum, minimum, convolution, delay, backlog, due, allowed}
use Rattle.minplus.proofs.Conv.{conv_below}
use Rattle.minplus.specs.Horizon.{horizon, max_horizon}
use Rattle.minplus.specs.Verdict.{Record, Verdict, accepted, refuted_at, refuted_by_rate, not_least, not_judged, record_of, record_on, verdict, left_at, right_at, tried}
use Rattle.minplus.specs.Meaning.{Meaning, well_formed_proper}
use Rattle.minplus.proofs.Exact.{verdict_exact}
use Rattle.numbers.specs.Numbers.{number_at}
use Rattle.numbers.specs.Put.{put, bytes_of, length-bytes}
use Rattle.numbers.specs.Back.{number_on}
use Rattle.numbers.proofs.HighFirst.{number_front, number_back}
use Rattle.judge.specs.Answer.{record_size, record_in}
use Rattle.judge.specs.Records.{record_bytes, records_to, length_records, record_parts}

pub record Fits (r : Record) : Type 0 where
  pub code_fits : r.code < 256 ^ 1
  pub tick_fits : r.tick < 256 ^ 4
  pub left_fits : r.left < 256 ^ 8
  pub right_fits : r.right < 256 ^ 8
  pub tried_fits : r.tried < 256 ^ 2

-- ---- of a well-formed claim

small : (c n : ℕ) → c < 256 → n < 256 ^ 2 → Fits (record { code = c; tick = 0; left = 0; right = 0; tried = n })
small c n lt few = record {
  code_fits = omega (arith, lt);
  tick_fits = omega arith;
  left_fits = omega arith;
  right_fits = omega arith;
  tried_fits = few;
}

left_small : (c : Claim) → WellFormedClaim c → (n : ℕ) → n ≤ max_horizon → left_at c n < 256 ^ 8
unfolding left_at due
left_small (equals sum f g h) w n le = omega (arith, value_at_most f w.0 n, value_at_most g w.1 n)
left_small (equals minimum f g h) w n le = omega (arith, value_at_most f w.0 n, value_at_most g w.1 n)
left_small (equals convolution f g h) w n le =
    omega (arith, conv_below (value f) (value g) n 0 n (omega arith), value_at_most f w.0 0, value_at_most g w.1 n)
left_small (bounds δ t f g X) w n le = omega (arith, value_at_most f w.0 n)

right_small : (c : Claim) → WellFormedClaim c → (n : ℕ) → n ≤ max_horizon → right_at c n < 256 ^ 8
unfolding right_at allowed
right_small (equals op f g h) w n le = omega (arith, value_at_most h w.2 n)
right_small (bounds delay t f g X) w n le = omega (arith, value_at_most g w.1 (n + X), w.2)
right_small (bounds backlog t f g X) w n le = omega (arith, value_at_most g w.1 n, w.2)

tried-most : (c : Claim) → horizon c ≤ max_horizon → tried c ≤ max_horizon + 1
unfolding tried
tried-most (equals op f g h) le = omega (arith, le)
tried-most (bounds δ t f g X) le = omega (arith, le)

pub record_fits : (c : Claim) → WellFormedClaim c → Fits (record_on c)
unfolding record_on
record_fits c well = go (verdict c) ((verdict_exact c (well_formed_proper c well) (verdict c)).0 refl)
  where
    go : (v : Verdict) → Meaning c v → Fits (record_of c v)
    go accepted m = small 1 (tried c) (omega arith) (omega (arith, tried-most c m.0))
    go (refuted_at tick left right) m =
        let near : tick ≤ max_horizon = omega (arith, m.1, tried-most c m.0) in
        record {
          code_fits = omega arith;
          tick_fits = omega (arith, near);
          left_fits = rw m.4 (left_small c well tick near);
          right_fits = rw m.5 (right_small c well tick near);
          tried_fits = omega (arith, near);
        }
    go refuted_by_rate m = small 3 (tried c) (omega arith) (omega (arith, tried-most c m.0))
    go not_least m = small 4 (tried c) (omega arith) (omega (arith, tried-most c m.0))
    go not_judged m = small 5 0 (omega arith) (omega arith)

-- ---- of a list

records_split : (f : ℕ → Record) (n k : ℕ) → k < n → (rest : List ℕ) × (records_to f n ≡ records_to f k ++ (record_bytes (f k) ++ rest))
unfolding records_to
records_split f zero k lt = absurd (omega (arith, lt))
records_split f (suc n) k lt =
    below_more (λ j. (rest : List ℕ) × (records_to f n ++ record_bytes (f n) ≡ records_to f j ++ (record_bytes (f j) ++ rest))) n
    (λ j less.
    let t = records_split f n j less in
    (t.0 ++ record_bytes (f n), ap (λ (l : List ℕ). l ++ record_bytes (f n)) t.1 ∙ simp append_assoc))
    ([], rw (append-nil (record_bytes (f n)))) k (omega (arith, lt))

record_middle : (pre post : List ℕ) (r : Record) (k : ℕ) → Fits r → length pre ≡ record_size * k → record_in (pre ++ (record_bytes r ++ post)) k ≡ r
record_middle pre post r k fits e =
    let one : List ℕ = bytes_of 1 r.code in
    let four : List ℕ = bytes_of 4 r.tick in
    let eight : List ℕ = bytes_of 8 r.left in
    let other : List ℕ = bytes_of 8 r.right in
    let s : List ℕ = one ++ (four ++ (eight ++ (other ++ (bytes_of 2 r.tried ++ post)))) in
    let parts : record_bytes r ++ post ≡ s = rw (record_parts r) (simp append_assoc) in
    let n₁ = length-bytes 1 r.code in
    let n₂ = length-bytes 4 r.tick in
    let n₃ = length-bytes 8 r.left in
    let n₄ = length-bytes 8 r.right in
    let c : number_at 1 (pre ++ s) (record_size * k) ≡ r.code = number_back 1 r.code pre _ _ (sym e) fits.code_fits in
    let t = number_on 4 1 _ pre s e ∙ number_on 4 0 1 one _ n₁ ∙ number_front 4 r.tick _ fits.tick_fits in
    let l = number_on 8 5 _ pre s e ∙ number_on 8 4 1 one _ n₁ ∙ number_on 8 0 4 four _ n₂ ∙ number_front 8 r.left _ fits.left_fits in
    let m = number_on 8 13 _ pre s e ∙ number_on 8 12 1 one _ n₁ ∙ number_on 8 8 4 four _ n₂ ∙ number_on 8 0 8 eight _ n₃ ∙ number_front 8 r.right _ fits.right_fits in
    let q =
    number_on 2 21 _ pre s e ∙ number_on 2 20 1 one _ n₁ ∙ number_on 2 16 4 four _ n₂ ∙ number_on 2 8 8 eight _ n₃ ∙ number_on 2 0 8 other _ n₄
    ∙ number_front 2 r.tried post fits.tried_fits in
    rw parts (λ i. record { code = c i; tick = t i; left = l i; right = m i; tried = q i })

pub records_back : (b : List ℕ) (f : ℕ → Record) (n k : ℕ) → k < n → Fits (f k) → record_in (put b 0 (records_to f n)) k ≡ f k
unfolding put
records_back b f n k lt fits =
    let split = records_split f n k lt in
    let rest : List ℕ = drop (0 + length (records_to f n)) b in
    let whole : records_to f n ++ rest ≡ records_to f k ++ (record_bytes (f k) ++ (split.0 ++ rest)) = ap (λ (l : List ℕ). l ++ rest) split.1 ∙ simp append_assoc in
    ap (λ (l : List ℕ). record_in l k) whole ∙ record_middle (records_to f k) (split.0 ++ rest) (f k) k fits (length_records f k)
