use Rattle.std.specs.Prelude.{ℕ, ◌+◌, ◌-◌, ◌*◌, ◌^◌, ◌≤◌, ◌<◌, ◌≡◌, refl, List, length, take, drop}
use Rattle.std.proofs.Common.{sym, ap, ◌∙◌, arith, length-drop, length-take-le, take_all}
use Rattle.std.proofs.Math.Nat.{one-le-pow, pow-le-pow_right}
use Rattle.numbers.specs.Numbers.{number_after, number_torn, number_whole, number_fits}
use Rattle.numbers.proofs.HighFirst.{after_byte, room_for_byte}
use Rattle.numbers.proofs.number.Goals as goal
use Rattle.numbers.proofs.number.Goals.{then-length-via-then-length, then-length-via-else-length+then-length-at}

pub returns-then-this-gt8-clause-upper_bound : goal.returns-then-this-gt8-clause-upper_bound
returns-then-this-gt8-clause-upper_bound g c = one-le-pow g.row.W 256 (omega arith)

pub returns-then-length-clause-value : goal.returns-then-length-clause-value
returns-then-length-clause-value g c =
    let within = sym (number_fits g.row.W c.args.at c.args.bytes.now (omega arith)) in
    elim c.then-length.branch [
      | then-length-via-then-length w ↦ sym (number_torn g.row.W c.args.at c.args.bytes.now (omega arith)) ∙ within
      | then-length-via-else-length+then-length-at w ↦ sym (number_torn g.row.W c.args.at c.args.bytes.now (omega arith)) ∙ within
    ]

pub returns-then-length-clause-upper_bound : goal.returns-then-length-clause-upper_bound
returns-then-length-clause-upper_bound g c = one-le-pow g.row.W 256 (omega arith)

-- the bytes that are read are W
wide : (W at : ℕ) (s : List ℕ) → W ≤ length s → at ≤ length s - W → length (take (at + W - at) (drop at s)) ≡ W
wide W at s fits room =
    let e : at + W - at ≡ W = omega arith in
    rw e (length-take-le W (drop at s) (omega (arith, length-drop at s)))

-- of at most eight bytes, one more still fits 64 bits
below : (k W n : ℕ) → k < W → W ≤ 8 → n < 256 ^ k → n * 256 + 255 < 256 ^ 8
below k W n lt small bound =
    let less : 256 ^ (k + 1) ≤ 256 ^ 8 = pow-le-pow_right (omega arith) {j = 8} (omega arith) in
    omega (arith, less, room_for_byte k n 255 bound (omega arith))

pub loop-byte-init : goal.loop-byte-init
unfolding number_after
loop-byte-init g c = record { value = refl; bound = omega arith }

pub overflow_mul-number : goal.overflow_mul-number
overflow_mul-number g c =
    let l = c.loop-byte in
    let size = wide g.row.W c.args.at c.args.bytes.now c.if-length.false c.if-length-at.false in
    omega (arith, below l.byte-index g.row.W l.number (omega arith) (omega arith) l.invariant.bound)

pub overflow_add-number : goal.overflow_add-number
overflow_add-number g c =
    let l = c.loop-byte in
    let size = wide g.row.W c.args.at c.args.bytes.now c.if-length.false c.if-length-at.false in
    omega (arith, below l.byte-index g.row.W l.number (omega arith) (omega arith) l.invariant.bound)

pub loop-byte-preserved : goal.loop-byte-preserved
loop-byte-preserved g c =
    let l = c.loop-byte in
    record {
      value = rw l.invariant.value (sym (after_byte l.byte-index _ (omega arith)));
      bound = room_for_byte l.byte-index l.number _ l.invariant.bound (omega arith);
    }

pub returns-clause-value : goal.returns-clause-value
returns-clause-value g c =
    let size = wide g.row.W c.args.at c.args.bytes.now c.if-length.false c.if-length-at.false in
    let l = c.loop-byte in
    let e : c.args.at + g.row.W - c.args.at ≡ g.row.W = omega arith in
    let all : take l.byte-index (take (c.args.at + g.row.W - c.args.at) (drop c.args.at c.args.bytes.now)) ≡ take g.row.W (drop c.args.at c.args.bytes.now) =
    take_all l.byte-index _ (omega arith) ∙ ap (λ (n : ℕ). take n (drop c.args.at c.args.bytes.now)) e in
    l.invariant.value ∙ ap (number_after 0) all ∙ sym (number_whole g.row.W c.args.at c.args.bytes.now (omega arith))
    ∙ sym (number_fits g.row.W c.args.at c.args.bytes.now (omega arith))

pub returns-clause-upper_bound : goal.returns-clause-upper_bound
returns-clause-upper_bound g c =
    let size = wide g.row.W c.args.at c.args.bytes.now c.if-length.false c.if-length-at.false in
    let l = c.loop-byte in
    let e : l.byte-index ≡ g.row.W = omega arith in
    rw e at l.invariant.bound
