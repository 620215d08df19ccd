-- A convolution of few splits: those that specs/Folded.antt tries are enough.
--
--     reached_all      r(n) = n is enough
--     conv_folded      from the first tick K with v = T within r(K) on: the lesser of the least over v < T, and of the
--                      least over one period of g carried on
--     conv_early       before K the first of these is all
--     reached_half     of a function with itself r(n) = n/2 is enough
use Prim.Native.Nat.{ℕ, ◌+◌, ◌-◌, ◌*◌, ◌/◌, ◌%◌, ◌≤◌, ◌<◌, min}
use Rattle.std.specs.Prelude.{◌≡◌, refl, ◌↔◌}
use Rattle.std.proofs.Common.{le_antisymm, le_refl, mod-lt}
use Rattle.std.proofs.Math.Path.{ap}
use native.Mathlib.Omega.{arith}
use Rattle.std.proofs.Math.Nat.{mod-add-div'}
use Rattle.std.proofs.Math.Decide.{dec_le}
use Rattle.minplus.specs.Search.{least_attained}
use Rattle.minplus.specs.Conv.{conv, conv_attained}
use Rattle.minplus.proofs.Conv.{conv_below}
use Rattle.minplus.specs.Gains.{Gains, gains_many}
use Rattle.minplus.specs.Folded.{least_from, carried, Reached, from_below, from_attained, carried_below, carried_attained, conv_half}

pub reached_all : (f g : ℕ → ℕ) → Reached f g (λ n. n)
reached_all f g = record {
  inside = le_refl;
  attained = λ n.
      let t = conv_attained f g n in
      (t.0, t.1, t.2, omega (arith, t.2), t.3);
  smaller = λ u v w le within. omega arith;
}

-- where v = T is not within r
pub conv_early : {f g r : ℕ → ℕ} {T : ℕ} → Reached f g r → (n : ℕ) → r n < T → conv f g n ≡ least_from f g 0 (T - 1) (r n) n
conv_early {f} {g} {r} {T} R n lt = le_antisymm over under
  where
    over : conv f g n ≤ least_from f g 0 (T - 1) (r n) n
    over =
        let t = from_attained f g 0 (T - 1) (r n) n (R.inside n) (omega arith) in
        omega (arith, conv_below f g n t.0 t.1 t.2, t.5)

    under : least_from f g 0 (T - 1) (r n) n ≤ conv f g n
    under =
        let t = R.attained n in
        omega (arith, from_below f g 0 (T - 1) (r n) n t.0 t.1 t.2 (omega arith) (omega (arith, t.3)) t.3, t.4)

-- v = 0 is tried where T is 0 too: it is a split like any other
pub conv_folded : {f g r : ℕ → ℕ} {T d c K : ℕ} → Gains g T d c → 0 < d → Reached f g r → ((m : ℕ) → (K ≤ m) ↔ (T ≤ r m)) → (n : ℕ) → K ≤ n
    → conv f g n ≡ min (least_from f g 0 (T - 1) (r n) n) (carried (λ m. least_from f g T (d - 1) (r m) m) K d c n)
conv_folded {f} {g} {r} {T} {d} {c} {K} G positive R first n le = le_antisymm over under
  where
    soon : ℕ
    soon = least_from f g 0 (T - 1) (r n) n

    period : ℕ → ℕ
    period m = least_from f g T (d - 1) (r m) m

    -- what is tried is a split of n: one of m, with j periods more for g
    over : conv f g n ≤ min soon (carried period K d c n)
    over =
        let s = from_attained f g 0 (T - 1) (r n) n (R.inside n) (omega arith) in
        let w = carried_attained period K d c n positive le in
        let m = w.0 in
        let j = w.1 in
        let x = from_attained f g T (d - 1) (r m) m (R.inside m) (omega (arith, (first m).0 w.3, R.inside m)) in
        omega (
          arith,
          conv_below f g n s.0 s.1 s.2,
          s.5,
          conv_below f g n x.0 (x.1 + j * d) (omega (arith, x.2, w.2)),
          (gains_many G j).gain x.1 x.3,
          w.4,
          x.5,
        )

    -- and a least split has its v below T, or j periods after one that is tried
    under : min soon (carried period K d c n) ≤ conv f g n
    under =
        let t = R.attained n in
        let u = t.0 in
        let v = t.1 in
        elim (dec_le T v) [
          | yes late ↦
              let w : ℕ = T + (v - T) % d in
              let j : ℕ = (v - T) / d in
              let e : w + j * d ≡ v = omega (arith, mod-add-div' (v - T) d, late) in
              let within : w ≤ r (u + w) = R.smaller u v w (omega (arith, e)) (rw t.2 t.3) in
              omega (
                arith,
                carried_below period K d c n positive (u + w) j (omega (arith, e, t.2)) ((first (u + w)).1 (omega (arith, within))),
                from_below f g T (d - 1) (r (u + w)) (u + w) u w refl (omega arith) (omega (arith, mod-lt (v - T) positive)) within,
                (gains_many G j).gain w (omega arith),
                ap g e,
                t.4,
              )
          | no early ↦ omega (arith, from_below f g 0 (T - 1) (r n) n u v t.2 (omega arith) (omega (arith, early)) t.3, t.4)
        ]

pub reached_half : (f : ℕ → ℕ) → Reached f f (λ n. n / 2)
reached_half f = record {
  inside = λ n. omega arith;
  attained = λ n.
      let t = least_attained (λ u. f u + f (n - u)) (n / 2) in
      (n - t.0, t.0, omega (arith, t.1), t.1, omega (arith, conv_half f n, t.2));
  smaller = λ u v w le within. omega arith;
}
