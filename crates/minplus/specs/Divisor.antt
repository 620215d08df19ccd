-- The greatest common divisor by Euclid's rule, and the least common multiple from it.
--
-- Document 01, 'The horizon': "D is the least common multiple of the periods d of f and d' of g, from the greatest
-- common divisor by Euclid's rule."
--
--     gcd a b          Euclid's rule: gcd_zero, gcd-step
--     gcd-left, gcd_right, gcd-greatest     it divides both, and each common divisor divides it
--     lcm a b          a / gcd a b * b
--     lcm-left, lcm_right, lcm-least     both divide it, and it divides each common multiple; lcm_comm
--     lcm_positive, lcm_of_0, lcm_at_least     it is 0 only where a number is, and else not below either
--     lcm-min          cut off at any number, it is the same from a first number that is cut off there too
use Rattle.std.specs.Prelude.{ℕ, zero, suc, ◌-◌, ◌*◌, ◌/◌, ◌%◌, ◌≤◌, ◌<◌, min, ◌≡◌, refl, Bool, true, false, ltb}
use Rattle.std.specs.Int.{◌∣◌}
use Rattle.std.proofs.Common.{sym, ap, ◌∙◌, subst, ltb-true, ltb-false, arith, mod-lt, div-add-mod', mul_comm, mul-pos, one-mul}
use Rattle.std.proofs.Math.Nat.{dvd_refl, dvd-zero, dvd-mod_iff, dvd-mul_left, dvd-mul_right, dvd-sub, dvd_antisymm, div-mul_cancel, pos_of_dvd_of_pos, dvd-mul_left_of_dvd, dvd_of_mul-dvd-mul_left, mul-dvd-mul_left, eq-zero_of_zero-dvd, mul-dvd-mul_right, le_of_dvd}

-- Euclid's rule with a bound on its steps: the second number falls, so that many steps and one more are enough
gcd_by : ℕ → ℕ → ℕ → ℕ
gcd_by zero a b = a
gcd_by (suc k) a zero = a
gcd_by (suc k) a (suc b) = gcd_by k (suc b) (a % suc b)

unfoldable pub gcd : ℕ → ℕ → ℕ
unfolding gcd_by
gcd a b = gcd_by (suc b) a b

unfoldable pub lcm : ℕ → ℕ → ℕ
unfolding gcd
lcm a b = a / gcd a b * b

enough : (k j a b : ℕ) → b < k → b < j → gcd_by k a b ≡ gcd_by j a b
unfolding gcd_by
enough zero j a b h i = absurd (omega (arith, h))
enough (suc k) zero a b h i = absurd (omega (arith, i))
enough (suc k) (suc j) a zero h i = refl
enough (suc k) (suc j) a (suc b) h i =
    let less : a % suc b < suc b = mod-lt a (omega arith) in
    enough k j (suc b) (a % suc b) (omega arith) (omega arith)

pub gcd_zero : (a : ℕ) → gcd a 0 ≡ a
unfolding gcd
gcd_zero a = refl

pub gcd-step : (a b : ℕ) → 0 < b → gcd a b ≡ gcd b (a % b)
unfolding gcd
gcd-step a zero h = absurd (omega (arith, h))
gcd-step a (suc b) h =
    let less : a % suc b < suc b = mod-lt a h in
    enough (suc b) (suc (a % suc b)) (suc b) (a % suc b) less (omega arith)

-- what Euclid's rule keeps and reaches: a number that divides m*a and m*b divides m times the greatest common divisor
reached : (m x k a b : ℕ) → x ∣ m * a → x ∣ m * b → x ∣ m * gcd_by k a b
unfolding gcd_by
reached m x zero a b p q = p
reached m x (suc k) a zero p q = p
reached m x (suc k) a (suc b) p q =
    let quotient : m * (a % suc b) ≡ m * a - a / suc b * (m * suc b) = omega (arith, ap (λ (y : ℕ). m * y) (div-add-mod' a (suc b))) in
    reached m x k (suc b) (a % suc b) q (subst (λ (y : ℕ). x ∣ y) (sym quotient) (dvd-sub x p (dvd-mul_left_of_dvd x q (a / suc b))))

divides : (k a b : ℕ) → b < k → (gcd_by k a b ∣ a) × (gcd_by k a b ∣ b)
unfolding gcd_by
divides zero a b h = absurd (omega (arith, h))
divides (suc k) a zero h = (dvd_refl a, dvd-zero a)
divides (suc k) a (suc b) h =
    let less : a % suc b < suc b = mod-lt a (omega arith) in
    let t = divides k (suc b) (a % suc b) (omega arith) in
    ((dvd-mod_iff (gcd_by k (suc b) (a % suc b)) t.0).0 t.1, t.0)

pub gcd-left : (a b : ℕ) → gcd a b ∣ a
unfolding gcd
gcd-left a b = (divides (suc b) a b (omega arith)).0

pub gcd_right : (a b : ℕ) → gcd a b ∣ b
unfolding gcd
gcd_right a b = (divides (suc b) a b (omega arith)).1

scaled : (m x a b : ℕ) → x ∣ m * a → x ∣ m * b → x ∣ m * gcd a b
unfolding gcd
scaled m x a b p q = reached m x (suc b) a b p q

pub gcd-greatest : (x a b : ℕ) → x ∣ a → x ∣ b → x ∣ gcd a b
gcd-greatest x a b p q = rw one-mul at (scaled 1 x a b (rw one-mul p) (rw one-mul q))

gcd_comm : (a b : ℕ) → gcd a b ≡ gcd b a
gcd_comm a b = dvd_antisymm (gcd-greatest (gcd a b) b a (gcd_right a b) (gcd-left a b)) (gcd-greatest (gcd b a) a b (gcd_right b a) (gcd-left b a))

-- the least common multiple, seen from either number
lcm_flip : (a b : ℕ) → lcm a b ≡ b / gcd a b * a
unfolding lcm
lcm_flip a b =
    let g : ℕ = gcd a b in
    omega (arith, ap (λ (y : ℕ). a / g * y) (div-mul_cancel g (gcd_right a b)), ap (λ (y : ℕ). b / g * y) (div-mul_cancel g (gcd-left a b)))

pub lcm_comm : (a b : ℕ) → lcm a b ≡ lcm b a
unfolding lcm
lcm_comm a b = lcm_flip a b ∙ ap (λ (g : ℕ). b / g * a) (gcd_comm a b)

pub lcm_right : (a b : ℕ) → b ∣ lcm a b
unfolding lcm
lcm_right a b = dvd-mul_left b (a / gcd a b)

pub lcm-left : (a b : ℕ) → a ∣ lcm a b
lcm-left a b = subst (λ (m : ℕ). a ∣ m) (sym (lcm_flip a b)) (dvd-mul_left a (b / gcd a b))

-- a * b divides m * gcd a b, and it is lcm a b * gcd a b
pub lcm-least : (m a b : ℕ) → a ∣ m → b ∣ m → lcm a b ∣ m
unfolding lcm
lcm-least m zero b p q = subst (λ (y : ℕ). lcm zero b ∣ y) (sym (eq-zero_of_zero-dvd p)) (dvd-zero (lcm zero b))
lcm-least m (suc a) b p q =
    let g : ℕ = gcd (suc a) b in
    let product : b * suc a ≡ g * lcm (suc a) b = omega (arith, ap (λ (y : ℕ). b * y) (div-mul_cancel g (gcd-left (suc a) b))) in
    let common : b * suc a ∣ g * m =
    subst (λ (y : ℕ). b * suc a ∣ y) (mul_comm m g)
    (scaled m (b * suc a) (suc a) b (mul-dvd-mul_right b q (suc a)) (subst (λ (y : ℕ). b * suc a ∣ y) (mul_comm b m) (mul-dvd-mul_left (suc a) b p))) in
    dvd_of_mul-dvd-mul_left (lcm (suc a) b) (pos_of_dvd_of_pos (gcd-left (suc a) b) (omega arith)) (subst (λ (y : ℕ). y ∣ g * m) product common)

pub lcm_positive : (a b : ℕ) → 0 < a → 0 < b → 0 < lcm a b
lcm_positive a b h i = pos_of_dvd_of_pos (lcm-least (a * b) a b (dvd-mul_right a b) (dvd-mul_left b a)) (mul-pos h i)

-- also of 0 and 0, where Euclid's rule has no divisor to give
pub lcm_of_0 : (a : ℕ) → lcm a 0 ≡ 0
unfolding lcm
lcm_of_0 a = omega arith

pub lcm_at_least : (a b : ℕ) → 0 < b → a ≤ lcm a b
lcm_at_least zero b some = omega arith
lcm_at_least (suc a) b some = le_of_dvd (lcm_positive (suc a) b (omega arith) some) (lcm-left (suc a) b)

-- where a is above k, both multiples are at least k, unless b is 0
pub lcm-min : (k a b : ℕ) → min (lcm (min a k) b) k ≡ min (lcm a b) k
lcm-min k a zero = rw (lcm_of_0 (min a k), lcm_of_0 a)
lcm-min zero a (suc b) = omega arith
lcm-min (suc k) a (suc b) = go (ltb (suc k) a) refl
  where
    go : (above : Bool) → ltb (suc k) a ≡ above → min (lcm (min a (suc k)) (suc b)) (suc k) ≡ min (lcm a (suc b)) (suc k)
    go true e =
        let lt : suc k < a = ltb-true (suc k) a e in
        let cut : min a (suc k) ≡ suc k = omega arith in
        rw cut (omega (arith, lcm_at_least (suc k) (suc b) (omega arith), lcm_at_least a (suc b) (omega arith)))
    go false e =
        let le : a ≤ suc k = ltb-false (suc k) a e in
        let whole : min a (suc k) ≡ a = omega arith in
        rw whole
