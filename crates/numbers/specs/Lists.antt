-- Laws of lists that the kit's library lacks.
--
--     forall_at       where all members are such, so is the one at a place; forall_more: and so are all with one such
--                     more
--     flat_more       a list for each member, one after the other, and one more
--     length_zero     a list without a member
use Rattle.std.specs.Prelude.{ℕ, zero, suc, ◌<◌, ◌≡◌, refl, length, get_or}
use Rattle.std.proofs.Common.{sym, ap, ◌∙◌, arith}
use mathlib.Core.List.{List, [], ◌∷◌, ◌++◌, flat_map, append-nil, append_assoc}
use mathlib.Mathlib.Data.List.Defs.{Forall}
use mathlib.Mathlib.Data.List.Basic.{Forall-append, Forall-cons}

module _ {A : Type 0} (P : A → Type 0) where
  pub forall_at : (l : List A) (d : A) → Forall P l → (k : ℕ) → k < length l → P (get_or l k d)
  forall_at [] d all k lt = absurd (omega (arith, lt))
  forall_at (x ∷ l) d all zero lt = ((Forall-cons P x l).0 all).0
  forall_at (x ∷ l) d all (suc k) lt = forall_at l d ((Forall-cons P x l).0 all).1 k (omega (arith, lt))

  pub forall_more : (l : List A) (x : A) → Forall P l → P x → Forall P (l ++ (x ∷ []))
  unfolding Forall
  forall_more l x all here = (Forall-append P l (x ∷ [])).1 (all, here)

pub flat_more : {A : Type 0} (f : A → List ℕ) (l : List A) (x : A) → flat_map f (l ++ (x ∷ [])) ≡ flat_map f l ++ f x
unfolding flat_map
flat_more f [] x = append-nil (f x)
flat_more f (y ∷ l) x = ap (λ (r : List ℕ). f y ++ r) (flat_more f l x) ∙ sym (append_assoc (f y) (flat_map f l) (f x))

pub length_zero : {A : Type 0} (l : List A) → length l ≡ 0 → l ≡ []
length_zero [] e = refl
length_zero (x ∷ l) e = absurd (omega (arith, e))
