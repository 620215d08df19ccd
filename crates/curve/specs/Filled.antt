-- An array that is filled from the front, one store a turn, and is 0 from there on.
--
--     in_array room l    an array of that room with l at its front: array_more, after one more store; array_at, what is
--                        stored
--     list_of F k        F(0) to F(k-1)
--     filled F room k    that list in an array: the array after k stores
--     filled_none, filled_more     before the first store, and after one more
--     filled-length, filled_at     how long it is, and what is stored
--     filled_taken       the stored part of it; filled_same: it depends on what is stored alone
--     length-list_of, list_of_at     how long that list is, and what is at a place
--     over F k s         s with F(0) to F(k-1) over its first k places: over_none, over-more, before the first store
--                        and after one more; over-length, as many places as before; over_at, over_past: what is stored,
--                        and what stays; over_same: it depends on what is stored alone
use Rattle.std.specs.Prelude.{ℕ, zero, suc, ◌+◌, ◌-◌, ◌≤◌, ◌<◌, ◌≡◌, refl, List, [], ◌∷◌, ◌++◌, length, get_or, set, take, drop, replicate}
use Rattle.std.proofs.Common.{sym, ap, ◌∙◌, append_assoc, arith, add-one, length-append, length-drop, take_at, drop-cons, get_or-append-add, get_or-drop, below_more}
use Rattle.std.proofs.Math.Nat.{sub-zero}
use Rattle.std.proofs.lemmas.List.{length-replicate, set_at, get_or_at}
use Rattle.std.proofs.Math.ListN.{get_or-append}
use Rattle.std.proofs.Math.Seq.{append_snoc}

unfoldable pub in_array : ℕ → List ℕ → List ℕ
in_array room l = l ++ replicate {A = ℕ} (room - length l) 0

unfoldable pub list_of : (ℕ → ℕ) → ℕ → List ℕ
list_of F zero = []
list_of F (suc k) = list_of F k ++ (F k ∷ [])

unfoldable pub filled : (ℕ → ℕ) → ℕ → ℕ → List ℕ
unfolding in_array list_of
filled F room k = in_array room (list_of F k)

pub array_more : (room : ℕ) (l : List ℕ) (x n : ℕ) → length l ≡ n → n < room → set (in_array room l) n x ≡ in_array room (l ++ (x ∷ []))
unfolding in_array
array_more room l x n long lt =
    let rest : ℕ = room - suc n in
    let e : room - length l ≡ suc rest = omega arith in
    let e' : room - length (l ++ (x ∷ [])) ≡ rest = simp length-append (omega arith) in
    rw (e, e') (set_at l 0 (replicate {A = ℕ} rest 0) x n long ∙ sym (append_assoc l (x ∷ []) (replicate {A = ℕ} rest 0)))

pub array_at : (room : ℕ) (l : List ℕ) (k : ℕ) → k < length l → get_or (in_array room l) k 0 ≡ get_or l k 0
unfolding in_array
array_at room l k lt = get_or-append l (replicate {A = ℕ} (room - length l) 0) 0 k lt

pub length-list_of : (F : ℕ → ℕ) (k : ℕ) → length (list_of F k) ≡ k
unfolding list_of
length-list_of F zero = refl
length-list_of F (suc k) = simp (length-append, length-list_of F k) (omega arith)

pub list_of_at : (F : ℕ → ℕ) (k i : ℕ) → i < k → get_or (list_of F k) i 0 ≡ F i
unfolding list_of
list_of_at F zero i lt = absurd (omega (arith, lt))
list_of_at F (suc k) i lt =
    below_more (λ j. get_or (list_of F k ++ (F k ∷ [])) j 0 ≡ F j) k
    (λ j less. get_or-append (list_of F k) (F k ∷ []) 0 j (omega (arith, length-list_of F k)) ∙ list_of_at F k j less)
    (get_or_at (list_of F k) (F k) [] 0 k (length-list_of F k)) i (omega arith)

pub filled_none : (F : ℕ → ℕ) (room : ℕ) → filled F room 0 ≡ replicate {A = ℕ} room 0
unfolding filled
filled_none F room = ap (λ (k : ℕ). replicate {A = ℕ} k 0) (sub-zero room)

pub filled_more : (F : ℕ → ℕ) (room k : ℕ) → k < room → set (filled F room k) k (F k) ≡ filled F room (k + 1)
unfolding filled
filled_more F room k lt = rw (add-one k) (array_more room (list_of F k) (F k) k (length-list_of F k) lt)

pub filled-length : (F : ℕ → ℕ) (room k : ℕ) → k ≤ room → length (filled F room k) ≡ room
unfolding filled
filled-length F room k le = simp (length-append, length-list_of F k, length-replicate) (omega arith)

pub filled_at : (F : ℕ → ℕ) (room k i : ℕ) → i < k → get_or (filled F room k) i 0 ≡ F i
unfolding filled
filled_at F room k i lt = array_at room (list_of F k) i (omega (arith, length-list_of F k)) ∙ list_of_at F k i lt

pub filled_taken : (F : ℕ → ℕ) (room k : ℕ) → take k (filled F room k) ≡ list_of F k
unfolding filled
filled_taken F room k = take_at (list_of F k) (replicate {A = ℕ} (room - length (list_of F k)) 0) k (length-list_of F k)

pub list_of_same : (F G : ℕ → ℕ) (k : ℕ) → ((n : ℕ) → n < k → F n ≡ G n) → list_of F k ≡ list_of G k
unfolding list_of
list_of_same F G zero same = refl
list_of_same F G (suc k) same = rw (list_of_same F G k (λ n lt. same n (omega arith)), same k (omega arith))

pub filled_same : (F G : ℕ → ℕ) (room k : ℕ) → ((n : ℕ) → n < k → F n ≡ G n) → filled F room k ≡ filled G room k
unfolding filled
filled_same F G room k same = rw (list_of_same F G k same)

-- ---- over what stands there

unfoldable pub over : (ℕ → ℕ) → ℕ → List ℕ → List ℕ
unfolding list_of
over F k s = list_of F k ++ drop k s

pub over_none : (F : ℕ → ℕ) (s : List ℕ) → over F 0 s ≡ s
unfolding over
over_none F s = refl

pub over-more : (F : ℕ → ℕ) (k : ℕ) (s : List ℕ) → k < length s → set (over F k s) k (F k) ≡ over F (k + 1) s
unfolding over
over-more F k s lt =
    rw (add-one k, drop-cons s k 0 lt)
    (set_at (list_of F k) (get_or s k 0) (drop (suc k) s) (F k) k (length-list_of F k) ∙ sym (append_snoc (list_of F k) (F k) (drop (suc k) s)))

pub over-length : (F : ℕ → ℕ) (k : ℕ) (s : List ℕ) → k ≤ length s → length (over F k s) ≡ length s
unfolding over
over-length F k s le = simp (length-append, length-list_of F k, length-drop) (omega arith)

pub over_at : (F : ℕ → ℕ) (k : ℕ) (s : List ℕ) (n : ℕ) → n < k → get_or (over F k s) n 0 ≡ F n
unfolding over
over_at F k s n lt = get_or-append (list_of F k) (drop k s) 0 n (omega (arith, length-list_of F k)) ∙ list_of_at F k n lt

pub over_past : (F : ℕ → ℕ) (k : ℕ) (s : List ℕ) (n : ℕ) → k ≤ n → get_or (over F k s) n 0 ≡ get_or s n 0
unfolding over
over_past F k s n le =
    let at : length (list_of F k) + (n - k) ≡ n = omega (arith, length-list_of F k) in
    let there : k + (n - k) ≡ n = omega arith in
    ap (λ (m : ℕ). get_or (list_of F k ++ drop k s) m 0) (sym at) ∙ get_or-append-add (list_of F k) (drop k s) (n - k) 0 ∙ get_or-drop k s (n - k) 0
    ∙ ap (λ (m : ℕ). get_or s m 0) there

pub over_same : (F G : ℕ → ℕ) (k : ℕ) (s : List ℕ) → ((n : ℕ) → n < k → F n ≡ G n) → over F k s ≡ over G k s
unfolding over
over_same F G k s same = ap (λ (l : List ℕ). l ++ drop k s) (list_of_same F G k same)
