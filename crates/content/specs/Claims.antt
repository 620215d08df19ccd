-- A claim as the code goes through it: the kind with X, then the ids, then X again.
--
--     named_id, claimed_by     the curve that an id names, of so many; a claim's claimed curve, 0 where it has none
--     and_then                 what is tried after something that may be refused
--     field_named              what is stated, by what `Claim::new` says of kind and X; field_by_name: that is
--                              statement_field
--     no_value                 whether something is refused, without the value: statement_no_value, claim_no_value, so
--                              statement_fault is statement_field, and claim_fault is claim_field
use Rattle.std.specs.Prelude.{ℕ, ◌≡◌, refl, Bool, true, false, ◌||◌, not, List, leb, ltb, length, eqb, Result, Ok, Err}
use Rattle.std.proofs.Common.{◌∙◌}
use Rattle.std.proofs.Math.Option.{Option, none, some}
use Rattle.minplus.specs.Claim as M
use Rattle.curve.specs.declared.Claim.{Claim}
use Rattle.curve.specs.declared.Claim.TheVariants.{Equals, AtMost, Exactly}
use Rattle.curve.specs.declared.ClaimError.{ClaimError}
use Rattle.curve.specs.declared.ClaimError.TheVariants.{UnknownKind, XTooLarge}
use Rattle.curve.specs.Kinds.{named_as, named_by}
use Rattle.content.specs.declared.Refusal.{Refusal}
use Rattle.content.specs.declared.Refusal.TheVariants.{WrongClaim, NoSuchCurve, TooLarge}
use Rattle.content.specs.declared.Stated.{Stated}
use Rattle.content.specs.declared.Statement.{Statement}
use Rattle.content.specs.Layout.{claim_in, claim_length}
use Rattle.content.specs.Refusals.{Checked, on, none_named, kind_fault, statement_fault, claim_fault, stated_of, stated_or, stated, statement_field, claim_field}

-- of so many curves
unfoldable pub named_id : ℕ → ℕ → Result ℕ Refusal
named_id curves id = on {A = ℕ} (leb curves id) NoSuchCurve (Ok id)

unfoldable pub claimed_by : Claim → ℕ → ℕ → Result ℕ Refusal
unfolding named_id
claimed_by (Equals o) curves third = named_id curves third
claimed_by (AtMost x) curves third = Ok 0
claimed_by (Exactly x) curves third = Ok 0

abbrev pub and_then : {A B : Type 0} → Result A Refusal → (A → Result B Refusal) → Result B Refusal
and_then (Ok a) later = later a
and_then (Err x) later = Err x

unfoldable pub field_named : Result Claim ClaimError → ℕ → Statement → Result Stated Refusal
unfolding named_id claimed_by
field_named (Ok said) curves c =
    and_then (named_id curves c.left) (λ (left : ℕ). and_then (named_id curves c.right) (λ (right : ℕ). and_then (claimed_by said curves c.third) (λ (claimed : ℕ).
    Ok (record { claim = said; left = left; right = right; claimed = claimed }))))
field_named (Err UnknownKind) curves c = Err WrongClaim
field_named (Err XTooLarge) curves c = and_then (named_id curves c.left) (λ (left : ℕ). and_then (named_id curves c.right) (λ (right : ℕ). Err TooLarge))

abbrev pub no_value : {A : Type 0} → Result A Refusal → Checked
no_value (Ok a) = Ok tt
no_value (Err x) = Err x

-- ---- laws

abbrev limited : Bool → Claim → Result Claim ClaimError
limited far said = elim far as (λ _. Result Claim ClaimError) [ true ↦ Err XTooLarge | false ↦ Ok said ]

module _ (left right : ℕ) (said : Claim) where
  abbrev whole : ℕ → Stated
  whole claimed = record { claim = said; left = left; right = right; claimed = claimed }

  abbrev tried : Bool → Bool → (ℕ → ℕ → Result Stated Refusal) → Result Stated Refusal
  tried l r later = and_then (on {A = ℕ} l NoSuchCurve (Ok left)) (λ (left : ℕ). and_then (on {A = ℕ} r NoSuchCurve (Ok right)) (λ (right : ℕ). later left right))

  -- kinds 1 to 3
  three_ids : (l r h : Bool) (third : ℕ) → stated_or (on (l || r || h) NoSuchCurve (Ok tt)) (whole third)
      ≡ tried l r (λ (left right : ℕ). and_then (on {A = ℕ} h NoSuchCurve (Ok third)) (λ (claimed : ℕ).
      Ok (record { claim = said; left = left; right = right; claimed = claimed })))
  three_ids true r h third = refl
  three_ids false true h third = refl
  three_ids false false true third = refl
  three_ids false false false third = refl

  -- kinds 4 to 7
  two_ids : (l r far : Bool) → stated_or (on (l || r || r) NoSuchCurve (on far TooLarge (Ok tt))) (whole 0)
      ≡ tried l r (λ (left right : ℕ). elim far as (λ _. Result Stated Refusal) [
        | true ↦ Err TooLarge
        | false ↦ Ok (record { claim = said; left = left; right = right; claimed = 0 })
      ])
  two_ids true r far = refl
  two_ids false true far = refl
  two_ids false false true = refl
  two_ids false false false = refl

module _ (curves : ℕ) (c : Statement) where
  far_tried : (far : Bool) (said : Claim) → claimed_by said curves c.third ≡ Ok 0
      → tried c.left c.right said (leb curves c.left) (leb curves c.right) (λ (left right : ℕ). elim far as (λ _. Result Stated Refusal) [
        | true ↦ Err TooLarge
        | false ↦ Ok (record { claim = said; left = left; right = right; claimed = 0 })
      ])
      ≡ field_named (limited far said) curves c
  unfolding field_named
  far_tried true said no_third = refl
  far_tried false said no_third = rw no_third

  bound_by : (said : Claim) → claimed_by said curves c.third ≡ Ok 0
      → stated_or (on (none_named curves c.left c.right c.right) NoSuchCurve (on (ltb M.max_x c.third) TooLarge (Ok tt))) (whole c.left c.right said 0)
      ≡ field_named (limited (ltb M.max_x c.third) said) curves c
  unfolding none_named
  bound_by said no_third =
      two_ids c.left c.right said (leb curves c.left) (leb curves c.right) (ltb M.max_x c.third) ∙ far_tried (ltb M.max_x c.third) said no_third

  by_kind : (κ : Option M.Kind) → stated κ curves c ≡ field_named (named_as κ c.third) curves c
  unfolding stated named_as field_named
  by_kind none = refl
  by_kind (some (M.result M.sum)) = three_ids c.left c.right _ (leb curves c.left) (leb curves c.right) (leb curves c.third) c.third
  by_kind (some (M.result M.minimum)) = three_ids c.left c.right _ (leb curves c.left) (leb curves c.right) (leb curves c.third) c.third
  by_kind (some (M.result M.convolution)) = three_ids c.left c.right _ (leb curves c.left) (leb curves c.right) (leb curves c.third) c.third
  by_kind (some (M.bound M.delay M.at_most)) = bound_by _ refl
  by_kind (some (M.bound M.delay M.exactly)) = bound_by _ refl
  by_kind (some (M.bound M.backlog M.at_most)) = bound_by _ refl
  by_kind (some (M.bound M.backlog M.exactly)) = bound_by _ refl

  pub field_by_name : statement_field curves c ≡ field_named (named_by c.kind c.third) curves c
  unfolding statement_field named_by
  field_by_name = by_kind (M.kind_by c.kind)

  no_more : (r : Checked) (st : Stated) → r ≡ no_value (stated_or r st)
  no_more (Ok sound) st = refl
  no_more (Err x) st = refl

  pub statement_no_value : statement_fault curves c ≡ no_value (statement_field curves c)
  unfolding statement_fault statement_field stated
  statement_no_value = go (M.kind_by c.kind)
    where
      go : (κ : Option M.Kind) → elim κ as (λ _. Checked) [ none ↦ Err WrongClaim | some κ ↦ kind_fault κ curves c ] ≡ no_value (stated κ curves c)
      go none = refl
      go (some κ) = no_more (kind_fault κ curves c) (stated_of κ c)

pub claim_no_value : (curves : ℕ) (content : List ℕ) → claim_fault curves content ≡ no_value (claim_field curves content)
unfolding claim_fault claim_field
claim_no_value curves content = go (eqb (length content) (claim_length (claim_in content).kind))
  where
    go : (b : Bool) → on (not b) WrongClaim (statement_fault curves (claim_in content)) ≡ no_value (elim b as (λ _. Result Stated Refusal) [ true ↦ statement_field curves (claim_in content) | false ↦ Err WrongClaim ])
    go true = statement_no_value curves (claim_in content)
    go false = refl
