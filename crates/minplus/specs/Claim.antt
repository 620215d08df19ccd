-- The kinds of claim, what each says of its curves, and at which ticks.
--
-- Document 01, 'Claims': "f is the left curve, g the right one, h the claimed one. The same curve may stand in two or
-- three places", and the table of kinds 1 to 7.
--
--     Operation, due       kinds 1 to 3: the value that h has to have at a tick
--     Deviation, allowed   kinds 4 to 7: the value that f may have at a tick; Tightness: a bound, or the least one
--     Bound                f stays within what is allowed, at every tick
--     VerticalDeviation    the trade's definition of the backlog, which kind 7 claims (backlog_exact)
--     LeastWait            how long f(s) waits until g serves it; WaitsAtMost: no tick waits longer than X, which kind
--                          4 claims where g never falls
--     HorizontalDeviation  source document 003's definition of the delay, which kind 5 claims there (delay_means,
--                          proofs/Delay.antt)
--     Kind, kind_number    the seven kinds and their numbers
--     kind_by              the kind of a number, if it is one's: exactly what kind_number says (kind_by_lem, kind_none)
--     Claim, kind_of       a claim over its curves, and its kind
--     WellFormedClaim      its curves are well formed and X is within its limit (max_x); well_formed_claim is the same
--                          as a test (well_formed_claim_lem)
--     Claimed              what it says: the table's right column
use Rattle.std.specs.Prelude.{ℕ, ◌+◌, ◌-◌, ◌≤◌, ◌<◌, min, ◌≡◌, refl, Bool, true, ◌&&◌, List, [], ◌∷◌, ◌↔◌, leb}
use Rattle.std.proofs.Math.Option.{Option, none, some}
use Rattle.std.proofs.Common.{leb-true, le-leb}
use Rattle.minplus.specs.Search.{both_true, numbered, numbered-so, numbered_none}
use Rattle.minplus.specs.Curve.{Curve, WellFormed, well_formed, well_formed_lem, value}
use Rattle.minplus.specs.Conv.{conv}

pub data Operation : Type 0 where
  sum minimum convolution : Operation

pub data Deviation : Type 0 where
  delay backlog : Deviation

-- a bound, or the least bound
pub data Tightness : Type 0 where
  at_most exactly : Tightness

unfoldable pub due : Operation → (ℕ → ℕ) → (ℕ → ℕ) → ℕ → ℕ
unfolding conv
due sum f g n = f n + g n
due minimum f g n = min (f n) (g n)
due convolution f g n = conv f g n

unfoldable pub allowed : Deviation → (ℕ → ℕ) → ℕ → ℕ → ℕ
allowed delay g X s = g (s + X)
allowed backlog g X s = g s + X

abbrev pub Bound : Deviation → (ℕ → ℕ) → (ℕ → ℕ) → ℕ → Type 0
Bound δ f g X = (s : ℕ) → f s ≤ allowed δ g X s

-- "The backlog is the trade's vertical deviation, the greatest f(s)-g(s)": X is that, where a difference below 0 counts
-- as 0
abbrev pub VerticalDeviation : (ℕ → ℕ) → (ℕ → ℕ) → ℕ → Type 0
VerticalDeviation f g X = ((s : ℕ) → f s - g s ≤ X) × ((s : ℕ) × (f s - g s ≡ X))

-- Source document 003, equation 7, with f, g and w for its letters: h(f,g) is the sup, over all s >= 0, of the inf of
-- those w >= 0 for which f(s) <= g(s+w). On ticks, the inf: a wait of w serves f(s), and no sooner one does
pub record LeastWait (f g : ℕ → ℕ) (s w : ℕ) : Type 0 where
  pub serves : f s ≤ g (s + w)
  pub no_sooner : (v : ℕ) → v < w → g (s + v) < f s

-- every tick has a least wait, and it is at most X
abbrev pub WaitsAtMost : (ℕ → ℕ) → (ℕ → ℕ) → ℕ → Type 0
WaitsAtMost f g X = (s : ℕ) → (w : ℕ) × LeastWait f g s w × (w ≤ X)

-- the sup, which is attained: the largest, over all s, of the least wait that serves f(s)
abbrev pub HorizontalDeviation : (ℕ → ℕ) → (ℕ → ℕ) → ℕ → Type 0
HorizontalDeviation f g X = WaitsAtMost f g X × ((s : ℕ) × LeastWait f g s X)

pub data Kind : Type 0 where
  result : Operation → Kind
  bound : Deviation → Tightness → Kind

unfoldable pub kind_number : Kind → ℕ
kind_number (result sum) = 1
kind_number (result minimum) = 2
kind_number (result convolution) = 3
kind_number (bound delay at_most) = 4
kind_number (bound delay exactly) = 5
kind_number (bound backlog at_most) = 6
kind_number (bound backlog exactly) = 7

abbrev kinds : List Kind
kinds =
    result sum ∷ result minimum ∷ result convolution ∷ bound delay at_most ∷ bound delay exactly ∷ bound backlog at_most ∷ bound backlog exactly ∷ []

unfoldable pub kind_by : ℕ → Option Kind
unfolding numbered kind_number
kind_by k = numbered kind_number kinds k

pub data Claim : Type 0 where
  equals : Operation → (f g h : Curve) → Claim
  bounds : Deviation → Tightness → (f g : Curve) (X : ℕ) → Claim

-- "X is at most 1,000,000,000."
abbrev pub max_x : ℕ
max_x = 1_000_000_000

abbrev pub WellFormedClaim : Claim → Type 0
WellFormedClaim (equals op f g h) = WellFormed f × WellFormed g × WellFormed h
WellFormedClaim (bounds δ t f g X) = WellFormed f × WellFormed g × (X ≤ max_x)

-- WellFormedClaim as a test
unfoldable pub well_formed_claim : Claim → Bool
unfolding well_formed
well_formed_claim (equals op f g h) = well_formed f && well_formed g && well_formed h
well_formed_claim (bounds δ t f g X) = well_formed f && well_formed g && leb X max_x

unfoldable pub kind_of : Claim → Kind
kind_of (equals op f g h) = result op
kind_of (bounds δ t f g X) = bound δ t

-- what a claim says: the table's "Accepted when, at every tick n or s"
abbrev pub Claimed : Claim → Type 0
Claimed (equals op f g h) = (n : ℕ) → value h n ≡ due op (value f) (value g) n
Claimed (bounds δ at_most f g X) = Bound δ (value f) (value g) X
Claimed (bounds δ exactly f g X) = Bound δ (value f) (value g) X × (0 < X → ¬ (Bound δ (value f) (value g) (X - 1)))

pub kind_by_lem : (k : ℕ) (κ : Kind) → (kind_by k ≡ some κ) ↔ (k ≡ kind_number κ)
unfolding kind_by
kind_by_lem k κ = (numbered-so kind_number kinds k κ, λ e. rw e (back κ))
  where
    back : (κ : Kind) → kind_by (kind_number κ) ≡ some κ
    back (result sum) = refl
    back (result minimum) = refl
    back (result convolution) = refl
    back (bound delay at_most) = refl
    back (bound delay exactly) = refl
    back (bound backlog at_most) = refl
    back (bound backlog exactly) = refl

pub kind_none : (k : ℕ) → ((κ : Kind) → ¬ (k ≡ kind_number κ)) → kind_by k ≡ none
unfolding kind_by
kind_none = numbered_none kind_number kinds

pub well_formed_claim_lem : (c : Claim) → (well_formed_claim c ≡ true) ↔ WellFormedClaim c
unfolding well_formed_claim
well_formed_claim_lem (equals op f g h) =
    let two = both_true (well_formed f) (well_formed g) in
    let three = both_true _ (well_formed h) in (
      λ e. ((well_formed_lem f).0 (two.0 (three.0 e).0).0, (well_formed_lem g).0 (two.0 (three.0 e).0).1, (well_formed_lem h).0 (three.0 e).1),
      λ w. three.1 (two.1 ((well_formed_lem f).1 w.0, (well_formed_lem g).1 w.1), (well_formed_lem h).1 w.2),
    )
well_formed_claim_lem (bounds δ t f g X) =
    let two = both_true (well_formed f) (well_formed g) in
    let three = both_true _ (leb X max_x) in (
      λ e. ((well_formed_lem f).0 (two.0 (three.0 e).0).0, (well_formed_lem g).0 (two.0 (three.0 e).0).1, leb-true _ _ (three.0 e).1),
      λ w. three.1 (two.1 ((well_formed_lem f).1 w.0, (well_formed_lem g).1 w.1), le-leb _ _ w.2),
    )
