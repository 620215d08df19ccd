-- For an inspector: what an answer and a verdict buffer say of a book, for any bytes.
--
-- `judge` answers answer_of s b on a book of the bytes s with a lent buffer b, and leaves buffer_of s b there. Whatever
-- the bytes, the answer is one of two:
--
--     Refused s b a after     a refusal: document 01's number and place, no totals, and every byte of the buffer as it
--                             was
--     Judged s b a after      the book is sound, there is a record for each claim, the totals count the records, and
--                             the rest of the buffer is as it was; each record is on its claim (ClaimJudged) and says
--                             of it, code by code, what is so at every tick, without end, and which ticks were tried
--                             (Says, Asked); says_one: no two records say all that of one claim
--     inspected               for any s and b; record_back: record k of the buffer is the record on claim k
--     IsClaim, claim_curve     claim k and its curves, as the claim's bytes say it (claim_content)
--     accepted_convolution    for the code 1 of kind 3 spelled out: h(n) is the least f(u)+g(n-u), at every n
--     accepted_delay          code 1 of kind 4 exactly when every tick has a least wait of at most X, and of kind 5
--                             exactly when X is the horizontal deviation; claim_x: X, as the claim's bytes say it
--     certified_means         a certified book: at least one claim, and each holds at every tick
--     (Ground.antt has such books: W8 accepted, W8 refused for want of room, a claim of kind 3 accepted in W4)
use Rattle.std.specs.Prelude.{ℕ, ◌+◌, ◌*◌, ◌≤◌, ◌<◌, ◌≡◌, List, ◌↔◌, get_or, drop}
use Rattle.std.proofs.Math.Option.{some}
use Rattle.std.proofs.Math.ListN.{length}
use Rattle.minplus.specs.Curve.{Curve}
use Rattle.minplus.specs.Claim.{Claim, Claimed, Kind, WellFormedClaim, bounds, equals}
use Rattle.minplus.specs.Horizon.{horizon, max_horizon}
use Rattle.minplus.specs.Verdict.{Record, left_at, right_at, tried}
use Rattle.minplus.specs.Meaning.{Rule, Loose, Outpaced}
use Rattle.content.specs.declared.Refusal.{Refusal}
use Rattle.content.specs.Layout.{kind_in, id_in, claim_in}
use Rattle.field.specs.Fields.{content_at}
use Rattle.content.specs.Refusals.{number_of, stated_of}
use Rattle.book.specs.Reading.{Contents, sound, refused, read_book}
use Rattle.book.specs.Values.{curve_named}
use Rattle.numbers.specs.Numbers.{number_at}
use Rattle.judge.specs.Answer.{refusal_in, place_in, accepted_in, refuted_in, unjudged_in, claims_in, record_size, code_in, record_in}
use Rattle.judge.specs.Claims.{claim_on}
use Rattle.judge.specs.Totals.{is_accepted, is_refuted, is_unjudged, count_to}
use Rattle.judge.specs.Run.{admitted}

-- the ticks that the horizon asks for: "ticks 0 to K+P are compared, the last one included"; "The ticks below it are
-- tried"
abbrev pub Asked : Claim → ℕ → Type 0
Asked (equals op f g h) n = n ≤ horizon (equals op f g h)
Asked (bounds δ t f g X) s = s < horizon (bounds δ t f g X)

-- what a record says of its claim
pub record Says (c : Claim) (r : Record) : Type 0 where
  pub code_known : (1 ≤ r.code) × (r.code ≤ 5)
  -- accepted: exactly when the horizon is within the limit and what document 01's table says of the kind holds at every
  -- tick
  pub code_1 : (r.code ≡ 1) ↔ ((horizon c ≤ max_horizon) × Claimed c)
  -- refuted at a tick: exactly when the named tick is the first that breaks the rule, and a tried one, and both values
  -- are the values there
  pub code_2 : (r.code ≡ 2)
      ↔ ((horizon c ≤ max_horizon) × (r.tick < tried c) × ((m : ℕ) → m < r.tick → Rule c m) × (¬ (Rule c r.tick)) × (r.left ≡ left_at c r.tick) × (r.right ≡ right_at c r.tick))
  -- refuted by rate: exactly when no tried tick breaks the rule and, in kinds 4 to 7, c*d' > c'*d; which says exactly
  -- that no tried tick breaks the rule, and some later one does
  pub code_3 : (r.code ≡ 3) ↔ ((horizon c ≤ max_horizon) × ((n : ℕ) → n < tried c → Rule c n) × Outpaced c)
  pub code_3_later : (r.code ≡ 3) ↔ ((horizon c ≤ max_horizon) × ((n : ℕ) → n < tried c → Rule c n) × ((n : ℕ) × (¬ (Rule c n))))
  -- refuted, not least: exactly when X is a bound at every tick, and X > 0 and X-1 is one too
  pub code_4 : (r.code ≡ 4) ↔ ((horizon c ≤ max_horizon) × ((n : ℕ) → Rule c n) × Loose c)
  -- not judged: exactly when the horizon is above the limit
  pub code_5 : (r.code ≡ 5) ↔ (max_horizon < horizon c)
  -- "For other codes the twenty bytes are 0."
  pub else_zero : ¬ (r.code ≡ 2) → (r.tick ≡ 0) × (r.left ≡ 0) × (r.right ≡ 0)
  -- the ticks tried are those below the count. Of codes 1, 3 and 4 each of them keeps the rule, and they are all that
  -- the horizon asks for: in kinds 1 to 3 those of 0 to the horizon, in kinds 4 to 7 those below it
  pub tried_all : ¬ (r.code ≡ 2) → ¬ (r.code ≡ 5) → (n : ℕ) → ((n < r.tried) ↔ Asked c n) × (n < r.tried → Rule c n)
  -- of code 2 they end at the named tick, and of code 5 there are none
  pub tried_2 : r.code ≡ 2 → r.tried ≡ r.tick + 1
  pub tried_5 : r.code ≡ 5 → r.tried ≡ 0

-- claim k of a sound book, as its bytes say it: "kind, left, right (1 each), then h (1) for kinds 1 to 3 or X (4) for 4
-- to 7"
abbrev pub claim_content : List ℕ → Contents → ℕ → List ℕ
claim_content s c k = content_at s (get_or c.claims k 0)

abbrev pub IsClaim : List ℕ → Contents → ℕ → Claim → Type 0
IsClaim s c k claim =
    (κ : Kind) × (kind_in (claim_content s c k) ≡ some κ) × (claim ≡ claim_on s c.curves (stated_of κ (claim_in (claim_content s c k))))

-- the curve that the n-th byte of a claim's content names: 1 the left, 2 the right, 3 the claimed one
abbrev pub claim_curve : List ℕ → Contents → ℕ → ℕ → Curve
claim_curve s c k n = curve_named s c.curves (id_in (claim_content s c k) n)

-- X of kinds 4 to 7, four bytes after the ids
abbrev pub claim_x : List ℕ → Contents → ℕ → ℕ
claim_x s c k = number_at 4 (claim_content s c k) 3

pub record ClaimJudged (s : List ℕ) (c : Contents) (k : ℕ) (r : Record) : Type 0 where
  pub claim : Claim
  pub is_claim : IsClaim s c k claim
  pub well_formed_lem : WellFormedClaim claim
  pub says : Says claim r

pub record Judged (s b : List ℕ) (a : ℕ) (after : List ℕ) : Type 0 where
  pub contents : Contents
  pub book_sound : read_book s ≡ sound contents
  pub room : record_size * length contents.claims ≤ length b
  pub no_refusal : (refusal_in a ≡ 0) × (place_in a ≡ 0)
  -- the totals are counts over the records in the buffer, and add up
  pub accepted_count : accepted_in a ≡ count_to is_accepted (code_in after) (length contents.claims)
  pub refuted_count : refuted_in a ≡ count_to is_refuted (code_in after) (length contents.claims)
  pub unjudged_count : unjudged_in a ≡ count_to is_unjudged (code_in after) (length contents.claims)
  pub add_up : claims_in a ≡ length contents.claims
  pub each_claim : (k : ℕ) → k < length contents.claims → ClaimJudged s contents k (record_in after k)
  -- "the first [..] bytes per claim are written and the rest stays", "reckoned with 23"
  pub same_length : length after ≡ length b
  pub rest_stays : drop (record_size * length contents.claims) after ≡ drop (record_size * length contents.claims) b

pub record Refused (s b : List ℕ) (a : ℕ) (after : List ℕ) : Type 0 where
  pub refusal : Refusal
  pub place : ℕ
  pub book_refused : admitted s (length b) ≡ refused refusal place
  pub number_and_place : (refusal_in a ≡ number_of refusal) × (place_in a ≡ place)
  pub is_refusal : ¬ (refusal_in a ≡ 0)
  pub no_totals : (accepted_in a ≡ 0) × (refuted_in a ≡ 0) × (unjudged_in a ≡ 0)
  pub nothing_written : after ≡ b
