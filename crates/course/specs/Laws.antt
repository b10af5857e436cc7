-- Laws over whole runs of an audit.
use Rattle.std.specs.Prelude.{◌≡◌, ℕ, zero, suc, ◌+◌, ◌^◌, ◌<◌, ◌≤◌, Bool, true, false, List, [], ◌∷◌, ◌++◌, length, get_or, sum, Option, slice_index_or}
use Rattle.std.specs.List.{AllByRecursion}
use Rattle.assorter.specs.Law.{JustWhen}
use Rattle.betting.specs.Accounts.{Account}
use Rattle.betting.specs.Sums.{settled}
use Rattle.verdict.specs.declared.Finding.{Finding}
use Rattle.verdict.specs.declared.Finding.TheVariants.{Confirm}
use Rattle.course.specs.Terms.{Terms}
use Rattle.course.specs.Course.{Rules, State, Call, Answer, course, step}
use Rattle.course.specs.Course.Call.{entry, verdict, escalation, hand_count, closing}
use Rattle.course.specs.Course.Answer.{refused, taken, finding, upheld}
use Rattle.course.specs.Scripts.{CastCards, Move, Hand, calls, show_drawn}
use Rattle.course.specs.Bounds.{Fits, Opened, accounts_of}

-- 1 for an entry that was taken.
abbrev pub one_if_taken : Answer → ℕ
one_if_taken (refused r) = 0
one_if_taken taken = 1
one_if_taken (finding f d rs) = 0
one_if_taken (upheld us) = 0

abbrev pub taken_entry : Call → Answer → ℕ
taken_entry (entry e) a = one_if_taken a
taken_entry verdict a = 0
taken_entry escalation a = 0
taken_entry (hand_count e) a = 0
taken_entry closing a = 0

-- A call that may come before the escalation.
abbrev pub BeforeEscalation : Call → Type 0
BeforeEscalation (entry e) = Unit {0}
BeforeEscalation verdict = Unit {0}
BeforeEscalation escalation = ⊥
BeforeEscalation (hand_count e) = ⊥
BeforeEscalation closing = ⊥

-- The counts of the places 1 to n in their order, each card found or missing.
abbrev pub counts_to : CastCards → ℕ → List Call
counts_to b zero = []
counts_to b (suc n) = counts_to b n ++ (hand_count (show_drawn b (suc n)) ∷ [])

-- The game stands as it stood; only the tally may differ.
pub record SameGame {A S : Type 0} (x y : Account A S) : Type 0 where
  pub same_assorter : x.assorter ≡ y.assorter
  pub same_state : x.state ≡ y.state
  pub same_wealth : x.wealth ≡ y.wealth
  pub same_peak : x.peak ≡ y.peak

module _ {A S : Type 0} (R : Rules A S) (t : Terms) where
  -- The state that the calls leave.
  abbrev pub left_by : State A S → List Call → State A S
  left_by σ [] = σ
  left_by σ (c ∷ cs) = left_by (step R t σ c).0 cs

  -- How many entries among the calls are taken.
  abbrev pub taken_entries : State A S → List Call → ℕ
  taken_entries σ [] = 0
  taken_entries σ (c ∷ cs) = taken_entry c (step R t σ c).1 + taken_entries (step R t σ c).0 cs

  -- A verdict after the calls answers this.
  abbrev pub Finds : State A S → List Call → Finding → ℕ → List ℕ → Type 0
  Finds σ cs f d rs = (step R t (left_by σ cs) verdict).1 ≡ finding f d rs

  -- All claims of contest k hold of the cards.
  abbrev pub ClaimsHold : State A S → CastCards → ℕ → Type 0
  ClaimsHold σ b k = AllByRecursion (λ x. R.claim x.assorter b.cards) (accounts_of R t σ k)

  -- The call upholds only contests whose claims hold.
  abbrev pub UpholdsTruly : State A S → CastCards → State A S × Answer → Type 0
  UpholdsTruly σ b x = elim x.1 [
    | refused r ↦ Unit {0}
    | taken ↦ Unit {0}
    | finding f d rs ↦ Unit {0}
    | upheld us ↦ ((k : ℕ) → slice_index_or us k false ≡ true → ClaimsHold σ b k)
  ]

  -- What the closing answers after these calls, the escalation and the counts of all places.
  abbrev pub closing_answer : State A S → List Call → CastCards → Answer
  closing_answer σ before b = (step R t (left_by σ (before ++ (escalation ∷ counts_to b t.cards))) closing).1

  -- After all places were counted the closing is answered, and upholds a contest only if it holds, and, where no card is
  -- missing, just then.
  pub record ClosesBy (Holds : ℕ → Type 0) (σ : State A S) (before : List Call) (b : CastCards) : Type 0 where
    pub outcomes : List Bool
    pub answer : closing_answer σ before b ≡ upheld outcomes
    pub only_if : (k : ℕ) → k < length t.assertions → slice_index_or outcomes k false ≡ true → Holds k
    pub just_when :
        ((i : ℕ) → b.missing i ≡ false) →
        (k : ℕ) → k < length t.assertions → JustWhen (slice_index_or outcomes k false ≡ true) (Holds k)

module _ {A S : Type 0} (R : Rules A S) where
  -- Every verdict confirms just when each contest's risk is at most the risk limit.
  abbrev pub ConfirmsByRisk : Type 0
  ConfirmsByRisk =
      (t : Terms) (σ : State A S) → sum t.assertions ≡ length σ.accounts → t.limit < 2 ^ 16 →
      (cs : List Call) (f : Finding) (d : ℕ) (rs : List ℕ) → Finds R t σ cs f d rs →
      JustWhen (f ≡ Confirm) (AllByRecursion (λ r. r ≤ t.limit) rs)

  -- Every verdict's draw count is the number of entries that were taken.
  abbrev pub CountsDraws : Type 0
  CountsDraws =
      (t : Terms) (σ : State A S) → Opened σ →
      (cs : List Call) (f : Finding) (d : ℕ) (rs : List ℕ) → Finds R t σ cs f d rs → d ≡ taken_entries R t σ cs

  -- Once an account is settled, its game never moves again.
  abbrev pub SettledStays : Type 0
  SettledStays =
      (t : Terms) (σ : State A S) (cs : List Call) (j : ℕ) (x : Account A S) → j < length σ.accounts →
      settled (get_or σ.accounts j x).peak t.limit ≡ true →
      SameGame (slice_index_or (left_by R t σ cs).accounts j x) (slice_index_or σ.accounts j x)

  -- A hand count of all places decides each contest, whatever was entered before.
  abbrev pub CountsDecide : Type 0
  CountsDecide =
      (t : Terms) (σ : State A S) → Opened σ → t.cards ≤ 65535 →
      (before : List Call) → AllByRecursion BeforeEscalation before → (b : CastCards) → Fits t b →
      ClosesBy R t (ClaimsHold R t σ b) σ before b

  -- No script upholds a contest of which a claim is false.
  abbrev pub NeverUpholdsWrongly : Type 0
  NeverUpholdsWrongly =
      (t : Terms) (σ : State A S) → Opened σ → (b : CastCards) → Fits t b →
      (ms : List (Move t)) (hs : Option (List (Hand t))) (s : List ℕ) →
      AllByRecursion (UpholdsTruly R t σ b) (course R t σ (calls t b ms hs s))
