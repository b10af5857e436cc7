-- The two bounds on an audit of a contest that the cards contradict.
use Rattle.std.specs.Prelude.{◌≡◌, ℕ, ◌<◌, ◌≤◌, true, false, ◌⊎◌, List, [], ◌∷◌, length, Option, slice_index, slice_index_or}
use Rattle.std.specs.List.{AllByRecursion}
use Rattle.chance.specs.Sequences.{sequences, AtMostIn, Counted}
use Rattle.betting.specs.Accounts.{Account, fresh_account}
use Rattle.verdict.specs.declared.Finding.TheVariants.{Confirm}
use Rattle.course.specs.Terms.{Terms, marks_fit}
use Rattle.course.specs.Course.{Rules, State, Answer, parts, risks, course}
use Rattle.course.specs.Course.Answer.{refused, taken, finding, upheld}
use Rattle.course.specs.Scripts.{CastCards, Move, Hand, calls, draws_in}

-- Some element has the property.
abbrev pub Any : {X : Type 0} → (X → Type 0) → List X → Type 0
Any P [] = ⊥
Any P (x ∷ xs) = P x ⊎ Any P xs

-- They are as many cards as the audit has, each marked for candidates alone.
pub record Fits (t : Terms) (b : CastCards) : Type 0 where
  pub number : length b.cards ≡ t.cards
  pub marked : AllByRecursion (λ card. marks_fit t.candidates card.marks ≡ true) b.cards

-- An audit just opened: its accounts have seen no card.
pub record Opened {A S : Type 0} (σ : State A S) : Type 0 where
  pub fresh : AllByRecursion (λ x. x ≡ fresh_account x.assorter x.state) σ.accounts
  pub undrawn : σ.drawn ≡ 0
  pub uncounted : σ.counted ≡ 0

module _ {A S : Type 0} (R : Rules A S) (t : Terms) (σ : State A S) where
  -- Contest k's part of the accounts, counted from 0.
  abbrev pub accounts_of : ℕ → List (Account A S)
  accounts_of k = slice_index_or (parts t.assertions σ.accounts) k []

  -- Some claim of contest k is false of the cards.
  abbrev pub Contradicted : CastCards → ℕ → Type 0
  Contradicted b k = Any (λ x. R.claim x.assorter b.cards → ⊥) (accounts_of k)

  -- After the call contest k's measured risk is at most p thousandths.
  abbrev pub LowRisk : ℕ → ℕ → State A S × Answer → Type 0
  LowRisk k p x = (k < length t.assertions) × (slice_index (risks t x.0) k ≤ p)

  -- The call confirms, or upholds a contest that the cards contradict.
  abbrev pub WrongAnswer : CastCards → State A S × Answer → Type 0
  WrongAnswer b x = elim x.1 [
    | refused r ↦ ⊥
    | taken ↦ ⊥
    | finding f d rs ↦ f ≡ Confirm
    | upheld us ↦ (k : ℕ) × Contradicted b k × (slice_index_or us k false ≡ true)
  ]

  -- Where the draws name these places, some call of the script leaves and answers so.
  abbrev pub Brings : CastCards → List (Move t) → Option (List (Hand t)) → (State A S × Answer → Type 0) → List ℕ → Type 0
  Brings b ms hs Q s = Any Q (course R t σ (calls t b ms hs s))

  -- Whatever the script: at most p in every so many of its draw sequences bring it.
  abbrev pub AtMostBring : CastCards → ℕ → ℕ → (State A S × Answer → Type 0) → Type 0
  AtMostBring b p so_many Q =
      (ms : List (Move t)) (hs : Option (List (Hand t))) →
      AtMostIn p so_many (sequences t.cards (draws_in ms)) (Brings b ms hs Q)

  -- Whatever the script: there is a number of its draw sequences that bring it.
  abbrev pub SoManyBring : CastCards → (State A S × Answer → Type 0) → Type 0
  SoManyBring b Q =
      (ms : List (Move t)) (hs : Option (List (Hand t))) →
      (m : ℕ) × Counted (Brings b ms hs Q) (sequences t.cards (draws_in ms)) m

  -- At most p in 1,000 bring a contradicted contest's risk to p thousandths.
  abbrev pub RiskMeasured : Type 0
  RiskMeasured = (b : CastCards) → Fits t b → (k : ℕ) → Contradicted b k → (p : ℕ) → AtMostBring b p 1000 (LowRisk k p)

  -- At most the risk limit's share confirm, or uphold what the cards contradict.
  abbrev pub RiskLimited : Type 0
  RiskLimited = (b : CastCards) → Fits t b → (k : ℕ) → Contradicted b k → AtMostBring b t.limit 1000 (WrongAnswer b)

  -- Both events have their number.
  pub record HasCounts (b : CastCards) : Type 0 where
    pub low_risks : (k p : ℕ) → SoManyBring b (LowRisk k p)
    pub wrong_answers : SoManyBring b (WrongAnswer b)

module _ {A S : Type 0} (R : Rules A S) where
  -- So the bounds speak of every script.
  abbrev pub CountsExist : Type 0
  CountsExist = (t : Terms) (σ : State A S) (b : CastCards) → HasCounts R t σ b

  -- Both bounds hold of every audit that is opened by these rules.
  abbrev pub MeasuresRisk : Type 0
  MeasuresRisk = (t : Terms) (σ : State A S) → Opened σ → RiskMeasured R t σ

  abbrev pub LimitsRisk : Type 0
  LimitsRisk = (t : Terms) (σ : State A S) → Opened σ → RiskLimited R t σ
