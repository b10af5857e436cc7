-- Where a command stands, what it leaves, and where the file ends.
use Rattle.std.proofs.Common.{◌≡◌, ℕ, ◌-◌, ◌≤◌, min, true, List, map, length, take, Some, None, Ok, Err, Option, Result, sym, refl, ap, ◌∙◌, subst, inl, inr, arith}
use lib.ListN.{length-map}
use Rattle.std.proofs.lemmas.List.{length-take}
use Rattle.std.proofs.lemmas.Bool.{both_ways}
use Rattle.refusal.specs.declared.File.TheVariants.{Draws}
use Rattle.refusal.specs.declared.Refusal.{Refusal}
use Rattle.betting.specs.Accounts.{Account}
use Rattle.format.specs.declared.command.Phase.{Phase}
use Rattle.format.specs.Format.{Cmd, allowed, code, next}
use Rattle.format.proofs.Writing.{taken_as_written}
use Rattle.course.specs.Terms.{Terms}
use Rattle.course.specs.Course as course
use Rattle.course.specs.Course.{Rules, State, Call, step}
use Rattle.course.specs.Course.Answer.{refused, taken, finding, upheld}
use Rattle.course.proofs.Runs.{step_length}
use Rattle.calls.specs.declared.answers.Answer.{Answer}
use Rattle.calls.specs.declared.answers.Standing.{Standing}
use Rattle.calls.specs.declared.answers.Standing.TheVariants.{Drawing, Counting}
use Rattle.calls.specs.Calls.{code_answer, standing_state, standing_terms}
use Rattle.replay.specs.Following.{Asked, standing_phase}
use Rattle.replay.specs.Replays.{CallRefused, StandsAt, Stops, call_of}

-- ---- the phase

phase_is : (ph : Phase) (s : Standing) (b : ℕ) → StandsAt ph s → allowed ph b ≡ true → ph ≡ standing_phase s
phase_is ph (Drawing audit) b e ok = e
phase_is ph (Counting hand) b (inl e) ok = e
phase_is ph (Counting hand) b (inr e) ok = absurd (both_ways (allowed ph b) (ap (λ (x : Phase). allowed x b) e) ok)

module _ (ph : Phase) (s : Standing) (m : Cmd) (rest after : List ℕ) (stands : StandsAt ph s)
    (n : next ph rest ≡ Ok (record { command = m; rest = after })) where
  pub taken_phase : ph ≡ standing_phase s
  taken_phase = phase_is ph s (code m) stands (taken_as_written ph m rest after n).1

  pub taken_allowed : allowed (standing_phase s) (code m) ≡ true
  taken_allowed =
      subst (λ (x : Phase). allowed x (code m) ≡ true) taken_phase (taken_as_written ph m rest after n).1

-- ---- the records

module _ {A S : Type 0} where
  state_accounts : (s : Standing) (xs : List (Account A S)) → (standing_state s xs).accounts ≡ take (standing_terms s).needed xs
  state_accounts (Drawing audit) xs = refl
  state_accounts (Counting hand) xs = refl

  asked_length :
      (R : Rules A S) (t : Terms) (σ τ : State A S) (o : Option Call) (a : Result Answer Refusal) → Asked R t σ o (τ, a) →
      length τ.accounts ≡ length σ.accounts
  asked_length R t σ τ None a nothing = absurd nothing
  asked_length R t σ τ (Some c) a is =
      ap (λ (x : State A S × Result Answer Refusal). length x.0.accounts) is ∙ step_length R t σ c

  -- as many records are left
  pub room_kept :
      {X : Type 0} (f : X → Account A S) (n : ℕ) (s u : Standing) (xs ys : List X) → (standing_terms s).needed ≡ n →
      (standing_terms u).needed ≡ n → n ≤ length xs →
      (R : Rules A S) (t : Terms) (o : Option Call) (a : Result Answer Refusal) → Asked R t (standing_state s (map f xs)) o (standing_state u (map f ys), a) →
      n ≤ length ys
  room_kept f n s u xs ys e d h R t o a is =
      let same = asked_length R t (standing_state s (map f xs)) (standing_state u (map f ys)) o a is in
      let was : length (standing_state s (map f xs)).accounts ≡ min n (length xs) =
      ap length (state_accounts s (map f xs)) ∙ ap (λ k. length (take k (map f xs))) e ∙ length-take n (map f xs)
      ∙ ap (min n) (length-map xs f) in
      let now : length (standing_state u (map f ys)).accounts ≡ min n (length ys) =
      ap length (state_accounts u (map f ys)) ∙ ap (λ k. length (take k (map f ys))) d ∙ length-take n (map f ys)
      ∙ ap (min n) (length-map ys f) in
      omega (arith, same, was, now)

-- ---- the fault

-- the code refuses only what the course refuses
is_refused : (e : Refusal) (a : course.Answer) → code_answer a ≡ Err e → a ≡ refused e
is_refused e (refused r) same = cc
is_refused e taken same = cc
is_refused e (finding f d rs) same = cc
is_refused e (upheld us) same = cc

module _ {A S : Type 0} (R : Rules A S) (t : Terms) (σ τ : State A S) where
  refused_call : (e : Refusal) (o : Option Call) → Asked R t σ o (τ, Err e) → CallRefused R t σ e o
  refused_call e None nothing = nothing
  refused_call e (Some c) is = is_refused e (step R t σ c).1 (sym (ap (λ (x : State A S × Result Answer Refusal). x.1) is))

  pub stops_refused :
      (file rest after : List ℕ) (ph : Phase) (m : Cmd) (e : Refusal) →
      next ph rest ≡ Ok (record { command = m; rest = after }) → Asked R t σ (call_of m) (τ, Err e) →
      1 ≤ length rest → length rest ≤ length file →
      Stops R t file rest ph σ (Some (record { refusal = e; file = Draws; offset = length file - length rest }))
  stops_refused file rest after ph m e n is some h =
      (some, refl, omega arith, inr (m, after, n, refused_call e (call_of m) is))
