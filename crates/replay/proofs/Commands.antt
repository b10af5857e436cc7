-- One command more.
use Rattle.std.proofs.Common.{◌≡◌, ℕ, true, List, [], ◌∷◌, ◌++◌, map, Some, None, Ok, Option, Result, sym, refl, ap, ◌∙◌, subst}
use Rattle.std.specs.Option.{option_to_list}
use Rattle.std.proofs.lemmas.List.{flat_map_more, map_push}
use Rattle.format.specs.declared.command.Phase.{Phase}
use Rattle.format.specs.declared.command.Phase.TheVariants as at
use Rattle.format.specs.Format.{Cmd, allowed, code, next}
use Rattle.format.specs.Written.{Writes}
use Rattle.setup.specs.Described.{WrittenBefore}
use Rattle.format.proofs.Writing.{taken_as_written}
use Rattle.course.specs.Terms.{Terms}
use Rattle.course.specs.Course.{Rules, State, Call, course, step}
use Rattle.course.specs.Laws.{left_by}
use Rattle.refusal.specs.declared.Refusal.{Refusal}
use Rattle.calls.specs.declared.answers.Answer.{Answer}
use Rattle.calls.specs.Calls.{code_answer, in_code}
use Rattle.replay.specs.Following.{Asked}
use Rattle.replay.specs.Replays.{Followed, InOrder, call_of, calls_of, phase_after}

written_more :
    (ms : List Cmd) (m : Cmd) (bs rest after : List ℕ) → WrittenBefore ms bs rest → Writes m rest after →
    WrittenBefore (ms ++ (m ∷ [])) bs after
written_more [] m bs rest after same w = (after, subst (λ (xs : List ℕ). Writes m xs after) (sym same) w, refl)
written_more (x ∷ ms) m bs rest after (mid, first, others) w = (mid, first, written_more ms m mid rest after others w)

order_more :
    (ms : List Cmd) (m : Cmd) (p q : Phase) → InOrder p ms q → allowed q (code m) ≡ true →
    InOrder p (ms ++ (m ∷ [])) (phase_after q m)
order_more [] m p q same ok =
    (ap (λ (x : Phase). allowed x (code m)) same ∙ ok, ap (λ (x : Phase). phase_after x m) same)
order_more (x ∷ ms) m p q (first, others) ok = (first, order_more ms m (phase_after p x) q others ok)

calls_more : (ms : List Cmd) (m : Cmd) (c : Call) → call_of m ≡ Some c → calls_of (ms ++ (m ∷ [])) ≡ calls_of ms ++ (c ∷ [])
calls_more ms m c e =
    sym (flat_map_more (λ x. option_to_list (call_of x)) [] ms m) ∙ ap (λ (o : Option Call). calls_of ms ++ option_to_list o) e

module _ {A S : Type 0} (R : Rules A S) (t : Terms) where
  left_more : (σ : State A S) (cs : List Call) (c : Call) → left_by R t σ (cs ++ (c ∷ [])) ≡ (step R t (left_by R t σ cs) c).0
  left_more σ [] c = refl
  left_more σ (x ∷ cs) c = left_more (step R t σ x).0 cs c

  answers_more :
      (σ : State A S) (cs : List Call) (c : Call) →
      map (λ x. code_answer x.1) (course R t σ (cs ++ (c ∷ [])))
      ≡ map (λ x. code_answer x.1) (course R t σ cs) ++ (code_answer (step R t (left_by R t σ cs) c).1 ∷ [])
  answers_more σ [] c = refl
  answers_more σ (x ∷ cs) c = ap (λ ys. code_answer (step R t σ x).1 ∷ ys) (answers_more (step R t σ x).0 cs c)

  module _ (before σ τ : State A S) (file rest after : List ℕ) (ph : Phase) (ys : List Answer) (m : Cmd) (a : Answer)
      (f : Followed R t before file rest ph ys σ) (n : next ph rest ≡ Ok (record { command = m; rest = after })) where
    by_call : (o : Option Call) → call_of m ≡ o → Asked R t σ o (τ, Ok a) → Followed R t before file after (phase_after ph m) (ys ++ (a ∷ [])) τ
    by_call None e nothing = absurd nothing
    by_call (Some c) e is =
        let w = taken_as_written ph m rest after n in
        let ms = f.commands in
        let cs = calls_of ms in
        let all = calls_more ms m c e in
        let new : (τ, Ok a) ≡ in_code (step R t (left_by R t before cs) c) = is ∙ ap (λ (s : State A S). in_code (step R t s c)) f.left in
        record {
          commands = ms ++ (m ∷ []);
          written = written_more ms m file rest after f.written w.0;
          in_order = order_more ms m at.Drawing ph f.in_order w.1;
          answers_are =
              map_push Ok ys a
              ∙ ap (λ (xs : List (Result Answer Refusal)). xs ++ (Ok a ∷ [])) f.answers_are
              ∙ ap (λ (x : State A S × Result Answer Refusal). map (λ y. code_answer y.1) (course R t before cs) ++ (x.1 ∷ [])) new
              ∙ sym (answers_more before cs c)
              ∙ ap (λ (xs : List Call). map (λ y. code_answer y.1) (course R t before xs)) (sym all);
          left =
              ap (λ (x : State A S × Result Answer Refusal). x.0) new ∙ sym (left_more before cs c)
              ∙ ap (λ (xs : List Call). left_by R t before xs) (sym all);
        }

    pub followed_more : Asked R t σ (call_of m) (τ, Ok a) → Followed R t before file after (phase_after ph m) (ys ++ (a ∷ [])) τ
    followed_more = by_call (call_of m) refl
