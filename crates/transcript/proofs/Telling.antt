-- What an audit that was opened from a setup answers is told of the setup.
use Rattle.std.proofs.Common.{◌≡◌, ℕ, List, Ok, Err, Option, Result, IfOk, refl, sym, subst}
use Rattle.refusal.specs.declared.Fault.{Fault}
use Rattle.ballot.specs.declared.Candidate.{Candidate}
use Rattle.ballot.specs.declared.Contest.{Contest}
use Rattle.setup.specs.declared.setup.Setup.{Setup}
use Rattle.assertion.specs.declared.assertions.Assertion.{Assertion}
use Rattle.betting.specs.Accounts.{Account}
use Rattle.betting.specs.Policies.{Chosen}
use Rattle.course.specs.Course.{State}
use Rattle.calls.specs.declared.answers.Answer.{Answer}
use Rattle.course.specs.Openings.{own_rules}
use Rattle.calls.specs.declared.answers.Standing.{Standing}
use Rattle.calls.specs.declared.drawing.Audit.{Audit}
use Rattle.calls.specs.Calls.{audit_state, terms_of}
use Rattle.calls.specs.Openings.{Begun, OwnAssertions}
use Rattle.replay.specs.Replays.{Replays}
use Rattle.transcript.specs.Transcripts.{TextOf, transcript}

module _ (s : Setup) (xs : List Contest) (cs : List Candidate) (audit : Audit) (accounts : List (Account Assertion Chosen)) where
  pub told :
      (draws : List ℕ) (answers : List Answer) (fault : Option Fault) (standing : Standing) (after : State Assertion Chosen) →
      Begun own_rules s xs accounts audit → OwnAssertions s xs cs accounts audit →
      Replays own_rules (terms_of audit.terms) (audit_state audit accounts) draws answers fault standing after →
      TextOf s xs cs draws (transcript answers fault)
  told draws answers fault standing after begun own replays = record {
    audit = audit;
    accounts = accounts;
    begun = begun;
    own = own;
    answers = answers;
    fault = fault;
    standing = standing;
    after = after;
    replays = replays;
    text_is = refl;
  }

-- What holds of a text holds of a made one that is this text.
pub if_made :
    {X E : Type 0} (r : Result X E) (items : X → List ℕ) (text : List ℕ) (P : List ℕ → Type 0) →
    IfOk r (λ x. items x ≡ text) → P text → IfOk r (λ x. P (items x))
if_made (Ok x) items text P same holds = subst P (sym same) holds
if_made (Err e) items text P same holds = tt
