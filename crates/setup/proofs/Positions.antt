-- The place that commands lead to is the only one.
use Rattle.std.proofs.Common.{◌≡◌, ◌≤◌, List, [], ◌∷◌, ◌++◌, map, length, sym, refl, ap, ◌∙◌, arith}
use Rattle.std.proofs.lemmas.List.{append_assoc, append-nil}
use Rattle.ballot.specs.declared.Batch.{Batch}
use Rattle.ballot.specs.declared.Candidate.{Candidate}
use Rattle.ballot.specs.declared.Contest.{Contest}
use Rattle.ballot.specs.declared.Kind.{Kind}
use Rattle.ballot.specs.declared.Kind.TheVariants.{Plurality, Approval, Supermajority}
use Rattle.ballot.specs.Contests.{kind_number, share_p, share_q}
use Rattle.format.specs.Format.{Cmd, batch, terms, contest, candidate, opens}
use Rattle.setup.specs.Described.{batch_command, candidate_command, contest_command, terms_command}
use Rattle.setup.specs.Refused.{LeadTo, Position, at_front, behind_batches, behind_opening, behind_terms, inside}

-- ---- a command tells what it was written of

same_kind : (a b : Kind) → kind_number a ≡ kind_number b → share_p a ≡ share_p b → share_q a ≡ share_q b → a ≡ b
same_kind Plurality Plurality n p q = refl
same_kind Approval Approval n p q = refl
same_kind (Supermajority s t) (Supermajority u v) n p q = cc
same_kind _ _ n p q = absurd (omega arith)

same_contest : (x y : Contest) → contest_command x ≡ contest_command y → x ≡ y
same_contest x y h =
    let n : kind_number x.kind ≡ kind_number y.kind = cc in
    let p : share_p x.kind ≡ share_p y.kind = cc in
    let q : share_q x.kind ≡ share_q y.kind = cc in
    let c : x.candidates ≡ y.candidates = cc in
    let s : x.seats ≡ y.seats = cc in
    let k = same_kind x.kind y.kind n p q in
    let e : ◌≡◌ {A = Contest} (record { kind = x.kind; candidates = x.candidates; seats = x.seats }) (record { kind = y.kind; candidates = y.candidates; seats = y.seats }) = cc in
    e

same_candidate : (c d : Candidate) → candidate_command c ≡ candidate_command d → c ≡ d
same_candidate c d h =
    let n : c.name ≡ d.name = cc in
    let v : c.votes ≡ d.votes = cc in
    let e : ◌≡◌ {A = Candidate} (record { name = c.name; votes = c.votes }) (record { name = d.name; votes = d.votes }) = cc in
    e

same_candidates : (cs ds : List Candidate) → map candidate_command cs ≡ map candidate_command ds → cs ≡ ds
same_candidates [] [] h = refl
same_candidates (c ∷ cs) (d ∷ ds) h =
    let one : candidate_command c ≡ candidate_command d = cc in
    let rest : map candidate_command cs ≡ map candidate_command ds = cc in
    let a = same_candidate c d one in
    let b = same_candidates cs ds rest in
    cc
same_candidates _ _ h = absurd (cc)

-- ---- the place by the commands, one after the other

data Mark : Type 0 where
  front_mark : Mark
  batches_mark : Mark
  terms_mark : Mark
  inside_mark : Cmd → List Cmd → Mark
  opening_mark : Mark

abbrev mark : Position → Mark
mark at_front = front_mark
mark behind_batches = batches_mark
mark behind_terms = terms_mark
mark (inside x own) = inside_mark (contest_command x) (map candidate_command own)
mark behind_opening = opening_mark

abbrev moved : Mark → Cmd → Mark
moved k (batch name cards) = batches_mark
moved k (terms r d policy weight) = terms_mark
moved k (contest kind c s p q) = inside_mark (contest kind c s p q) []
moved (inside_mark m own) (candidate name votes) = inside_mark m (own ++ candidate name votes ∷ [])
moved k opens = opening_mark
moved k _ = k

abbrev all_moved : Mark → List Cmd → Mark
all_moved k [] = k
all_moved k (m ∷ ms) = all_moved (moved k m) ms

moved_on : (k : Mark) (ms ns : List Cmd) → all_moved k (ms ++ ns) ≡ all_moved (all_moved k ms) ns
moved_on k [] ns = refl
moved_on k (m ∷ ms) ns = moved_on (moved k m) ms ns

by_batches : (k : Mark) (bs : List Batch) → 1 ≤ length bs → all_moved k (map batch_command bs) ≡ batches_mark
by_batches k [] h = absurd (omega arith)
by_batches k (b ∷ []) h = refl
by_batches k (b ∷ d ∷ bs) h = by_batches batches_mark (d ∷ bs) (omega arith)

by_candidates : (m : Cmd) (done : List Cmd) (cs : List Candidate) →
    all_moved (inside_mark m done) (map candidate_command cs) ≡ inside_mark m (done ++ map candidate_command cs)
by_candidates m done [] = ap (inside_mark m) (sym (append-nil done))
by_candidates m done (c ∷ cs) =
    by_candidates m (done ++ candidate_command c ∷ []) cs ∙ ap (inside_mark m) (append_assoc done (candidate_command c ∷ []) (map candidate_command cs))

marked : (w : Position) (ms : List Cmd) → LeadTo w ms → mark w ≡ all_moved front_mark ms
marked at_front ms e = sym (ap (all_moved front_mark) e)
marked behind_batches ms (bs, some, e) = sym (ap (all_moved front_mark) e ∙ by_batches front_mark bs some)
marked behind_terms ms (bs, t, e) = sym (ap (all_moved front_mark) e ∙ moved_on front_mark (map batch_command bs) (terms_command t ∷ []))
marked (inside x own) ms (before, e) =
    sym (ap (all_moved front_mark) e ∙ moved_on front_mark before (contest_command x ∷ map candidate_command own) ∙ by_candidates (contest_command x) [] own)
marked behind_opening ms (before, e) = sym (ap (all_moved front_mark) e ∙ moved_on front_mark before (opens ∷ []))

same_mark : (v w : Position) → mark v ≡ mark w → v ≡ w
same_mark at_front at_front h = refl
same_mark behind_batches behind_batches h = refl
same_mark behind_terms behind_terms h = refl
same_mark behind_opening behind_opening h = refl
same_mark (inside x own) (inside y others) h =
    let a = same_contest x y (let e : contest_command x ≡ contest_command y = cc in e) in
    let b = same_candidates own others (let e : map candidate_command own ≡ map candidate_command others = cc in e) in
    cc
same_mark _ _ h = absurd (cc)

pub one_position : (ms : List Cmd) (v w : Position) → LeadTo v ms → LeadTo w ms → v ≡ w
one_position ms v w a b = same_mark v w (marked v ms a ∙ sym (marked w ms b))
