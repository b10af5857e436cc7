-- The claims that a contest's assertions make are that its reported winners truly won.
use Rattle.std.proofs.Common.{◌≡◌, ℕ, ◌+◌, ◌*◌, ◌<◌, ◌≤◌, Bool, true, false, not, List, [], ◌∷◌, map, length, take, drop, Decides, count_by, sym, subst, arith}
use Rattle.std.specs.List.{AllByRecursion}
use Rattle.std.proofs.ByRecursion.{All-append, All-map}
use Rattle.std.proofs.lemmas.Bool.{lt-leb, not_from_false, not-true}
use Rattle.ballot.specs.declared.Kind.{Kind}
use Rattle.ballot.specs.declared.Kind.TheVariants.{Plurality, Approval, Supermajority}
use Rattle.ballot.specs.declared.Candidate.{Candidate}
use Rattle.ballot.specs.declared.Card.{Card}
use Rattle.ballot.specs.declared.Contest.{Contest}
use Rattle.ballot.specs.Contests.{SeatsFit}
use Rattle.ballot.specs.Votes.{TrulyWon, gives_any, gives_vote, marks_of}
use Rattle.ballot.specs.Winners.{Ahead, losers, winners, wins}
use Rattle.assertion.specs.declared.assertions.Planned.{Planned}
use Rattle.assertion.specs.Assertions.{Plan, plan_of, pair_plan, pairs_of, pairs_under, planned, planned_by, planned_of, share_plan, shares_of}
use Rattle.assertion.proofs.Parts.{WalkedOn, walked_on}
use Rattle.assorter.specs.Law.{JustWhen}
use Rattle.assorter.specs.Outcomes.{AllHold, AllWon, ClaimsTellContest, ClaimsTellContests, TellsContest, TellsContests}
use Rattle.assorter.specs.Values.{Holds, limited_vote}
use Rattle.assorter.proofs.Lists.{all_from_joined, all_from_map, all_joined, all_kept, all_parts, kept_at}

-- The votes on the cards for candidate i in contest k: with a limit of marks, and by kind; and all votes.
abbrev limited : ℕ → ℕ → List Card → ℕ → ℕ
limited k most cards i = count_by (λ card. limited_vote most i (marks_of card k)) cards

abbrev votes : Kind → ℕ → ℕ → List Card → ℕ → ℕ
votes kind seats k cards i = count_by (λ card. gives_vote kind seats i (marks_of card k)) cards

abbrev all_votes : Kind → ℕ → ℕ → List Card → ℕ
all_votes kind seats k cards = count_by (λ card. gives_any kind seats (marks_of card k)) cards

-- Each winner has more votes than each loser.
abbrev EachAhead : ℕ → (ℕ → ℕ) → (ℕ → Bool) → Type 0
EachAhead c v w = (i j : ℕ) → i < c → j < c → w i ≡ true → w j ≡ false → v j < v i

module _ (k most : ℕ) (x : Contest) (cs : List Candidate) (cards : List Card) where
  pairs_mean : JustWhen (AllHold (pairs_of k most x cs) cards) (EachAhead (length cs) (limited k most cards) (wins x cs))
  pairs_mean =
      let n = length cs in
      let v = limited k most cards in
      let w = wins x cs in
      let P : Plan → Type 0 = λ plan. Holds plan.claim cards in (
        λ h i j l m won lost.
            let a = all_from_joined P (pairs_under k most x cs) (winners x cs) h in
            let b = kept_at (λ i'. AllByRecursion P (pairs_under k most x cs i')) w n a i l won in
            let c = all_from_map P (pair_plan k most cs i) (losers x cs) b in
            kept_at (λ j'. v j' < v i) (λ j'. not (w j')) n c j m (not_from_false (w j) lost),
        λ h.
            all_joined P (pairs_under k most x cs) (winners x cs)
            (all_kept (λ i. AllByRecursion P (pairs_under k most x cs i)) w n
            (λ i l won.
            All-map P (pair_plan k most cs i) (losers x cs)
            (all_kept (λ j. v j < v i) (λ j. not (w j)) n (λ j m e. h i j l m won (not-true (w j) e))))),
      )

module _ (k p q : ℕ) (x : Contest) (cs : List Candidate) (cards : List Card) where
  shares_mean :
      JustWhen (AllHold (shares_of k p q x cs) cards)
      (Ahead (Supermajority p q) (length cs) (all_votes (Supermajority p q) x.seats k cards) (votes (Supermajority p q) x.seats k cards) (wins x cs))
  shares_mean =
      let n = length cs in
      let w = wins x cs in
      let all = all_votes (Supermajority p q) x.seats k cards in
      let v = votes (Supermajority p q) x.seats k cards in
      let P : Plan → Type 0 = λ plan. Holds plan.claim cards in (
        λ h i l won.
            let a = all_from_map P (share_plan k p q cs) (winners x cs) h in
            kept_at (λ i'. p * all < q * v i') w n a i l won,
        λ h. All-map P (share_plan k p q cs) (winners x cs) (all_kept (λ i. p * all < q * v i) w n h),
      )

-- Fewer seats than 32 are a limit.
limit_votes : (k seats : ℕ) (cards : List Card) (i : ℕ) → seats < 32 → limited k seats cards i ≡ votes Plurality seats k cards i
limit_votes k seats cards i h = let e = lt-leb 32 seats h in simp e

means_by :
    (kind : Kind) (k : ℕ) (x : Contest) (cs : List Candidate) (cards : List Card) → SeatsFit kind (length cs) x.seats →
    length cs ≤ 32 →
    JustWhen (AllHold (planned_by kind k x cs) cards)
    (Ahead kind (length cs) (all_votes kind x.seats k cards) (votes kind x.seats k cards) (wins x cs))
means_by Plurality k x cs cards fit small =
    let m = pairs_mean k x.seats x cs cards in
    let s : x.seats < 32 = omega (arith, fit.1) in
    let e = limit_votes k x.seats cards in (
      λ h i j l n won lost. omega (arith, m.0 h i j l n won lost, e i s, e j s),
      λ h. m.1 (λ i j l n won lost. omega (arith, h i j l n won lost, e i s, e j s)),
    )
means_by Approval k x cs cards fit small = pairs_mean k 32 x cs cards
means_by (Supermajority p q) k x cs cards fit small = shares_mean k p q x cs cards

pub claims_tell_contest : ClaimsTellContest
claims_tell_contest k x cs h cards =
    let e = h.candidates in
    let fit = h.in_range in
    let P : ℕ → Type 0 = λ n.
    JustWhen (AllHold (planned_of k x cs) cards)
    (Ahead x.kind n (all_votes x.kind x.seats k cards) (votes x.kind x.seats k cards) (wins x cs)) in
    let Q : ℕ → Type 0 = λ n. SeatsFit x.kind n x.seats in
    subst P e (means_by x.kind k x cs cards (subst Q (sym e) fit.seats_fit) (omega (arith, e, fit.at_most_32)))

-- contest after contest
told : (k : ℕ) (xs : List Contest) (cs : List Candidate) → WalkedOn xs cs → (cards : List Card) →
    JustWhen (AllHold (planned k xs cs) cards) (AllWon k xs cs cards)
unfolding planned AllWon
told k [] cs h cards = (λ _. tt, λ _. tt)
told k (x ∷ xs) cs h cards =
    let own = take x.candidates cs in
    let rest = drop x.candidates cs in
    let P : Plan → Type 0 = λ plan. Holds plan.claim cards in
    let first = claims_tell_contest k x own h.1 cards in
    let after = told (k + 1) xs rest h.2 cards in (
      λ a.
          let p = all_parts P (planned_of k x own) (planned (k + 1) xs rest) a in
          (first.0 p.0, after.0 p.1),
      λ w. All-append P (planned_of k x own) (planned (k + 1) xs rest) (first.1 w.0) (after.1 w.1),
    )

pub claims_tell_contests : ClaimsTellContests
claims_tell_contests k xs cs h cards = told k xs cs (walked_on xs cs h) cards

-- An answer on all the claims of the listed assertions is the answer on the outcome.
module _ (r : Bool) (assertions : List Planned) (cards : List Card) (d : Decides r (AllHold (map plan_of assertions) cards)) where
  decides_for : (plans : List Plan) (W : Type 0) → map plan_of assertions ≡ plans → JustWhen (AllHold plans cards) W → Decides r W
  decides_for plans W e j =
      let P : List Plan → Type 0 = λ ps. AllHold ps cards in
      (λ t. j.0 (subst P e (d.0 t)), λ w. d.1 (subst P (sym e) (j.1 w)))

  pub tells_contest : TellsContest r assertions cards
  tells_contest k x cs h e = decides_for (planned_of k x cs) (TrulyWon x k cs cards) e (claims_tell_contest k x cs h cards)

  pub tells_contests : TellsContests r assertions cards
  tells_contests xs cs h e = decides_for (planned 0 xs cs) (AllWon 0 xs cs cards) e (claims_tell_contests 0 xs cs h cards)
