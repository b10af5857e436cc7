-- What a claim says of a list of cards, and what one card is worth to it.
use Rattle.std.specs.Prelude.{ℕ, ◌*◌, ◌<◌, Bool, ◌&&◌, ◌||◌, List, count_by, ◌==◌, count_ones, nat_le, if◌then◌else◌}
use Rattle.ballot.specs.declared.Card.{Card}
use Rattle.ballot.specs.Votes.{marked, marks_of}
use Rattle.assertion.specs.Assertions.{Claim, pair, share}

-- The marks n give candidate i a vote, where more than so many give none; 32 is no limit, being every candidate.
abbrev pub limited_vote : ℕ → ℕ → ℕ → Bool
limited_vote most i n = (nat_le 32 most || nat_le (count_ones n) most) && marked i n

-- The marks n are just one.
abbrev pub one_mark : ℕ → Bool
one_mark n = count_ones n == 1

-- The marks n are just one, that of candidate i.
abbrev pub single_vote : ℕ → ℕ → Bool
single_vote i n = one_mark n && marked i n

-- What a claim says of the cards. Of a pair: the winner has more votes than the loser. Of a share: q times the
-- winner's votes are more than p times all votes.
abbrev pub Holds : Claim → List Card → Type 0
Holds (pair k most w l) cards =
    count_by (λ card. limited_vote most l (marks_of card k)) cards < count_by (λ card. limited_vote most w (marks_of card k)) cards
Holds (share k w p q) cards =
    p * count_by (λ card. one_mark (marks_of card k)) cards < q * count_by (λ card. single_vote w (marks_of card k)) cards

-- 2 for a vote for the winner alone, 0 for the loser alone, otherwise 1.
abbrev pub pair_value : Bool → Bool → ℕ
pair_value winner loser = if winner then (if loser then 1 else 2) else (if loser then 0 else 1)

-- q for a vote for the winner, 0 for a vote for another, p for no vote.
abbrev pub share_value : ℕ → ℕ → Bool → Bool → ℕ
share_value p q vote winner = if vote then (if winner then q else 0) else p

-- What a card is worth to a claim.
abbrev pub worth : Claim → Card → ℕ
worth (pair k most w l) card =
    pair_value (limited_vote most w (marks_of card k)) (limited_vote most l (marks_of card k))
worth (share k w p q) card = share_value p q (one_mark (marks_of card k)) (marked w (marks_of card k))
