-- Pots and payoffs, chip by chip. Players are named by their positions from 0.
use Rattle.std.specs.Prelude.{ℕ, ◌+◌, ◌-◌, ◌/◌, ◌%◌, ℤ, pos, ◌+ℤ◌, ◌-ℤ◌, Bool, true, false, not, ◌&&◌, nat_lt, nat_le, if◌then◌else◌, List, [], map, take, length, max, slice_index, slice_index_or}
use Rattle.std.specs.List.{count_by, fold, list_all, range_with_len, sum_by}
use Rattle.std.specs.Ordering.{is_gt}
use Rattle.hand_rank.specs.Worth.{Worth, worth_cmp}

-- an unfolded player who put in at least so much
unfoldable pub is_eligible : List ℕ → List Bool → ℕ → ℕ → Bool
is_eligible spent folded level position =
    not (slice_index_or folded position true) && nat_le level (slice_index spent position)

-- a level holds one chip of each player who put in at least so much
abbrev pub chips_at : List ℕ → ℕ → ℕ
chips_at spent level = count_by (λ amount. nat_le level amount) spent

-- from the first chip to the last of the greatest amount
abbrev pub levels : List ℕ → List ℕ
levels spent = range_with_len 1 (fold max 0 spent)

-- a player belongs to both of two sets or to neither
abbrev pub both_or_neither : Bool → Bool → Bool
both_or_neither true b = b
both_or_neither false b = not b

-- each of so many players belongs to both sets or to neither
abbrev pub is_same_set : ℕ → (ℕ → Bool) → (ℕ → Bool) → Bool
is_same_set players one other =
    list_all (λ position. both_or_neither (one position) (other position)) (range_with_len 0 players)

-- the pot of a set: all levels whose eligible players are exactly that set
unfoldable pub pot_of : List ℕ → List Bool → (ℕ → Bool) → ℕ
pot_of spent folded set =
    sum_by
    (λ level. if is_same_set (length spent) set (is_eligible spent folded level) then chips_at spent level else 0)
    (levels spent)

-- the lowest level of its pot
unfoldable pub opens_pot : List ℕ → List Bool → ℕ → Bool
opens_pot spent folded level =
    list_all
    (λ lower. not (is_same_set (length spent) (is_eligible spent folded level) (is_eligible spent folded lower)))
    (range_with_len 1 (level - 1))

-- what nobody holds, beyond the players
abbrev pub worthless : Worth
worthless = record { category = 0; ranks = [] }

-- what the hand of the player at a position is worth
abbrev pub value_at : List Worth → ℕ → Worth
value_at values position = slice_index_or values position worthless

-- a player of the set, no other of whom has a better hand
unfoldable pub is_winner : List Worth → (ℕ → Bool) → ℕ → Bool
is_winner values set position =
    set position
    && list_all
    (λ other. not (set other && is_gt (worth_cmp (value_at values other) (value_at values position))))
    (range_with_len 0 (length values))

-- by position, who wins the pot of a set
abbrev pub winners_of : List Worth → (ℕ → Bool) → List Bool
winners_of values set = map (is_winner values set) (range_with_len 0 (length values))

-- how many win
abbrev pub wins : List Bool → ℕ
wins winners = count_by (λ winner. winner) winners

-- equal shares in whole chips, and one odd chip more for each of the first winners by position
unfoldable pub share : ℕ → List Bool → ℕ → ℕ
share pot winners position =
    if slice_index_or winners position false
    then pot / wins winners + (if nat_lt (wins (take position winners)) (pot % wins winners) then 1 else 0)
    else 0

-- a player's share of the pot that begins at a level, if one does
unfoldable pub won_at : List ℕ → List Bool → List Worth → ℕ → ℕ → ℕ
won_at spent folded values position level =
    let set = is_eligible spent folded level in
    if opens_pot spent folded level
    then share (pot_of spent folded set) (winners_of values set) position
    else 0

-- a player's shares of all pots
unfoldable pub won : List ℕ → List Bool → List Worth → ℕ → ℕ
won spent folded values position = sum_by (won_at spent folded values position) (levels spent)

-- what a player gets less what he put in
abbrev pub payoff : List ℕ → List Bool → List Worth → ℕ → ℤ
payoff spent folded values position =
    pos (won spent folded values position) -ℤ pos (slice_index spent position)

-- the payoffs by position
abbrev pub payoffs : List ℕ → List Bool → List Worth → List ℤ
payoffs spent folded values = map (payoff spent folded values) (range_with_len 0 (length spent))

-- the sum of payoffs
abbrev pub total : List ℤ → ℤ
total amounts = fold ◌+ℤ◌ (pos 0) amounts
