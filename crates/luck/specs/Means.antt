-- What a position may expect of the pots, over deals that are each as likely.
use Rattle.std.specs.Prelude.{ℕ, ◌-◌, ◌*◌, ◌/◌, ℤ, pos, ◌+ℤ◌, ◌*ℤ◌, Bool, List, [], ◌∷◌, length, slice_index_or}
use Rattle.side_pots.specs.Pots.{payoffs}
use Rattle.match_log.specs.Payoffs.{values_of}

-- what each position gets of the pots less what it put in: with these amounts in, these players folded, and this deal
abbrev pub pay : List ℕ → List Bool → List ℕ → List ℤ
pay spent folded deal = payoffs spent folded (values_of (length spent) deal)

-- what a position is paid over some deals together
unfoldable pub paid : List ℕ → List Bool → ℕ → List (List ℕ) → ℤ
paid spent folded position [] = pos 0
paid spent folded position (deal ∷ deals) = slice_index_or (pay spent folded deal) position (pos 0) +ℤ paid spent folded position deals

-- in how many parts a chip is counted: in how many ways turn and river can follow a flop
abbrev pub parts_of : ℕ → ℕ
parts_of players = (49 - 2 * players) * (48 - 2 * players)

-- the mean of what a position is paid over these deals, in parts of a chip
abbrev pub mean_of : List ℕ → List Bool → ℕ → List (List ℕ) → ℤ
mean_of spent folded position deals = pos (parts_of (length spent) / length deals) *ℤ paid spent folded position deals
