-- What holds of the payoffs of every hand.
use Rattle.std.specs.Prelude.{◌≡◌, ℕ, Bool, true, false, List, length, slice_index_or}
use Rattle.hand_rank.specs.Worth.{Worth}
use Rattle.side_pots.specs.Pots.{payoffs}

-- at most one player hasn't folded: any two who haven't are the same
abbrev pub AtMostOneUnfolded : List Bool → Type 0
AtMostOneUnfolded folded =
    (first second : ℕ) → slice_index_or folded first true ≡ false → slice_index_or folded second true ≡ false → first ≡ second

-- where at most one player hasn't folded, the payoffs are the same whatever the hands are worth
abbrev pub LonePlayerNeedsNoShowdown : Type 0
LonePlayerNeedsNoShowdown =
    (spent : List ℕ) (folded : List Bool) (values others : List Worth) → length values ≡ length others → AtMostOneUnfolded folded
    → payoffs spent folded values ≡ payoffs spent folded others
