-- Actions as a line says them.
use Rattle.std.specs.Prelude.{◌≡◌, ℕ, ◌^◌, ◌<◌, ◌⊎◌, List, ◌++◌, Option, Some, None, codes, decimal}
use Rattle.game_def.specs.Game.{Game}
use Rattle.betting.specs.declared.action.Action.{Action}
use Rattle.betting.specs.declared.action.Action.TheVariants.{Fold, Call, Raise}
use Rattle.betting.specs.Turns.{Turn}
use Rattle.betting.specs.Legal.{CanAct}

-- the only legal amount of a limit raise, or 0 where none is legal
abbrev pub IsLimitAmount : Game → List Turn → ℕ → Type 0
IsLimitAmount game past amount =
    CanAct game past (Raise amount) ⊎ ((amount ≡ 0) × ((other : ℕ) → ¬ (CanAct game past (Raise other))))

-- r, with the amount in a no-limit game
abbrev pub IsRaiseText : Option (List ℕ) → Game → List Turn → List ℕ → ℕ → Type 0
IsRaiseText None game past bytes amount = (bytes ≡ codes "r" ++ decimal amount) × (amount < 2 ^ 32)
IsRaiseText (Some sizes) game past bytes amount = (bytes ≡ codes "r") × IsLimitAmount game past amount

-- what the text says that the player to act does
abbrev pub IsActionText : Game → List Turn → List ℕ → Action → Type 0
IsActionText game past bytes Fold = bytes ≡ codes "f"
IsActionText game past bytes Call = bytes ≡ codes "c"
IsActionText game past bytes (Raise amount) = IsRaiseText game.raise_sizes game past bytes amount
