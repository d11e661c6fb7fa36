-- One action of a betting text at a time.
use Rattle.std.specs.Prelude.{◌≡◌, ℕ, ◌-◌, false, List, [], ◌∷◌, ◌++◌, replicate}
use Rattle.std.specs.Char.{is_ascii_digit}
use Rattle.game_def.specs.Game.{Game}
use Rattle.betting.specs.declared.action.Action.{Action}
use Rattle.betting.specs.Rounds.{current_round, turns}
use Rattle.betting.specs.Legal.{CanAct}
use Rattle.betting.specs.Text.{action_text}

-- the slashes that an action causes
abbrev pub slashes_after : Game → List Action → Action → List ℕ
slashes_after game past action = replicate (current_round game (turns game (action ∷ past)) - current_round game (turns game past)) 47

-- the text begins with an allowed action and the slashes that it causes
pub record BeginsWith (game : Game) (past : List Action) (bytes : List ℕ) (action : Action) (behind : List ℕ) : Type 0 where
  pub can : CanAct game (turns game past) action
  pub text_is : bytes ≡ action_text game action ++ (slashes_after game past action ++ behind)

-- no digit stands first
abbrev pub NoDigitFirst : List ℕ → Type 0
NoDigitFirst [] = Unit {0}
NoDigitFirst (byte ∷ bytes) = is_ascii_digit byte ≡ false
