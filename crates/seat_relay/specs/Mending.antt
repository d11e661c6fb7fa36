-- What is said for a player whose answer the dealer would refuse.
use Rattle.std.specs.Prelude.{◌≡◌, ℕ, ◌<◌, ◌==◌, ◌||◌, if◌then◌else◌, max, min, List, [], ◌∷◌, ◌++◌, length, take, true, Option, None, Some, decimal}
use Rattle.std.specs.List.{list_all, prefix_len}
use Rattle.std.specs.Char.{is_ascii_digit}
use Rattle.std.specs.Str.Parse.{digits_value}
use Rattle.game_def.specs.Game.{Game}
use Rattle.betting.specs.declared.action.Action.{Action}
use Rattle.betting.specs.declared.action.Action.TheVariants.{Call, Raise}
use Rattle.betting.specs.Turns.{Turn}
use Rattle.betting.specs.Rounds.{to_act, turns}
use Rattle.betting.specs.Text.{text, action_text}
use Rattle.betting.specs.Legal.{CanAct, Legal, IsRaiseRange}
use Rattle.matchstate.specs.Line.{Fields, HasFields}
use Rattle.matchstate.specs.ActionText.{IsActionText}

-- what is read of what stands behind the colon of an answer: an action's letter, in a game without limits with the digits behind an r; and nothing of what begins otherwise
abbrev pub read_amount : {A : Type 0} → Option A → List ℕ → List ℕ
read_amount None rest = take (prefix_len is_ascii_digit rest) rest
read_amount (Some sizes) rest = []

abbrev pub read_part : Game → List ℕ → List ℕ
read_part game [] = []
read_part game (byte ∷ rest) = if byte == 114 then 114 ∷ read_amount game.raise_sizes rest else if (byte == 102) || (byte == 99) then byte ∷ [] else []

-- a raise to any number of chips in a game without limits: r and decimal digits
pub record IsRaiseTo (game : Game) (field : List ℕ) (amount : ℕ) : Type 0 where
  pub no_limit : game.raise_sizes ≡ None
  pub digits : List ℕ
  pub written : field ≡ 114 ∷ digits
  pub some : 0 < length digits
  pub all_digits : list_all is_ascii_digit digits ≡ true
  pub worth : amount ≡ digits_value 10 digits

-- the legal raise that is nearest to an amount
pub record IsNearest (game : Game) (past : List Turn) (amount : ℕ) (action : Action) : Type 0 where
  pub least : ℕ
  pub greatest : ℕ
  pub range : IsRaiseRange game past least greatest
  pub is_raise : action ≡ Raise (max least (min greatest amount))

-- some raise is legal
abbrev pub MayRaiseSome : Game → List Turn → Type 0
MayRaiseSome game past = (amount : ℕ) × CanAct game past (Raise amount)

-- it is no action that is allowed, nor a raise that has a nearest one
pub record IsUseless (game : Game) (past : List Turn) (field : List ℕ) : Type 0 where
  pub not_allowed : (wanted : Action) → IsActionText game past field wanted → ¬ CanAct game past wanted
  pub no_nearest : (amount : ℕ) → IsRaiseTo game field amount → ¬ MayRaiseSome game past

-- the player's own action where it is allowed; of a raise outside the range its nearest end; else a call: always what is allowed
pub record IsMended (game : Game) (past : List Turn) (field : List ℕ) (action : Action) : Type 0 where
  pub allowed : CanAct game past action
  pub own : (wanted : Action) → IsActionText game past field wanted → CanAct game past wanted → action ≡ wanted
  pub nearest_end : (amount : ℕ) → IsRaiseTo game field amount → MayRaiseSome game past → IsNearest game past amount action
  pub else_call : IsUseless game past field → action ≡ Call

-- the line shows this legal betting, and its own player is to act
pub record IsToAnswer (game : Game) (line : List ℕ) (past : List Action) : Type 0 where
  pub fields : Fields
  pub has_fields : HasFields line fields
  pub legal : Legal game past
  pub betting : fields.betting ≡ text game past
  pub position : ℕ
  pub position_text : fields.position ≡ decimal position
  pub turn : to_act game (turns game past) ≡ Some position

-- an answer to the line says the mended action of what is read of the field, by a text that reads as that action
pub record IsMendedAnswer (game : Game) (line field answer : List ℕ) : Type 0 where
  pub past : List Action
  pub to_answer : IsToAnswer game line past
  pub action : Action
  pub is_mended : IsMended game (turns game past) (read_part game field) action
  pub whole : answer ≡ line ++ 58 ∷ action_text game action
  pub reads_back : IsActionText game (turns game past) (action_text game action) action
