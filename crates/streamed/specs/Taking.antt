-- What a line tells a match as it stands, and what taking it makes of the match.
use Rattle.std.specs.Prelude.{◌≡◌, ℕ, List, ◌∷◌, ◌++◌, Option}
use Rattle.game_def.specs.Game.{Game}
use Rattle.betting.specs.declared.action.Action.{Action}
use Rattle.slot_log.specs.declared.command.Command.{Command}
use Rattle.slot_log.specs.declared.command.Command.TheVariants.{Deal, Act, Away}
use Rattle.streamed.specs.Answer.{Tells, answer}
use Rattle.streamed.specs.Further.{further_lines}
use Rattle.streamed.specs.Running.{Stands}
use Rattle.streamed.specs.declared.dealing.Dealing.{Dealing}
use Rattle.streamed.specs.declared.script_line.ScriptLine.{ScriptLine}

-- ---- what a line tells it

-- this line tells the match this command
abbrev pub TellsIt : Dealing → List ℕ → Command → Type 0
TellsIt dealing line command = Tells dealing.table.game dealing.table.hands line command

-- it tells no deal, no action, or not that the player to act is played for
abbrev pub TellsNoDeal : Dealing → List ℕ → Type 0
TellsNoDeal dealing line = (hand : ℕ) (deal : List ℕ) → ¬ (TellsIt dealing line (Deal hand deal))

abbrev pub TellsNoAct : Dealing → List ℕ → Type 0
TellsNoAct dealing line = (hand index : ℕ) (action : Action) → ¬ (TellsIt dealing line (Act hand index action))

abbrev pub TellsNoAway : Dealing → List ℕ → Type 0
TellsNoAway dealing line = (hand index : ℕ) → ¬ (TellsIt dealing line (Away hand index))

-- ---- what taking it makes of the match

-- a match that stood as lines have made it stands as they and this one make it
abbrev pub TakesIt : ScriptLine → Dealing → Dealing → Type 0
TakesIt said old new = (game : Game) (count : ℕ) (log : Option (List ℕ)) (before : List ScriptLine) → Stands game count log before old
    → Stands game count log (said ∷ before) new

-- and the answer to this one after them comes behind what there was
abbrev pub AnswersIt : ScriptLine → Dealing → List ℕ → List ℕ → Type 0
AnswersIt said old text text_after = (game : Game) (count : ℕ) (log : Option (List ℕ)) (before : List ScriptLine) → Stands game count log before old
    → text_after ≡ text ++ answer game count log before said

-- nothing of the match changes: not its table, the seats' names, or the word for its game
pub record IsSameMatch (old new : Dealing) : Type 0 where
  pub table : new.table ≡ old.table
  pub names : new.names ≡ old.names
  pub log : new.log ≡ old.log

-- the lines that its log has further
abbrev pub further_of : Dealing → List ℕ
further_of dealing = further_lines dealing.table.game dealing.table.count dealing.names dealing.table.hands
