-- Each bundle that contracts cite says what it bundles, and no more.
use Rattle.std.proofs.Common.{◌≡◌, ℕ, List, ◌∷◌, ◌++◌}
use Rattle.std.specs.Prelude.{Option}
use Rattle.game_def.specs.Game.{Game}
use Rattle.slot_log.specs.declared.command.Command.{Command}
use Rattle.streamed.specs.Answer.{Tells, answer}
use Rattle.streamed.specs.Running.{Begins, BreaksOff, GoesOn, Shows, Stands}
use Rattle.streamed.specs.Taking.{AnswersIt, IsSameMatch, TakesIt, TellsIt}
use Rattle.streamed.specs.declared.dealing.Dealing.{Dealing}
use Rattle.streamed.specs.declared.running.Running.{Running}
use Rattle.streamed.specs.declared.script_line.ScriptLine.{ScriptLine}

-- ---- of a match

module _ (said : ScriptLine) (old new : Dealing) where
  abbrev StaysSo : Type 0
  StaysSo = (new.table ≡ old.table) × (new.names ≡ old.names) × (new.log ≡ old.log)

  same_is : IsSameMatch old new → StaysSo
  same_is is = (is.table, is.names, is.log)

  same_of : StaysSo → IsSameMatch old new
  same_of (table, names, log) = record { table = table; names = names; log = log }

  abbrev StandsSo : Type 0
  StandsSo = (game : Game) (count : ℕ) (log : Option (List ℕ)) (before : List ScriptLine) → Stands game count log before old → Stands game count log (said ∷ before) new

  taken_is : TakesIt said old new → StandsSo
  taken_is is = is

  taken_of : StandsSo → TakesIt said old new
  taken_of is = is

  abbrev WritesSo : List ℕ → List ℕ → Type 0
  WritesSo text after = (game : Game) (count : ℕ) (log : Option (List ℕ)) (before : List ScriptLine) → Stands game count log before old → after ≡ text ++ answer game count log before said

  answer_is : (text after : List ℕ) → AnswersIt said old text after → WritesSo text after
  answer_is text after is = is

  answer_of : (text after : List ℕ) → WritesSo text after → AnswersIt said old text after
  answer_of text after is = is

tells_is : (dealing : Dealing) (line : List ℕ) (command : Command) → TellsIt dealing line command → Tells dealing.table.game dealing.table.hands line command
tells_is dealing line command is = is

tells_of : (dealing : Dealing) (line : List ℕ) (command : Command) → Tells dealing.table.game dealing.table.hands line command → TellsIt dealing line command
tells_of dealing line command is = is

-- ---- of a script

module _ (bytes : List ℕ) (old new : Running) (held after : Option (List ℕ)) where
  abbrev ShowsSo : Type 0
  ShowsSo = (game : Game) (count : ℕ) (log start : Option (List ℕ)) (seen : List ℕ) → Shows game count log start seen old held
      → Shows game count log start (seen ++ bytes) new after

  goes_is : GoesOn bytes old new held after → ShowsSo
  goes_is is = is

  goes_of : ShowsSo → GoesOn bytes old new held after
  goes_of is = is

  abbrev BeginsSo : Type 0
  BeginsSo = (game : Game) (count : ℕ) (log start : Option (List ℕ)) (seen : List ℕ) → Shows game count log start seen old held
      → Begins game count log start (seen ++ bytes) after

  breaks_is : BreaksOff bytes old held after → BeginsSo
  breaks_is is = is

  breaks_of : BeginsSo → BreaksOff bytes old held after
  breaks_of is = is
