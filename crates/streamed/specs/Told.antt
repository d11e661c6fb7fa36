-- What the lines of a script so far, newest first, have told.
use Rattle.std.specs.Prelude.{ℕ, List, [], ◌∷◌, Option, Some, None}
use Rattle.slot_log.specs.declared.command.Command.{Command}
use Rattle.streamed.specs.declared.script_line.ScriptLine.{ScriptLine}
use Rattle.streamed.specs.declared.script_line.ScriptLine.TheVariants.{Names, Told, Bad}

-- the commands to the dealer, newest first
abbrev pub commands_of : List ScriptLine → List Command
commands_of [] = []
commands_of (Names names ∷ before) = commands_of before
commands_of (Told command ∷ before) = command ∷ commands_of before
commands_of (Bad ∷ before) = commands_of before

-- the seats' names, where a line told them
abbrev pub names_of : List ScriptLine → Option (List (List ℕ))
names_of [] = None
names_of (Names names ∷ before) = Some names
names_of (Told command ∷ before) = names_of before
names_of (Bad ∷ before) = names_of before
