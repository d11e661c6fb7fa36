-- What the one dealer of a match tells a seat, by commands that its nodes chose.
use Rattle.std.specs.Prelude.{ℕ, List}
use Rattle.slot_log.specs.declared.command.Command.{Command}
use Rattle.protocol_model.specs.Quorums.{AreChosen}
use Rattle.dealer_kind.specs.Kind.{Setting}
use Rattle.dealer_world.specs.Records.{said}
use Rattle.stations.specs.Deeds.{Doing, record_of}
use Rattle.seat_relay.specs.Relaying.{Line}
use Rattle.seat_relay.specs.Dealing.{dealers_lines}

-- the lines that the dealer of a match tells a seat by these commands, the oldest first
abbrev pub lines_by : Setting → ℕ → List Command → List Line
lines_by setting seat commands = dealers_lines setting.game setting.title.hands seat commands

-- it is so by some list of commands that are chosen by what so many nodes said in all that was done
abbrev pub IsByChosen : ℕ → List Doing → (List Command → Type 0) → Type 0
IsByChosen nodes all IsSo = ∥ ((commands : List Command) × (AreChosen nodes (said (record_of all).sent) commands × IsSo commands)) ∥₁
