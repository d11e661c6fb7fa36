-- What the fields of a list of commands keep.
use Rattle.std.specs.Prelude.{◌≡◌, ◌≤◌, length}
use Rattle.paxos_wire.specs.declared.limits.TheConstants.{WINDOW}
use Rattle.paxos_wire.specs.declared.command_list.CommandList.TheInside.{Inside}

-- the commands stand in front, and anything in the places behind them
pub record IsKept (l : Inside) : Type 0 where
  pub places : length l.commands ≡ WINDOW
  pub most : l.count ≤ WINDOW
