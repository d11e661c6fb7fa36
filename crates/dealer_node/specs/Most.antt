-- How much a node's next call shows at most.
use Rattle.std.specs.Prelude.{◌≡◌, ℕ, ◌+◌, ◌*◌, ◌≤◌, List, ◌++◌, length, Option, Some, None, Result, Ok, Err}
use Rattle.paxos_wire.specs.declared.message.Message.{Message}
use Rattle.paxos_wire.specs.declared.fault.FrameFault.{FrameFault}
use Rattle.paxos_wire.specs.Faults.{reading}
use Rattle.dealer_node.specs.declared.most_shown.MostShown.{MostShown}
use Rattle.dealer_node.specs.declared.reader.Reader.{Reader}
use Rattle.dealer_node.specs.declared.running.Running.{Running}
use Rattle.dealer_node.specs.declared.up.Up.{Up}
use Rattle.dealer_node.specs.Nodes.{Node}
use Rattle.dealer_node.specs.Texts.{Marked, byte_total}
use Rattle.dealer_node.specs.Outs.{Told}
use Rattle.dealer_node.specs.Running.{most_proposed, most_proposed_behind, ahead_of}
use Rattle.dealer_node.specs.Calling.{commands_in}

-- where so many commands are applied: a line of a seat that got ready, or a log's header; and of each command a line for each of ten seats and what the log gets
abbrev pub most_after : ℕ → MostShown
most_after applied = record { pieces = 1 + 11 * applied; bytes = 4096 + 45716 * applied }

-- how many commands a call applies at most without a frame: those that are known beyond the front, and those that its close proposes
abbrev pub most_applied : Running → ℕ
most_applied running = ahead_of running + most_proposed running.proposer

-- and behind a message: also those that it has; and the close may propose what a promise tells
abbrev pub most_applied_behind : Running → Message → ℕ
most_applied_behind running message = ahead_of running + (commands_in message + most_proposed_behind running.proposer message)

-- and behind a frame that reads so
abbrev pub most_applied_by : Running → Result Message FrameFault → ℕ
most_applied_by running (Ok message) = most_applied_behind running message
most_applied_by running (Err fault) = most_applied running

module _ {D : Type 0} where
  -- none by a node that is down
  abbrev pub applied_next : Option (Up D) → ℕ
  applied_next None = 0
  applied_next (Some up) = most_applied up.running

  abbrev pub applied_by : Option (Up D) → List ℕ → ℕ
  applied_by None bytes = 0
  applied_by (Some up) bytes = most_applied_by up.running (reading bytes)

  -- the next call, where it brings no frame
  abbrev pub most_shown_of : Node D → MostShown
  most_shown_of node = most_after (applied_next node.up)

  -- the call of a frame of these bytes
  abbrev pub most_shown_by : Node D → List ℕ → MostShown
  most_shown_by node bytes = most_after (applied_by node.up bytes)

-- what was shown behind the earlier is no more than so many pieces, of no more than so many bytes in all
pub record ShowsWithin (most : MostShown) (earlier later : Told) : Type 0 where
  pub more : List (Marked Reader)
  pub behind : later.shown ≡ earlier.shown ++ more
  pub pieces : length more ≤ most.pieces
  pub bytes : byte_total more ≤ most.bytes
