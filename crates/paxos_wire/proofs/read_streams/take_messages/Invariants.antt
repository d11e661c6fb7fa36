use Rattle.std.proofs.Common.{ℕ, List, length}
use Rattle.std.specs.List.{AllByRecursion}
use Rattle.paxos_wire.specs.Fits.{IsMessage}
use Rattle.paxos_wire.specs.Stream.{IsStreamOf}
use Rattle.paxos_wire.proofs.read_streams.take_messages.Given as goal

abbrev pub invariant-loop-taken : goal.invariant-loop-taken
invariant-loop-taken l = record {
  stream : (stream : List ℕ) → IsStreamOf l.fn.messages.items l.fn.feed.waiting stream → IsStreamOf l.messages.items l.feed.waiting stream;
  each : AllByRecursion IsMessage l.fn.messages.items → AllByRecursion IsMessage l.messages.items;
}

abbrev pub decreases-loop-taken : goal.decreases-loop-taken
decreases-loop-taken l = length l.feed.waiting
