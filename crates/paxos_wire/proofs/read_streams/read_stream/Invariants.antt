use Rattle.std.proofs.Common.{take}
use Rattle.std.specs.List.{flat_map, AllByRecursion}
use Rattle.paxos_wire.specs.Fits.{IsMessage}
use Rattle.paxos_wire.specs.Stream.{IsStreamOf, IsPartial}
use Rattle.paxos_wire.proofs.read_streams.read_stream.Given as goal

abbrev pub invariant-loop-piece : goal.invariant-loop-piece
invariant-loop-piece l = record {
  stream : IsStreamOf l.messages.items l.feed.waiting (flat_map (λ piece. piece.items) (take l.piece-index l.pieces));
  each : AllByRecursion IsMessage l.messages.items;
  partial : IsPartial l.feed.waiting;
}
