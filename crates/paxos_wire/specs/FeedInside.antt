-- What the fields of a feed keep.
use Rattle.std.specs.Prelude.{IfSome}
use Rattle.paxos_wire.specs.Stream.{IsFaulty}
use Rattle.paxos_wire.specs.declared.feed.Feed.TheInside.{Inside}

-- a fault that was told is there
abbrev pub IsKept : Inside → Type 0
IsKept f = IfSome f.fault (λ fault. IsFaulty f.queue.waiting fault)
