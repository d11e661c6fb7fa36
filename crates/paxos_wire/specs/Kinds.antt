-- The bytes that tell the kinds of messages.
use Rattle.std.specs.Prelude.{ℕ}
use Rattle.paxos_wire.specs.declared.kind.Kind.{Kind}
use Rattle.paxos_wire.specs.declared.kind.Kind.TheVariants.{Prepare, Promise, Refuse, Accept, Accepted, Chosen, Ask, Forward}

-- as the table of frames has them
abbrev pub kind_byte : Kind → ℕ
kind_byte Prepare = 1
kind_byte Promise = 2
kind_byte Refuse = 3
kind_byte Accept = 4
kind_byte Accepted = 5
kind_byte Chosen = 6
kind_byte Ask = 7
kind_byte Forward = 8
