-- Where the lines stand over which nodes speak, and who was dialled over each.
use Rattle.std.specs.Prelude.{ℕ, ◌-◌, nat_lt, if◌then◌else◌, Option, Some, None}
use Rattle.node_wires.specs.declared.limits.TheConstants.{NODES}
use Rattle.node_wires.specs.declared.line.Line.{Line}
use Rattle.node_wires.specs.declared.line.Line.TheVariants.{Peer, Caller, Seat, Guest, Asker}
use Rattle.node_peers.specs.declared.limits.TheConstants.{DIALLED}

-- first those of peers that are dialled, two of each, and then those of who dialled
abbrev pub line_at : ℕ → Line
line_at place = if nat_lt place DIALLED then Peer place else Caller (place - DIALLED)

-- the node to which the line of a number leads: behind one to each node stands a second one
abbrev pub node_over : ℕ → ℕ
node_over number = if nat_lt number NODES then number else number - NODES

-- the peer that this node dialled over a line; nobody where another dialled
abbrev pub dialled_over : Line → Option ℕ
dialled_over (Peer number) = Some (node_over number)
dialled_over (Caller place) = None
dialled_over (Seat number) = None
dialled_over (Guest place) = None
dialled_over (Asker place) = None
