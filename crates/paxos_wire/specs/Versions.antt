-- The two versions of frames and records: the byte that tells each, and how many nodes there are in it.
use Rattle.std.specs.Prelude.{ℕ, Bool, ◌==◌, ◌||◌, if◌then◌else◌}
use Rattle.paxos_wire.specs.declared.limits.TheConstants.{VERSION, OLD_VERSION, NODES, OLD_NODES}
use Rattle.paxos_wire.specs.declared.version.Version.{Version}
use Rattle.paxos_wire.specs.declared.version.Version.TheVariants.{Old, New}

-- the byte that tells it
abbrev pub version_byte : Version → ℕ
version_byte Old = OLD_VERSION
version_byte New = VERSION

-- its nodes are numbered from 0 to one below this
abbrev pub nodes_in : Version → ℕ
nodes_in Old = OLD_NODES
nodes_in New = NODES

-- a byte that tells one of the two
abbrev pub is_version : ℕ → Bool
is_version byte = byte == OLD_VERSION || byte == VERSION

-- and which of them
abbrev pub version_of : ℕ → Version
version_of byte = if byte == OLD_VERSION then Old else New
