-- What passes over the lines of a process's peers.
use Rattle.std.specs.Prelude.{nat_le, Bool, List, length}
use Rattle.node_wires.specs.Passages.{Passage}
use Rattle.node_links.specs.declared.own.Own.{Own}
use Rattle.node_peers.specs.Growing as lines
use Rattle.node_peers.specs.declared.limits.TheConstants.{BACKLOG}
use Rattle.node_peers.specs.declared.peers.Peers.{Peers}

-- the node whose peers they are
abbrev pub own_of : Peers → Own
own_of peers = peers.lines.own

-- what passed over their lines so far, in order
abbrev pub passed_of : Peers → List Passage
passed_of peers = peers.lines.passed.items

-- the frames that were handed to them so far, each for one of them, in order
abbrev pub frames_of : Peers → List Passage
frames_of peers = peers.lines.sent.items

-- what was told of them so far, in order: their frames, and which are there whose life is to be kept
abbrev pub heard_of : Peers → List Passage
heard_of peers = peers.lines.heard.items

-- the same passed over them, in a call, as over the wire, and nothing of seats and of the log; they are the same node's
abbrev pub Grew : Peers → Peers → List Passage → List Passage → Type 0
Grew old new wired_old wired_new = lines.Grew old.lines new.lines wired_old wired_new

-- nothing passes over their lines
abbrev pub Keeps : Peers → Peers → Type 0
Keeps old new = lines.Keeps old.lines new.lines

-- and nothing is handed to them, and nothing told of them
abbrev pub Stays : Peers → Peers → Type 0
Stays old new = lines.Stays old.lines new.lines

-- so much waits to be told that nothing more is taken
abbrev pub is_full : Peers → Bool
is_full peers = nat_le BACKLOG (length peers.lines.notices.items)
