-- What is put down of what a process is told of its peers.
use Rattle.std.specs.Prelude.{List, [], ◌∷◌, Option, Some, None}
use Rattle.node_wires.specs.declared.line.Line.TheVariants.{Peer}
use Rattle.node_wires.specs.Passages.{Passage, Began, Came}
use Rattle.node_peers.specs.declared.notice.Notice.{Notice}
use Rattle.node_peers.specs.declared.notice.Notice.TheVariants as notices

-- a frame that came of a peer, whole; and that a peer is there whose life is to be kept
abbrev pub heard_of : Notice → List Passage
heard_of (notices.Frame from frame) = Came (Peer from) frame.bytes.items ∷ []
heard_of (notices.Joined peer (Some life)) = Began (Peer peer) ∷ []
heard_of (notices.Joined peer None) = []
heard_of (notices.Gone peer) = []
heard_of (notices.Refused peer fault source) = []
heard_of (notices.Unreached peer refuses) = []
heard_of (notices.Strangers peer count fault) = []
heard_of (notices.Settings peer settings) = []

abbrev pub heard_by : Option Notice → List Passage
heard_by None = []
heard_by (Some notice) = heard_of notice

abbrev pub IsFrame : Notice → Type 0
IsFrame (notices.Frame from frame) = Unit {0}
IsFrame (notices.Joined peer life) = ⊥
IsFrame (notices.Gone peer) = ⊥
IsFrame (notices.Refused peer fault source) = ⊥
IsFrame (notices.Unreached peer refuses) = ⊥
IsFrame (notices.Strangers peer count fault) = ⊥
IsFrame (notices.Settings peer settings) = ⊥
