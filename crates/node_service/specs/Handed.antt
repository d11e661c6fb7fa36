-- What a process hands on of what its node made.
use Rattle.std.specs.Prelude.{ℕ, List, [], ◌∷◌, ◌++◌, map}
use Rattle.node_wires.specs.declared.line.Line.TheVariants.{Peer}
use Rattle.node_wires.specs.Passages.{Passage, Wrote}
use Rattle.dealer_node.specs.Texts.{Marked}
use Rattle.dealer_world.specs.Records.{Frame}
use Rattle.stations.specs.Deeds.{Deed}

-- a frame to the peers, for the one that it names
abbrev pub frame_handed : Frame → Passage
frame_handed frame = Wrote (Peer frame.to) frame.bytes

-- the same of a frame under the number of the node that it goes to
abbrev pub mark_handed : Marked ℕ → Passage
mark_handed outgoing = Wrote (Peer outgoing.mark) outgoing.text

-- the frames that are handed to the peers of all that these deeds made, of which the newest stands first: of each all, in their order
abbrev pub frames_by : List Deed → List Passage
frames_by [] = []
frames_by (deed ∷ before) = frames_by before ++ map frame_handed deed.made.frames
