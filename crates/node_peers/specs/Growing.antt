-- What passes over the lines of a process's peers, and what is handed to them and told of them.
use Rattle.std.specs.Prelude.{◌≡◌, List}
use Rattle.node_wires.specs.Passages.{Passage}
use Rattle.node_peers.specs.Adding.{Grows}
use Rattle.node_peers.specs.declared.lines.Lines.{Lines}

-- nothing is handed to the peers, and nothing told of them
abbrev pub IsSilent : Lines → Lines → Type 0
IsSilent old new = (new.sent ≡ old.sent) × (new.heard ≡ old.heard)

-- whose lines they are stays
abbrev pub Grew : Lines → Lines → List Passage → List Passage → Type 0
Grew old new wired_old wired_new = (new.own ≡ old.own) × (Grows old.passed new.passed wired_old wired_new × IsSilent old new)

-- nothing passes
abbrev pub Keeps : Lines → Lines → Type 0
Keeps old new = (new.own ≡ old.own) × (new.passed ≡ old.passed)

abbrev pub Stays : Lines → Lines → Type 0
Stays old new = (new.own ≡ old.own) × ((new.passed ≡ old.passed) × IsSilent old new)
