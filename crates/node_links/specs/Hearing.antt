-- What calls tell of a connection, one after another.
use Rattle.std.specs.Prelude.{◌≡◌, ℕ, List, [], ◌∷◌, ◌++◌, length, Some, Result}
use Rattle.peer_codes.specs.declared.hello.Hello.{Hello}
use Rattle.peer_codes.specs.declared.records.Record.{Record}
use Rattle.peer_codes.specs.declared.records.Record.TheVariants as record_of
use Rattle.peer_codes.specs.Fits.{IsRecord}
use Rattle.peer_codes.specs.Spelling.{record_text}
use Rattle.node_links.specs.declared.peer_fault.PeerFault.{PeerFault}
use Rattle.node_links.specs.declared.heard.Heard.{Heard}
use Rattle.node_links.specs.declared.phase.Phase.TheVariants as phases
use Rattle.node_links.specs.declared.plain_connection.PlainConnection.{PlainConnection}
use Rattle.node_links.specs.Steps.{on_open}
use Rattle.node_links.specs.Telling.{IsRead, read_behind}
use Rattle.node_links.specs.Connections.{Next}

-- what so many calls told, and how they left the connection
abbrev pub Hears : PlainConnection → List (Result Heard PeerFault) → PlainConnection → Type 0
Hears old [] new = new ≡ old
Hears old (told ∷ more) new = (between : PlainConnection) × Next old.phase old (Some told) between × Hears between more new

-- a frame or a beat that has a text, or a record of a further kind that has one and tells something behind this Hello
abbrev pub IsSaid : Hello → Record → Type 0
IsSaid other (record_of.Frame frame) = IsRecord (record_of.Frame frame)
IsSaid other (record_of.Beat beat) = IsRecord (record_of.Beat beat)
IsSaid other (record_of.Hello hello) = ⊥
IsSaid other (record_of.Proof proof) = ⊥
IsSaid other (record_of.More more) = IsRecord (record_of.More more) × IsRead (read_behind other more)

abbrev pub AreSaid : Hello → List Record → Type 0
AreSaid other [] = Unit {0}
AreSaid other (said ∷ more) = IsSaid other said × AreSaid other more

-- their texts, one behind the other
abbrev pub texts : List Record → List ℕ
texts [] = []
texts (said ∷ more) = record_text said ++ texts more

-- what an open connection tells of them
abbrev pub told_of : Hello → List Record → List (Result Heard PeerFault)
told_of other [] = []
told_of other (said ∷ more) = (on_open other said).heard ∷ told_of other more

-- frames, beats and records of further kinds whose texts came, on a connection that is open, come as they were said, in order, whatever stands behind
abbrev pub SaidIsHeard : Type 0
SaidIsHeard = (old new : PlainConnection) (other : Hello) (said : List Record) (rest : List ℕ) (told : List (Result Heard PeerFault)) → AreSaid other said
    → old.phase ≡ phases.Open other → old.came.waiting ≡ texts said ++ rest → length told ≡ length said → Hears old told new
    → (told ≡ told_of other said) × (new.phase ≡ phases.Open other) × (new.came.waiting ≡ rest)
