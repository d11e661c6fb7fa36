-- In which version the called answers, and in which a peer is dialled.
use Rattle.std.specs.Prelude.{◌≡◌, ◌⊎◌, ℕ, zero, suc, Bool, true, false, if◌then◌else◌, List, [], ◌∷◌, ◌++◌, Option, Some, None, Result, Ok, Err}
use Rattle.peer_codes.specs.declared.version.Version.{Version}
use Rattle.peer_codes.specs.declared.version.Version.TheVariants.{First, Second}
use Rattle.peer_codes.specs.declared.hello.Hello.{Hello}
use Rattle.peer_codes.specs.declared.fault.RecordFault.{RecordFault}
use Rattle.peer_codes.specs.declared.records.Record.{Record}
use Rattle.peer_codes.specs.declared.records.Record.TheVariants as record_of
use Rattle.peer_codes.specs.Fits.{IsRecord}
use Rattle.peer_codes.specs.Spelling.{record_text}
use Rattle.node_links.specs.declared.phase.Phase.{Phase}
use Rattle.node_links.specs.declared.phase.Phase.TheVariants as phases
use Rattle.node_links.specs.declared.stage.Stage.{Stage}
use Rattle.node_links.specs.declared.stage.Stage.TheVariants as stages
use Rattle.node_links.specs.declared.turning.Turn.{Turn}
use Rattle.node_links.specs.declared.turning.Turn.TheVariants as turns
use Rattle.node_links.specs.declared.turning.DialEnd.{DialEnd}
use Rattle.node_links.specs.declared.turning.DialEnd.TheVariants as ends

-- ---- answers

-- the same Hello in this version
abbrev pub in_version : Version → Hello → Hello
in_version version own = record own { version = version }

-- that of the Hello that came; the first where none did, or it was refused
abbrev pub version_in : Phase → Version
version_in (phases.Asked hello) = hello.version
version_in (phases.Open hello) = hello.version
version_in (phases.Greeting mine) = First
version_in (phases.Closed fault) = First

abbrev pub version_at : Stage → Version
version_at (stages.Asked hello) = hello.version
version_at (stages.Matched hello) = hello.version
version_at (stages.Proved hello) = hello.version
version_at (stages.Open hello) = hello.version
version_at stages.Greeting = First
version_at (stages.Closed fault) = First

-- ---- what came first

-- these bytes begin with a Hello of this version
abbrev pub IsSaid : Version → List ℕ → Type 0
IsSaid version bytes = (hello : Hello) × ((rest : List ℕ) × (IsRecord (record_of.Hello hello) × ((hello.version ≡ version) × (bytes ≡ record_text (record_of.Hello hello) ++ rest))))

-- that of what was read, where that is a Hello
abbrev pub said_in : Record → Option Version
said_in (record_of.Hello hello) = Some hello.version
said_in (record_of.Proof proof) = None
said_in (record_of.Frame frame) = None
said_in (record_of.Beat beat) = None
said_in (record_of.More more) = None

abbrev pub said_of : Result Record RecordFault → Option Version
said_of (Ok said) = said_in said
said_of (Err fault) = None

-- of what was read in front, and how long that is
abbrev pub said_by : Option (Result Record RecordFault × ℕ) → Option Version
said_by None = None
said_by (Some read) = said_of read.0

-- ---- dials

abbrev pub version_of : Turn → Version
version_of turns.Second = Second
version_of turns.Probe = First
version_of turns.Again = Second
version_of turns.First = First

abbrev pub is_probe : Turn → Bool
is_probe turns.Second = false
is_probe turns.Probe = true
is_probe turns.Again = false
is_probe turns.First = false

-- where no connection opened
abbrev pub closed_end : Bool → Option Version → DialEnd
closed_end is_silent (Some version) = ends.Greeted version
closed_end is_silent None = if is_silent then ends.Silent else ends.Failed

-- a Hello of the first version came, and no connection opened
abbrev pub behind_first : Turn → Turn
behind_first turns.Second = turns.First
behind_first turns.Probe = turns.Again
behind_first turns.Again = turns.First
behind_first turns.First = turns.Second

-- it was closed without a byte
abbrev pub behind_silence : Turn → Turn
behind_silence turns.Second = turns.Probe
behind_silence turns.Probe = turns.Second
behind_silence turns.Again = turns.First
behind_silence turns.First = turns.Second

abbrev pub behind_hello : Turn → Version → Turn
behind_hello turn First = behind_first turn
behind_hello turn Second = turns.Second

abbrev pub next_turn : Turn → DialEnd → Turn
next_turn turn ends.Opened = turns.Second
next_turn turn (ends.Greeted version) = behind_hello turn version
next_turn turn ends.Silent = behind_silence turn
next_turn turn ends.Failed = turns.Second

-- how a peer is dialled behind dials that ended so, the newest first
abbrev pub turn_behind : List DialEnd → Turn
turn_behind [] = turns.Second
turn_behind (end ∷ before) = next_turn (turn_behind before) end

-- the last dial was in the second version, and a Hello of the first answered it
abbrev pub HasSaidFirst : List DialEnd → Type 0
HasSaidFirst dials = (before : List DialEnd) × ((dials ≡ ends.Greeted First ∷ before) × (version_of (turn_behind before) ≡ Second))

-- the last dial was in the second version and was closed without a byte, as one before it; a Hello answered the probe between
abbrev pub HasClosed : List DialEnd → Type 0
HasClosed dials = (before : List DialEnd) × ((dials ≡ ends.Silent ∷ ends.Greeted First ∷ ends.Silent ∷ before) × (turn_behind before ≡ turns.Second))

-- a peer is dialled so that a connection may open in the first version only where it is known to be an older node
abbrev pub FirstIsForOlder : Type 0
FirstIsForOlder = (dials : List DialEnd) → version_of (turn_behind dials) ≡ First → (is_probe (turn_behind dials) ≡ true) ⊎ (HasSaidFirst dials ⊎ HasClosed dials)

-- ---- nodes that are there

-- how a dial ends of an older node, which answers one in the second version by its own Hello, or not
abbrev pub older_end : Bool → Turn → DialEnd
older_end true turns.Second = ends.Greeted First
older_end false turns.Second = ends.Silent
older_end says turns.Probe = ends.Greeted First
older_end true turns.Again = ends.Greeted First
older_end false turns.Again = ends.Silent
older_end says turns.First = ends.Opened

-- and of one that knows the second
abbrev pub newer_end : Turn → DialEnd
newer_end turns.Second = ends.Opened
newer_end turns.Probe = ends.Greeted First
newer_end turns.Again = ends.Opened
newer_end turns.First = ends.Opened

-- of so many dials that end so, beginning with this turn, one opens a connection
abbrev pub Opens : ℕ → (Turn → DialEnd) → Turn → Type 0
Opens zero end turn = ⊥
Opens (suc count) end turn = (end turn ≡ ends.Opened) ⊎ Opens count end (next_turn turn (end turn))

-- whatever was before, an older node is met by the fourth dial
abbrev pub OlderIsMet : Type 0
OlderIsMet = (says : Bool) (turn : Turn) → Opens 4 (older_end says) turn

-- and one that knows the second version by the second
abbrev pub NewerIsMet : Type 0
NewerIsMet = (turn : Turn) → Opens 2 newer_end turn
