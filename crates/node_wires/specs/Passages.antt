-- What passed over the wires of a node's process.
use Rattle.std.specs.Prelude.{◌≡◌, ℕ, ◌+◌, ◌==◌, nat_le, ◌&&◌, ◌||◌, Bool, true, cond, if◌then◌else◌, List, [], ◌∷◌, ◌++◌, refl}
use Rattle.std.specs.Coded.{Coded, code_by, coded×, coded_ℕ, coded_list}
use Rattle.node_wires.specs.declared.line.Line.{Line}
use Rattle.node_wires.specs.declared.line.Line.TheVariants.{Peer, Caller, Seat, Guest, Asker}
use Rattle.node_wires.specs.declared.way.Way.{Way}
use Rattle.node_wires.specs.declared.way.Way.TheVariants.{Reading, Writing}
use Rattle.node_wires.specs.declared.halt.Halt.{Halt}
use Rattle.node_wires.specs.declared.halt.Halt.TheVariants as halts

-- one call of a wire that did what it was to do, or a read or write that did nothing
pub data Passage : Type 0 where
  -- a connection began at this line
  Began : (line : Line) → Passage
  -- a piece that came over the connection that the line has
  Came : (line : Line) (bytes : List ℕ) → Passage
  -- a piece that was written to it
  Wrote : (line : Line) (bytes : List ℕ) → Passage
  -- the connection of the guest at this place is that of this seat's line from now on, and the guest's line has none
  Gave : (place seat : ℕ) → Passage
  -- text that was put behind what the log has
  Logged : (text : List ℕ) → Passage
  -- nothing was there to read, or there was no room to write into: later there may be
  Tried : (line : Line) (way : Way) → Passage
  -- a read or a write found that the connection ended, or that there is none
  Ended : (line : Line) (way : Way) → Passage
  -- this side closed the connection that the line has, if it has one
  Closed : (line : Line) → Passage
  -- the present moment, in microseconds
  Saw : (moment : ℕ) → Passage
  -- a wait of so many microseconds at most
  Waited : (most : ℕ) → Passage
  -- the node was called
  Called : Passage

-- what a read or a write that did nothing leaves
abbrev pub halted_as : Way → Line → Halt → Passage
halted_as way line halts.Later = Tried line way
halted_as way line halts.Ended = Ended line way

-- ---- how the logic stores them

abbrev line_kind : Line → ℕ
line_kind (Peer number) = 0
line_kind (Caller place) = 1
line_kind (Seat number) = 2
line_kind (Guest place) = 3
line_kind (Asker place) = 4

abbrev line_number : Line → ℕ
line_number (Peer number) = number
line_number (Caller place) = place
line_number (Seat number) = number
line_number (Guest place) = place
line_number (Asker place) = place

abbrev line_by : ℕ → ℕ → Line
line_by kind number = cond (kind == 0) (Peer number) (cond (kind == 1) (Caller number) (cond (kind == 2) (Seat number) (cond (kind == 3) (Guest number) (Asker number))))

abbrev way_number : Way → ℕ
way_number Reading = 0
way_number Writing = 1

abbrev way_by : ℕ → Way
way_by number = cond (number == 0) Reading Writing

abbrev first_of : List ℕ → ℕ
first_of [] = 0
first_of (number ∷ more) = number

abbrev Parts : Type 0
Parts = ℕ × (ℕ × (ℕ × List ℕ))

abbrev to_parts : Passage → Parts
to_parts (Began line) = (0, (line_kind line, (line_number line, [])))
to_parts (Came line bytes) = (1, (line_kind line, (line_number line, bytes)))
to_parts (Wrote line bytes) = (2, (line_kind line, (line_number line, bytes)))
to_parts (Gave place seat) = (3, (place, (seat, [])))
to_parts (Logged text) = (4, (0, (0, text)))
to_parts (Tried line way) = (5, (line_kind line, (line_number line, way_number way ∷ [])))
to_parts (Ended line way) = (6, (line_kind line, (line_number line, way_number way ∷ [])))
to_parts (Closed line) = (7, (line_kind line, (line_number line, [])))
to_parts (Saw moment) = (8, (moment, (0, [])))
to_parts (Waited most) = (9, (most, (0, [])))
to_parts Called = (10, (0, (0, [])))

abbrev halted_by : Parts → Passage
halted_by p = cond (p.0 == 5) (Tried (line_by p.1.0 p.1.1.0) (way_by (first_of p.1.1.1))) (Ended (line_by p.1.0 p.1.1.0) (way_by (first_of p.1.1.1)))

abbrev looked_by : Parts → Passage
looked_by p = cond (p.0 == 7) (Closed (line_by p.1.0 p.1.1.0)) (cond (p.0 == 8) (Saw p.1.0) (cond (p.0 == 9) (Waited p.1.0) Called))

abbrev behind_four : Parts → Passage
behind_four p = cond (p.0 == 5) (halted_by p) (cond (p.0 == 6) (halted_by p) (looked_by p))

abbrev from_parts : Parts → Passage
from_parts p = cond (p.0 == 0) (Began (line_by p.1.0 p.1.1.0)) (cond (p.0 == 1) (Came (line_by p.1.0 p.1.1.0) p.1.1.1) (cond (p.0 == 2) (Wrote (line_by p.1.0 p.1.1.0) p.1.1.1) (cond (p.0 == 3) (Gave p.1.0 p.1.1.0) (cond (p.0 == 4) (Logged p.1.1.1) (behind_four p)))))

pub from_parts-to_parts : (p : Passage) → from_parts (to_parts p) ≡ p
from_parts-to_parts (Began (Peer number)) = refl
from_parts-to_parts (Began (Caller place)) = refl
from_parts-to_parts (Began (Seat number)) = refl
from_parts-to_parts (Began (Guest place)) = refl
from_parts-to_parts (Began (Asker place)) = refl
from_parts-to_parts (Came (Peer number) bytes) = refl
from_parts-to_parts (Came (Caller place) bytes) = refl
from_parts-to_parts (Came (Seat number) bytes) = refl
from_parts-to_parts (Came (Guest place) bytes) = refl
from_parts-to_parts (Came (Asker place) bytes) = refl
from_parts-to_parts (Wrote (Peer number) bytes) = refl
from_parts-to_parts (Wrote (Caller place) bytes) = refl
from_parts-to_parts (Wrote (Seat number) bytes) = refl
from_parts-to_parts (Wrote (Guest place) bytes) = refl
from_parts-to_parts (Wrote (Asker place) bytes) = refl
from_parts-to_parts (Gave place seat) = refl
from_parts-to_parts (Logged text) = refl
from_parts-to_parts (Tried (Peer number) Reading) = refl
from_parts-to_parts (Tried (Peer number) Writing) = refl
from_parts-to_parts (Tried (Caller place) Reading) = refl
from_parts-to_parts (Tried (Caller place) Writing) = refl
from_parts-to_parts (Tried (Seat number) Reading) = refl
from_parts-to_parts (Tried (Seat number) Writing) = refl
from_parts-to_parts (Tried (Guest place) Reading) = refl
from_parts-to_parts (Tried (Guest place) Writing) = refl
from_parts-to_parts (Tried (Asker place) Reading) = refl
from_parts-to_parts (Tried (Asker place) Writing) = refl
from_parts-to_parts (Ended (Peer number) Reading) = refl
from_parts-to_parts (Ended (Peer number) Writing) = refl
from_parts-to_parts (Ended (Caller place) Reading) = refl
from_parts-to_parts (Ended (Caller place) Writing) = refl
from_parts-to_parts (Ended (Seat number) Reading) = refl
from_parts-to_parts (Ended (Seat number) Writing) = refl
from_parts-to_parts (Ended (Guest place) Reading) = refl
from_parts-to_parts (Ended (Guest place) Writing) = refl
from_parts-to_parts (Ended (Asker place) Reading) = refl
from_parts-to_parts (Ended (Asker place) Writing) = refl
from_parts-to_parts (Closed (Peer number)) = refl
from_parts-to_parts (Closed (Caller place)) = refl
from_parts-to_parts (Closed (Seat number)) = refl
from_parts-to_parts (Closed (Guest place)) = refl
from_parts-to_parts (Closed (Asker place)) = refl
from_parts-to_parts (Saw moment) = refl
from_parts-to_parts (Waited most) = refl
from_parts-to_parts Called = refl

abbrev pub passages_code : Coded (List Passage)
passages_code = coded_list (code_by Parts (coded× coded_ℕ (coded× coded_ℕ (coded× coded_ℕ (coded_list coded_ℕ)))) to_parts from_parts from_parts-to_parts)

-- ---- what came and was written over one connection, and what the log got

-- whether both are the same line
abbrev pub is_line : Line → Line → Bool
is_line one other = (line_kind one == line_kind other) && (line_number one == line_number other)

-- whether a line begins anew where this guest is given this seat's: his own, and the seat's
abbrev pub is_given : ℕ → ℕ → Line → Bool
is_given place seat line = is_line (Guest place) line || is_line (Seat seat) line

-- what came over a line, after one call more
abbrev pub came_by : Line → List ℕ → Passage → List ℕ
came_by line before (Began at) = if is_line at line then [] else before
came_by line before (Came at bytes) = if is_line at line then before ++ bytes else before
came_by line before (Wrote at bytes) = before
came_by line before (Gave place seat) = if is_given place seat line then [] else before
came_by line before (Logged text) = before
came_by line before (Tried at way) = before
came_by line before (Ended at way) = before
came_by line before (Closed at) = before
came_by line before (Saw moment) = before
came_by line before (Waited most) = before
came_by line before Called = before

abbrev pub came_behind : Line → List ℕ → List Passage → List ℕ
came_behind line before [] = before
came_behind line before (p ∷ more) = came_behind line (came_by line before p) more

-- all that came over the connection that a line has
abbrev pub came_over : List Passage → Line → List ℕ
came_over passed line = came_behind line [] passed

-- what was written to a line, after one call more
abbrev pub wrote_by : Line → List ℕ → Passage → List ℕ
wrote_by line before (Began at) = if is_line at line then [] else before
wrote_by line before (Came at bytes) = before
wrote_by line before (Wrote at bytes) = if is_line at line then before ++ bytes else before
wrote_by line before (Gave place seat) = if is_given place seat line then [] else before
wrote_by line before (Logged text) = before
wrote_by line before (Tried at way) = before
wrote_by line before (Ended at way) = before
wrote_by line before (Closed at) = before
wrote_by line before (Saw moment) = before
wrote_by line before (Waited most) = before
wrote_by line before Called = before

abbrev pub wrote_behind : Line → List ℕ → List Passage → List ℕ
wrote_behind line before [] = before
wrote_behind line before (p ∷ more) = wrote_behind line (wrote_by line before p) more

-- all that was written to the connection that a line has
abbrev pub wrote_over : List Passage → Line → List ℕ
wrote_over passed line = wrote_behind line [] passed

-- ---- what was taken of seats

abbrev pub is_seat : Line → Bool
is_seat line = line_kind line == 2

-- a bot was taken in at a seat, also by a guest who was given its line, or a piece of one came
abbrev pub of_seat : Passage → List Passage
of_seat (Began line) = if is_seat line then Began line ∷ [] else []
of_seat (Came line bytes) = if is_seat line then Came line bytes ∷ [] else []
of_seat (Gave place seat) = Began (Seat seat) ∷ []
of_seat (Wrote line bytes) = []
of_seat (Logged text) = []
of_seat (Tried line way) = []
of_seat (Ended line way) = []
of_seat (Closed line) = []
of_seat (Saw moment) = []
of_seat (Waited most) = []
of_seat Called = []

-- all of these, in order
abbrev pub seats_in : List Passage → List Passage
seats_in [] = []
seats_in (p ∷ more) = of_seat p ++ seats_in more

-- ---- what the log got

abbrev text_by : Passage → List ℕ
text_by (Logged text) = text
text_by (Began line) = []
text_by (Came line bytes) = []
text_by (Wrote line bytes) = []
text_by (Gave place seat) = []
text_by (Tried line way) = []
text_by (Ended line way) = []
text_by (Closed line) = []
text_by (Saw moment) = []
text_by (Waited most) = []
text_by Called = []

-- all that the log got
abbrev pub logged_in : List Passage → List ℕ
logged_in [] = []
logged_in (p ∷ more) = text_by p ++ logged_in more

-- ---- which moments were seen, and how often the node was called

-- the moment that was seen last, after one call more
abbrev pub latest_by : ℕ → Passage → ℕ
latest_by before (Saw moment) = moment
latest_by before (Began line) = before
latest_by before (Came line bytes) = before
latest_by before (Wrote line bytes) = before
latest_by before (Gave place seat) = before
latest_by before (Logged text) = before
latest_by before (Tried line way) = before
latest_by before (Ended line way) = before
latest_by before (Closed line) = before
latest_by before (Waited most) = before
latest_by before Called = before

abbrev pub latest_behind : ℕ → List Passage → ℕ
latest_behind before [] = before
latest_behind before (p ∷ more) = latest_behind (latest_by before p) more

-- of all these; 0 where none was seen
abbrev pub latest_in : List Passage → ℕ
latest_in passed = latest_behind 0 passed

-- a moment that is seen isn't below the one before
abbrev pub comes_behind : ℕ → Passage → Bool
comes_behind before (Saw moment) = nat_le before moment
comes_behind before (Began line) = true
comes_behind before (Came line bytes) = true
comes_behind before (Wrote line bytes) = true
comes_behind before (Gave place seat) = true
comes_behind before (Logged text) = true
comes_behind before (Tried line way) = true
comes_behind before (Ended line way) = true
comes_behind before (Closed line) = true
comes_behind before (Waited most) = true
comes_behind before Called = true

abbrev pub come_behind : ℕ → List Passage → Bool
come_behind before [] = true
come_behind before (p ∷ more) = comes_behind before p && come_behind (latest_by before p) more

-- none of all that were seen is
abbrev pub AreInOrder : List Passage → Type 0
AreInOrder passed = come_behind 0 passed ≡ true

abbrev pub call_by : Passage → ℕ
call_by Called = 1
call_by (Began line) = 0
call_by (Came line bytes) = 0
call_by (Wrote line bytes) = 0
call_by (Gave place seat) = 0
call_by (Logged text) = 0
call_by (Tried line way) = 0
call_by (Ended line way) = 0
call_by (Closed line) = 0
call_by (Saw moment) = 0
call_by (Waited most) = 0

-- how often the node was called
abbrev pub calls_in : List Passage → ℕ
calls_in [] = 0
calls_in (p ∷ more) = call_by p + calls_in more
