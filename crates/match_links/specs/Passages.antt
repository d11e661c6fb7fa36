-- What passed over the links of a match.
use Rattle.std.specs.Prelude.{◌≡◌, ℕ, ◌==◌, cond, if◌then◌else◌, List, [], ◌∷◌, ◌++◌, refl}
use Rattle.std.specs.Coded.{Coded, code_by, coded×, coded_ℕ, coded_list}

-- one call of a link that did what it was to do. Nodes and seats are counted from 0
pub data Passage : Type 0 where
  -- a piece that a seat sent to a node; one without bytes is the seat's connection, which was seated there
  Came : (node seat : ℕ) (bytes : List ℕ) → Passage
  -- a line that a seat was told by a node, without its end
  Told : (node seat : ℕ) (line : List ℕ) → Passage
  -- the log of a node was emptied
  Emptied : (node : ℕ) → Passage
  -- text that was put behind what the log of a node had
  Logged : (node : ℕ) (text : List ℕ) → Passage

-- what an accept adds that seated a connection
abbrev pub sat : ℕ → ℕ → Passage
sat node seat = Came node seat []

-- what a read adds that gave these bytes: nothing at the end of a connection
abbrev pub came : ℕ → ℕ → List ℕ → List Passage
came node seat [] = []
came node seat (byte ∷ bytes) = Came node seat (byte ∷ bytes) ∷ []

-- ---- how the logic stores them

abbrev Parts : Type 0
Parts = ℕ × (ℕ × (ℕ × List ℕ))

abbrev to_parts : Passage → Parts
to_parts (Came node seat bytes) = (0, (node, (seat, bytes)))
to_parts (Told node seat line) = (1, (node, (seat, line)))
to_parts (Emptied node) = (2, (node, (0, [])))
to_parts (Logged node text) = (3, (node, (0, text)))

abbrev from_parts : Parts → Passage
from_parts p = cond (p.0 == 0) (Came p.1.0 p.1.1.0 p.1.1.1) (cond (p.0 == 1) (Told p.1.0 p.1.1.0 p.1.1.1) (cond (p.0 == 2) (Emptied p.1.0) (Logged p.1.0 p.1.1.1)))

pub from_parts-to_parts : (p : Passage) → from_parts (to_parts p) ≡ p
from_parts-to_parts (Came node seat bytes) = refl
from_parts-to_parts (Told node seat line) = refl
from_parts-to_parts (Emptied node) = refl
from_parts-to_parts (Logged node text) = refl

abbrev pub passages_code : Coded (List Passage)
passages_code = coded_list (code_by Parts (coded× coded_ℕ (coded× coded_ℕ (coded× coded_ℕ (coded_list coded_ℕ)))) to_parts from_parts from_parts-to_parts)

-- ---- what seats were told, and what logs have

abbrev line_by : Passage → List Passage
line_by (Told node seat line) = Told node seat line ∷ []
line_by other = []

-- the lines that seats were told, in order
abbrev pub lines_in : List Passage → List Passage
lines_in [] = []
lines_in (p ∷ more) = line_by p ++ lines_in more

-- the log of a node, after one call more
abbrev pub logged_by : ℕ → List ℕ → Passage → List ℕ
logged_by node log (Emptied i) = if i == node then [] else log
logged_by node log (Logged i text) = if i == node then log ++ text else log
logged_by node log other = log

abbrev pub log_after : ℕ → List ℕ → List Passage → List ℕ
log_after node log [] = log
log_after node log (p ∷ more) = log_after node (logged_by node log p) more

-- the log of a node that was empty before all this
abbrev pub log_of : List Passage → ℕ → List ℕ
log_of passed node = log_after node [] passed
