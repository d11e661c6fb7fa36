-- What passed over a relay's wires since its bot was taken in.
use Rattle.std.specs.Prelude.{ℕ, ◌+◌, Bool, false, if◌then◌else◌, List, [], ◌∷◌, ◌++◌}
use Rattle.node_wires.specs.declared.line.Line.{Line}
use Rattle.node_wires.specs.declared.line.Line.TheVariants.{Seat}
use Rattle.node_wires.specs.Passages.{Passage, Began, Came, Wrote, Gave, Logged, Tried, Ended, Closed, Saw, Waited, Called, is_line}

-- a bot is taken in: the connection of its line begins, or a guest is given that line
abbrev pub is_taken_in : Passage → Bool
is_taken_in (Began line) = is_line line (Seat 0)
is_taken_in (Came line bytes) = false
is_taken_in (Wrote line bytes) = false
is_taken_in (Gave place seat) = is_line (Seat seat) (Seat 0)
is_taken_in (Logged text) = false
is_taken_in (Tried line way) = false
is_taken_in (Ended line way) = false
is_taken_in (Closed line) = false
is_taken_in (Saw moment) = false
is_taken_in (Waited most) = false
is_taken_in Called = false

-- what passed since then, after one call more
abbrev pub since_by : List Passage → Passage → List Passage
since_by before p = if is_taken_in p then [] else before ++ p ∷ []

abbrev pub since_behind : List Passage → List Passage → List Passage
since_behind before [] = before
since_behind before (p ∷ more) = since_behind (since_by before p) more

-- what passed since the last bot was taken in; all that passed where none was
abbrev pub since_bot : List Passage → List Passage
since_bot passed = since_behind [] passed

-- how many bots were taken in
abbrev pub bots_in : List Passage → ℕ
bots_in [] = 0
bots_in (p ∷ more) = (if is_taken_in p then 1 else 0) + bots_in more

-- how many connections began at a line
abbrev pub begins_there : Line → Passage → Bool
begins_there line (Began at) = is_line at line
begins_there line (Came at bytes) = false
begins_there line (Wrote at bytes) = false
begins_there line (Gave place seat) = false
begins_there line (Logged text) = false
begins_there line (Tried at way) = false
begins_there line (Ended at way) = false
begins_there line (Closed at) = false
begins_there line (Saw moment) = false
begins_there line (Waited most) = false
begins_there line Called = false

abbrev pub begun_over : List Passage → Line → ℕ
begun_over [] line = 0
begun_over (p ∷ more) line = (if begins_there line p then 1 else 0) + begun_over more line
