-- What is put down of a call of a wire.
use Rattle.node_wires.specs.Passages.{Passage, Began, Came, Wrote, Gave, Logged, Closed, Saw, Waited, Called, halted_as}
use Rattle.node_wires.specs.declared.passages.Passing.{Passing}
use Rattle.node_wires.specs.declared.passages.Passing.TheVariants as passing

abbrev pub passage_of : Passing → Passage
passage_of (passing.Began line) = Began line
passage_of (passing.Came line bytes) = Came line bytes.now
passage_of (passing.Wrote line bytes) = Wrote line bytes.now
passage_of (passing.Gave place seat) = Gave place seat
passage_of (passing.Logged text) = Logged text.now
passage_of (passing.Halted line way halt) = halted_as way line halt
passage_of (passing.Closed line) = Closed line
passage_of (passing.Saw moment) = Saw moment
passage_of (passing.Waited most) = Waited most
passage_of passing.Called = Called
