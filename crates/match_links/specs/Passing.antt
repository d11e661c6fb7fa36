-- What is put down of a call of a link.
use Rattle.match_links.specs.Passages.{Passage, Came, Told, Emptied, Logged}
use Rattle.match_links.specs.declared.passages.Passing.{Passing}
use Rattle.match_links.specs.declared.passages.Passing.TheVariants as passing

abbrev pub passage_of : Passing → Passage
passage_of (passing.Came node seat bytes) = Came node seat bytes.now
passage_of (passing.Told node seat line) = Told node seat line.now
passage_of (passing.Emptied node) = Emptied node
passage_of (passing.Logged node text) = Logged node text.now
