-- What passed over links in memory, the connections that they have, and whom they turn away.
use Rattle.std.specs.Prelude.{ℕ, List}
use Rattle.match_links.specs.Passages.{Passage}
use Rattle.match_links.specs.declared.callers.Caller.{Caller}
use Rattle.match_links.specs.declared.memory_links.MemoryLinks.{MemoryLinks}

-- what passed
abbrev pub passed_of : MemoryLinks → List Passage
passed_of links = links.passed.items

-- the connections that they have
abbrev pub callers_of : MemoryLinks → List Caller
callers_of links = links.callers.all.items

-- of each seat, how often it was asked to turn it away
abbrev pub turned_away_in : MemoryLinks → List ℕ
turned_away_in links = links.turned_away
