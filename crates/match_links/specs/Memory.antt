-- What links in memory keep of what passed.
use Rattle.std.specs.Prelude.{◌≡◌, ℕ, List, [], map, get_or}
use Rattle.std.specs.Coded.{Coded-set, coded_ℕ, coded_list, Π_prop}
use Rattle.match_links.specs.Passages.{Passage, Told, passages_code, lines_in, log_of}
use Rattle.match_links.specs.declared.memory_links.Told as line

-- a line that was told, as what passed
abbrev pub told_by : line.Told → Passage
told_by told = Told told.node told.seat told.line.items

-- the lines are those that seats were told
abbrev pub AreTold : List line.Told → List Passage → Type 0
AreTold told passed = map told_by told ≡ lines_in passed

pub told_prop : (told : List line.Told) (passed : List Passage) → IsProp (AreTold told passed)
told_prop told passed = Coded-set passages_code _ _

-- each node's log has what it was given; one that isn't there has nothing
abbrev pub AreLogged : List (List ℕ) → List Passage → Type 0
AreLogged logs passed = (node : ℕ) → get_or logs node [] ≡ log_of passed node

pub logged_prop : (logs : List (List ℕ)) (passed : List Passage) → IsProp (AreLogged logs passed)
logged_prop logs passed = Π_prop (λ node. Coded-set (coded_list coded_ℕ) _ _)
