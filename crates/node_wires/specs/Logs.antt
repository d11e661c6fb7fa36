-- What the log of wires in memory has.
use Rattle.std.specs.Prelude.{◌≡◌, ℕ, List}
use Rattle.std.specs.Coded.{Coded-set, coded_ℕ, coded_list}
use Rattle.node_wires.specs.Passages.{Passage, logged_in}

-- the log has what it was given
abbrev pub IsLogged : List ℕ → List Passage → Type 0
IsLogged log passed = log ≡ logged_in passed

pub logged_prop : (log : List ℕ) (passed : List Passage) → IsProp (IsLogged log passed)
logged_prop log passed = Coded-set (coded_list coded_ℕ) _ _
