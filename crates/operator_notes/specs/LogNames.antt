-- What the logs are called that earlier starts left, and which log needn't be kept.
use Rattle.std.specs.Prelude.{◌≡◌, ℕ, List, ◌++◌, codes, decimal}

-- the name of a kept log of a node, by its number
abbrev pub kept_name : ℕ → ℕ → List ℕ
kept_name node number = codes "node" ++ (decimal node ++ (codes ".log." ++ decimal number))

-- and in a folder
abbrev pub kept_log_name : List ℕ → ℕ → ℕ → List ℕ
kept_log_name folder node number = folder ++ (codes "/" ++ kept_name node number)

-- all of a log stands at the front of another
abbrev pub StandsIn : List ℕ → List ℕ → Type 0
StandsIn log kept = (rest : List ℕ) × (kept ≡ log ++ rest)
