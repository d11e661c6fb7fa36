-- How much waits to be written over the connections of a relay at most.
use Rattle.std.specs.Prelude.{◌≡◌, ℕ, ◌+◌, ◌<◌, List, [], ◌∷◌, ◌++◌, length}
use Rattle.relay_runs.specs.declared.desk.Desk.{Desk}
use Rattle.relay_runs.specs.Said.{ended, said_over, waits_at, first_over}

-- what was said last over a connection: an answer, or before any the first lines
abbrev pub last_said : List ℕ → List (List ℕ) → List ℕ
last_said first [] = first
last_said first (answer ∷ more) = last_said (ended answer) more

-- the text ends so
abbrev pub IsTail : List ℕ → List ℕ → Type 0
IsTail tail text = (front : List ℕ) × (text ≡ front ++ tail)

-- for the bot fewer bytes wait than 64 KiB and one line with CR LF; for each node nothing but the end of what was said last over its connection
pub record IsFew (desk : Desk) : Type 0 where
  pub bot : length desk.to_bot.waiting < 65536 + 4098
  pub nodes : (node : ℕ) → IsTail (waits_at desk.to_nodes.items node) (last_said (first_over node desk) (said_over node desk.relay))
