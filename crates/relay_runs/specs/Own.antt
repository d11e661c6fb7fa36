-- What passes over a relay's wires since its bot was taken in passes over the bot's line and the lines of nodes, and of these over those that were dialled since.
use Rattle.std.specs.Prelude.{◌≡◌, ℕ, ◌<◌, ◌==◌, Bool, true, false, List, [], get_or}
use Rattle.std.specs.List.{AllByRecursion}
use Rattle.node_wires.specs.declared.line.Line.{Line}
use Rattle.node_wires.specs.declared.line.Line.TheVariants.{Peer, Caller, Seat, Guest, Asker}
use Rattle.node_wires.specs.Passages.{Passage, Began, Came, Wrote, Gave, Logged, Tried, Ended, Closed, Saw, Waited, Called, came_over, wrote_over}
use Rattle.relay_runs.specs.declared.desk.Desk.{Desk}
use Rattle.relay_runs.specs.Since.{begun_over}

-- ---- whose line

-- the bot's, or a node's
abbrev pub is_own : Line → Bool
is_own (Peer number) = true
is_own (Caller place) = false
is_own (Seat number) = number == 0
is_own (Guest place) = false
is_own (Asker place) = false

-- over such a line, or a look at the clock or a wait
abbrev pub IsOwn : Passage → Type 0
IsOwn (Began line) = is_own line ≡ true
IsOwn (Came line bytes) = is_own line ≡ true
IsOwn (Wrote line bytes) = is_own line ≡ true
IsOwn (Gave place seat) = ⊥
IsOwn (Logged text) = ⊥
IsOwn (Tried line way) = is_own line ≡ true
IsOwn (Ended line way) = is_own line ≡ true
IsOwn (Closed line) = is_own line ≡ true
IsOwn (Saw moment) = Unit {0}
IsOwn (Waited most) = Unit {0}
IsOwn Called = ⊥

-- ---- which nodes

-- whether a node counts as dialled since the bot was taken in
abbrev pub was_dialled : List Bool → ℕ → Bool
was_dialled flags node = get_or flags node false

abbrev pub IsNoneDialled : List Bool → Type 0
IsNoneDialled flags = (node : ℕ) → was_dialled flags node ≡ false

-- to each node that counts as dialled a connection began; from a node to which none began nothing came, and nothing was written to it; none began before the bot had its seat; and nothing passed but over
-- the lines of the bot and of nodes
pub record IsOwned (desk : Desk) (passed : List Passage) : Type 0 where
  pub dialled : (node : ℕ) → was_dialled desk.dialled.items node ≡ true → 0 < begun_over passed (Peer node)
  pub nothing : (node : ℕ) → begun_over passed (Peer node) ≡ 0 → (came_over passed (Peer node) ≡ []) × (wrote_over passed (Peer node) ≡ [])
  pub greeted : desk.is_seated ≡ false → (node : ℕ) → begun_over passed (Peer node) ≡ 0
  pub lines : AllByRecursion IsOwn passed
