-- The starts as they are kept, and how many each node has.
use Rattle.std.specs.Prelude.{◌≡◌, ℕ, ◌<◌, List, length, map, get_or}
use Rattle.dealer_world.specs.declared.begun.Begun.{Begun}
use Rattle.dealer_world.specs.Records.{start_count}
use Rattle.dealer_world.specs.Recordings.{start_by}

-- starts in order, and for how many more there is room
pub record Kept : Type 0 where
  pub begun : List Begun
  pub room : ℕ

-- under each number that a node may have stands how many starts it has
abbrev pub AreCounted : List Begun → List ℕ → Type 0
AreCounted begun counts = (length counts ≡ 256) × ((node : ℕ) → node < 256 → get_or counts node 0 ≡ start_count (map start_by begun) node)
