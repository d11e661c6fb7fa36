-- The calls of a node.
use Rattle.std.specs.Prelude.{ℕ, List}
use Rattle.protocol_model.specs.Stores.{Store}

-- what comes to a node
pub data Call : Type 0 where
  -- it opens its store and finds this
  Start : (found : Store) → Call
  Tick : Call
  -- it is ordered that the player to act is played for
  Away : Call
  Frame : (from : ℕ) (bytes : List ℕ) → Call
  Line : (seat : ℕ) (bytes : List ℕ) → Call
  Connect : (seat : ℕ) → Call
  Drop : (seat : ℕ) → Call
  Stop : Call
