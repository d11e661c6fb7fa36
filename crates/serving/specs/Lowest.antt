-- How far the lowest running node is.
use Rattle.std.specs.Prelude.{◌≡◌, ℕ, ◌<◌, max, true, false, List, length}
use Rattle.std.proofs.Common.{get_or}
use Rattle.promise_store.specs.declared.disk.Disk.{Ghosts}
use Rattle.node_rules.specs.Standings.{Standing, front_of}
use Rattle.dealer_node.specs.Nodes.{Node}
use Rattle.dealer_node.specs.Seeing.{runs, IsSeen}

module _ {D : Type 0} (g : Ghosts D) where
  -- so much has the first node that runs applied; nothing where none runs
  pub record IsLowestFront (nodes : List (Node D)) (count : ℕ) : Type 0 where
    pub lowest : (i : ℕ) (node : Node D) (s : Standing) → i < length nodes → ((j : ℕ) → j < i → runs (get_or nodes j node) ≡ false)
        → runs (get_or nodes i node) ≡ true → IsSeen g (get_or nodes i node) s → count ≡ front_of s
    pub none : (node : Node D) → ((j : ℕ) → j < length nodes → runs (get_or nodes j node) ≡ false) → count ≡ 0

  -- the count of commands is the greatest that the lowest running node has applied so far
  pub record IsCounted (nodes : List (Node D)) (old new : ℕ) : Type 0 where
    pub lowest : ℕ
    pub is : IsLowestFront nodes lowest
    pub greatest : new ≡ max old lowest
