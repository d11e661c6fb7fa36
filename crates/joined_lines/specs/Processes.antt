-- The processes that a node had and has.
use Rattle.std.specs.Prelude.{◌≡◌, ◌⊎◌, ℕ, List, Option, Some, None}
use Rattle.std.proofs.Common.{get_or}
use Rattle.promise_store.specs.declared.disk.Disk.{Ghosts}
use Rattle.node_rules.specs.Standings.{Place}
use Rattle.dealer_node.specs.Nodes.{Node}
use Rattle.dealer_node.specs.Seeing.{begun_of}
use Rattle.stations.specs.Stations.{Look, Has}
use Rattle.stations.specs.Incarnations.{Ended, at_rest, inside, Incarnations, new_store, one_more}
use Rattle.stations.specs.Together.{HasIncarnations}

module _ {D : Type 0} (g : Ghosts D) where
  -- a process that ended so, as it was after its last whole call
  abbrev pub last_look : (place : Place) (found left : List ℕ) → Ended g place found left → Look (Node D)
  last_look place found left (at_rest look is image) = look
  last_look place found left (inside look is e new told answer here is_for given since) = look

  -- this is one of the processes that a node had, up to a file
  abbrev pub IsEarlier : (place : Place) (file : List ℕ) → Incarnations g place file → Look (Node D) → Type 0
  IsEarlier place _ (new_store file is) look = ⊥
  IsEarlier place _ (one_more found left incarnations ended) look = (look ≡ last_look place found left ended) ⊎ IsEarlier place found incarnations look

  -- this is the process that a node has now, or one of those that it had before
  abbrev pub IsProcessOf : (place : Place) (now : Option (Look (Node D))) → HasIncarnations g place now → Look (Node D) → Type 0
  IsProcessOf place None had look = IsEarlier place had.file had.incarnations look
  IsProcessOf place (Some present) had look = (look ≡ present) ⊎ IsEarlier place (begun_of g present.node) had.incarnations look

  -- each process that a node has now is a station
  abbrev pub AreStations : List (Option (Look (Node D))) → Type 0
  AreStations stations = (i : ℕ) (look : Look (Node D)) → get_or stations i None ≡ Some look → Has g look
