-- The tables that a node had, each with what the node had done by then.
use Rattle.std.specs.Prelude.{◌≡◌, ◌⊎◌, true, List, [], ◌∷◌, drop}
use Rattle.slot_log.specs.Hand.{Match}
use Rattle.node_rules.specs.Standings.{Place, Standing, applied}
use Rattle.dealer_node.specs.Nodes.{Node}
use Rattle.dealer_node.specs.Scenes.{IsTableOf}
use Rattle.dealer_node.specs.Seeing.{table_in}
use Rattle.stations.specs.Deeds.{Deed, Did, new_at}

-- the node had this table when it had done this, newest first
pub record Moment : Type 0 where
  pub table : Match
  pub deeds : List Deed

-- these deeds of the node at this place led to a standing whose applied commands make this table; none are of one that is down
pub record MakesTable (place : Place) (deeds : List Deed) (table : Match) : Type 0 where
  pub s : Standing
  pub did : Did place (new_at place) deeds s
  pub runs : (s.up ≡ true) ⊎ (applied s ≡ [])
  pub table_is : IsTableOf place.setting (applied s) table

module _ {D : Type 0} where
  -- the node as it is now
  abbrev pub moment_now : Node D → List Deed → Moment
  moment_now node deeds = record { table = table_in node; deeds = deeds }

  -- the newest of these moments is now
  abbrev pub EndNow : Node D → List Deed → List Moment → Type 0
  EndNow node deeds moments = moments ≡ moment_now node deeds ∷ drop 1 moments
