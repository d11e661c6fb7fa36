-- What is seen of nodes.
use Rattle.std.specs.Prelude.{◌≡◌, ◌<◌, ℕ, Bool, List, [], ◌∷◌, length, Option, None, is_some}
use Rattle.std.specs.Option.{option_map}
use Rattle.std.proofs.Common.{get_or}
use Rattle.game_def.specs.Game.{Game}
use Rattle.betting.specs.Rounds.{to_act, turns}
use Rattle.slot_log.specs.Hand.{Hand}
use Rattle.slot_log.specs.Dealer.{is_match_over}
use Rattle.matchstate.specs.View.{seat_of}
use Rattle.promise_store.specs.declared.disk.Disk.{Ghosts}
use Rattle.match_file.specs.declared.outage.Outage.{Outage}
use Rattle.match_file.specs.Outages.{is_node_out}
use Rattle.dealer_kind.specs.Kind.{Setting, hands_after}
use Rattle.node_rules.specs.Standings.{Standing, applied, front_of}
use Rattle.dealer_node.specs.Nodes.{Node}
use Rattle.dealer_node.specs.Seeing.{member_in, runs, IsSeen}
use Rattle.serving.specs.declared.known.NodeSight.{NodeSight}

-- the seat to act in the newest hand, newest first; none where that is over, or none was dealt
abbrev pub acting_seat : Game → List Hand → Option ℕ
acting_seat game [] = None
acting_seat game (newest ∷ earlier) = option_map (seat_of game.players (length earlier)) (to_act game (turns game newest.past))

-- what a node's standing shows of itself
pub record IsSightOf (setting : Setting) (s : Standing) (sight : NodeSight) : Type 0 where
  pub over : sight.over ≡ is_match_over setting.game setting.title.hands (hands_after setting (applied s))
  pub front : sight.front ≡ front_of s
  pub to_act : sight.to_act ≡ acting_seat setting.game (hands_after setting (applied s))
  pub pends : sight.pends ≡ is_some s.pending

module _ {D : Type 0} (g : Ghosts D) where
  -- what is seen of a node, which is to be out or not
  pub record IsSight (node : Node D) (out : Bool) (sight : NodeSight) : Type 0 where
    pub running : sight.runs ≡ runs node
    pub is_out : sight.is_out ≡ out
    pub shows : (s : Standing) → IsSeen g node s → IsSightOf (member_in node).setting s sight

  -- what is seen of all nodes, of which those are to be out that outages keep out at this count
  pub record AreSights (nodes : List (Node D)) (outages : List Outage) (count : ℕ) (sights : List NodeSight) : Type 0 where
    pub one_each : length sights ≡ length nodes
    pub each : (i : ℕ) (node : Node D) (sight : NodeSight) → i < length nodes → IsSight (get_or nodes i node) (is_node_out outages count i) (get_or sights i sight)
