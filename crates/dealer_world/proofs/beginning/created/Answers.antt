use Rattle.std.proofs.Common.{◌∙◌, ap, subst}
use Rattle.protocol_model.specs.Stores.{empty_store}
use Rattle.node_rules.specs.Standings.{Place, stopped}
use Rattle.dealer_node.specs.Members.{place_at}
use Rattle.dealer_node.specs.Seeing.{IsSeen}
use Rattle.dealer_world.proofs.beginning.created.Goals as goal

pub returns-clause-node : goal.returns-clause-node
returns-clause-node g c = record {
  placed = ap place_at c.create.ensures.member ∙ c.in_ok-node.ensures.place;
  down = c.create.ensures.down;
  seen = subst (λ (place : Place). IsSeen g.D.Disk c.create.new.self (stopped place empty_store empty_store)) c.in_ok-node.ensures.place c.in_ok-create.ensures.made;
}
