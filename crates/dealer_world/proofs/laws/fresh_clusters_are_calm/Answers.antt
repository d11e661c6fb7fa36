use Rattle.std.specs.Prelude.{length, slice_get}
use Rattle.node_rules.specs.Standings.{deals_from}
use Rattle.dealer_world.proofs.laws.fresh_clusters_are_calm.Goals as goal

pub returns : goal.returns
returns c = λ plan i members deal is_plan quorum member dealt size.
    c.calm_rounds_move.ensures.fresh plan.setting (length plan.sources) (λ node. deals_from plan.setting.game.players (slice_get plan.sources node)) i members deal is_plan.within quorum member dealt size
