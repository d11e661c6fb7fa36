use Rattle.std.proofs.Common.{◌<◌, ◌∙◌, sym, subst}
use Rattle.dealer_node.specs.Most.{most_shown_of}
use Rattle.dealer_world.specs.Viewing.{view_of}
use Rattle.dealer_world.proofs.Showing.{most_at}
use Rattle.dealer_world.proofs.cluster.Cluster.most_shown.Goals as goal

pub returns : goal.returns
returns g c =
    let now = c.args.self.now in
    c.most_shown.ensures ∙ most_at most_shown_of (view_of now) c.args.number c.index.result.now (subst (λ n. c.args.number < n) (sym now.count) c.requires) (sym c.index.ensures)
