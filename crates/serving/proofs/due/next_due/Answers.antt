use Rattle.std.proofs.Common.{sym, ◌∙◌}
use Rattle.serving.proofs.Over.{over_where_over}
use Rattle.serving.proofs.due.next_due.Goals as goal

pub returns-clause-over : goal.returns-clause-over
returns-clause-over c = λ over.
    let known = c.args.known.now in
    over_where_over known.nodes.now known.places.now known.greeted known.frame known.repair (sym c.first_due.ensures ∙ over)
