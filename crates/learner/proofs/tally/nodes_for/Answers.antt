use Rattle.std.proofs.Common.{sym, ◌∙◌, ap, arith}
use Rattle.learner.proofs.Places.{nodes_new, nodes_at}
use Rattle.learner.proofs.tally.nodes_for.Goals as goal

pub returns-then-place-tallies : goal.returns-then-place-tallies
returns-then-place-tallies c = c.empty.ensures ∙ sym (nodes_new c.args.ballot c.args.command.now c.args.tallies.now (sym c.if-place-tallies.true ∙ c.skipped-place.ensures.value))

pub returns-else-place-tallies : goal.returns-else-place-tallies
returns-else-place-tallies c =
    ap (λ x. x.nodes) (sym c.index-tallies-place.is)
    ∙ nodes_at c.args.ballot c.args.command.now c.skipped-place.result c.index-tallies-place.result c.args.tallies.now c.skipped-place.ensures.value (omega arith) c.index-tallies-place.is
