use Rattle.std.proofs.Common.{◌+◌, sym, ◌∙◌, arith}
use Rattle.learner.specs.Cells.{learned_by}
use Rattle.learner.proofs.HeardRuns.{refused_here, refused_later, refused_end}
use Rattle.learner.proofs.hearing.is_refused.Goals as goal

pub returns-then-is_refused_at : goal.returns-then-is_refused_at
returns-then-is_refused_at c =
    refused_here c.args.from c.args.ballot c.args.slot c.args.commands.now c.loop-place.place c.index-commands-place.result (omega arith) c.index-commands-place.is
    (learned_by c.args.nodes c.args.cells.now c.args.log.now.log) _ (sym c.is_refused_at.ensures ∙ c.if-is_refused_at.true) c.loop-place.invariant

pub loop-place-preserved : goal.loop-place-preserved
loop-place-preserved c =
    refused_later c.args.from c.args.ballot c.args.slot c.args.commands.now c.loop-place.place c.index-commands-place.result (omega arith) c.index-commands-place.is
    (learned_by c.args.nodes c.args.cells.now c.args.log.now.log) _ (sym c.is_refused_at.ensures ∙ c.if-is_refused_at.false) c.loop-place.invariant

pub returns : goal.returns
returns c =
    sym (refused_end (learned_by c.args.nodes c.args.cells.now c.args.log.now.log) c.args.from c.args.ballot (c.args.slot + c.loop-place.place) c.args.commands.now c.loop-place.place (omega arith))
    ∙ c.loop-place.invariant
