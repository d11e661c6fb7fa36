use Rattle.std.proofs.Common.{◌∙◌, ap, arith, Bool, true, List, [], ◌∷◌, ◌++◌, set}
use Rattle.learner.specs.declared.tally.Tally.{Tally}
use Rattle.learner.specs.Tallies.{skipped}
use Rattle.learner.proofs.Places.{put_new, put_at}
use Rattle.learner.proofs.tally.count.Goals as goal

pub returns-then-place-len-clause-items : goal.returns-then-place-len-clause-items
returns-then-place-len-clause-items c =
    c.push_reserved.ensures.items
    ∙ ap (λ (nodes : List Bool). let tally : Tally = record { ballot = c.args.ballot; command = c.args.command.now; nodes = nodes } in c.args.tallies.now.items ++ tally ∷ [])
    (c.add.ensures ∙ ap (λ (nodes : List Bool). set nodes c.args.from true) c.empty-nodes.ensures)
    ∙ put_new c.args.ballot c.args.command.now c.args.from c.args.tallies.now.items (omega (arith, c.args.tallies.now.ok.0, c.skipped-place.ensures.value, ap (skipped c.args.ballot c.args.command.now) c.deref.ensures.value))

pub returns-clause-items : goal.returns-clause-items
returns-clause-items c =
    ap (λ (nodes : List Bool). let tally : Tally = record { ballot = c.index_mut-tally.result.now.ballot; command = c.index_mut-tally.result.now.command; nodes = nodes } in set c.args.tallies.now.items c.skipped-place.result tally)
    c.add-2.ensures
    ∙ put_at c.args.ballot c.args.command.now c.args.from c.skipped-place.result c.index_mut-tally.result.now c.args.tallies.now.items
    (c.skipped-place.ensures.value ∙ ap (skipped c.args.ballot c.args.command.now) c.deref.ensures.value) (omega (arith, c.args.tallies.now.ok.0)) c.index_mut-tally.ensures.value
