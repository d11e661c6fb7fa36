use Rattle.std.proofs.Common.{sym, ◌∙◌}
use Rattle.std.proofs.lemmas.Bool.{eqb-true}
use Rattle.learner.proofs.Same.{test_is}
use Rattle.learner.proofs.Counting.{last_test}
use Rattle.learner.proofs.tally.is_of.Goals.{then-tally-ballot, else-tally-ballot}
use Rattle.learner.proofs.tally.is_of.Goals as goal

pub returns-then-tally-ballot-2 : goal.returns-then-tally-ballot-2
returns-then-tally-ballot-2 c = elim c.if-tally-ballot.branch [
  | then-tally-ballot w ↦
      last_test c.args.ballot c.args.command.now c.args.tally.now c.is_same.result w.if-tally-ballot.true
      (eqb-true c.args.tally.now.ballot.node c.args.ballot.node (sym w.value-is ∙ c.if-tally-ballot-2.true))
      (test_is c.args.tally.now.command c.args.command.now c.is_same.result c.is_same.ensures)
  | else-tally-ballot w ↦ absurd (w.if-tally-ballot.false (eqb-true c.args.tally.now.ballot.round c.args.ballot.round (sym w.value-is ∙ c.if-tally-ballot-2.true)))
]
