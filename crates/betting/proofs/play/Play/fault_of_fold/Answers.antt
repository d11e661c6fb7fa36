use Rattle.std.proofs.Common.{arith}
use Rattle.betting.specs.Betting.{history}
use Rattle.betting.proofs.Legal.{fold_faces, fold_even}
use Rattle.betting.proofs.Kept.{seen_most}
use Rattle.betting.proofs.play.Play.fault_of_fold.Goals as goal

pub returns-then-spent-self : goal.returns-then-spent-self
returns-then-spent-self c = fold_faces c.args.self.now.game (history c.args.self.now) c.args.position (omega (arith, c.spent.ensures.value, seen_most c.self.inside c.args.self.now c.self.view_is c.self.invariant))

pub returns-else-spent-self : goal.returns-else-spent-self
returns-else-spent-self c = fold_even c.args.self.now.game (history c.args.self.now) c.args.position (omega (arith, c.spent.ensures.value, seen_most c.self.inside c.args.self.now c.self.view_is c.self.invariant))
