use Rattle.std.proofs.lemmas.Grind.{elements}
use Rattle.std.proofs.Common.{arith, rules}
use Rattle.std.proofs.lemmas.Option.{gets}
use Rattle.playing.proofs.Delivered.{delivered_more}
use Rattle.playing.proofs.marks.missing_from.Goals as goal

pub loop-place-preserved : goal.loop-place-preserved
loop-place-preserved c = delivered_more c.args.delivered.now c.loop-place.place c.loop-place.invariant (grind (arith, gets))

pub returns-then-not-delivered-place-clause-before :
    goal.returns-then-not-delivered-place-clause-before
returns-then-not-delivered-place-clause-before c = search rules

pub returns-then-not-delivered-place-clause-missing :
    goal.returns-then-not-delivered-place-clause-missing
returns-then-not-delivered-place-clause-missing c = grind (arith, elements)
