use Rattle.std.proofs.Common.{arith, rules}
use Rattle.matchstate.proofs.Filled.{not_the_whole_pack}
use Rattle.matchstate.proofs.unused_cards.unused_number.Goals as goal

pub unreachable-requires : goal.unreachable-requires
unreachable-requires c = not_the_whole_pack c.args.cards.now c.requires.few (λ k small. c.loop-number.invariant k (omega arith))

pub loop-number-preserved : goal.loop-number-preserved
loop-number-preserved c = search rules
