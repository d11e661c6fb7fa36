use Rattle.std.proofs.Common.{rules}
use Rattle.hand_rank.proofs.Greatest.{left_out_below, left_out_last, left_out_front, left_out_last_front}
use Rattle.hand_rank.proofs.all_fives.without.Goals as goal

pub returns-then-left_out-clause-others : goal.returns-then-left_out-clause-others
returns-then-left_out-clause-others g c =
    left_out_below c.args.cards.now c.copy_from_slice.new.self g.row.N c.args.left_out c.index-cards-then-left_out.result c.requires.count c.if-left_out.true c.index-cards-then-left_out.is (search rules)

pub returns-then-left_out-clause-before : goal.returns-then-left_out-clause-before
returns-then-left_out-clause-before g c =
    left_out_front c.args.cards.now c.copy_from_slice.new.self g.row.N c.args.left_out c.index-cards-then-left_out.result c.if-left_out.true (search rules)

pub returns-else-left_out-clause-others : goal.returns-else-left_out-clause-others
returns-else-left_out-clause-others g c =
    left_out_last c.args.cards.now c.copy_from_slice.new.self g.row.N c.args.left_out c.requires.count c.if-left_out.false c.requires.place (search rules)

pub returns-else-left_out-clause-before : goal.returns-else-left_out-clause-before
returns-else-left_out-clause-before g c =
    left_out_last_front c.args.cards.now c.copy_from_slice.new.self g.row.N c.args.left_out c.requires.place (search rules)
