use Rattle.std.proofs.Common.{decimal, codes}
use Rattle.matchstate.specs.Cards.{cards_field}
use Rattle.matchstate.specs.SeenCards.{holes_in, boards_in}
use Rattle.matchstate.proofs.Sights.{spelled}
use Rattle.matchstate.proofs.line.put_line.Goals as goal

pub returns-clause-items : goal.returns-clause-items
returns-clause-items c =
    spelled c.args.out.now.items (codes "MATCHSTATE:") (decimal c.args.position) (decimal c.args.hand) c.args.betting.now (cards_field (holes_in c.args.players c.args.seen.now) (boards_in c.args.seen.now)) 58
    c.put.new.out.items c.put_number.new.out.items c.put-2.new.out.items c.put_number-2.new.out.items c.put-3.new.out.items c.put-4.new.out.items c.put-5.new.out.items c.put_seen.new.out.items
    c.put.ensures.items c.put_number.ensures.items c.put-2.ensures.items c.put_number-2.ensures.items c.put-3.ensures.items c.put-4.ensures.items c.put-5.ensures.items c.put_seen.ensures.items
