use Rattle.std.proofs.Common.{sym}
use Rattle.dealer_node.specs.Outs.{told_by}
use Rattle.dealer_node.specs.Working.{head_of}
use Rattle.dealer_node.proofs.Heard.{line_heard}
use Rattle.dealer_node.proofs.up.Up.hear_piece.Goals as goal

pub returns-clause-heard : goal.returns-clause-heard
returns-clause-heard g c = λ s honest is.
    line_heard g.D.Disk c.args.member.now s c.args.seat c.args.piece.now c.args.self.now c.hear_piece.new.self (told_by c.args.made.now) (told_by c.hear_piece.new.made) is
    (c.hear_piece.ensures.taken s is.running (sym (c.promised-promised.ensures.kept (head_of c.args.member.now) s.store is.keeps honest)))
