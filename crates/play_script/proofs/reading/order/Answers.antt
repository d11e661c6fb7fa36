use Rattle.std.proofs.Common.{rules}
use Rattle.play_script.specs.declared.word.Word.TheVariants as word
use Rattle.play_script.proofs.Ordered.{no_order}
use Rattle.play_script.proofs.reading.order.Goals as goal

pub returns-in_err-node-in-Connect : goal.returns-in_err-node-in-Connect
returns-in_err-node-in-Connect c = rw c.from_residual-in_err-node-in-Connect.ensures (no_order c.args.bounds c.args.text.now word.Connect c.args.word c.in-Connect.is c.in_err-node-in-Connect.ensures)

pub returns-in_err-node-in-Drop : goal.returns-in_err-node-in-Drop
returns-in_err-node-in-Drop c = rw c.from_residual-in_err-node-in-Drop.ensures (no_order c.args.bounds c.args.text.now word.Drop c.args.word c.in-Drop.is c.in_err-node-in-Drop.ensures)

pub returns-in_err-node-in-Line : goal.returns-in_err-node-in-Line
returns-in_err-node-in-Line c = rw c.from_residual-in_err-node-in-Line.ensures (no_order c.args.bounds c.args.text.now word.Line c.args.word c.in-Line.is c.in_err-node-in-Line.ensures)

pub returns-in_err-node-in-Stop : goal.returns-in_err-node-in-Stop
returns-in_err-node-in-Stop c = rw c.from_residual-in_err-node-in-Stop.ensures (no_order c.args.bounds c.args.text.now word.Stop c.args.word c.in-Stop.is c.in_err-node-in-Stop.ensures)

pub returns-in_ok-node-in-Drop : goal.returns-in_ok-node-in-Drop
returns-in_ok-node-in-Drop c = search rules
