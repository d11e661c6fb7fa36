use Rattle.dealer_node.specs.Outs.{told_by}
use Rattle.dealer_node.proofs.Ordered.{order_taken}
use Rattle.dealer_node.proofs.running.Running.play_for.Goals as goal

pub returns-clause-taken : goal.returns-clause-taken
returns-clause-taken c = λ s is same.
    order_taken c.args.member.now c.args.self.now s c.args.promised c.args.act.now c.take_act.new.pending (told_by c.args.made.now) (told_by c.take_act.new.made) is same c.take_act.ensures.taken
