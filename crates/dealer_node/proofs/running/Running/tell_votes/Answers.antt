use Rattle.std.proofs.lemmas.Result.{on_ok_weaker}
use Rattle.dealer_node.specs.Outs.{told_by}
use Rattle.dealer_node.proofs.Voted.{votes_told}
use Rattle.dealer_node.proofs.running.Running.tell_votes.Goals as goal

pub returns-clause-ok : goal.returns-clause-ok
returns-clause-ok c =
    on_ok_weaker c.count_votes.result
    (λ took s is. votes_told c.args.member.now c.args.self.now c.count_votes.new.self c.node.result c.args.ballot c.args.slot c.args.commands.now (told_by c.args.made.now) (told_by c.count_votes.new.made) c.send_commands.new.frames.texts s is
    c.node.ensures.value c.send_commands.ensures.texts c.send_commands.ensures.fits (took s is))
    c.count_votes.ensures.ok
