use Rattle.std.proofs.Common.{◌≡◌, ◌+◌, ◌*◌, List, length, sym, subst}
use Rattle.paxos_wire.specs.declared.message.Message.{Message}
use Rattle.slot_log.specs.declared.command.Command.{Command}
use Rattle.node_rules.specs.Accepting.{accepting}
use Rattle.node_rules.specs.Rules.{taking}
use Rattle.dealer_node.specs.declared.limits.TheConstants.{FRAMES_TO_ALL, FRAMES_OF_AN_ANSWER}
use Rattle.dealer_node.specs.Members.{place_at}
use Rattle.dealer_node.specs.Outs.{told_by}
use Rattle.dealer_node.specs.Calling.{commands_in}
use Rattle.dealer_node.specs.Running.{IsBoundedBehind}
use Rattle.dealer_node.specs.Working.{Works, HasLeft}
use Rattle.dealer_node.proofs.up.Up.take_message.Goals as goal

pub returns-in-Accept-clause-works : goal.returns-in-Accept-clause-works
returns-in-Accept-clause-works g c s honest is =
    let same : c.as_slice.result.now ≡ c.in-Accept.commands = c.as_slice.ensures.value in
    subst (λ (m : Message). Works g.D.Disk c.args.member.now s (taking (place_at c.args.member.now) c.args.from m s) c.args.self.now c.accept.new.self (told_by c.args.made.now) (told_by c.accept.new.made) c.accept.result) (sym c.in-Accept.is)
    (subst (λ (cs : List Command). Works g.D.Disk c.args.member.now s (accepting (place_at c.args.member.now) c.args.from c.in-Accept.ballot c.in-Accept.slot cs s) c.args.self.now c.accept.new.self (told_by c.args.made.now) (told_by c.accept.new.made) c.accept.result) same
    (c.accept.ensures.works s honest is))

pub returns-in-Accept-clause-left : goal.returns-in-Accept-clause-left
returns-in-Accept-clause-left g c need answers more frames left =
    let same : c.as_slice.result.now ≡ c.in-Accept.commands = c.as_slice.ensures.value in
    c.accept.ensures.left need answers more frames
    (subst (λ (cs : List Command). HasLeft c.args.self.now.running c.args.made.now need (answers + 1) (more + length cs) (frames + (FRAMES_OF_AN_ANSWER + FRAMES_TO_ALL * length cs))) (sym same)
    (subst (λ (m : Message). HasLeft c.args.self.now.running c.args.made.now need (answers + 1) (more + commands_in m) (frames + (FRAMES_OF_AN_ANSWER + FRAMES_TO_ALL * commands_in m))) c.in-Accept.is left))

pub returns-in-Prepare-clause-left : goal.returns-in-Prepare-clause-left
returns-in-Prepare-clause-left g c need answers more frames left =
    c.prepare.ensures.left need answers more frames
    (subst (λ (m : Message). HasLeft c.args.self.now.running c.args.made.now need (answers + 1) (more + commands_in m) (frames + (FRAMES_OF_AN_ANSWER + FRAMES_TO_ALL * commands_in m))) c.in-Prepare.is left)

pub returns-in-Prepare-clause-bounded : goal.returns-in-Prepare-clause-bounded
returns-in-Prepare-clause-bounded g c = λ most bounded.
    c.prepare.ensures.bounded most (subst (λ (m : Message). IsBoundedBehind c.args.self.now.running.proposer m most) c.in-Prepare.is bounded)

pub returns-in-Accept-clause-bounded : goal.returns-in-Accept-clause-bounded
returns-in-Accept-clause-bounded g c = λ most bounded.
    c.accept.ensures.bounded most (subst (λ (m : Message). IsBoundedBehind c.args.self.now.running.proposer m most) c.in-Accept.is bounded)

pub returns-in-Prepare-clause-at : goal.returns-in-Prepare-clause-at
returns-in-Prepare-clause-at g c = c.prepare.ensures.at c.args.member.now c.requires.at
