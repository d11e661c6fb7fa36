use Rattle.std.proofs.Common.{◌≡◌, ℕ, ◌+◌, ◌*◌, ◌≤◌, List, length, sym, subst, arith}
use Rattle.slot_log.specs.declared.command.Command.{Command}
use Rattle.dealer_node.specs.declared.limits.TheConstants.{FRAMES_TO_ALL, FRAMES_OF_A_CLOSE}
use Rattle.dealer_node.specs.Outs.{told_by}
use Rattle.dealer_node.specs.Working.{HasLeft}
use Rattle.dealer_node.proofs.Left.{sent_left}
use Rattle.dealer_node.proofs.Stored.{propose_works}
use Rattle.dealer_node.proofs.up.Up.propose.Goals as goal

pub returns-clause-left : goal.returns-clause-left
returns-clause-left g c need answers more frames left =
    let same : c.as_slice-commands.result.now ≡ c.args.proposal.now.commands = c.as_slice-commands.ensures.value in
    let k : ℕ = length c.as_slice-commands.result.now in
    let some : 1 ≤ k = subst (λ (cs : List Command). 1 ≤ length cs) (sym same) c.requires.run.least in
    c.vote.ensures.left need answers more frames
    (sent_left c.args.self.now.running c.args.made.now c.send_commands.new.frames need (answers + 1) (more + k) (frames + FRAMES_TO_ALL * k) (frames + FRAMES_OF_A_CLOSE * k) FRAMES_TO_ALL (FRAMES_TO_ALL * k)
    (omega (arith, some)) (omega arith) c.send_commands.ensures.grows
    (subst (λ (cs : List Command). HasLeft c.args.self.now.running c.args.made.now need (answers + 1) (more + length cs) (frames + FRAMES_OF_A_CLOSE * length cs)) (sym same) left))

pub returns-clause-works : goal.returns-clause-works
returns-clause-works g c s honest is own =
    propose_works g.D.Disk c.args.member.now s c.args.proposal.now c.as_slice-commands.result.now c.args.self.now c.vote.new.self (told_by c.args.made.now) (told_by c.vote.new.made) c.send_commands.new.frames.texts c.vote.result
    c.as_slice-commands.ensures.value is own c.send_commands.ensures.texts c.send_commands.ensures.fits (c.vote.ensures.works s honest is)
