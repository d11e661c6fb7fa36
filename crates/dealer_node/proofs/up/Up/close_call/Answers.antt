use Rattle.std.proofs.Common.{◌+◌, ◌*◌, length, ap, sym, ◌∙◌, arith}
use Rattle.proposer.specs.Campaigns.{leads}
use Rattle.dealer_node.specs.declared.limits.TheConstants.{FRAMES_OF_A_CLOSE}
use Rattle.dealer_node.specs.Outs.{told_by}
use Rattle.dealer_node.proofs.Left.{fewer_left, fewer_learn, less_left}
use Rattle.dealer_node.proofs.Proposed.{close_unled}
use Rattle.dealer_node.proofs.Stored.{close_works, close_rests}
use Rattle.dealer_node.proofs.up.Up.close_call.Goals as goal

-- what is proposed has no more commands than there is room for
pub propose-requires-clause-store : goal.propose-requires-clause-store
propose-requires-clause-store g c =
    let room = c.requires.room in
    omega (arith, c.in-Some.ensures.bounded room.0 room.1.bounded, room.1.store)

pub propose-requires-clause-learn : goal.propose-requires-clause-learn
propose-requires-clause-learn g c =
    let room = c.requires.room in
    fewer_learn c.args.self.now.running c.proposal.new.self c.args.made.now 1 (length c.in-Some.proposal.commands) room.0 (c.in-Some.ensures.bounded room.0 room.1.bounded) c.proposal.ensures.rest room.1.learn

pub propose-requires-clause-space : goal.propose-requires-clause-space
propose-requires-clause-space g c =
    let room = c.requires.room in
    let few = c.in-Some.ensures.bounded room.0 room.1.bounded in
    record { text_room = omega (arith, few, c.in-Some.ensures.fits.1.least, room.1.texts); byte_room = omega (arith, few, room.1.bytes) }

pub returns-in-Some-clause-left : goal.returns-in-Some-clause-left
returns-in-Some-clause-left g c most bounded need answers more frames left =
    let k = length c.in-Some.proposal.commands in
    let few = c.in-Some.ensures.bounded most bounded in
    c.propose.ensures.left need answers more frames
    (fewer_left c.args.self.now.running c.proposal.new.self c.args.made.now need (answers + 1) (more + k) (more + most) (frames + FRAMES_OF_A_CLOSE * k) (frames + FRAMES_OF_A_CLOSE * most)
    (omega (arith, few)) (omega (arith, few)) c.proposal.ensures.rest left)

pub returns-in-None-clause-left : goal.returns-in-None-clause-left
returns-in-None-clause-left g c most bounded need answers more frames left =
    fewer_left c.args.self.now.running c.proposal.new.self c.args.made.now need answers more (more + most) frames (frames + FRAMES_OF_A_CLOSE * most)
    (omega arith) (omega arith) c.proposal.ensures.rest
    (less_left c.args.self.now.running c.args.made.now need answers (more + most) (frames + FRAMES_OF_A_CLOSE * most) (answers + 1) (more + most) (frames + FRAMES_OF_A_CLOSE * most)
    (omega arith) (omega arith) (omega arith) left)

pub returns-then-not-is_leading-clause-left : goal.returns-then-not-is_leading-clause-left
returns-then-not-is_leading-clause-left g c most bounded need answers more frames left =
    less_left c.args.self.now.running c.args.made.now need answers more frames (answers + 1) (more + most) (frames + FRAMES_OF_A_CLOSE * most) (omega arith) (omega arith) (omega arith) left

pub returns-then-not-is_leading-clause-works : goal.returns-then-not-is_leading-clause-works
returns-then-not-is_leading-clause-works g c s honest is =
    close_rests g.D.Disk c.args.member.now s c.args.self.now c.args.self.now.running (told_by c.args.made.now) is
    (close_unled c.args.member.now c.args.self.now.running s c.requires.at is.running (ap (λ n. leads n c.args.self.now.running.proposer.campaign) (sym c.requires.at.nodes) ∙ (sym c.is_leading.ensures ∙ c.if-not-is_leading.true)))

pub returns-in-Some-clause-works : goal.returns-in-Some-clause-works
returns-in-Some-clause-works g c s honest is =
    let closes = c.in-Some.ensures.closes s is.running in
    close_works g.D.Disk c.args.member.now s c.in-Some.proposal c.args.self.now c.propose.new.self c.proposal.new.self (told_by c.args.made.now) (told_by c.propose.new.made) c.propose.result is closes
    (λ there own. c.propose.ensures.works closes.marked honest there own)

pub returns-in-None-clause-works : goal.returns-in-None-clause-works
returns-in-None-clause-works g c s honest is = close_rests g.D.Disk c.args.member.now s c.args.self.now c.proposal.new.self (told_by c.args.made.now) is (c.in-None.ensures.closes s is.running)
