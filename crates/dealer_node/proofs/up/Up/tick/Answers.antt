use Rattle.std.proofs.Common.{◌+◌, ◌*◌, sym, ◌∙◌, arith}
use Rattle.dealer_node.specs.declared.limits.TheConstants.{FRAMES_TO_ALL, FRAMES_OF_A_CLOSE}
use Rattle.dealer_node.specs.Outs.{told_by}
use Rattle.dealer_node.specs.Calling.{close_need}
use Rattle.dealer_node.proofs.Left.{less_left}
use Rattle.dealer_node.proofs.Ticked.{over_works}
use Rattle.dealer_node.proofs.Within.{left_within, close_left, close_room}
use Rattle.dealer_node.proofs.up.Up.tick.Goals as goal

pub close_call-requires-clause-room : goal.close_call-requires-clause-room
close_call-requires-clause-room g c =
    let room = c.requires.room in (
      room.0,
      close_room c.args.self.now c.args.made.now room.0 room.1,
    )

pub begin-requires-clause-space : goal.begin-requires-clause-space
begin-requires-clause-space g c =
    let can = c.requires.room.1 in
    record { text_room = omega (arith, can.some, can.room.shown.frames); byte_room = omega (arith, can.some, can.room.shown.frame_bytes) }

pub returns-then-over-clause-within : goal.returns-then-over-clause-within
returns-then-over-clause-within g c = λ most can nothing.
    let need = close_need c.args.self.now.running most in
    let left = close_left c.args.self.now c.args.made.now most nothing can.room in
    left_within c.close_call.new.self.running c.close_call.new.made need
    (c.close_call.ensures.left most can.bounded need 0 0 0
    (less_left c.args.self.now.running c.args.made.now need 1 (0 + most) (0 + FRAMES_OF_A_CLOSE * most) 1 most (FRAMES_OF_A_CLOSE * most) (omega arith) (omega arith) (omega arith) left))

pub returns-else-over-clause-within : goal.returns-else-over-clause-within
returns-else-over-clause-within g c = λ most can nothing.
    let need = close_need c.args.self.now.running most in
    let left = close_left c.args.self.now c.args.made.now most nothing can.room in
    left_within c.begin.new.self.running c.begin.new.made need
    (c.begin.ensures.left need 0 0 0
    (less_left c.args.self.now.running c.args.made.now need 0 0 FRAMES_TO_ALL 1 most (FRAMES_OF_A_CLOSE * most) (omega arith) (omega arith) (omega (arith, can.some)) left))

pub returns-then-over-clause-works : goal.returns-then-over-clause-works
returns-then-over-clause-works g c s honest is same over =
    over_works g.D.Disk c.args.member.now s c.args.self.now c.close_call.new.self (told_by c.args.made.now) (told_by c.close_call.new.made) c.close_call.result is (sym over ∙ c.if-over.true) (c.close_call.ensures.works s honest is)
