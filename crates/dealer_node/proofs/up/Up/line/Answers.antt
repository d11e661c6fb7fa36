use Rattle.std.proofs.Common.{◌+◌, ◌*◌, arith}
use Rattle.dealer_node.specs.declared.limits.TheConstants.{FRAMES_OF_A_CLOSE}
use Rattle.dealer_node.specs.Outs.{told_by}
use Rattle.dealer_node.proofs.Left.{less_left}
use Rattle.dealer_node.proofs.Heard.{line_works}
use Rattle.dealer_node.proofs.Within.{left_within, line_left, line_room}
use Rattle.dealer_node.specs.Calling.{line_need}
use Rattle.dealer_node.proofs.up.Up.line.Goals as goal

pub returns-clause-works : goal.returns-clause-works
returns-clause-works g c = λ s honest is.
    let heard = c.hear_piece.ensures.heard s honest is in
    line_works g.D.Disk c.args.member.now s c.args.seat c.args.piece.now c.args.self.now c.hear_piece.new.self c.close_call.new.self (told_by c.args.made.now) (told_by c.hear_piece.new.made) (told_by c.close_call.new.made) c.close_call.result
    heard (c.close_call.ensures.works heard.took.turn.after honest heard.took.now)

pub returns-clause-within : goal.returns-clause-within
returns-clause-within g c = λ most can nothing.
    let need = line_need c.args.self.now.running c.args.limit most in
    left_within c.close_call.new.self.running c.close_call.new.made need
    (c.close_call.ensures.left most (line_room c.args.self.now c.hear_piece.new.self c.args.made.now c.hear_piece.new.made c.args.limit most can c.hear_piece.ensures.makes c.hear_piece.ensures.rest).bounded need 0 0 0
    (less_left c.hear_piece.new.self.running c.hear_piece.new.made need 1 (0 + most) (0 + FRAMES_OF_A_CLOSE * most) 1 most (FRAMES_OF_A_CLOSE * most) (omega arith) (omega arith) (omega arith)
    (line_left c.args.self.now c.hear_piece.new.self c.args.made.now c.hear_piece.new.made c.args.limit most nothing can.room c.hear_piece.ensures.makes c.hear_piece.ensures.rest)))

pub hear_piece-requires-clause-room : goal.hear_piece-requires-clause-room
hear_piece-requires-clause-room g c =
    let shown = c.requires.room.1.room.shown in
    record {
      frames = omega (arith, shown.frames);
      frame_bytes = omega (arith, shown.frame_bytes);
      texts = omega (arith, shown.texts);
      text_bytes = omega (arith, shown.text_bytes);
      faults = shown.faults;
    }

-- what was heard changes no ballot, and leaves room for the close
pub close_call-requires-clause-room : goal.close_call-requires-clause-room
close_call-requires-clause-room g c =
    let room = c.requires.room in (
      room.0,
      line_room c.args.self.now c.hear_piece.new.self c.args.made.now c.hear_piece.new.made c.args.limit room.0 room.1 c.hear_piece.ensures.makes c.hear_piece.ensures.rest,
    )
