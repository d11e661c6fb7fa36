use Rattle.std.proofs.Common.{◌+◌, ◌*◌, ap, sym, arith}
use Rattle.dealer_node.specs.declared.limits.TheConstants.{FRAMES_OF_A_CLOSE}
use Rattle.dealer_node.specs.declared.running.Running.{Running}
use Rattle.dealer_node.specs.Outs.{told_by}
use Rattle.dealer_node.specs.Working.{head_of}
use Rattle.dealer_node.specs.Calling.{away_need}
use Rattle.dealer_node.proofs.Ordered.{order_took, order_works}
use Rattle.dealer_node.proofs.Left.{less_left}
use Rattle.dealer_node.proofs.Within.{left_within, away_left, away_room}
use Rattle.dealer_node.proofs.up.Up.play_for.Goals as goal

pub returns-clause-works : goal.returns-clause-works
returns-clause-works g c = λ s honest is meant.
    let member = c.args.member.now in
    let taken = c.play_for.ensures.taken s is.running (sym (c.promised-promised.ensures.kept (head_of member) s.store is.keeps honest)) in
    let took = order_took g.D.Disk member s c.args.act.now c.args.self.now c.play_for.new.self (told_by c.args.made.now) (told_by c.play_for.new.made) is taken in
    order_works g.D.Disk member s c.args.act.now c.args.self.now _ c.close_call.new.self (told_by c.args.made.now) (told_by c.play_for.new.made) (told_by c.close_call.new.made) c.close_call.result meant took
    (c.close_call.ensures.works took.turn.after honest took.now)

pub returns-clause-within : goal.returns-clause-within
returns-clause-within g c = λ most can nothing.
    let need = away_need c.args.self.now.running most in
    left_within c.close_call.new.self.running c.close_call.new.made need
    (c.close_call.ensures.left most (away_room c.args.self.now _ c.args.made.now c.play_for.new.made most can c.play_for.ensures.frames c.play_for.ensures.rest (ap (λ (r : Running). record c.args.self.now { running = r }) c.play_for.ensures.same)).bounded need 0 0 0
    (less_left c.play_for.new.self c.play_for.new.made need 1 (0 + most) (0 + FRAMES_OF_A_CLOSE * most) 1 most (FRAMES_OF_A_CLOSE * most) (omega arith) (omega arith) (omega arith)
    (away_left c.args.self.now _ c.args.made.now c.play_for.new.made most nothing can.room c.play_for.ensures.frames c.play_for.ensures.rest
    (ap (λ (r : Running). record c.args.self.now { running = r }) c.play_for.ensures.same))))

pub play_for-requires-clause-space : goal.play_for-requires-clause-space
play_for-requires-clause-space g c =
    let shown = c.requires.room.1.room.shown in
    record { text_room = omega (arith, shown.frames); byte_room = omega (arith, shown.frame_bytes) }

-- what was meant changes no ballot, and leaves room for the close
pub close_call-requires-clause-room : goal.close_call-requires-clause-room
close_call-requires-clause-room g c =
    let room = c.requires.room in (
      room.0,
      away_room c.args.self.now _ c.args.made.now c.play_for.new.made room.0 room.1 c.play_for.ensures.frames c.play_for.ensures.rest (ap (λ (r : Running). record c.args.self.now { running = r }) c.play_for.ensures.same),
    )
