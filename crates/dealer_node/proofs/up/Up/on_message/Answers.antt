use Rattle.std.proofs.Common.{◌≡◌, ℕ, ◌+◌, ◌*◌, refl, sym, subst, arith}
use Rattle.node_rules.specs.Rules.{seeing}
use Rattle.dealer_node.specs.declared.limits.TheConstants.{FRAMES_OF_A_CLOSE}
use Rattle.dealer_node.specs.declared.running.Running.{Running}
use Rattle.dealer_node.specs.Outs.{told_by}
use Rattle.dealer_node.specs.Running.{IsBoundedBehind, CanLearn}
use Rattle.dealer_node.specs.Calling.{commands_in, frame_need}
use Rattle.dealer_node.proofs.Framed.{message_took, close_failed, take_failed, seen_up, seen_learn, taking_left, message_left, asked_left}
use Rattle.dealer_node.proofs.Within.{left_within, frame_left}
use Rattle.dealer_node.proofs.up.Up.on_message.Goals as goal

pub take_message-requires-clause-store : goal.take_message-requires-clause-store
take_message-requires-clause-store g c = omega (arith, c.requires.room.1.room.store)

pub take_message-requires-clause-learn : goal.take_message-requires-clause-learn
take_message-requires-clause-learn g c =
    let room = c.requires.room in
    seen_learn c.args.self.now c.args.made.now c.args.message.now room.0 room.1 c.see.new.self c.see.ensures.rest

pub take_message-requires-clause-space : goal.take_message-requires-clause-space
take_message-requires-clause-space g c =
    let shown = c.requires.room.1.room.shown in
    record { text_room = omega (arith, shown.frames); byte_room = omega (arith, shown.frame_bytes) }

pub close_call-requires-clause-room : goal.close_call-requires-clause-room
close_call-requires-clause-room g c =
    let m = c.requires.room.0 in
    let can = c.requires.room.1 in
    let taken = c.take_message.ensures.left _ 1 (0 + m) (1 + FRAMES_OF_A_CLOSE * m) (message_left c.args.self.now.running c.see.new.self c.args.made.now _ (commands_in c.args.message.now) m c.see.ensures.rest
    (taking_left c.args.self.now c.args.made.now c.args.message.now m can)) in
    let same : 0 + m ≡ m = omega arith in (
      m,
      record {
        bounded = c.take_message.ensures.bounded m (subst (λ (r : Running). IsBoundedBehind r.proposer c.args.message.now m) (sym c.see.ensures.rest) can.bounded);
        store = omega (arith, c.take_message.ensures.room, can.room.store);
        learn = subst (λ (n : ℕ). CanLearn c.take_message.new.self.running c.take_message.new.made 1 n) same taken.learn;
        texts = omega (arith, taken.texts);
        bytes = omega (arith, taken.bytes);
      },
    )

pub ask_behind-requires-clause-space : goal.ask_behind-requires-clause-space
ask_behind-requires-clause-space g c =
    let m = c.requires.room.0 in
    let can = c.requires.room.1 in
    let bounded = c.take_message.ensures.bounded m (subst (λ (r : Running). IsBoundedBehind r.proposer c.args.message.now m) (sym c.see.ensures.rest) can.bounded) in
    let taken = c.take_message.ensures.left _ 1 (0 + m) (1 + FRAMES_OF_A_CLOSE * m) (message_left c.args.self.now.running c.see.new.self c.args.made.now _ (commands_in c.args.message.now) m c.see.ensures.rest
    (taking_left c.args.self.now c.args.made.now c.args.message.now m can)) in
    let left = c.close_call.ensures.left m bounded _ 0 0 1 taken in
    record { text_room = omega (arith, left.texts); byte_room = omega (arith, left.bytes) }

pub returns-in-Ok-close_call-clause-within : goal.returns-in-Ok-close_call-clause-within
returns-in-Ok-close_call-clause-within g c = λ most can nothing.
    let k = commands_in c.args.message.now in
    let need = frame_need c.args.self.now.running k most in
    let bounded = c.take_message.ensures.bounded most (subst (λ (r : Running). IsBoundedBehind r.proposer c.args.message.now most) (sym c.see.ensures.rest) can.bounded) in
    let taken = c.take_message.ensures.left need 1 (0 + most) (1 + FRAMES_OF_A_CLOSE * most) (message_left c.args.self.now.running c.see.new.self c.args.made.now need k most c.see.ensures.rest
    (frame_left c.args.self.now c.args.made.now k most nothing can.room)) in
    left_within c.close_call.new.self.running c.ask_behind.new.made need
    (asked_left c.close_call.new.self.running c.close_call.new.made c.ask_behind.new.made need 0 0 0 c.ask_behind.ensures.rest c.ask_behind.ensures.frames (c.close_call.ensures.left most bounded need 0 0 1 taken))

pub returns-in-Err-clause-works : goal.returns-in-Err-clause-works
returns-in-Err-clause-works g c s honest is =
    let there = seen_up g.D.Disk c.args.member.now s c.args.message.now c.args.self.now c.see.new.self is (c.see.ensures.runs c.args.member.now s is.running) in
    take_failed g.D.Disk c.args.member.now s c.args.from c.args.message.now c.args.self.now _ c.take_message.new.self (told_by c.args.made.now) (told_by c.take_message.new.made) c.in-Err.fault refl is.unbegun
    (c.in-Err.ensures.works (seeing c.args.message.now s) honest there)

pub returns-in-Err-close_call-clause-works : goal.returns-in-Err-close_call-clause-works
returns-in-Err-close_call-clause-works g c s honest is =
    let there = seen_up g.D.Disk c.args.member.now s c.args.message.now c.args.self.now c.see.new.self is (c.see.ensures.runs c.args.member.now s is.running) in
    let first = c.in-Ok.ensures.works (seeing c.args.message.now s) honest there in
    close_failed g.D.Disk c.args.member.now s c.args.from c.args.message.now c.args.self.now _ c.take_message.new.self c.close_call.new.self (told_by c.args.made.now) (told_by c.take_message.new.made) (told_by c.close_call.new.made) c.in-Err-close_call.fault refl first
    (c.in-Err-close_call.ensures.works first.turn.after honest first.now)

pub returns-in-Ok-close_call-clause-works : goal.returns-in-Ok-close_call-clause-works
returns-in-Ok-close_call-clause-works g c s honest is =
    let there = seen_up g.D.Disk c.args.member.now s c.args.message.now c.args.self.now c.see.new.self is (c.see.ensures.runs c.args.member.now s is.running) in
    let first = c.in-Ok.ensures.works (seeing c.args.message.now s) honest there in
    let second = c.in-Ok-close_call.ensures.works first.turn.after honest first.now in
    message_took g.D.Disk c.args.member.now s c.args.from c.args.message.now c.args.self.now _ c.take_message.new.self c.close_call.new.self (told_by c.args.made.now) (told_by c.take_message.new.made) (told_by c.close_call.new.made) (told_by c.ask_behind.new.made) refl first second
    (c.ask_behind.ensures.taken c.args.member.now)
