use Rattle.std.proofs.Common.{◌≡◌, ◌∙◌, ap, sym, subst, arith, refl, true≢false, Some, false, rules}
use Rattle.std.specs.Prelude.{Result, Ok}
use Rattle.seat_session.specs.Session.{Answers, is_ready}
use Rattle.seat_session.specs.declared.said.Said.{Said}
use Rattle.seat_session.specs.declared.said.Said.TheVariants.{Ready}
use Rattle.seat_session.specs.declared.session_fault.SessionFault.{SessionFault}
use Rattle.dealer_node.specs.declared.reader.Reader.{Reader}
use Rattle.dealer_node.specs.Texts.{Written}
use Rattle.dealer_node.proofs.Draining.{begins, ends, closes, next, forwardable, shown_once}
use Rattle.dealer_node.proofs.seat_input.drain.Goals as goal

pub loop-step-init : goal.loop-step-init
loop-step-init c = record {
  stays = c.requires.stays;
  seat = refl;
  feeds = omega (arith, c.requires.limit);
  heard = begins _ _ _ _ _ _ _;
  still = λ greeting. refl;
  act = λ within. within;
  frames = record { text_room = omega arith; byte_room = omega arith; len = omega arith; size = omega arith };
  shown = record { text_room = omega arith; byte_room = omega arith; len = omega arith; size = omega arith };
  faults = record { len = omega arith; capacity = refl };
}

pub take_answer-requires-clause-act : goal.take_answer-requires-clause-act
take_answer-requires-clause-act c = forwardable _ _ _ _ _ c.in-Some.said c.in-Some.ensures.answer c.in-Some.ensures.range

pub take_answer-requires-clause-sits : goal.take_answer-requires-clause-sits
take_answer-requires-clause-sits c = record {
  game = c.requires.sits.game;
  within = omega (arith, c.seat.ensures, c.in-Some.ensures.seat, c.loop-step.invariant.seat, c.requires.sits.within);
}

pub take_answer-requires-clause-room : goal.take_answer-requires-clause-room
take_answer-requires-clause-room c =
    let first : c.in-Some.said ≡ Ok Ready → is_ready c.loop-step.session.standing.phase ≡ false = λ e.
    c.ready_comes_first.ensures.said c.args.table.now.game c.args.table.now.hands c.loop-step.session.seat c.loop-step.session.standing c.next.new.self.standing
    (subst (λ (s : Result Said SessionFault). Answers c.args.table.now.game c.args.table.now.hands c.loop-step.session.seat c.loop-step.session.standing (Some s) c.next.new.self.standing) e c.in-Some.ensures.answer) in
    record {
      frames = omega (arith, c.loop-step.invariant.frames.text_room, c.requires.room.frames);
      frame_bytes = omega (arith, c.loop-step.invariant.frames.byte_room, c.requires.room.frame_bytes);
      texts = λ e. omega (arith, ap (λ (w : Written Reader). w.text_room) (c.loop-step.invariant.still (first e)), c.requires.room.texts);
      text_bytes = λ e. omega (arith, ap (λ (w : Written Reader). w.byte_room) (c.loop-step.invariant.still (first e)), c.requires.room.text_bytes);
      faults = omega (arith, c.loop-step.invariant.faults.len, c.loop-step.invariant.faults.capacity, c.requires.room.faults);
    }

pub returns-in-None-clause-hears : goal.returns-in-None-clause-hears
returns-in-None-clause-hears c =
    ends _ _ _ _ _ _ _ _ _ _ _ _ c.loop-step.invariant.seat c.loop-step.invariant.heard c.in-None.ensures.answer

pub returns-then-is_closed-clause-hears : goal.returns-then-is_closed-clause-hears
returns-then-is_closed-clause-hears c =
    closes _ _ _ _ _ _ _ _ _ _ _ _ _ _ _ c.in-Some.said c.loop-step.invariant.seat (c.seat.ensures ∙ c.in-Some.ensures.seat ∙ c.loop-step.invariant.seat) c.loop-step.invariant.heard c.in-Some.ensures.answer
    (sym c.is_closed.ensures ∙ c.if-is_closed.true) c.take_answer.ensures.taken

pub returns-then-is_closed-clause-makes : goal.returns-then-is_closed-clause-makes
returns-then-is_closed-clause-makes c =
    let made = c.take_answer.ensures.makes.makes in
    record {
      frames = record {
        text_room = omega (arith, c.loop-step.invariant.frames.text_room, made.frames.text_room);
        byte_room = omega (arith, c.loop-step.invariant.frames.byte_room, made.frames.byte_room);
        len = omega (arith, c.loop-step.invariant.frames.len, made.frames.len);
        size = omega (arith, c.loop-step.invariant.frames.size, made.frames.size);
      };
      shown = shown_once c.args.made.now.shown c.loop-step.made.shown c.take_answer.new.made.shown (is_ready c.loop-step.session.standing.phase) c.in-Some.said c.loop-step.invariant.still c.loop-step.invariant.shown made.shown c.take_answer.ensures.makes.still
          (λ e. c.ready_comes_first.ensures.said c.args.table.now.game c.args.table.now.hands c.loop-step.session.seat c.loop-step.session.standing c.next.new.self.standing
          (subst (λ (s : Result Said SessionFault). Answers c.args.table.now.game c.args.table.now.hands c.loop-step.session.seat c.loop-step.session.standing (Some s) c.next.new.self.standing) e c.in-Some.ensures.answer));
      faults = record {
        len = omega (arith, c.loop-step.invariant.faults.len, made.faults.len);
        capacity = made.faults.capacity ∙ c.loop-step.invariant.faults.capacity;
      };
    }

pub returns-in-None-clause-makes : goal.returns-in-None-clause-makes
returns-in-None-clause-makes c = record {
  frames = record {
    text_room = omega (arith, c.loop-step.invariant.frames.text_room);
    byte_room = omega (arith, c.loop-step.invariant.frames.byte_room);
    len = omega (arith, c.loop-step.invariant.frames.len);
    size = omega (arith, c.loop-step.invariant.frames.size);
  };
  shown = c.loop-step.invariant.shown;
  faults = record { len = omega (arith, c.loop-step.invariant.faults.len); capacity = c.loop-step.invariant.faults.capacity };
}

pub loop-step-preserved : goal.loop-step-preserved
loop-step-preserved c =
    let made = c.take_answer.ensures.makes.makes in
    let goes = sym c.is_closed.ensures ∙ c.if-is_closed.false in
    let less = c.answers_take_lines.ensures.answered _ _ _ _ c.in-Some.said _ c.in-Some.ensures.answer goes in
    let ready = c.ready_comes_first.ensures.ready _ _ _ _ c.in-Some.said _ c.in-Some.ensures.answer goes in
    record {
      stays = goes;
      seat = c.in-Some.ensures.seat ∙ c.loop-step.invariant.seat;
      feeds = omega (arith, less, c.loop-step.invariant.feeds);
      heard = next _ _ _ _ _ _ _ _ _ _ _ _ _ _ _ c.in-Some.said c.loop-step.invariant.seat (c.seat.ensures ∙ c.in-Some.ensures.seat ∙ c.loop-step.invariant.seat) c.loop-step.invariant.heard c.in-Some.ensures.answer goes c.take_answer.ensures.taken;
      still = λ greeting. absurd (true≢false (sym ready ∙ greeting));
      act = λ within. c.take_answer.ensures.act (c.loop-step.invariant.act within);
      frames = record {
        text_room = omega (arith, c.loop-step.invariant.frames.text_room, made.frames.text_room);
        byte_room = omega (arith, c.loop-step.invariant.frames.byte_room, made.frames.byte_room);
        len = omega (arith, c.loop-step.invariant.frames.len, made.frames.len);
        size = omega (arith, c.loop-step.invariant.frames.size, made.frames.size);
      };
      shown = shown_once c.args.made.now.shown c.loop-step.made.shown c.take_answer.new.made.shown (is_ready c.loop-step.session.standing.phase) c.in-Some.said c.loop-step.invariant.still c.loop-step.invariant.shown made.shown c.take_answer.ensures.makes.still
          (λ e. c.ready_comes_first.ensures.said c.args.table.now.game c.args.table.now.hands c.loop-step.session.seat c.loop-step.session.standing c.next.new.self.standing
          (subst (λ (s : Result Said SessionFault). Answers c.args.table.now.game c.args.table.now.hands c.loop-step.session.seat c.loop-step.session.standing (Some s) c.next.new.self.standing) e c.in-Some.ensures.answer));
      faults = record {
        len = omega (arith, c.loop-step.invariant.faults.len, made.faults.len);
        capacity = made.faults.capacity ∙ c.loop-step.invariant.faults.capacity;
      };
    }

pub returns-clause-hears : goal.returns-clause-hears
returns-clause-hears c = search rules
