use Rattle.std.proofs.Common.{◌≡◌, ℕ, subst, arith}
use Rattle.node_rules.specs.Learning.{telling_from}
use Rattle.dealer_node.specs.Fitting.{AreMessages}
use Rattle.dealer_node.proofs.Told.{nothing_told_yet, told_on, none_said, said_on}
use Rattle.dealer_node.proofs.catch_up.send_chosen.Goals as goal

pub loop-step-init : goal.loop-step-init
loop-step-init c = record {
  texts = nothing_told_yet c.args.frames.now.texts c.args.log.now.log c.args.to c.args.slot;
  fits = none_said c.args.log.now.log c.args.to c.args.slot;
  grows = record { text_room = omega arith; byte_room = omega arith; len = omega arith; size = omega arith };
}

pub loop-step-preserved : goal.loop-step-preserved
loop-step-preserved c = record {
  texts = told_on c.args.frames.now.texts c.loop-step.frames.texts c.tell_slot.new.frames.texts c.args.log.now.log c.args.to c.args.slot c.loop-step.step c.loop-step.invariant.texts c.tell_slot.ensures.texts;
  fits = said_on c.args.log.now.log c.args.to c.args.slot c.loop-step.step c.loop-step.invariant.fits c.tell_slot.ensures.fits;
  grows = record {
    text_room = omega (arith, c.loop-step.invariant.grows.text_room, c.tell_slot.ensures.grows.text_room);
    byte_room = omega (arith, c.loop-step.invariant.grows.byte_room, c.tell_slot.ensures.grows.byte_room);
    len = omega (arith, c.loop-step.invariant.grows.len, c.tell_slot.ensures.grows.len);
    size = omega (arith, c.loop-step.invariant.grows.size, c.tell_slot.ensures.grows.size);
  };
}

pub returns-clause-fits : goal.returns-clause-fits
returns-clause-fits c =
    let all : c.loop-step.step ≡ c.args.slots = omega arith in
    subst (λ (n : ℕ). AreMessages (telling_from c.args.log.now.log c.args.to c.args.slot n)) all c.loop-step.invariant.fits
