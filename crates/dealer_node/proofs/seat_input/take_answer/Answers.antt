use Rattle.std.proofs.Common.{◌∙◌, ap, sym, subst}
use Rattle.std.specs.Prelude.{Result, Ok}
use Rattle.seat_session.specs.declared.said.Said.{Said}
use Rattle.seat_session.specs.declared.session_fault.SessionFault.{SessionFault}
use Rattle.dealer_node.specs.declared.made.Made.{Made}
use Rattle.dealer_node.specs.Members.{place_at}
use Rattle.dealer_node.specs.Outs.{told_by}
use Rattle.dealer_node.specs.Hearing.{TakesAnswer}
use Rattle.dealer_node.proofs.Answered.{ready_makes, act_makes, fault_makes}
use Rattle.dealer_node.proofs.seat_input.take_answer.Goals as goal

pub returns-in-Ready-clause-taken : goal.returns-in-Ready-clause-taken
returns-in-Ready-clause-taken c =
    subst (λ (said : Result Said SessionFault). TakesAnswer (place_at c.args.member.now) c.args.table.now c.args.promised c.args.seat said c.args.pending.now c.args.pending.now (told_by c.args.made.now) (told_by c.take_ready.new.made))
    (sym (c.in-Ok.is ∙ ap Ok c.in-Ready.is)) (c.take_ready.ensures.taken (place_at c.args.member.now) c.args.promised c.args.pending.now c.requires.sits.game)

pub returns-in-Act-clause-taken : goal.returns-in-Act-clause-taken
returns-in-Act-clause-taken c =
    subst (λ (said : Result Said SessionFault). TakesAnswer (place_at c.args.member.now) c.args.table.now c.args.promised c.args.seat said c.args.pending.now c.take_act.new.pending (told_by c.args.made.now) (told_by c.take_act.new.made))
    (sym (c.in-Ok.is ∙ ap Ok c.in-Act.is)) c.take_act.ensures.taken

pub returns-in-Err-clause-taken : goal.returns-in-Err-clause-taken
returns-in-Err-clause-taken c =
    subst (λ (said : Result Said SessionFault). TakesAnswer (place_at c.args.member.now) c.args.table.now c.args.promised c.args.seat said c.args.pending.now c.args.pending.now (told_by c.args.made.now) (told_by c.take_fault.new.made))
    (sym c.in-Err.is) (c.take_fault.ensures.taken (place_at c.args.member.now) c.args.table.now c.args.promised c.args.pending.now)

pub returns-in-Ready-clause-makes : goal.returns-in-Ready-clause-makes
returns-in-Ready-clause-makes c = record {
  makes = ready_makes c.args.made.now c.take_ready.new.made c.take_ready.ensures.shown c.take_ready.ensures.rest;
  still = λ other. absurd (other (c.in-Ok.is ∙ ap Ok c.in-Ready.is));
}

pub returns-in-Act-clause-makes : goal.returns-in-Act-clause-makes
returns-in-Act-clause-makes c = record {
  makes = act_makes c.args.made.now c.take_act.new.made c.take_act.ensures.frames c.take_act.ensures.rest;
  still = λ other. ap (λ (m : Made). m.shown) c.take_act.ensures.rest;
}

pub returns-in-Err-clause-makes : goal.returns-in-Err-clause-makes
returns-in-Err-clause-makes c = record {
  makes = fault_makes c.args.made.now c.take_fault.new.made c.take_fault.ensures.faults c.take_fault.ensures.rest;
  still = λ other. ap (λ (m : Made). m.shown) c.take_fault.ensures.rest;
}
