use Rattle.std.proofs.Common.{◌+◌, ◌++◌, List, [], ◌∷◌, sym, ap, ◌∙◌, rules, arith, length-append}
use Rattle.std.proofs.lemmas.List.{append-nil}
use Rattle.slot_log.specs.declared.command.Command.{Command}
use Rattle.proposer.proofs.ToldCommands.{none_told_past, goes_on, none_follows, none_told, is_done}
use Rattle.proposer.proofs.campaign.Campaign.push_told.Goals as goal

pub returns-then-slot-ge-SLOTS-clause-run : goal.returns-then-slot-ge-SLOTS-clause-run
returns-then-slot-ge-SLOTS-clause-run c =
    sym (append-nil c.args.run.now) ∙ ap (λ (l : List Command). c.args.run.now ++ l) (sym (none_told_past c.args.nodes c.args.self.now 63 (c.args.slot + 1) (omega arith)))

pub returns-then-not-may_follow-clause-run : goal.returns-then-not-may_follow-clause-run
returns-then-not-may_follow-clause-run c =
    none_follows c.args.nodes c.args.self.now c.loop-step.run c.loop-step.step c.args.slot _ c.loop-step-test.true (search rules) c.loop-step.invariant.so_far

pub returns-in-None-clause-run : goal.returns-in-None-clause-run
returns-in-None-clause-run c =
    none_told c.args.nodes c.args.self.now c.loop-step.run c.loop-step.step c.args.slot _ c.loop-step-test.true (search rules) (search rules) c.loop-step.invariant.so_far

pub loop-step-preserved : goal.loop-step-preserved
loop-step-preserved c = record {
  filled = rw c.push.ensures (omega (arith, c.loop-step.invariant.filled, length-append c.loop-step.run (c.in-Some.entry.command ∷ [])));
  so_far = rw c.push.ensures (goes_on c.args.nodes c.args.self.now c.loop-step.run c.loop-step.step c.args.slot _ c.in-Some.entry c.loop-step-test.true (search rules) (search rules) c.loop-step.invariant.so_far);
}

pub returns-clause-run : goal.returns-clause-run
returns-clause-run c =
    is_done c.args.nodes c.args.self.now c.loop-step.run c.loop-step.step c.args.slot _ c.loop-step-test.false c.loop-step.invariant.so_far
