use Rattle.std.proofs.Common.{sym, subst, rules, arith}
use Rattle.slot_log.specs.Slots.{Log, IsLog}
use Rattle.learner.specs.Learning.{Learned}
use Rattle.dealer_node.specs.Running.{AreInRange, GoesOn}
use Rattle.dealer_node.proofs.Ahead.{believed_goes}
use Rattle.dealer_node.proofs.learning.hear_chosen.Goals as goal

pub returns-clause-hears : goal.returns-clause-hears
returns-clause-hears c =
    let goes = believed_goes c.fronts_go_on.ensures c.commands_are_kept.ensures c.one_more_is_known.ensures c.args.learner.now.learned c.args.slot c.args.command (subst (λ (l : Log). IsLog l) c.log.ensures c.limits.ensures) c.requires.command c.requires.commands in
    record {
      nodes = search rules;
      counted = omega arith;
      known = omega arith;
      goes_on = subst (λ (l : Learned). GoesOn c.args.learner.now.learned.log l.log 1) (sym c.on_chosen_reserved.ensures.learned) goes.on;
      in_range = subst (λ (l : Learned). AreInRange l.log) (sym c.on_chosen_reserved.ensures.learned) goes.range;
    }
