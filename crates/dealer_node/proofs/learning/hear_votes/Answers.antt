use Rattle.std.proofs.Common.{sym, subst, length, rules, arith}
use Rattle.slot_log.specs.Slots.{Log, IsLog}
use Rattle.learner.specs.Learning.{Learned}
use Rattle.dealer_node.specs.Running.{AreInRange, GoesOn}
use Rattle.dealer_node.proofs.Ahead.{heard_run_goes}
use Rattle.dealer_node.proofs.learning.hear_votes.Goals as goal

pub returns-clause-hears : goal.returns-clause-hears
returns-clause-hears c =
    let goes = heard_run_goes c.fronts_go_on.ensures c.commands_are_kept.ensures c.one_more_is_known.ensures c.front_is_first_hole.ensures c.args.learner.now.learned c.args.from c.args.ballot c.args.slot c.args.commands.now
    (subst (λ (l : Log). IsLog l) c.log.ensures c.limits.ensures) c.requires.run.each c.requires.commands in
    record {
      nodes = search rules;
      counted = omega arith;
      known = omega arith;
      goes_on = subst (λ (l : Learned). GoesOn c.args.learner.now.learned.log l.log (length c.args.commands.now)) (sym c.on_accepted_run_reserved.ensures.learned) goes.on;
      in_range = subst (λ (l : Learned). AreInRange l.log) (sym c.on_accepted_run_reserved.ensures.learned) goes.range;
    }
