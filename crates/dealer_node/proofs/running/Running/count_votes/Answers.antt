use Rattle.std.proofs.Common.{◌∙◌, ap, subst, length, IsOk}
use Rattle.learner.specs.Learning.{Learned}
use Rattle.learner.specs.CommandRuns.{answer_to_run, hearing_run}
use Rattle.dealer_node.specs.Outs.{told_by}
use Rattle.dealer_node.specs.Members.{place_at}
use Rattle.dealer_node.proofs.Learned.{applied_taken, learned_ok}
use Rattle.dealer_node.proofs.running.Running.count_votes.Goals as goal

pub returns-clause-ok : goal.returns-clause-ok
returns-clause-ok c = λ s is.
    let hears : Learned → Learned = λ l. hearing_run l c.args.from c.args.ballot c.args.slot c.args.commands.now in
    record {
      turn = _;
      rule = learned_ok (place_at c.args.member.now) (answer_to_run s.learned c.args.from c.args.ballot c.args.slot c.args.commands.now) (hears s.learned) s
          (subst (λ (l : Learned). IsOk (answer_to_run l c.args.from c.args.ballot c.args.slot c.args.commands.now)) is.learned c.in_ok-hear_votes.ensures.ok);
      taken = applied_taken c.args.member.now c.args.self.now c.apply_from.new.self c.hear_votes.new.learner c.front-front.result s (hears s.learned) (told_by c.args.made.now) c.apply_from.new.shown.texts (length c.args.commands.now) is
          c.front-front.ensures.value (c.hear_votes.ensures.learned ∙ ap hears is.learned) c.hear_votes.ensures.hears.goes_on c.apply_from.ensures.scene c.apply_from.ensures.rest;
    }

pub apply_from-requires-clause-played : goal.apply_from-requires-clause-played
apply_from-requires-clause-played c = record { game = c.requires.at.game; count = c.requires.at.count; seats = c.requires.at.seats }
