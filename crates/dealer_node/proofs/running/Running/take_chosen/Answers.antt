use Rattle.std.proofs.Common.{◌∙◌, ap, subst, IsOk}
use Rattle.learner.specs.Learning.{Learned, answer_to_chosen, believing}
use Rattle.dealer_node.specs.Outs.{told_by}
use Rattle.dealer_node.specs.Members.{place_at}
use Rattle.dealer_node.proofs.Learned.{applied_taken, learned_ok}
use Rattle.dealer_node.proofs.running.Running.take_chosen.Goals as goal

pub returns-clause-ok : goal.returns-clause-ok
returns-clause-ok c = λ s is.
    let believes : Learned → Learned = λ l. believing l c.args.slot c.args.command in
    record {
      turn = _;
      rule = learned_ok (place_at c.args.member.now) (answer_to_chosen s.learned.log c.args.slot c.args.command) (believes s.learned) s
          (subst (λ (l : Learned). IsOk (answer_to_chosen l.log c.args.slot c.args.command)) is.learned c.in_ok-hear_chosen.ensures.ok);
      taken = applied_taken c.args.member.now c.args.self.now c.apply_from.new.self c.hear_chosen.new.learner c.front-front.result s (believes s.learned) (told_by c.args.made.now) c.apply_from.new.shown.texts 1 is
          c.front-front.ensures.value (c.hear_chosen.ensures.learned ∙ ap believes is.learned) c.hear_chosen.ensures.hears.goes_on c.apply_from.ensures.scene c.apply_from.ensures.rest;
    }

pub apply_from-requires-clause-played : goal.apply_from-requires-clause-played
apply_from-requires-clause-played c = record { game = c.requires.at.game; count = c.requires.at.count; seats = c.requires.at.seats }
