use Rattle.std.proofs.Common.{◌≡◌, ℕ, ◌∙◌, ap, subst}
use Rattle.std.specs.Prelude.{Result, Ok}
use Rattle.node_rules.specs.Turns.{Turn, Refusal, and_then, joined}
use Rattle.node_rules.specs.Standings.{Standing, front_of}
use Rattle.node_rules.specs.Learning.{asking_on}
use Rattle.learner.specs.Learning.{Learned}
use Rattle.slot_log.specs.Slots.{front}
use Rattle.dealer_node.specs.Outs.{told_by}
use Rattle.dealer_node.specs.Running.{IsTaken}
use Rattle.dealer_node.proofs.Learned.{taken_behind}
use Rattle.dealer_node.proofs.running.Running.believe.Goals as goal

pub returns-clause-ok : goal.returns-clause-ok
returns-clause-ok c = λ s is.
    let first = c.in_ok-take_chosen.ensures.ok s is in
    let asks : Standing → Turn = λ told. asking_on c.args.from (front_of s) told in
    let before : c.front-before.result ≡ front_of s = c.front-before.ensures.value ∙ ap (λ (l : Learned). front l.log) is.learned in
    let asked = subst (λ (n : ℕ). IsTaken c.args.member.now c.take_chosen.new.self (told_by c.take_chosen.new.made) (told_by c.ask_on.new.made) (asking_on c.args.from n first.turn.after)) before (c.ask_on.ensures.taken c.args.member.now first.turn.after first.taken.runs) in
    record {
      turn = joined first.turn (asks first.turn.after);
      rule = ap (λ (r : Result Turn Refusal). and_then r (λ told. Ok (asks told))) first.rule;
      taken = taken_behind c.args.member.now c.take_chosen.new.self c.take_chosen.new.self (told_by c.args.made.now) (told_by c.take_chosen.new.made) (told_by c.ask_on.new.made) first.turn (asks first.turn.after) first.taken asked;
    }
