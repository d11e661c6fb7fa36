use Rattle.std.proofs.Common.{◌≡◌, List, ap, sym, subst, refl, ◌∙◌}
use Rattle.std.proofs.lemmas.Result.{on_ok_weaker}
use Rattle.paxos_wire.specs.declared.message.Message.{Message}
use Rattle.slot_log.specs.declared.command.Command.{Command}
use Rattle.learner.specs.Learning.{answer_to_chosen, believing}
use Rattle.learner.specs.CommandRuns.{answer_to_run, hearing_run}
use Rattle.paxos_wire.specs.declared.entry.Entry.{Entry}
use Rattle.proposer.specs.Campaigns.{Proposing, counting}
use Rattle.proposer.specs.CommandRuns.{IsBounded}
use Rattle.node_rules.specs.Rules.{taking}
use Rattle.node_rules.specs.Learning.{counting_votes, telling}
use Rattle.node_rules.specs.Proposing.{counting_promise, hearing_refusal}
use Rattle.node_rules.specs.Seats.{taking_over}
use Rattle.dealer_node.specs.Members.{place_at}
use Rattle.dealer_node.specs.Outs.{told_by}
use Rattle.dealer_node.specs.declared.running.Running.{Running}
use Rattle.dealer_node.specs.Running.{IsRunning, TakesTurn, IsBoundedBehind}
use Rattle.dealer_node.specs.Storeless.{TakesStoreless}
use Rattle.dealer_node.proofs.Remembered.{counted_keeps, refused_keeps, learned_keeps, believed_keeps, still_taken}
use Rattle.dealer_node.proofs.running.Running.take_storeless.Goals as goal

pub returns-in-Promise-clause-ok : goal.returns-in-Promise-clause-ok
returns-in-Promise-clause-ok c = λ s is.
    let place = place_at c.args.member.now in
    subst (λ (m : Message). TakesStoreless c.args.member.now c.count_promise.new.self (told_by c.args.made.now) (told_by c.args.made.now) s (taking place c.args.from m s)) (sym c.in-Promise.is)
    (still_taken c.args.member.now c.count_promise.new.self s (counting_promise place c.args.from c.in-Promise.ballot c.in-Promise.slot c.in-Promise.entries s).after (told_by c.args.made.now)
    (subst (λ (es : List Entry). IsRunning c.args.member.now c.count_promise.new.self (counting_promise place c.args.from c.in-Promise.ballot c.in-Promise.slot es s).after) c.list.ensures (c.count_promise.ensures.runs c.args.member.now s c.requires.at is)) (counted_keeps place.nodes s c.args.from c.in-Promise.ballot c.in-Promise.slot c.in-Promise.entries))

pub returns-in-Refuse-clause-ok : goal.returns-in-Refuse-clause-ok
returns-in-Refuse-clause-ok c = λ s is.
    subst (λ (m : Message). TakesStoreless c.args.member.now c.hear_refusal.new.self (told_by c.args.made.now) (told_by c.args.made.now) s (taking (place_at c.args.member.now) c.args.from m s)) (sym c.in-Refuse.is)
    (still_taken c.args.member.now c.hear_refusal.new.self s (hearing_refusal c.in-Refuse.promised s).after (told_by c.args.made.now)
    (c.hear_refusal.ensures.runs c.args.member.now s is) (refused_keeps s c.in-Refuse.promised))

pub returns-in-Refuse-clause-at : goal.returns-in-Refuse-clause-at
returns-in-Refuse-clause-at c = c.hear_refusal.ensures.at c.args.member.now c.requires.at

pub returns-in-Accepted-clause-ok : goal.returns-in-Accepted-clause-ok
returns-in-Accepted-clause-ok c =
    let place = place_at c.args.member.now in
    let same : c.as_slice.result.now ≡ c.in-Accepted.commands = c.as_slice.ensures.value in
    on_ok_weaker c.count_votes.result
    (λ takes s is.
    subst (λ (m : Message). TakesStoreless c.args.member.now c.count_votes.new.self (told_by c.args.made.now) (told_by c.count_votes.new.made) s (taking place c.args.from m s)) (sym c.in-Accepted.is)
    (let turn = subst (λ (cs : List Command). TakesTurn c.args.member.now c.count_votes.new.self (told_by c.args.made.now) (told_by c.count_votes.new.made) (counting_votes place c.args.from c.in-Accepted.ballot c.in-Accepted.slot cs s)) same (takes s is) in record {
      takes = turn;
      keeps = learned_keeps place (answer_to_run s.learned c.args.from c.in-Accepted.ballot c.in-Accepted.slot c.in-Accepted.commands) (hearing_run s.learned c.args.from c.in-Accepted.ballot c.in-Accepted.slot c.in-Accepted.commands) s turn.turn turn.rule;
    }))
    c.count_votes.ensures.ok

pub returns-in-Chosen-clause-ok : goal.returns-in-Chosen-clause-ok
returns-in-Chosen-clause-ok c =
    let place = place_at c.args.member.now in
    on_ok_weaker c.believe.result
    (λ takes s is.
    subst (λ (m : Message). TakesStoreless c.args.member.now c.believe.new.self (told_by c.args.made.now) (told_by c.believe.new.made) s (taking place c.args.from m s)) (sym c.in-Chosen.is)
    (let turn = takes s is in record {
      takes = turn;
      keeps = believed_keeps place (answer_to_chosen s.learned.log c.in-Chosen.slot c.in-Chosen.command) (believing s.learned c.in-Chosen.slot c.in-Chosen.command) s c.args.from turn.turn turn.rule;
    }))
    c.believe.ensures.ok

pub returns-in-Ask-clause-ok : goal.returns-in-Ask-clause-ok
returns-in-Ask-clause-ok c = λ s is.
    subst (λ (m : Message). TakesStoreless c.args.member.now c.args.self.now (told_by c.args.made.now) (told_by c.tell_chosen.new.made) s (taking (place_at c.args.member.now) c.args.from m s)) (sym c.in-Ask.is)
    (record {
      takes = record { turn = telling c.args.from c.in-Ask.slot s; rule = refl; taken = c.tell_chosen.ensures.taken c.args.member.now s is };
      keeps = record { store = refl; begun = refl; stands = λ stands. stands };
    })

pub returns-in-Forward-clause-ok : goal.returns-in-Forward-clause-ok
returns-in-Forward-clause-ok c = λ s is.
    let place = place_at c.args.member.now in
    subst (λ (m : Message). TakesStoreless c.args.member.now c.take_over.new.self (told_by c.args.made.now) (told_by c.args.made.now) s (taking place c.args.from m s)) (sym c.in-Forward.is)
    (still_taken c.args.member.now c.take_over.new.self s (taking_over place c.in-Forward.command s).after (told_by c.args.made.now)
    (c.take_over.ensures.runs c.args.member.now s is) (record { store = refl; begun = refl; stands = λ stands. stands }))

-- a promise is counted, or rightly passed over
pub returns-in-Promise-clause-bounded : goal.returns-in-Promise-clause-bounded
returns-in-Promise-clause-bounded c = λ most bounded.
    let counts = c.count_promise.ensures.counts ∙ ap (λ (es : List Entry). counting c.args.self.now.proposer c.args.from c.in-Promise.ballot c.in-Promise.slot es) c.list.ensures in
    subst (λ (p : Proposing). IsBounded p most) (sym counts)
    (subst (λ (m : Message). IsBoundedBehind c.args.self.now.proposer m most) c.in-Promise.is bounded c.args.from)

pub returns-in-Refuse-clause-bounded : goal.returns-in-Refuse-clause-bounded
returns-in-Refuse-clause-bounded c = λ most bounded.
    c.hear_refusal.ensures.bounded most (subst (λ (m : Message). IsBoundedBehind c.args.self.now.proposer m most) c.in-Refuse.is bounded)

pub returns-in-Accepted-clause-bounded : goal.returns-in-Accepted-clause-bounded
returns-in-Accepted-clause-bounded c = λ most bounded.
    subst (λ (p : Proposing). IsBounded p most) (sym c.count_votes.ensures.proposer) (subst (λ (m : Message). IsBoundedBehind c.args.self.now.proposer m most) c.in-Accepted.is bounded)

pub returns-in-Chosen-clause-bounded : goal.returns-in-Chosen-clause-bounded
returns-in-Chosen-clause-bounded c = λ most bounded.
    subst (λ (p : Proposing). IsBounded p most) (sym c.believe.ensures.proposer) (subst (λ (m : Message). IsBoundedBehind c.args.self.now.proposer m most) c.in-Chosen.is bounded)

pub returns-in-Ask-clause-bounded : goal.returns-in-Ask-clause-bounded
returns-in-Ask-clause-bounded c = λ most bounded. subst (λ (m : Message). IsBoundedBehind c.args.self.now.proposer m most) c.in-Ask.is bounded

pub returns-in-Forward-clause-bounded : goal.returns-in-Forward-clause-bounded
returns-in-Forward-clause-bounded c = λ most bounded.
    subst (λ (r : Running). IsBounded r.proposer most) (sym c.take_over.ensures.rest) (subst (λ (m : Message). IsBoundedBehind c.args.self.now.proposer m most) c.in-Forward.is bounded)

pub returns-in-Forward-clause-at : goal.returns-in-Forward-clause-at
returns-in-Forward-clause-at c = c.take_over.ensures.at c.args.member.now c.requires.at
