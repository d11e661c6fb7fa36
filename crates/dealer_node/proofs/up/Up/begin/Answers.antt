use Rattle.std.proofs.Common.{rules, ◌≡◌, true, Ok, subst, Err, ap, sym, ◌∙◌}
use Rattle.slot_log.specs.Slots.{front}
use Rattle.learner.specs.Learning.{Learned}
use Rattle.paxos_wire.specs.Order.{is_below}
use Rattle.proposer.specs.Campaigns.{next_ballot}
use Rattle.paxos_wire.specs.declared.ballot.Ballot.{Ballot}
use Rattle.acceptor.specs.Answers.{prepared}
use Rattle.promise_store.specs.Keeping.{disk_of, Keeps, LeavesDuring}
use Rattle.acceptor.specs.Stored.{store_of}
use Rattle.node_rules.specs.Standings.{front_of}
use Rattle.node_rules.specs.Proposing.{higher, beginning}
use Rattle.dealer_node.specs.Members.{place_at}
use Rattle.dealer_node.specs.Outs.{told_by}
use Rattle.dealer_node.specs.Working.{head_of}
use Rattle.dealer_node.proofs.Stored.{is_disk, of_store, fails_by}
use Rattle.dealer_node.proofs.Ticked.{tick_begins, next_is_above, is_promised, begin_took, begin_failed}
use Rattle.dealer_node.proofs.up.Up.begin.Goals as goal

pub returns-in-Ok-clause-works : goal.returns-in-Ok-clause-works
returns-in-Ok-clause-works g c s honest is same over =
    let member = c.args.member.now in
    let running = c.args.self.now.running in
    let ballot = next_ballot member.node (higher running.seen c.args.promised) in
    let e : c.next_ballot-ballot.result ≡ ballot = c.next_ballot-ballot.ensures.value in
    let t = c.in-Ok.ensures.taken in
    let done = t.ok (head_of member) s.store is.keeps honest in
    let here : c.front-slot.result ≡ front_of s = c.front-slot.ensures.value ∙ ap (λ (l : Learned). front l.log) is.running.learned in
    let above = next_is_above member running s c.args.promised same in
    let above_too : is_below s.store.promise c.next_ballot-ballot.result ≡ true = ap (is_below s.store.promise) e ∙ above in
    let promises = is_promised c.next_ballot-ballot.result c.front-slot.result (front_of s) s.store c.in-Ok.answer above_too here done.0 in
    begin_took g.D.Disk member s ballot c.args.self.now _ (told_by c.args.made.now) (told_by c.begin_promised.new.made) c.limits.ensures is (tick_begins member running s c.args.promised is.running same over c.requires.unspent) above
    (subst (λ (b : Ballot). Keeps g.D.Disk (head_of member) (prepared b s.store) (store_of c.on_prepare.new.self)) e done.1)
    (subst (λ (b : Ballot). LeavesDuring g.D.Disk (head_of member) s.store (prepared b s.store) (disk_of (store_of c.args.self.now.acceptor)) (disk_of (store_of c.on_prepare.new.self))) e (t.any_moment (head_of member) s.store is.keeps honest))
    (c.begin_promised.ensures.taken s c.next_ballot-ballot.result c.front-slot.result is.running promises)

pub returns-in-Err-clause-works : goal.returns-in-Err-clause-works
returns-in-Err-clause-works g c s honest is same over =
    let member = c.args.member.now in
    let running = c.args.self.now.running in
    let ballot = next_ballot member.node (higher running.seen c.args.promised) in
    let e : c.next_ballot-ballot.result ≡ ballot = c.next_ballot-ballot.ensures.value in
    let t = c.in-Err.ensures.taken in
    let above = next_is_above member running s c.args.promised same in
    fails_by g.D.Disk member s _ c.args.self.now _ (told_by c.args.made.now) (told_by c.args.made.now) c.in-Err.fault (is_disk g.D.Disk c.in-Err.fault (t.only (head_of member) s.store is.keeps honest) (λ x. c.in-Err.ensures.memory (ap Err x)))
    (begin_failed g.D.Disk member s c.next_ballot-ballot.result c.args.self.now _ c.limits.ensures
    (tick_begins member running s c.args.promised is.running same over c.requires.unspent ∙ ap (λ (b : Ballot). Ok (beginning (place_at member) b s)) (sym e)) (ap (is_below s.store.promise) e ∙ above) (t.leaves (head_of member) s.store is.keeps honest) (t.any_moment (head_of member) s.store is.keeps honest))

pub returns-in-Err-clause-ends : goal.returns-in-Err-clause-ends
returns-in-Err-clause-ends g c = record {
  goes_on = search rules;
  only = of_store g.D.Disk c.in-Err.fault c.in-Err.ensures.needs.only (λ e. c.in-Err.ensures.memory (ap Err e));
}
