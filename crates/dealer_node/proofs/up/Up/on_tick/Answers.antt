use Rattle.std.proofs.Common.{◌≡◌, ◌∙◌, ap, sym, subst, refl, inr, Result, Ok, Err, true≢false, rules, arith}
use Rattle.node_rules.specs.Turns.{and_then}
use Rattle.node_rules.specs.Proposing.{ticking, closing}
use Rattle.node_rules.specs.Calls.{Tick}
use Rattle.dealer_node.specs.declared.fault.NodeFault.{NodeFault}
use Rattle.dealer_node.specs.Members.{place_at}
use Rattle.dealer_node.specs.Outs.{Told, told_by, both_told, HasRoom}
use Rattle.dealer_node.specs.Working.{head_of}
use Rattle.dealer_node.specs.Calling.{HasCallRoom, CanClose, HandlesCall}
use Rattle.dealer_node.proofs.Heard.{err_is, works_over, spent_over}
use Rattle.proposer.specs.Campaigns.{Proposing}
use Rattle.proposer.specs.CommandRuns.{IsBounded}
use Rattle.dealer_node.specs.Most.{most_after, most_applied}
use Rattle.dealer_node.specs.Calling.{close_need}
use Rattle.dealer_node.proofs.Within.{room_for}
use Rattle.dealer_node.proofs.Most.{none_shown, made_shown}
use Rattle.dealer_node.proofs.up.Up.on_tick.Goals as goal
use Rattle.dealer_node.proofs.up.Up.on_tick.Goals.{else-not-over-via-then-not-over+else-is_spent, else-not-over-via-else-not-over}

pub returns-in_err-made-clause-at : goal.returns-in_err-made-clause-at
returns-in_err-made-clause-at g c = c.ready.ensures.at c.args.member.now c.requires

pub tick-requires-clause-at : goal.tick-requires-clause-at
tick-requires-clause-at g c = c.ready.ensures.at c.args.member.now c.requires

pub tick-requires-clause-unspent : goal.tick-requires-clause-unspent
tick-requires-clause-unspent g c = λ running.
    let same = spent_over c.args.self.now.running c.ready.new.self.running c.promised-promised.result c.ready.ensures.alone.seen c.ready.ensures.alone.learned in
    elim c.else-not-over.branch [
      | else-not-over-via-then-not-over+else-is_spent w ↦ same ∙ (sym w.is_spent.ensures ∙ w.if-is_spent.false)
      | else-not-over-via-else-not-over w ↦ absurd (true≢false (sym w.if-not-over.false ∙ running))
    ]

pub returns-in_err-tick-clause-handles : goal.returns-in_err-tick-clause-handles
returns-in_err-tick-clause-handles g c = λ s honest is.
    let place = place_at c.args.member.now in
    let outcome = and_then (ticking place s) (closing place) in
    let worked = c.in_err-tick.ensures.works s honest (c.in_ok-made.ensures.unmoved.up c.args.member.now s is) (c.promised-promised.ensures.kept (head_of c.args.member.now) s.store is.keeps honest) (c.is_over-over.ensures c.args.member.now s is.running) in
    let same : c.from_residual-in_err-tick.result ≡ Err c.in_err-tick.field-0.0 = err_is c.from_residual-in_err-tick.result c.in_err-tick.field-0.0 c.from_residual-in_err-tick.ensures.1 in
    let A : Result (Unit {0}) NodeFault → Type 0 = λ a. HandlesCall g.D.Disk c.args.member.now s Tick c.args.self.now c.tick.new.self (told_by c.args.out.now) (told_by c.ready.new.out) a in
    subst A (sym same)
    (inr (
      outcome,
      refl,
      works_over g.D.Disk c.args.member.now s outcome c.args.self.now c.ready.new.self c.tick.new.self (told_by c.in_ok-made.made) (told_by c.tick.new.made) (told_by c.args.out.now) (told_by c.ready.new.out) (Err c.in_err-tick.field-0.0)
          c.in_ok-made.ensures.unmoved.disk c.in_ok-made.ensures.nothing (λ e. absurd (cc)) worked,
    ))

pub returns-clause-handles : goal.returns-clause-handles
returns-clause-handles g c = λ s honest is.
    let place = place_at c.args.member.now in
    let outcome = and_then (ticking place s) (closing place) in
    let worked = c.in_ok-tick.ensures.works s honest (c.in_ok-made.ensures.unmoved.up c.args.member.now s is) (c.promised-promised.ensures.kept (head_of c.args.member.now) s.store is.keeps honest) (c.is_over-over.ensures c.args.member.now s is.running) in
    inr (
      outcome,
      refl,
      works_over g.D.Disk c.args.member.now s outcome c.args.self.now c.ready.new.self c.tick.new.self (told_by c.in_ok-made.made) (told_by c.tick.new.made) (told_by c.args.out.now) (told_by c.append.new.self) (Ok tt)
          c.in_ok-made.ensures.unmoved.disk c.in_ok-made.ensures.nothing (λ e. c.append.ensures ∙ ap (λ (t : Told). both_told t (told_by c.tick.new.made)) c.in_ok-made.ensures.same) worked,
    )

pub returns-then-is_spent-clause-unmade : goal.returns-then-is_spent-clause-unmade
returns-then-is_spent-clause-unmade g c = search rules

pub returns-then-is_spent-clause-shows : goal.returns-then-is_spent-clause-shows
returns-then-is_spent-clause-shows g c = none_shown (most_after (most_applied c.args.self.now.running)) (told_by c.args.out.now) (told_by c.args.out.now) refl

pub returns-in_err-made-clause-shows : goal.returns-in_err-made-clause-shows
returns-in_err-made-clause-shows g c = none_shown (most_after (most_applied c.args.self.now.running)) (told_by c.args.out.now) (told_by c.ready.new.out) c.ready.ensures.same

pub returns-in_err-tick-clause-shows : goal.returns-in_err-tick-clause-shows
returns-in_err-tick-clause-shows g c = none_shown (most_after (most_applied c.args.self.now.running)) (told_by c.args.out.now) (told_by c.ready.new.out) c.in_ok-made.ensures.same

pub returns-clause-shows : goal.returns-clause-shows
returns-clause-shows g c =
    let most = c.most_proposed-most.result in
    let room : HasCallRoom c.ready.new.self c.in_ok-made.made (close_need c.ready.new.self.running most) 1 most = search rules in
    let can : CanClose c.ready.new.self c.in_ok-made.made (close_need c.ready.new.self.running) most = record {
      some = c.most_proposed-most.ensures.least;
      bounded = subst (λ (p : Proposing). IsBounded p most) (sym c.in_ok-made.ensures.alone.proposer) c.most_proposed-most.ensures.bounded;
      room = room;
    } in
    made_shown (most_after (most_applied c.args.self.now.running)) (close_need c.ready.new.self.running c.most_proposed-most.result) c.tick.new.made (told_by c.args.out.now) (told_by c.ready.new.out) (told_by c.append.new.self)
    c.append.ensures c.in_ok-made.ensures.same (c.in_ok-tick.ensures.within c.most_proposed-most.result can c.in_ok-made.ensures.nothing) (omega (arith, c.in_ok-made.ensures.alone.ahead, c.most_proposed-most.ensures.value)) (omega (arith, c.in_ok-made.ensures.alone.ahead, c.most_proposed-most.ensures.value))

-- how many commands the close proposes at most, and the room for that
pub tick-requires-clause-room : goal.tick-requires-clause-room
tick-requires-clause-room g c =
    let room : HasCallRoom c.ready.new.self c.in_ok-made.made (close_need c.ready.new.self.running c.most_proposed-most.result) 1 c.most_proposed-most.result = search rules in (
      c.most_proposed-most.result,
      record {
        some = c.most_proposed-most.ensures.least;
        bounded = subst (λ (p : Proposing). IsBounded p c.most_proposed-most.result) (sym c.in_ok-made.ensures.alone.proposer) c.most_proposed-most.ensures.bounded;
        room = room;
      },
    )

pub append-requires : goal.append-requires
append-requires g c =
    let most = c.most_proposed-most.result in
    let room : HasCallRoom c.ready.new.self c.in_ok-made.made (close_need c.ready.new.self.running most) 1 most = search rules in
    let out : HasRoom c.ready.new.out (close_need c.ready.new.self.running most) = search rules in
    let can : CanClose c.ready.new.self c.in_ok-made.made (close_need c.ready.new.self.running) most = record {
      some = c.most_proposed-most.ensures.least;
      bounded = subst (λ (p : Proposing). IsBounded p most) (sym c.in_ok-made.ensures.alone.proposer) c.most_proposed-most.ensures.bounded;
      room = room;
    } in
    room_for c.ready.new.out c.tick.new.made (close_need c.ready.new.self.running most) out (c.in_ok-tick.ensures.within most can c.in_ok-made.ensures.nothing)
