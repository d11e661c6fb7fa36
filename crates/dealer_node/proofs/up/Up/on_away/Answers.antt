use Rattle.std.proofs.Common.{rules, ◌≡◌, ◌∙◌, ap, sym, subst, refl, inr, Result, Ok, Err, arith}
use Rattle.node_rules.specs.Turns.{and_then}
use Rattle.node_rules.specs.Proposing.{closing}
use Rattle.node_rules.specs.Seats.{ordering}
use Rattle.node_rules.specs.Calls.{Away}
use Rattle.dealer_node.specs.declared.fault.NodeFault.{NodeFault}
use Rattle.dealer_node.specs.Members.{place_at}
use Rattle.dealer_node.specs.Outs.{Told, told_by, both_told, HasRoom}
use Rattle.dealer_node.specs.Calling.{HasCallRoom, CanClose, HandlesCall, away_need}
use Rattle.proposer.specs.Campaigns.{Proposing}
use Rattle.proposer.specs.CommandRuns.{IsBounded}
use Rattle.dealer_node.specs.Most.{most_after, most_applied}
use Rattle.dealer_node.proofs.Heard.{err_is, works_over}
use Rattle.dealer_node.proofs.Ordered.{meant_by_table, meant_goes_on, order_refused}
use Rattle.dealer_node.proofs.Within.{room_for}
use Rattle.dealer_node.proofs.Most.{none_shown, made_shown}
use Rattle.dealer_node.proofs.up.Up.on_away.Goals as goal

pub returns-in_err-made-clause-at : goal.returns-in_err-made-clause-at
returns-in_err-made-clause-at g c = c.ready.ensures.at c.args.member.now c.requires

pub play_for-requires-clause-at : goal.play_for-requires-clause-at
play_for-requires-clause-at g c = c.ready.ensures.at c.args.member.now c.requires

-- what is meant fits, so its numbers are within their ranges
pub play_for-requires-clause-act : goal.play_for-requires-clause-act
play_for-requires-clause-act g c =
    let t = c.args.self.now.running.table in
    let next = sym c.in-Some.ensures.value in (
      meant_goes_on t.game t.hands c.in-Some.act next,
      c.limits.ensures.range c.in-Some.act (c.away_is_legal.ensures.next t.game t.count t.hands c.in-Some.act c.limits.ensures.game c.limits.ensures.hands next),
    )

pub returns-in_default-clause-handles : goal.returns-in_default-clause-handles
returns-in_default-clause-handles g c = λ s honest is.
    let member = c.args.member.now in
    let none = sym (meant_by_table member c.args.self.now.running s is.running) ∙ sym c.in_default.ensures.value in
    inr (_, refl, (order_refused member s none, record { now = is; disk = refl }))

pub returns-in_err-play_for-clause-handles : goal.returns-in_err-play_for-clause-handles
returns-in_err-play_for-clause-handles g c = λ s honest is.
    let place = place_at c.args.member.now in
    let outcome = and_then (ordering place s) (closing place) in
    let meant = sym (meant_by_table c.args.member.now c.args.self.now.running s is.running) ∙ sym c.in-Some.ensures.value in
    let worked = c.in_err-play_for.ensures.works s honest (c.in_ok-made.ensures.unmoved.up c.args.member.now s is) meant in
    let same : c.from_residual-in_err-play_for.result ≡ Err c.in_err-play_for.field-0.0 = err_is c.from_residual-in_err-play_for.result c.in_err-play_for.field-0.0 c.from_residual-in_err-play_for.ensures.1 in
    let A : Result (Unit {0}) NodeFault → Type 0 = λ a. HandlesCall g.D.Disk c.args.member.now s Away c.args.self.now c.play_for.new.self (told_by c.args.out.now) (told_by c.ready.new.out) a in
    subst A (sym same)
    (inr (
      outcome,
      refl,
      works_over g.D.Disk c.args.member.now s outcome c.args.self.now c.ready.new.self c.play_for.new.self (told_by c.in_ok-made.made) (told_by c.play_for.new.made) (told_by c.args.out.now) (told_by c.ready.new.out) (Err c.in_err-play_for.field-0.0)
          c.in_ok-made.ensures.unmoved.disk c.in_ok-made.ensures.nothing (λ e. absurd (cc)) worked,
    ))

pub returns-clause-handles : goal.returns-clause-handles
returns-clause-handles g c = λ s honest is.
    let place = place_at c.args.member.now in
    let outcome = and_then (ordering place s) (closing place) in
    let meant = sym (meant_by_table c.args.member.now c.args.self.now.running s is.running) ∙ sym c.in-Some.ensures.value in
    let worked = c.in_ok-play_for.ensures.works s honest (c.in_ok-made.ensures.unmoved.up c.args.member.now s is) meant in
    inr (
      outcome,
      refl,
      works_over g.D.Disk c.args.member.now s outcome c.args.self.now c.ready.new.self c.play_for.new.self (told_by c.in_ok-made.made) (told_by c.play_for.new.made) (told_by c.args.out.now) (told_by c.append.new.self) (Ok tt)
          c.in_ok-made.ensures.unmoved.disk c.in_ok-made.ensures.nothing (λ e. c.append.ensures ∙ ap (λ (t : Told). both_told t (told_by c.play_for.new.made)) c.in_ok-made.ensures.same) worked,
    )

pub returns-in_default-clause-shows : goal.returns-in_default-clause-shows
returns-in_default-clause-shows g c = none_shown (most_after (most_applied c.args.self.now.running)) (told_by c.args.out.now) (told_by c.args.out.now) refl

pub returns-in_err-made-clause-shows : goal.returns-in_err-made-clause-shows
returns-in_err-made-clause-shows g c = none_shown (most_after (most_applied c.args.self.now.running)) (told_by c.args.out.now) (told_by c.ready.new.out) c.ready.ensures.same

pub returns-in_err-play_for-clause-shows : goal.returns-in_err-play_for-clause-shows
returns-in_err-play_for-clause-shows g c = none_shown (most_after (most_applied c.args.self.now.running)) (told_by c.args.out.now) (told_by c.ready.new.out) c.in_ok-made.ensures.same

pub returns-clause-shows : goal.returns-clause-shows
returns-clause-shows g c =
    let most = c.most_proposed-most.result in
    let room : HasCallRoom c.ready.new.self c.in_ok-made.made (away_need c.ready.new.self.running most) 1 most = search rules in
    let can : CanClose c.ready.new.self c.in_ok-made.made (away_need c.ready.new.self.running) most = record {
      some = c.most_proposed-most.ensures.least;
      bounded = subst (λ (p : Proposing). IsBounded p most) (sym c.in_ok-made.ensures.alone.proposer) c.most_proposed-most.ensures.bounded;
      room = room;
    } in
    made_shown (most_after (most_applied c.args.self.now.running)) (away_need c.ready.new.self.running c.most_proposed-most.result) c.play_for.new.made (told_by c.args.out.now) (told_by c.ready.new.out) (told_by c.append.new.self)
    c.append.ensures c.in_ok-made.ensures.same (c.in_ok-play_for.ensures.within c.most_proposed-most.result can c.in_ok-made.ensures.nothing) (omega (arith, c.in_ok-made.ensures.alone.ahead, c.most_proposed-most.ensures.value)) (omega (arith, c.in_ok-made.ensures.alone.ahead, c.most_proposed-most.ensures.value))

-- how many commands the close proposes at most, and the room for that
pub play_for-requires-clause-room : goal.play_for-requires-clause-room
play_for-requires-clause-room g c =
    let room : HasCallRoom c.ready.new.self c.in_ok-made.made (away_need c.ready.new.self.running c.most_proposed-most.result) 1 c.most_proposed-most.result = search rules in (
      c.most_proposed-most.result,
      record {
        some = c.most_proposed-most.ensures.least;
        bounded = subst (λ (p : Proposing). IsBounded p c.most_proposed-most.result) (sym c.in_ok-made.ensures.alone.proposer) c.most_proposed-most.ensures.bounded;
        room = room;
      },
    )

pub append-requires : goal.append-requires
append-requires g c =
    let most = c.most_proposed-most.result in
    let room : HasCallRoom c.ready.new.self c.in_ok-made.made (away_need c.ready.new.self.running most) 1 most = search rules in
    let out : HasRoom c.ready.new.out (away_need c.ready.new.self.running most) = search rules in
    let can : CanClose c.ready.new.self c.in_ok-made.made (away_need c.ready.new.self.running) most = record {
      some = c.most_proposed-most.ensures.least;
      bounded = subst (λ (p : Proposing). IsBounded p most) (sym c.in_ok-made.ensures.alone.proposer) c.most_proposed-most.ensures.bounded;
      room = room;
    } in
    room_for c.ready.new.out c.play_for.new.made (away_need c.ready.new.self.running most) out (c.in_ok-play_for.ensures.within most can c.in_ok-made.ensures.nothing)
