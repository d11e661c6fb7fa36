use Rattle.std.proofs.Common.{rules, ◌≡◌, ◌∙◌, ap, sym, subst, refl, inr, Result, Ok, Err, arith}
use Rattle.node_rules.specs.Turns.{and_then}
use Rattle.node_rules.specs.Proposing.{closing}
use Rattle.node_rules.specs.Calls.{Line}
use Rattle.dealer_node.specs.declared.fault.NodeFault.{NodeFault}
use Rattle.dealer_node.specs.Members.{place_at}
use Rattle.dealer_node.specs.Outs.{Told, told_by, both_told, HasRoom}
use Rattle.dealer_node.specs.Calling.{HasCallRoom, CanClose, HandlesCall}
use Rattle.dealer_node.proofs.Heard.{err_is, works_over}
use Rattle.proposer.specs.Campaigns.{Proposing}
use Rattle.proposer.specs.CommandRuns.{IsBounded}
use Rattle.dealer_node.specs.Most.{most_after, most_applied}
use Rattle.dealer_node.specs.Calling.{line_need}
use Rattle.dealer_node.proofs.Within.{room_for}
use Rattle.dealer_node.proofs.Most.{none_shown, made_shown}
use Rattle.dealer_node.proofs.up.Up.on_line.Goals as goal

pub returns-in_err-made-clause-at : goal.returns-in_err-made-clause-at
returns-in_err-made-clause-at g c = c.ready_line.ensures.at c.args.member.now c.requires.at

pub line-requires-clause-at : goal.line-requires-clause-at
line-requires-clause-at g c = c.ready_line.ensures.at c.args.member.now c.requires.at

pub returns-in_err-line-clause-handles : goal.returns-in_err-line-clause-handles
returns-in_err-line-clause-handles g c = λ s honest is.
    let place = place_at c.args.member.now in
    let worked = c.in_err-line.ensures.works s honest (c.in_ok-made.ensures.unmoved.up c.args.member.now s is) in
    let same : c.from_residual-in_err-line.result ≡ Err c.in_err-line.field-0.0 = err_is c.from_residual-in_err-line.result c.in_err-line.field-0.0 c.from_residual-in_err-line.ensures.1 in
    let A : Result (Unit {0}) NodeFault → Type 0 = λ a. HandlesCall g.D.Disk c.args.member.now s (Line c.args.seat c.args.bytes.now) c.args.self.now c.line.new.self (told_by c.args.out.now) (told_by c.ready_line.new.out) a in
    subst A (sym same)
    (inr (
      and_then (Ok worked.heard) (closing place),
      (worked.heard, worked.rule, refl),
      works_over g.D.Disk c.args.member.now s (and_then (Ok worked.heard) (closing place)) c.args.self.now c.ready_line.new.self c.line.new.self (told_by c.in_ok-made.made) (told_by c.line.new.made) (told_by c.args.out.now) (told_by c.ready_line.new.out) (Err c.in_err-line.field-0.0)
          c.in_ok-made.ensures.unmoved.disk c.in_ok-made.ensures.nothing (λ e. absurd (cc)) worked.works,
    ))

pub returns-clause-handles : goal.returns-clause-handles
returns-clause-handles g c = λ s honest is.
    let place = place_at c.args.member.now in
    let worked = c.in_ok-line.ensures.works s honest (c.in_ok-made.ensures.unmoved.up c.args.member.now s is) in
    inr (
      and_then (Ok worked.heard) (closing place),
      (worked.heard, worked.rule, refl),
      works_over g.D.Disk c.args.member.now s (and_then (Ok worked.heard) (closing place)) c.args.self.now c.ready_line.new.self c.line.new.self (told_by c.in_ok-made.made) (told_by c.line.new.made) (told_by c.args.out.now) (told_by c.append.new.self) (Ok tt)
          c.in_ok-made.ensures.unmoved.disk c.in_ok-made.ensures.nothing (λ e. c.append.ensures ∙ ap (λ (t : Told). both_told t (told_by c.line.new.made)) c.in_ok-made.ensures.same) worked.works,
    )

pub returns-in_err-made-clause-shows : goal.returns-in_err-made-clause-shows
returns-in_err-made-clause-shows g c = none_shown (most_after (most_applied c.args.self.now.running)) (told_by c.args.out.now) (told_by c.ready_line.new.out) c.ready_line.ensures.same

pub returns-in_err-line-clause-shows : goal.returns-in_err-line-clause-shows
returns-in_err-line-clause-shows g c = none_shown (most_after (most_applied c.args.self.now.running)) (told_by c.args.out.now) (told_by c.ready_line.new.out) c.in_ok-made.ensures.same

pub returns-clause-shows : goal.returns-clause-shows
returns-clause-shows g c =
    let most = c.most_proposed-most.result in
    let room : HasCallRoom c.ready_line.new.self c.in_ok-made.made (line_need c.ready_line.new.self.running c.in_ok-made.limit most) 1 most = search rules in
    let can : CanClose c.ready_line.new.self c.in_ok-made.made (line_need c.ready_line.new.self.running c.in_ok-made.limit) most = record {
      some = c.most_proposed-most.ensures.least;
      bounded = subst (λ (p : Proposing). IsBounded p most) (sym c.in_ok-made.ensures.proposer) c.most_proposed-most.ensures.bounded;
      room = room;
    } in
    made_shown (most_after (most_applied c.args.self.now.running)) (line_need c.ready_line.new.self.running c.in_ok-made.limit c.most_proposed-most.result) c.line.new.made (told_by c.args.out.now) (told_by c.ready_line.new.out) (told_by c.append.new.self)
    c.append.ensures c.in_ok-made.ensures.same (c.in_ok-line.ensures.within c.most_proposed-most.result can c.in_ok-made.ensures.nothing) (omega (arith, c.in_ok-made.ensures.ahead, c.most_proposed-most.ensures.value)) (omega (arith, c.in_ok-made.ensures.ahead, c.most_proposed-most.ensures.value))

-- how many commands the close proposes at most, and the room for that
pub line-requires-clause-room : goal.line-requires-clause-room
line-requires-clause-room g c =
    let room : HasCallRoom c.ready_line.new.self c.in_ok-made.made (line_need c.ready_line.new.self.running c.in_ok-made.limit c.most_proposed-most.result) 1 c.most_proposed-most.result = search rules in (
      c.most_proposed-most.result,
      record {
        some = c.most_proposed-most.ensures.least;
        bounded = subst (λ (p : Proposing). IsBounded p c.most_proposed-most.result) (sym c.in_ok-made.ensures.proposer) c.most_proposed-most.ensures.bounded;
        room = room;
      },
    )

pub append-requires : goal.append-requires
append-requires g c =
    let most = c.most_proposed-most.result in
    let room : HasCallRoom c.ready_line.new.self c.in_ok-made.made (line_need c.ready_line.new.self.running c.in_ok-made.limit most) 1 most = search rules in
    let out : HasRoom c.ready_line.new.out (line_need c.ready_line.new.self.running c.in_ok-made.limit most) = c.in_ok-made.ensures.room_out in
    let can : CanClose c.ready_line.new.self c.in_ok-made.made (line_need c.ready_line.new.self.running c.in_ok-made.limit) most = record {
      some = c.most_proposed-most.ensures.least;
      bounded = subst (λ (p : Proposing). IsBounded p most) (sym c.in_ok-made.ensures.proposer) c.most_proposed-most.ensures.bounded;
      room = room;
    } in
    room_for c.ready_line.new.out c.line.new.made (line_need c.ready_line.new.self.running c.in_ok-made.limit most) out (c.in_ok-line.ensures.within most can c.in_ok-made.ensures.nothing)
