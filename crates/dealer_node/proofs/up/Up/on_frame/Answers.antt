use Rattle.std.proofs.Common.{rules, ◌≡◌, ℕ, ◌+◌, ◌∙◌, ap, sym, subst, refl, inr, Result, Ok, Err, arith}
use Rattle.paxos_wire.specs.declared.message.Message.{Message}
use Rattle.paxos_wire.specs.declared.fault.FrameFault.{FrameFault}
use Rattle.node_rules.specs.Rules.{on_message, on_read}
use Rattle.node_rules.specs.Calls.{Frame}
use Rattle.dealer_node.specs.declared.fault.NodeFault.{NodeFault}
use Rattle.dealer_node.specs.Members.{place_at}
use Rattle.dealer_node.specs.Outs.{Told, told_by, both_told}
use Rattle.dealer_node.specs.declared.limits.TheConstants.{ANSWERS_OF_A_CALL}
use Rattle.dealer_node.specs.Calling.{HasCallRoom, CanTake, HandlesCall}
use Rattle.dealer_node.proofs.Heard.{err_is, works_over}
use Rattle.paxos_wire.specs.Faults.{reading}
use Rattle.proposer.specs.Campaigns.{Proposing}
use Rattle.dealer_node.specs.declared.most_shown.MostShown.{MostShown}
use Rattle.dealer_node.specs.declared.running.Running.{Running}
use Rattle.dealer_node.specs.Most.{most_after, most_applied_by, ShowsWithin}
use Rattle.dealer_node.specs.Running.{most_proposed_behind, IsBoundedBehind}
use Rattle.dealer_node.specs.Calling.{commands_in, frame_need}
use Rattle.dealer_node.specs.Handling.{IsWithin}
use Rattle.dealer_node.proofs.Most.{none_shown, made_shown}
use Rattle.dealer_node.proofs.up.Up.on_frame.Goals as goal

pub returns-in_err-made-in-Ok-clause-at : goal.returns-in_err-made-in-Ok-clause-at
returns-in_err-made-in-Ok-clause-at g c = c.ready.ensures.at c.args.member.now c.requires.at

pub on_message-requires-clause-at : goal.on_message-requires-clause-at
on_message-requires-clause-at g c = c.ready.ensures.at c.args.member.now c.requires.at

pub returns-in_err-on_message-in-Ok-clause-handles : goal.returns-in_err-on_message-in-Ok-clause-handles
returns-in_err-on_message-in-Ok-clause-handles g c = λ s honest is.
    let place = place_at c.args.member.now in
    let outcome = on_message place c.args.from c.in-Ok.message s in
    let worked = c.in_err-on_message-in-Ok.ensures.works s honest (c.in_ok-made-in-Ok.ensures.unmoved.up c.args.member.now s is) in
    let same : c.from_residual-in_err-on_message-in-Ok.result ≡ Err c.in_err-on_message-in-Ok.field-0.0 = err_is c.from_residual-in_err-on_message-in-Ok.result c.in_err-on_message-in-Ok.field-0.0 c.from_residual-in_err-on_message-in-Ok.ensures.1 in
    let A : Result (Unit {0}) NodeFault → Type 0 = λ a. HandlesCall g.D.Disk c.args.member.now s (Frame c.args.from c.args.bytes.now) c.args.self.now c.on_message.new.self (told_by c.args.out.now) (told_by c.ready.new.out) a in
    subst A (sym same)
    (inr (
      outcome,
      ap (λ (r : Result Message FrameFault). on_read place c.args.from r s) (sym c.in-Ok.is ∙ c.read.ensures.value),
      works_over g.D.Disk c.args.member.now s outcome c.args.self.now c.ready.new.self c.on_message.new.self (told_by c.in_ok-made-in-Ok.made) (told_by c.on_message.new.made) (told_by c.args.out.now) (told_by c.ready.new.out) (Err c.in_err-on_message-in-Ok.field-0.0)
          c.in_ok-made-in-Ok.ensures.unmoved.disk c.in_ok-made-in-Ok.ensures.nothing (λ e. absurd (cc)) worked,
    ))

pub returns-in_ok-on_message-in-Ok-clause-handles : goal.returns-in_ok-on_message-in-Ok-clause-handles
returns-in_ok-on_message-in-Ok-clause-handles g c = λ s honest is.
    let place = place_at c.args.member.now in
    let outcome = on_message place c.args.from c.in-Ok.message s in
    let worked = c.in_ok-on_message-in-Ok.ensures.works s honest (c.in_ok-made-in-Ok.ensures.unmoved.up c.args.member.now s is) in
    inr (
      outcome,
      ap (λ (r : Result Message FrameFault). on_read place c.args.from r s) (sym c.in-Ok.is ∙ c.read.ensures.value),
      works_over g.D.Disk c.args.member.now s outcome c.args.self.now c.ready.new.self c.on_message.new.self (told_by c.in_ok-made-in-Ok.made) (told_by c.on_message.new.made) (told_by c.args.out.now) (told_by c.append.new.self) (Ok tt)
          c.in_ok-made-in-Ok.ensures.unmoved.disk c.in_ok-made-in-Ok.ensures.nothing (λ e. c.append.ensures ∙ ap (λ (t : Told). both_told t (told_by c.on_message.new.made)) c.in_ok-made-in-Ok.ensures.same) worked,
    )

-- how many commands the close proposes at most behind the message, and the room for that
pub on_message-requires-clause-room : goal.on_message-requires-clause-room
on_message-requires-clause-room g c =
    let m = c.most_proposed_behind-most.result in
    let room : HasCallRoom c.ready.new.self c.in_ok-made-in-Ok.made (frame_need c.ready.new.self.running (commands_in c.in-Ok.message) m) ANSWERS_OF_A_CALL (commands_in c.in-Ok.message + m) = search rules in (
      m,
      record {
        bounded = subst (λ (p : Proposing). IsBoundedBehind p c.in-Ok.message m) (sym c.in_ok-made-in-Ok.ensures.alone.proposer) c.most_proposed_behind-most.ensures.bounded;
        room = room;
      },
    )

-- what a frame that reads so shows at most
abbrev most_shown : Running → Result Message FrameFault → MostShown
most_shown running outcome = most_after (most_applied_by running outcome)

pub returns-in-Err-clause-shows : goal.returns-in-Err-clause-shows
returns-in-Err-clause-shows g c = none_shown (most_shown c.args.self.now.running (reading c.args.bytes.now)) (told_by c.args.out.now) (told_by c.args.out.now) refl

pub returns-in_err-made-in-Ok-clause-shows : goal.returns-in_err-made-in-Ok-clause-shows
returns-in_err-made-in-Ok-clause-shows g c = none_shown (most_shown c.args.self.now.running (reading c.args.bytes.now)) (told_by c.args.out.now) (told_by c.ready.new.out) c.ready.ensures.same

pub returns-in_err-on_message-in-Ok-clause-shows : goal.returns-in_err-on_message-in-Ok-clause-shows
returns-in_err-on_message-in-Ok-clause-shows g c = none_shown (most_shown c.args.self.now.running (reading c.args.bytes.now)) (told_by c.args.out.now) (told_by c.ready.new.out) c.in_ok-made-in-Ok.ensures.same

pub returns-in_ok-on_message-in-Ok-clause-shows : goal.returns-in_ok-on_message-in-Ok-clause-shows
returns-in_ok-on_message-in-Ok-clause-shows g c =
    let m = c.most_proposed_behind-most.result in
    let room : HasCallRoom c.ready.new.self c.in_ok-made-in-Ok.made (frame_need c.ready.new.self.running (commands_in c.in-Ok.message) m) ANSWERS_OF_A_CALL (commands_in c.in-Ok.message + m) = search rules in
    let can : CanTake c.ready.new.self c.in_ok-made-in-Ok.made c.in-Ok.message m = record {
      bounded = subst (λ (p : Proposing). IsBoundedBehind p c.in-Ok.message m) (sym c.in_ok-made-in-Ok.ensures.alone.proposer) c.most_proposed_behind-most.ensures.bounded;
      room = room;
    } in
    let read = sym c.in-Ok.is ∙ c.read.ensures.value in
    let many : c.commands_in-commands.result + c.most_proposed_behind-most.result ≡ commands_in c.in-Ok.message + most_proposed_behind c.args.self.now.running.proposer c.in-Ok.message =
    ap (λ n. n + c.most_proposed_behind-most.result) c.commands_in-commands.ensures.value ∙ ap (λ n. commands_in c.in-Ok.message + n) c.most_proposed_behind-most.ensures.value in
    subst (λ (r : Result Message FrameFault). ShowsWithin (most_shown c.args.self.now.running r) (told_by c.args.out.now) (told_by c.append.new.self)) read
    (made_shown (most_shown c.args.self.now.running (Ok c.in-Ok.message)) (frame_need c.ready.new.self.running c.commands_in-commands.result c.most_proposed_behind-most.result) c.on_message.new.made (told_by c.args.out.now) (told_by c.ready.new.out) (told_by c.append.new.self)
    c.append.ensures c.in_ok-made-in-Ok.ensures.same
    (subst (λ (k : ℕ). IsWithin c.on_message.new.made (frame_need c.ready.new.self.running k c.most_proposed_behind-most.result)) (sym c.commands_in-commands.ensures.value) (c.in_ok-on_message-in-Ok.ensures.within c.most_proposed_behind-most.result can c.in_ok-made-in-Ok.ensures.nothing))
    (omega (arith, c.in_ok-made-in-Ok.ensures.alone.ahead, many)) (omega (arith, c.in_ok-made-in-Ok.ensures.alone.ahead, many)))
