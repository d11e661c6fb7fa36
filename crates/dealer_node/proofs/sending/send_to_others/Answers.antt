use Rattle.std.proofs.Common.{◌≡◌, ◌≤◌, ◌+◌, ◌*◌, ◌++◌, length, ℕ, arith, subst, sym, ◌∙◌, ap}
use Rattle.std.proofs.lemmas.Nat.{mul-le}
use Rattle.paxos_wire.specs.Fits.{most_bytes}
use Rattle.std.proofs.lemmas.List.{append-nil}
use Rattle.dealer_node.specs.Texts.{Written, byte_total}
use Rattle.dealer_node.specs.Rooms.{Grows}
use Rattle.node_rules.specs.Sending.{to_first}
use Rattle.dealer_node.specs.Fitting.{AreMessages}
use Rattle.dealer_node.proofs.Messages.{to_none, to_one_more, to_same}
use Rattle.dealer_node.proofs.Sent.{to_none as none_sent, sent_on, kept_on}
use Rattle.dealer_node.proofs.sending.send_to_others.Goals as goal
use Rattle.dealer_node.proofs.sending.send_to_others.Goals.{then-to-number, else-to-number}

pub loop-to-init : goal.loop-to-init
loop-to-init c = record {
  texts = sym (ap (λ t. c.args.frames.now.texts ++ t) (none_sent c.args.number c.args.message.now) ∙ append-nil c.args.frames.now.texts);
  fits = to_none c.args.number c.args.message.now;
  text_room = omega arith;
  byte_room = omega arith;
  len = omega arith;
  size = omega arith;
}

-- one frame more is as much more
more : (most to : ℕ) → most * (to + 1) ≡ most * to + most
more most to = omega arith

pub send-requires-clause-space : goal.send-requires-clause-space
send-requires-clause-space c =
    let short = c.frame_len-len.ensures.kind in
    let all : most_bytes c.args.message.now * (c.loop-to.to + 1) ≤ most_bytes c.args.message.now * c.args.nodes = mul-le (most_bytes c.args.message.now) (c.loop-to.to + 1) (most_bytes c.args.message.now) c.args.nodes (omega arith) (omega arith) in
    record {
      text_room = omega (arith, c.requires.space.text_room, c.loop-to.invariant.text_room);
      byte_room = omega (arith, short, all, more (most_bytes c.args.message.now) c.loop-to.to, c.frame_len-len.ensures.value, c.requires.space.byte_room, c.loop-to.invariant.byte_room);
    }

pub loop-to-preserved : goal.loop-to-preserved
loop-to-preserved c =
    let short = c.frame_len-len.ensures.kind in
    let step = more (most_bytes c.args.message.now) c.loop-to.to in
    elim c.if-to-number.branch [
      | then-to-number w ↦ record {
        texts = sent_on c.args.frames.now.texts c.loop-to.frames.texts c.if-to-number.frames.texts c.loop-to.to c.args.number c.args.message.now c.loop-to.invariant.texts (ap (λ (f : Written ℕ). f.texts) w.frames-is ∙ w.send.ensures.texts) w.if-to-number.true;
        fits = to_one_more c.loop-to.to c.args.number c.args.message.now c.loop-to.invariant.fits w.send.ensures.message w.if-to-number.true;
        text_room = omega (arith, w.send.ensures.grows.text_room, ap (λ (f : Written ℕ). f.text_room) w.frames-is);
        byte_room = omega (arith, w.send.ensures.grows.byte_room, short, step, c.frame_len-len.ensures.value, ap (λ (f : Written ℕ). f.byte_room) w.frames-is);
        len = omega (arith, w.send.ensures.grows.len, ap (λ (f : Written ℕ). length f.texts) w.frames-is);
        size = omega (arith, w.send.ensures.grows.size, short, step, c.frame_len-len.ensures.value, ap (λ (f : Written ℕ). byte_total f.texts) w.frames-is);
      }
      | else-to-number w ↦ record {
        texts = kept_on c.args.frames.now.texts c.loop-to.frames.texts c.if-to-number.frames.texts c.loop-to.to c.args.number c.args.message.now c.loop-to.invariant.texts (ap (λ (f : Written ℕ). f.texts) w.frames-is) w.if-to-number.false;
        fits = to_same c.loop-to.to c.args.number c.args.message.now c.loop-to.invariant.fits w.if-to-number.false;
        text_room = omega (arith, ap (λ (f : Written ℕ). f.text_room) w.frames-is);
        byte_room = omega (arith, step, ap (λ (f : Written ℕ). f.byte_room) w.frames-is);
        len = omega (arith, ap (λ (f : Written ℕ). length f.texts) w.frames-is);
        size = omega (arith, step, ap (λ (f : Written ℕ). byte_total f.texts) w.frames-is);
      }
    ]

pub returns-clause-fits : goal.returns-clause-fits
returns-clause-fits c =
    let all : c.loop-to.to ≡ c.args.nodes = omega arith in
    subst (λ (n : ℕ). AreMessages (to_first n c.args.number c.args.message.now)) all c.loop-to.invariant.fits

pub returns-clause-grows : goal.returns-clause-grows
returns-clause-grows c =
    let all : c.loop-to.to ≡ c.args.nodes = omega arith in
    let made = c.loop-to.invariant in
    subst (λ (n : ℕ). Grows c.args.frames.now c.loop-to.frames n (most_bytes c.args.message.now * n)) all
    (record { text_room = made.text_room; byte_room = made.byte_room; len = made.len; size = made.size })
