use Rattle.std.proofs.Common.{◌≡◌, ◌≤◌, ◌∙◌, ℕ, Err, ap, rules, arith, length}
use Rattle.std.proofs.Math.Logic.{∥∥₁_map}
use Rattle.std.proofs.lemmas.Result.{on_ok_weaker}
use Rattle.promise_store.specs.contracts.memory_disk.MemoryDiskDisk.TheImpl.{ghosts as in_memory}
use Rattle.dealer_node.specs.Outs.{Told}
use Rattle.dealer_node.specs.declared.fault.NodeFault.TheVariants.{OutOfMemory}
use Rattle.dealer_world.specs.Events.{node_of}
use Rattle.dealer_world.specs.Viewing.{view_of}
use Rattle.dealer_world.proofs.Forging.{by_any_front, unforged_after}
use Rattle.playing.specs.Showing.{event_text}
use Rattle.playing.proofs.Gaining.{frames_gained, frames_stay}
use Rattle.playing.proofs.Happening.{happened}
use Rattle.playing.proofs.OneList.{shows_one}
use Rattle.playing.proofs.playing.Playing.happen.Goals as goal

pub put_event-requires : goal.put_event-requires
put_event-requires c =
    let ample : c.step-answer.result ≡ Err OutOfMemory → ⊥ = search rules in
    let gained = frames_gained in_memory (view_of c.args.self.now.cluster) c.args.event.now c.step-answer.result (view_of c.step-answer.new.self) c.step-answer.ensures.stepped ample in
    omega (arith, gained, ap (λ (t : Told). length t.frames) c.last.ensures, c.in_ok-first.ensures.count, c.in_ok-_sent.ensures.count, c.in_ok-_sent.ensures.most)

pub returns : goal.returns
returns c =
    let ample : c.step-answer.result ≡ Err OutOfMemory → ⊥ = search rules in
    let old = view_of c.args.self.now.cluster in
    let e = c.args.event.now in
    let answer = c.step-answer.result in
    let first = c.in_ok-first.first in
    let made = c.last.result.now in
    let text = event_text c.node-node.result first made answer in
    let printed = ap (λ (n : ℕ). event_text n first made answer) c.node-node.ensures ∙ ap (λ (k : ℕ). event_text (node_of e) k made answer) c.in_ok-first.ensures.count
    ∙ ap (λ (t : Told). event_text (node_of e) (length old.all.sent) t answer) c.last.ensures in
    on_ok_weaker c.put_event.result
    (λ shown. (text, shown, happened old (view_of c.step-answer.new.self) c.args.self.now.marks e answer text ample c.step-answer.ensures.stepped c.args.self.now.within printed))
    c.put_event.ensures

pub invariant_of-self : goal.invariant_of-self
invariant_of-self c =
    let old = view_of c.args.self.now.cluster in
    let grows = frames_stay in_memory old c.args.event.now c.step-answer.result (view_of c.step-answer.new.self) c.step-answer.ensures.stepped in
    let within : length c.args.self.now.marks ≤ length old.all.sent = c.args.self.now.within in
    let new = view_of c.step-answer.new.self in
    let fresh = c.step-answer.ensures.stepped.same_opened ∙ c.args.self.now.fresh in
    let unforged = ∥∥₁_map c.args.self.now.unforged (λ none. unforged_after in_memory old new c.args.event.now c.step-answer.result c.step-answer.ensures.stepped
    (λ front. by_any_front old.all.sent 0 front c.args.event.now c.requires.sent) none) in
    record { within = omega (arith, grows, within); fresh = fresh; unforged = unforged; shows = shows_one new fresh c.step-answer.ensures.promised unforged }
