use Rattle.std.proofs.Common.{◌≡◌, ◌+◌, ap, sym, ◌∙◌, subst, arith}
use Rattle.slot_log.specs.Slots.{Log, Slots, IsLog, front, with_command}
use Rattle.slot_log.specs.SlotsInside.{run_of}
use Rattle.slot_log.proofs.Slotted.{run_at_front, run_elsewhere}
use Rattle.slot_log.proofs.slots.SlotLog.run_with.Goals as goal

pub returns-then-slot-front : goal.returns-then-slot-front
returns-then-slot-front c command =
    let log : Log = c.args.self.now.log in
    let is = subst (λ (s : Slots). IsLog s.log) c.self.view_is c.self.invariant.log in
    let slot : c.args.slot ≡ front log = c.if-slot-front.true ∙ c.front.ensures.value in
    let beyond = c.deref.ensures.value ∙ ap (λ (s : Slots). s.log.beyond) c.self.view_is in
    let run : c.run_at.result ≡ run_of (front log + 1) log.beyond = c.run_at.ensures.value ∙ ap (λ n. run_of (n + 1) c.deref.result.now) slot ∙ ap (run_of (front log + 1)) beyond in
    let all = run_at_front log command is in
    let moved : front (with_command log c.args.slot command) ≡ front (with_command log (front log) command) = ap (λ n. front (with_command log n command)) slot in
    omega (arith, run, all, moved)

pub returns-else-slot-front : goal.returns-else-slot-front
returns-else-slot-front c command =
    let is = subst (λ (s : Slots). IsLog s.log) c.self.view_is c.self.invariant.log in
    let stays = run_elsewhere c.args.self.now.log c.args.slot command is (λ same. c.if-slot-front.false (same ∙ sym c.front.ensures.value)) in
    omega (arith, stays)
