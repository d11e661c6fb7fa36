use Rattle.std.proofs.Common.{◌≢◌, subst, arith, rules}
use Rattle.slot_log.specs.Slots.{Slots, IsLog}
use Rattle.slot_log.proofs.Slotted.{none_spent}
use Rattle.slot_log.proofs.slots.SlotLog.is_new.Goals as goal

pub returns-then-slot-ge-SLOTS-clause-conflict : goal.returns-then-slot-ge-SLOTS-clause-conflict
returns-then-slot-ge-SLOTS-clause-conflict c = (
  λ same. absurd (cc),
  λ there. absurd (none_spent c.args.self.now.log c.args.slot (λ known. known ≢ c.args.command.now)
      (subst (λ (s : Slots). IsLog s.log) c.self.view_is c.self.invariant.log) (omega (arith, c.if-slot-ge-SLOTS.true)) there),
)

pub returns-in-Some-2-clause-ok : goal.returns-in-Some-2-clause-ok
returns-in-Some-2-clause-ok c = search rules

pub returns-in-Some-2-clause-conflict : goal.returns-in-Some-2-clause-conflict
returns-in-Some-2-clause-conflict c = search rules

pub returns-in-Some-2-clause-new : goal.returns-in-Some-2-clause-new
returns-in-Some-2-clause-new c = search rules
