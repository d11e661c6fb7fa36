-- What becomes of a learner, case by case.
use Rattle.std.proofs.Common.{ℕ, ◌≡◌, Bool, true, false, Option, Result, Ok, Err, refl, ap, if◌then◌else◌}
use Rattle.paxos_wire.specs.declared.ballot.Ballot.{Ballot}
use Rattle.slot_log.specs.declared.command.Command.{Command}
use Rattle.slot_log.specs.declared.slot_fault.SlotFault.{SlotFault}
use Rattle.slot_log.specs.declared.slot_fault.SlotFault.TheVariants.{Conflict}
use Rattle.slot_log.specs.Slots.{known_at}
use Rattle.learner.specs.declared.chosen.Chosen.{Chosen}
use Rattle.learner.specs.Learning.{Learned, is_open, is_other, completes, answer_to}

pub is_refused : (x : Bool) (e : SlotFault) → ◌≡◌ {A = Result (Unit {0}) SlotFault} (Err e) (if x then Err Conflict else Ok tt) → x ≡ true
is_refused true e h = refl
is_refused false e h = absurd (cc)

refused_by : (l : Learned) (from : ℕ) (b : Ballot) (slot : ℕ) (c : Command) (f : SlotFault) (x : Bool) → is_open l.log slot ≡ true → completes l from b slot c ≡ true → is_other (known_at l.log slot) c ≡ x
    → ◌≡◌ {A = Result (Unit {0}) SlotFault} (Err f) (if x then Err Conflict else Ok tt) → ◌≡◌ {A = Result (Option Chosen) SlotFault} (Err f) (answer_to l from b slot c)
refused_by l from b slot c f true opens complete other e = let same : f ≡ Conflict = cc in rw (opens, complete, other) (ap Err same)
refused_by l from b slot c f false opens complete other e = absurd (cc)

pub refused_answer : (l : Learned) (from : ℕ) (b : Ballot) (slot : ℕ) (c : Command) (f : SlotFault) → is_open l.log slot ≡ true → completes l from b slot c ≡ true
    → ◌≡◌ {A = Result (Unit {0}) SlotFault} (Err f) (if is_other (known_at l.log slot) c then Err Conflict else Ok tt) → ◌≡◌ {A = Result (Option Chosen) SlotFault} (Err f) (answer_to l from b slot c)
refused_answer l from b slot c f opens complete e = refused_by l from b slot c f (is_other (known_at l.log slot) c) opens complete refl e
