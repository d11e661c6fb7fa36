-- What the log's answer to a command says of what is known at its slot.
use Rattle.std.proofs.Common.{ℕ, ◌≡◌, ◌≢◌, ◌<◌, Bool, true, false, not, Option, Some, None, Result, Ok, Err, refl, ◌∙◌, ap, if◌then◌else◌}
use Rattle.std.specs.Prelude.{◌↔◌, ◌&&◌, is_ok, is_none, IsOk, IsErrOf, IfSome, IsSomeAnd}
use Rattle.slot_log.specs.declared.command.Command.{Command}
use Rattle.slot_log.specs.declared.limits.TheConstants.{SLOTS}
use Rattle.slot_log.specs.declared.slot_fault.SlotFault.{SlotFault}
use Rattle.slot_log.specs.declared.slot_fault.SlotFault.TheVariants.{Conflict}
use Rattle.slot_log.specs.Slots.{Log, known_at, with_command}
use Rattle.learner.specs.Same.{is_same}
use Rattle.learner.specs.Learning.{is_other, known_with}
use Rattle.learner.proofs.Same.{same, if_equal}

ok_is : (r : Result (Unit {0}) SlotFault) → IsOk r → r ≡ Ok tt
ok_is (Ok x) h = refl
ok_is (Err e) h = absurd (cc)

same_by : (slot : ℕ) (known c : Command) (r : Result (Unit {0}) SlotFault) (x : Bool) → is_same known c ≡ x → slot < SLOTS
    → IsOk r ↔ (slot < SLOTS) × (known ≡ c) → IsErrOf r Conflict ↔ (known ≢ c)
    → r ≡ (if not x then Err Conflict else Ok tt)
same_by slot known c r true e below ok conflict = ok_is r (ok.1 (below, same known c e))
same_by slot known c r false e below ok conflict = conflict.1 (λ one. let yes = if_equal known c one in absurd (cc))

-- 30 where another command is known, and else Ok
pub answer_is : (slot : ℕ) (known : Option Command) (c : Command) (r : Result (Unit {0}) SlotFault) → slot < SLOTS
    → IsOk r ↔ (slot < SLOTS) × IfSome known (λ k. k ≡ c) → IsErrOf r Conflict ↔ IsSomeAnd known (λ k. k ≢ c)
    → r ≡ (if is_other known c then Err Conflict else Ok tt)
answer_is slot None c r below ok conflict = ok_is r (ok.1 (below, tt))
answer_is slot (Some known) c r below ok conflict = same_by slot known c r (is_same known c) refl below ok conflict

-- and then it is known, unless it was
pub log_is : (log : Log) (slot : ℕ) (c : Command) (after : Log) (r : Result (Unit {0}) SlotFault) (x : Bool) → r ≡ (if x then Err Conflict else Ok tt)
    → after ≡ (if is_ok r && is_none (known_at log slot) then with_command log slot c else log)
    → after ≡ (if x then log else known_with log slot c)
log_is log slot c after r true e h = h ∙ ap (λ (s : Result (Unit {0}) SlotFault). if is_ok s && is_none (known_at log slot) then with_command log slot c else log) e
log_is log slot c after r false e h = h ∙ ap (λ (s : Result (Unit {0}) SlotFault). if is_ok s && is_none (known_at log slot) then with_command log slot c else log) e
