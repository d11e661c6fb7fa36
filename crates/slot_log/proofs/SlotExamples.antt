-- Worked logs of slots that pin their definitions; each computes. In front stand the commands of slots 0 and 1,
-- beyond those of slots 3 and 4; nothing is known at slot 2.
use Rattle.std.proofs.Common.{◌≡◌, ℕ, ◌<◌, ◌≤◌, [], ◌∷◌, Some, None, refl, arith, codes}
use Rattle.betting.specs.declared.action.Action.TheVariants.{Call}
use Rattle.slot_log.specs.declared.command.Command.{Command}
use Rattle.slot_log.specs.declared.command.Command.TheVariants.{Act}
use Rattle.slot_log.specs.declared.known.Known.{Known}
use Rattle.slot_log.specs.declared.slot_fault.SlotFault.TheVariants.{Conflict, SlotsSpent}
use Rattle.slot_log.specs.Fault.{fault_code, fault_text}
use Rattle.slot_log.specs.Slots.{Log, IsLog, front, known_by, known_at, with_command}
use Rattle.slot_log.specs.SlotLaws.{known_count}
use Rattle.slot_log.proofs.Slotted.{log_by}

-- the command that shall stand at a slot
abbrev numbered : ℕ → Command
numbered slot = Act 0 slot Call

abbrev at : ℕ → Known
at slot = known_by slot (numbered slot)

abbrev with_hole : Log
with_hole = log_by (numbered 1 ∷ numbered 0 ∷ []) (at 3 ∷ at 4 ∷ [])

hole_is_the_front : front with_hole ≡ 2
hole_is_the_front = refl

known_below : known_at with_hole 0 ≡ Some (numbered 0)
known_below = refl

known_just_below : known_at with_hole 1 ≡ Some (numbered 1)
known_just_below = refl

unknown_at_the_front : known_at with_hole 2 ≡ None
unknown_at_the_front = refl

known_beyond : known_at with_hole 4 ≡ Some (numbered 4)
known_beyond = refl

unknown_beyond : known_at with_hole 5 ≡ None
unknown_beyond = refl

hole_filled : with_command with_hole 2 (numbered 2) ≡ log_by (numbered 4 ∷ numbered 3 ∷ numbered 2 ∷ numbered 1 ∷ numbered 0 ∷ []) []
hole_filled = refl

four_known : known_count with_hole ≡ 4
four_known = refl

five_known : known_count (with_command with_hole 2 (numbered 2)) ≡ 5
five_known = refl

-- behind the next hole stays what stands there
filled_up_to_a_hole : with_command (log_by [] (at 1 ∷ at 3 ∷ [])) 0 (numbered 0) ≡ log_by (numbered 1 ∷ numbered 0 ∷ []) (at 3 ∷ [])
filled_up_to_a_hole = refl

further_beyond : with_command with_hole 6 (numbered 6) ≡ log_by (numbered 1 ∷ numbered 0 ∷ []) (at 3 ∷ at 4 ∷ at 6 ∷ [])
further_beyond = refl

in_between : with_command (log_by [] (at 1 ∷ at 7 ∷ [])) 5 (numbered 5) ≡ log_by [] (at 1 ∷ at 5 ∷ at 7 ∷ [])
in_between = refl

with_hole-log : IsLog with_hole
with_hole-log = record { below = omega arith; beyond = (omega arith, omega arith, (omega arith, omega arith, tt)) }

last_slot-log : IsLog (log_by [] (at 3999999 ∷ []))
last_slot-log = record { below = omega arith; beyond = (omega arith, omega arith, tt) }

-- the front would have gone on
known_at_the_front-none : IsLog (log_by (numbered 1 ∷ numbered 0 ∷ []) (at 2 ∷ [])) → ⊥
known_at_the_front-none is = let above : 3 ≤ 2 = is.beyond.0 in omega (arith, above)

known_again-none : IsLog (log_by (numbered 1 ∷ numbered 0 ∷ []) (at 1 ∷ [])) → ⊥
known_again-none is = let above : 3 ≤ 1 = is.beyond.0 in omega (arith, above)

falling-none : IsLog (log_by [] (at 4 ∷ at 3 ∷ [])) → ⊥
falling-none is = let above : 5 ≤ 3 = is.beyond.2.0 in omega (arith, above)

twice-none : IsLog (log_by [] (at 4 ∷ at 4 ∷ [])) → ⊥
twice-none is = let above : 5 ≤ 4 = is.beyond.2.0 in omega (arith, above)

spent-none : IsLog (log_by [] (at 4000000 ∷ [])) → ⊥
spent-none is = let within : 4000000 < 4000000 = is.beyond.1 in omega (arith, within)

conflict_code : fault_code Conflict ≡ 30
conflict_code = refl

spent_code : fault_code SlotsSpent ≡ 31
spent_code = refl

conflict_text : fault_text Conflict ≡ codes "30 Conflict"
conflict_text = refl

spent_text : fault_text SlotsSpent ≡ codes "31 SlotsSpent"
spent_text = refl
