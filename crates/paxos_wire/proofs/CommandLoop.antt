-- Reading commands one after the other, as a loop does.
use Rattle.std.proofs.Common.{◌≡◌, ℕ, suc, ◌-◌, ◌+◌, ◌≤◌, ◌<◌, List, [], ◌∷◌, ◌++◌, Option, Some, None, refl, sym, ap, ◌∙◌, arith}
use Rattle.std.proofs.lemmas.List.{append-nil}
use Rattle.slot_log.specs.declared.command.Command.{Command}
use Rattle.paxos_wire.specs.Reading.{command_at, commands_at}
use Rattle.paxos_wire.proofs.Fronts.{with_front, regroup}

pub goes_on : (front : List Command) (count i : ℕ) (bytes : List ℕ) (c : Command) (after : List ℕ) (total : Option (List Command × List ℕ)) → i < count → command_at bytes ≡ Some (c, after)
    → with_front front (commands_at (count - i) bytes) ≡ total → with_front (front ++ c ∷ []) (commands_at (count - (i + 1)) after) ≡ total
unfolding commands_at
goes_on front count i bytes c after total lt h so_far =
    let k : count - i ≡ suc (count - (i + 1)) = omega arith in
    let one : with_front front (commands_at (count - i) bytes) ≡ with_front (front ++ c ∷ []) (commands_at (count - (i + 1)) after) = rw (k, h) (regroup front c (commands_at (count - (i + 1)) after)) in
    sym one ∙ so_far

pub ends : (front : List Command) (count i : ℕ) (bytes : List ℕ) (total : Option (List Command × List ℕ)) → i < count → command_at bytes ≡ None
    → with_front front (commands_at (count - i) bytes) ≡ total → total ≡ None
unfolding commands_at
ends front count i bytes total lt h so_far =
    let k : count - i ≡ suc (count - (i + 1)) = omega arith in
    let one : with_front front (commands_at (count - i) bytes) ≡ None = rw (k, h) refl in
    sym so_far ∙ one

pub is_done : (front : List Command) (count i : ℕ) (bytes : List ℕ) (total : Option (List Command × List ℕ)) → count ≤ i → with_front front (commands_at (count - i) bytes) ≡ total → total ≡ Some (front, bytes)
unfolding commands_at
is_done front count i bytes total le so_far =
    let k : count - i ≡ 0 = omega arith in
    let one : with_front front (commands_at (count - i) bytes) ≡ Some (front, bytes) = rw k (ap (λ (cs : List Command). Some (cs, bytes)) (append-nil front)) in
    sym so_far ∙ one
