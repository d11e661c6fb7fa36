-- What promises tell of a slot, and the entry of the greatest ballot among it.
use Rattle.std.specs.Prelude.{ℕ, ◌==◌, if◌then◌else◌, List, [], ◌∷◌, Option, Some, None}
use Rattle.paxos_wire.specs.declared.entry.Entry.{Entry}
use Rattle.paxos_wire.specs.Order.{is_below}

-- of two entries of the slot that of the greater ballot; an entry of another slot counts for nothing
abbrev pub better : Option Entry → ℕ → Entry → Option Entry
better None slot entry = if entry.slot == slot then Some entry else None
better (Some best) slot entry = if entry.slot == slot then (if is_below best.ballot entry.ballot then Some entry else Some best) else Some best

-- the best of what there was and of the entries of a promise
abbrev pub best_in : Option Entry → ℕ → List Entry → Option Entry
best_in best slot [] = best
best_in best slot (entry ∷ entries) = best_in (better best slot entry) slot entries

abbrev pub best_after : Option Entry → ℕ → Option (List Entry) → Option Entry
best_after best slot None = best
best_after best slot (Some told) = best_in best slot told
