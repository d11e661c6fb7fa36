-- What the fields of a Promise's entries keep, and that they are got back from the list of the entries.
use Rattle.std.specs.Prelude.{◌≡◌, ℕ, ◌-◌, ◌≤◌, ◌++◌, length, take, drop, List, replicate}
use Rattle.std.proofs.Common.{◌∙◌, ap, arith, length-take}
use Rattle.std.proofs.lemmas.List.{take-append-drop}
use Rattle.betting.specs.declared.action.Action.TheVariants.{Fold}
use Rattle.slot_log.specs.declared.command.Command.TheVariants.{Act}
use Rattle.paxos_wire.specs.declared.limits.TheConstants.{WINDOW}
use Rattle.paxos_wire.specs.declared.entry.Entry.{Entry}
use Rattle.paxos_wire.specs.declared.entries.Entries.TheInside.{Inside}

-- what stands behind the last entry
abbrev pub blank : Entry
blank = record { slot = 0; ballot = record { round = 0; node = 0 }; command = Act 0 0 Fold }

-- the entries stand in front, and the blank in each place behind them
pub record IsKept (e : Inside) : Type 0 where
  pub places : length e.entries ≡ WINDOW
  pub most : e.count ≤ WINDOW
  pub rest : drop e.count e.entries ≡ replicate (WINDOW - e.count) blank

abbrev pub inside_of : List Entry → Inside
inside_of entries = record { entries = entries ++ replicate (WINDOW - length entries) blank; count = length entries }

pub inside_of-view : (e : Inside) → IsKept e → inside_of (take e.count e.entries) ≡ e
inside_of-view e kept =
    let count : length (take e.count e.entries) ≡ e.count = omega (arith, length-take e.count e.entries, kept.places, kept.most) in
    let entries : take e.count e.entries ++ replicate (WINDOW - length (take e.count e.entries)) blank ≡ e.entries = rw (count, ← kept.rest) (take-append-drop e.count e.entries) in
    ap (λ (x : List Entry). let i : Inside = record { entries = x; count = length (take e.count e.entries) } in i) entries
    ∙ ap (λ (n : ℕ). let i : Inside = record { entries = e.entries; count = n } in i) count
