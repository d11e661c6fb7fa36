-- Entries of a Promise: what is read is what is written, and what is written is read again.
use Rattle.std.proofs.Common.{◌≡◌, ℕ, zero, suc, ◌+◌, ◌<◌, ◌≤◌, ◌&&◌, ltb, leb, List, [], ◌∷◌, ◌++◌, length, map, Some, refl, sym, ap, subst, ◌∙◌, append_assoc, arith}
use Rattle.std.specs.List.{flat_map, AllByRecursion}
use Rattle.std.proofs.lemmas.Bool.{ltb-true, lt-ltb, leb-true, le-leb, and_parts}
use Rattle.std.proofs.lemmas.List.Concat.{flat_map-cons}
use Rattle.std.proofs.lemmas.Option.{same_Some}
use Rattle.paxos_wire.specs.declared.limits.TheConstants.{SLOTS}
use Rattle.paxos_wire.specs.declared.entry.Entry.{Entry}
use Rattle.paxos_wire.specs.declared.version.Version.{Version}
use Rattle.paxos_wire.specs.Versions.{nodes_in}
use Rattle.byteorder.specs.Endian.{big_bytes}
use Rattle.paxos_wire.specs.Fits.{IsDealt, IsEntry, Rise}
use Rattle.paxos_wire.specs.Spelling.{ballot_text, slot_text, command_text, entry_text}
use Rattle.paxos_wire.specs.Reading.{◌>>=◌, when, below_at, ballot_at, command_at, entry_at, entry_within, entries_at}
use Rattle.paxos_wire.proofs.Steps.{IsBytes, bind_some, when_some, Takes, both}
use Rattle.paxos_wire.proofs.Numbers.{wide4, below_takes, below_again}
use Rattle.paxos_wire.proofs.CommandLaws.{ballot_takes, ballot_again, command_takes, command_again}

-- an entry in range whose node the version has and whose deal is dealt
pub record IsWhole (version : Version) (e : Entry) : Type 0 where
  pub entry : IsEntry e
  pub node : e.ballot.node < nodes_in version
  pub cards : IsDealt e.command

pub entry_takes : (version : Version) (bytes : List ℕ) (x : Entry × List ℕ) → IsBytes bytes → entry_at version bytes ≡ Some x → Takes entry_text (IsWhole version) bytes x
unfolding entry_at
entry_takes version bytes x fits e =
    let a = bind_some (below_at 4 SLOTS bytes) (λ slot. ballot_at version slot.1 >>= λ ballot. command_at ballot.1 >>= λ command. Some (record { slot = slot.0; ballot = ballot.0; command = command.0 }, command.1)) x e in
    let b = bind_some (ballot_at version a.0.1) (λ ballot. command_at ballot.1 >>= λ command. Some (record { slot = a.0.0; ballot = ballot.0; command = command.0 }, command.1)) x a.2 in
    let c = bind_some (command_at b.0.1) (λ command. Some (record { slot = a.0.0; ballot = b.0.0; command = command.0 }, command.1)) x b.2 in
    let t0 = below_takes 4 SLOTS wide4 bytes a.0 fits a.1 in
    let t1 = ballot_takes version a.0.1 b.0 t0.rest b.1 in
    let t2 = command_takes b.0.1 c.0 t1.rest c.1 in
    let made : Entry × List ℕ = (record { slot = a.0.0; ballot = b.0.0; command = c.0.0 }, c.0.1) in
    let front = both bytes (big_bytes 4 a.0.0) a.0.1 (ballot_text b.0.0) b.0.1 t0.parts t1.parts in
    subst (λ (y : Entry × List ℕ). Takes entry_text (IsWhole version) bytes y) (same_Some made x c.2)
    (record {
      parts = both bytes (big_bytes 4 a.0.0 ++ ballot_text b.0.0) b.0.1 (command_text c.0.0) c.0.1 front t2.parts;
      rest = t2.rest;
      fits = record { entry = record { slot = t0.fits; ballot = t1.fits.ballot; command = t2.fits.numbers }; node = t1.fits.node; cards = t2.fits.cards };
    })

pub entry_again : (version : Version) (e : Entry) (rest : List ℕ) → IsWhole version e → entry_at version (entry_text e ++ rest) ≡ Some (e, rest)
unfolding entry_at
entry_again version e rest fits =
    let regrouped : entry_text e ++ rest ≡ slot_text e.slot ++ (ballot_text e.ballot ++ (command_text e.command ++ rest)) = refl in
    ap (entry_at version) regrouped ∙ rw (below_again 4 SLOTS e.slot (ballot_text e.ballot ++ (command_text e.command ++ rest)) fits.entry.slot (omega arith), ballot_again version e.ballot (command_text e.command ++ rest) fits.entry.ballot fits.node, command_again e.command rest (record { numbers = fits.entry.command; cards = fits.cards })) refl

pub record IsWithin (version : Version) (from limit : ℕ) (e : Entry) : Type 0 where
  pub whole : IsWhole version e
  pub least : from ≤ e.slot
  pub below : e.slot < limit

pub within_takes : (version : Version) (from limit : ℕ) (bytes : List ℕ) (x : Entry × List ℕ) → IsBytes bytes → entry_within version from limit bytes ≡ Some x → Takes entry_text (IsWithin version from limit) bytes x
unfolding entry_within
within_takes version from limit bytes x fits e =
    let a = bind_some (entry_at version bytes) (λ entry. when (leb from entry.0.slot && ltb entry.0.slot limit) entry) x e in
    let t = entry_takes version bytes a.0 fits a.1 in
    let g = when_some (leb from a.0.0.slot && ltb a.0.0.slot limit) a.0 x a.2 in
    let tests = and_parts (leb from a.0.0.slot) (ltb a.0.0.slot limit) g.0 in
    subst (λ (y : Entry × List ℕ). Takes entry_text (IsWithin version from limit) bytes y) g.1 (record { parts = t.parts; rest = t.rest; fits = record { whole = t.fits; least = leb-true _ _ tests.0; below = ltb-true _ _ tests.1 } })

pub within_again : (version : Version) (from limit : ℕ) (e : Entry) (rest : List ℕ) → IsWithin version from limit e → entry_within version from limit (entry_text e ++ rest) ≡ Some (e, rest)
unfolding entry_within
within_again version from limit e rest fits = rw (entry_again version e rest fits.whole, le-leb from e.slot fits.least, lt-ltb e.slot limit fits.below) refl

-- so many entries were taken from the front
pub record TakesEntries (version : Version) (count from limit : ℕ) (bytes : List ℕ) (x : List Entry × List ℕ) : Type 0 where
  pub parts : bytes ≡ flat_map entry_text x.0 ++ x.1
  pub rest : IsBytes x.1
  pub len : length x.0 ≡ count
  pub each : AllByRecursion IsEntry x.0
  pub nodes : AllByRecursion (λ e. e.ballot.node < nodes_in version) x.0
  pub rise : Rise from limit x.0
  pub cards : AllByRecursion IsDealt (map (λ e. e.command) x.0)

pub entries_take : (version : Version) (count from limit : ℕ) (bytes : List ℕ) (x : List Entry × List ℕ) → IsBytes bytes → entries_at version count from limit bytes ≡ Some x → TakesEntries version count from limit bytes x
unfolding entries_at
entries_take version zero from limit bytes x fits e =
    subst (λ (y : List Entry × List ℕ). TakesEntries version 0 from limit bytes y) (same_Some ([], bytes) x e) (record { parts = refl; rest = fits; len = refl; each = tt; nodes = tt; rise = tt; cards = tt })
entries_take version (suc count) from limit bytes x fits e =
    let a = bind_some (entry_within version from limit bytes) (λ first. entries_at version count (first.0.slot + 1) limit first.1 >>= λ others. Some (first.0 ∷ others.0, others.1)) x e in
    let b = bind_some (entries_at version count (a.0.0.slot + 1) limit a.0.1) (λ others. Some (a.0.0 ∷ others.0, others.1)) x a.2 in
    let t = within_takes version from limit bytes a.0 fits a.1 in
    let ts = entries_take version count (a.0.0.slot + 1) limit a.0.1 b.0 t.rest b.1 in
    let whole : bytes ≡ flat_map entry_text (a.0.0 ∷ b.0.0) ++ b.0.1 = both bytes (entry_text a.0.0) a.0.1 (flat_map entry_text b.0.0) b.0.1 t.parts ts.parts ∙ ap (λ (w : List ℕ). w ++ b.0.1) (sym (flat_map-cons entry_text a.0.0 b.0.0)) in
    subst (λ (y : List Entry × List ℕ). TakesEntries version (suc count) from limit bytes y) (same_Some (a.0.0 ∷ b.0.0, b.0.1) x b.2)
    (record {
      parts = whole;
      rest = ts.rest;
      len = ap suc ts.len;
      each = (t.fits.whole.entry, ts.each);
      nodes = (t.fits.whole.node, ts.nodes);
      rise = (t.fits.least, t.fits.below, ts.rise);
      cards = (t.fits.whole.cards, ts.cards);
    })

pub entries_again : (version : Version) (es : List Entry) (from limit : ℕ) (rest : List ℕ)
    → AllByRecursion IsEntry es → AllByRecursion (λ e. e.ballot.node < nodes_in version) es → Rise from limit es → AllByRecursion IsDealt (map (λ e. e.command) es)
    → entries_at version (length es) from limit (flat_map entry_text es ++ rest) ≡ Some (es, rest)
unfolding entries_at
entries_again version [] from limit rest each nodes rise cards = refl
entries_again version (e ∷ es) from limit rest each nodes rise cards =
    let regrouped : flat_map entry_text (e ∷ es) ++ rest ≡ entry_text e ++ (flat_map entry_text es ++ rest) = ap (λ (w : List ℕ). w ++ rest) (flat_map-cons entry_text e es) ∙ append_assoc (entry_text e) (flat_map entry_text es) rest in
    let fits : IsWithin version from limit e = record { whole = record { entry = each.0; node = nodes.0; cards = cards.0 }; least = rise.0; below = rise.1 } in
    ap (entries_at version (suc (length es)) from limit) regrouped ∙ rw (within_again version from limit e (flat_map entry_text es ++ rest) fits, entries_again version es (e.slot + 1) limit rest each.1 nodes.1 rise.2 cards.1) refl
