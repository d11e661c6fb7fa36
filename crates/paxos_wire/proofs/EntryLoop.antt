-- Reading entries one after the other, as a loop does.
use Rattle.std.proofs.Common.{◌≡◌, ℕ, suc, ◌-◌, ◌+◌, ◌≤◌, ◌<◌, List, [], ◌∷◌, ◌++◌, Option, Some, None, refl, sym, ap, ◌∙◌, arith}
use Rattle.std.proofs.lemmas.List.{append-nil}
use Rattle.paxos_wire.specs.declared.entry.Entry.{Entry}
use Rattle.paxos_wire.specs.declared.version.Version.{Version}
use Rattle.paxos_wire.specs.Reading.{entry_within, entries_at}
use Rattle.paxos_wire.proofs.Fronts.{with_front, regroup}

pub goes_on : (version : Version) (front : List Entry) (count i from limit : ℕ) (bytes : List ℕ) (e : Entry) (after : List ℕ) (total : Option (List Entry × List ℕ)) → i < count → entry_within version from limit bytes ≡ Some (e, after)
    → with_front front (entries_at version (count - i) from limit bytes) ≡ total → with_front (front ++ e ∷ []) (entries_at version (count - (i + 1)) (e.slot + 1) limit after) ≡ total
unfolding entries_at
goes_on version front count i from limit bytes e after total lt h so_far =
    let k : count - i ≡ suc (count - (i + 1)) = omega arith in
    let one : with_front front (entries_at version (count - i) from limit bytes) ≡ with_front (front ++ e ∷ []) (entries_at version (count - (i + 1)) (e.slot + 1) limit after) = rw (k, h) (regroup front e (entries_at version (count - (i + 1)) (e.slot + 1) limit after)) in
    sym one ∙ so_far

pub ends : (version : Version) (front : List Entry) (count i from limit : ℕ) (bytes : List ℕ) (total : Option (List Entry × List ℕ)) → i < count → entry_within version from limit bytes ≡ None
    → with_front front (entries_at version (count - i) from limit bytes) ≡ total → total ≡ None
unfolding entries_at
ends version front count i from limit bytes total lt h so_far =
    let k : count - i ≡ suc (count - (i + 1)) = omega arith in
    let one : with_front front (entries_at version (count - i) from limit bytes) ≡ None = rw (k, h) refl in
    sym so_far ∙ one

pub is_done : (version : Version) (front : List Entry) (count i from limit : ℕ) (bytes : List ℕ) (total : Option (List Entry × List ℕ)) → count ≤ i → with_front front (entries_at version (count - i) from limit bytes) ≡ total → total ≡ Some (front, bytes)
unfolding entries_at
is_done version front count i from limit bytes total le so_far =
    let k : count - i ≡ 0 = omega arith in
    let one : with_front front (entries_at version (count - i) from limit bytes) ≡ Some (front, bytes) = rw k (ap (λ (es : List Entry). Some (es, bytes)) (append-nil front)) in
    sym so_far ∙ one
