-- Lines read one after the other.
use Rattle.std.proofs.Common.{◌≡◌, ℕ, ◌+◌, true, false, List, [], ◌∷◌, Result, Ok, Err, refl}
use Rattle.game_def.specs.Text.{words}
use Rattle.game_def.specs.Fault.{fault_at}
use Rattle.game_def.specs.Reading.{is_blank, is_gamedef, is_end, first_line, gamedef_from, with_line, entries_from}
use Rattle.game_def.specs.declared.entry.Entry.{Entry}
use Rattle.game_def.specs.declared.fault_kind.FaultKind.{FaultKind}
use Rattle.game_def.specs.declared.fault_kind.FaultKind.TheVariants.{NoGamedef, NoEnd}
use Rattle.game_def.specs.declared.fault.GameFault.{GameFault}

first_gamedef : (line : ℕ) (texts more : List (List ℕ)) (later : Result (ℕ × List (List ℕ)) GameFault) → is_gamedef texts ≡ true → first_line line texts more later ≡ Ok (line, more)
first_gamedef line [] more later h = absurd cc
first_gamedef line (word ∷ texts) more later h = rw h refl

first_other : (line : ℕ) (texts more : List (List ℕ)) (later : Result (ℕ × List (List ℕ)) GameFault) → is_gamedef texts ≡ false → is_blank texts ≡ false → first_line line texts more later ≡ Err (fault_at line NoGamedef)
first_other line [] more later h some = absurd cc
first_other line (word ∷ texts) more later h some = rw h refl

first_blank : (line : ℕ) (texts more : List (List ℕ)) (later : Result (ℕ × List (List ℕ)) GameFault) → is_blank texts ≡ true → first_line line texts more later ≡ later
first_blank line [] more later h = refl
first_blank line (word ∷ texts) more later h = absurd cc

pub gamedef_found : (read : ℕ) (line : List ℕ) (more : List (List ℕ)) → is_gamedef (words line) ≡ true → gamedef_from read (line ∷ more) ≡ Ok (read + 1, more)
unfolding gamedef_from
gamedef_found read line more h = first_gamedef (read + 1) (words line) more (gamedef_from (read + 1) more) h

pub gamedef_missing : (read : ℕ) (line : List ℕ) (more : List (List ℕ)) → is_gamedef (words line) ≡ false → is_blank (words line) ≡ false → gamedef_from read (line ∷ more) ≡ Err (fault_at (read + 1) NoGamedef)
unfolding gamedef_from
gamedef_missing read line more h some = first_other (read + 1) (words line) more (gamedef_from (read + 1) more) h some

pub gamedef_later : (read : ℕ) (line : List ℕ) (more : List (List ℕ)) → is_blank (words line) ≡ true → gamedef_from read (line ∷ more) ≡ gamedef_from (read + 1) more
unfolding gamedef_from
gamedef_later read line more h = first_blank (read + 1) (words line) more (gamedef_from (read + 1) more) h

pub gamedef_none : (read : ℕ) → gamedef_from read [] ≡ Err (fault_at read NoGamedef)
unfolding gamedef_from
gamedef_none read = refl

pub entries_ended : (read : ℕ) (entries : List Entry) (line : List ℕ) (more : List (List ℕ)) → is_end (words line) ≡ true → entries_from read entries (line ∷ more) ≡ Ok (entries, read + 1)
unfolding entries_from
entries_ended read entries line more h = rw h refl

pub entries_faulty : (read : ℕ) (entries : List Entry) (line : List ℕ) (more : List (List ℕ)) (kind : FaultKind) → is_end (words line) ≡ false → with_line entries (read + 1) (words line) ≡ Err kind
    → entries_from read entries (line ∷ more) ≡ Err (fault_at (read + 1) kind)
unfolding entries_from
entries_faulty read entries line more kind h e = rw (h, e) refl

pub entries_more : (read : ℕ) (entries : List Entry) (line : List ℕ) (more : List (List ℕ)) (found : List Entry) → is_end (words line) ≡ false → with_line entries (read + 1) (words line) ≡ Ok found
    → entries_from read entries (line ∷ more) ≡ entries_from (read + 1) found more
unfolding entries_from
entries_more read entries line more found h e = rw (h, e) refl

pub entries_none : (read : ℕ) (entries : List Entry) → entries_from read entries [] ≡ Err (fault_at read NoEnd)
unfolding entries_from
entries_none read entries = refl
