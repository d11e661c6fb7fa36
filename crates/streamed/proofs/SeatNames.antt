-- The line that names the seats.
use Rattle.std.proofs.Common.{◌≡◌, ℕ, List, ◌++◌, ap, ◌∙◌}
use Rattle.std.specs.Prelude.{Option, Some, None, IfSome, codes}
use Rattle.match_log.specs.Names.{AreNames}
use Rattle.match_log.specs.Lines.{names_field}
use Rattle.streamed.specs.Names.{IsNamesLine}

-- the names behind the word are those of the line
pub line_named : (players : ℕ) (line text : List ℕ) (read : Option (List (List ℕ))) → line ≡ codes "names " ++ text → IfSome read (λ names. text ≡ names_field names) → IfSome read (λ names. AreNames players names) → IfSome read (λ names. IsNamesLine players names line)
line_named players line text None behind says are = tt
line_named players line text (Some names) behind says are = record { are_names = are; form = behind ∙ ap (λ z. codes "names " ++ z) says }
