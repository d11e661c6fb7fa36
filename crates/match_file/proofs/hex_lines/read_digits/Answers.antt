use Rattle.std.proofs.Common.{◌≡◌, List, ℕ, sym, ap, ◌∙◌}
use Rattle.std.proofs.lemmas.Bool.{false≢true}
use Rattle.hex.specs.Hex.{encode_lower}
use Rattle.match_file.proofs.HexLines.{digits_read}
use Rattle.match_file.proofs.hex_lines.read_digits.Goals as goal

pub returns-in_default-clause-only : goal.returns-in_default-clause-only
returns-in_default-clause-only g c =
    λ bytes are many is.
    let read = digits_read c.args.digits.now bytes g.row.N are many is in let decoded = c.from_hex.ensures in let other = c.in_default.is in
    cc

pub returns-then-are_digits_of-clause-only : goal.returns-then-are_digits_of-clause-only
returns-then-are_digits_of-clause-only g c =
    λ bytes are many is.
    let read = digits_read c.args.digits.now bytes g.row.N are many is in let decoded = c.from_hex.ensures in let found = c.in-Ok.is in
    cc

pub returns-else-are_digits_of-clause-only : goal.returns-else-are_digits_of-clause-only
returns-else-are_digits_of-clause-only g c =
    λ bytes are many is.
    let read = digits_read c.args.digits.now bytes g.row.N are many is in let decoded = c.from_hex.ensures in let found = c.in-Ok.is in
    let same : bytes ≡ c.in-Ok.bytes = cc in
    absurd (false≢true (sym c.if-are_digits_of.false ∙ c.are_digits_of.ensures.1 (is ∙ ap (λ (b : List ℕ). encode_lower b) same)))
