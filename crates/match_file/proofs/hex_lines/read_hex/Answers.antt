use Rattle.std.proofs.lemmas.Option.{same_Some}
use Rattle.hex.specs.Hex.{encode_lower}
use Rattle.match_file.proofs.HexLines.{digits_free}
use Rattle.match_file.proofs.hex_lines.read_hex.Goals as goal

pub returns-in_err-digits-clause-only : goal.returns-in_err-digits-clause-only
returns-in_err-digits-clause-only g c = λ bytes rest are many is. absurd (c.in_err-digits.ensures.only (encode_lower bytes) rest (digits_free bytes) is)

pub returns-in_err-bytes-clause-only : goal.returns-in_err-bytes-clause-only
returns-in_err-bytes-clause-only g c =
    λ bytes rest are many is.
    let parts = c.in_ok-digits.ensures.only (encode_lower bytes) rest (digits_free bytes) is in
    let read = c.in_err-bytes.ensures.only bytes are many parts.0 in
    absurd (let e = read in cc)

pub returns-clause-only : goal.returns-clause-only
returns-clause-only g c =
    λ bytes rest are many is.
    let parts = c.in_ok-digits.ensures.only (encode_lower bytes) rest (digits_free bytes) is in
    (same_Some _ _ (c.in_ok-bytes.ensures.only bytes are many parts.0), parts.1)
