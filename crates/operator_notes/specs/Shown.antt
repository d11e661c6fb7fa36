-- How notes show texts that files say, as paths and keys.
use Rattle.std.specs.Prelude.{ℕ, if◌then◌else◌, List, codes}
use Rattle.std.specs.List.{flat_map}
use Rattle.std.specs.Char.{is_control, encode_utf8}
use Rattle.std.specs.Str.{chars}

-- a character, or `?` for a control character
abbrev pub shown_char : ℕ → List ℕ
shown_char c = if is_control c then codes "?" else encode_utf8 c

-- a text with `?` in place of each control character
abbrev pub shown : List ℕ → List ℕ
shown text = flat_map shown_char (chars text)
