-- The versions of Hellos, each with the number that it begins with.
use Rattle.std.specs.Prelude.{ℕ, ◌==◌, if◌then◌else◌, Bool, true, false, Option, Some, None}
use Rattle.peer_codes.specs.declared.limits.TheConstants.{FIRST_MAGIC, SECOND_MAGIC}
use Rattle.peer_codes.specs.declared.version.Version.{Version}
use Rattle.peer_codes.specs.declared.version.Version.TheVariants.{First, Second}

abbrev pub magic_of : Version → ℕ
magic_of First = FIRST_MAGIC
magic_of Second = SECOND_MAGIC

-- the version that a number tells
abbrev pub version_told : ℕ → Option Version
version_told magic =
    if magic == FIRST_MAGIC then Some First
    else (if magic == SECOND_MAGIC then Some Second
    else None)

abbrev pub same_version : Version → Version → Bool
same_version First First = true
same_version First Second = false
same_version Second First = false
same_version Second Second = true
