-- Why a file is none of the key that the processes of a match share.
use Rattle.std.specs.Prelude.{ℕ, ◌==◌, nat_lt, if◌then◌else◌, Option, Some, None, List, codes, bit_and}
use Rattle.std.specs.Fs.{metadata_len, metadata_mode}
use Rattle.std.specs.declared.fs.attrs.Metadata.{Metadata}
use Rattle.operator_notes.specs.declared.key_fault.KeyFault.{KeyFault}
use Rattle.operator_notes.specs.declared.key_fault.KeyFault.TheVariants.{NotAFile, NotSecret, NotOwned, NotDigits}

-- why a file is none of a key: it is no regular file, its group or others have a right, or it is longer than 64 digits and a line feed
abbrev pub fault_of : Metadata → Option KeyFault
fault_of file =
    if bit_and (metadata_mode file) 0o170000 == 0o100000 then
    (if bit_and (metadata_mode file) 0o077 == 0 then (if nat_lt 65 (metadata_len file) then Some NotDigits else None) else Some NotSecret)
    else Some NotAFile

-- what a note says of it, behind the file's name
abbrev pub fault_line : KeyFault → List ℕ
fault_line NotAFile = codes ": not a regular file"
fault_line NotSecret = codes ": open to others than its owner"
fault_line NotOwned = codes ": of another user"
fault_line NotDigits = codes ": not 64 hexadecimal digits"
