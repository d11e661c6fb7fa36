-- The bytes that tell the kinds of records.
use Rattle.std.specs.Prelude.{◌≡◌, ℕ, ◌==◌, if◌then◌else◌, true, Option, Some, None}
use Rattle.peer_codes.specs.declared.kind.Kind.{Kind}
use Rattle.peer_codes.specs.declared.kind.Kind.TheVariants.{Hello, Proof, Frame, Beat, More}
use Rattle.peer_codes.specs.Mores.{is_more}

abbrev pub kind_byte : Kind → ℕ
kind_byte Hello = 0
kind_byte Proof = 1
kind_byte Frame = 2
kind_byte Beat = 3
kind_byte (More byte) = byte

-- the kind that a byte tells
abbrev pub kind_told : ℕ → Option Kind
kind_told byte =
    if byte == 0 then Some Hello
    else (if byte == 1 then Some Proof
    else (if byte == 2 then Some Frame
    else (if byte == 3 then Some Beat
    else (if is_more byte then Some (More byte)
    else None))))

-- a kind that there is
abbrev pub IsKind : Kind → Type 0
IsKind Hello = Unit {0}
IsKind Proof = Unit {0}
IsKind Frame = Unit {0}
IsKind Beat = Unit {0}
IsKind (More byte) = is_more byte ≡ true
