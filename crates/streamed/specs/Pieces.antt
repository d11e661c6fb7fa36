-- The pieces in which a reader gives its bytes.
use Rattle.std.specs.Prelude.{ℕ, List, take}
use Rattle.streamed.specs.declared.pieces.Pieces.{Pieces}

-- the bytes of the last piece
abbrev pub bytes_of : Pieces → List ℕ
bytes_of pieces = take pieces.count pieces.room
