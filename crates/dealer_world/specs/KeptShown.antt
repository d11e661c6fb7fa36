-- What was shown as it is kept: rows of bytes under marks.
use Rattle.std.specs.Prelude.{ℕ, List, map}
use Rattle.protocol_model.specs.Dealers as model
use Rattle.dealer_node.specs.declared.reader.Reader.{Reader}
use Rattle.dealer_node.specs.declared.reader.Reader.TheVariants.{Seat, Log}
use Rattle.dealer_world.specs.declared.shown.Label.{Label}
use Rattle.dealer_world.specs.Records.{Piece}
use Rattle.dealer_world.specs.Rows.{Row}

-- pieces in order, and for how many more pieces and bytes there is room
pub record Kept : Type 0 where
  pub pieces : List Piece
  pub piece_room : ℕ
  pub byte_room : ℕ

-- who reads
abbrev pub reader_by : Reader → model.Reader
reader_by (Seat seat) = model.Seat seat
reader_by Log = model.Log

-- what was shown, with this text
abbrev pub piece_by : ℕ → ℕ → Reader → List ℕ → Piece
piece_by node start reader text = record { node = node; start = start; reader = reader_by reader; text = text }

-- the piece of a row
abbrev pub piece_in : Row Label → Piece
piece_in row = piece_by row.mark.node row.mark.start row.mark.reader row.text

abbrev pub pieces_of : List (Row Label) → List Piece
pieces_of rows = map piece_in rows
