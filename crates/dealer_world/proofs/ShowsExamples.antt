-- How much the record gains of pieces, on values.
use Rattle.std.proofs.Common.{◌≡◌, [], ◌∷◌, length, refl, ap, arith}
use Rattle.dealer_node.specs.declared.most_shown.MostShown.{MostShown}
use Rattle.protocol_model.specs.Dealers.{Seat, Log}
use Rattle.dealer_world.specs.Records.{Record, Piece}
use Rattle.dealer_world.specs.Shows.{text_total, GrowsWithin}

abbrev header : Piece
header = record { node = 0; start = 0; reader = Log; text = 35 ∷ 10 ∷ [] }

abbrev line : Piece
line = record { node = 0; start = 0; reader = Seat 1; text = 65 ∷ 66 ∷ 67 ∷ [] }

five_bytes : text_total (header ∷ line ∷ []) ≡ 5
five_bytes = refl

abbrev old : Record
old = record { sent = []; delivered = []; starts = []; shown = header ∷ [] }

abbrev new : Record
new = record { sent = []; delivered = []; starts = []; shown = header ∷ line ∷ [] }

abbrev most : MostShown
most = record { pieces = 1; bytes = 3 }

a_line_more : GrowsWithin most old new
a_line_more = record { more = line ∷ []; behind = refl; pieces = omega arith; bytes = omega arith }

-- a record that lost a piece didn't grow so, and a line of three bytes is none of two
none_lost : GrowsWithin most new old → ⊥
none_lost grows = let same = ap (λ ps. length ps) grows.behind in absurd (omega (arith, same))

not_of_two_bytes : GrowsWithin (record { pieces = 1; bytes = 2 }) old new → ⊥
not_of_two_bytes grows = let same = ap text_total grows.behind in absurd (omega (arith, same, grows.bytes))
