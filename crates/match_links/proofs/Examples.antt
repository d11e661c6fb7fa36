-- Pieces, on values.
use Rattle.std.proofs.Common.{◌≡◌, refl, true, false, [], ◌∷◌}
use Rattle.match_links.specs.Pieces.{piece_len, part_len, is_whole}

-- a line goes up to its line feed and has it
first_of_two_lines : piece_len (65 ∷ 10 ∷ 66 ∷ 10 ∷ []) ≡ 2
first_of_two_lines = refl

-- a carriage return ends nothing
carriage_return_is_of_the_line : piece_len (65 ∷ 13 ∷ 10 ∷ []) ≡ 3
carriage_return_is_of_the_line = refl

rest_without_line_feed : piece_len (65 ∷ 66 ∷ []) ≡ 2
rest_without_line_feed = refl

empty_line : piece_len (10 ∷ 65 ∷ []) ≡ 1
empty_line = refl

nothing_left : piece_len [] ≡ 0
nothing_left = refl

-- a small buffer takes the beginning of the piece
beginning_alone : part_len 1 (65 ∷ 66 ∷ 10 ∷ []) ≡ 1
beginning_alone = refl

line_is_whole : is_whole (65 ∷ 10 ∷ 66 ∷ []) ≡ true
line_is_whole = refl

part_of_a_line_is_not : is_whole (65 ∷ 13 ∷ []) ≡ false
part_of_a_line_is_not = refl
