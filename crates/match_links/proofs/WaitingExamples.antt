-- Who can be seated, on values.
use Rattle.std.proofs.Common.{◌≡◌, refl, true, false, [], ◌∷◌, replicate}
use Rattle.match_links.specs.Waiting.{can_sit, is_over}

-- a line
line_sits : can_sit (65 ∷ 10 ∷ []) false ≡ true
line_sits = refl

-- as many bytes as a piece may have, without a line feed
longest_piece_sits : can_sit (replicate 4097 65) false ≡ true
longest_piece_sits = refl

one_byte_less_waits : can_sit (replicate 4096 65) false ≡ false
one_byte_less_waits = refl

-- who sent a part of a line waits, till the end of the connection
part_waits : can_sit (65 ∷ []) false ≡ false
part_waits = refl

part_and_an_end_sit : can_sit (65 ∷ []) true ≡ true
part_and_an_end_sit = refl

silent_waits : can_sit [] false ≡ false
silent_waits = refl

-- who ended without a byte isn't seated, and is passed over
end_alone_is_not_seated : can_sit [] true ≡ false
end_alone_is_not_seated = refl

end_alone_is_over : is_over [] true ≡ true
end_alone_is_over = refl

silent_is_not_over : is_over [] false ≡ false
silent_is_not_over = refl

end_behind_a_byte_is_not_over : is_over (65 ∷ []) true ≡ false
end_behind_a_byte_is_not_over = refl
