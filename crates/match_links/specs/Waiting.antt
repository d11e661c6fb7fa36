-- What of a connection that waits at a port says whether it is seated.
use Rattle.std.specs.Prelude.{ℕ, ◌&&◌, ◌||◌, not, Bool, List}
use Rattle.match_links.specs.Pieces.{is_empty, is_whole}

-- of what came and isn't read yet, and whether nothing more will come: it has a whole piece, or has ended behind some bytes
abbrev pub can_sit : List ℕ → Bool → Bool
can_sit bytes ended = is_whole bytes || (ended && not (is_empty bytes))

-- it has ended and sent nothing
abbrev pub is_over : List ℕ → Bool → Bool
is_over bytes ended = ended && is_empty bytes
