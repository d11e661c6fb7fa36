-- What passed over links, on values.
use Rattle.std.proofs.Common.{◌≡◌, refl, List, [], ◌∷◌}
use Rattle.match_links.specs.Passages.{Passage, Came, Told, Emptied, Logged, sat, came, lines_in, log_of}

-- the log of node 0 is emptied, gets a byte, is emptied and gets another; node 1's gets two; seat 1 sends a byte and is told one
abbrev some : List Passage
some =
    Emptied 0 ∷ Logged 0 (65 ∷ []) ∷ Came 0 1 (70 ∷ []) ∷ Logged 1 (66 ∷ []) ∷ Emptied 0 ∷ Told 0 1 (71 ∷ []) ∷ Logged 1 (67 ∷ [])
    ∷ Logged 0 (68 ∷ []) ∷ []

-- a log has what it was given since it was emptied
log_of_node_0 : log_of some 0 ≡ 68 ∷ []
log_of_node_0 = refl

-- and all of it, in order
log_of_node_1 : log_of some 1 ≡ 66 ∷ 67 ∷ []
log_of_node_1 = refl

-- what goes to one node's log goes to no other
no_log : log_of some 2 ≡ []
no_log = refl

-- what came isn't what was told
lines_alone : lines_in some ≡ Told 0 1 (71 ∷ []) ∷ []
lines_alone = refl

-- the end of a connection is no piece
end_of_a_connection : came 0 1 [] ≡ []
end_of_a_connection = refl

a_piece : came 0 1 (70 ∷ 10 ∷ []) ≡ Came 0 1 (70 ∷ 10 ∷ []) ∷ []
a_piece = refl

-- one that was seated has sent nothing yet: no read adds the same
a_connection : sat 0 1 ≡ Came 0 1 []
a_connection = refl

no_piece_is_one : came 0 1 [] ≡ sat 0 1 ∷ [] → ⊥
no_piece_is_one is = cc
