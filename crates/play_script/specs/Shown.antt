-- How what comes of a script is printed.
use Rattle.std.specs.Prelude.{ℕ, List, [], ◌∷◌, ◌++◌, codes, decimal}
use Rattle.hex.specs.Hex.{encode_lower}

-- a line: its bytes and a line feed
abbrev pub whole_line : List ℕ → List ℕ
whole_line text = text ++ 10 ∷ []

abbrev pub bad_script_text : List ℕ
bad_script_text = codes "110 BadScript"

-- a frame: its number, from which node to which, and its bytes in hexadecimal digits
abbrev pub frame_text : ℕ → ℕ → ℕ → List ℕ → List ℕ
frame_text number from to bytes = codes "frame " ++ decimal number ++ codes " " ++ decimal from ++ codes ">" ++ decimal to ++ codes " " ++ encode_lower bytes

-- what a seat of a node's table gets: the node, the seat and the line
abbrev pub seat_text : ℕ → ℕ → List ℕ → List ℕ
seat_text node seat text = decimal node ++ codes " " ++ decimal seat ++ codes " " ++ text

-- what a node says of itself: the node, a letter and the text
abbrev pub node_text : ℕ → List ℕ → List ℕ → List ℕ
node_text node letter text = decimal node ++ codes " " ++ letter ++ codes " " ++ text
