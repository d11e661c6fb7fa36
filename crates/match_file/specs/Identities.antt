-- What is kept of a match, and of its nodes, whose nodes run in processes of their own.
use Rattle.std.specs.Prelude.{◌≡◌, ◌<◌, ◌^◌, ℕ, List, [], ◌++◌, length, codes, decimal}
use Rattle.hex.specs.Hex.{IsBytes, encode_lower}
use Rattle.match_file.specs.Kept.{line}
use Rattle.match_file.specs.declared.node_kept.NodeKept.{NodeKept}
use Rattle.match_file.specs.declared.logs_kept.LogsKept.{LogsKept}

-- a line with the identity in small hex digits, and the text of the kept match behind it
abbrev pub identified_text : List ℕ → List ℕ → List ℕ
identified_text id kept = line (codes "# match.id ") (encode_lower id) kept

-- a line with the life of a store
abbrev pub life_line : List ℕ → List ℕ → List ℕ
life_line life rest = line (codes "life ") (encode_lower life) rest

-- whose store it is: the node's number, the store's life and the digest of the node's source
abbrev pub node_kept_text : NodeKept → List ℕ
node_kept_text kept =
    codes "# node.kept 1\n" ++ line (codes "node ") (decimal kept.node) (life_line kept.life (line (codes "decks ") (encode_lower kept.decks) []))

-- of bytes, as many as there must be
pub record IsNodeKept (kept : NodeKept) : Type 0 where
  pub node : kept.node < 256
  pub life_bytes : IsBytes kept.life
  pub life_length : length kept.life ≡ 16
  pub decks_bytes : IsBytes kept.decks
  pub decks_length : length kept.decks ≡ 32

-- what a node keeps of a peer's store
abbrev pub life_text : List ℕ → List ℕ
life_text life = life_line life []

-- which of the kept logs of a node are of its store: the store's life, and the number of the first
abbrev pub logs_kept_text : LogsKept → List ℕ
logs_kept_text kept = life_line kept.life (line (codes "first ") (decimal kept.first) [])

-- of bytes, as many as there must be
pub record IsLogsKept (kept : LogsKept) : Type 0 where
  pub first : kept.first < 2 ^ 32
  pub life_bytes : IsBytes kept.life
  pub life_length : length kept.life ≡ 16
