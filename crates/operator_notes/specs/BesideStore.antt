-- What the files beside a node's store and its logs are called.
use Rattle.std.specs.Prelude.{ℕ, List, ◌++◌, codes, decimal}
use Rattle.operator_notes.specs.NodeFiles.{file_name}

-- whose store a node's is
abbrev pub node_kept_name : List ℕ → ℕ → List ℕ
node_kept_name folder node = file_name folder node (codes ".kept")

-- and which store it knows of a peer
abbrev pub life_name : List ℕ → ℕ → ℕ → List ℕ
life_name folder node peer = file_name folder node (codes ".peer" ++ decimal peer ++ codes ".kept")

-- and which of its kept logs are of its store
abbrev pub logs_kept_name : List ℕ → ℕ → List ℕ
logs_kept_name folder node = file_name folder node (codes ".logs.kept")
