-- What a node's files are called.
use Rattle.std.specs.Prelude.{ℕ, List, ◌++◌, codes, decimal}

-- a file of a node in a folder
abbrev pub file_name : List ℕ → ℕ → List ℕ → List ℕ
file_name folder node ending = folder ++ codes "/node" ++ decimal node ++ ending

-- the store
abbrev pub store_name : List ℕ → ℕ → List ℕ
store_name folder node = file_name folder node (codes ".journal")

-- and the log
abbrev pub log_name : List ℕ → ℕ → List ℕ
log_name folder node = file_name folder node (codes ".log")
