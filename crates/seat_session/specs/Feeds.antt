-- Line feeds among bytes.
use Rattle.std.specs.Prelude.{ℕ, List, ◌==◌, count_by}

-- how many line feeds (10) stand among the bytes
abbrev pub line_feeds : List ℕ → ℕ
line_feeds bytes = count_by (λ byte. byte == 10) bytes
