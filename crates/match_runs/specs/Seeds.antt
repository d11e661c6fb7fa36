-- The seeds of nodes: how one is drawn, and which can be guessed.
use Rattle.std.specs.Prelude.{ℕ, zero, suc, ◌+◌, ◌*◌, ◌%◌, ◌^◌, nat_lt, Bool, false, if◌then◌else◌, List, [], ◌∷◌, ◌++◌, Some, None, length, slice_get}
use Rattle.std.specs.Int.{w128, from_le_bytes}
use Rattle.dealer_kind.specs.declared.source.Source.{Source}
use Rattle.dealer_kind.specs.declared.source.Source.TheVariants.{Seed, Listed}

-- the seed that sixteen random bytes make, a number with its lowest byte first: one of the 255 * 2^55 seeds from 2^55 on
abbrev pub drawn_seed : List ℕ → ℕ
drawn_seed bytes = 2 ^ 55 + from_le_bytes w128 bytes % (255 * 2 ^ 55)

-- a source is a seed that can be guessed
abbrev pub is_short : Source → Bool
is_short (Seed seed) = nat_lt seed (2 ^ 55)
is_short (Listed deals) = false

-- the same of the source of a node, if there is one
abbrev pub is_short_at : List Source → ℕ → Bool
is_short_at sources node = elim (slice_get sources node) [ Some source ↦ is_short source | None ↦ false ]

-- the nodes below this one whose seeds can be guessed
abbrev pub short_below : List Source → ℕ → List ℕ
short_below sources zero = []
short_below sources (suc node) = short_below sources node ++ (if is_short_at sources node then node ∷ [] else [])

-- of all nodes those
abbrev pub short_seeds : List Source → List ℕ
short_seeds sources = short_below sources (length sources)
