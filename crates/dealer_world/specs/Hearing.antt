-- What a seat had sent to a node, by the record.
use Rattle.std.specs.Prelude.{◌≡◌, ℕ, ◌==◌, ◌&&◌, if◌then◌else◌, List, [], ◌∷◌, ◌++◌, Option, Some, None, take}
use Rattle.std.specs.Option.{option_map}
use Rattle.dealer_world.specs.Records.{Arrived, Delivered, Came, Connected, Dropped, Ordered, Arrival}

-- what an arrival makes of the bytes that a seat has sent to a node since it connected there
abbrev pub heard_after : Arrived → ℕ → ℕ → Option (List ℕ) → Option (List ℕ)
heard_after (Delivered frame) node seat heard = heard
heard_after (Came other place bytes) node seat heard = if node == other && seat == place then option_map (λ before. before ++ bytes) heard else heard
heard_after (Connected other place) node seat heard = if node == other && seat == place then Some [] else heard
heard_after (Dropped other place) node seat heard = if node == other && seat == place then None else heard
heard_after (Ordered other front) node seat heard = heard

abbrev pub heard_from : Option (List ℕ) → List Arrival → ℕ → ℕ → Option (List ℕ)
heard_from heard [] node seat = heard
heard_from heard (arrival ∷ later) node seat = heard_from (heard_after arrival.what node seat heard) later node seat

-- the bytes that a seat sent to a node since it connected there last; none where it didn't or was dropped since
abbrev pub heard_by : List Arrival → ℕ → ℕ → Option (List ℕ)
heard_by delivered node seat = heard_from None delivered node seat

-- at some time these were the bytes
abbrev pub WasHeard : List Arrival → ℕ → ℕ → List ℕ → Type 0
WasHeard delivered node seat bytes = (count : ℕ) × (heard_by (take count delivered) node seat ≡ Some bytes)
