-- What is digested of where a node's deals come from: values, however a match file spells them.
use Rattle.std.specs.Prelude.{ℕ, List, [], ◌∷◌, ◌++◌, codes, decimal}
use Rattle.std.specs.List.{flat_map}
use Rattle.card_core.specs.Deal.{player_count}
use Rattle.matchstate.specs.Cards.{deal_text}
use Rattle.dealer_kind.specs.declared.source.Source.{Source}
use Rattle.dealer_kind.specs.declared.source.Source.TheVariants.{Seed, Listed}
use Rattle.match_file.specs.Kept.{line}

-- a deal's text with all its cards, on a line
abbrev pub deal_line : List ℕ → List ℕ
deal_line deal = deal_text (player_count deal) deal ++ 10 ∷ []

-- a seed's number on a line, or a line and each deal's
abbrev pub source_text : Source → List ℕ
source_text (Seed seed) = line (codes "seed ") (decimal seed) []
source_text (Listed deals) = codes "deals\n" ++ flat_map deal_line deals.items
