-- Where the nodes' own deals come from.
use Rattle.std.specs.Prelude.{ℕ, ◌≤◌, Bool, false, bytes_eq, List, length, slice_get, Option, Some, None}
use Rattle.std.specs.List.{All}
use Rattle.card_core.specs.Deal.{IsDeal}
use Rattle.deck_draw.specs.Deck.{drawn}
use Rattle.slot_log.specs.declared.command.Command.{Command}
use Rattle.slot_log.specs.declared.command.Command.TheVariants.{Deal, Act, Away}
use Rattle.dealer_kind.specs.declared.source.Source.{Source}
use Rattle.dealer_kind.specs.declared.source.Source.TheVariants.{Seed, Listed}

-- a node's own deal of a hand: drawn from its seed, or that of its list
abbrev pub deal_of : ℕ → Source → ℕ → Option (List ℕ)
deal_of players (Seed seed) hand = Some (drawn seed hand players)
deal_of players (Listed deals) hand = slice_get deals.items hand

-- a list has a deal for so many players for each hand
abbrev pub HasDeals : ℕ → ℕ → Source → Type 0
HasDeals players hands (Seed seed) = Unit {0}
HasDeals players hands (Listed deals) = (hands ≤ length deals.items) × All (IsDeal players) deals.items

-- the cards are those of this deal
abbrev pub is_deal : Option (List ℕ) → List ℕ → Bool
is_deal None cards = false
is_deal (Some deal) cards = bytes_eq cards deal

-- the deal is the one that a node has from this source; it has no other command of its own
abbrev pub deals : ℕ → Option Source → Command → Bool
deals players None command = false
deals players (Some source) (Deal hand deal) = is_deal (deal_of players source hand) deal
deals players (Some source) (Act hand index action) = false
deals players (Some source) (Away hand index) = false

-- the commands that are the nodes' own, where these are their sources
abbrev pub owns : ℕ → List Source → ℕ → Command → Bool
owns players sources node command = deals players (slice_get sources node) command
