-- A match and the nodes that deal it, and their limits.
use Rattle.std.specs.Prelude.{◌≡◌, ℕ, ◌≤◌, ◌⊎◌, List, length}
use Rattle.std.specs.List.{All}
use Rattle.game_def.specs.Game.{Game, IsGame}
use Rattle.match_log.specs.Names.{IsName, IsGameWord, AreNames}
use Rattle.dealer_kind.specs.Kind.{Setting}
use Rattle.dealer_kind.specs.Sources.{HasDeals}
use Rattle.dealer_kind.specs.declared.source.Source.{Source}

-- what all nodes share, and each node's source
pub record Plan : Type 0 where
  pub setting : Setting
  pub sources : List Source

abbrev pub plan : Game → List ℕ → List ℕ → List (List ℕ) → ℕ → List Source → Plan
plan game name word names hands sources = record {
  setting = record { game = game; title = record { name = name; game = word; hands = hands }; names = names };
  sources = sources;
}

-- three, five or seven
abbrev pub HasNodes : ℕ → Type 0
HasNodes nodes = (nodes ≡ 3) ⊎ ((nodes ≡ 5) ⊎ (nodes ≡ 7))

-- what holds of every match: 1 to 10000 hands, a name for each seat, no two the same
pub record IsSetting (setting : Setting) : Type 0 where
  pub is_game : IsGame setting.game
  pub match_name : IsName setting.title.name
  pub game_word : IsGameWord setting.title.game
  pub least : 1 ≤ setting.title.hands
  pub most : setting.title.hands ≤ 10000
  pub seat_names : AreNames setting.game.players setting.names

-- and of its nodes
pub record IsPlan (plan : Plan) : Type 0 where
  pub within : IsSetting plan.setting
  pub nodes : HasNodes (length plan.sources)
  pub deals : All (HasDeals plan.setting.game.players plan.setting.title.hands) plan.sources
