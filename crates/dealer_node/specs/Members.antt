-- What a node keeps of its match.
use Rattle.std.specs.Prelude.{ℕ, ◌<◌}
use Rattle.dealer_kind.specs.Kind.{Setting}
use Rattle.dealer_kind.specs.Plans.{IsSetting, HasNodes}
use Rattle.dealer_kind.specs.Sources.{HasDeals, deal_of}
use Rattle.dealer_kind.specs.declared.source.Source.{Source}
use Rattle.node_rules.specs.Standings.{Place}

-- what all nodes share, where its own deals come from, how many nodes there are, and its number
pub record Membership : Type 0 where
  pub setting : Setting
  pub source : Source
  pub nodes : ℕ
  pub node : ℕ

-- the node's place in the match, as the rules see it
abbrev pub place_at : Membership → Place
place_at member = record { setting = member.setting; nodes = member.nodes; node = member.node; deals = deal_of member.setting.game.players member.source }

-- the match is within its limits, and the node is one of its nodes
pub record IsMember (member : Membership) : Type 0 where
  pub within : IsSetting member.setting
  pub nodes : HasNodes member.nodes
  pub node : member.node < member.nodes
  pub deals : HasDeals member.setting.game.players member.setting.title.hands member.source
