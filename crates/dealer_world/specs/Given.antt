-- The laws of the layers below that the laws of runs by the rules stand on.
use Rattle.std.specs.Prelude.{ℕ, ◌<◌, Bool, List}
use Rattle.slot_log.specs.declared.command.Command.{Command}
use Rattle.protocol_model.specs.Dealers.{Dealer}
use Rattle.protocol_model.specs.Nodes.{Node as WorldNode}
use Rattle.protocol_model.specs.Moves.{Output, Chain}
use Rattle.protocol_model.specs.Sets.{In}
use Rattle.protocol_model.specs.Quorums.{IsChosen}
use Rattle.protocol_model.specs.Worlds.{World, Run, Reached, IsAfter}
use Rattle.protocol_model.specs.Laws.{OwnsMore, with_own}
use Rattle.dealer_kind.specs.Kind.{Setting, dealer_of}
use Rattle.dealer_kind.specs.Owning.{OwnsDeals, either}
use Rattle.dealer_kind.specs.Sources.{owns}
use Rattle.dealer_kind.specs.declared.source.Source.{Source}
use Rattle.node_rules.specs.Sound.{CallsAreSound, AppendsAreBegun, LinesAreRefusedDown}

-- chains reach worlds
abbrev pub Reaches : Type 0
Reaches = (dealer : Dealer) (n i : ℕ) (first world : World) (out : Output) (node : WorldNode)
    → Run dealer n first world → i < n → Chain dealer n i world.ever (world.nodes i) out node
    → (later : World) × Run dealer n first later × IsAfter world i out node later

-- where more deals count as a node's own, it stays
abbrev pub MayWiden : Type 0
MayWiden = (dealer : Dealer) (own : ℕ → Command → Bool) (n : ℕ) (first last : World) → OwnsMore dealer own → Run dealer n first last → Run (with_own dealer own) n first last

-- what a node knows was chosen
abbrev pub KnownIsChosen : Type 0
KnownIsChosen = (dealer : Dealer) (n i : ℕ) (world : World) (slot : ℕ) (command : Command)
    → Reached dealer n world → In (slot, command) (world.nodes i).known → IsChosen n world.ever slot command

pub record Given : Type 0 where
  pub reach : Reaches
  pub known : KnownIsChosen
  pub calls : CallsAreSound
  pub refused_down : LinesAreRefusedDown
  pub appends : AppendsAreBegun
  pub widen : MayWiden
  pub source_deals : (players : ℕ) (sources : List Source) → OwnsDeals (owns players sources)
  pub both_deal : (own other : ℕ → Command → Bool) → OwnsDeals own → OwnsDeals other → OwnsDeals (either own other)
  pub second : (setting : Setting) (own other : ℕ → Command → Bool) → OwnsMore (dealer_of setting other) (either own other)
