-- The node of a station is of the station's match.
use Rattle.std.proofs.Common.{◌≡◌, ℕ, ◌<◌, ap, arith}
use Rattle.std.proofs.Math.Logic.{∥∥₁_elim}
use Rattle.std.specs.Coded.{le_prop}
use Rattle.node_rules.specs.Standings.{Place}
use Rattle.dealer_node.specs.Nodes.{Node}
use Rattle.dealer_node.specs.Members.{place_at}
use Rattle.dealer_node.specs.Seeing.{member_in}
use Rattle.stations.specs.Stations.{Look, known_place}

pub same_players : {D : Type 0} (look : Look (Node D)) (seat : ℕ) → ∥ place_at (member_in look.node) ≡ known_place look ∥₁ → seat < look.config.setting.game.players
    → seat < (member_in look.node).setting.game.players
same_players look seat at less =
    ∥∥₁_elim at le_prop (λ e. let same = ap (λ (p : Place). p.setting.game.players) e in omega (arith, same, less))
