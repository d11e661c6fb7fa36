use Rattle.std.proofs.Common.{◌≡◌, rules, arith}
use Rattle.stations.specs.Looking.{look_of}
use Rattle.node_service.proofs.Members.{same_players}
use Rattle.node_service.proofs.local_node.LocalNode.is_connected.Goals as goal

pub connected-requires : goal.connected-requires
connected-requires g c = search (rules, same_players (look_of c.args.self.now.station) c.args.seat c.limits.ensures.at_place)

pub returns-else-seat-players : goal.returns-else-seat-players
returns-else-seat-players g c = λ within ready.
    let same : c.players-players.result ≡ (look_of c.args.self.now.station).config.setting.game.players = search rules in
    absurd (omega (arith, same, within))
