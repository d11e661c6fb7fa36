use Rattle.joined_lines.proofs.Servers.{servers_tell_one_match}
use Rattle.joined_lines.proofs.laws.servers_tell_one_match.Goals as goal

pub returns : goal.returns
returns g c = servers_tell_one_match g.D.Disk c.deaths_are_deeds.ensures.rest c.deaths_are_deeds.ensures.inside c.relays_tell_one_match.ensures
