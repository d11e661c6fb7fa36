use Rattle.std.proofs.Common.{rules}
use Rattle.match_links.proofs.port_numbers.PortNumbers.place.Goals as goal

pub returns : goal.returns
returns c = search rules
