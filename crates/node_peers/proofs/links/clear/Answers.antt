use Rattle.std.proofs.Common.{arith}
use Rattle.node_peers.proofs.Fitting.{fits_closed}
use Rattle.node_peers.proofs.links.clear.Goals as goal

pub returns-then-place-len : goal.returns-then-place-len
returns-then-place-len c = λ own sent talks fits. fits_closed own sent talks c.args.links.now.items c.args.place (omega arith) fits
