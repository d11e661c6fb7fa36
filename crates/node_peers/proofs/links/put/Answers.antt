use Rattle.std.proofs.Common.{Some, arith}
use Rattle.node_peers.proofs.Fitting.{fits_begun, fits_beside}
use Rattle.node_peers.proofs.links.put.Goals as goal

pub returns-then-place-len : goal.returns-then-place-len
returns-then-place-len c = λ own sent passed_old passed_new fresh e. fits_begun own sent c.args.links.now.items c.args.place (Some c.args.link) passed_old passed_new (omega arith) fresh e

pub returns-else-place-len : goal.returns-else-place-len
returns-else-place-len c = λ own sent passed_old passed_new fresh e. fits_beside own sent c.args.links.now.items c.args.place passed_old passed_new (omega arith) e
