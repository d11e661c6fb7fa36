use Rattle.std.proofs.Common.{ap, length, arith}
use Rattle.dealer_world.specs.Rows.{Kept}
use Rattle.dealer_world.proofs.Cutting.{length_cut}
use Rattle.dealer_world.proofs.rows.Rows.len.Goals as goal

pub returns : goal.returns
returns g c =
    let rows = ap (λ (k : Kept g.row.T.Denot). length k.rows) c.self.view_is in
    let size = length_cut 0 c.self.inside.entries.items c.self.inside.bytes.items in
    omega (arith, rows, size, c.self.inside.entries.ok.0, c.len.ensures)
