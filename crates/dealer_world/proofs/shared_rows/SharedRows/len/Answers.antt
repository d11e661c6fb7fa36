use Rattle.std.proofs.Common.{ap, length, arith}
use Rattle.std.proofs.lemmas.List.{length-map}
use Rattle.dealer_world.specs.Rows.{Kept}
use Rattle.dealer_world.specs.SharedRows.{row_by}
use Rattle.dealer_world.proofs.shared_rows.SharedRows.len.Goals as goal

pub returns : goal.returns
returns g c =
    let rows = ap (λ (k : Kept g.row.T.Denot). length k.rows) c.self.view_is in
    let size = length-map c.self.inside.entries.items (row_by c.self.inside.texts.rows) in
    omega (arith, rows, size, c.self.inside.entries.ok.0, c.len.ensures)
