use Rattle.std.proofs.Common.{◌≡◌, ◌≤◌, ◌-◌, ◌∙◌, ap, sym, Some, length, rules}
use Rattle.std.specs.Prelude.{slice_get}
use Rattle.dealer_world.specs.Recordings.{Recorded, whole}
use Rattle.dealer_world.proofs.Finding.{shown_at}
use Rattle.dealer_world.proofs.recording.Recording.piece.Goals as goal

pub returns-clause-found : goal.returns-clause-found
returns-clause-found c =
    let r = c.self.inside in
    let past : length r.pieces.pieces ≤ c.args.number = search rules in
    let at : slice_get r.last.shown (c.args.number - length r.pieces.pieces) ≡ Some (record { mark = c.in_ok-reader.reader; text = c.in_ok-reader.text.now }) = search rules in
    let is : r.last_of ≡ Some c.in_ok-at.at = search rules in
    sym (ap (λ (k : Recorded). slice_get k.all.shown c.args.number) c.self.view_is)
    ∙ (ap (λ o. slice_get (whole r.frames.frames r.arrivals.arrivals r.starts.begun r.pieces.pieces r.last o).shown c.args.number) is
    ∙ shown_at r.pieces.pieces c.in_ok-at.at.node c.in_ok-at.at.start r.last.shown c.args.number c.in_ok-reader.reader c.in_ok-reader.text.now past at)
