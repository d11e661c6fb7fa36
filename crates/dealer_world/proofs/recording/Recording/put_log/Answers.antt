use Rattle.std.proofs.Common.{◌≡◌, ◌∙◌, ◌++◌, Some, map, ap, sym, rules}
use Rattle.std.proofs.lemmas.Result.{on_ok_weaker}
use Rattle.dealer_world.specs.Records.{log_of}
use Rattle.dealer_world.specs.Views.{piece_of}
use Rattle.dealer_world.specs.Recordings.{Recorded, whole, text_by}
use Rattle.dealer_world.proofs.Logging.{joined}
use Rattle.dealer_world.proofs.recording.Recording.put_log.Goals as goal

pub returns-in-Some : goal.returns-in-Some
returns-in-Some c =
    let r = c.self.inside in
    let at = c.in-Some.at in
    let of = c.args.of in
    let told = map (piece_of at.node at.start) (map text_by c.shown.result) in
    let old = c.args.log.now.items in
    let now = c.put_kept.new.log.items in
    let after = c.put_told.new.log.items in
    let kept : now ≡ old ++ log_of r.pieces.pieces of.node of.start = search rules in
    let is : r.last_of ≡ Some at = search rules in
    let shown : r.pieces.pieces ++ told ≡ r.pieces.pieces ++ map (piece_of at.node at.start) (map text_by r.last.shown) =
    ap (λ shown. r.pieces.pieces ++ map (piece_of at.node at.start) (map text_by shown)) c.shown.ensures in
    let all : r.pieces.pieces ++ told ≡ c.args.self.now.all.shown =
    shown
    ∙ (sym (ap (λ o. (whole r.frames.frames r.arrivals.arrivals r.starts.begun r.pieces.pieces r.last o).shown) is)
    ∙ ap (λ (k : Recorded). k.all.shown) c.self.view_is) in
    on_ok_weaker c.put_told.result
    (λ added. joined r.pieces.pieces told of.node of.start old now after kept added ∙ ap (λ pieces. old ++ log_of pieces of.node of.start) all)
    c.put_told.ensures
