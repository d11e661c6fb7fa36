use Rattle.std.proofs.Common.{◌++◌, ◌∙◌, ap, sym, append_assoc, arith, take}
use Rattle.std.specs.List.{flat_map}
use Rattle.std.proofs.lemmas.Option.{slice_get_within}
use Rattle.dealer_world.specs.Viewing.{view_of}
use Rattle.dealer_world.specs.KeptShown.{piece_by}
use Rattle.playing.specs.Playing.{header_text}
use Rattle.playing.proofs.Happening.{header_more}
use Rattle.playing.proofs.playing.put_headers.Goals as goal

pub loop-number-preserved : goal.loop-number-preserved
loop-number-preserved c =
    let shown = (view_of c.args.cluster.now).all.shown in
    let i = c.loop-number.number in
    let piece = piece_by c.in-Some.piece.node c.in-Some.piece.start c.in-Some.piece.reader c.in-Some.piece.text.now in
    let within = slice_get_within shown i piece c.in-Some.ensures.found in
    let before = flat_map header_text (take i shown) in (
      omega (arith, within),
      c.in_ok-put_piece-in-Some.ensures ∙ ap (λ z. z ++ header_text piece) c.loop-number.invariant.1 ∙ append_assoc c.args.out.now.items before (header_text piece)
          ∙ ap (λ z. c.args.out.now.items ++ z) (sym (header_more shown i piece c.in-Some.ensures.found)),
    )
