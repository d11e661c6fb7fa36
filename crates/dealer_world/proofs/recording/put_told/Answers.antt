use Rattle.std.proofs.Common.{◌≡◌, ◌∙◌, ◌++◌, ◌∷◌, map, ap, sym, rules}
use Rattle.dealer_world.specs.Records.{logged_by, log_of}
use Rattle.dealer_world.specs.Views.{piece_of}
use Rattle.dealer_world.specs.KeptShown.{piece_by, reader_by}
use Rattle.dealer_world.specs.Recordings.{text_by}
use Rattle.dealer_world.proofs.Logging.{moved_on}
use Rattle.dealer_world.proofs.recording.put_told.Goals as goal

pub loop-reader-preserved : goal.loop-reader-preserved
loop-reader-preserved c =
    let at = c.args.at in
    let of = c.args.of in
    let now = c.loop-reader.log.items in
    let after = c.put_logged.new.log.items in
    let piece = piece_by at.node at.start c.in-Some.reader c.in-Some.text.now in
    let split : c.loop-reader.reader-iterator ≡ (record { mark = c.in-Some.reader; text = c.in-Some.text.now }) ∷ c.next.new.self = search rules in
    let added : after ≡ now ++ logged_by (reader_by c.in-Some.reader) piece of.node of.start = search rules in (
      tt,
      tt,
      moved_on piece (map (piece_of at.node at.start) (map text_by c.next.new.self)) of.node of.start now after added
          ∙ (ap (λ shown. now ++ log_of (map (piece_of at.node at.start) (map text_by shown)) of.node of.start) (sym split) ∙ c.loop-reader.invariant.2),
    )
