use Rattle.std.proofs.Common.{◌≡◌, ◌≤◌, ◌++◌, Some, length, slice_get, rules, arith}
use Rattle.dealer_world.specs.Records.{logged_by}
use Rattle.dealer_world.specs.KeptShown.{piece_by, reader_by}
use Rattle.dealer_world.proofs.Logging.{next_piece}
use Rattle.dealer_world.proofs.recording.put_kept.Goals as goal
use Rattle.dealer_world.proofs.recording.put_kept.Goals.{in-Some+in_ok-put_logged, in_default}

pub loop-number-preserved : goal.loop-number-preserved
loop-number-preserved c =
    let pieces = c.args.pieces.now.pieces in
    let number = c.loop-number.number in
    let of = c.args.of in
    elim c.match-get.branch [
      | in-Some+in_ok-put_logged w ↦
          let shown = w.in-Some.piece in
          let piece = piece_by shown.node shown.start shown.reader shown.text.now in
          let at : slice_get pieces number ≡ Some piece = search rules in
          let added : w.put_logged.new.log.items ≡ c.loop-number.log.items ++ logged_by (reader_by shown.reader) piece of.node of.start = search rules in
          rw w.log-is (next_piece pieces number piece of.node of.start c.args.log.now.items c.loop-number.log.items w.put_logged.new.log.items at c.loop-number.invariant added)
      | in_default w ↦
          let past : length pieces ≤ number = search rules in
          absurd (omega (arith, past, c.loop-number-test.true, c.len-number-end.ensures))
    ]
