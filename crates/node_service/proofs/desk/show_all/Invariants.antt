use Rattle.std.proofs.Common.{◌≡◌, ℕ, Bool, List, map}
use Rattle.dealer_world.specs.Recordings.{text_by}
use Rattle.node_wires.specs.Passages.{logged_in, seats_in}
use Rattle.node_service.specs.Showing.{added, LogGains}
use Rattle.node_service.specs.Crossing.{KeepsLines}
use Rattle.node_service.proofs.desk.show_all.Given as goal

-- what the log gains from here on of the texts that are left makes up what it is to gain of all
abbrev pub invariant-loop-reader : goal.invariant-loop-reader
invariant-loop-reader g l = record {
  can : (goal.iterator-loop-reader g).can_next l.reader-iterator;
  finite : (goal.iterator-loop-reader g).is_finite l.reader-iterator;
  log : (failed : Bool) (log : List ℕ) → LogGains l.log_failed failed (added (map text_by l.reader-iterator)) (logged_in (g.W.Wire.passed l.wire)) log
      → LogGains l.fn.log_failed failed (added (map text_by l.fn.made.shown)) (logged_in (g.W.Wire.passed l.fn.wire)) log;
  seats : seats_in (g.W.Wire.passed l.wire) ≡ seats_in (g.W.Wire.passed l.fn.wire);
  lines : KeepsLines (g.W.Wire.passed l.fn.wire) (g.W.Wire.passed l.wire);
}
