use Rattle.std.proofs.Common.{◌≡◌, List, ◌∷◌, map, sym, ◌∙◌, subst, rules}
use Rattle.dealer_node.specs.Texts.{Marked}
use Rattle.dealer_node.specs.declared.reader.Reader.{Reader}
use Rattle.dealer_world.specs.Calls.{added_by}
use Rattle.dealer_world.specs.KeptShown.{reader_by}
use Rattle.dealer_world.specs.Recordings.{text_by}
use Rattle.node_wires.specs.Passages.{logged_in}
use Rattle.node_service.specs.Showing.{added, LogGains}
use Rattle.node_service.proofs.Crossing.{lines_on}
use Rattle.node_service.proofs.Showing.{shown_on}
use Rattle.node_service.proofs.desk.show_all.Goals as goal

pub loop-reader-preserved : goal.loop-reader-preserved
loop-reader-preserved g c =
    let now = c.loop-reader in
    let new = c.show.new in
    let reader = reader_by c.in-Some.reader in
    let text = c.in-Some.text.now in
    let rest = c.next.new.self in
    let split : now.reader-iterator ≡ (record { mark = c.in-Some.reader; text = text }) ∷ rest = search rules in
    record {
      can = tt;
      finite = tt;
      log = λ failed log gains.
          now.invariant.log failed log
          (subst (λ (m : List (Marked Reader)). LogGains now.log_failed failed (added (map text_by m)) (logged_in (g.W.Wire.passed now.wire)) log) (sym split)
          (shown_on now.log_failed new.log_failed failed (added_by reader text) (added (map text_by rest)) (logged_in (g.W.Wire.passed now.wire)) (logged_in (g.W.Wire.passed new.wire)) log
          c.show.ensures.log gains));
      seats = c.show.ensures.seats ∙ now.invariant.seats;
      lines = lines_on (g.W.Wire.passed c.args.wire.now) (g.W.Wire.passed now.wire) (g.W.Wire.passed new.wire) now.invariant.lines c.show.ensures.lines;
    }
