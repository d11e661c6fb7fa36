-- What a bot has whose relay ends since the match is over.
use Rattle.std.proofs.Common.{◌≡◌, ℕ, Bool, true, false, List, [], ◌++◌, append-nil, ap, sym, ◌∙◌}
use Rattle.node_wires.specs.declared.line.Line.TheVariants.{Seat}
use Rattle.node_wires.specs.Passages.{wrote_over}
use Rattle.seat_relay.specs.Relaying.{Line}
use Rattle.seat_relay.specs.Laws.{IsAllOf, OverIsTheEnd}
use Rattle.relay_runs.specs.Said.{bytes_of_lines, lines_given}
use Rattle.relay_runs.specs.Ending.{IsWritten, WholeMatchesAreWritten}
use Rattle.relay_runs.proofs.Courses.{courses_explain}

-- with nothing that waits all was written
nothing_waits : (wrote waits bytes : List ℕ) → waits ≡ [] → wrote ++ waits ≡ bytes → wrote ≡ bytes
nothing_waits wrote waits bytes none is = sym (append-nil wrote) ∙ (ap (λ (l : List ℕ). wrote ++ l) (sym none) ∙ is)

written_of : (newest : Bool) (bytes : List ℕ) (got lines : List Line) → bytes ≡ bytes_of_lines got → IsAllOf newest got lines → IsWritten newest bytes lines
written_of true bytes got lines is all = (all.before, got, all.joined, is)
written_of false bytes got lines is all = is ∙ ap bytes_of_lines all

pub whole_matches_are_written : OverIsTheEnd → WholeMatchesAreWritten
whole_matches_are_written law desk passed lines course over up parts closes =
    written_of desk.relay.mode.newest (wrote_over passed (Seat 0)) (lines_given desk.relay) lines
    (nothing_waits (wrote_over passed (Seat 0)) desk.to_bot.waiting (bytes_of_lines (lines_given desk.relay)) over.written (courses_explain desk passed course).said.bot)
    (law lines desk.relay.mode desk.relay.nodes desk.relay.events up parts closes over.over)
