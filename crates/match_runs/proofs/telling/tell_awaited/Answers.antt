use Rattle.std.proofs.Common.{sym, ◌∙◌}
use Rattle.dealer_world.specs.Viewing.{view_of}
use Rattle.match_runs.specs.Notes.{names_in}
use Rattle.match_runs.proofs.Waiting.{awaited_noted}
use Rattle.match_runs.proofs.telling.tell_awaited.Goals as goal

pub returns-in-Some-name_of : goal.returns-in-Some-name_of
returns-in-Some-name_of g c =
    awaited_noted (names_in (view_of c.args.cluster.now)) c.args.ports c.args.awaited c.in-Some.seat c.in-Some.node _ c.in-Some-name_of.name _ _ c.in-Some.is
    (rw c.config.ensures at (sym c.name_of.ensures ∙ c.in-Some-name_of.is)) c.port.ensures c.tell_note.ensures
