use Rattle.std.proofs.Common.{refl, ap}
use Rattle.seat_relay.specs.Relaying.{Story}
use Rattle.relay_runs.proofs.Keeping.{course_begins}
use Rattle.relay_runs.proofs.desk.Desk.new.Goals as goal

pub returns-clause-course : goal.returns-clause-course
returns-clause-course c =
    course_begins _ (ap (λ (r : Story). r.events) c.in_ok-new.ensures) c.new-2.ensures refl refl c.new-3.ensures c.in_ok-empty_queues.ensures c.in_ok-empty_queues-2.ensures c.in_ok-none_dialled.ensures
