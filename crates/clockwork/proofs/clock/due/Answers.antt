use Rattle.std.proofs.Common.{sym, ◌∙◌}
use Rattle.clockwork.proofs.Ticking.{tick_by, why_it_ticks, long_ago, later_than_now}
use Rattle.clockwork.proofs.clock.due.Goals as goal

pub returns-clause-quorate : goal.returns-clause-quorate
returns-clause-quorate c = λ is. (tick_by c.args.known.now (sym c.due_of.ensures ∙ is)).0

pub returns-clause-reason : goal.returns-clause-reason
returns-clause-reason c = λ is. why_it_ticks c.args.known.now (sym c.due_of.ensures ∙ is)

pub returns-clause-spaced : goal.returns-clause-spaced
returns-clause-spaced c = λ is. long_ago c.args.known.now.time c.args.known.now.ticks (tick_by c.args.known.now (sym c.due_of.ensures ∙ is)).1.1

pub returns-clause-later : goal.returns-clause-later
returns-clause-later c = λ until is. later_than_now c.args.known.now until (sym c.due_of.ensures ∙ is)
