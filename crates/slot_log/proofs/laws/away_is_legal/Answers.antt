use Rattle.slot_log.proofs.Away.{away_is_never_illegal, next_away_fits, no_other_away_fits}
use Rattle.slot_log.proofs.laws.away_is_legal.Goals as goal

pub returns-clause-never : goal.returns-clause-never
returns-clause-never c = away_is_never_illegal c.allowed_without_fault.ensures c.somebody_may_call.ensures

pub returns-clause-next : goal.returns-clause-next
returns-clause-next c = next_away_fits c.somebody_may_call.ensures

pub returns-clause-only : goal.returns-clause-only
returns-clause-only c = no_other_away_fits
