use Rattle.std.proofs.Common.{refl}
use Rattle.relay_runs.proofs.Hearing.{heard_begun, long_of}
use Rattle.relay_runs.proofs.Keeping.{kept_quiet}
use Rattle.relay_runs.proofs.desk.Desk.pass_unended.Goals as goal

pub returns-then-is_first-clause-stays : goal.returns-then-is_first-clause-stays
returns-then-is_first-clause-stays c = record { kept = λ passed. kept_quiet _ _ passed refl refl refl refl refl refl (λ off. off) (heard_begun _ _ _ refl refl refl c.clear.ensures.waiting refl refl (long_of _ _ c.waiting.ensures (c.begins_too_long.ensures.long c.if-not-begins_too_long.false)) c.requires) }

pub returns-else-is_first-clause-stays : goal.returns-else-is_first-clause-stays
returns-else-is_first-clause-stays c = record { kept = λ passed. kept_quiet _ _ passed refl refl refl refl refl refl (λ off. off) (heard_begun _ _ _ refl refl refl c.clear.ensures.waiting refl refl (long_of _ _ c.waiting.ensures (c.begins_too_long.ensures.long c.if-not-begins_too_long.false)) c.requires) }
