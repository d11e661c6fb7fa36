use Rattle.std.proofs.Common.{refl}
use Rattle.dealer_kind.proofs.Owning.{first_owns, second_owns, deals}
use Rattle.dealer_kind.proofs.laws.owners_may_widen.Goals as goal

pub returns-clause-same : goal.returns-clause-same
returns-clause-same c setting own other = refl

pub returns-clause-first : goal.returns-clause-first
returns-clause-first c = first_owns

pub returns-clause-second : goal.returns-clause-second
returns-clause-second c = second_owns

pub returns-clause-deals : goal.returns-clause-deals
returns-clause-deals c = deals
