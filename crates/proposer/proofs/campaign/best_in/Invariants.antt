use Rattle.std.proofs.Common.{◌≡◌, drop}
use Rattle.proposer.specs.Told.{best_in}
use Rattle.proposer.proofs.campaign.best_in.Given as goal

abbrev pub invariant-loop-entry : goal.invariant-loop-entry
invariant-loop-entry l = best_in l.best l.slot (drop l.entry-index l.entries) ≡ best_in l.fn.best l.slot l.entries
