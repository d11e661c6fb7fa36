use Rattle.slot_log.proofs.Ranges.{fits_without_reason}
use Rattle.slot_log.proofs.laws.fits_without_reason.Goals as goal

pub returns : goal.returns
returns c = fits_without_reason c.allowed_without_fault.ensures
