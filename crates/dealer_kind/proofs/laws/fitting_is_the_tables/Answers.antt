use Rattle.dealer_kind.proofs.Fitting.{fitting}
use Rattle.dealer_kind.proofs.laws.fitting_is_the_tables.Goals as goal

pub returns : goal.returns
returns c = fitting c.fits_without_reason.ensures
