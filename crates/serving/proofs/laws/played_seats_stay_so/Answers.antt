use Rattle.serving.proofs.Staying.{stay_so}
use Rattle.serving.proofs.laws.played_seats_stay_so.Goals as goal

pub returns : goal.returns
returns g c = stay_so g.D.Disk
