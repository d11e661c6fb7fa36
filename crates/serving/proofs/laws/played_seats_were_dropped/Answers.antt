use Rattle.serving.proofs.Staying.{were_dropped}
use Rattle.serving.proofs.laws.played_seats_were_dropped.Goals as goal

pub returns : goal.returns
returns g c = were_dropped g.D.Disk
