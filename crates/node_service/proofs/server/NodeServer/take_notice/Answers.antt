use Rattle.std.proofs.Common.{ℕ, List, [], ◌∷◌, subst}
use Rattle.std.specs.Prelude.{Some}
use Rattle.node_service.specs.Arriving.{OfPeer}
use Rattle.node_service.specs.Going.{Does}
use Rattle.node_service.specs.Serving.{served_of}
use Rattle.node_peers.specs.declared.notice.Notice.TheVariants as notices
use Rattle.node_service.proofs.Keeping.{goes_kept, kept_only}
use Rattle.node_service.proofs.Telling.{no_seat_told}
use Rattle.node_service.proofs.server.NodeServer.take_notice.Goals as goal

pub returns-in-Joined-clause-goes : goal.returns-in-Joined-clause-goes
returns-in-Joined-clause-goes g c = rw c.in-Joined.is (kept_only g.W.Wire (no_seat_told (Some (notices.Joined c.in-Joined.peer c.in-Joined.life))) c.take_joined.ensures.kept)

pub returns-in-Gone-clause-goes : goal.returns-in-Gone-clause-goes
returns-in-Gone-clause-goes g c = rw c.in-Gone.is (goes_kept g.W.Wire c.tell.ensures)

pub returns-in-Refused-clause-goes : goal.returns-in-Refused-clause-goes
returns-in-Refused-clause-goes g c = rw c.in-Refused.is (goes_kept g.W.Wire c.note_refused.ensures)

pub returns-in-Strangers-clause-goes : goal.returns-in-Strangers-clause-goes
returns-in-Strangers-clause-goes g c = rw c.in-Strangers.is (goes_kept g.W.Wire c.tell-in-Strangers.ensures)

pub returns-in-Settings-clause-goes : goal.returns-in-Settings-clause-goes
returns-in-Settings-clause-goes g c = rw c.in-Settings.is (goes_kept g.W.Wire c.note_settings.ensures)

pub returns-in-Unreached-clause-goes : goal.returns-in-Unreached-clause-goes
returns-in-Unreached-clause-goes g c = rw c.in-Unreached.is (goes_kept g.W.Wire c.tell-in-Unreached.ensures)

pub returns-in-Frame-clause-goes : goal.returns-in-Frame-clause-goes
returns-in-Frame-clause-goes g c =
    rw c.in-Frame.is
    (subst (λ (b : List ℕ). Does g.D.Disk (OfPeer c.in-Frame.from b ∷ []) (served_of c.args.self.now) (served_of c.take_frame.new.self)) c.as_slice.ensures.bytes c.take_frame.ensures)
