use Rattle.std.proofs.Common.{◌++◌, true, false, refl}
use Rattle.node_service.specs.Desks.{IsKept}
use Rattle.node_service.specs.Turns.{AreFrames, AreRead, ComeOfPeers}
use Rattle.node_service.proofs.Going.{with_on, with_so, with_does, frame_does}
use Rattle.node_service.proofs.Keeping.{goes_kept, as_it_was}
use Rattle.node_service.proofs.Turns.{frames_on, frames_to_life, all_read, some_read, read_by}
use Rattle.node_service.proofs.server.NodeServer.take_all_of_peers.Goals as goal

pub loop-taken-init : goal.loop-taken-init
loop-taken-init g c =
    let desk = c.args.self.now.desk in
    let kept : IsKept g.W.Wire desk desk = as_it_was g.W.Wire refl in
    frame_does (goes_kept g.W.Wire kept)

pub returns-in-Nothing : goal.returns-in-Nothing
returns-in-Nothing g c = with_so AreFrames (AreRead true) all_read (with_on AreFrames AreFrames AreFrames frames_on (with_does AreFrames c.loop-taken.invariant (goes_kept g.W.Wire c.now-now.ensures.kept)) c.in-Nothing.ensures)

pub returns-in-Last : goal.returns-in-Last
returns-in-Last g c = with_on AreFrames ComeOfPeers (AreRead false) (λ xs ys first then_on. some_read (xs ++ ys) (frames_to_life xs ys first then_on)) (with_does AreFrames c.loop-taken.invariant (goes_kept g.W.Wire c.now-now.ensures.kept)) c.in-Last.ensures

pub loop-taken-preserved : goal.loop-taken-preserved
loop-taken-preserved g c = with_on AreFrames AreFrames AreFrames frames_on (with_does AreFrames c.loop-taken.invariant (goes_kept g.W.Wire c.now-now.ensures.kept)) c.in-One.ensures

pub returns-then-ne : goal.returns-then-ne
returns-then-ne g c = with_so AreFrames (AreRead false) (read_by false) (with_does AreFrames c.loop-taken.invariant (goes_kept g.W.Wire c.now-now.ensures.kept))

pub returns : goal.returns
returns g c = with_so AreFrames (AreRead false) (read_by false) c.loop-taken.invariant
