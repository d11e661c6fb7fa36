use Rattle.std.proofs.Common.{◌≡◌, Some}
use Rattle.peer_codes.proofs.StepParts.{greeted_is}
use Rattle.peer_codes.proofs.step.greeted.Goals as goal

pub returns : goal.returns
returns c =
    let own : c.args.own ≡ Some c.in-Some-own.own = cc in
    let theirs : c.args.theirs ≡ Some c.in-Some.theirs = cc in
    greeted_is _ _ _ _ _ _ _ _ own theirs c.proof.ensures c.ways_of.ensures c.proof-2.ensures
