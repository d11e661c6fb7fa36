use Rattle.std.proofs.Common.{refl}
use Rattle.node_peers.specs.Leaving.{is_told, is_left_out, is_set_aside}
use Rattle.node_peers.proofs.peers.Peers.pass_frame.Goals as goal

pub returns-in-Told-clause-passes : goal.returns-in-Told-clause-passes
returns-in-Told-clause-passes c = is_told refl c.in-Told.ensures.1 refl

pub returns-in-LeftOut-clause-passes : goal.returns-in-LeftOut-clause-passes
returns-in-LeftOut-clause-passes c = is_left_out c.args.from c.args.frame refl c.in-LeftOut.ensures refl refl

pub returns-in-SetAside-clause-passes : goal.returns-in-SetAside-clause-passes
returns-in-SetAside-clause-passes c = is_set_aside c.args.from c.args.frame refl c.in-SetAside.ensures refl c.set_aside.ensures.frames
