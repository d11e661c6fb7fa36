use Rattle.std.proofs.Common.{refl}
use Rattle.node_status.specs.Given.{given_of}
use Rattle.node_status.proofs.Passing.{closed_behind}
use Rattle.node_status.proofs.asker.Asker.serve.Goals as goal

pub returns-then-not-goes_on-clause-wrote : goal.returns-then-not-goes_on-clause-wrote
returns-then-not-goes_on-clause-wrote g c =
    closed_behind c.args.place (given_of c.args.self.now) (given_of c.write_some-goes_on.new.self) _ _ _ _ c.write_some-goes_on.ensures c.close.ensures refl refl refl
