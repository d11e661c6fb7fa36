use Rattle.std.proofs.Common.{rules}
use Rattle.serving.proofs.server.Server.close_turn.Goals as goal

pub returns-in_ok-show-in-Ok-clause-closes : goal.returns-in_ok-show-in-Ok-clause-closes
returns-in_ok-show-in-Ok-clause-closes g c =
    let given = c.show.ensures.given in
    rw c.in-Ok.is (record {
      passes = record { given = given.given; passed = given.passed; gives = given.gives };
      ends = (c.show.ensures.uncalled.kept, given.leave);
      all_given = search rules;
      tells = search rules;
    })

pub returns-in-Err-clause-closes : goal.returns-in-Err-clause-closes
returns-in-Err-clause-closes g c = rw c.in-Err.is c.close_refused_turn.ensures.closes
