use Rattle.std.proofs.lemmas.Result.{on_ok_weaker}
use Rattle.node_runs.proofs.looking.answers_its_start.Goals as goal

pub returns : goal.returns
returns g c = record {
  answer = λ honest. record {
    of_start = c.start.ensures.faults;
    found = on_ok_weaker c.start.result (λ finds. (finds.held, finds.stands)) (c.start.ensures.found honest c.requires.down);
    refused = c.start.ensures.refused honest;
  };
}
