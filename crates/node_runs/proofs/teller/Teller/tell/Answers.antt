use Rattle.node_runs.proofs.teller.Teller.tell.Goals as goal

pub returns-clause-told : goal.returns-clause-told
returns-clause-told g c = record {
  is_told = c.take-is_told.result;
  one = record { keeps = c.in_ok-keep_life.ensures.kept; noted = c.tell_if.ensures };
  takes = c.take-is_told.ensures.takes;
}
