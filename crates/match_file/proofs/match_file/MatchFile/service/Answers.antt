use Rattle.match_file.proofs.match_file.MatchFile.service.Goals as goal

pub returns-in_default-clause-fault : goal.returns-in_default-clause-fault
returns-in_default-clause-fault c = ((c.in_ok-stores.stores.now, c.in_ok-stores.ensures.found), c.in_default.ensures)

pub returns-in_default-port-clause-fault : goal.returns-in_default-port-clause-fault
returns-in_default-port-clause-fault c = ((c.in_ok-stores.stores.now, c.in_ok-stores.ensures.found), (c.in-Some.logs.now, c.in-Some.ensures), c.in_default-port.ensures)

pub returns-in_default-absent-clause-fault : goal.returns-in_default-absent-clause-fault
returns-in_default-absent-clause-fault c = (
  (c.in_ok-stores.stores.now, c.in_ok-stores.ensures.found),
  (c.in-Some.logs.now, c.in-Some.ensures),
  (c.in-Some-port.port, c.in-Some-port.ensures),
  (c.in_ok-outages.outages.items, c.in_ok-outages.ensures),
  c.in_default-absent.ensures,
)
