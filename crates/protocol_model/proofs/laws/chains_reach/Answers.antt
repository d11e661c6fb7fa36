-- By induction on the chain.
use Rattle.protocol_model.proofs.Runs.{chain_reaches, chain_joins}
use Rattle.protocol_model.proofs.laws.chains_reach.Goals as goal

pub returns-clause-reach : goal.returns-clause-reach
returns-clause-reach c dealer n i first world out node run within chain = chain_reaches dealer n first world i out node run within chain

pub returns-clause-join : goal.returns-clause-join
returns-clause-join c = chain_joins
