use Rattle.std.proofs.lemmas.Bool.{false≢true}
use Rattle.seat_relay.proofs.mending.nearest_raise.Goals as goal

pub returns-in_err-digits-clause-none : goal.returns-in_err-digits-clause-none
returns-in_err-digits-clause-none c = λ none amount raise may. false≢true (c.in_err-digits.ensures.only amount raise)
