-- The definitions that readers cite, on values.
use Rattle.std.proofs.Common.{◌≡◌, refl}
use Rattle.std.specs.Prelude.{Some, None}
use Rattle.paxos_wire.specs.declared.ballot.Ballot.{Ballot}
use Rattle.dealer_node.specs.Seeing.{promised_ballot}

-- ---- the ballot that is told as promised

abbrev no_round : Ballot
no_round = record { round = 0; node = 0 }

abbrev second_round : Ballot
second_round = record { round = 2; node = 1 }

none_promised : promised_ballot no_round ≡ None
none_promised = refl

one_promised : promised_ballot second_round ≡ Some second_round
one_promised = refl

-- refuted: the ballot of round 0, told as one that was promised
none_of_round_0 : promised_ballot no_round ≡ Some no_round → ⊥
none_of_round_0 told = absurd (cc)
