-- What a file says of a peer's store, and what says nothing, on values.
use Rattle.std.proofs.Common.{◌≡◌, List, ℕ, [], ◌∷◌, slice_index, refl, ap, arith}
use Rattle.std.specs.Prelude.{Some, None, codes}
use Rattle.std.specs.Fmt.{digits}
use Rattle.paxos_wire.specs.declared.ballot.Ballot.{Ballot}
use Rattle.node_runs.specs.KeptPeers.{IsPromised, Says, ballot_text}

abbrev first : Ballot
first = record { round = 42; node = 1 }

as_round_and_node : ballot_text first ≡ codes "42.1"
unfolding digits
as_round_and_node = refl

filled_up : IsPromised (codes "promised 42.1   \n") first
unfolding digits
filled_up = record { spaces = 32 ∷ 32 ∷ []; are = (refl, (refl, tt)); form = refl }

nothing_behind : Says [] None
nothing_behind = refl

-- another word is no such line, and nothing is none
other_word : (ballot : Ballot) → ¬ (IsPromised (codes "promises 42.1 \n") ballot)
other_word ballot is = let byte : 115 ≡ 100 = ap (λ (text : List ℕ). slice_index text 7) is.form in omega (arith, byte)

no_line : (ballot : Ballot) → ¬ (Says [] (Some ballot))
no_line ballot is = let form = is.form in cc
