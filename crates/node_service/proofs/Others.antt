-- One more node that is listed.
use Rattle.std.proofs.Common.{◌≡◌, ℕ, ◌+◌, ◌<◌, ◌≤◌, min, true, false, List, length, take, set, refl, ◌∙◌, arith, length-take}
use Rattle.std.specs.Prelude.{nat_lt, Some}
use Rattle.std.proofs.lemmas.List.{take_more_set}
use Rattle.std.proofs.lemmas.Bool.Decides.{nat_tests}
use Rattle.clockwork.specs.declared.known.Peer.{Peer}
use Rattle.clockwork.specs.declared.limits.TheConstants.{MOST_PEERS}
use Rattle.node_service.specs.Knowing.{with_one}

pub one_listed : (count : ℕ) (all : List Peer) (peer : Peer) → length all ≡ MOST_PEERS → count < MOST_PEERS
    → take (min (count + 1) MOST_PEERS) (set all count peer) ≡ with_one (take (min count MOST_PEERS) all) (Some peer)
one_listed count all peer places within =
    let fewer : min count MOST_PEERS ≡ count = omega arith in
    let more : min (count + 1) MOST_PEERS ≡ count + 1 = omega arith in
    let short : length (take count all) < MOST_PEERS = omega (arith, length-take count all) in
    let here : nat_lt (length (take count all)) MOST_PEERS ≡ true = grind (arith, nat_tests) in
    rw (fewer, more, here) (take_more_set all count peer (omega arith))

-- there is no place
pub none_listed : (count : ℕ) (all : List Peer) (peer : Peer) → length all ≡ MOST_PEERS → MOST_PEERS ≤ count
    → take (min count MOST_PEERS) all ≡ with_one (take (min count MOST_PEERS) all) (Some peer)
none_listed count all peer places beyond =
    let fewer : min count MOST_PEERS ≡ MOST_PEERS = omega arith in
    let full : length (take MOST_PEERS all) ≡ MOST_PEERS = length-take MOST_PEERS all ∙ omega arith in
    let here : nat_lt (length (take MOST_PEERS all)) MOST_PEERS ≡ false = grind (arith, nat_tests) in
    rw (fewer, here) refl
