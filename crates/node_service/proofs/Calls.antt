-- How often the node was called, by what passed.
use Rattle.std.proofs.Common.{◌≡◌, ℕ, ◌+◌, List, [], ◌∷◌, ◌++◌, length, refl, ap, arith}
use Rattle.std.proofs.lemmas.List.{length-append}
use Rattle.node_wires.specs.Passages.{Passage, Called, calls_in}
use Rattle.node_peers.specs.Adding.{AreOfPeers, Adds}
use Rattle.node_seats.specs.Others as seats
use Rattle.node_status.specs.Asking as status
use Rattle.stations.specs.Deeds.{Deed}

pub calls_both : (xs ys : List Passage) → calls_in (xs ++ ys) ≡ calls_in xs + calls_in ys
calls_both [] ys = omega arith
calls_both (x ∷ xs) ys = let e = calls_both xs ys in omega (arith, e)

-- what passed was no call
pub calls_kept : (old new more : List Passage) → new ≡ old ++ more → calls_in more ≡ 0 → calls_in new ≡ calls_in old
calls_kept old new more e none =
    let all = ap calls_in e in
    let both = calls_both old more in
    omega (arith, all, both, none)

none_of_peers : (ps : List Passage) → AreOfPeers ps → calls_in ps ≡ 0
none_of_peers [] are = refl
none_of_peers (Called ∷ ps) are = absurd are.0
none_of_peers (other ∷ ps) are = let e = none_of_peers ps are.1 in omega (arith, e)

none_of_bots : (ps : List Passage) → seats.AreOfBots ps → calls_in ps ≡ 0
none_of_bots [] are = refl
none_of_bots (Called ∷ ps) are = absurd are.0
none_of_bots (other ∷ ps) are = let e = none_of_bots ps are.1 in omega (arith, e)

none_of_askers : (ps : List Passage) → status.AreOfAskers ps → calls_in ps ≡ 0
none_of_askers [] are = refl
none_of_askers (Called ∷ ps) are = absurd are.0
none_of_askers (other ∷ ps) are = let e = none_of_askers ps are.1 in omega (arith, e)

pub by_peers : (old new wired_old wired_new : List Passage) → Adds old new wired_old wired_new → calls_in wired_new ≡ calls_in wired_old
by_peers old new wired_old wired_new adds = calls_kept wired_old wired_new adds.more adds.wired (none_of_peers adds.more adds.of_peers)

pub by_bots : (old new : List Passage) → seats.KeepsOthers old new → calls_in new ≡ calls_in old
by_bots old new keeps = calls_kept old new keeps.more keeps.passed (none_of_bots keeps.more keeps.of_bots)

pub by_askers : (old new : List Passage) → status.KeepsOthers old new → calls_in new ≡ calls_in old
by_askers old new keeps = calls_kept old new keeps.more keeps.passed (none_of_askers keeps.more keeps.of_askers)

-- ---- beside what was done

pub and_none : (before after : ℕ) → after ≡ before → after ≡ before + 0
and_none before after same = omega (arith, same)

pub calls_on : (a b c : ℕ) (earlier later : List Deed) → b ≡ a + length earlier → c ≡ b + length later → c ≡ a + length (later ++ earlier)
calls_on a b c earlier later first then_on = let both = length-append later earlier in omega (arith, first, then_on, both)

-- where so much was put down before
pub calls_put : (old new more last : List Passage) → new ≡ old ++ more → calls_in last ≡ calls_in new + 0 → calls_in last ≡ calls_in old + calls_in more
calls_put old new more last e then_on =
    let all = ap calls_in e in
    let both = calls_both old more in
    omega (arith, all, both, then_on)
