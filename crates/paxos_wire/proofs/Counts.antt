-- The counts of a deal's cards: five more than twice the players.
use Rattle.std.proofs.Common.{◌≡◌, ℕ, ◌+◌, ◌-◌, ◌*◌, ◌/◌, ◌%◌, ◌≤◌, true, ◌&&◌, leb, eqb, arith}
use Rattle.std.proofs.lemmas.Bool.{leb-true, eqb-true, and_parts}
use Rattle.paxos_wire.specs.Reading.{is_count}

pub record OfPlayers (count : ℕ) : Type 0 where
  pub least : 9 ≤ count
  pub most : count ≤ 25
  pub odd : count ≡ 2 * ((count - 5) / 2) + 5

pub of_players : (count : ℕ) → is_count count ≡ true → OfPlayers count
of_players count h =
    let a = and_parts (leb 9 count && leb count 25) (eqb (count % 2) 1) h in
    let b = and_parts (leb 9 count) (leb count 25) a.0 in
    let least : 9 ≤ count = leb-true _ _ b.0 in
    let most : count ≤ 25 = leb-true _ _ b.1 in
    let odd : count % 2 ≡ 1 = eqb-true _ _ a.1 in
    record { least = least; most = most; odd = omega arith }
