use Rattle.std.proofs.Common.{◌≡◌, ℕ, List, [], length, map, take, get_or, Option, sym, ap, ◌∙◌, subst, arith}
use Rattle.std.specs.List.{range_with_len}
use Rattle.std.specs.Str.Parse.{digits_value}
use Rattle.matchstate.specs.View.{position_of}
use Rattle.match_log.specs.Names.{AreNames}
use Rattle.match_log.specs.Reading.{MayBeSeats}
use Rattle.match_log.proofs.Seating.{seats_say, seats_are}
use Rattle.match_log.proofs.seats.seats.Goals as goal
use Rattle.match_log.proofs.seats.seats.Goals.{in-None, in-Some}

pub returns-then-fit-clause-found : goal.returns-then-fit-clause-found
returns-then-fit-clause-found c =
    let players : ℕ = c.args.players in
    let value : ℕ = digits_value 10 c.args.number.now in
    let by_position : List (List ℕ) = c.args.by_position.now in
    let places : length by_position ≡ 10 = c.told-by_position in
    seats_say players value (omega (arith, c.requires.least)) by_position (omega (arith, c.requires.most, places)) (take players c.by_seat-seats.result)
    (c.by_seat-seats.ensures ∙ ap (λ (hand : ℕ). map (λ seat. get_or by_position (position_of players hand seat) []) (range_with_len 0 players)) c.remainder.ensures.value)

pub returns-else-fit-clause-only : goal.returns-else-fit-clause-only
returns-else-fit-clause-only c =
    λ seats count said may.
    let players : ℕ = c.args.players in
    let value : ℕ = digits_value 10 c.args.number.now in
    let by_position : List (List ℕ) = c.args.by_position.now in
    let places : length by_position ≡ 10 = c.told-by_position in
    let same : take players c.by_seat-seats.result ≡ seats =
    c.by_seat-seats.ensures ∙ ap (λ (hand : ℕ). map (λ seat. get_or by_position (position_of players hand seat) []) (range_with_len 0 players)) c.remainder.ensures.value
    ∙ seats_are players value (omega (arith, c.requires.least)) by_position (omega (arith, c.requires.most, places)) seats count said in
    elim c.match-known.branch [
      | in-None w ↦
          let names : AreNames players seats = subst (λ (known : Option (List (List ℕ))). MayBeSeats players known seats) w.in-None.is may in
          let passed = w.are_names-fit.ensures.1 (subst (AreNames players) (sym same) names) in
          let fit = w.fit-is in
          let failed = c.if-fit.false in
          cc
      | in-Some w ↦
          let known = subst (λ (known : Option (List (List ℕ))). MayBeSeats players known seats) w.in-Some.is may in
          let passed = w.are_same-fit.ensures.1 (same ∙ known) in
          let fit = w.fit-is in
          let failed = c.if-fit.false in
          cc
    ]
