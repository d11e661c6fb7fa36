-- Names by position and by seat: each order tells the other.
use Rattle.std.proofs.Common.{◌≡◌, ℕ, ◌+◌, ◌-◌, ◌*◌, ◌/◌, ◌%◌, ◌<◌, ◌≤◌, ◌⊎◌, List, [], length, map, take, get_or, sym, ◌∙◌, ap, arith, inl, inr}
use Rattle.std.specs.List.{range_with_len}
use Rattle.std.proofs.lemmas.Bool.{cases_lt}
use Rattle.std.proofs.lemmas.List.{get_or-take, length-take-le}
use Rattle.std.proofs.lemmas.List.FromFn.{get_or-map-range_with_len, fill_by_all}
use Rattle.std.proofs.Math.Nat.{mod-lt, mod-eq_of_lt, add-mul-mod_self_left, div-add-mod}
use Rattle.matchstate.specs.View.{seat_of, position_of}
use Rattle.match_log.specs.Names.{names_by_position}

-- a number that is so many times n more than a small one
small_rest : (n times number small : ℕ) → small < n → number ≡ small + n * times → number % n ≡ small
small_rest n times number small below is = ap (λ k. k % n) is ∙ add-mul-mod_self_left small n times ∙ mod-eq_of_lt below

module _ (n value : ℕ) (some : 1 ≤ n) where
  rest_below : value % n < n
  rest_below = mod-lt value (omega arith)

  parts : n * (value / n) + value % n ≡ value
  parts = div-add-mod value n

  again : value % n % n ≡ value % n
  again = mod-eq_of_lt rest_below

  -- who sits at a position of this hand, without the whole rounds of the table
  seat_is : (position : ℕ) → position < n → ((position + value % n < n) × (seat_of n value position ≡ position + value % n)) ⊎ ((n ≤ position + value % n) × (seat_of n value position + n ≡ position + value % n))
  seat_is position below =
      let h : ℕ = value % n in
      let q : ℕ = value / n in
      let h_below : h < n = rest_below in
      let whole : n * q + h ≡ value = parts in
      elim (cases_lt (position + h) n) [
        | inl less ↦ inl (less, small_rest n q (position + value) (position + h) less (omega (arith, whole)))
        | inr more ↦
            let over : ℕ = position + h - n in
            let over_below : over < n = omega arith in
            let next : position + value ≡ over + n * (q + 1) = omega (arith, whole) in
            let seat : seat_of n value position ≡ over = small_rest n (q + 1) (position + value) over over_below next in
            inr (more, omega (arith, seat))
      ]

  -- the position of who sits at a position
  pub position_of_seat : (position : ℕ) → position < n → position_of n (value % n) (seat_of n value position) ≡ position
  position_of_seat position below =
      let h_below : value % n < n = rest_below in
      elim (seat_is position below) [
        | inl less ↦
            let seat : seat_of n value position ≡ position + value % n = less.1 in
            ap (λ k. (seat_of n value position + (n - k)) % n) again
            ∙ small_rest n 1 (seat_of n value position + (n - value % n)) position below (omega (arith, seat))
        | inr more ↦
            let seat : seat_of n value position + n ≡ position + value % n = more.1 in
            ap (λ k. (seat_of n value position + (n - k)) % n) again
            ∙ small_rest n 0 (seat_of n value position + (n - value % n)) position below (omega (arith, seat))
      ]

  position_is : (seat : ℕ) → seat < n → ((seat < value % n) × (position_of n (value % n) seat ≡ seat + (n - value % n))) ⊎ ((value % n ≤ seat) × (position_of n (value % n) seat ≡ seat - value % n))
  position_is seat below =
      let h_below : value % n < n = rest_below in
      elim (cases_lt seat (value % n)) [
        | inl less ↦ inl (less, ap (λ k. (seat + (n - k)) % n) again ∙ mod-eq_of_lt (omega arith))
        | inr more ↦ inr (more, ap (λ k. (seat + (n - k)) % n) again ∙ small_rest n 1 (seat + (n - value % n)) (seat - value % n) (omega arith) (omega arith))
      ]

  -- who sits at the position of a seat
  pub seat_of_position : (seat : ℕ) → seat < n → seat_of n value (position_of n (value % n) seat) ≡ seat
  seat_of_position seat below =
      let h_below : value % n < n = rest_below in
      let q : ℕ = value / n in
      let whole : n * q + value % n ≡ value = parts in
      elim (position_is seat below) [
        | inl less ↦
            let place : position_of n (value % n) seat ≡ seat + (n - value % n) = less.1 in
            small_rest n (q + 1) (position_of n (value % n) seat + value) seat below (omega (arith, place, whole))
        | inr more ↦
            let place : position_of n (value % n) seat ≡ seat - value % n = more.1 in
            small_rest n q (position_of n (value % n) seat + value) seat below (omega (arith, place, whole))
      ]

  position_within : (hand seat : ℕ) → position_of n hand seat < n
  position_within hand seat = mod-lt (seat + (n - hand % n)) (omega arith)

  seat_within : (position : ℕ) → seat_of n value position < n
  seat_within position = mod-lt (position + value) (omega arith)

  module _ (by_position : List (List ℕ)) (places : n ≤ length by_position) where
    -- names put into the order of seats say by position what they were
    pub seats_say : (seats : List (List ℕ)) → seats ≡ map (λ seat. get_or by_position (position_of n (value % n) seat) []) (range_with_len 0 n) → take n by_position ≡ names_by_position n value seats
    seats_say seats told =
        let count : length (take n by_position) ≡ n = length-take-le n by_position places in
        fill_by_all (λ position. get_or seats (seat_of n value position) []) (take n by_position) n [] count (λ position below.
        get_or-take n by_position position [] below
        ∙ sym (ap (λ (names : List (List ℕ)). get_or names (seat_of n value position) []) told
        ∙ get_or-map-range_with_len (λ seat. get_or by_position (position_of n (value % n) seat) []) 0 n (seat_of n value position) (seat_of n value position) [] (seat_within position) (omega arith)
        ∙ ap (λ p. get_or by_position p []) (position_of_seat position below)))

    -- names of which these are the names by position are what they are in the order of seats
    pub seats_are : (seats : List (List ℕ)) → length seats ≡ n → take n by_position ≡ names_by_position n value seats → map (λ seat. get_or by_position (position_of n (value % n) seat) []) (range_with_len 0 n) ≡ seats
    seats_are seats count said =
        sym (fill_by_all (λ seat. get_or by_position (position_of n (value % n) seat) []) seats n [] count (λ seat below.
        let place : ℕ = position_of n (value % n) seat in
        let within : place < n = position_within (value % n) seat in
        sym (sym (get_or-take n by_position place [] within)
        ∙ ap (λ (names : List (List ℕ)). get_or names place []) said
        ∙ get_or-map-range_with_len (λ position. get_or seats (seat_of n value position) []) 0 n place place [] within (omega arith)
        ∙ ap (λ s. get_or seats s []) (seat_of_position seat below))))
