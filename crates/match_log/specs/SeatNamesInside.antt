-- What the fields of names for seats keep, and that they are got back from the list of the names.
use Rattle.std.specs.Prelude.{◌≡◌, ℕ, ◌-◌, ◌≤◌, ◌++◌, [], length, take, List, replicate, slice_index_or}
use Rattle.std.proofs.Common.{sym, ◌∙◌, ap}
use Rattle.match_log.specs.Names.{AreNames}
use Rattle.match_log.specs.declared.seat_names.SeatNames.TheInside.{Inside}

-- the names with the first of them in each place behind them, up to ten
abbrev pub inside_names : List (List ℕ) → List (List ℕ)
inside_names names = names ++ replicate (10 - length names) (slice_index_or names 0 [])

-- the names stand in front, one for each of two to ten seats, and the first of them in each place behind them
pub record IsKept (d : Inside) : Type 0 where
  pub names : AreNames d.count (take d.count d.names)
  pub least : 2 ≤ d.count
  pub most : d.count ≤ 10
  pub places : d.names ≡ inside_names (take d.count d.names)

-- the fields of names for seats
abbrev pub inside_of : List (List ℕ) → Inside
inside_of names = record { names = inside_names names; count = length names }

pub inside_of-view : (d : Inside) → IsKept d → inside_of (take d.count d.names) ≡ d
inside_of-view d kept =
    let places : inside_names (take d.count d.names) ≡ d.names = sym kept.places in
    let count : length (take d.count d.names) ≡ d.count = kept.names.one_each in
    ap (λ (names : List (List ℕ)). let i : Inside = record { names = names; count = length (take d.count d.names) } in i) places
    ∙ ap (λ (n : ℕ). let i : Inside = record { names = d.names; count = n } in i) count
