-- What a deal's fields keep, and that they are got back from the list of its cards.
use Rattle.std.specs.Prelude.{◌≡◌, ℕ, ◌+◌, ◌-◌, ◌*◌, ◌≤◌, ◌++◌, length, take, List, replicate}
use Rattle.std.proofs.Common.{sym, ◌∙◌, ap, arith}
use Rattle.card_core.specs.Deal.{IsDeal, player_count}
use Rattle.card_core.specs.declared.deal.Deal.TheInside.{Inside}

-- the cards stand in front, and the deuce of clubs in each place behind them
pub record IsKept (d : Inside) : Type 0 where
  pub least : 2 ≤ d.players
  pub most : d.players ≤ 10
  pub deal : IsDeal d.players (take (2 * d.players + 5) d.cards)
  pub rest : d.cards ≡ take (2 * d.players + 5) d.cards ++ replicate (25 - (2 * d.players + 5)) 0

-- as many cards as ten players' deal has
abbrev pub inside_cards : List ℕ → List ℕ
inside_cards cards = cards ++ replicate (25 - length cards) 0

-- the fields of a deal
abbrev pub inside_of : List ℕ → Inside
inside_of cards = record { cards = inside_cards cards; players = player_count cards }

pub inside_of-view : (d : Inside) → IsKept d → inside_of (take (2 * d.players + 5) d.cards) ≡ d
inside_of-view d kept =
    let cards : inside_cards (take (2 * d.players + 5) d.cards) ≡ d.cards = rw kept.deal.count (sym kept.rest) in
    let count : length (take (2 * d.players + 5) d.cards) ≡ 2 * d.players + 5 = kept.deal.count in
    let players : player_count (take (2 * d.players + 5) d.cards) ≡ d.players = omega arith in
    ap (λ (c : List ℕ). let i : Inside = record { cards = c; players = player_count (take (2 * d.players + 5) d.cards) } in i) cards
    ∙ ap (λ (p : ℕ). let i : Inside = record { cards = d.cards; players = p } in i) players
