use Rattle.std.proofs.Common.{◌≡◌, ◌<◌, ◌≤◌, ◌∙◌, ◌+◌, ◌*◌, ℕ, List, [], ◌∷◌, length, take, get_or, ap, arith}
use Rattle.std.proofs.lemmas.List.{length-take, take_all}
use Rattle.card_core.specs.Deal.{player_count}
use Rattle.matchstate.specs.Laws.{board_count}
use Rattle.luck.specs.CardList.{cards_of}
use Rattle.luck.proofs.Lucky.{board_cards, board_fits}
use Rattle.luck.proofs.hand_luck.known_cards.Goals as goal

few_enough : (index places : ℕ) (items known : List ℕ) → index < length (take places items) → known ≡ take index (take places items) → places ≤ 51 → length known < 52
few_enough index places items known below is few =
    omega (arith, ap length is, length-take index (take places items), length-take places items, below)

pub with-known-requires : goal.with-known-requires
with-known-requires c =
    let fits : get_or (0 ∷ 3 ∷ 4 ∷ 5 ∷ []) c.args.street 0 ≤ 5 = omega (arith, board_cards c.args.street c.requires, board_fits c.args.street c.requires) in
    few_enough c.loop-card.card-index (2 * c.players.result + get_or (0 ∷ 3 ∷ 4 ∷ 5 ∷ []) c.args.street 0) c.cards.result.now (cards_of c.loop-card.known) c.loop-card-test.true c.loop-card.invariant (omega (arith, fits, c.players.ensures.most))

pub returns : goal.returns
returns c =
    let count : 2 * c.players.result + get_or (0 ∷ 3 ∷ 4 ∷ 5 ∷ []) c.args.street 0 ≡ 2 * player_count c.args.deal.now + board_count c.args.street = omega (arith, c.players.ensures.value, board_cards c.args.street c.requires) in
    c.loop-card.invariant
    ∙ take_all c.loop-card.card-index (take (2 * c.players.result + get_or (0 ∷ 3 ∷ 4 ∷ 5 ∷ []) c.args.street 0) c.cards.result.now) c.loop-card-test.false
    ∙ ap (λ n. take n c.cards.result.now) count
    ∙ ap (take (2 * player_count c.args.deal.now + board_count c.args.street)) c.cards.ensures.value
