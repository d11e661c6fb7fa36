use Rattle.std.proofs.Common.{◌≡◌, ◌∙◌, ◌+◌, ◌-◌, ◌*◌, ◌++◌, ℕ, List, length, ap, subst, arith}
use Rattle.std.proofs.lemmas.List.{length-map}
use Rattle.rand_core.specs.Steps.{stream_of, steps_u32}
use Rattle.rand_chacha.specs.ChaCha.{next_word}
use Rattle.match_log.specs.BestFive.{choices}
use Rattle.match_log.proofs.Settling.{deal_players}
use Rattle.luck.specs.CardList.{cards_of}
use Rattle.luck.specs.Left.{left_of}
use Rattle.luck.specs.Means.{parts_of}
use Rattle.luck.specs.Sums.{IsSumOver}
use Rattle.luck.proofs.Lucky.{known_as, drawn_room, cards_distinct, both_distinct, completed_room, completed_few, completed_some, drawn_as, completed_as, length_drawn, sum_of_all}
use Rattle.luck.proofs.hand_luck.counted.Goals as goal

pub add_drawn-requires-clause-known : goal.add_drawn-requires-clause-known
add_drawn-requires-clause-known c =
    let players = length c.args.stakes.now.spent in
    let known = known_as players _ c.args.deal.now (cards_of c.known_cards-known.result) c.args.street (deal_players players c.args.deal.now c.requires.dealt) c.known_cards-known.ensures in
    drawn_room players c.args.deal.now (cards_of c.known_cards-known.result) c.args.street c.requires.dealt c.if-street-eq0.true known

pub add_drawn-requires-clause-distinct : goal.add_drawn-requires-clause-distinct
add_drawn-requires-clause-distinct c =
    let players = length c.args.stakes.now.spent in
    let known = known_as players _ c.args.deal.now (cards_of c.known_cards-known.result) c.args.street (deal_players players c.args.deal.now c.requires.dealt) c.known_cards-known.ensures in
    cards_distinct players c.args.deal.now (cards_of c.known_cards-known.result) c.args.street c.requires.dealt known

pub returns-then-street-eq0-clause-sum : goal.returns-then-street-eq0-clause-sum
returns-then-street-eq0-clause-sum c =
    let spent = c.args.stakes.now.spent in
    let folded = c.args.stakes.now.folded in
    let players = length spent in
    let known = known_as players _ c.args.deal.now (cards_of c.known_cards-known.result) c.args.street (deal_players players c.args.deal.now c.requires.dealt) c.known_cards-known.ensures in
    let deals = drawn_as c.args.key.now c.args.number players c.args.deal.now c.args.street (cards_of c.known_cards-known.result) c.generator-words.result c.parts.result c.if-street-eq0.true known c.generator-words.ensures (c.parts.ensures.value ∙ ap parts_of c.players-players.ensures.value) in
    subst (λ (ds : List (List ℕ)). IsSumOver spent folded ds c.add_drawn.new.sums) deals (sum_of_all spent folded _ c.new-sums.result c.add_drawn.new.sums c.new-sums.ensures.amounts c.new-sums.ensures.deals c.add_drawn.ensures)

pub returns-then-street-eq0-clause-some : goal.returns-then-street-eq0-clause-some
returns-then-street-eq0-clause-some c =
    omega (arith, c.add_drawn.ensures.count, c.parts.ensures.least_parts, length_drawn (cards_of c.known_cards-known.result) (stream_of (steps_u32 (next_word 10)) c.generator-words.result) c.parts.result)

left_are : (left slice known : List ℕ) (cards : List ℕ) → slice ≡ left → left ≡ left_of known → known ≡ cards → slice ≡ left_of cards
left_are left slice known cards as_slice is same = as_slice ∙ is ∙ ap left_of same

pub add_completions-requires-clause-known : goal.add_completions-requires-clause-known
add_completions-requires-clause-known c =
    let players = length c.args.stakes.now.spent in
    let known = known_as players _ c.args.deal.now (cards_of c.known_cards-known.result) c.args.street (deal_players players c.args.deal.now c.requires.dealt) c.known_cards-known.ensures in
    completed_room players c.args.deal.now (cards_of c.known_cards-known.result) c.args.street c.requires.dealt c.requires.street known

pub add_completions-requires-clause-distinct : goal.add_completions-requires-clause-distinct
add_completions-requires-clause-distinct c =
    let players = length c.args.stakes.now.spent in
    let known = known_as players _ c.args.deal.now (cards_of c.known_cards-known.result) c.args.street (deal_players players c.args.deal.now c.requires.dealt) c.known_cards-known.ensures in
    both_distinct players c.args.deal.now (cards_of c.known_cards-known.result) c.as_slice-2.result.now c.args.street c.requires.dealt known
    (left_are (cards_of c.left_cards-left.result) c.as_slice-2.result.now c.as_slice.result.now (cards_of c.known_cards-known.result) c.as_slice-2.ensures.value c.left_cards-left.ensures c.as_slice.ensures.value)

pub add_completions-requires-clause-few : goal.add_completions-requires-clause-few
add_completions-requires-clause-few c =
    let players = length c.args.stakes.now.spent in
    let known = known_as players _ c.args.deal.now (cards_of c.known_cards-known.result) c.args.street (deal_players players c.args.deal.now c.requires.dealt) c.known_cards-known.ensures in
    omega (
      arith,
      c.new-sums.ensures.deals,
      completed_few players c.args.deal.now (cards_of c.known_cards-known.result) c.as_slice-2.result.now c.args.street c.requires.dealt (omega (arith, c.if-street-eq0.false)) c.requires.street known c.as_slice-2.ensures.most,
    )

pub returns-clause-sum : goal.returns-clause-sum
returns-clause-sum c =
    let spent = c.args.stakes.now.spent in
    let folded = c.args.stakes.now.folded in
    let players = length spent in
    let known = known_as players _ c.args.deal.now (cards_of c.known_cards-known.result) c.args.street (deal_players players c.args.deal.now c.requires.dealt) c.known_cards-known.ensures in
    let left = left_are (cards_of c.left_cards-left.result) c.as_slice-2.result.now c.as_slice.result.now (cards_of c.known_cards-known.result) c.as_slice-2.ensures.value c.left_cards-left.ensures c.as_slice.ensures.value in
    let deals = completed_as c.args.key.now c.args.number players c.args.deal.now c.args.street (cards_of c.known_cards-known.result) c.as_slice-2.result.now (omega (arith, c.if-street-eq0.false)) known left in
    subst (λ (ds : List (List ℕ)). IsSumOver spent folded ds c.add_completions.new.sums) deals (sum_of_all spent folded _ c.new-sums.result c.add_completions.new.sums c.new-sums.ensures.amounts c.new-sums.ensures.deals c.add_completions.ensures)

pub returns-clause-some : goal.returns-clause-some
returns-clause-some c =
    let players = length c.args.stakes.now.spent in
    let known = known_as players _ c.args.deal.now (cards_of c.known_cards-known.result) c.args.street (deal_players players c.args.deal.now c.requires.dealt) c.known_cards-known.ensures in
    let left = left_are (cards_of c.left_cards-left.result) c.as_slice-2.result.now c.as_slice.result.now (cards_of c.known_cards-known.result) c.as_slice-2.ensures.value c.left_cards-left.ensures c.as_slice.ensures.value in
    let some = completed_some players c.args.deal.now (cards_of c.known_cards-known.result) c.as_slice-2.result.now c.args.street (omega (arith, c.players-players.ensures.value, c.players-players.ensures.most)) c.requires.dealt (omega (arith, c.if-street-eq0.false)) c.requires.street known left in
    omega (arith, c.add_completions.ensures.count, some, length-map (choices (2 * players + 5 - length (cards_of c.known_cards-known.result)) c.as_slice-2.result.now) (λ (more : List ℕ). cards_of c.known_cards-known.result ++ more))
