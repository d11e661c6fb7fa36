use Rattle.std.proofs.Common.{◌≡◌, ℕ, ◌<◌, ◌≤◌, true, false, nat_eq, sym, ap, ◌∙◌, subst}
use Rattle.std.specs.List.{IsDistinct}
use Rattle.std.proofs.lemmas.Bool.{false≢true}
use Rattle.matchstate.specs.Cards.{cards_field, all_cards, AreSeen}
use Rattle.matchstate.specs.SeenCards.{holes_in, boards_in, seen_at, AreCounted}
use Rattle.matchstate.specs.View.{sees, rounds_seen}
use Rattle.matchstate.proofs.Sighted.{seen_from_counted, expected}
use Rattle.matchstate.proofs.Missing.{missing}
use Rattle.matchstate.proofs.sight.read_sight.Goals as goal

pub returns-then-are_distinct-clause-seen : goal.returns-then-are_distinct-clause-seen
returns-then-are_distinct-clause-seen c =
    let play = c.args.play.now in
    let seen = c.in_ok-seen.seen in
    let n = c.players-players.result in
    let value : n ≡ play.game.players = c.players-players.ensures.value in
    let positions = c.positions_in_sight-positions.result in
    let same = subst (λ k. (p : ℕ) → p < k → seen_at positions p ≡ sees play.game play.past c.args.viewer p) (sym value) c.positions_in_sight-positions.ensures in
    let distinct : IsDistinct nat_eq (all_cards (holes_in n seen) (boards_in seen)) = subst (IsDistinct nat_eq) c.gather-cards.ensures.value (c.are_distinct.ensures.distinct.0 c.if-are_distinct.true) in
    let counted = subst (λ k. AreCounted n (seen_at positions) k (holes_in n seen) (boards_in seen)) c.round.ensures.value c.in_ok-seen.ensures.counted in
    let most : rounds_seen play.game play.past ≤ 3 = subst (λ k. k ≤ 3) c.round.ensures.value c.round.ensures.last in
    let all = seen_from_counted (seen_at positions) (sees play.game play.past c.args.viewer) n (rounds_seen play.game play.past) (holes_in n seen) (boards_in seen) c.players-players.ensures.most most same counted distinct in
    subst (λ k. AreSeen k (sees play.game play.past c.args.viewer) (rounds_seen play.game play.past) (holes_in k seen) (boards_in seen)) value all

pub returns-in_err-seen-clause-only : goal.returns-in_err-seen-clause-only
returns-in_err-seen-clause-only c =
    λ holes boards seen is.
    let told = expected holes boards c.players-players.ensures.value c.round.ensures.value c.positions_in_sight-positions.ensures seen in
    absurd (missing _ c.in_err-seen.was (c.read_seen.ensures.only holes boards told.0 is))

pub returns-then-are_distinct-clause-found : goal.returns-then-are_distinct-clause-found
returns-then-are_distinct-clause-found c =
    subst (λ n. c.args.bytes.now ≡ cards_field (holes_in n c.in_ok-seen.seen) (boards_in c.in_ok-seen.seen)) c.players-players.ensures.value c.in_ok-seen.ensures.found

pub returns-then-are_distinct-clause-only : goal.returns-then-are_distinct-clause-only
returns-then-are_distinct-clause-only c =
    λ holes boards seen is.
    let told = expected holes boards c.players-players.ensures.value c.round.ensures.value c.positions_in_sight-positions.ensures seen in
    let same = c.in_ok-seen.ensures.only holes boards told.0 is in
    (subst (λ n. holes_in n c.in_ok-seen.seen ≡ holes) c.players-players.ensures.value same.0, same.1)

pub returns-else-are_distinct-clause-only : goal.returns-else-are_distinct-clause-only
returns-else-are_distinct-clause-only c =
    λ holes boards seen is.
    let told = expected holes boards c.players-players.ensures.value c.round.ensures.value c.positions_in_sight-positions.ensures seen in
    let same = c.in_ok-seen.ensures.only holes boards told.0 is in
    let cards = c.gather-cards.ensures.value ∙ ap (λ h. all_cards h (boards_in c.in_ok-seen.seen)) same.0 ∙ ap (λ b. all_cards holes b) same.1 in
    let passed : c.are_distinct.result ≡ true = c.are_distinct.ensures.distinct.1 (subst (IsDistinct nat_eq) (sym cards) told.1) in
    let failed = c.if-are_distinct.false in
    let clash : false ≡ true = sym failed ∙ passed in
    absurd (false≢true clash)
