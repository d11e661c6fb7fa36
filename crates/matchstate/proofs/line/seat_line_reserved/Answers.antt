use Rattle.std.proofs.Common.{◌≡◌, ℕ, ◌+◌, ◌++◌, length, Some, sym, ap, ◌∙◌, arith, List, decimal, take}
use Rattle.std.specs.Borrow.{Bor}
use Rattle.std.specs.Option.{option_map}
use Rattle.game_def.specs.Game.{Game}
use Rattle.betting.specs.Betting.{Betting}
use Rattle.slot_log.specs.Dealer.{hand_at}
use Rattle.matchstate.specs.Cards.{cards_field, holes_seen, boards_of}
use Rattle.matchstate.specs.SeenCards.{holes_in, boards_in}
use Rattle.matchstate.specs.View.{position_of, sees, rounds_seen}
use Rattle.matchstate.proofs.Seats.{newest_text_is, seat_text_is, joined_same}
use Rattle.matchstate.proofs.line.seat_line_reserved.Goals as goal

pub returns-clause-items : goal.returns-clause-items
returns-clause-items c =
    let table = c.args.table.now in
    let hand = c.in-Some.hand in
    let deal = c.in-Some-deal.deal.now in
    let past = c.in-Some-play.play.now.past in
    let dealt = c.dealt.ensures.value in
    let count : length table.hands ≡ hand + 1 = omega (arith, c.in-Some.ensures) in
    let its_deal : Some deal ≡ option_map (λ found. found.deal) (hand_at table.hands hand) =
    ap (option_map (λ (d : Bor (List ℕ)). d.now)) (sym c.in-Some-deal.is) ∙ c.deal.ensures.value in
    let its_past : Some past ≡ option_map (λ found. found.past) (hand_at table.hands hand) =
    ap (option_map (λ (p : Bor Betting). p.now.past)) (sym c.in-Some-play.is) ∙ c.play.ensures.value in
    let same : c.in-Some-play.play.now.game ≡ table.game = c.in-Some-play.ensures.game in
    let players : c.players-players.result ≡ table.game.players = c.players-players.ensures.value ∙ ap (λ (g : Game). g.players) c.game.ensures in
    let position : c.position_of-position.result ≡ position_of table.game.players hand c.args.seat = c.position_of-position.ensures.value ∙ ap (λ n. position_of n hand c.args.seat) players in
    let seen = c.sight-seen.result in
    let holes : holes_in c.players-players.result seen ≡ holes_seen table.game.players (sees table.game past (position_of table.game.players hand c.args.seat)) deal =
    ap (λ n. holes_in n seen) (players ∙ sym (ap (λ (g : Game). g.players) same)) ∙ c.sight-seen.ensures.holes
    ∙ ap (λ (g : Game). holes_seen g.players (sees g past c.position_of-position.result) deal) same
    ∙ ap (λ p. holes_seen table.game.players (sees table.game past p) deal) position in
    let boards : boards_in seen ≡ take (rounds_seen table.game past) (boards_of deal) =
    c.sight-seen.ensures.boards ∙ ap (λ (g : Game). take (rounds_seen g past) (boards_of deal)) same in
    c.put_line.ensures.items
    ∙ ap (λ t. c.args.out.now.items ++ t)
    (joined_same _ (decimal hand) _ _ _ _ _ (ap decimal position) (c.requires.betting ∙ newest_text_is table.game table.hands hand past count its_past)
    (ap (λ (hs : List (List ℕ)). cards_field hs (boards_in seen)) holes ∙ ap (cards_field _) boards)
    ∙ seat_text_is table.game table.hands c.args.seat hand deal past count its_deal its_past)
