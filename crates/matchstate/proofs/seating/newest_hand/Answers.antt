use Rattle.std.proofs.Common.{◌≡◌, ℕ, ◌+◌, ◌<◌, length, Some, sym, ap, ◌∙◌, arith, subst, List}
use Rattle.std.specs.Borrow.{Bor}
use Rattle.std.specs.Option.{option_map}
use Rattle.game_def.specs.Game.{Game}
use Rattle.betting.specs.Betting.{Betting}
use Rattle.slot_log.specs.Hand.{Hand}
use Rattle.slot_log.specs.Dealer.{hand_at}
use Rattle.matchstate.specs.View.{view_of, position_of}
use Rattle.matchstate.proofs.Newest.{nobody_sees, newest_is_there}
use Rattle.matchstate.proofs.Seats.{seat_view_is}
use Rattle.matchstate.proofs.seating.newest_hand.Goals as goal

pub returns-in_err-hand-clause-none : goal.returns-in_err-hand-clause-none
returns-in_err-hand-clause-none c =
    λ _. nobody_sees c.args.table.now.game c.args.table.now.hands c.args.seat (let dealt = c.dealt.ensures.value in omega arith)

pub returns-in_err-deal-clause-none : goal.returns-in_err-deal-clause-none
returns-in_err-deal-clause-none c =
    λ _.
    let table = c.args.table.now in
    let dealt = c.dealt.ensures.value in
    let count : length table.hands ≡ c.in_ok-hand.hand + 1 = omega (arith, c.in_ok-hand.ensures) in
    absurd (newest_is_there (λ found. found.deal) table.hands c.in_ok-hand.hand count (ap (option_map (λ (d : Bor (List ℕ)). d.now)) (sym c.in_err-deal.was) ∙ c.deal.ensures.value))

pub returns-in_err-play-clause-none : goal.returns-in_err-play-clause-none
returns-in_err-play-clause-none c =
    λ _.
    let table = c.args.table.now in
    let dealt = c.dealt.ensures.value in
    let count : length table.hands ≡ c.in_ok-hand.hand + 1 = omega (arith, c.in_ok-hand.ensures) in
    absurd (newest_is_there (λ found. found.past) table.hands c.in_ok-hand.hand count (ap (option_map (λ (p : Bor Betting). p.now.past)) (sym c.in_err-play.was) ∙ c.play.ensures.value))

pub returns-clause-some : goal.returns-clause-some
returns-clause-some c =
    let table = c.args.table.now in
    let hand = c.in_ok-hand.hand in
    let deal = c.in_ok-deal.deal.now in
    let past = c.in_ok-play.play.now.past in
    let one = c.in_ok-hand.ensures.0 in
    let less = c.in_ok-hand.ensures.1 in
    let dealt = c.dealt.ensures.value in
    let count : length table.hands ≡ hand + 1 = omega arith in
    let its_deal : Some deal ≡ option_map (λ found. found.deal) (hand_at table.hands hand) =
    ap (option_map (λ (d : Bor (List ℕ)). d.now)) (sym c.in_ok-deal.was) ∙ c.deal.ensures.value in
    let its_past : Some past ≡ option_map (λ found. found.past) (hand_at table.hands hand) =
    ap (option_map (λ (p : Bor Betting). p.now.past)) (sym c.in_ok-play.was) ∙ c.play.ensures.value in
    let players : c.players.result ≡ table.game.players = c.players.ensures.value ∙ ap (λ (g : Game). g.players) c.game.ensures in
    let position : c.position_of-position.result ≡ position_of table.game.players hand c.args.seat = c.position_of-position.ensures.value ∙ ap (λ n. position_of n hand c.args.seat) players in
    let h : Hand = record { deal = deal; past = past } in
    record {
      current = sym (seat_view_is table.game table.hands c.args.seat hand deal past (view_of table.game c.position_of-position.result hand h) count its_deal its_past (ap (λ p. view_of table.game p hand h) position));
      same_game = c.in_ok-play.ensures.game;
      below = subst (λ n. c.position_of-position.result < n) players c.position_of-position.ensures.below;
      number = let most = c.dealt.ensures.most in omega arith;
      dealt = c.in_ok-deal.ensures.deal;
    }
