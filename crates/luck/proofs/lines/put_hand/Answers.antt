use Rattle.std.proofs.Common.{◌≡◌, ◌∙◌, ◌*◌, ◌<◌, ℤ, List, pos, w64, lit≤, subst, length, get_or, sym, ap, arith}
use Rattle.std.specs.List.{All}
use Rattle.std.proofs.lemmas.Int.{to_z-of_z}
use Rattle.std.proofs.lemmas.List.Elements.{All-get_or}
use Rattle.std.proofs.lemmas.List.FromFn.{length-map-range_with_len}
use Rattle.side_pots.specs.Pots.{payoff}
use Rattle.slot_log.specs.Hand.{Hand}
use Rattle.match_log.specs.Payoffs.{IsWithin, most_payoff, values_of}
use Rattle.match_log.proofs.Adding.{within_fits}
use Rattle.match_log.proofs.Settling.{deal_players, length_amounts}
use Rattle.luck.specs.Lines.{position_line}
use Rattle.luck.specs.Means.{parts_of}
use Rattle.luck.proofs.Hands.{pay_is, line_of_position}
use Rattle.luck.proofs.Printing.{put_more}
use Rattle.luck.proofs.lines.put_hand.Goals as goal

pub pay-payoffs-requires : goal.pay-payoffs-requires
pay-payoffs-requires c =
    deal_players c.args.line.now.play.game.players c.args.line.now.deal c.requires
    ∙ sym (ap length c.of.ensures.spent ∙ length_amounts c.args.line.now.play.game c.args.line.now.play.past)

pub bounds-deref-position : goal.bounds-deref-position
bounds-deref-position c =
    let game = c.args.line.now.play.game in
    let spent = c.of.result.spent in
    let players : length spent ≡ game.players = ap length c.of.ensures.spent ∙ length_amounts game c.args.line.now.play.past in
    let count : length c.deref.result.now ≡ length spent = ap length (c.deref.ensures.0 ∙ c.pay-payoffs.ensures.value) ∙ length-map-range_with_len (payoff spent c.of.result.folded (values_of (length spent) c.args.line.now.deal)) 0 (length spent) in
    omega (arith, count, players, c.loop-position-test.true, c.players-players.ensures.value)

pub loop-position-preserved : goal.loop-position-preserved
loop-position-preserved c = λ names count all is.
    let game = c.args.line.now.play.game in
    let hand : Hand = record { deal = c.args.line.now.deal; past = c.args.line.now.play.past } in
    let position = c.loop-position.position in
    let before = c.loop-position.invariant names count all is in
    let within : position < length names = omega (arith, count, c.loop-position-test.true, c.players-players.ensures.value) in
    let ten : position < 10 = omega (arith, c.loop-position-test.true, c.players-players.ensures.most) in
    let named = c.first_name.ensures names position within all (before.0 within) in
    let paid = c.deref.ensures.0 ∙ c.pay-payoffs.ensures.value ∙ pay_is game hand c.of.result.spent c.of.result.folded c.of.ensures.spent c.of.ensures.folded in
    let spent = c.of.result.spent in
    let count : length c.deref.result.now ≡ length spent = ap length (c.deref.ensures.0 ∙ c.pay-payoffs.ensures.value) ∙ length-map-range_with_len (payoff spent c.of.result.folded (values_of (length spent) c.args.line.now.deal)) 0 (length spent) in
    let players : length spent ≡ game.players = ap length c.of.ensures.spent ∙ length_amounts game c.args.line.now.play.past in
    let all_paid : All (IsWithin most_payoff) c.deref.result.now = subst (All (IsWithin most_payoff)) (sym c.deref.ensures.0) c.pay-payoffs.ensures.within in
    let paid_fits = within_fits most_payoff (get_or c.deref.result.now position (pos 0)) (lit≤ tt) (All-get_or (IsWithin most_payoff) c.deref.result.now position (pos 0) (omega (arith, count, players, c.loop-position-test.true, c.players-players.ensures.value)) all_paid) in
    let luck_fits = within_fits (most_payoff * 12000) (get_or c.hand_luck-lucks.result position (pos 0)) (lit≤ tt) (All-get_or (IsWithin (most_payoff * 12000)) c.hand_luck-lucks.result position (pos 0) (omega (arith, ten, c.hand_luck-lucks.ensures.places)) c.hand_luck-lucks.ensures.within) in (
      named.1,
      put_more (position_line c.args.key.now game names c.args.number hand) position c.args.out.now.items c.loop-position.out.items _ c.put_line.new.out.items before.1 c.in_ok-put_line.ensures
          (line_of_position c.args.key.now game names c.args.number hand position _ _ _ c.parts.result named.0 (to_z-of_z w64 _ paid_fits ∙ ap (λ (values : List ℤ). get_or values position (pos 0)) paid)
          (to_z-of_z w64 _ luck_fits ∙ c.hand_luck-lucks.ensures.each position ten)
          (c.parts.ensures.value ∙ ap parts_of c.players-players.ensures.value)),
    )
