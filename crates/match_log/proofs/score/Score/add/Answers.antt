use Rattle.std.proofs.Common.{◌≡◌, ◌*◌, ◌∙◌, ℕ, ℤ, List, pos, length, get_or, refl, sym, ap, subst, arith}
use Rattle.std.specs.List.{All}
use Rattle.std.proofs.lemmas.List.Elements.{All-get_or}
use Rattle.matchstate.specs.View.{position_of}
use Rattle.match_log.specs.Payoffs.{IsWithin, most_payoff}
use Rattle.match_log.specs.Tally.{Tally}
use Rattle.match_log.proofs.Adding.{added_more}
use Rattle.match_log.proofs.score.Score.add.Goals as goal

pub loop-seat-preserved : goal.loop-seat-preserved
loop-seat-preserved c =
    let old : List ℤ = c.args.self.now.totals in
    let hands : ℕ = c.args.self.now.hands in
    let n : ℕ = length c.args.payoffs.now in
    let same_totals : c.self.inside.totals ≡ old = ap (λ (t : Tally). t.totals) c.self.view_is in
    let same_hands : c.self.inside.hands ≡ hands = ap (λ (t : Tally). t.hands) c.self.view_is in
    let within : All (IsWithin (most_payoff * hands)) old =
    subst (λ (h : ℕ). All (IsWithin (most_payoff * h)) old) same_hands (subst (λ (xs : List ℤ). All (IsWithin (most_payoff * c.self.inside.hands)) xs) same_totals c.self.invariant.within) in
    added_more old c.loop-seat.totals hands c.loop-seat.seat (λ seat. get_or c.args.payoffs.now (position_of n hands seat) (pos 0))
    (get_or c.args.payoffs.now c.position_of.result (pos 0)) _ c.requires.more (omega (arith, c.requires.few)) (ap length (sym same_totals) ∙ c.self.invariant.places) within
    (All-get_or (IsWithin most_payoff) c.args.payoffs.now c.position_of.result (pos 0) c.position_of.ensures.below c.requires.within)
    (ap (λ p. get_or c.args.payoffs.now p (pos 0)) (c.position_of.ensures.value ∙ ap (λ h. position_of n h c.loop-seat.seat) same_hands)) refl c.loop-seat.invariant
