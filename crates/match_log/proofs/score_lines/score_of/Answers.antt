use Rattle.std.proofs.Common.{◌≡◌, ◌<◌, List, length, sym, ◌∙◌, ap, subst, arith}
use Rattle.slot_log.specs.Hand.{Hand}
use Rattle.match_log.specs.Payoffs.{payoffs_of}
use Rattle.match_log.specs.Tally.{Tally, IsTallyOf}
use Rattle.match_log.proofs.Tallies.{older, older_none, older_all, older_more, no_hands, hand_more}
use Rattle.match_log.proofs.score_lines.score_of.Goals as goal

pub loop-hand-init : goal.loop-hand-init
loop-hand-init c =
    subst (λ (hands : List Hand). IsTallyOf c.args.table.now.game hands c.new-score.result) (sym (older_none c.args.table.now.hands))
    (no_hands c.args.table.now.game c.new-score.result (ap (λ (t : Tally). t.hands) c.new-score.ensures) (ap (λ (t : Tally). t.totals) c.new-score.ensures))

pub add-requires-clause-some : goal.add-requires-clause-some
add-requires-clause-some c = omega (arith, ap length c.as_slice.ensures.value, c.payoffs.ensures.count, c.limits.ensures.least_players)

pub loop-hand-preserved : goal.loop-hand-preserved
loop-hand-preserved c =
    let found : Hand = record { deal = c.dealt_hand.result.1.now; past = c.dealt_hand.result.0.now.past } in
    let within : c.loop-hand.hand < length c.args.table.now.hands = omega (arith, c.dealt-hand-end.ensures.value) in
    let paid : c.as_slice.result.now ≡ payoffs_of c.args.table.now.game found = c.as_slice.ensures.value ∙ (c.payoffs.ensures.value ∙ ap (λ g. payoffs_of g found) c.game-game.ensures) in
    subst (λ (hands : List Hand). IsTallyOf c.args.table.now.game hands c.add.new.self) (sym (older_more c.args.table.now.hands c.loop-hand.hand found within c.dealt_hand.ensures.hand))
    (hand_more c.args.table.now.game (older c.args.table.now.hands c.loop-hand.hand) found c.loop-hand.score c.add.new.self c.as_slice.result.now paid c.add.ensures.hands c.add.ensures.totals c.loop-hand.invariant)

pub returns : goal.returns
returns c =
    let all : c.loop-hand.hand ≡ length c.args.table.now.hands = omega (arith, c.dealt-hand-end.ensures.value) in
    subst (λ (hands : List Hand). IsTallyOf c.args.table.now.game hands c.loop-hand.score) (ap (older c.args.table.now.hands) all ∙ older_all c.args.table.now.hands) c.loop-hand.invariant
