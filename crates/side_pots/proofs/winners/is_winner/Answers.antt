use Rattle.std.proofs.Common.{◌≡◌, ◌<◌, ◌∙◌, length, sym, arith}
use Rattle.side_pots.specs.Pots.{is_eligible}
use Rattle.side_pots.proofs.BestHands.{better_read, no_winner_outside, no_winner_beaten, unbeaten_outside, unbeaten_not_better, unbeaten_by_all, wins_when_best}
use Rattle.side_pots.proofs.winners.is_winner.Goals as goal
use Rattle.side_pots.proofs.winners.is_winner.Goals.{else-is_eligible-via-then-is_eligible+else-gt, else-is_eligible-via-else-is_eligible}

pub returns-then-not-is_eligible : goal.returns-then-not-is_eligible
returns-then-not-is_eligible c =
    sym (no_winner_outside c.args.values.now (is_eligible c.args.spent.now c.args.folded.now c.args.level) c.args.position (sym c.is_eligible.ensures ∙ c.if-not-is_eligible.true))

pub returns-then-gt : goal.returns-then-gt
returns-then-gt c =
    let other_within : c.loop-other.other < length c.args.values.now = omega (arith, c.requires.values, c.loop-other-test.true) in
    let within : c.args.position < length c.args.values.now = omega (arith, c.requires.values, c.requires.position) in
    sym (no_winner_beaten c.args.values.now (is_eligible c.args.spent.now c.args.folded.now c.args.level) c.args.position c.loop-other.other other_within
    (sym c.is_eligible-in-loop-other.ensures ∙ c.if-is_eligible.true)
    (better_read c.args.values.now c.loop-other.other c.args.position c.index-values-other.result c.index-values-position.result c.gt.result other_within within c.index-values-other.is c.index-values-position.is c.gt.ensures ∙ c.if-gt.true))

pub loop-other-preserved : goal.loop-other-preserved
loop-other-preserved c =
    let other_within : c.loop-other.other < length c.args.values.now = omega (arith, c.requires.values, c.loop-other-test.true) in
    let within : c.args.position < length c.args.values.now = omega (arith, c.requires.values, c.requires.position) in
    elim c.else-is_eligible.branch [
      | else-is_eligible-via-then-is_eligible+else-gt w ↦
          unbeaten_not_better c.args.values.now (is_eligible c.args.spent.now c.args.folded.now c.args.level) c.args.position c.loop-other.other
          (better_read c.args.values.now c.loop-other.other c.args.position w.index-values-other.result w.index-values-position.result w.gt.result other_within within w.index-values-other.is w.index-values-position.is w.gt.ensures ∙ w.if-gt.false)
          c.loop-other.invariant
      | else-is_eligible-via-else-is_eligible w ↦
          unbeaten_outside c.args.values.now (is_eligible c.args.spent.now c.args.folded.now c.args.level) c.args.position c.loop-other.other
          (sym c.is_eligible-in-loop-other.ensures ∙ w.if-is_eligible.false) c.loop-other.invariant
    ]

pub returns : goal.returns
returns c =
    let whole : c.loop-other.other ≡ length c.args.values.now = omega (arith, c.requires.values, c.loop-other-test.false) in
    sym (wins_when_best c.args.values.now (is_eligible c.args.spent.now c.args.folded.now c.args.level) c.args.position (sym c.is_eligible.ensures ∙ c.if-not-is_eligible.false)
    (unbeaten_by_all c.args.values.now (is_eligible c.args.spent.now c.args.folded.now c.args.level) c.args.position c.loop-other.other whole c.loop-other.invariant))
