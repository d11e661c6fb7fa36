use Rattle.std.proofs.Common.{◌≡◌, ◌<◌, ℕ, List, [], ◌∷◌, length, refl, ap, subst, arith}
use Rattle.match_log.specs.declared.checked.Checked.{Checked}
use Rattle.match_log.proofs.SoFar.{SoFar, begun, gone_on, whole_log}
use Rattle.match_log.proofs.Tallies.{no_hands}
use Rattle.match_log.proofs.checking.verdict.Goals as goal

pub loop-hand-init : goal.loop-hand-init
loop-hand-init c =
    let found = c.in-Some.ensures.found in
    begun c.args.game.now c.args.log.now found.0 c.in-Some.header.hands c.in-Some.header.behind.now c.new-checked.result c.limits.ensures.most_players found.1 found.2
    (no_hands c.args.game.now c.new-checked.result.score (ap (λ (k : Checked). k.score.hands) c.new-checked.ensures) (ap (λ (k : Checked). k.score.totals) c.new-checked.ensures))
    (ap (λ (k : Checked). k.names) c.new-checked.ensures)

pub loop-hand-preserved : goal.loop-hand-preserved
loop-hand-preserved c =
    let so_far = c.loop-hand.invariant in
    gone_on c.args.game.now c.args.log.now c.in-Some.header.hands c.loop-hand.hand c.loop-hand.rest.now c.in-Ok.behind.now c.loop-hand.checked c.take_hand.new.self so_far c.loop-hand-test.true
    (c.in-Ok.ensures.next so_far.names so_far.hands so_far.before.are_names so_far.said)

nothing : (xs : List ℕ) → length xs < 1 → xs ≡ []
nothing [] none = refl
nothing (x ∷ xs) none = absurd (omega arith)

pub returns-in-Ok-empty : goal.returns-in-Ok-empty
returns-in-Ok-empty c =
    let count : ℕ = c.in-Some.header.hands in
    let all : c.loop-hand.hand ≡ count = omega (arith, c.loop-hand-test.false, c.loop-hand.auto.hand-end) in
    let so_far : SoFar c.args.game.now c.args.log.now count count c.loop-hand.rest.now c.loop-hand.checked =
    subst (λ (n : ℕ). SoFar c.args.game.now c.args.log.now count n c.loop-hand.rest.now c.loop-hand.checked) all c.loop-hand.invariant in
    whole_log c.args.game.now c.args.log.now count c.loop-hand.rest.now c.in-Ok-empty.field-0.now c.loop-hand.checked so_far c.hands_come_of_commands.ensures c.commands_deal_the_hands.ensures
    (c.in-Ok-empty.ensures.line so_far.names so_far.hands so_far.said) (nothing c.in-Ok-empty.field-0.now c.in-Ok-empty.len_below)
