use Rattle.std.proofs.Common.{◌≡◌, ◌≤◌, pos, length, get_or, refl, arith}
use Rattle.std.proofs.lemmas.Int.{ints}
use Rattle.std.proofs.lemmas.List.Elements.{All-get_or}
use Rattle.match_log.specs.Payoffs.{IsWithin, most_payoff}
use Rattle.match_log.proofs.Adding.{added_more}
use Rattle.luck.proofs.Adds.{added_each}
use Rattle.luck.proofs.Totals.{total_added}
use Rattle.luck.proofs.sums.Sums.add.Goals as goal

pub loop-position-preserved : goal.loop-position-preserved
loop-position-preserved c =
    let old = c.args.self.now.amounts in
    added_more old c.loop-position.amounts c.args.self.now.deals c.loop-position.position (λ position. get_or c.args.payoffs.now position (pos 0))
    (get_or c.args.payoffs.now c.loop-position.position (pos 0)) _ c.requires.more (omega (arith, c.requires.few)) c.args.self.now.places c.args.self.now.within
    (All-get_or (IsWithin most_payoff) c.args.payoffs.now c.loop-position.position (pos 0) c.loop-position-test.true c.requires.within)
    refl refl c.loop-position.invariant

pub returns-clause-each : goal.returns-clause-each
returns-clause-each c = added_each c.args.self.now.amounts c.loop-position.amounts c.args.payoffs.now c.args.self.now.deals c.loop-position.position (omega arith) c.loop-position.invariant

pub invariant_of-self : goal.invariant_of-self
invariant_of-self c =
    let old = c.args.self.now.amounts in
    let added = c.loop-position.invariant in
    let same : length c.loop-position.amounts ≡ length old = omega (arith, added.places, c.args.self.now.places) in
    let few : length c.args.payoffs.now ≤ length old = omega (arith, c.requires.few, c.args.self.now.places) in
    let all = added_each old c.loop-position.amounts c.args.payoffs.now c.args.self.now.deals c.loop-position.position (omega (arith, c.loop-position-test.false)) added in
    let sum = total_added old c.args.payoffs.now c.loop-position.amounts same few (λ k within. all k (omega (arith, c.args.self.now.places, within))) in
    record {
      within = added.within;
      places = added.places;
      few = omega (arith, c.requires.more);
      zero_sum = omega (arith, ints, sum, c.args.self.now.zero_sum, c.requires.zero_sum);
    }
