use Rattle.std.proofs.Common.{◌∙◌, ◌*◌, ◌/◌, ◌<◌, ◌≤◌, pos, get_or, sym, subst, arith}
use Rattle.std.specs.Prelude.{◌*ℤ◌}
use Rattle.std.proofs.lemmas.List.{length-set}
use Rattle.std.proofs.lemmas.List.Elements.{All-get_or, All-from_get_or}
use Rattle.match_log.specs.Payoffs.{IsWithin, most_payoff}
use Rattle.luck.proofs.Averages.{parts_shared, parts_few, mean_within, product_fits, product_read, set_more}
use Rattle.luck.proofs.Totals.{total_weighed_none}
use Rattle.luck.proofs.sums.Sums.means.Goals as goal

pub overflow_mul-means : goal.overflow_mul-means
overflow_mul-means c =
    let deals = c.args.self.now.deals in
    let fits : c.args.parts / deals * deals ≤ 2000 = omega (arith, parts_shared c.args.parts deals c.requires.some, c.requires.parts) in
    product_fits c.from-weight.result (c.args.parts / deals) deals (get_or c.args.self.now.amounts c.loop-position.position (pos 0)) c.from-weight.ensures (parts_few c.args.parts deals c.requires.parts) c.args.self.now.few fits
    (All-get_or (IsWithin (most_payoff * deals)) c.args.self.now.amounts c.loop-position.position (pos 0) (omega (arith, c.args.self.now.places, c.loop-position-test.true)) c.args.self.now.within)

pub loop-position-preserved : goal.loop-position-preserved
loop-position-preserved c =
    let deals = c.args.self.now.deals in
    let fits : c.args.parts / deals * deals ≤ 2000 = omega (arith, parts_shared c.args.parts deals c.requires.some, c.requires.parts) in
    let value = product_read c.from-weight.result (c.args.parts / deals) deals (get_or c.args.self.now.amounts c.loop-position.position (pos 0)) c.from-weight.ensures (parts_few c.args.parts deals c.requires.parts) c.args.self.now.few fits
    (All-get_or (IsWithin (most_payoff * deals)) c.args.self.now.amounts c.loop-position.position (pos 0) (omega (arith, c.args.self.now.places, c.loop-position-test.true)) c.args.self.now.within) in
    record {
      places = length-set c.loop-position.means c.loop-position.position _ ∙ c.loop-position.invariant.places;
      so_far = set_more c.loop-position.means c.loop-position.position _ (λ k. pos (c.args.parts / deals) *ℤ get_or c.args.self.now.amounts k (pos 0)) (omega (arith, c.loop-position.invariant.places, c.loop-position-test.true)) c.loop-position.invariant.so_far value;
    }

pub returns-clause-within : goal.returns-clause-within
returns-clause-within c =
    let deals = c.args.self.now.deals in
    let fits : c.args.parts / deals * deals ≤ 2000 = omega (arith, parts_shared c.args.parts deals c.requires.some, c.requires.parts) in
    All-from_get_or (IsWithin (most_payoff * 2000)) c.loop-position.means (pos 0)
    (λ k within.
    let below : k < 10 = omega (arith, c.loop-position.invariant.places, within) in
    subst (IsWithin (most_payoff * 2000)) (sym (c.loop-position.invariant.so_far k (omega (arith, below, c.loop-position-test.false))))
    (mean_within (c.args.parts / deals) deals (get_or c.args.self.now.amounts k (pos 0)) fits
    (All-get_or (IsWithin (most_payoff * deals)) c.args.self.now.amounts k (pos 0) (omega (arith, c.args.self.now.places, below)) c.args.self.now.within)))

pub returns-clause-zero_sum : goal.returns-clause-zero_sum
returns-clause-zero_sum c =
    total_weighed_none (c.args.parts / c.args.self.now.deals) c.args.self.now.amounts c.loop-position.means (omega (arith, c.loop-position.invariant.places, c.args.self.now.places)) c.args.self.now.zero_sum
    (λ k within. c.loop-position.invariant.so_far k (omega (arith, c.args.self.now.places, within, c.loop-position-test.false)))
