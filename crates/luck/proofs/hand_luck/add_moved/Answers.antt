use Rattle.std.proofs.Common.{◌≡◌, ◌∙◌, ◌*◌, ℤ, pos, ◌+ℤ◌, ◌-ℤ◌, get_or, sym, ap, subst, arith}
use Rattle.std.proofs.lemmas.List.{length-set, get_or-set_other}
use Rattle.std.proofs.lemmas.List.Elements.{All-get_or}
use Rattle.match_log.specs.Payoffs.{IsWithin, most_payoff}
use Rattle.luck.proofs.Averages.{moved_fits, moved_read, set_more}
use Rattle.luck.proofs.Totals.{total_moved}
use Rattle.luck.proofs.hand_luck.add_moved.Goals as goal

pub overflow_add-sums : goal.overflow_add-sums
overflow_add-sums c =
    let place = c.loop-position.position in
    let same = c.loop-position.invariant.others place (omega arith) in
    let old : IsWithin (most_payoff * 8000) (get_or c.args.lucks.now place (pos 0)) = All-get_or (IsWithin (most_payoff * 8000)) c.args.lucks.now place (pos 0) (omega (arith, c.told-lucks, c.loop-position-test.true)) c.requires.lucks in
    moved_fits (get_or c.loop-position.sums place (pos 0)) (get_or c.args.behind.now place (pos 0)) (get_or c.args.before.now place (pos 0))
    (subst (IsWithin (most_payoff * 8000)) (sym same) old)
    (All-get_or (IsWithin (most_payoff * 2000)) c.args.behind.now place (pos 0) (omega (arith, c.told-behind, c.loop-position-test.true)) c.requires.behind)
    (All-get_or (IsWithin (most_payoff * 2000)) c.args.before.now place (pos 0) (omega (arith, c.told-before, c.loop-position-test.true)) c.requires.before)

pub loop-position-preserved : goal.loop-position-preserved
loop-position-preserved c =
    let place = c.loop-position.position in
    let same : get_or c.loop-position.sums place (pos 0) ≡ get_or c.args.lucks.now place (pos 0) = c.loop-position.invariant.others place (omega arith) in
    let old : IsWithin (most_payoff * 8000) (get_or c.args.lucks.now place (pos 0)) = All-get_or (IsWithin (most_payoff * 8000)) c.args.lucks.now place (pos 0) (omega (arith, c.told-lucks, c.loop-position-test.true)) c.requires.lucks in
    let value = moved_read (get_or c.loop-position.sums place (pos 0)) (get_or c.args.behind.now place (pos 0)) (get_or c.args.before.now place (pos 0))
    (subst (IsWithin (most_payoff * 8000)) (sym same) old)
    (All-get_or (IsWithin (most_payoff * 2000)) c.args.behind.now place (pos 0) (omega (arith, c.told-behind, c.loop-position-test.true)) c.requires.behind)
    (All-get_or (IsWithin (most_payoff * 2000)) c.args.before.now place (pos 0) (omega (arith, c.told-before, c.loop-position-test.true)) c.requires.before) in
    record {
      places = length-set c.loop-position.sums place _ ∙ c.loop-position.invariant.places;
      so_far = set_more c.loop-position.sums place _ (λ k. get_or c.args.lucks.now k (pos 0) +ℤ (get_or c.args.behind.now k (pos 0) -ℤ get_or c.args.before.now k (pos 0)))
          (omega (arith, c.loop-position.invariant.places, c.loop-position-test.true)) c.loop-position.invariant.so_far
          (value ∙ ap (λ (z : ℤ). z +ℤ (get_or c.args.behind.now place (pos 0) -ℤ get_or c.args.before.now place (pos 0))) same);
      others = λ k above. get_or-set_other c.loop-position.sums place k _ (pos 0) (omega arith) ∙ c.loop-position.invariant.others k (omega arith);
    }

pub returns-clause-total : goal.returns-clause-total
returns-clause-total c =
    total_moved c.args.lucks.now c.args.before.now c.args.behind.now c.loop-position.sums
    (omega (arith, c.loop-position.invariant.places, c.told-lucks)) (omega (arith, c.told-before, c.told-lucks)) (omega (arith, c.told-behind, c.told-lucks))
    (λ k within. c.loop-position.invariant.so_far k (omega (arith, c.told-lucks, within, c.loop-position-test.false)))
