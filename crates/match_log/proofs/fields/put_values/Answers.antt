use Rattle.std.proofs.Common.{◌≡◌, ◌++◌, ◌∙◌, ap, get_or, ℤ, pos, w64, arith, rules}
use Rattle.std.proofs.lemmas.Int.{to_z-of_z}
use Rattle.std.specs.Fmt.{signed_decimal}
use Rattle.match_log.proofs.Joined.{taken_written_more}
use Rattle.match_log.proofs.fields.put_values.Goals as goal

pub loop-place-preserved : goal.loop-place-preserved
loop-place-preserved c =
    let value : ℤ = get_or c.args.values.now c.loop-place.place (pos 0) in
    let read : c.put_amount.new.out.items ≡ c.put_bar.new.out.items ++ signed_decimal value =
    c.put_amount.ensures.items ∙ ap (λ z. c.put_bar.new.out.items ++ signed_decimal z) (to_z-of_z w64 value (search rules)) in
    record {
      written =
          taken_written_more signed_decimal c.args.values.now c.loop-place.place (pos 0) c.args.out.now.items c.loop-place.out.items c.put_amount.new.out.items c.loop-place-test.true c.loop-place.invariant.written
          (read ∙ ap (λ t. t ++ signed_decimal value) c.put_bar.ensures.items);
      len = omega (arith, c.put_amount.ensures.len, c.put_bar.ensures.len, c.loop-place.invariant.len);
      capacity = omega (arith, c.put_amount.ensures.capacity, c.put_bar.ensures.capacity, c.loop-place.invariant.capacity);
    }
