use Rattle.std.proofs.Common.{◌≡◌, ℕ, ◌+◌, ◌<◌, ◌++◌, ◌∙◌, [], ap, get_or, length, arith}
use Rattle.std.proofs.lemmas.List.{get_or_default}
use Rattle.std.proofs.Math.Nat.{mod-lt}
use Rattle.matchstate.specs.View.{seat_of}
use Rattle.match_log.specs.Lines.{bar_before}
use Rattle.match_log.proofs.Joined.{range_written_more}
use Rattle.match_log.proofs.fields.put_names.Goals as goal

pub loop-position-preserved : goal.loop-position-preserved
loop-position-preserved c =
    let seat : ℕ = seat_of (length c.args.names.now) c.args.hand c.loop-position.position in
    let within : seat < length c.args.names.now = mod-lt (c.loop-position.position + c.args.hand) (omega (arith, c.requires.some)) in
    let read : c.as_bytes.result.now ≡ get_or c.args.names.now seat [] =
    c.as_bytes.ensures.value ∙ (c.index-names-position.is ∙ get_or_default c.args.names.now seat c.index-names-position.result [] within) in
    record {
      written =
          range_written_more (λ name. name) (λ position. get_or c.args.names.now (seat_of (length c.args.names.now) c.args.hand position) []) c.loop-position.position c.args.out.now.items c.loop-position.out.items c.put.new.out.items c.loop-position.invariant.written
          (c.put.ensures.items ∙ (ap (λ t. t ++ c.as_bytes.result.now) c.put_bar.ensures.items ∙ ap (λ t. (c.loop-position.out.items ++ bar_before c.loop-position.position) ++ t) read));
      len = omega (arith, c.put.ensures.len, c.as_bytes.ensures.most, c.put_bar.ensures.len, c.loop-position.invariant.len);
      capacity = omega (arith, c.put.ensures.capacity, c.put_bar.ensures.capacity, c.loop-position.invariant.capacity);
    }
