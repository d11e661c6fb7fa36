use Rattle.std.proofs.Common.{◌++◌, ◌∙◌, ap, arith}
use Rattle.card_core.specs.Deal.{hole_of}
use Rattle.matchstate.specs.Cards.{cards_text}
use Rattle.match_log.specs.Lines.{bar_before}
use Rattle.match_log.proofs.Joined.{range_written_more}
use Rattle.match_log.proofs.fields.put_holes.Goals as goal

pub loop-position-preserved : goal.loop-position-preserved
loop-position-preserved c = record {
  written =
      range_written_more cards_text (hole_of c.args.deal.now) c.loop-position.position c.args.out.now.items c.loop-position.out.items c.put_cards.new.out.items c.loop-position.invariant.written
      (c.put_cards.ensures.items ∙ (ap (λ t. t ++ cards_text c.hole.result) c.put_bar.ensures.items ∙ ap (λ h. (c.loop-position.out.items ++ bar_before c.loop-position.position) ++ cards_text h) c.hole.ensures.value));
  len = omega (arith, c.put_cards.ensures.len, c.put_bar.ensures.len, c.loop-position.invariant.len);
  capacity = omega (arith, c.put_cards.ensures.capacity, c.put_bar.ensures.capacity, c.loop-position.invariant.capacity);
}
