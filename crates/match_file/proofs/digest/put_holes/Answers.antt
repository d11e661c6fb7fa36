use Rattle.std.proofs.Common.{◌++◌, ◌∙◌, ap}
use Rattle.card_core.specs.Deal.{hole_of}
use Rattle.matchstate.specs.Cards.{cards_text}
use Rattle.match_log.specs.Lines.{bar_before}
use Rattle.match_log.proofs.Joined.{range_written_more}
use Rattle.match_file.proofs.digest.put_holes.Goals as goal

pub loop-position-preserved : goal.loop-position-preserved
loop-position-preserved c =
    range_written_more cards_text (hole_of c.args.deal.now) c.loop-position.position c.args.text.now.items c.loop-position.text.items c.put_cards.new.text.items c.loop-position.invariant
    (c.in_ok-put_cards.ensures ∙ (ap (λ t. t ++ cards_text c.hole.result) c.in_ok-put_bar.ensures ∙ ap (λ h. (c.loop-position.text.items ++ bar_before c.loop-position.position) ++ cards_text h) c.hole.ensures.value))
