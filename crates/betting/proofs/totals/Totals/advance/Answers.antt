use Rattle.betting.proofs.Tally.{advances-by}
use Rattle.betting.proofs.totals.Totals.advance.Goals as goal

pub returns : goal.returns
returns c = advances-by c.args.game.now c.args.self.now c.args.position c.unfolded_count-unfolded.result c.live_count-live.result c.round_after-round.result c.looks_from-start.result c.ends_hand.result c.next_from-next.result c.enter.new.self
    c.unfolded_count-unfolded.ensures c.live_count-live.ensures.value c.round_after-round.ensures.value c.looks_from-start.ensures.value c.ends_hand.ensures c.next_from-next.ensures c.enter.ensures
