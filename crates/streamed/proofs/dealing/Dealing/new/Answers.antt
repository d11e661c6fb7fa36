use Rattle.std.proofs.Common.{ap, refl}
use Rattle.slot_log.specs.Hand.{Match}
use Rattle.slot_log.specs.Dealer.{hands_of}
use Rattle.streamed.proofs.dealing.Dealing.new.Goals as goal

pub returns : goal.returns
unfolding hands_of
returns c = record {
  game_is = ap (λ (m : Match). m.game) c.new.ensures;
  count_is = ap (λ (m : Match). m.count) c.new.ensures;
  hands_are = ap (λ (m : Match). m.hands) c.new.ensures;
  names_are = refl;
  log_is = refl;
  names_first = refl;
}
