-- The seat to act at a table, as it is looked up.
use Rattle.std.proofs.Common.{◌≡◌, ℕ, ◌+◌, ◌-◌, List, length, refl, ap, sym, ◌∙◌, arith}
use Rattle.std.specs.Prelude.{Option, Some, None, false, ◌==◌}
use Rattle.std.specs.Option.{option_map}
use Rattle.std.proofs.lemmas.Bool.Decides.{nat_tests}
use Rattle.betting.specs.Rounds.{to_act, turns}
use Rattle.betting.specs.declared.action.Action.{Action}
use Rattle.game_def.specs.Game.{Game}
use Rattle.slot_log.specs.Hand.{Hand, Match}
use Rattle.slot_log.specs.Dealer.{hand_at}
use Rattle.node_service.specs.Knowing.{seat_by, seat_in_hand, seat_to_act}

-- no hand was dealt
pub nobody_acts : (table : Match) → length table.hands ≡ 0 → None ≡ seat_to_act table
nobody_acts table none = rw none refl

in_found : (game : Game) (hand : ℕ) (found : Option Hand) (past : List Action) → option_map (λ (f : Hand). f.past) found ≡ Some past
    → seat_in_hand game hand found ≡ seat_by hand game.players (to_act game (turns game past))
in_found game hand (Some found) past is = let same : found.past ≡ past = cc in ap (λ (p : List Action). seat_by hand game.players (to_act game (turns game p))) same
in_found game hand None past is = absurd (cc)

in_none : (game : Game) (hand : ℕ) (found : Option Hand) → option_map (λ (f : Hand). f.past) found ≡ None → seat_in_hand game hand found ≡ None
in_none game hand (Some found) is = absurd (cc)
in_none game hand None is = refl

dealt : (table : Match) (hand : ℕ) → length table.hands ≡ hand + 1 → seat_to_act table ≡ seat_in_hand table.game hand (hand_at table.hands hand)
dealt table hand is =
    let some : (hand + 1 == 0) ≡ false = grind (arith, nat_tests) in
    let last : hand + 1 - 1 ≡ hand = omega arith in
    rw (is, some, last) refl

-- the last one isn't there
pub nobody_found : (table : Match) (hand : ℕ) → length table.hands ≡ hand + 1 → option_map (λ (f : Hand). f.past) (hand_at table.hands hand) ≡ None → None ≡ seat_to_act table
nobody_found table hand is none = sym (dealt table hand is ∙ in_none table.game hand (hand_at table.hands hand) none)

-- in the last one, with these actions, this position is to act, or none
pub acts_there : (table : Match) (hand : ℕ) (past : List Action) (position : Option ℕ) → length table.hands ≡ hand + 1
    → option_map (λ (f : Hand). f.past) (hand_at table.hands hand) ≡ Some past → position ≡ to_act table.game (turns table.game past) → seat_by hand table.game.players position ≡ seat_to_act table
acts_there table hand past position is found acts =
    sym (dealt table hand is ∙ (in_found table.game hand (hand_at table.hands hand) past found ∙ ap (λ (p : Option ℕ). seat_by hand table.game.players p) (sym acts)))
