-- What the fields of a play tell of its history.
use Rattle.std.proofs.Common.{◌≡◌, ℕ, ◌<◌, ◌≤◌, Bool, true, false, not, List, take, Option, Some, None, refl, sym, ap, ◌∙◌, arith, subst}
use Rattle.std.specs.Prelude.{slice_index, IfSome, is_none, is_some}
use Rattle.game_def.specs.Game.{Game, stack_of}
use Rattle.betting.specs.declared.totals.Totals.{Totals}
use Rattle.betting.specs.declared.play.Play.TheInside.{Inside}
use Rattle.betting.specs.Turns.{Turn, count_below, max_spent, spent, folded, live, live_count, unfolded_count, actions_in, raises_in, min_to}
use Rattle.betting.specs.Rounds.{over, current_round, to_act, turns}
use Rattle.betting.specs.Legal.{limit_to, least_raise, greatest_raise, no_raise}
use Rattle.betting.specs.TotalsInside.{IsTotals, seat_lives, seat_stays, lives_in, least_by, greatest_by, no_raise_by}
use Rattle.betting.specs.PlayInside.{IsKept, past_of, betting_of}
use Rattle.betting.specs.Betting.{Betting, history}
use Rattle.betting.proofs.Counts.{count_below-same}
use Rattle.betting.proofs.Slashes.{slashes-few}
use Rattle.betting.proofs.Sound.{Sound, IsNext, next_is, acts_unless_over}
use Rattle.betting.proofs.Legal.{sound_legal}

pub if_some : {A : Type 0} (P : A → Type 0) (o : Option A) → ((x : A) → o ≡ Some x → P x) → IfSome o P
if_some P None h = tt
if_some P (Some x) h = h x refl

pub kept_sound : (d : Inside) → IsKept d → Sound d.game (turns d.game (past_of d))
kept_sound d kept = sound_legal d.game kept.game (past_of d) kept.legal

pub kept_next : (d : Inside) → IsKept d → (position : ℕ) → d.totals.next ≡ Some position → IsNext d.game (turns d.game (past_of d)) position
kept_next d kept position e = next_is d.game (turns d.game (past_of d)) (kept_sound d kept) position (sym kept.totals.next ∙ e)

pub kept_seat : (d : Inside) → IsKept d → (position : ℕ) → d.totals.next ≡ Some position → position < d.game.players
kept_seat d kept position e = (kept_next d kept position e).found.most

pub kept_next_fits : (d : Inside) → IsKept d → IfSome d.totals.next (λ position. position < d.game.players)
kept_next_fits d kept = if_some (λ position. position < d.game.players) d.totals.next (kept_seat d kept)

pub kept_over : (d : Inside) → IsKept d → is_none d.totals.next ≡ over d.game (turns d.game (past_of d))
kept_over d kept = ap is_none kept.totals.next ∙ acts_unless_over d.game (turns d.game (past_of d)) (kept_sound d kept)

module _ (game : Game) (h : List Turn) (t : Totals) (totals : IsTotals game h t) where
  step_is : t.min_to ≡ min_to game (current_round game h) h
  step_is = rw totals.round at totals.tally.full_raise

  pub least_same : (p : ℕ) → least_by game t p ≡ least_raise game h p
  unfolding least_raise limit_to
  least_same p = rw (step_is, totals.round, totals.tally.most) refl

  pub greatest_same : (p : ℕ) → greatest_by game t p ≡ greatest_raise game h p
  unfolding greatest_raise limit_to
  greatest_same p = rw (totals.round, totals.tally.most) refl

  live_same : lives_in game t ≡ live_count game h
  unfolding live_count live
  live_same = count_below-same (seat_lives game t) (live game h) game.players (λ q b. rw (totals.tally.spent_each q b, totals.tally.folded_each q b) refl)

  pub no_raise_same : (p : ℕ) → no_raise_by game t p ≡ no_raise game h p
  unfolding no_raise
  no_raise_same p =
      let raises : t.raises ≡ raises_in (current_round game h) h = rw totals.round at totals.tally.raises in
      let actions : t.actions ≡ actions_in (current_round game h) h = rw totals.round at totals.tally.actions in
      rw (raises, actions, live_same, totals.tally.most, totals.round) refl

pub kept_few : (d : Inside) → IsKept d → (index : ℕ) → slice_index (take d.count d.slashes) index ≤ 3
kept_few d kept index = rw kept.slashes (slashes-few d.game (past_of d) index)

none_tested : (o : Option ℕ) (result : Bool) → is_some o ≡ not result → result ≡ is_none o
none_tested None true e = refl
none_tested None false e = e
none_tested (Some x) true e = e
none_tested (Some x) false e = refl

-- the same, of the value that a caller sees
module _ (d : Inside) (b : Betting) (is : betting_of d ≡ b) (kept : IsKept d) where
  pub seen_next : IfSome d.totals.next (λ position. position < b.game.players)
  seen_next = subst (λ (w : Betting). IfSome d.totals.next (λ position. position < w.game.players)) is (kept_next_fits d kept)

  pub seen_within_stack : (p : ℕ) → p < b.game.players → slice_index d.totals.spent p ≤ stack_of b.game p
  seen_within_stack p = subst (λ (w : Betting). p < w.game.players → slice_index d.totals.spent p ≤ stack_of w.game p) is (λ within. rw (kept.totals.tally.spent_each p within) ((kept_sound d kept).within_stack p within))

  pub seen_within_most : (p : ℕ) → p < b.game.players → slice_index d.totals.spent p ≤ max_spent b.game (history b)
  seen_within_most p = subst (λ (w : Betting). p < w.game.players → slice_index d.totals.spent p ≤ max_spent w.game (history w)) is (λ within. rw (kept.totals.tally.spent_each p within) ((kept_sound d kept).within_most p within))

  pub seen_unfolded : count_below (seat_stays d.totals) d.game.players ≡ unfolded_count b.game (history b)
  unfolding unfolded_count
  seen_unfolded =
      subst (λ (w : Betting). count_below (seat_stays d.totals) d.game.players ≡ count_below (λ position. not (folded (history w) position)) w.game.players) is
      (count_below-same (seat_stays d.totals) (λ position. not (folded (turns d.game (past_of d)) position)) d.game.players (λ p within. ap not (kept.totals.tally.folded_each p within)))

  pub seen_over : is_none d.totals.next ≡ over b.game (history b)
  seen_over = subst (λ (w : Betting). is_none d.totals.next ≡ over w.game (history w)) is (kept_over d kept)

  pub seen_finished : (result : Bool) → is_some d.totals.next ≡ not result → result ≡ over b.game (history b)
  seen_finished result e = none_tested d.totals.next result e ∙ seen_over

  pub seen_round : d.totals.round ≤ 3
  seen_round = rw kept.totals.round ((kept_sound d kept).round_fits)

  pub seen_actions : d.totals.actions ≤ 64
  seen_actions =
      let actions : d.totals.actions ≡ actions_in (current_round d.game (turns d.game (past_of d))) (turns d.game (past_of d)) = rw kept.totals.round at kept.totals.tally.actions in
      let room = (kept_sound d kept).room in omega (arith, room)

  pub seen_to_act : d.totals.next ≡ to_act b.game (history b)
  seen_to_act = subst (λ (w : Betting). d.totals.next ≡ to_act w.game (history w)) is kept.totals.next

  pub seen_most : d.totals.max_spent ≡ max_spent b.game (history b)
  seen_most = subst (λ (w : Betting). d.totals.max_spent ≡ max_spent w.game (history w)) is kept.totals.tally.most

  pub seen_least_raise : (p : ℕ) → least_by d.game d.totals p ≡ least_raise b.game (history b) p
  seen_least_raise p = subst (λ (w : Betting). least_by d.game d.totals p ≡ least_raise w.game (history w) p) is (least_same d.game (turns d.game (past_of d)) d.totals kept.totals p)

  pub seen_greatest_raise : (p : ℕ) → greatest_by d.game d.totals p ≡ greatest_raise b.game (history b) p
  seen_greatest_raise p = subst (λ (w : Betting). greatest_by d.game d.totals p ≡ greatest_raise w.game (history w) p) is (greatest_same d.game (turns d.game (past_of d)) d.totals kept.totals p)

  pub seen_no_raise : (p : ℕ) → no_raise_by d.game d.totals p ≡ no_raise b.game (history b) p
  seen_no_raise p = subst (λ (w : Betting). no_raise_by d.game d.totals p ≡ no_raise w.game (history w) p) is (no_raise_same d.game (turns d.game (past_of d)) d.totals kept.totals p)

  pub seen_seat : (p : ℕ) → d.totals.next ≡ Some p → p < b.game.players
  seen_seat p = subst (λ (w : Betting). d.totals.next ≡ Some p → p < w.game.players) is (kept_seat d kept p)
