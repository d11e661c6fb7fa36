-- An allowed action keeps the fields of a play.
use Rattle.std.proofs.Common.{◌≡◌, ℕ, ◌+◌, ◌-◌, ◌*◌, ◌<◌, ◌≤◌, true, List, [], ◌∷◌, ◌++◌, length, take, set, reverse, Some, None, refl, sym, ap, ◌∙◌, arith, subst, length-take}
use Rattle.std.proofs.lemmas.List.{reverse-append, length-reverse, take_more_set}
use Rattle.std.proofs.Math.ListN.{length-set}
use Rattle.std.proofs.lemmas.Option.{same_Some}
use Rattle.game_def.specs.Game.{Game, stack_of}
use Rattle.betting.specs.declared.action.Action.{Action}
use Rattle.betting.specs.declared.action.Action.TheVariants.{Fold, Call, Raise}
use Rattle.betting.specs.declared.totals.Totals.{Totals}
use Rattle.betting.specs.declared.play.Play.TheInside.{Inside}
use Rattle.betting.specs.Turns.{Turn, turn_by, max_spent, owes, owing_count, actions_in, raises_in}
use Rattle.betting.specs.Rounds.{current_round, to_act, turns}
use Rattle.betting.specs.Legal.{CanAct, Allows, Legal}
use Rattle.betting.specs.Text.{slash_count, slash_counts}
use Rattle.betting.specs.Betting.{Betting, history}
use Rattle.betting.specs.TotalsInside.{IsTally, IsTotals, GoesUp, takes, advances}
use Rattle.betting.specs.PlayInside.{IsKept, past_of, betting_of}
use Rattle.betting.proofs.Sound.{Sound, IsNext}
use Rattle.betting.proofs.SoundSteps.{raise_between}
use Rattle.betting.proofs.Legal.{turns-cons, length-turns}
use Rattle.betting.proofs.Slashes.{rounds_fit}
use Rattle.betting.proofs.Tally.{tally-takes, totals-advance}
use Rattle.betting.proofs.Kept.{kept_sound, kept_next}

-- the position to act, and that it may
pub record CanTake (d : Inside) (position : ℕ) (a : Action) : Type 0 where
  pub kept : IsKept d
  pub acts : to_act d.game (turns d.game (past_of d)) ≡ Some position
  pub next : IsNext d.game (turns d.game (past_of d)) position
  pub allowed : Allows d.game (turns d.game (past_of d)) position a

allowed_by : (game : Game) (h : List Turn) (a : Action) (position : ℕ) → to_act game h ≡ Some position → CanAct game h a → Allows game h position a
unfolding CanAct
allowed_by game h a position e can =
    let same : can.0 ≡ position = same_Some _ _ (sym can.1 ∙ e) in
    subst (λ p. Allows game h p a) same can.2

pub can_take : (d : Inside) (b : Betting) → betting_of d ≡ b → IsKept d → (a : Action) (position : ℕ) → d.totals.next ≡ Some position → CanAct b.game (history b) a → CanTake d position a
can_take d b is kept a position e allowed =
    let can : CanAct d.game (turns d.game (past_of d)) a = subst (λ (w : Betting). CanAct w.game (history w) a) (sym is) allowed in
    let acts : to_act d.game (turns d.game (past_of d)) ≡ Some position = sym kept.totals.next ∙ e in
    record { kept = kept; acts = acts; next = kept_next d kept position e; allowed = allowed_by d.game (turns d.game (past_of d)) a position acts can }

pub somebody_takes : (d : Inside) (b : Betting) → betting_of d ≡ b → IsKept d → (a : Action) → d.totals.next ≡ None → CanAct b.game (history b) a → ⊥
unfolding CanAct
somebody_takes d b is kept a e allowed =
    let can : CanAct d.game (turns d.game (past_of d)) a = subst (λ (w : Betting). CanAct w.game (history w) a) (sym is) allowed in
    let wrong : Some can.0 ≡ None = sym can.1 ∙ sym kept.totals.next ∙ e in cc

module _ (d : Inside) (position : ℕ) (a : Action) (can : CanTake d position a) where
  sound : Sound d.game (turns d.game (past_of d))
  sound = kept_sound d can.kept

  pub taker_seat : position < d.game.players
  taker_seat = can.next.found.most

  pub taker_place : position < 10
  taker_place = omega (arith, taker_seat, can.kept.game.most_players)

  pub taken_round : d.totals.round ≤ 3
  taken_round = rw can.kept.totals.round (sound.round_fits)

  owing_is : d.totals.owing ≡ owing_count d.game (current_round d.game (turns d.game (past_of d))) (turns d.game (past_of d))
  owing_is = rw can.kept.totals.round at can.kept.totals.tally.owing

  actions_are : d.totals.actions ≡ actions_in (current_round d.game (turns d.game (past_of d))) (turns d.game (past_of d))
  actions_are = rw can.kept.totals.round at can.kept.totals.tally.actions

  raises_are : d.totals.raises ≡ raises_in (current_round d.game (turns d.game (past_of d))) (turns d.game (past_of d))
  raises_are = rw can.kept.totals.round at can.kept.totals.tally.raises

  pub taker_owes : 1 ≤ d.totals.owing
  taker_owes = omega (arith, owing_is, sound.somebody_owes can.next.open_hand)

  pub taken_room : d.totals.actions < 64
  taken_room = omega (arith, actions_are, owing_is, sound.somebody_owes can.next.open_hand, sound.room)

  pub taken_raises : d.totals.raises < 64
  taken_raises = omega (arith, raises_are, actions_are, taken_room, sound.raises_fit)

  goes : (b : Action) → Allows d.game (turns d.game (past_of d)) position b → GoesUp d.totals.max_spent b
  goes Fold allowed = tt
  goes Call allowed = tt
  goes (Raise amount) allowed =
      let between : (max_spent d.game (turns d.game (past_of d)) < amount) × (amount ≤ stack_of d.game position) =
      raise_between d.game can.kept.game (turns d.game (past_of d)) position amount sound.round_fits sound.full_raise allowed.0 allowed.1 allowed.2 in
      rw can.kept.totals.tally.most between.0

  pub taken_up : GoesUp d.totals.max_spent a
  taken_up = goes a can.allowed

  past_length : length (past_of d) ≡ d.count
  past_length = length-reverse (take d.count d.actions) ∙ length-take d.count d.actions ∙ (omega (arith, can.kept.count, can.kept.places))

  pub taken_place : d.count < 256
  taken_place =
      let fits : length (turns d.game (past_of d)) ≤ 64 * current_round d.game (turns d.game (past_of d)) + actions_in (current_round d.game (turns d.game (past_of d))) (turns d.game (past_of d)) = sound.past_fits in
      let same : length (turns d.game (past_of d)) ≡ length (past_of d) = length-turns d.game (past_of d) in
      let round : current_round d.game (turns d.game (past_of d)) ≤ 3 = sound.round_fits in
      omega (arith, past_length, taken_room, actions_are)

  pub taken_past : reverse (take (d.count + 1) (set d.actions d.count a)) ≡ a ∷ past_of d
  taken_past =
      let more : take (d.count + 1) (set d.actions d.count a) ≡ take d.count d.actions ++ (a ∷ []) = take_more_set d.actions d.count a (omega (arith, taken_place, can.kept.places)) in
      ap reverse more ∙ reverse-append (take d.count d.actions) (a ∷ [])

  owed : owes d.game d.totals.round (turns d.game (past_of d)) position ≡ true
  owed = rw can.kept.totals.round can.next.owing

  tally : IsTally d.game (turn_by position d.totals.round a ∷ turns d.game (past_of d)) (takes d.game d.totals position a)
  tally = tally-takes d.game (turns d.game (past_of d)) d.totals can.kept.totals.tally position taker_seat can.kept.game.most_players a owed taken_up

  takes_round : (b : Action) → (takes d.game d.totals position b).round ≡ d.totals.round
  takes_round Fold = refl
  takes_round Call = refl
  takes_round (Raise amount) = refl

  moved : IsTotals d.game (turn_by position d.totals.round a ∷ turns d.game (past_of d)) (advances d.game (takes d.game d.totals position a) position)
  moved = totals-advance d.game can.kept.game (turns d.game (past_of d)) position d.totals.round a (takes d.game d.totals position a) tally (takes_round a) taken_round taker_seat
      (λ s later. sound.no_later_action s (omega (arith, can.kept.totals.round)))
      (λ s later. sound.no_later_raise s (omega (arith, can.kept.totals.round)))

  pub taken_totals : IsTotals d.game (turns d.game (a ∷ past_of d)) (advances d.game (takes d.game d.totals position a) position)
  taken_totals =
      rw (turns-cons d.game (past_of d) position a can.acts, ← can.kept.totals.round) moved

  pub taken_legal : Legal d.game (a ∷ past_of d)
  unfolding CanAct
  taken_legal = (can.kept.legal, (position, can.acts, can.allowed))

  -- the fields after the action
  abbrev pub after_fields : ℕ → Totals → Inside
  after_fields slash totals = record {
    game = d.game;
    actions = set d.actions d.count a;
    slashes = set d.slashes d.count slash;
    count = d.count + 1;
    totals = totals;
  }

  taken_slash : (t : Totals) → t ≡ advances d.game (takes d.game d.totals position a) position → t.round - d.totals.round ≡ slash_count d.game (past_of d) a
  taken_slash t e =
      let after : t.round ≡ current_round d.game (turns d.game (a ∷ past_of d)) = rw e (taken_totals.round) in
      rw (after, can.kept.totals.round) refl

  taken_slashes : (slash : ℕ) → slash ≡ slash_count d.game (past_of d) a → take (d.count + 1) (set d.slashes d.count slash) ≡ reverse (slash_counts d.game (a ∷ past_of d))
  unfolding slash_counts
  taken_slashes slash e =
      let more : take (d.count + 1) (set d.slashes d.count slash) ≡ take d.count d.slashes ++ (slash ∷ []) = take_more_set d.slashes d.count slash (omega (arith, taken_place, can.kept.slash_places)) in
      let counts : List ℕ = slash_counts d.game (past_of d) in
      more ∙ ap (λ front. front ++ (slash ∷ [])) can.kept.slashes ∙ ap (λ n. reverse counts ++ (n ∷ [])) e ∙ sym (reverse-append (slash_count d.game (past_of d) a ∷ []) counts)

  pub taken_kept : (slash : ℕ) (t : Totals) → t ≡ advances d.game (takes d.game d.totals position a) position → slash ≡ t.round - d.totals.round
      → IsKept (after_fields slash t)
  taken_kept slash t e is = record {
    game = can.kept.game;
    places = length-set {A = Action} d.actions d.count a ∙ can.kept.places;
    slash_places = length-set {A = ℕ} d.slashes d.count slash ∙ can.kept.slash_places;
    count = omega (arith, taken_place);
    legal = rw taken_past taken_legal;
    slashes = rw taken_past (taken_slashes slash (is ∙ taken_slash t e));
    totals = rw (taken_past, e) taken_totals;
  }

  -- the slashes fit a byte
  pub taken_few : (t : Totals) → t ≡ advances d.game (takes d.game d.totals position a) position → t.round ≤ 3
  taken_few t e = let fits : current_round d.game (turns d.game (a ∷ past_of d)) ≤ 3 = rounds_fit d.game (a ∷ past_of d) in rw (e, taken_totals.round) fits

  pub taken_value : (b : Betting) → betting_of d ≡ b → (slash : ℕ) (t : Totals)
      → (let next : Betting = record { game = b.game; past = a ∷ b.past } in betting_of (after_fields slash t) ≡ next)
  taken_value b is slash t =
      let with_past : List Action → Betting = λ past. record { game = d.game; past = past } in
      let with_action : Betting → Betting = λ w. record { game = w.game; past = a ∷ w.past } in
      ap with_past taken_past ∙ ap with_action is
