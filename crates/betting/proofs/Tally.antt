-- How an action changes the running totals, and that they stay those of the history.
use Rattle.std.proofs.Common.{◌≡◌, ℕ, ◌+◌, ◌-◌, ◌<◌, ◌≤◌, ◌≢◌, min, Bool, true, false, cond, not, eqb, List, ◌∷◌, length, Option, None, refl, sym, ap, ◌∙◌, arith, inl, inr}
use Rattle.game_def.specs.Game.{Game, IsGame, stack_of, big_blind}
use Rattle.std.proofs.Common.{subst, set, get_or-set_other}
use Rattle.std.proofs.Math.ListN.{length-set}
use Rattle.std.proofs.lemmas.Bool.{cases_eq, eq-eqb, ne_eqb, cond-true, cond-false}
use Rattle.std.proofs.lemmas.Grind.{get_or-set_at}
use Rattle.std.specs.Prelude.{slice_index, slice_index_or}
use Rattle.betting.specs.declared.action.Action.{Action}
use Rattle.betting.specs.declared.action.Action.TheVariants.{Fold, Call, Raise}
use Rattle.betting.specs.declared.totals.Totals.{Totals}
use Rattle.betting.specs.Turns.{Turn, turn_by, is_raise, raised_to, count_below, max_spent, spent, folded, live, live_count, unfolded_count, owes, owing_count, actions_in, raises_in}
use Rattle.betting.specs.Rounds.{first_cyclic, over, current_round, search_start, to_act}
use Rattle.betting.proofs.Counts.{count_below-same}
use Rattle.betting.proofs.Search.{first_cyclic-same}
use Rattle.betting.proofs.Bounds.{first_fits}
use Rattle.betting.proofs.Advance.{current-turn, over-turn, round_fits, round_moves}
use Rattle.betting.proofs.Steps.{max_spent-turn, spent-other, folded-other, actions-turn, raises-turn, spent-fold, spent-call, spent-raise, folded-fold, folded-call, folded-raise, min_to-fold, min_to-call, min_to-raise, owing-paid, owing-raised, min_to-new, raises-new, actions-new, owing-new}
use Rattle.betting.specs.TotalsInside.{IsTally, IsTotals, GoesUp, folds, calls, puts_in, raises_to, takes, seat_lives, lives_in, seat_stays, stays_in, round_after, ends_hand, enters, looks_from, advances}

pub advances-by : (game : Game) (t : Totals) (position unfolded live round start : ℕ) (is_over : Bool) (next : Option ℕ) (entered : Totals)
    → unfolded ≡ stays_in game t → live ≡ lives_in game t → round ≡ round_after t unfolded live → start ≡ looks_from game t round position
    → is_over ≡ ends_hand t unfolded live → next ≡ cond is_over None (first_cyclic (seat_lives game t) game.players start) → entered ≡ enters game t round live
    → (let moved : Totals = record entered { next = next } in moved) ≡ advances game t position
unfolding advances
advances-by game t position unfolded live round start is_over next entered a b c d e f g = cc

module _ (game : Game) (h : List Turn) (t : Totals) (tally : IsTally game h t) (p : ℕ) (within : p < game.players) (places : game.players ≤ 10) where
  seat : p < length t.spent
  seat = omega (arith, tally.spent_places)

  flag : p < length t.folded
  flag = omega (arith, tally.folded_places)

  most_same : (a : Action) → raised_to a ≡ 0 → t.max_spent ≡ max_spent game (turn_by p t.round a ∷ h)
  most_same a e = tally.most ∙ sym (max_spent-turn game h p t.round a ∙ (omega (arith, e)))

  no_raise : (a : Action) → is_raise a ≡ false → t.raises ≡ raises_in t.round (turn_by p t.round a ∷ h)
  no_raise a quiet = tally.raises ∙ sym (raises-turn game h p t.round a ∙ (rw quiet (omega arith)))

  one_more : (a : Action) → t.actions + 1 ≡ actions_in t.round (turn_by p t.round a ∷ h)
  one_more a = rw (actions-turn game h p t.round a, tally.actions) refl

  one_less : (a : Action) → is_raise a ≡ false → owes game t.round h p ≡ true → t.owing - 1 ≡ owing_count game t.round (turn_by p t.round a ∷ h)
  one_less a quiet owed = omega (arith, tally.owing, owing-paid game h p t.round a quiet within owed)

  tally-fold : owes game t.round h p ≡ true → IsTally game (turn_by p t.round Fold ∷ h) (folds t p)
  tally-fold owed = record {
    spent_places = tally.spent_places;
    folded_places = length-set {A = Bool} t.folded p true ∙ tally.folded_places;
    spent_each = λ q b. tally.spent_each q b ∙ sym (spent-fold game h p t.round q);
    folded_each = λ q b. elim (cases_eq p q) [
      | inl e ↦ get_or-set_at t.folded p q true false (sym e) flag ∙ sym (rw (← e) (folded-fold game h p t.round))
      | inr ne ↦ get_or-set_other t.folded p q true false (λ e. ne (sym e)) ∙ tally.folded_each q b ∙ sym (folded-other game h p t.round Fold q ne)
    ];
    most = most_same Fold refl;
    full_raise = tally.full_raise ∙ sym (min_to-fold game h p t.round);
    raises = no_raise Fold refl;
    actions = one_more Fold;
    owing = one_less Fold refl owed;
  }

  tally-call : owes game t.round h p ≡ true → IsTally game (turn_by p t.round Call ∷ h) (calls game t p)
  tally-call owed = record {
    spent_places = length-set {A = ℕ} t.spent p (min t.max_spent (stack_of game p)) ∙ tally.spent_places;
    folded_places = tally.folded_places;
    spent_each = λ q b. elim (cases_eq p q) [
      | inl e ↦ get_or-set_at t.spent p q (min t.max_spent (stack_of game p)) 0 (sym e) seat ∙ ap (λ m. min m (stack_of game p)) tally.most ∙ sym (rw (← e) (spent-call game h p t.round))
      | inr ne ↦ get_or-set_other t.spent p q (min t.max_spent (stack_of game p)) 0 (λ e. ne (sym e)) ∙ tally.spent_each q b ∙ sym (spent-other game h p t.round Call q ne)
    ];
    folded_each = λ q b. tally.folded_each q b ∙ sym (folded-call game h p t.round q);
    most = most_same Call refl;
    full_raise = tally.full_raise ∙ sym (min_to-call game h p t.round);
    raises = no_raise Call refl;
    actions = one_more Call;
    owing = one_less Call refl owed;
  }

  -- a raise, but for who owes an answer
  raised_spent : (amount q : ℕ) → q < game.players → slice_index (set t.spent p amount) q ≡ spent game (turn_by p t.round (Raise amount) ∷ h) q
  raised_spent amount q b = elim (cases_eq p q) [
    | inl e ↦ get_or-set_at t.spent p q amount 0 (sym e) seat ∙ sym (rw (← e) (spent-raise game h p t.round amount))
    | inr ne ↦ get_or-set_other t.spent p q amount 0 (λ e. ne (sym e)) ∙ tally.spent_each q b ∙ sym (spent-other game h p t.round (Raise amount) q ne)
  ]

  raised_lives : (amount q : ℕ) → q < game.players → seat_lives game (puts_in t p amount) q ≡ live game (turn_by p t.round (Raise amount) ∷ h) q
  unfolding live
  raised_lives amount q b =
      let chips : slice_index (set t.spent p amount) q ≡ spent game (turn_by p t.round (Raise amount) ∷ h) q = raised_spent amount q b in
      let stays : slice_index_or t.folded q false ≡ folded (turn_by p t.round (Raise amount) ∷ h) q = tally.folded_each q b ∙ sym (folded-raise game h p t.round amount q) in
      rw (chips, stays) refl

  raised_owing : (amount : ℕ) → lives_in game (puts_in t p amount) - cond (seat_lives game (puts_in t p amount) p) 1 0 ≡ owing_count game t.round (turn_by p t.round (Raise amount) ∷ h)
  unfolding live_count
  raised_owing amount =
      let all : count_below (seat_lives game (puts_in t p amount)) game.players ≡ count_below (live game (turn_by p t.round (Raise amount) ∷ h)) game.players =
      count_below-same (seat_lives game (puts_in t p amount)) (live game (turn_by p t.round (Raise amount) ∷ h)) game.players (raised_lives amount) in
      let own : seat_lives game (puts_in t p amount) p ≡ live game (turn_by p t.round (Raise amount) ∷ h) p = raised_lives amount p within in
      let sum : owing_count game t.round (turn_by p t.round (Raise amount) ∷ h) + cond (live game (turn_by p t.round (Raise amount) ∷ h) p) 1 0 ≡ count_below (live game (turn_by p t.round (Raise amount) ∷ h)) game.players =
      owing-raised game h p t.round amount within in
      rw (all, own) (omega (arith, sum))

  tally-raise : (amount : ℕ) → t.max_spent < amount → IsTally game (turn_by p t.round (Raise amount) ∷ h) (raises_to game t p amount)
  tally-raise amount higher = record {
    spent_places = length-set {A = ℕ} t.spent p amount ∙ tally.spent_places;
    folded_places = tally.folded_places;
    spent_each = raised_spent amount;
    folded_each = λ q b. tally.folded_each q b ∙ sym (folded-raise game h p t.round amount q);
    most = sym (max_spent-turn game h p t.round (Raise amount) ∙ (omega (arith, tally.most)));
    full_raise = sym (min_to-raise game h p t.round amount ∙ (rw (tally.most, tally.full_raise) (omega arith)));
    raises = rw (raises-turn game h p t.round (Raise amount), tally.raises) refl;
    actions = one_more (Raise amount);
    owing = raised_owing amount;
  }

  pub tally-takes : (a : Action) → owes game t.round h p ≡ true → GoesUp t.max_spent a → IsTally game (turn_by p t.round a ∷ h) (takes game t p a)
  tally-takes Fold owed goes = tally-fold owed
  tally-takes Call owed goes = tally-call owed
  tally-takes (Raise amount) owed goes = tally-raise amount goes

-- the totals of a turn's own round, moved on to the round that has begun
module _ (game : Game) (is_game : IsGame game) (h : List Turn) (p r : ℕ) (a : Action) (t : Totals) (tally : IsTally game (turn_by p r a ∷ h) t) (same_round : t.round ≡ r) (fits : r ≤ 3) (within : p < game.players) where
  lives_same : (q : ℕ) → q < game.players → seat_lives game t q ≡ live game (turn_by p r a ∷ h) q
  unfolding live
  lives_same q b = rw (tally.spent_each q b, tally.folded_each q b) refl

  live_same : lives_in game t ≡ live_count game (turn_by p r a ∷ h)
  unfolding live_count
  live_same = count_below-same (seat_lives game t) (live game (turn_by p r a ∷ h)) game.players lives_same

  unfolded_same : stays_in game t ≡ unfolded_count game (turn_by p r a ∷ h)
  unfolding unfolded_count
  unfolded_same = count_below-same (seat_stays t) (λ position. not (folded (turn_by p r a ∷ h) position)) game.players (λ q b. ap not (tally.folded_each q b))

  owing_same : t.owing ≡ owing_count game r (turn_by p r a ∷ h)
  owing_same = rw same_round at tally.owing

  round_same : round_after t (stays_in game t) (lives_in game t) ≡ current_round game (turn_by p r a ∷ h)
  round_same = (rw (unfolded_same, live_same, owing_same, same_round) refl) ∙ sym (current-turn game p r a h)

  over_same : ends_hand t (stays_in game t) (lives_in game t) ≡ over game (turn_by p r a ∷ h)
  over_same = (rw (unfolded_same, live_same, owing_same, same_round) refl) ∙ sym (over-turn game p r a h)

  start_same : looks_from game t (round_after t (stays_in game t) (lives_in game t)) p ≡ search_start game (turn_by p r a ∷ h)
  unfolding search_start
  start_same = rw (round_same, same_round) refl

  start_fits : search_start game (turn_by p r a ∷ h) ≤ game.players
  unfolding search_start
  start_fits = elim (cases_eq (current_round game (turn_by p r a ∷ h)) r) [
    | inl e ↦ (let test : eqb (current_round game (turn_by p r a ∷ h)) r ≡ true = eq-eqb _ _ e in rw test (omega arith))
    | inr ne ↦
        let test : eqb (current_round game (turn_by p r a ∷ h)) r ≡ false = ne_eqb _ _ ne in
        let first : slice_index game.first_players (current_round game (turn_by p r a ∷ h)) < game.players = first_fits game is_game (current_round game (turn_by p r a ∷ h)) (omega (arith, round_fits game p r a h fits)) in
        rw test (omega arith)
  ]

  next_same : cond (ends_hand t (stays_in game t) (lives_in game t)) None (first_cyclic (seat_lives game t) game.players (looks_from game t (round_after t (stays_in game t) (lives_in game t)) p)) ≡ to_act game (turn_by p r a ∷ h)
  unfolding to_act
  next_same =
      let search : first_cyclic (seat_lives game t) game.players (search_start game (turn_by p r a ∷ h)) ≡ first_cyclic (live game (turn_by p r a ∷ h)) game.players (search_start game (turn_by p r a ∷ h)) =
      first_cyclic-same (seat_lives game t) (live game (turn_by p r a ∷ h)) game.players (search_start game (turn_by p r a ∷ h)) start_fits lives_same in
      rw (over_same, start_same, search)
      (elim (over game (turn_by p r a ∷ h)) as (λ b. cond b None (first_cyclic (live game (turn_by p r a ∷ h)) game.players (search_start game (turn_by p r a ∷ h)))
      ≡ elim b [ true ↦ None | false ↦ first_cyclic (live game (turn_by p r a ∷ h)) game.players (search_start game (turn_by p r a ∷ h)) ]) [ true ↦ refl | false ↦ refl ])

  tally-moved : (n : Option ℕ) → n ≡ to_act game (turn_by p r a ∷ h) → current_round game (turn_by p r a ∷ h) ≡ r → (let moved : Totals = record t { next = n } in IsTotals game (turn_by p r a ∷ h) moved)
  tally-moved n acts same = record {
    tally = record {
      spent_places = tally.spent_places;
      folded_places = tally.folded_places;
      spent_each = tally.spent_each;
      folded_each = tally.folded_each;
      most = tally.most;
      full_raise = tally.full_raise;
      raises = tally.raises;
      actions = tally.actions;
      owing = tally.owing;
    };
    round = same_round ∙ sym same;
    next = acts;
  }

  tally-entered : (s live : ℕ) (n : Option ℕ) → n ≡ to_act game (turn_by p r a ∷ h) → s ≡ current_round game (turn_by p r a ∷ h) → live ≡ live_count game (turn_by p r a ∷ h)
      → r < s → actions_in s h ≡ 0 → raises_in s h ≡ 0
      → (let moved : Totals = record t { round = s; raises = 0; actions = 0; owing = live; min_to = t.max_spent + big_blind game; next = n } in IsTotals game (turn_by p r a ∷ h) moved)
  tally-entered s living n acts is lives later no_action no_raise =
      let ne : r ≢ s = omega arith in
      record {
        tally = record {
          spent_places = tally.spent_places;
          folded_places = tally.folded_places;
          spent_each = tally.spent_each;
          folded_each = tally.folded_each;
          most = tally.most;
          full_raise = sym (min_to-new game h p r a s ne ∙ ap (λ m. m + big_blind game) (sym tally.most));
          raises = sym (raises-new game h p r a s ne ∙ no_raise);
          actions = sym (actions-new game h p r a s ne ∙ no_action);
          owing = lives ∙ sym (owing-new game h p r a s ne);
        };
        round = is;
        next = acts;
      }

  pub totals-advance : ((s : ℕ) → r < s → actions_in s h ≡ 0) → ((s : ℕ) → r < s → raises_in s h ≡ 0) → IsTotals game (turn_by p r a ∷ h) (advances game t p)
  unfolding advances
  totals-advance no_action no_raise =
      let round : ℕ = round_after t (stays_in game t) (lives_in game t) in
      let next : Option ℕ = cond (ends_hand t (stays_in game t) (lives_in game t)) None (first_cyclic (seat_lives game t) game.players (looks_from game t (round_after t (stays_in game t) (lives_in game t)) p)) in
      let family : Totals → Type 0 = λ e. let moved : Totals = record e { next = next } in IsTotals game (turn_by p r a ∷ h) moved in
      elim (round_moves game p r a h fits) [
        | inl same ↦
            let here : eqb (round_after t (stays_in game t) (lives_in game t)) t.round ≡ true = eq-eqb _ _ (round_same ∙ same ∙ sym same_round) in
            subst family (sym (cond-true (eqb (round_after t (stays_in game t) (lives_in game t)) t.round) t _ here)) (tally-moved next next_same same)
        | inr later ↦
            let ahead : r < round_after t (stays_in game t) (lives_in game t) = rw round_same later in
            let there : eqb (round_after t (stays_in game t) (lives_in game t)) t.round ≡ false = ne_eqb _ _ (omega (arith, same_round)) in
            subst family (sym (cond-false (eqb (round_after t (stays_in game t) (lives_in game t)) t.round) t _ there))
            (tally-entered (round_after t (stays_in game t) (lives_in game t)) (lives_in game t) next next_same round_same live_same ahead (no_action _ ahead) (no_raise _ ahead))
      ]
