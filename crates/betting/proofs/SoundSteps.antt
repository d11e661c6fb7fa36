-- What holds before the first action, and stays with each allowed one.
use Rattle.std.proofs.Common.{◌≡◌, ℕ, ◌+◌, ◌-◌, ◌*◌, ◌<◌, ◌≤◌, ◌≢◌, max, min, Bool, true, false, cond, not, ◌&&◌, ◌||◌, eqb, List, [], ◌∷◌, length, Some, None, refl, sym, ◌∙◌, arith, inl, inr}
use Rattle.std.specs.Prelude.{slice_index}
use Rattle.std.proofs.lemmas.Bool.{cases_lt, cases_eq, eq-eqb, ne_eqb, lt-ltb, and_parts}
use Rattle.game_def.specs.Game.{Game, IsGame, stack_of, blind_of, big_blind, most_chips, raise_size_of}
use Rattle.betting.specs.declared.action.Action.{Action}
use Rattle.betting.specs.declared.action.Action.TheVariants.{Fold, Call, Raise}
use Rattle.betting.specs.Turns.{Turn, turn_by, is_raise, count_below, max_spent, spent, folded, live, live_count, has_answered, owes, owing_count, actions_in, raises_in, min_to}
use Rattle.betting.specs.Rounds.{over, current_round, search_start}
use Rattle.betting.specs.Legal.{Allows, MayRaise, least_raise, greatest_raise, limit_to}
use Rattle.betting.proofs.Counts.{count_below-le, count_below-some, count_below-one_less}
use Rattle.betting.proofs.Search.{Before, before_cases, before-turned, not_before_last}
use Rattle.betting.proofs.Bounds.{blind_fits, top_blind, stack_above, stack_fits, big_blind_fits, first_fits, size_positive}
use Rattle.betting.proofs.Steps.{max_spent-turn, spent-other, folded-other, live-other, answered-turn, answered-own, answered-new, actions-turn, actions-new, raises-turn, raises-new, min_to-new, owes-own, owing-new, spent-fold, spent-call, spent-raise, folded-call, folded-raise, min_to-fold, min_to-call, min_to-raise, owing-paid}
use Rattle.betting.proofs.Advance.{won, goes_on, begins, ends, shows, advance}
use Rattle.betting.proofs.Sound.{Sound, IsNext, live_parts}

module _ (game : Game) (is_game : IsGame game) where
  pub live_at_start : (q : ℕ) → q < game.players → live game [] q ≡ true
  unfolding live folded spent
  live_at_start q b =
      let above : big_blind game < stack_of game q = stack_above game is_game q b in
      let fits : blind_of game q ≤ big_blind game = blind_fits game is_game q b in
      lt-ltb (blind_of game q) (stack_of game q) (omega arith)

  pub owes_at_start : (q : ℕ) → q < game.players → owes game 0 [] q ≡ true
  unfolding owes has_answered
  owes_at_start q b = rw (live_at_start q b) refl

  pub sound-start : Sound game []
  unfolding search_start current_round spent max_spent folded min_to has_answered over owing_count actions_in raises_in
  sound-start =
      let two : 2 ≤ game.players = is_game.least_players in
      let ten : game.players ≤ 10 = is_game.most_players in
      let blind : 1 ≤ big_blind game = is_game.some_blind in
      let fits : big_blind game ≤ most_chips = big_blind_fits game is_game in
      let first : slice_index game.first_players 0 < game.players = first_fits game is_game 0 (omega arith) in
      let owing : count_below (owes game 0 []) game.players ≤ game.players = count_below-le (owes game 0 []) game.players in
      record {
        start_fits = omega arith;
        round_fits = omega arith;
        within_stack = λ q b. omega (arith, stack_above game is_game q b, blind_fits game is_game q b);
        within_most = λ q b. blind_fits game is_game q b;
        top = (let t : (q : ℕ) × (q < game.players) × (blind_of game q ≡ big_blind game) = top_blind game is_game in (t.0, t.1, refl, t.2));
        most_fits = fits;
        full_raise = omega arith;
        full_raise_fits = omega arith;
        in_order = λ q s qb sb ql sl answered before. cc;
        somebody_owes = λ _. count_below-some (owes game 0 []) game.players 0 (omega arith) (owes_at_start 0 (omega arith));
        no_later_action = λ s b. refl;
        no_later_raise = λ s b. refl;
        raises_fit = omega arith;
        room = omega arith;
        past_fits = omega arith;
      }

-- an allowed raise goes above the greatest amount, and not above the stack
pub raise_between : (game : Game) → IsGame game → (h : List Turn) (p amount : ℕ) → current_round game h ≤ 3 → max_spent game h < min_to game (current_round game h) h
    → MayRaise game h p → least_raise game h p ≤ amount → amount ≤ greatest_raise game h p
    → (max_spent game h < amount) × (amount ≤ stack_of game p)
unfolding least_raise greatest_raise limit_to
raise_between game is_game h p amount round full may least most =
    (elim (raise_size_of game (current_round game h)) as (λ o. raise_size_of game (current_round game h) ≡ o
    → elim o [ None ↦ min (min_to game (current_round game h) h) (stack_of game p) | Some size ↦ min (max_spent game h + size) (stack_of game p) ] ≤ amount
    → amount ≤ elim o [ None ↦ stack_of game p | Some size ↦ min (max_spent game h + size) (stack_of game p) ]
    → (max_spent game h < amount) × (amount ≤ stack_of game p)) [
      | None ↦ λ e a b. (let chips : max_spent game h < stack_of game p = may.chips_left in omega arith, b)
      | Some size ↦ λ e a b.
          let chips : max_spent game h < stack_of game p = may.chips_left in
          let positive : 1 ≤ size = size_positive game is_game size (current_round game h) e (omega arith) in
          (omega arith, omega arith)
    ]) refl least most

owing_below : (game : Game) (h : List Turn) (r p : ℕ) → p < game.players → owes game r h p ≡ false → owing_count game r h + 1 ≤ game.players
unfolding owing_count
owing_below game h r p b e =
    (elim (owes game r h p) as (λ o. o ≡ false → count_below (owes game r h) game.players + 1 ≤ game.players) [
      | true ↦ λ x. cc
      | false ↦ λ x. less
    ]) e
  where
    less : count_below (owes game r h) game.players + 1 ≤ game.players
    less =
        let more : ℕ → Bool = λ k. eqb p k || owes game r h k in
        let one : count_below (owes game r h) game.players + 1 ≡ count_below more game.players =
        count_below-one_less more (owes game r h) game.players p b (rw (eq-eqb p p refl) refl) e
        (λ k kb ne. let other : eqb p k ≡ false = ne_eqb p k (λ x. ne (sym x)) in rw other refl) in
        let all : count_below more game.players ≤ game.players = count_below-le more game.players in
        omega arith

module _ (game : Game) (is_game : IsGame game) (h : List Turn) (sound : Sound game h) (p : ℕ) (next : IsNext game h p) where
  alive : (folded h p ≡ false) × (spent game h p < stack_of game p)
  alive = live_parts game h p next.found.passes

  -- the facts of the turn's own round
  pub record Acted (a : Action) : Type 0 where
    pub within_stack : (q : ℕ) → q < game.players → spent game (turn_by p (current_round game h) a ∷ h) q ≤ stack_of game q
    pub within_most : (q : ℕ) → q < game.players → spent game (turn_by p (current_round game h) a ∷ h) q ≤ max_spent game (turn_by p (current_round game h) a ∷ h)
    pub top : (q : ℕ) × (q < game.players) × (folded (turn_by p (current_round game h) a ∷ h) q ≡ false) × (spent game (turn_by p (current_round game h) a ∷ h) q ≡ max_spent game (turn_by p (current_round game h) a ∷ h))
    pub most_fits : max_spent game (turn_by p (current_round game h) a ∷ h) ≤ most_chips
    pub full_raise : max_spent game (turn_by p (current_round game h) a ∷ h) < min_to game (current_round game h) (turn_by p (current_round game h) a ∷ h)
    pub full_raise_fits : min_to game (current_round game h) (turn_by p (current_round game h) a ∷ h) ≤ 2 * most_chips
    pub room : actions_in (current_round game h) (turn_by p (current_round game h) a ∷ h) + owing_count game (current_round game h) (turn_by p (current_round game h) a ∷ h) ≤ 64

  same_stack : (a : Action) (q : ℕ) → q < game.players → p ≢ q → spent game (turn_by p (current_round game h) a ∷ h) q ≤ stack_of game q
  same_stack a q b ne = rw (spent-other game h p (current_round game h) a q ne) (sound.within_stack q b)

  acted-fold : spent game h p < max_spent game h → Acted Fold
  acted-fold facing =
      let r : ℕ = current_round game h in
      let most : max_spent game (turn_by p r Fold ∷ h) ≡ max_spent game h = max_spent-turn game h p r Fold ∙ (omega arith) in
      let step : min_to game r (turn_by p r Fold ∷ h) ≡ min_to game r h = min_to-fold game h p r in
      let paid : owing_count game r (turn_by p r Fold ∷ h) + 1 ≡ owing_count game r h = owing-paid game h p r Fold refl next.found.most next.owing in
      let more : actions_in r (turn_by p r Fold ∷ h) ≡ actions_in r h + 1 = actions-turn game h p r Fold in
      let t : (q : ℕ) × (q < game.players) × (folded h q ≡ false) × (spent game h q ≡ max_spent game h) = sound.top in
      let other : p ≢ t.0 = λ e. let low : spent game h t.0 < max_spent game h = rw (← e) facing in let at : spent game h t.0 ≡ max_spent game h = t.3 in omega arith in
      record {
        within_stack = λ q b. rw (spent-fold game h p r q) (sound.within_stack q b);
        within_most = λ q b. rw (spent-fold game h p r q, most) (sound.within_most q b);
        top = (t.0, t.1, rw (folded-other game h p r Fold t.0 other) t.2, rw (spent-fold game h p r t.0, most) t.3);
        most_fits = rw most sound.most_fits;
        full_raise = rw (most, step) sound.full_raise;
        full_raise_fits = rw step sound.full_raise_fits;
        room = (let old : actions_in r h + owing_count game r h ≤ 64 = sound.room in omega arith);
      }

  acted-call : Acted Call
  acted-call =
      let r : ℕ = current_round game h in
      let most : max_spent game (turn_by p r Call ∷ h) ≡ max_spent game h = max_spent-turn game h p r Call ∙ (omega arith) in
      let step : min_to game r (turn_by p r Call ∷ h) ≡ min_to game r h = min_to-call game h p r in
      let paid : owing_count game r (turn_by p r Call ∷ h) + 1 ≡ owing_count game r h = owing-paid game h p r Call refl next.found.most next.owing in
      let more : actions_in r (turn_by p r Call ∷ h) ≡ actions_in r h + 1 = actions-turn game h p r Call in
      let own : spent game (turn_by p r Call ∷ h) p ≡ min (max_spent game h) (stack_of game p) = spent-call game h p r in
      let t : (q : ℕ) × (q < game.players) × (folded h q ≡ false) × (spent game h q ≡ max_spent game h) = sound.top in
      record {
        within_stack = λ q b. elim (cases_eq p q) [
          | inl e ↦ rw (← e) (omega (arith, own))
          | inr ne ↦ same_stack Call q b ne
        ];
        within_most = λ q b. elim (cases_eq p q) [
          | inl e ↦ rw (← e) (omega (arith, own, most))
          | inr ne ↦ rw (spent-other game h p r Call q ne, most) (sound.within_most q b)
        ];
        top = (
          t.0,
          t.1,
          rw (folded-call game h p r t.0) t.2,
          elim (cases_eq p t.0) [
            | inl e ↦
                let fits : spent game h t.0 ≤ stack_of game t.0 = sound.within_stack t.0 t.1 in
                let at : spent game h t.0 ≡ max_spent game h = t.3 in
                let enough : max_spent game h ≤ stack_of game p = rw e (omega arith) in
                rw (← e) (omega (arith, own, most, enough))
            | inr ne ↦ rw (spent-other game h p r Call t.0 ne, most) t.3
          ],
        );
        most_fits = rw most sound.most_fits;
        full_raise = rw (most, step) sound.full_raise;
        full_raise_fits = rw step sound.full_raise_fits;
        room = (let old : actions_in r h + owing_count game r h ≤ 64 = sound.room in omega arith);
      }

  acted-raise : (amount : ℕ) → MayRaise game h p → max_spent game h < amount → amount ≤ stack_of game p → Acted (Raise amount)
  acted-raise amount may higher fits =
      let r : ℕ = current_round game h in
      let most : max_spent game (turn_by p r (Raise amount) ∷ h) ≡ amount = max_spent-turn game h p r (Raise amount) ∙ (omega arith) in
      let step : min_to game r (turn_by p r (Raise amount) ∷ h) ≡ max (2 * amount - max_spent game h) (min_to game r h) = min_to-raise game h p r amount in
      let more : actions_in r (turn_by p r (Raise amount) ∷ h) ≡ actions_in r h + 1 = actions-turn game h p r (Raise amount) in
      let own : spent game (turn_by p r (Raise amount) ∷ h) p ≡ amount = spent-raise game h p r amount in
      let chips : stack_of game p ≤ most_chips = stack_fits game is_game p next.found.most in
      let fewer : owing_count game r (turn_by p r (Raise amount) ∷ h) + 1 ≤ game.players = owing_below game (turn_by p r (Raise amount) ∷ h) r p next.found.most (owes-own game h p r (Raise amount)) in
      let room : actions_in r h + game.players ≤ 64 = may.room in
      let old : min_to game r h ≤ 2 * most_chips = sound.full_raise_fits in
      record {
        within_stack = λ q b. elim (cases_eq p q) [
          | inl e ↦ rw (← e) (omega (arith, own))
          | inr ne ↦ same_stack (Raise amount) q b ne
        ];
        within_most = λ q b. elim (cases_eq p q) [
          | inl e ↦ rw (← e) (omega (arith, own, most))
          | inr ne ↦ let below : spent game h q ≤ max_spent game h = sound.within_most q b in rw (spent-other game h p r (Raise amount) q ne, most) (omega arith)
        ];
        top = (p, next.found.most, rw (folded-raise game h p r amount p) alive.0, own ∙ sym most);
        most_fits = omega arith;
        full_raise = omega arith;
        full_raise_fits = omega arith;
        room = omega arith;
      }

  acted : (a : Action) → Allows game h p a → Acted a
  acted Fold allowed = acted-fold allowed
  acted Call allowed = acted-call
  acted (Raise amount) allowed =
      let between : (max_spent game h < amount) × (amount ≤ stack_of game p) = raise_between game is_game h p amount sound.round_fits sound.full_raise allowed.0 allowed.1 allowed.2 in
      acted-raise amount allowed.0 between.0 between.1

  behind_next : (q : ℕ) → q < game.players → p ≢ q → live game h q ≡ true → Before (search_start game h) p q
  behind_next q b ne lives = elim (before_cases (search_start game h) p q) [
    | inl later ↦ later
    | inr (inl same) ↦ absurd (ne same)
    | inr (inr earlier) ↦ absurd (let dead : live game h q ≡ false = next.found.first q b earlier in cc)
  ]

  order-turn : (a : Action) (q s : ℕ) → q < game.players → s < game.players
      → live game (turn_by p (current_round game h) a ∷ h) q ≡ true → live game (turn_by p (current_round game h) a ∷ h) s ≡ true
      → has_answered (current_round game h) (turn_by p (current_round game h) a ∷ h) q ≡ true → Before (p + 1) q s
      → has_answered (current_round game h) (turn_by p (current_round game h) a ∷ h) s ≡ true
  order-turn a q s qb sb ql sl answered before = elim (cases_eq p s) [
    | inl e ↦ rw (← e) (answered-own game h p (current_round game h) a)
    | inr s_other ↦ elim (cases_eq p q) [
      | inl e ↦ absurd (not_before_last p s (rw (← e) at before))
      | inr q_other ↦
          let q_lives : live game h q ≡ true = sym (live-other game h p (current_round game h) a q q_other) ∙ ql in
          let s_lives : live game h s ≡ true = sym (live-other game h p (current_round game h) a s s_other) ∙ sl in
          let q_turn : has_answered (current_round game h) (turn_by p (current_round game h) a ∷ h) q ≡ (not (is_raise a) && has_answered (current_round game h) h q) =
          answered-turn game h p (current_round game h) a q ∙ (let e : eqb p q ≡ false = ne_eqb p q q_other in rw e refl) in
          let s_turn : has_answered (current_round game h) (turn_by p (current_round game h) a ∷ h) s ≡ (not (is_raise a) && has_answered (current_round game h) h s) =
          answered-turn game h p (current_round game h) a s ∙ (let e : eqb p s ≡ false = ne_eqb p s s_other in rw e refl) in
          let parts : (not (is_raise a) ≡ true) × (has_answered (current_round game h) h q ≡ true) = and_parts _ _ (sym q_turn ∙ answered) in
          let s_answered : has_answered (current_round game h) h s ≡ true =
          sound.in_order q s qb sb q_lives s_lives parts.1
          (before-turned (search_start game h) p q s (behind_next q qb q_other q_lives) (behind_next s sb s_other s_lives) before) in
          rw (s_turn, parts.0, s_answered) refl
    ]
  ]

  start-same : (a : Action) → current_round game (turn_by p (current_round game h) a ∷ h) ≡ current_round game h → search_start game (turn_by p (current_round game h) a ∷ h) ≡ p + 1
  unfolding search_start
  start-same a e = let test : eqb (current_round game (turn_by p (current_round game h) a ∷ h)) (current_round game h) ≡ true = eq-eqb _ _ e in rw test refl

  start-new : (a : Action) → current_round game (turn_by p (current_round game h) a ∷ h) ≢ current_round game h
      → search_start game (turn_by p (current_round game h) a ∷ h) ≡ slice_index game.first_players (current_round game (turn_by p (current_round game h) a ∷ h))
  unfolding search_start
  start-new a e = let test : eqb (current_round game (turn_by p (current_round game h) a ∷ h)) (current_round game h) ≡ false = ne_eqb _ _ e in rw test refl

  sound-same : (a : Action) → Acted a → current_round game (turn_by p (current_round game h) a ∷ h) ≡ current_round game h
      → (over game (turn_by p (current_round game h) a ∷ h) ≡ false → 0 < owing_count game (current_round game h) (turn_by p (current_round game h) a ∷ h))
      → Sound game (turn_by p (current_round game h) a ∷ h)
  sound-same a acted same owing =
      let start : search_start game (turn_by p (current_round game h) a ∷ h) ≡ p + 1 = start-same a same in
      let within : p < game.players = next.found.most in
      let actions : actions_in (current_round game h) (turn_by p (current_round game h) a ∷ h) ≡ actions_in (current_round game h) h + 1 = actions-turn game h p (current_round game h) a in
      let raises : raises_in (current_round game h) (turn_by p (current_round game h) a ∷ h) ≡ raises_in (current_round game h) h + cond (is_raise a) 1 0 = raises-turn game h p (current_round game h) a in
      let one : cond (is_raise a) 1 0 ≤ 1 = elim (is_raise a) as (λ b. cond b 1 0 ≤ 1) [ true ↦ omega arith | false ↦ omega arith ] in
      record {
        start_fits = rw start (omega arith);
        round_fits = rw same sound.round_fits;
        within_stack = acted.within_stack;
        within_most = acted.within_most;
        top = acted.top;
        most_fits = acted.most_fits;
        full_raise = rw same acted.full_raise;
        full_raise_fits = rw same acted.full_raise_fits;
        in_order = rw (same, start) (order-turn a);
        somebody_owes = rw same owing;
        no_later_action = λ s later. let ne : current_round game h ≢ s = omega (arith, same) in rw (actions-new game h p (current_round game h) a s ne) (sound.no_later_action s (omega (arith, same)));
        no_later_raise = λ s later. let ne : current_round game h ≢ s = omega (arith, same) in rw (raises-new game h p (current_round game h) a s ne) (sound.no_later_raise s (omega (arith, same)));
        raises_fit = rw same (let old : raises_in (current_round game h) h ≤ actions_in (current_round game h) h = sound.raises_fit in omega arith);
        room = rw same acted.room;
        past_fits = rw same (let old : length h ≤ 64 * current_round game h + actions_in (current_round game h) h = sound.past_fits in omega arith);
      }

  sound-new : (a : Action) → Acted a → current_round game h < current_round game (turn_by p (current_round game h) a ∷ h) → current_round game (turn_by p (current_round game h) a ∷ h) ≤ 3
      → (over game (turn_by p (current_round game h) a ∷ h) ≡ false → 0 < live_count game (turn_by p (current_round game h) a ∷ h))
      → Sound game (turn_by p (current_round game h) a ∷ h)
  sound-new a acted later fits living =
      let r : ℕ = current_round game h in
      let s : ℕ = current_round game (turn_by p (current_round game h) a ∷ h) in
      let ne : current_round game h ≢ current_round game (turn_by p (current_round game h) a ∷ h) = omega arith in
      let start : search_start game (turn_by p (current_round game h) a ∷ h) ≡ slice_index game.first_players (current_round game (turn_by p (current_round game h) a ∷ h)) = start-new a (λ e. ne (sym e)) in
      let first : slice_index game.first_players (current_round game (turn_by p (current_round game h) a ∷ h)) < game.players = first_fits game is_game (current_round game (turn_by p (current_round game h) a ∷ h)) (omega arith) in
      let blind : 1 ≤ big_blind game = is_game.some_blind in
      let blind_most : big_blind game ≤ most_chips = big_blind_fits game is_game in
      let base : min_to game (current_round game (turn_by p (current_round game h) a ∷ h)) (turn_by p (current_round game h) a ∷ h) ≡ max_spent game (turn_by p (current_round game h) a ∷ h) + big_blind game =
      min_to-new game h p (current_round game h) a (current_round game (turn_by p (current_round game h) a ∷ h)) ne in
      let most : max_spent game (turn_by p (current_round game h) a ∷ h) ≤ most_chips = acted.most_fits in
      let actions : actions_in (current_round game (turn_by p (current_round game h) a ∷ h)) (turn_by p (current_round game h) a ∷ h) ≡ 0 =
      actions-new game h p (current_round game h) a _ ne ∙ sound.no_later_action _ later in
      let raises : raises_in (current_round game (turn_by p (current_round game h) a ∷ h)) (turn_by p (current_round game h) a ∷ h) ≡ 0 =
      raises-new game h p (current_round game h) a _ ne ∙ sound.no_later_raise _ later in
      let owing : owing_count game (current_round game (turn_by p (current_round game h) a ∷ h)) (turn_by p (current_round game h) a ∷ h) ≡ live_count game (turn_by p (current_round game h) a ∷ h) =
      owing-new game h p (current_round game h) a (current_round game (turn_by p (current_round game h) a ∷ h)) ne in
      let few : live_count game (turn_by p (current_round game h) a ∷ h) ≤ game.players = unfold live_count in count_below-le (live game (turn_by p (current_round game h) a ∷ h)) game.players in
      let ten : game.players ≤ 10 = is_game.most_players in
      let own_actions : actions_in (current_round game h) (turn_by p (current_round game h) a ∷ h) ≡ actions_in (current_round game h) h + 1 = actions-turn game h p (current_round game h) a in
      record {
        start_fits = rw start (omega arith);
        round_fits = fits;
        within_stack = acted.within_stack;
        within_most = acted.within_most;
        top = acted.top;
        most_fits = acted.most_fits;
        full_raise = rw base (omega arith);
        full_raise_fits = rw base (omega arith);
        in_order = λ q t qb tb ql tl answered before. absurd (let fresh : has_answered (current_round game (turn_by p (current_round game h) a ∷ h)) (turn_by p (current_round game h) a ∷ h) q ≡ false = answered-new game h p (current_round game h) a _ q ne in cc);
        somebody_owes = λ is. rw owing (living is);
        no_later_action = λ t tl. rw (actions-new game h p (current_round game h) a t (omega arith)) (sound.no_later_action t (omega arith));
        no_later_raise = λ t tl. rw (raises-new game h p (current_round game h) a t (omega arith)) (sound.no_later_raise t (omega arith));
        raises_fit = omega arith;
        room = omega arith;
        past_fits = (let old : length h ≤ 64 * current_round game h + actions_in (current_round game h) h = sound.past_fits in let room : actions_in (current_round game h) (turn_by p (current_round game h) a ∷ h) + owing_count game (current_round game h) (turn_by p (current_round game h) a ∷ h) ≤ 64 = acted.room in omega arith);
      }

  -- an allowed action of the player to act
  pub sound-turn : (a : Action) → Allows game h p a → Sound game (turn_by p (current_round game h) a ∷ h)
  sound-turn a allowed =
      let facts : Acted a = acted a allowed in
      let round : current_round game h ≤ 3 = sound.round_fits in
      elim (advance game p (current_round game h) a h sound.round_fits) [
        | won alone same is_over ↦ sound-same a facts same (λ is. absurd (cc))
        | goes_on several owing same is_open ↦ sound-same a facts same (λ is. owing)
        | begins several paid many early next_round is_open ↦ sound-new a facts (omega (arith, next_round)) (omega (arith, next_round)) (λ is. omega (arith, many))
        | ends several paid many last same is_over ↦ sound-same a facts same (λ is. absurd (cc))
        | shows several paid few shown is_over ↦ elim (cases_lt (current_round game h) 3) [
          | inl early ↦ sound-new a facts (omega (arith, shown)) (omega (arith, shown)) (λ is. absurd (cc))
          | inr late ↦ sound-same a facts (omega (arith, shown)) (λ is. absurd (cc))
        ]
      ]
