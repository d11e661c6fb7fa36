-- What one more turn changes.
use Rattle.std.proofs.Common.{◌≡◌, ℕ, ◌+◌, ◌-◌, ◌*◌, ◌<◌, ◌≢◌, max, min, true, false, cond, not, ◌&&◌, ◌||◌, eqb, List, ◌∷◌, refl, sym, ◌∙◌, arith, inl, inr}
use Rattle.std.proofs.lemmas.Bool.{cases_eq, ne_eqb, eq-eqb}
use Rattle.game_def.specs.Game.{Game, stack_of, big_blind}
use Rattle.betting.specs.declared.action.Action.{Action}
use Rattle.betting.specs.declared.action.Action.TheVariants.{Fold, Call, Raise}
use Rattle.betting.specs.Turns.{Turn, turn_by, is_raise, raised_to, count_below, max_spent, spent, folded, live, live_count, has_answered, owes, owing_count, actions_in, raises_in, min_to}
use Rattle.betting.proofs.Counts.{count_below-same, count_below-one_less}

eqb-self : (p : ℕ) → eqb p p ≡ true
eqb-self p = eq-eqb p p refl

eqb-other : (p q : ℕ) → p ≢ q → eqb p q ≡ false
eqb-other p q ne = ne_eqb p q ne

module _ (game : Game) (h : List Turn) (p r : ℕ) (a : Action) where
  pub max_spent-turn : max_spent game (turn_by p r a ∷ h) ≡ max (raised_to a) (max_spent game h)
  unfolding max_spent
  max_spent-turn = refl

  pub spent-other : (q : ℕ) → p ≢ q → spent game (turn_by p r a ∷ h) q ≡ spent game h q
  unfolding spent
  spent-other q ne = rw (eqb-other p q ne) refl

  pub folded-other : (q : ℕ) → p ≢ q → folded (turn_by p r a ∷ h) q ≡ folded h q
  unfolding folded
  folded-other q ne = rw (eqb-other p q ne) refl

  pub live-other : (q : ℕ) → p ≢ q → live game (turn_by p r a ∷ h) q ≡ live game h q
  unfolding live
  live-other q ne = rw (folded-other q ne, spent-other q ne) refl

  pub answered-turn : (q : ℕ) → has_answered r (turn_by p r a ∷ h) q ≡ (eqb p q || (not (is_raise a) && has_answered r h q))
  unfolding has_answered
  answered-turn q = rw (eqb-self r) refl

  pub answered-own : has_answered r (turn_by p r a ∷ h) p ≡ true
  answered-own = rw (answered-turn p, eqb-self p) refl

  pub answered-new : (s q : ℕ) → r ≢ s → has_answered s (turn_by p r a ∷ h) q ≡ false
  unfolding has_answered
  answered-new s q ne = rw (eqb-other r s ne) refl

  pub actions-turn : actions_in r (turn_by p r a ∷ h) ≡ actions_in r h + 1
  unfolding actions_in
  actions-turn = rw (eqb-self r) refl

  pub actions-new : (s : ℕ) → r ≢ s → actions_in s (turn_by p r a ∷ h) ≡ actions_in s h
  unfolding actions_in
  actions-new s ne = rw (eqb-other r s ne) (omega arith)

  pub raises-turn : raises_in r (turn_by p r a ∷ h) ≡ raises_in r h + cond (is_raise a) 1 0
  unfolding raises_in
  raises-turn = rw (eqb-self r) refl

  pub raises-new : (s : ℕ) → r ≢ s → raises_in s (turn_by p r a ∷ h) ≡ raises_in s h
  unfolding raises_in
  raises-new s ne = rw (eqb-other r s ne) (omega arith)

  pub min_to-new : (s : ℕ) → r ≢ s → min_to game s (turn_by p r a ∷ h) ≡ max_spent game (turn_by p r a ∷ h) + big_blind game
  unfolding min_to
  min_to-new s ne = rw (eqb-other r s ne) refl

  pub owes-own : owes game r (turn_by p r a ∷ h) p ≡ false
  unfolding owes
  owes-own = rw answered-own (grind arith)

  pub owes-new : (s q : ℕ) → r ≢ s → owes game s (turn_by p r a ∷ h) q ≡ live game (turn_by p r a ∷ h) q
  unfolding owes
  owes-new s q ne = rw (answered-new s q ne) (grind arith)

  pub owing-new : (s : ℕ) → r ≢ s → owing_count game s (turn_by p r a ∷ h) ≡ live_count game (turn_by p r a ∷ h)
  unfolding owing_count live_count
  owing-new s ne = count_below-same (owes game s (turn_by p r a ∷ h)) (live game (turn_by p r a ∷ h)) game.players (λ q b. owes-new s q ne)

module _ (game : Game) (h : List Turn) (p r : ℕ) where
  pub spent-fold : (q : ℕ) → spent game (turn_by p r Fold ∷ h) q ≡ spent game h q
  unfolding spent
  spent-fold q = elim (eqb p q) as (λ b. cond b (spent game h q) (spent game h q) ≡ spent game h q) [ true ↦ refl | false ↦ refl ]

  pub spent-call : spent game (turn_by p r Call ∷ h) p ≡ min (max_spent game h) (stack_of game p)
  unfolding spent
  spent-call = rw (eqb-self p) refl

  pub spent-raise : (amount : ℕ) → spent game (turn_by p r (Raise amount) ∷ h) p ≡ amount
  unfolding spent
  spent-raise amount = rw (eqb-self p) refl

  pub folded-fold : folded (turn_by p r Fold ∷ h) p ≡ true
  unfolding folded
  folded-fold = rw (eqb-self p) refl

  pub folded-call : (q : ℕ) → folded (turn_by p r Call ∷ h) q ≡ folded h q
  unfolding folded
  folded-call q = elim (eqb p q) as (λ b. ((b && false) || folded h q) ≡ folded h q) [ true ↦ refl | false ↦ refl ]

  pub folded-raise : (amount q : ℕ) → folded (turn_by p r (Raise amount) ∷ h) q ≡ folded h q
  unfolding folded
  folded-raise amount q = elim (eqb p q) as (λ b. ((b && false) || folded h q) ≡ folded h q) [ true ↦ refl | false ↦ refl ]

  pub min_to-fold : min_to game r (turn_by p r Fold ∷ h) ≡ min_to game r h
  unfolding min_to
  min_to-fold = rw (eqb-self r) refl

  pub min_to-call : min_to game r (turn_by p r Call ∷ h) ≡ min_to game r h
  unfolding min_to
  min_to-call = rw (eqb-self r) refl

  pub min_to-raise : (amount : ℕ) → min_to game r (turn_by p r (Raise amount) ∷ h) ≡ max (2 * amount - max_spent game h) (min_to game r h)
  unfolding min_to
  min_to-raise amount = rw (eqb-self r) refl

-- an action that is no raise pays what its player owed
pub owing-paid : (game : Game) (h : List Turn) (p r : ℕ) (a : Action) → is_raise a ≡ false → p < game.players → owes game r h p ≡ true
    → owing_count game r (turn_by p r a ∷ h) + 1 ≡ owing_count game r h
unfolding owing_count owes
owing-paid game h p r a quiet b owed =
    count_below-one_less (owes game r h) (owes game r (turn_by p r a ∷ h)) game.players p b owed (owes-own game h p r a)
    (λ k kb ne.
    let other : p ≢ k = λ e. ne (sym e) in
    rw (live-other game h p r a k other, answered-turn game h p r a k, eqb-other p k other, quiet) refl)

-- after a raise all other live players owe
owes-raised : (game : Game) (h : List Turn) (p r amount k : ℕ) → p ≢ k → owes game r (turn_by p r (Raise amount) ∷ h) k ≡ live game (turn_by p r (Raise amount) ∷ h) k
unfolding owes
owes-raised game h p r amount k other = rw (answered-turn game h p r (Raise amount) k, eqb-other p k other) (grind arith)

pub owing-raised : (game : Game) (h : List Turn) (p r amount : ℕ) → p < game.players
    → owing_count game r (turn_by p r (Raise amount) ∷ h) + cond (live game (turn_by p r (Raise amount) ∷ h) p) 1 0 ≡ live_count game (turn_by p r (Raise amount) ∷ h)
unfolding owing_count live_count
owing-raised game h p r amount b =
    let after : List Turn = turn_by p r (Raise amount) ∷ h in
    (elim (live game after p) as (λ l. live game after p ≡ l → count_below (owes game r after) game.players + cond l 1 0 ≡ count_below (live game after) game.players) [
      | true ↦ λ yes. count_below-one_less (live game after) (owes game r after) game.players p b yes (owes-own game h p r (Raise amount)) (λ k kb ne. owes-raised game h p r amount k (λ e. ne (sym e)))
      | false ↦ λ no.
          let same : count_below (owes game r after) game.players ≡ count_below (live game after) game.players =
          count_below-same (owes game r after) (live game after) game.players
          (λ k kb. elim (cases_eq p k) [
            | inl here ↦ rw (← here) (owes-own game h p r (Raise amount) ∙ sym no)
            | inr other ↦ owes-raised game h p r amount k other
          ]) in
          omega (arith, same)
    ]) refl
