-- The running totals before the first action.
use Rattle.std.proofs.Common.{◌≡◌, ℕ, zero, suc, ◌-◌, ◌*◌, ◌<◌, true, false, List, [], length, replicate, Some, refl, sym, ap, ◌∙◌, arith, get_or}
use Rattle.std.specs.Prelude.{slice_index}
use Rattle.game_def.specs.Game.{Game, IsGame, blind_of, big_blind}
use Rattle.betting.specs.declared.action.Action.{Action}
use Rattle.betting.specs.declared.totals.Totals.{Totals}
use Rattle.betting.specs.Turns.{count_below, max_spent, spent, folded, live, owes, owing_count, actions_in, raises_in, min_to}
use Rattle.betting.specs.Rounds.{over, current_round, search_start, to_act, turns}
use Rattle.betting.specs.Text.{slash_counts}
use Rattle.betting.specs.declared.play.Play.TheInside.{Inside}
use Rattle.betting.specs.PlayInside.{IsKept}
use Rattle.betting.specs.TotalsInside.{IsTotals}
use Rattle.betting.proofs.Counts.{count_below-same}
use Rattle.betting.proofs.Search.{first_from-suc, first_cyclic-above}
use Rattle.betting.proofs.Bounds.{first_fits}
use Rattle.betting.proofs.SoundSteps.{live_at_start, owes_at_start}

all_pass : (n : ℕ) → count_below (λ _. true) n ≡ n
unfolding count_below
all_pass zero = refl
all_pass (suc n) = omega (arith, all_pass n)

none_folded : (n p : ℕ) → get_or (replicate n false) p false ≡ false
none_folded zero p = refl
none_folded (suc n) zero = refl
none_folded (suc n) (suc p) = none_folded n p

module _ (game : Game) (is_game : IsGame game) where
  all_owe : owing_count game 0 [] ≡ game.players
  unfolding owing_count
  all_owe = count_below-same (owes game 0 []) (λ _. true) game.players (λ q b. owes_at_start game is_game q b) ∙ all_pass game.players

  first_acts : Some (slice_index game.first_players 0) ≡ to_act game []
  unfolding to_act over search_start
  first_acts =
      let first : slice_index game.first_players 0 < game.players = first_fits game is_game 0 (omega arith) in
      let more : game.players - slice_index game.first_players 0 ≡ suc (game.players - slice_index game.first_players 0 - 1) = omega arith in
      let lives : live game [] (slice_index game.first_players 0) ≡ true = live_at_start game is_game (slice_index game.first_players 0) first in
      first_cyclic-above (live game []) game.players (slice_index game.first_players 0) (slice_index game.first_players 0)
      (rw (more, first_from-suc (live game []) (slice_index game.first_players 0) (game.players - slice_index game.first_players 0 - 1), lives) refl)

  pub totals-start : (blinds : List ℕ) → length blinds ≡ 10 → ((q : ℕ) → q < game.players → slice_index blinds q ≡ blind_of game q)
      → (blind players first step : ℕ) → blind ≡ big_blind game → players ≡ game.players → first ≡ slice_index game.first_players 0 → step ≡ 2 * blind
      → (let totals : Totals = record { spent = blinds; folded = replicate 10 false; max_spent = blind; min_to = step; round = 0; raises = 0; actions = 0; owing = players; next = Some first } in IsTotals game [] totals)
  unfolding max_spent spent folded min_to raises_in actions_in current_round
  totals-start blinds places each blind players first step e f g s = record {
    tally = record {
      spent_places = places;
      folded_places = refl;
      spent_each = each;
      folded_each = λ q b. none_folded 10 q;
      most = e;
      full_raise = omega (arith, e, s);
      raises = refl;
      actions = refl;
      owing = f ∙ sym all_owe;
    };
    round = refl;
    next = ap (λ n. Some n) g ∙ first_acts;
  }

pub kept_start : (game : Game) → IsGame game → (actions : List Action) → length actions ≡ 256 → (slashes : List ℕ) → length slashes ≡ 256
    → (totals : Totals) → IsTotals game [] totals
    → (let fields : Inside = record { game = game; actions = actions; slashes = slashes; count = 0; totals = totals } in IsKept fields)
unfolding turns slash_counts
kept_start game is_game actions places slashes slash_places totals start = record {
  game = is_game;
  places = places;
  slash_places = slash_places;
  count = omega arith;
  legal = tt;
  slashes = refl;
  totals = start;
}
