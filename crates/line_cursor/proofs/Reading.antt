-- Whether a hand was over, by its number.
use Rattle.std.proofs.Common.{◌≡◌, ℕ, ◌<◌, ◌≤◌, ◌&&◌, nat_eq, nat_le, Bool, true, false, if◌then◌else◌, List, [], ◌∷◌, length, Option, Some, None, refl, sym, ap, ◌∙◌, arith}
use Rattle.std.specs.Option.{option_map}
use Rattle.std.proofs.lemmas.Bool.Decides.{nat_tests}
use Rattle.game_def.specs.Game.{Game}
use Rattle.betting.specs.declared.action.Action.{Action}
use Rattle.betting.specs.Rounds.{over, turns}
use Rattle.slot_log.specs.Hand.{Hand}
use Rattle.slot_log.specs.Dealer.{hand_at, is_finished}
use Rattle.matchstate.proofs.Seats.{newest_at}
use Rattle.line_cursor.proofs.PastFound.{not_newest}
use Rattle.line_cursor.specs.Cursors.{is_over_after}

abbrev over_in : Game → ℕ → Option (List Action) → Bool
over_in game k None = false
over_in game k (Some past) = nat_le (length past) k && over game (turns game past)

pub over_by : (game : Game) (hands : List Hand) (hand k : ℕ) → is_over_after game hands hand k ≡ over_in game k (option_map (λ found. found.past) (hand_at hands hand))
over_by game [] hand k = refl
over_by game (newest ∷ earlier) hand k =
    let P : Bool → Type 0 = λ b. nat_eq hand (length earlier) ≡ b → (if b then nat_le (length newest.past) k && is_finished game newest else is_over_after game earlier hand k)
    ≡ over_in game k (option_map (λ found. found.past) (hand_at (newest ∷ earlier) hand)) in
    let step : P (nat_eq hand (length earlier)) = elim (nat_eq hand (length earlier)) as P [
      | true ↦ λ e.
          let number : hand ≡ length earlier = grind (arith, nat_tests) in
          let at : hand_at (newest ∷ earlier) hand ≡ Some newest = ap (hand_at (newest ∷ earlier)) number ∙ newest_at newest earlier in
          ap (λ (o : Option Hand). over_in game k (option_map (λ found. found.past) o)) (sym at)
      | false ↦ λ e. over_by game earlier hand k ∙ ap (λ (o : Option Hand). over_in game k (option_map (λ found. found.past) o)) (sym (not_newest newest earlier hand e))
    ] in
    step refl

pub over_none : (game : Game) (hands : List Hand) (hand k : ℕ) → None ≡ option_map (λ found. found.past) (hand_at hands hand) → false ≡ is_over_after game hands hand k
over_none game hands hand k e = sym (over_by game hands hand k ∙ ap (over_in game k) (sym e))

pub over_before : (game : Game) (hands : List Hand) (hand k : ℕ) (past : List Action) → Some past ≡ option_map (λ found. found.past) (hand_at hands hand) → k < length past
    → false ≡ is_over_after game hands hand k
over_before game hands hand k past e less =
    let no : nat_le (length past) k ≡ false = grind (arith, nat_tests) in
    sym (over_by game hands hand k ∙ (ap (over_in game k) (sym e) ∙ ap (λ (b : Bool). b && over game (turns game past)) no))

pub over_then : (game : Game) (hands : List Hand) (hand k : ℕ) (played : Game) (past : List Action) (finished : Bool) → Some past ≡ option_map (λ found. found.past) (hand_at hands hand)
    → played ≡ game → length past ≤ k → finished ≡ over played (turns played past) → finished ≡ is_over_after game hands hand k
over_then game hands hand k played past finished e same all is =
    let yes : nat_le (length past) k ≡ true = grind (arith, nat_tests) in
    is ∙ (ap (λ (g : Game). over g (turns g past)) same ∙ sym (over_by game hands hand k ∙ (ap (over_in game k) (sym e) ∙ ap (λ (b : Bool). b && over game (turns game past)) yes)))
