-- What the lines so far have said.
use Rattle.std.proofs.Common.{◌≡◌, ℕ, List, [], ◌∷◌, take, Option, Some, None, refl, sym, ap, ◌∙◌}
use Rattle.game_def.specs.Game.{Game}
use Rattle.slot_log.specs.Hand.{Hand}
use Rattle.match_log.specs.Lines.{score_text, score_line}
use Rattle.match_log.specs.Payoffs.{totals_of}
use Rattle.match_log.specs.Reading.{AreKnown}

pub known_names : (players : ℕ) (names : List (List ℕ)) (hands : List Hand) (known : Option (List (List ℕ))) (seats : List (List ℕ)) → AreKnown players names hands known → known ≡ Some seats → take players seats ≡ names
known_names players names [] known seats none some = let no = sym none ∙ some in cc
known_names players names (hand ∷ earlier) None seats are some = absurd are
known_names players names (hand ∷ earlier) (Some others) seats are some = let same : others ≡ seats = cc in ap (take players) (sym same) ∙ are

pub score_as : (game : Game) (names : List (List ℕ)) (hands : List Hand) → score_line game names hands ≡ score_text (totals_of game hands) names
unfolding score_line
score_as game names hands = refl
