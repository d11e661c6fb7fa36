-- What all nodes share, from its parts.
use Rattle.std.proofs.Common.{◌≡◌, ℕ, List, ap, ◌∙◌}
use Rattle.game_def.specs.Game.{Game}
use Rattle.dealer_kind.specs.Kind.{Setting}

abbrev pub of_parts : Game → List ℕ → List ℕ → List (List ℕ) → ℕ → Setting
of_parts game name word names hands = record { game = game; title = record { name = name; game = word; hands = hands }; names = names }

pub same_setting : (s : Setting) (game : Game) (name word : List ℕ) (names : List (List ℕ)) (hands : ℕ) → game ≡ s.game → name ≡ s.title.name → word ≡ s.title.game → hands ≡ s.title.hands → names ≡ s.names
    → of_parts game name word names hands ≡ s
same_setting s game name word names hands a b c d e =
    ap (λ g. of_parts g name word names hands) a ∙ ap (λ n. of_parts s.game n word names hands) b ∙ ap (λ w. of_parts s.game s.title.name w names hands) c
    ∙ ap (λ h. of_parts s.game s.title.name s.title.game names h) d ∙ ap (λ ns. of_parts s.game s.title.name s.title.game ns s.title.hands) e
