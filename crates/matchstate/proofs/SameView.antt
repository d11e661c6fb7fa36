-- Two views are equal where their position, hand, actions and cards one after another are.
use Rattle.std.proofs.Common.{◌≡◌, ℕ, List, [], ◌∷◌, map, length, refl, sym, ap, ◌∙◌, subst, arith, length-append}
use Rattle.std.specs.List.{concat}
use Rattle.game_def.specs.Game.{Game}
use Rattle.betting.specs.declared.action.Action.{Action}
use Rattle.slot_log.proofs.Hands.{same_fronts}
use Rattle.matchstate.specs.Cards.{AreSeen, all_cards}
use Rattle.matchstate.specs.View.{View, IsView, sees, rounds_seen}
use Rattle.matchstate.proofs.Seen.{place_from_seen}

groups_same : (groups others : List (List ℕ)) → map length groups ≡ map length others → concat groups ≡ concat others → groups ≡ others
groups_same [] [] sizes same = refl
groups_same [] (other ∷ others) sizes same = cc
groups_same (group ∷ groups) [] sizes same = cc
groups_same (group ∷ groups) (other ∷ others) sizes same =
    let size : length group ≡ length other = cc in
    let later : map length groups ≡ map length others = cc in
    let parts = same_fronts group other (concat groups) (concat others) size same in
    let rest = groups_same groups others later parts.1 in
    ap (λ g. g ∷ groups) parts.0 ∙ ap (λ r. other ∷ r) rest

length-concat : (groups others : List (List ℕ)) → map length groups ≡ map length others → length (concat groups) ≡ length (concat others)
length-concat [] [] sizes = refl
length-concat [] (other ∷ others) sizes = cc
length-concat (group ∷ groups) [] sizes = cc
length-concat (group ∷ groups) (other ∷ others) sizes =
    let size : length group ≡ length other = cc in
    let later : map length groups ≡ map length others = cc in
    omega (arith, length-append group (concat groups), length-append other (concat others), length-concat groups others later)

same_cards :
    (game : Game) (past : List Action) (position : ℕ) (holes boards others streets : List (List ℕ)) →
    AreSeen game.players (sees game past position) (rounds_seen game past) holes boards →
    AreSeen game.players (sees game past position) (rounds_seen game past) others streets →
    all_cards holes boards ≡ all_cards others streets → (holes ≡ others) × (boards ≡ streets)
same_cards game past position holes boards others streets seen shown same =
    let place = place_from_seen game.players (sees game past position) (rounds_seen game past) holes boards seen.0 seen.1 in
    let other = place_from_seen game.players (sees game past position) (rounds_seen game past) others streets shown.0 shown.1 in
    let hole_sizes : map length holes ≡ map length others = place.hole_counts ∙ sym other.hole_counts in
    let board_sizes : map length boards ≡ map length streets = place.board_counts ∙ sym other.board_counts in
    let parts = same_fronts (concat holes) (concat others) (concat boards) (concat streets) (length-concat holes others hole_sizes) same in
    (groups_same holes others hole_sizes parts.0, groups_same boards streets board_sizes parts.1)

pub same_view :
    (first second : View) → IsView first → IsView second → first.game ≡ second.game → first.position ≡ second.position → first.hand ≡ second.hand →
    first.past ≡ second.past → all_cards first.holes first.boards ≡ all_cards second.holes second.boards → first ≡ second
same_view first second is other games positions hands pasts cards =
    let by_game = subst (λ g. AreSeen g.players (sees g second.past second.position) (rounds_seen g second.past) second.holes second.boards) (sym games) other.seen in
    let by_past = subst (λ p. AreSeen first.game.players (sees first.game p second.position) (rounds_seen first.game p) second.holes second.boards) (sym pasts) by_game in
    let shown = subst (λ p. AreSeen first.game.players (sees first.game first.past p) (rounds_seen first.game first.past) second.holes second.boards) (sym positions) by_past in
    let same = same_cards first.game first.past first.position first.holes first.boards second.holes second.boards is.seen shown cards in
    let with : Game → ℕ → ℕ → List Action → List (List ℕ) → List (List ℕ) → View =
    λ g p h a cs bs. record { game = g; position = p; hand = h; past = a; holes = cs; boards = bs } in
    ap (λ g. with g first.position first.hand first.past first.holes first.boards) games
    ∙ ap (λ p. with second.game p first.hand first.past first.holes first.boards) positions
    ∙ ap (λ h. with second.game second.position h first.past first.holes first.boards) hands
    ∙ ap (λ a. with second.game second.position second.hand a first.holes first.boards) pasts
    ∙ ap (λ cs. with second.game second.position second.hand second.past cs first.boards) same.0
    ∙ ap (λ bs. with second.game second.position second.hand second.past second.holes bs) same.1
