-- How many hands were dealt at nodes, by their tables.
use Rattle.std.proofs.Common.{◌≡◌, ◌<◌, ◌+◌, ℕ, zero, suc, List, [], ◌∷◌, length, get_or, set, Some, sym, ◌∙◌, ap, subst, arith}
use Rattle.std.specs.Prelude.{slice_get}
use Rattle.std.proofs.lemmas.Option.{same_Some, slice_get_within}
use Rattle.promise_store.specs.declared.disk.Disk.{Ghosts}
use Rattle.slot_log.specs.Hand.{Match}
use Rattle.dealer_kind.specs.Kind.{hands_after}
use Rattle.node_rules.specs.Standings.{Standing, applied}
use Rattle.dealer_node.specs.Nodes.{Node}
use Rattle.dealer_node.specs.Scenes.{IsTableOf}
use Rattle.dealer_node.specs.Seeing.{member_in, IsSeen}
use Rattle.dealer_world.specs.Stepping.{View}
use Rattle.match_runs.specs.Turning.{HasDealt, AreDealt}

-- the table of the node that stands there has so many
pub dealt_at : {D : Type 0} (g : Ghosts D) (view : View (Node D)) (node count : ℕ) (found : Node D) (table : Match) → slice_get view.nodes node ≡ Some found
    → ((s : Standing) → IsSeen g found s → IsTableOf (member_in found).setting (applied s) table) → length table.hands ≡ count → HasDealt g view node count
dealt_at {D} g view node count found table at seen is d s at_d is_seen =
    let same : found ≡ d = same_Some found d (sym at ∙ at_d) in
    let counts : Node D → Type 0 = λ n. IsSeen g n s → length (hands_after (member_in n).setting (applied s)) ≡ count in
    subst counts same (λ seen_so. ap length (sym (seen s seen_so).hands) ∙ is) is_seen

-- what holds of each number before this one, and of what is put at its place
set_more : (Is : ℕ → ℕ → Type 0) (xs : List ℕ) (n x : ℕ) → n < length xs → Is n x → ((i : ℕ) → i < n → Is i (get_or xs i 0))
    → (i : ℕ) → i < n + 1 → Is i (get_or (set xs n x) i 0)
set_more Is [] n x within here before i below = absurd (omega (arith, within))
set_more Is (y ∷ xs) zero x within here before zero below = here
set_more Is (y ∷ xs) zero x within here before (suc i) below = absurd (omega (arith, below))
set_more Is (y ∷ xs) (suc n) x within here before zero below = before zero (omega arith)
set_more Is (y ∷ xs) (suc n) x within here before (suc i) below =
    set_more (λ k. Is (suc k)) xs n x (omega (arith, within)) here (λ k less. before (suc k) (omega (arith, less))) i (omega (arith, below))

-- so many were dealt at each node before this one, and so many at this one
pub dealt_more : {D : Type 0} (g : Ghosts D) (view : View (Node D)) (dealt : List ℕ) (node count : ℕ) → node < length dealt → HasDealt g view node count
    → ((i : ℕ) → i < node → HasDealt g view i (get_or dealt i 0)) → (i : ℕ) → i < node + 1 → HasDealt g view i (get_or (set dealt node count) i 0)
dealt_more g view dealt node count = set_more (HasDealt g view) dealt node count

-- no other number has a node
pub dealt_at_all : {D : Type 0} (g : Ghosts D) (view : View (Node D)) (dealt : List ℕ) → ((i : ℕ) → i < length view.nodes → HasDealt g view i (get_or dealt i 0)) → AreDealt g view dealt
dealt_at_all g view dealt each i d s at = each i (slice_get_within view.nodes i d at) d s at
