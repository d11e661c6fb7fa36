-- A run goes on from the stores that it left when it ended.
use Rattle.std.proofs.Common.{◌≡◌, ◌≢◌, ℕ, zero, suc, ◌<◌, ◌≤◌, inl, inr, true, false, List, [], ◌∷◌, ◌++◌, length, refl, ap, sym, ◌∙◌, subst, subst₂, append_assoc, arith, None}
use Rattle.std.proofs.lemmas.Bool.{cases_eq}
use Rattle.protocol_model.specs.Sets.{IsBeginning}
use Rattle.protocol_model.specs.Messages.{Message}
use Rattle.protocol_model.specs.Stores.{Store}
use Rattle.protocol_model.specs.Dealers.{Dealer}
use Rattle.protocol_model.specs.Nodes.{Node}
use Rattle.protocol_model.specs.Moves
use Rattle.protocol_model.specs.Arrivals.{Started, started_below}
use Rattle.protocol_model.specs.Moves.{Output, nothing, taking, Chain}
use Rattle.protocol_model.specs.Worlds
use Rattle.protocol_model.specs.Worlds.{World, IsAfter, Run, Reached}
use Rattle.protocol_model.specs.Laws.{IsLeft, IsStarted, IsOpened}
use Rattle.protocol_model.proofs.Runs.{chain_reaches}

-- the node started again with this store
started : Node → Store → Node
started node store = record {
  store = store;
  begun = store;
  up = true;
  starts = suc node.starts;
  has = [];
  sent = [];
  known = [];
  shown = 0;
  heard = λ seat. None;
}

is_started : (node : Node) (store : Store) → IsStarted node store (started node store)
unfolding started
is_started node store = record { store = refl; begun = refl; up = refl; starts = refl; has = refl; sent = refl; known = refl; shown = refl; heard = λ seat. refl }

-- what the node leaves can be started
restarts : (dealer : Dealer) (n i : ℕ) (ever : List Message) (node : Node) (store : Store) → IsLeft i node store
    → (new : Node) × Chain dealer n i ever node (taking ever (Started i)) new × IsStarted node store new
unfolding started
restarts dealer n i ever node store (inl up) =
    let stopped : Node = record node { begun = store; up = false } in
    let stop = Moves.more nothing node nothing nothing stopped (Moves.none nothing node refl refl) (Moves.stops store up.0 up.1 refl refl) refl in
    let start = Moves.more nothing stopped (taking ever (Started i)) (taking ever (Started i)) (started stopped store) stop (Moves.starts store refl (inr refl) refl refl) refl in
    (started stopped store, start, is_started node store)
restarts dealer n i ever node store (inr down) = (
  started node store,
  Moves.more nothing node (taking ever (Started i)) (taking ever (Started i)) (started node store) (Moves.none nothing node refl refl) (Moves.starts store down.0 down.1 refl refl) refl,
  is_started node store,
)

below : (k i : ℕ) → i < suc k → i ≢ k → i < k
below k i less other = omega arith

above : (k i : ℕ) → suc k ≤ i → i ≢ k
above k i more = omega arith

-- the first k nodes are started again, the others are as they were
record SomeOpened (dealer : Dealer) (n : ℕ) (stores : ℕ → Store) (world : World) (k : ℕ) : Type 0 where
  opened : World
  run : Run dealer n world opened
  ever : opened.ever ≡ world.ever
  shown : opened.shown ≡ world.shown
  came : opened.came ≡ started_below k (length world.ever) ++ world.came
  these : (i : ℕ) → i < k → IsStarted (world.nodes i) (stores i) (opened.nodes i)
  others : (i : ℕ) → k ≤ i → opened.nodes i ≡ world.nodes i

open_some : (dealer : Dealer) (n : ℕ) (stores : ℕ → Store) (world : World) → ((i : ℕ) → i < n → IsLeft i (world.nodes i) (stores i))
    → (k : ℕ) → k ≤ n → SomeOpened dealer n stores world k
open_some dealer n stores world left zero le =
    record { opened = world; run = Worlds.start; ever = refl; shown = refl; came = refl; these = λ i less. absurd (omega arith); others = λ i more. refl }
open_some dealer n stores world left (suc k) le =
    let before = open_some dealer n stores world left k (omega arith) in
    let here = restarts dealer n k before.opened.ever (before.opened.nodes k) (stores k)
    (subst (λ v. IsLeft k v (stores k)) (sym (before.others k (omega arith))) (left k le)) in
    let reached = chain_reaches dealer n world before.opened k (taking before.opened.ever (Started k)) here.0 before.run le here.1 in
    record {
      opened = reached.0;
      run = reached.1;
      ever = reached.2.ever ∙ before.ever;
      shown = reached.2.shown ∙ before.shown;
      came = reached.2.came ∙ (λ j. (record { event = Started k; sent = length (before.ever j) }) ∷ before.came j);
      these = λ i less. elim (cases_eq i k) [
        | inl e ↦ subst (λ j. IsStarted (world.nodes j) (stores j) (reached.0.nodes j)) (sym e)
            (subst₂ (λ u v. IsStarted u (stores k) v) (before.others k (omega arith)) (sym reached.2.moved) here.2)
        | inr other ↦ subst (λ v. IsStarted (world.nodes i) (stores i) v) (sym (reached.2.others i other)) (before.these i (below k i less other))
      ];
      others = λ i more. reached.2.others i (above k i more) ∙ before.others i (omega arith);
    }

-- what was ever sent or shown stays
pub run_grows : (dealer : Dealer) (n : ℕ) (first last : World) → Run dealer n first last → IsBeginning first.ever last.ever × IsBeginning first.shown last.shown × IsBeginning first.came last.came
run_grows dealer n first last Worlds.start = (([], refl), ([], refl), ([], refl))
run_grows dealer n first last (Worlds.more between i out node end run within move after) =
    let before = run_grows dealer n first between run in (
      (out.sent ++ before.0.0, after.ever ∙ (ap (λ xs. out.sent ++ xs) before.0.1 ∙ sym (append_assoc out.sent before.0.0 first.ever))),
      (out.shown ++ before.1.0, after.shown ∙ (ap (λ xs. out.shown ++ xs) before.1.1 ∙ sym (append_assoc out.shown before.1.0 first.shown))),
      (out.came ++ before.2.0, after.came ∙ (ap (λ xs. out.came ++ xs) before.2.1 ∙ sym (append_assoc out.came before.2.0 first.came))),
    )

pub opens : (dealer : Dealer) (n : ℕ) (world : World) (stores : ℕ → Store) → ((i : ℕ) → i < n → IsLeft i (world.nodes i) (stores i))
    → (opened : World) × IsOpened dealer n world stores opened
opens dealer n world stores left =
    let all = open_some dealer n stores world left n (omega arith) in
    (all.opened, record { run = all.run; ever = all.ever; shown = all.shown; came = all.came; nodes = all.these })
