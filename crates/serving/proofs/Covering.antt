-- The most of one node more.
use Rattle.std.proofs.Common.{◌≡◌, ℕ, zero, suc, ◌+◌, ◌<◌, ◌⊎◌, ⊎_elim, inl, inr, max, refl, ap, sym, ◌∙◌, arith}
use Rattle.dealer_node.specs.Nodes.{Node}
use Rattle.dealer_node.specs.declared.most_shown.MostShown.{MostShown}
use Rattle.dealer_world.specs.Stepping.{View}
use Rattle.dealer_world.specs.Shows.{most_shown_at}
use Rattle.serving.specs.Most.{CoversFirst}

less_or_same : (n m : ℕ) → n < m + 1 → (n < m) ⊎ (n ≡ m)
less_or_same zero zero h = inr refl
less_or_same zero (suc m) h = inl (omega arith)
less_or_same (suc n) zero h = absurd (omega arith)
less_or_same (suc n) (suc m) h = ⊎_elim (λ l. inl (omega (arith, l))) (λ e. inr (ap suc e)) (less_or_same n m (omega arith))

-- the greater of what covers those before and of the next node's covers that too
pub covers_more : {D : Type 0} (view : View (Node D)) (number : ℕ) (most here later : MostShown) → here ≡ most_shown_at view number
    → later.pieces ≡ max most.pieces here.pieces → later.bytes ≡ max most.bytes here.bytes → CoversFirst number view most → CoversFirst (number + 1) view later
covers_more view number most here later is pieces bytes covers = record {
  pieces = λ node less. ⊎_elim (λ l. omega (arith, covers.pieces node l, pieces))
      (λ e. let same : (most_shown_at view node).pieces ≡ here.pieces = ap (λ i. (most_shown_at view i).pieces) e ∙ ap (λ (m : MostShown). m.pieces) (sym is) in omega (arith, same, pieces))
      (less_or_same node number less);
  bytes = λ node less. ⊎_elim (λ l. omega (arith, covers.bytes node l, bytes))
      (λ e. let same : (most_shown_at view node).bytes ≡ here.bytes = ap (λ i. (most_shown_at view i).bytes) e ∙ ap (λ (m : MostShown). m.bytes) (sym is) in omega (arith, same, bytes))
      (less_or_same node number less);
}
