use Rattle.std.proofs.Common.{◌≡◌, ◌+◌, ◌<◌, ℕ, List, [], ◌∷◌, ◌++◌, length, get_or, sym, subst, arith, below_more}
use Rattle.std.proofs.lemmas.List.{get_or_append_left, get_or_push}
use Rattle.std.proofs.lemmas.Option.{get_or_from_slice_get}
use Rattle.match_file.specs.Outages.{is_node_out}
use Rattle.dealer_node.specs.Nodes.{Node}
use Rattle.dealer_world.specs.Viewing.{view_of}
use Rattle.serving.specs.declared.known.NodeSight.{NodeSight}
use Rattle.serving.specs.Outing.{outages_in}
use Rattle.serving.specs.Sights.{IsSight}
use Rattle.serving.proofs.seeing.sights.Goals as goal

-- what holds of each pair so far, and of the next one, holds of each once that is pushed
one_more : {A B : Type 0} (P : ℕ → A → B → Type 0) (xs : List A) (ys : List B) (y : B) (n : ℕ) → length ys ≡ n
    → ((i : ℕ) (a : A) (b : B) → i < n → P i (get_or xs i a) (get_or ys i b)) → ((a : A) → P n (get_or xs n a) y)
    → (i : ℕ) (a : A) (b : B) → i < n + 1 → P i (get_or xs i a) (get_or (ys ++ y ∷ []) i b)
one_more P xs ys y n long before last i a b within =
    below_more (λ k. P k (get_or xs k a) (get_or (ys ++ y ∷ []) k b)) n
    (λ k below. subst (P k (get_or xs k a)) (sym (get_or_append_left ys (y ∷ []) b k (omega (arith, long, below)))) (before k a b below))
    (subst (P n (get_or xs n a)) (sym (get_or_push ys y b n long)) (last a))
    i within

pub loop-number-preserved : goal.loop-number-preserved
loop-number-preserved g c =
    let nodes = (view_of c.args.cluster.now).nodes in
    let out = is_node_out (outages_in c.args.outages.now) c.args.count in
    let P = λ (i : ℕ) (node : Node g.row.D.Denot) (sight : NodeSight). IsSight g.D.Disk node (out i) sight in
    let this : (node : Node g.row.D.Denot) → P c.loop-number.number (get_or nodes c.loop-number.number node) c.sight.result =
    λ node. subst (λ (d : Node g.row.D.Denot). P c.loop-number.number d c.sight.result) (sym (get_or_from_slice_get nodes c.loop-number.number c.node.result.now node c.node.ensures))
    (subst (λ b. IsSight g.D.Disk c.node.result.now b c.sight.result) c.is_out-is_out.ensures c.sight.ensures) in
    record {
      count = omega (arith, c.push.ensures.len, c.loop-number.invariant.count);
      each = λ i node sight within.
          subst (λ (sights : List NodeSight). P i (get_or nodes i node) (get_or sights i sight)) (sym c.push.ensures.items)
          (one_more P nodes c.loop-number.sights.items c.sight.result c.loop-number.number (omega (arith, c.loop-number.invariant.count)) c.loop-number.invariant.each this i node sight within);
    }
