-- How often each node was started.
use Rattle.std.proofs.Common.{◌≡◌, ℕ, suc, ◌+◌, ◌<◌, ◌≤◌, ◌∙◌, inl, inr, ◌==◌, cond, Bool, true, false, List, [], ◌∷◌, ◌++◌, map, length, get_or, set, replicate, ap, sym, subst, arith}
use Rattle.std.proofs.lemmas.List.{length-map, length-set, length-replicate, map-append, get_or-set_same, get_or-set_other, get_or-replicate}
use Rattle.std.proofs.lemmas.Bool.{cases_eq}
use Rattle.dealer_world.specs.declared.begun.Begun.{Begun}
use Rattle.dealer_world.specs.Records.{Start, start_count}
use Rattle.dealer_world.specs.Recordings.{start_by}
use Rattle.dealer_world.specs.KeptStarts.{AreCounted}
use Rattle.dealer_world.proofs.Pieces.{count_own, count_other}

at_most_step : (b : Bool) (count size : ℕ) → count ≤ size → cond b (1 + count) count ≤ suc size
at_most_step true count size most = omega (arith, most)
at_most_step false count size most = omega (arith, most)

-- a node has no more starts than there are
at_most : (starts : List Start) (node : ℕ) → start_count starts node ≤ length starts
at_most [] node = omega arith
at_most (begun ∷ starts) node = at_most_step (begun.node == node) (start_count starts node) (length starts) (at_most starts node)

pub count_at_most : (begun : List Begun) (counts : List ℕ) (node : ℕ) → node < 256 → AreCounted begun counts → get_or counts node 0 ≤ length begun
count_at_most begun counts node less are =
    let is = are.1 node less in
    let most = at_most (map start_by begun) node in
    let size = length-map begun start_by in
    omega (arith, is, most, size)

pub none_counted : AreCounted [] (replicate 256 0)
none_counted = (length-replicate {A = ℕ} 256 0, λ node less. get_or-replicate 256 node 0 0 less)

-- one start more
pub one_more : (begun : List Begun) (counts : List ℕ) (node : ℕ) → node < 256 → AreCounted begun counts
    → AreCounted (begun ++ (record { node = node; start = get_or counts node 0 }) ∷ []) (set counts node (get_or counts node 0 + 1))
one_more begun counts node less are =
    let start = get_or counts node 0 in
    let next : Begun = record { node = node; start = start } in (
      length-set counts node (start + 1) ∙ are.0,
      λ i within. elim (cases_eq i node) [
        | inl same ↦
            let own = count_own (map start_by begun) node start in
            let is = are.1 node less in
            let now : get_or (set counts node (start + 1)) node 0 ≡ start + 1 = get_or-set_same counts node (start + 1) 0 (omega (arith, less, are.0)) in
            let more : start_count (map start_by (begun ++ next ∷ [])) node ≡ start_count (map start_by begun ++ start_by next ∷ []) node = ap (λ ss. start_count ss node) (map-append start_by begun (next ∷ [])) in
            subst (λ j. get_or (set counts node (start + 1)) j 0 ≡ start_count (map start_by (begun ++ next ∷ [])) j) (sym same) (omega (arith, own, is, now, more))
        | inr other ↦
            get_or-set_other counts node i (start + 1) 0 other ∙ (are.1 i within
            ∙ (sym (count_other (map start_by begun) node start i (λ same. other (sym same))) ∙ ap (λ ss. start_count ss i) (sym (map-append start_by begun (next ∷ [])))))
      ],
    )
