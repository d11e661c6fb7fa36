-- Nothing else passes, call by call.
use Rattle.std.proofs.Common.{◌≡◌, ◌⊎◌, ℕ, zero, suc, ◌+◌, ◌<◌, ◌==◌, Bool, true, false, if◌then◌else◌, List, [], ◌∷◌, ◌++◌, set, inl, inr, refl, ap, sym, subst, ◌∙◌, arith}
use Rattle.std.specs.List.{AllByRecursion}
use Rattle.std.proofs.lemmas.Bool.{cases_eq, eq-eqb, ne_eqb}
use Rattle.std.proofs.lemmas.List.{get_or-set_other}
use Rattle.node_wires.specs.declared.line.Line.TheVariants.{Peer}
use Rattle.node_wires.specs.Passages.{Passage, Began, Came, Wrote, came_over, came_by, wrote_over, wrote_by}
use Rattle.relay_runs.specs.declared.desk.Desk.{Desk}
use Rattle.relay_runs.specs.Since.{begins_there, begun_over}
use Rattle.relay_runs.specs.Own.{IsOwn, was_dialled, IsNoneDialled, IsOwned}
use Rattle.relay_runs.proofs.Writing.{write_behind, came_more, more_begun}

-- ---- none is dialled yet

pub none_dialled : IsNoneDialled []
none_dialled node = refl

pub one_more : (flags : List Bool) → IsNoneDialled flags → IsNoneDialled (flags ++ false ∷ [])
one_more [] none zero = refl
one_more [] none (suc node) = refl
one_more (one ∷ flags) none zero = none 0
one_more (one ∷ flags) none (suc node) = one_more flags (λ other. none (suc other)) node

-- ---- all of a list and one more

all_own : (x : List Passage) (p : Passage) → AllByRecursion IsOwn x → IsOwn p → AllByRecursion IsOwn (x ++ p ∷ [])
all_own [] p all own = (own, tt)
all_own (one ∷ x) p all own = (all.0, all_own x p all.1 own)

-- ---- steps

pub owned_alike : (a b : Desk) (x : List Passage) → b.dialled.items ≡ a.dialled.items → (b.is_seated ≡ false → a.is_seated ≡ false) → IsOwned a x → IsOwned b x
owned_alike a b x flags seat o = record {
  dialled = λ node is. o.dialled node (sym (ap (λ (l : List Bool). was_dialled l node) flags) ∙ is);
  nothing = o.nothing;
  greeted = λ off. o.greeted (seat off);
  lines = o.lines;
}

-- nothing passes at a node by this
abbrev pub IsElsewhere : ℕ → Passage → Type 0
IsElsewhere node p = (came_by (Peer node) [] p ≡ []) × (wrote_by (Peer node) [] p ≡ [])

as_many : (n m k : ℕ) → 0 < n → m ≡ n + k → 0 < m
as_many n m k some is = omega arith

no_more : (n m k : ℕ) → n ≡ 0 → k ≡ 0 → m ≡ n + k → m ≡ 0
no_more n m k none less is = omega arith

none_before : (n m k : ℕ) → m ≡ n + k → m ≡ 0 → n ≡ 0
none_before n m k is none = omega arith

some_not_none : (n : ℕ) → 0 < n → n ≡ 0 → ⊥
some_not_none n some none = omega arith

pub owned_more : (a b : Desk) (x : List Passage) (p : Passage) → b.dialled.items ≡ a.dialled.items → b.is_seated ≡ a.is_seated → IsOwn p → ((node : ℕ) → begins_there (Peer node) p ≡ false)
    → ((node : ℕ) → (was_dialled a.dialled.items node ≡ true) ⊎ IsElsewhere node p) → IsOwned a x → IsOwned b (x ++ p ∷ [])
owned_more a b x p flags seat own begins where_ o = record {
  dialled = λ node is. as_many (begun_over x (Peer node)) _ _ (o.dialled node (sym (ap (λ (l : List Bool). was_dialled l node) flags) ∙ is)) (more_begun x (x ++ p ∷ []) p (Peer node) refl);
  nothing = λ node none.
      let before : begun_over x (Peer node) ≡ 0 = none_before (begun_over x (Peer node)) _ _ (more_begun x (x ++ p ∷ []) p (Peer node) refl) none in
      elim (where_ node) [
        | inl is ↦ absurd (some_not_none (begun_over x (Peer node)) (o.dialled node is) before)
        | inr elsewhere ↦ (
          came_more (Peer node) [] x p ∙ (ap (λ (l : List ℕ). came_by (Peer node) l p) (o.nothing node before).0 ∙ elsewhere.0),
          write_behind (Peer node) [] x p ∙ (ap (λ (l : List ℕ). wrote_by (Peer node) l p) (o.nothing node before).1 ∙ elsewhere.1),
        )
      ];
  greeted = λ off node. no_more (begun_over x (Peer node)) _ _ (o.greeted (sym seat ∙ off) node) (ap (λ (t : Bool). if t then 1 else 0) (begins node)) (more_begun x (x ++ p ∷ []) p (Peer node) refl);
  lines = all_own x p o.lines own;
}

-- a piece of a node's connection
at_node : (flags : List Bool) (node : ℕ) (p : ℕ → Type 0) → was_dialled flags node ≡ true → ((other : ℕ) → (node == other) ≡ false → p other) → (other : ℕ) → (was_dialled flags other ≡ true) ⊎ p other
at_node flags node p is differs other =
    elim (cases_eq node other) [
      | inl same ↦ inl (subst (λ (n : ℕ). was_dialled flags n ≡ true) same is)
      | inr isnt ↦ inr (differs other (ne_eqb node other isnt))
    ]

pub owned_came : (a b : Desk) (x : List Passage) (node : ℕ) (piece : List ℕ) → b.dialled.items ≡ a.dialled.items → b.is_seated ≡ a.is_seated → was_dialled a.dialled.items node ≡ true → IsOwned a x → IsOwned b (x ++ Came (Peer node) piece ∷ [])
owned_came a b x node piece flags seat is o =
    owned_more a b x (Came (Peer node) piece) flags seat refl (λ other. refl)
    (at_node a.dialled.items node (λ (other : ℕ). IsElsewhere other (Came (Peer node) piece)) is (λ other isnt. (ap (λ (t : Bool). if t then [] ++ piece else []) isnt, refl))) o

pub owned_wrote : (a b : Desk) (x : List Passage) (node : ℕ) (piece : List ℕ) → b.dialled.items ≡ a.dialled.items → b.is_seated ≡ a.is_seated → was_dialled a.dialled.items node ≡ true → IsOwned a x → IsOwned b (x ++ Wrote (Peer node) piece ∷ [])
owned_wrote a b x node piece flags seat is o =
    owned_more a b x (Wrote (Peer node) piece) flags seat refl (λ other. refl)
    (at_node a.dialled.items node (λ (other : ℕ). IsElsewhere other (Wrote (Peer node) piece)) is (λ other isnt. (refl, ap (λ (t : Bool). if t then [] ++ piece else []) isnt))) o

one_begun : (n m : ℕ) → m ≡ n + 1 → 0 < m
one_begun n m is = omega arith

no_flag : (t : Bool) → t ≡ false → t ≡ true → ⊥
no_flag t off on = cc

-- a node is dialled
pub owned_dialled : (a b : Desk) (x : List Passage) (node : ℕ) → b.dialled.items ≡ set a.dialled.items node true → b.is_seated ≡ true → IsOwned a x → IsOwned b (x ++ Began (Peer node) ∷ [])
owned_dialled a b x node flags seat o =
    let p : Passage = Began (Peer node) in
    let count : (other : ℕ) → begun_over (x ++ p ∷ []) (Peer other) ≡ begun_over x (Peer other) + (if node == other then 1 else 0) = λ other. more_begun x (x ++ p ∷ []) p (Peer other) refl in
    let here : (other : ℕ) → node ≡ other → 0 < begun_over (x ++ p ∷ []) (Peer other) =
    λ other same. one_begun (begun_over x (Peer other)) _ (count other ∙ ap (λ (t : Bool). begun_over x (Peer other) + (if t then 1 else 0)) (eq-eqb node other same)) in
    record {
      dialled = λ other is. elim (cases_eq node other) [
        | inl same ↦ here other same
        | inr differs ↦ as_many (begun_over x (Peer other)) _ _
            (o.dialled other (sym (ap (λ (l : List Bool). was_dialled l other) flags ∙ get_or-set_other a.dialled.items node other true false (λ same. differs (sym same))) ∙ is)) (count other)
      ];
      nothing = λ other none. elim (cases_eq node other) [
        | inl same ↦ absurd (some_not_none (begun_over (x ++ p ∷ []) (Peer other)) (here other same) none)
        | inr differs ↦
            let before : begun_over x (Peer other) ≡ 0 = none_before (begun_over x (Peer other)) _ _ (count other) none in (
              came_more (Peer other) [] x p ∙ (ap (λ (t : Bool). if t then [] else came_over x (Peer other)) (ne_eqb node other differs) ∙ (o.nothing other before).0),
              write_behind (Peer other) [] x p ∙ (ap (λ (t : Bool). if t then [] else wrote_over x (Peer other)) (ne_eqb node other differs) ∙ (o.nothing other before).1),
            )
      ];
      greeted = λ off. absurd (no_flag b.is_seated off seat);
      lines = all_own x p o.lines refl;
    }

pub owned_fresh : (b : Desk) → IsNoneDialled b.dialled.items → IsOwned b []
owned_fresh b none = record {
  dialled = λ node is. absurd (no_flag (was_dialled b.dialled.items node) (none node) is);
  nothing = λ node n. (refl, refl);
  greeted = λ off node. refl;
  lines = tt;
}
