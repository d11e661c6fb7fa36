-- What a promise tells are the votes of its 64 slots, and no others.
use Rattle.std.proofs.Common.{◌≡◌, ℕ, zero, suc, ◌<◌, ◌≤◌, ◌+◌, inl, inr, Option, Some, None, refl, sym, ap, subst, ◌∙◌, arith}
use Rattle.paxos_wire.specs.declared.limits.TheConstants.{WINDOW}
use Rattle.paxos_wire.specs.declared.entry.Entry.{Entry}
use Rattle.protocol_model.specs.Sets.{In}
use Rattle.protocol_model.specs.Messages.{Vote, entry_of, vote_of}
use Rattle.protocol_model.specs.Stores.{Store, Tells}
use Rattle.protocol_model.specs.Votes.{told_at, told_from, told_by}
use Rattle.protocol_model.proofs.Sets.{in_first, in_later, in_split, last_or_below}

told_here : (store : Store) (first k slot : ℕ) (vote : Vote) → first ≤ slot → slot < first + k → store.votes slot ≡ Some vote → In (entry_of slot vote) (told_from store first k)
unfolding told_from
told_here store first zero slot vote low high e = absurd (omega arith)
told_here store first (suc k) slot vote low high e = elim (last_or_below (first + k) slot (omega (arith, high))) [
  | inl last ↦ in_later (told_from store first k) (told_at (first + k) (store.votes (first + k))) (entry_of slot vote)
      (subst (λ (at : ℕ). In (entry_of slot vote) (told_at at (store.votes at))) last (subst (λ (v : Option Vote). In (entry_of slot vote) (told_at slot v)) (sym e) (inl refl)))
  | inr before ↦ in_first (told_from store first k) (told_at (first + k) (store.votes (first + k))) (entry_of slot vote) (told_here store first k slot vote low before e)
]

at_slot : (slot : ℕ) (vote : Option Vote) (store : Store) (entry : Entry) → store.votes slot ≡ vote → In entry (told_at slot vote)
    → (entry.slot ≡ slot) × (store.votes entry.slot ≡ Some (vote_of entry))
at_slot slot None store entry e h = absurd h
at_slot slot (Some vote) store entry e (inl same) =
    let at : entry.slot ≡ slot = ap (λ (x : Entry). x.slot) same in
    (at, ap store.votes at ∙ e ∙ ap (λ (x : Entry). Some (vote_of x)) (sym same))
at_slot slot (Some vote) store entry e (inr h) = absurd h

told_only : (store : Store) (first k : ℕ) (entry : Entry) → In entry (told_from store first k)
    → (first ≤ entry.slot) × (entry.slot < first + k) × (store.votes entry.slot ≡ Some (vote_of entry))
unfolding told_from
told_only store first zero entry h = absurd h
told_only store first (suc k) entry h = elim (in_split (told_from store first k) (told_at (first + k) (store.votes (first + k))) entry h) [
  | inl before ↦ (let t = told_only store first k entry before in (t.0, omega (arith, t.1), t.2))
  | inr last ↦ (let t = at_slot (first + k) (store.votes (first + k)) store entry refl last in (omega (arith, t.0), omega (arith, t.0), t.1))
]

-- the entries are those of the 64 slots, and no others
pub tells : (store : Store) (first : ℕ) → Tells store first (told_by store first)
tells store first = record {
  all = λ slot vote covers e. told_here store first WINDOW slot vote covers.0 (let h = covers.1 in omega arith) e;
  only = λ entry h. let t = told_only store first WINDOW entry h in ((t.0, let l = t.1 in omega arith), t.2);
}
