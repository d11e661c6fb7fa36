-- The fold over what promises tell gives the entry of the greatest ballot.
use Rattle.std.proofs.Common.{ℕ, ◌≡◌, ◌<◌, ◌⊎◌, inl, inr, zero, suc, Bool, true, false, List, [], ◌∷◌, Option, Some, None, refl, sym, ◌∙◌, ap, subst, arith, ◌==◌}
use Rattle.std.proofs.lemmas.Bool.{eqb-false, eqb-true}
use Rattle.paxos_wire.specs.declared.entry.Entry.{Entry}
use Rattle.protocol_model.specs.Sets.{In}
use Rattle.protocol_model.specs.Ballots.{AtMost}
use Rattle.protocol_model.proofs.Ballots.{at_most_trans, at_most_self, at_most_of_below, below_if, at_most_if_not}
use Rattle.proposer.specs.declared.campaign.Campaign.{Campaign}
use Rattle.proposer.specs.Told.{better, best_in, best_after}
use Rattle.paxos_wire.specs.Order.{is_below}
use Rattle.proposer.specs.Campaigns.{promise_by, greatest_told}
use Rattle.proposer.specs.Counted.{Tells, IsGreatest}

-- the greatest of those that are so; none where none is
abbrev IsGreatestOf : (Entry → Type 0) → Option Entry → Type 0
IsGreatestOf IsSo None = (e : Entry) → IsSo e → ⊥
IsGreatestOf IsSo (Some g) = IsSo g × ((e : Entry) → IsSo e → AtMost e.ballot g.ballot)

-- the greatest of some, and then of it and more, is the greatest of all
grow : (C D : Entry → Type 0) (b r : Option Entry) → IsGreatestOf C b → IsGreatestOf (λ e. (b ≡ Some e) ⊎ D e) r → IsGreatestOf (λ e. C e ⊎ D e) r
grow C D None None h k = λ e m. elim m [ inl c ↦ h e c | inr d ↦ k e (inr d) ]
grow C D None (Some g) h k = (elim k.0 [ inl n ↦ absurd (cc) | inr d ↦ inr d ], λ e m. elim m [ inl c ↦ absurd (h e c) | inr d ↦ k.1 e (inr d) ])
grow C D (Some b) None h k = absurd (k b (inl refl))
grow C D (Some b) (Some g) h k = (
  elim k.0 [ inl n ↦ let same : b ≡ g = cc in inl (subst C same h.0) | inr d ↦ inr d ],
  λ e m. elim m [ inl c ↦ at_most_trans e.ballot b.ballot g.ballot (h.1 e c) (k.1 b (inl refl)) | inr d ↦ k.1 e (inr d) ],
)

-- of the same entries there is the same greatest
alike : (C D : Entry → Type 0) (r : Option Entry) → ((e : Entry) → C e → D e) → ((e : Entry) → D e → C e) → IsGreatestOf C r → IsGreatestOf D r
alike C D None f g h = λ e d. h e (g e d)
alike C D (Some x) f g h = (f x h.0, λ e d. h.1 e (g e d))

-- one entry alone, and none besides
alone : (best : Option Entry) (D : Entry → Type 0) → ((e : Entry) → D e → ⊥) → IsGreatestOf (λ e. (best ≡ Some e) ⊎ D e) best
alone None D none = λ e m. elim m [ inl n ↦ absurd (cc) | inr d ↦ none e d ]
alone (Some o) D none = (
  inl refl,
  λ e m. elim m [ inl n ↦ let same : o ≡ e = cc in subst (λ (y : Entry). AtMost y.ballot o.ballot) same (at_most_self o.ballot) | inr d ↦ absurd (none e d) ],
)

better_is : (best : Option Entry) (slot : ℕ) (x : Entry) (b c : Bool) → (x.slot == slot) ≡ b → is_below (elim best [ None ↦ x.ballot | Some o ↦ o.ballot ]) x.ballot ≡ c
    → IsGreatestOf (λ e. (best ≡ Some e) ⊎ ((e ≡ x) × (e.slot ≡ slot))) (better best slot x)
better_is None slot x true c is _ = rw is (
  inr (refl, eqb-true x.slot slot is),
  λ e m. elim m [ inl n ↦ absurd (cc) | inr d ↦ subst (λ (y : Entry). AtMost y.ballot x.ballot) (sym d.0) (at_most_self x.ballot) ],
)
better_is None slot x false c is _ = rw is (alone None (λ e. (e ≡ x) × (e.slot ≡ slot)) (λ e d. eqb-false x.slot slot is (ap (λ (y : Entry). y.slot) (sym d.0) ∙ d.1)))
better_is (Some o) slot x false c is _ = rw is (alone (Some o) (λ e. (e ≡ x) × (e.slot ≡ slot)) (λ e d. eqb-false x.slot slot is (ap (λ (y : Entry). y.slot) (sym d.0) ∙ d.1)))
better_is (Some o) slot x true true is below = rw (is, below) (
  inr (refl, eqb-true x.slot slot is),
  λ e m. elim m [
    | inl n ↦ let same : o ≡ e = cc in subst (λ (y : Entry). AtMost y.ballot x.ballot) same (at_most_of_below o.ballot x.ballot (below_if o.ballot x.ballot below))
    | inr d ↦ subst (λ (y : Entry). AtMost y.ballot x.ballot) (sym d.0) (at_most_self x.ballot)
  ],
)
better_is (Some o) slot x true false is below = rw (is, below) (
  inl refl,
  λ e m. elim m [
    | inl n ↦ let same : o ≡ e = cc in subst (λ (y : Entry). AtMost y.ballot o.ballot) same (at_most_self o.ballot)
    | inr d ↦ subst (λ (y : Entry). AtMost y.ballot o.ballot) (sym d.0) (at_most_if_not o.ballot x.ballot below)
  ],
)

in_is : (best : Option Entry) (slot : ℕ) (entries : List Entry) → IsGreatestOf (λ e. (best ≡ Some e) ⊎ (In e entries × (e.slot ≡ slot))) (best_in best slot entries)
in_is best slot [] = alone best (λ e. In e [] × (e.slot ≡ slot)) (λ e d. d.0)
in_is best slot (x ∷ xs) = alike _ _ (best_in (better best slot x) slot xs)
    (λ e m. elim m [ inl c ↦ elim c [ inl n ↦ inl n | inr d ↦ inr (inl d.0, d.1) ] | inr d ↦ inr (inr d.0, d.1) ])
    (λ e m. elim m [ inl n ↦ inl (inl n) | inr d ↦ elim d.0 [ inl same ↦ inl (inr (same, d.1)) | inr later ↦ inr (later, d.1) ] ])
    (grow (λ e. (best ≡ Some e) ⊎ ((e ≡ x) × (e.slot ≡ slot))) (λ e. In e xs × (e.slot ≡ slot)) (better best slot x) (best_in (better best slot x) slot xs)
    (better_is best slot x _ _ refl refl) (in_is (better best slot x) slot xs))

-- what one promise tells of the slot
abbrev TellsIn : Option (List Entry) → ℕ → Entry → Type 0
TellsIn promise slot e = (told : List Entry) × (promise ≡ Some told) × In e told × (e.slot ≡ slot)

after_is : (best : Option Entry) (slot : ℕ) (promise : Option (List Entry)) → IsGreatestOf (λ e. (best ≡ Some e) ⊎ TellsIn promise slot e) (best_after best slot promise)
after_is best slot None = alone best (TellsIn None slot) (λ e d. let n = d.1 in absurd (cc))
after_is best slot (Some told) = alike _ _ (best_in best slot told)
    (λ e m. elim m [ inl n ↦ inl n | inr d ↦ inr (told, refl, d.0, d.1) ])
    (λ e m. elim m [ inl n ↦ inl n | inr d ↦ let n = d.1 in let same : d.0 ≡ told = cc in inr (subst (In e) same d.2, d.3) ])
    (in_is best slot told)

told_is : (n : ℕ) (c : Campaign) (slot : ℕ) → IsGreatestOf (Tells n c slot) (greatest_told c slot n)
told_is zero c slot = λ e d. let below = d.2 in omega arith
told_is (suc n) c slot = alike _ _ (best_after (greatest_told c slot n) slot (promise_by c n))
    (λ e m. elim m [ inl t ↦ let below = t.2 in (t.0, t.1, omega arith, t.3, t.4, t.5) | inr d ↦ (n, d.0, omega arith, d.1, d.2, d.3) ])
    (λ e t. last_or e t)
    (grow (Tells n c slot) (TellsIn (promise_by c n) slot) (greatest_told c slot n) (best_after (greatest_told c slot n) slot (promise_by c n))
    (told_is n c slot) (after_is (greatest_told c slot n) slot (promise_by c n)))
  where
    last_or : (e : Entry) → Tells (suc n) c slot e → Tells n c slot e ⊎ TellsIn (promise_by c n) slot e
    last_or e t =
        let below = t.2 in
        let cases : (t.0 < n) ⊎ (t.0 ≡ n) = grind arith in
        elim cases [ inl lower ↦ inl (t.0, t.1, lower, t.3, t.4, t.5) | inr last ↦ inr (t.1, ap (promise_by c) (sym last) ∙ t.3, t.4, t.5) ]

as_greatest : (n : ℕ) (c : Campaign) (slot : ℕ) (r : Option Entry) → IsGreatestOf (Tells n c slot) r → IsGreatest n c slot r
as_greatest n c slot None h = h
as_greatest n c slot (Some g) h = h

pub greatest_decides : (n : ℕ) (c : Campaign) (slot : ℕ) → IsGreatest n c slot (greatest_told c slot n)
greatest_decides n c slot = as_greatest n c slot (greatest_told c slot n) (told_is n c slot)
