-- The test of two commands tells whether they are the same.
use Rattle.std.proofs.Common.{ℕ, ◌≡◌, Bool, true, false, List, [], ◌∷◌, refl, sym, ◌∙◌, ap, ◌==◌, if◌then◌else◌}
use Rattle.std.specs.Prelude.{◌↔◌}
use Rattle.std.proofs.lemmas.Bool.{eqb-true, eq-eqb}
use Rattle.betting.specs.declared.action.Action.{Action}
use Rattle.betting.specs.declared.action.Action.TheVariants.{Fold, Call, Raise}
use Rattle.slot_log.specs.declared.command.Command.{Command}
use Rattle.slot_log.specs.declared.command.Command.TheVariants.{Deal, Act, Away}
use Rattle.learner.specs.Same.{is_same_deal, is_same_action, is_same}

deal_by : (c d : ℕ) (cs ds : List ℕ) (x : Bool) → (c == d) ≡ x → (if x then is_same_deal cs ds else false) ≡ true → (is_same_deal cs ds ≡ true → cs ≡ ds) → c ∷ cs ≡ d ∷ ds
deal_by c d cs ds true e h rest = λ i. eqb-true c d e i ∷ rest h i
deal_by c d cs ds false e h rest = absurd (cc)

same_deal : (cs ds : List ℕ) → is_same_deal cs ds ≡ true → cs ≡ ds
same_deal [] [] h = refl
same_deal [] (d ∷ ds) h = absurd (cc)
same_deal (c ∷ cs) [] h = absurd (cc)
same_deal (c ∷ cs) (d ∷ ds) h = deal_by c d cs ds _ refl h (same_deal cs ds)

deal_is_same : (cs : List ℕ) → is_same_deal cs cs ≡ true
deal_is_same [] = refl
deal_is_same (c ∷ cs) = rw (eq-eqb c c refl) (deal_is_same cs)

same_action : (a b : Action) → is_same_action a b ≡ true → a ≡ b
same_action Fold Fold h = refl
same_action Fold Call h = absurd (cc)
same_action Fold (Raise n) h = absurd (cc)
same_action Call Fold h = absurd (cc)
same_action Call Call h = refl
same_action Call (Raise n) h = absurd (cc)
same_action (Raise m) Fold h = absurd (cc)
same_action (Raise m) Call h = absurd (cc)
same_action (Raise m) (Raise n) h = ap Raise (eqb-true m n h)

action_is_same : (a : Action) → is_same_action a a ≡ true
action_is_same Fold = refl
action_is_same Call = refl
action_is_same (Raise n) = eq-eqb n n refl

act_by : (h k i j : ℕ) (a b : Action) (x y : Bool) → (h == k) ≡ x → (i == j) ≡ y → (if x then (if y then is_same_action a b else false) else false) ≡ true → Act h i a ≡ Act k j b
act_by h k i j a b true true ex ey e = λ t. Act (eqb-true h k ex t) (eqb-true i j ey t) (same_action a b e t)
act_by h k i j a b true false ex ey e = absurd (cc)
act_by h k i j a b false y ex ey e = absurd (cc)

dealing_by : (h k : ℕ) (c d : List ℕ) (x : Bool) → (h == k) ≡ x → (if x then is_same_deal c d else false) ≡ true → Deal h c ≡ Deal k d
dealing_by h k c d true ex e = λ t. Deal (eqb-true h k ex t) (same_deal c d e t)
dealing_by h k c d false ex e = absurd (cc)

away_by : (h k i j : ℕ) (x : Bool) → (h == k) ≡ x → (if x then i == j else false) ≡ true → Away h i ≡ Away k j
away_by h k i j true ex e = λ t. Away (eqb-true h k ex t) (eqb-true i j e t)
away_by h k i j false ex e = absurd (cc)

pub same : (c d : Command) → is_same c d ≡ true → c ≡ d
unfolding is_same
same (Deal h c) (Deal k d) e = dealing_by h k c d _ refl e
same (Deal h c) (Act k j b) e = absurd (cc)
same (Deal h c) (Away k j) e = absurd (cc)
same (Act h i a) (Deal k d) e = absurd (cc)
same (Act h i a) (Act k j b) e = act_by h k i j a b _ _ refl refl e
same (Act h i a) (Away k j) e = absurd (cc)
same (Away h i) (Deal k d) e = absurd (cc)
same (Away h i) (Act k j b) e = absurd (cc)
same (Away h i) (Away k j) e = away_by h k i j _ refl e

pub is_itself : (c : Command) → is_same c c ≡ true
unfolding is_same
is_itself (Deal h c) = rw (eq-eqb h h refl) (deal_is_same c)
is_itself (Act h i a) = rw (eq-eqb h h refl, eq-eqb i i refl) (action_is_same a)
is_itself (Away h i) = rw (eq-eqb h h refl) (eq-eqb i i refl)

pub if_equal : (c d : Command) → c ≡ d → is_same c d ≡ true
if_equal c d e = ap (is_same c) (sym e) ∙ is_itself c

pub same_is_equal : (c d : Command) → (is_same c d ≡ true) ↔ (c ≡ d)
same_is_equal c d = (same c d, if_equal c d)

-- the answer of the test is that of the program's
tested : (c d : Command) (r x : Bool) → is_same c d ≡ x → (r ≡ true) ↔ (c ≡ d) → r ≡ x
tested c d true true e h = refl
tested c d true false e h = let yes = if_equal c d (h.0 refl) in absurd (cc)
tested c d false true e h = h.1 (same c d e)
tested c d false false e h = refl

pub test_is : (c d : Command) (r : Bool) → (r ≡ true) ↔ (c ≡ d) → r ≡ is_same c d
test_is c d r h = tested c d r (is_same c d) refl h
