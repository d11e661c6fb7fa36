-- What the definitions refuse by a little, beside what they just allow.
use Rattle.std.proofs.Common.{◌≡◌, ℕ, zero, suc, ◌<◌, ◌≤◌, ◌⊎◌, inl, inr, Bool, true, false, true≢false, nat_lt, List, [], ◌∷◌, ◌++◌, length, refl, ap, sym, ◌∙◌, subst, arith, length-append}
use Rattle.paxos_wire.specs.declared.ballot.Ballot.{Ballot}
use Rattle.paxos_wire.specs.declared.entry.Entry.{Entry}
use Rattle.slot_log.specs.declared.command.Command.TheVariants.{Deal}
use Rattle.protocol_model.specs.Sets.{In, IsBeginning}
use Rattle.protocol_model.specs.Ballots.{Below, AtMost}
use Rattle.protocol_model.specs.Messages.{Message, Covers, Promise}
use Rattle.protocol_model.specs.Quorums.{count, IsQuorum, HasPromise, IsGreatestTold}
use Rattle.protocol_model.specs.Dealers.{Dealer, AllFit, IsLineStart, HasLine, Log}
use Rattle.protocol_model.specs.Arrivals.{Started}
use Rattle.protocol_model.specs.Moves
use Rattle.protocol_model.specs.Moves.{Shown, Output, nothing, taking, Move}
use Rattle.protocol_model.specs.Nodes.{Node}
use Rattle.protocol_model.specs.Laws.{NeverGoesBack}
use Rattle.protocol_model.proofs.Examples.{toy}

abbrev at : ℕ → ℕ → Ballot
at round node = record { round = round; node = node }

-- the round counts first, then the node
rounds_first : Below (at 1 5) (at 2 0)
rounds_first = inl (omega arith)

then_nodes : Below (at 2 0) (at 2 1)
then_nodes = inr (refl, omega arith)

not_by_node : Below (at 2 0) (at 1 5) → ⊥
not_by_node below = grind arith

not_below_itself : Below (at 2 1) (at 2 1) → ⊥
not_below_itself below = grind arith

-- three of five are a quorum, two of four aren't
three_of_five : IsQuorum 5 (λ node. nat_lt node 3)
three_of_five = omega arith

not_half : IsQuorum 4 (λ node. nat_lt node 2) → ⊥
not_half quorum = omega arith

-- a promise from slot 2 on covers slot 65, and neither slot 66 nor slot 1
last_covered : Covers 2 65
last_covered = (omega arith, omega arith)

not_past : Covers 2 66 → ⊥
not_past covers = omega (arith, covers.1)

not_before : Covers 2 1 → ⊥
not_before covers = omega (arith, covers.0)

-- a second deal doesn't fit
one_deal : AllFit toy (Deal 0 [] ∷ [])
one_deal = (refl, tt)

not_two_deals : AllFit toy (Deal 0 [] ∷ Deal 0 [] ∷ []) → ⊥
not_two_deals fits = cc (fits.0)

-- `a` stands in the bytes as a whole line, behind another line
has_line : HasLine (98 ∷ 10 ∷ 97 ∷ 10 ∷ 99 ∷ []) (97 ∷ [])
has_line = record { before = 98 ∷ 10 ∷ []; after = 99 ∷ []; whole = refl; starts = inr (98 ∷ [], refl); one_line = (λ e. omega (arith, e), tt) }

-- an `a` without a line feed is no line yet
not_yet : HasLine (97 ∷ []) (97 ∷ []) → ⊥
not_yet line = omega (arith, ap length line.whole, length-append line.before ((97 ∷ []) ++ 10 ∷ line.after))

-- nor is the end of a line
not_the_end : HasLine (98 ∷ 97 ∷ 10 ∷ []) (97 ∷ []) → ⊥
not_the_end line = at line.before line.whole line.starts
  where
    at : (before : List ℕ) → 98 ∷ 97 ∷ 10 ∷ [] ≡ before ++ 97 ∷ 10 ∷ line.after → IsLineStart before → ⊥
    at [] e start = grind (arith, e)
    at (byte ∷ []) e (inl none) = cc
    at (byte ∷ []) e (inr start) = ends byte start.0 start.1 (grind (arith, e))
      where
        ends : (byte : ℕ) (front : List ℕ) → byte ∷ [] ≡ front ++ 10 ∷ [] → byte ≡ 98 → ⊥
        ends byte [] is e = grind (arith, is)
        ends byte (x ∷ front) is e = omega (arith, ap length is, length-append front (10 ∷ []))
    at (byte ∷ next ∷ before) e start = omega (arith, ap length e, length-append before (97 ∷ 10 ∷ line.after))

-- and two lines are no line
not_two : HasLine (97 ∷ 10 ∷ 97 ∷ 10 ∷ []) (97 ∷ 10 ∷ 97 ∷ []) → ⊥
not_two line = line.one_line.1.0 refl

-- within a start a node may show more commands, and not fewer; after another start it may
abbrev shown : ℕ → ℕ → Shown
shown start count = record { node = 0; start = start; reader = Log; count = count; text = [] }

forward : NeverGoesBack (shown 2 0 ∷ shown 1 3 ∷ shown 1 2 ∷ [])
forward = (first, (second, (λ s here _ _. absurd here, tt)))
  where
    second : (s : Shown) → In s (shown 1 2 ∷ []) → s.node ≡ 0 → s.start ≡ 1 → s.count ≤ 3
    second s (inl e) node start = subst (λ (x : Shown). x.count ≤ 3) (sym e) (omega arith)
    second s (inr none) node start = absurd none

    first : (s : Shown) → In s (shown 1 3 ∷ shown 1 2 ∷ []) → s.node ≡ 0 → s.start ≡ 2 → s.count ≤ 0
    first s (inl e) node start = absurd (omega (arith, start, ap (λ (x : Shown). x.start) e))
    first s (inr (inl e)) node start = absurd (omega (arith, start, ap (λ (x : Shown). x.start) e))
    first s (inr (inr none)) node start = absurd none

not_back : NeverGoesBack (shown 1 2 ∷ shown 1 3 ∷ []) → ⊥
not_back never = omega (arith, never.0 (shown 1 3) (inl refl) refl refl)

-- beginnings are at the end of a list, since the newest comes first
begins : IsBeginning {A = ℕ} (1 ∷ []) (2 ∷ 1 ∷ [])
begins = (2 ∷ [], refl)

not_begins : IsBeginning {A = ℕ} (2 ∷ []) (2 ∷ 1 ∷ []) → ⊥
not_begins begins = no_later begins.0 begins.1
  where
    no_later : (later : List ℕ) → 2 ∷ 1 ∷ [] ≡ later ++ 2 ∷ [] → ⊥
    no_later [] e = cc
    no_later (x ∷ []) e = grind (arith, e)
    no_later (x ∷ y ∷ later) e = omega (arith, ap length e, length-append later (2 ∷ []))

-- Nodes 0 and 1 promised ballot (3, 2) and told of different deals: the one of the greater ballot is to be proposed.
abbrev first_entry : Entry
first_entry = record { slot = 0; ballot = at 1 0; command = Deal 0 [] }

abbrev later_entry : Entry
later_entry = record { slot = 0; ballot = at 2 1; command = Deal 1 [] }

abbrev had : List Message
had = Promise 0 (at 3 2) 0 (first_entry ∷ []) ∷ Promise 1 (at 3 2) 0 (later_entry ∷ []) ∷ []

greatest : IsGreatestTold 3 had (at 3 2) 0 (Deal 1 [])
greatest = (at 2 1, (1, 0, later_entry ∷ [], inr (inl refl), inl refl), ((λ node. nat_lt node 2), omega arith, promises))
  where
    promises : (node : ℕ) → node < 3 → nat_lt node 2 ≡ true → HasPromise had node (at 3 2) 0 (λ entry. AtMost entry.ballot (at 2 1))
    promises zero within is = (
      0,
      first_entry ∷ [],
      inl refl,
      (omega arith, omega arith),
      λ entry here slot.
          elim here [ inl e ↦ subst (λ (x : Entry). AtMost x.ballot (at 2 1)) (sym e) (inl (omega arith)) | inr none ↦ absurd none ],
    )
    promises (suc zero) within is = (
      0,
      later_entry ∷ [],
      inr (inl refl),
      (omega arith, omega arith),
      λ entry here slot.
          elim here [ inl e ↦ subst (λ (x : Entry). AtMost x.ballot (at 2 1)) (sym e) (inr (refl, omega arith)) | inr none ↦ absurd none ],
    )
    promises (suc (suc node)) within is = absurd (grind arith)

told_in : (node first : ℕ) (told : List Entry) → In (Promise node (at 3 2) first told) had
    → ((node ≡ 0) × (told ≡ first_entry ∷ [])) ⊎ ((node ≡ 1) × (told ≡ later_entry ∷ []))
told_in node first told (inl e) = inl (cc, cc)
told_in node first told (inr (inl e)) = inr (cc, cc)
told_in node first told (inr (inr none)) = absurd none

its_ballot : (ballot : Ballot) (told : List Entry) → In (record { slot = 0; ballot = ballot; command = Deal 0 [] }) told
    → (told ≡ first_entry ∷ []) ⊎ (told ≡ later_entry ∷ []) → ballot ≡ at 1 0
its_ballot ballot told here (inl is) =
    elim (let h : In (record { slot = 0; ballot = ballot; command = Deal 0 [] }) (first_entry ∷ []) = subst (In _) is here in h) [
      | inl e ↦ ap (λ x. x.ballot) e
      | inr none ↦ absurd none
    ]
its_ballot ballot told here (inr is) =
    elim (let h : In (record { slot = 0; ballot = ballot; command = Deal 0 [] }) (later_entry ∷ []) = subst (In _) is here in h) [
      | inl e ↦ absurd (other_deal (ap (λ x. x.command) e))
      | inr none ↦ absurd none
    ]
  where
    other_deal : Deal 0 [] ≡ Deal 1 [] → ⊥
    other_deal e = cc

-- node 1's promise tells of more than ballot (1, 0), and node 2 promised nothing
not_these : (node : ℕ) → (node ≡ 1) ⊎ (node ≡ 2) → HasPromise had node (at 3 2) 0 (λ entry. AtMost entry.ballot (at 1 0)) → ⊥
not_these node which promise = elim (told_in node promise.0 promise.1 promise.2) [
  | inl zeroth ↦ elim which [ inl e ↦ omega (arith, zeroth.0) | inr e ↦ omega (arith, zeroth.0) ]
  | inr one ↦ too_great (promise.4 later_entry (subst (In later_entry) (sym one.1) (inl refl)) refl)
]
  where
    too_great : AtMost (at 2 1) (at 1 0) → ⊥
    too_great h = grind arith

too_few : (quorum : ℕ → Bool) → IsQuorum 3 quorum → quorum 1 ≡ false → quorum 2 ≡ false → ⊥
too_few quorum is one two = by_first (quorum 0) refl
  where
    by_first : (x : Bool) → quorum 0 ≡ x → ⊥
    by_first true e = let c : count quorum 3 ≡ 1 = rw (two, one, e) refl in omega (arith, c)
    by_first false e = let c : count quorum 3 ≡ 0 = rw (two, one, e) refl in omega (arith, c)

not_first_told : IsGreatestTold 3 had (at 3 2) 0 (Deal 0 []) → ⊥
not_first_told g =
    let told = g.1 in
    let is : g.0 ≡ at 1 0 = its_ballot g.0 told.2 told.4 (elim (told_in told.0 told.1 told.2 told.3) [ inl a ↦ inl a.1 | inr b ↦ inr b.1 ]) in
    let quorum = g.2 in
    let none : (node : ℕ) → (node ≡ 1) ⊎ (node ≡ 2) → node < 3 → quorum.0 node ≡ true → ⊥
    = λ node which within member.
    not_these node which (subst (λ b. HasPromise had node (at 3 2) 0 (λ entry. AtMost entry.ballot b)) is (quorum.2 node within member)) in
    too_few quorum.0 quorum.1 (no_member (quorum.0 1) (none 1 (inl refl) (omega arith))) (no_member (quorum.0 2) (none 2 (inr refl) (omega arith)))
  where
    no_member : (x : Bool) → (x ≡ true → ⊥) → x ≡ false
    no_member true never = absurd (never refl)
    no_member false never = refl

-- a node that is down makes no move but a start, and says nothing in that
wrong_state : (b : Bool) → b ≡ true → b ≡ false → ⊥
wrong_state b t f = true≢false (sym t ∙ f)

pub down_is_silent : (dealer : Dealer) (n i : ℕ) (ever : List Message) (old : Node) (out : Output) (new : Node)
    → Move dealer n i ever old out new → old.up ≡ false → (out ≡ taking ever (Started i)) × (new.starts ≡ suc old.starts)
down_is_silent dealer n i ever old out new (Moves.gets message up here eo en) off = absurd (wrong_state old.up up off)
down_is_silent dealer n i ever old out new (Moves.hears seat bytes up eo en) off = absurd (wrong_state old.up up off)
down_is_silent dealer n i ever old out new (Moves.connects seat up eo en) off = absurd (wrong_state old.up up off)
down_is_silent dealer n i ever old out new (Moves.drops seat up eo en) off = absurd (wrong_state old.up up off)
down_is_silent dealer n i ever old out new (Moves.closes seat up eo en) off = absurd (wrong_state old.up up off)
down_is_silent dealer n i ever old out new (Moves.notes seat bytes before line act up connected knows heard says eo en) off = absurd (wrong_state old.up up off)
down_is_silent dealer n i ever old out new (Moves.ordered before act up knows hole orders eo en) off = absurd (wrong_state old.up up off)
down_is_silent dealer n i ever old out new (Moves.begins ballot slot told up own below tells eo en) off = absurd (wrong_state old.up up off)
down_is_silent dealer n i ever old out new (Moves.promises ballot slot told up here below tells eo en) off = absurd (wrong_state old.up up off)
down_is_silent dealer n i ever old out new (Moves.proposes ballot first slot command up prepared none own may eo en) off = absurd (wrong_state old.up up off)
down_is_silent dealer n i ever old out new (Moves.accepts ballot slot command up here at_most eo en) off = absurd (wrong_state old.up up off)
down_is_silent dealer n i ever old out new (Moves.repeats ballot slot command up stored at_most eo en) off = absurd (wrong_state old.up up off)
down_is_silent dealer n i ever old out new (Moves.refuses ballot slot greater up eo en) off = absurd (wrong_state old.up up off)
down_is_silent dealer n i ever old out new (Moves.learns slot command up chosen eo en) off = absurd (wrong_state old.up up off)
down_is_silent dealer n i ever old out new (Moves.believes sender slot command up here eo en) off = absurd (wrong_state old.up up off)
down_is_silent dealer n i ever old out new (Moves.tells slot command up knows eo en) off = absurd (wrong_state old.up up off)
down_is_silent dealer n i ever old out new (Moves.asks slot up eo en) off = absurd (wrong_state old.up up off)
down_is_silent dealer n i ever old out new (Moves.forwards act up said eo en) off = absurd (wrong_state old.up up off)
down_is_silent dealer n i ever old out new (Moves.shows commands reader text up knows further is eo en) off = absurd (wrong_state old.up up off)
down_is_silent dealer n i ever old out new (Moves.stops begun up append eo en) off = absurd (wrong_state old.up up off)
down_is_silent dealer n i ever old out new (Moves.starts store down found eo en) off = (eo, ap (λ v. v.starts) en)
