-- Who is counted for a command, and what a quorum of them shows.
use Rattle.std.proofs.Common.{ℕ, ◌≡◌, ◌<◌, ◌⊎◌, inl, inr, Bool, true, false, true≢false, not, List, [], ◌∷◌, refl, sym, ◌∙◌, ap, subst, arith, ◌==◌, if◌then◌else◌, length, get_or, set, get_or-set_same, get_or-set_other}
use Rattle.std.specs.Prelude.{◌↔◌}
use Rattle.std.proofs.lemmas.Bool.{ltb-true, ltb-false, eqb-true, eq-eqb}
use Rattle.std.proofs.lemmas.Bool.Decides.{eqb_tells}
use Rattle.paxos_wire.specs.declared.limits.TheConstants.{NODES}
use Rattle.paxos_wire.specs.declared.ballot.Ballot.{Ballot}
use Rattle.slot_log.specs.declared.command.Command.{Command}
use Rattle.protocol_model.specs.Sets.{In}
use Rattle.protocol_model.proofs.Sets.{all_same}
use Rattle.protocol_model.specs.Messages.{Message, Accepted}
use Rattle.protocol_model.specs.Quorums.{IsChosenIn}
use Rattle.protocol_model.proofs.Quorums.{count_within}
use Rattle.learner.specs.declared.tally.Tally.{Tally}
use Rattle.learner.specs.Same.{is_same}
use Rattle.learner.specs.Tallies.{has, no_nodes, is_quorum, is_of, nodes_for, is_completed}
use Rattle.learner.specs.Learning.{Learned, tallies_at, answers_at, completes}
use Rattle.learner.specs.Counted.{IsOpen, CountsFrom, CountsAll}
use Rattle.learner.proofs.Same.{same, if_equal}

-- ---- which tally is of a command in a ballot

of_by : (b : Ballot) (c : Command) (t : Tally) (x y z : Bool) → (t.ballot.round == b.round) ≡ x → (t.ballot.node == b.node) ≡ y → is_same t.command c ≡ z
    → (if not x then false else if not y then false else z) ≡ true → (t.ballot ≡ b) × (t.command ≡ c)
of_by b c t true true true ex ey ez h = ((λ i. record { round = eqb-true t.ballot.round b.round ex i; node = eqb-true t.ballot.node b.node ey i }), same t.command c ez)
of_by b c t true true false ex ey ez h = absurd (cc)
of_by b c t true false z ex ey ez h = absurd (cc)
of_by b c t false y z ex ey ez h = absurd (cc)

pub is_of_means : (b : Ballot) (c : Command) (t : Tally) → is_of b c t ≡ true → (t.ballot ≡ b) × (t.command ≡ c)
unfolding is_of
is_of_means b c t h = of_by b c t _ _ _ refl refl refl h

pub is_of_if : (b : Ballot) (c : Command) (t : Tally) → t.ballot ≡ b → t.command ≡ c → is_of b c t ≡ true
unfolding is_of
is_of_if b c t eb ec = rw (eq-eqb t.ballot.round b.round (ap (λ (x : Ballot). x.round) eb), eq-eqb t.ballot.node b.node (ap (λ (x : Ballot). x.node) eb)) (if_equal t.command c ec)

-- the last of three tests tells
pub last_test : (b : Ballot) (c : Command) (t : Tally) (r : Bool) → t.ballot.round ≡ b.round → t.ballot.node ≡ b.node → r ≡ is_same t.command c → r ≡ is_of b c t
unfolding is_of
last_test b c t r er en es = rw (eq-eqb t.ballot.round b.round er, eq-eqb t.ballot.node b.node en) es

-- ---- who is counted

pub nobody : (node : ℕ) → has no_nodes node ≡ true → ⊥
nobody node h = true≢false (sym h ∙ all_same false NODES node)

-- a tally in which the node is counted for the command in the ballot
pub record IsTallied (b : Ballot) (c : Command) (ts : List Tally) (node : ℕ) : Type 0 where
  pub tally : Tally
  pub among : In tally ts
  pub ballot : tally.ballot ≡ b
  pub command : tally.command ≡ c
  pub counted : has tally.nodes node ≡ true

tallied_by : (b : Ballot) (c : Command) (t : Tally) (ts : List Tally) (node : ℕ) (x : Bool) → is_of b c t ≡ x → has (if x then t.nodes else nodes_for b c ts) node ≡ true
    → (has (nodes_for b c ts) node ≡ true → IsTallied b c ts node) → IsTallied b c (t ∷ ts) node
tallied_by b c t ts node true e h rest = let is = is_of_means b c t e in record { tally = t; among = inl refl; ballot = is.0; command = is.1; counted = h }
tallied_by b c t ts node false e h rest =
    let r = rest h in record { tally = r.tally; among = inr r.among; ballot = r.ballot; command = r.command; counted = r.counted }

pub tallied : (b : Ballot) (c : Command) (ts : List Tally) (node : ℕ) → has (nodes_for b c ts) node ≡ true → IsTallied b c ts node
tallied b c [] node h = absurd (nobody node h)
tallied b c (t ∷ ts) node h = tallied_by b c t ts node (is_of b c t) refl h (tallied b c ts node)

places_by : (b : Ballot) (c : Command) (t : Tally) (ts : List Tally) (x : Bool) → length t.nodes ≡ NODES → length (nodes_for b c ts) ≡ NODES → length (if x then t.nodes else nodes_for b c ts) ≡ NODES
places_by b c t ts true h k = h
places_by b c t ts false h k = k

pub places_for : (b : Ballot) (c : Command) (ts : List Tally) → ((t : Tally) → In t ts → length t.nodes ≡ NODES) → length (nodes_for b c ts) ≡ NODES
places_for b c [] h = refl
places_for b c (t ∷ ts) h = places_by b c t ts (is_of b c t) (h t (inl refl)) (places_for b c ts (λ u m. h u (inr m)))

-- a node that is counted came
pub counted_came : (messages : List Message) (l : Learned) (b : Ballot) (slot : ℕ) (c : Command) (node : ℕ) → CountsFrom messages l → IsOpen l.log slot
    → has (answers_at l b slot c) node ≡ true → In (Accepted node b slot c) messages
counted_came messages l b slot c node counts opens h =
    let t = tallied b c (tallies_at l.cells slot) node h in
    subst (λ (x : Command). In (Accepted node b slot x) messages) t.command
    (subst (λ (x : Ballot). In (Accepted node x slot t.tally.command) messages) t.ballot (counts slot t.tally opens t.among node t.counted))

-- ---- quorums

-- whoever is among these after one more is that one, or was before
pub one_more : (nodes : List Bool) (from node : ℕ) → has (set nodes from true) node ≡ true → (node ≡ from) ⊎ (has nodes node ≡ true)
one_more nodes from node h = elim (eqb_tells node from) [
  | inl same ↦ inl same.1
  | inr ne ↦ inr (sym (get_or-set_other nodes from node true false ne.1) ∙ h)
]

pub still : (nodes : List Bool) (from node : ℕ) → from < length nodes → (node ≡ from) ⊎ (has nodes node ≡ true) → has (set nodes from true) node ≡ true
still nodes from node room (inl same) = ap (λ k. get_or (set nodes from true) k false) same ∙ get_or-set_same nodes from true false room
still nodes from node room (inr was) = elim (eqb_tells node from) [
  | inl same ↦ ap (λ k. get_or (set nodes from true) k false) same.1 ∙ get_or-set_same nodes from true false room
  | inr ne ↦ get_or-set_other nodes from node true false ne.1 ∙ was
]

-- a quorum that is counted chose
pub quorum_chose : (messages : List Message) (l : Learned) (b : Ballot) (slot : ℕ) (c : Command) → CountsFrom messages l → IsOpen l.log slot
    → is_quorum l.nodes (answers_at l b slot c) ≡ true → IsChosenIn l.nodes messages b slot c
quorum_chose messages l b slot c counts opens h =
    (has (answers_at l b slot c), ltb-true _ _ h, λ node is votes. counted_came messages l b slot c node counts opens votes)

quorum_if : (came : List Message) (l : Learned) (b : Ballot) (slot : ℕ) (c : Command) → CountsAll came l → IsOpen l.log slot
    → IsChosenIn l.nodes came b slot c → (x : Bool) → is_quorum l.nodes (answers_at l b slot c) ≡ x → x ≡ true
quorum_if came l b slot c all opens q true e = refl
quorum_if came l b slot c all opens q false e =
    let more = count_within q.0 (has (answers_at l b slot c)) l.nodes (λ node is yes. all.counted node b slot c is opens (q.2 node is yes)) in
    let few = ltb-false l.nodes _ e in
    let many = q.1 in absurd (omega arith)

-- and what a quorum chose is counted
pub chose_quorum : (came : List Message) (l : Learned) (b : Ballot) (slot : ℕ) (c : Command) → CountsAll came l → IsOpen l.log slot
    → IsChosenIn l.nodes came b slot c → is_quorum l.nodes (answers_at l b slot c) ≡ true
chose_quorum came l b slot c all opens q = quorum_if came l b slot c all opens q _ refl

-- ---- an answer that completes a quorum

completed_by : (n from : ℕ) (nodes : List Bool) (x : Bool) → is_quorum n nodes ≡ x → (if x then false else is_quorum n (set nodes from true)) ≡ true
    → (is_quorum n nodes ≡ false) × (is_quorum n (set nodes from true) ≡ true)
completed_by n from nodes true e h = absurd (cc)
completed_by n from nodes false e h = (e, h)

pub completed_parts : (n from : ℕ) (nodes : List Bool) → is_completed n nodes from ≡ true → (is_quorum n nodes ≡ false) × (is_quorum n (set nodes from true) ≡ true)
completed_parts n from nodes h = completed_by n from nodes (is_quorum n nodes) refl h

pub completed_is_chosen : (messages : List Message) (l : Learned) (from : ℕ) (b : Ballot) (slot : ℕ) (c : Command)
    → CountsFrom messages l → In (Accepted from b slot c) messages → IsOpen l.log slot
    → completes l from b slot c ≡ true → IsChosenIn l.nodes messages b slot c
completed_is_chosen messages l from b slot c counts came opens h =
    let parts = completed_parts l.nodes from (answers_at l b slot c) h in (
      has (set (answers_at l b slot c) from true),
      ltb-true _ _ parts.1,
      λ node is votes. elim (one_more (answers_at l b slot c) from node votes) [
        | inl same ↦ subst (λ (k : ℕ). In (Accepted k b slot c) messages) (sym same) came
        | inr was ↦ counted_came messages l b slot c node counts opens was
      ],
    )

sender_is : (k from : ℕ) (b : Ballot) (slot : ℕ) (c : Command) → Accepted k b slot c ≡ Accepted from b slot c → k ≡ from
sender_is k from b slot c h = cc

after_if : (came : List Message) (l : Learned) (from : ℕ) (b : Ballot) (slot : ℕ) (c : Command) → CountsAll came l → from < l.nodes → IsOpen l.log slot
    → IsChosenIn l.nodes (Accepted from b slot c ∷ came) b slot c → (x : Bool) → is_quorum l.nodes (set (answers_at l b slot c) from true) ≡ x → x ≡ true
after_if came l from b slot c all is opens q true e = refl
after_if came l from b slot c all is opens q false e =
    let places = places_for b c (tallies_at l.cells slot) (all.places slot) in
    let room : from < length (answers_at l b slot c) = let most = all.few in omega (arith, places) in
    let more = count_within q.0 (has (set (answers_at l b slot c) from true)) l.nodes (λ node below yes. still (answers_at l b slot c) from node room
    (elim (q.2 node below yes) [
      | inl same ↦ inl (sender_is node from b slot c same)
      | inr older ↦ inr (all.counted node b slot c below opens older)
    ])) in
    let few = ltb-false l.nodes _ e in
    let many = q.1 in absurd (omega arith)

pub after_quorum : (came : List Message) (l : Learned) (from : ℕ) (b : Ballot) (slot : ℕ) (c : Command) → CountsAll came l → from < l.nodes → IsOpen l.log slot
    → IsChosenIn l.nodes (Accepted from b slot c ∷ came) b slot c → is_quorum l.nodes (set (answers_at l b slot c) from true) ≡ true
after_quorum came l from b slot c all is opens q = after_if came l from b slot c all is opens q _ refl

complete_if : (came : List Message) (l : Learned) (from : ℕ) (b : Ballot) (slot : ℕ) (c : Command) → CountsFrom came l → IsOpen l.log slot
    → is_quorum l.nodes (set (answers_at l b slot c) from true) ≡ true → ¬ IsChosenIn l.nodes came b slot c
    → (x : Bool) → is_quorum l.nodes (answers_at l b slot c) ≡ x → (if x then false else is_quorum l.nodes (set (answers_at l b slot c) from true)) ≡ true
complete_if came l from b slot c counts opens after none true e = absurd (none (quorum_chose came l b slot c counts opens e))
complete_if came l from b slot c counts opens after none false e = after

pub completes_once : (came : List Message) (l : Learned) (from : ℕ) (b : Ballot) (slot : ℕ) (c : Command)
    → CountsFrom came l → CountsAll came l → from < l.nodes → IsOpen l.log slot
    → (completes l from b slot c ≡ true) ↔ (IsChosenIn l.nodes (Accepted from b slot c ∷ came) b slot c × ¬ IsChosenIn l.nodes came b slot c)
completes_once came l from b slot c counts all is opens = (
  λ h. (
    completed_is_chosen (Accepted from b slot c ∷ came) l from b slot c (λ s t o m node votes. inr (counts s t o m node votes)) (inl refl) opens h,
    λ q. let no = (completed_parts l.nodes from (answers_at l b slot c) h).0 in let yes = chose_quorum came l b slot c all opens q in absurd (cc),
  ),
  λ h. complete_if came l from b slot c counts opens (after_quorum came l from b slot c all is opens h.0) h.1 _ refl,
)
