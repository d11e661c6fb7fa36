-- A whole run of three nodes, and near misses: what the definitions say of them.
use Rattle.std.proofs.Common.{◌≡◌, ℕ, zero, suc, ◌<◌, inl, inr, Bool, true, false, ◌==◌, if◌then◌else◌, nat_lt, Option, None, Some, List, [], ◌∷◌, refl, sym, ◌∙◌, subst, arith}
use Rattle.paxos_wire.specs.declared.ballot.Ballot.{Ballot}
use Rattle.paxos_wire.specs.declared.entry.Entry.{Entry}
use Rattle.slot_log.specs.declared.command.Command.{Command}
use Rattle.slot_log.specs.declared.command.Command.TheVariants.{Deal}
use Rattle.protocol_model.specs.Sets.{In}
use Rattle.protocol_model.specs.Ballots.{AtMost}
use Rattle.protocol_model.specs.Messages.{Vote, entry_of, vote_of, Message, Covers, Prepare, Promise, Accept, Accepted}
use Rattle.protocol_model.specs.Quorums.{IsChosen, HasPromise}
use Rattle.protocol_model.specs.Stores.{Store, empty_store, promised, voted, Tells}
use Rattle.protocol_model.specs.Stores
use Rattle.protocol_model.specs.Backing.{Backs, IsAcceptedToo}
use Rattle.protocol_model.proofs.Ballots.{at_most_self}
use Rattle.protocol_model.specs.Dealers.{Dealer, Seat}
use Rattle.protocol_model.specs.Nodes.{Node}
use Rattle.protocol_model.specs.Arrivals.{Started}
use Rattle.protocol_model.specs.Moves
use Rattle.protocol_model.specs.Moves.{Shown, Output, nothing, sending, taking, with_store, with_sent, Move}
use Rattle.protocol_model.specs.Worlds
use Rattle.protocol_model.specs.Worlds.{World, Run, Reached, new_world}
use Rattle.protocol_model.specs.Laws.{IsLeft, IsOpened}
use Rattle.protocol_model.proofs.Sets.{put_cases}
use Rattle.protocol_model.proofs.Opening.{opens}
use Rattle.protocol_model.proofs.Runs.{after_move, is_after_move}

-- a deal of no cards fits first, and nothing after it; it is node 0's own; then a seat is shown its number
abbrev pub deal : Command
deal = Deal 0 []

abbrev pub first_only : List Command → Bool
first_only [] = true
first_only (command ∷ before) = false

abbrev pub shown_to : List Command → ℕ → Option (List ℕ)
shown_to [] seat = None
shown_to (command ∷ before) seat = Some (seat ∷ [])

abbrev pub toy : Dealer
toy = record {
  fits = λ before command. first_only before;
  own = λ node command. node == 0;
  line = shown_to;
  log = λ commands. [];
  says = λ before seat line act. false;
  orders = λ before act. false;
}

abbrev ballot : Ballot
ballot = record { round = 1; node = 0 }

abbrev second_ballot : Ballot
second_ballot = record { round = 2; node = 2 }

next : (world : World) (i : ℕ) (out : Output) (node : Node) → Reached toy 3 world → i < 3 → Move toy 3 i world.ever (world.nodes i) out node
    → Reached toy 3 (after_move world i out node)
next world i out node run within move = Worlds.more world i out node (after_move world i out node) run within move (is_after_move world i out node)

-- node i started with this store, for the first or second time
abbrev pub fresh : Store → ℕ → Node
fresh store starts = record {
  store = store;
  begun = store;
  up = true;
  starts = starts;
  has = [];
  sent = [];
  known = [];
  shown = 0;
  heard = λ seat. None;
}

abbrev getting : Node → Message → Node
getting node message = record node { has = message ∷ node.has }

-- all three start
abbrev world_1 : World
world_1 = after_move (after_move (after_move new_world 0 (taking [] (Started 0)) (fresh empty_store 1)) 1 (taking [] (Started 1)) (fresh empty_store 1)) 2 (taking [] (Started 2)) (fresh empty_store 1)

run_1 : Reached toy 3 world_1
run_1 =
    next _ 2 (taking [] (Started 2)) _
    (next _ 1 (taking [] (Started 1)) _
    (next new_world 0 (taking [] (Started 0)) (fresh empty_store 1) Worlds.start (omega arith) (Moves.starts empty_store refl (inl refl) refl refl))
    (omega arith) (Moves.starts empty_store refl (inl refl) refl refl))
    (omega arith) (Moves.starts empty_store refl (inl refl) refl refl)

-- a node gets a message, or sends one
abbrev got : World → ℕ → Message → World
got world i message = after_move world i nothing (getting (world.nodes i) message)

abbrev said : World → ℕ → Message → World
said world i message = after_move world i (sending message) (with_sent (world.nodes i) (message ∷ []))

abbrev stored : World → ℕ → Store → Message → World
stored world i store message = after_move world i (sending message) (with_sent (with_store (world.nodes i) store) (message ∷ []))

gets : (world : World) (i : ℕ) (message : Message) → Reached toy 3 world → i < 3 → (world.nodes i).up ≡ true → In message world.ever
    → Reached toy 3 (got world i message)
gets world i message run within up here = next world i nothing _ run within (Moves.gets message up here refl refl)

pub no_vote : (v : Vote) → (let none : Option Vote = None in none) ≡ Some v → ⊥
no_vote v is = cc

empty_tells : Tells empty_store 0 []
empty_tells = record { all = λ slot v covers is. absurd (no_vote v is); only = λ e here. absurd here }

-- node 0 begins ballot (1, 0) at slot 0, and node 1 promises it
abbrev world_2 : World
world_2 =
    after_move world_1 0 (record { sent = Promise 0 ballot 0 [] ∷ Prepare ballot 0 ∷ []; shown = []; came = [] })
    (with_sent (with_store (world_1.nodes 0) (promised empty_store ballot)) (Promise 0 ballot 0 [] ∷ Prepare ballot 0 ∷ []))

abbrev world_3 : World
world_3 = got world_2 1 (Prepare ballot 0)

abbrev world_4 : World
world_4 = stored world_3 1 (promised empty_store ballot) (Promise 1 ballot 0 [])

run_4 : Reached toy 3 world_4
run_4 =
    let run_2 : Reached toy 3 world_2 = next world_1 0 _ _ run_1 (omega arith) (Moves.begins ballot 0 [] refl refl (inl (omega arith)) empty_tells refl refl) in
    let run_3 = gets world_2 1 (Prepare ballot 0) run_2 (omega arith) refl (inr (inl refl)) in
    next world_3 1 _ _ run_3 (omega arith) (Moves.promises ballot 0 [] refl (inl refl) (inl (omega arith)) empty_tells refl refl)

-- node 0 gets both promises, and proposes its deal
abbrev world_6 : World
world_6 = got (got world_4 0 (Promise 1 ballot 0 [])) 0 (Promise 0 ballot 0 [])

run_6 : Reached toy 3 world_6
run_6 =
    let run_5 = gets world_4 0 (Promise 1 ballot 0 []) run_4 (omega arith) refl (inl refl) in
    gets (got world_4 0 (Promise 1 ballot 0 [])) 0 (Promise 0 ballot 0 []) run_5 (omega arith) refl (inr (inl refl))

abbrev world_7 : World
world_7 = said world_6 0 (Accept ballot 0 deal)

-- nodes 0 and 1
abbrev these : ℕ → Bool
these node = nat_lt node 2

these_promise : (node : ℕ) → node < 3 → these node ≡ true → HasPromise (world_6.nodes 0).has node ballot 0 (λ entry. ⊥)
these_promise zero within is = (0, [], inl refl, (omega arith, omega arith), λ entry here _. here)
these_promise (suc zero) within is = (0, [], inr (inl refl), (omega arith, omega arith), λ entry here _. here)
these_promise (suc (suc node)) within is = absurd (grind arith)

run_7 : Reached toy 3 world_7
run_7 =
    next world_6 0 _ _ run_6 (omega arith)
    (Moves.proposes ballot 0 0 deal refl (inr (inl refl)) (λ other here. no_accept other here) refl
    (inr ((these, omega arith, these_promise), inl refl, ([], tt, refl, (λ other here. here), refl))) refl refl)
  where
    no_accept : (other : Command) → In (Accept ballot 0 other) (Promise 0 ballot 0 [] ∷ Prepare ballot 0 ∷ []) → ⊥
    no_accept other (inl e) = cc
    no_accept other (inr (inl e)) = cc
    no_accept other (inr (inr none)) = none

-- nodes 0 and 1 accept it: it is chosen
abbrev vote : Vote
vote = record { ballot = ballot; command = deal }

abbrev world_8 : World
world_8 = got world_7 0 (Accept ballot 0 deal)

abbrev world_9 : World
world_9 = stored world_8 0 (voted (promised empty_store ballot) 0 vote) (Accepted 0 ballot 0 deal)

abbrev world_10 : World
world_10 = got world_9 1 (Accept ballot 0 deal)

abbrev world_11 : World
world_11 = stored world_10 1 (voted (promised empty_store ballot) 0 vote) (Accepted 1 ballot 0 deal)

run_11 : Reached toy 3 world_11
run_11 =
    let run_8 = gets world_7 0 (Accept ballot 0 deal) run_7 (omega arith) refl (inl refl) in
    let run_9 : Reached toy 3 world_9 = next world_8 0 _ _ run_8 (omega arith)
    (Moves.accepts ballot 0 deal refl (inl refl) (inr (refl, omega arith)) refl refl) in
    let run_10 = gets world_9 1 (Accept ballot 0 deal) run_9 (omega arith) refl (inr (inl refl)) in
    next world_10 1 _ _ run_10 (omega arith) (Moves.accepts ballot 0 deal refl (inl refl) (inr (refl, omega arith)) refl refl)

-- node 0 hears of it, learns it, and shows its line to seat 1
abbrev world_13 : World
world_13 = got (got world_11 0 (Accepted 0 ballot 0 deal)) 0 (Accepted 1 ballot 0 deal)

abbrev world_14 : World
world_14 = after_move world_13 0 nothing (record (world_13.nodes 0) { known = (0, deal) ∷ [] })

abbrev line : Shown
line = record { node = 0; start = 1; reader = Seat 1; count = 1; text = 1 ∷ [] }

abbrev world_15 : World
world_15 = after_move world_14 0 (record { sent = []; shown = line ∷ []; came = [] }) (record (world_14.nodes 0) { shown = 1 })

accepted_13 : (node : ℕ) → node < 3 → these node ≡ true → In (Accepted node ballot 0 deal) (world_13.nodes 0).has
accepted_13 zero within is = inr (inl refl)
accepted_13 (suc zero) within is = inl refl
accepted_13 (suc (suc node)) within is = absurd (grind arith)

run_15 : Reached toy 3 world_15
run_15 =
    let run_12 = gets world_11 0 (Accepted 0 ballot 0 deal) run_11 (omega arith) refl (inr (inl refl)) in
    let run_13 : Reached toy 3 world_13 =
    gets (got world_11 0 (Accepted 0 ballot 0 deal)) 0 (Accepted 1 ballot 0 deal) run_12 (omega arith) refl (inl refl) in
    let run_14 : Reached toy 3 world_14 = next world_13 0 _ _ run_13 (omega arith)
    (Moves.learns 0 deal refl (ballot, (these, omega arith, accepted_13)) refl refl) in
    next world_14 0 _ _ run_14 (omega arith) (Moves.shows (deal ∷ []) (Seat 1) (1 ∷ []) refl (inl refl, tt) (omega arith) refl refl refl)

-- node 2 stops while it appends its promise of the first ballot; it starts, and the promise is there
abbrev world_16 : World
world_16 = got world_15 2 (Prepare ballot 0)

abbrev world_17 : World
world_17 = after_move world_16 2 nothing (record (world_16.nodes 2) { begun = promised empty_store ballot; up = false })

abbrev world_18 : World
world_18 = after_move world_17 2 (taking world_17.ever (Started 2)) (fresh (promised empty_store ballot) 2)

begun_promise : Stores.Append 2 (Prepare ballot 0 ∷ []) empty_store (promised empty_store ballot)
begun_promise =
    Stores.moved empty_store _ (Stores.unchanged _ refl) (Stores.promise ballot 0 (inl refl) (inl (omega arith)) refl)

run_18 : Reached toy 3 world_18
run_18 =
    let run_16 = gets world_15 2 (Prepare ballot 0) run_15 (omega arith) refl (inr (inr (inr (inr (inr (inl refl)))))) in
    let run_17 : Reached toy 3 world_17 = next world_16 2 _ _ run_16 (omega arith)
    (Moves.stops (promised empty_store ballot) refl begun_promise refl refl) in
    next world_17 2 _ _ run_17 (omega arith) (Moves.starts (promised empty_store ballot) refl (inr refl) refl refl)

-- it begins ballot (2, 2); node 1 promises that, and tells what it accepted
abbrev entry : Entry
entry = record { slot = 0; ballot = ballot; command = deal }

abbrev world_19 : World
world_19 =
    after_move world_18 2 (record { sent = Promise 2 second_ballot 0 [] ∷ Prepare second_ballot 0 ∷ []; shown = []; came = [] })
    (with_sent (with_store (world_18.nodes 2) (promised empty_store second_ballot)) (Promise 2 second_ballot 0 [] ∷ Prepare second_ballot 0 ∷ []))

abbrev world_20 : World
world_20 = got world_19 1 (Prepare second_ballot 0)

abbrev world_21 : World
world_21 = stored world_20 1 (promised (world_20.nodes 1).store second_ballot) (Promise 1 second_ballot 0 (entry ∷ []))

same_vote : (v : Vote) → Some vote ≡ Some v → v ≡ vote
same_vote v is = cc

tells_21 : Tells (world_20.nodes 1).store 0 (entry ∷ [])
tells_21 = record { all = all; only = λ e here. elim here [ inl is ↦ subst IsHeld (sym is) ((omega arith, omega arith), refl) | inr none ↦ absurd none ] }
  where
    IsHeld : Entry → Type 0
    IsHeld e = Covers 0 e.slot × ((world_20.nodes 1).store.votes e.slot ≡ Some (vote_of e))

    all : (slot : ℕ) (v : Vote) → Covers 0 slot → (world_20.nodes 1).store.votes slot ≡ Some v → In (entry_of slot v) (entry ∷ [])
    all slot v covers is = elim (put_cases (λ s. None) 0 (Some vote) slot) [
      | inl here ↦ let same = same_vote v (sym here.1 ∙ is) in inl (λ k. entry_of (here.0 k) (same k))
      | inr none ↦ absurd (no_vote v (sym none ∙ is))
    ]

run_21 : Reached toy 3 world_21
run_21 =
    let run_19 : Reached toy 3 world_19 = next world_18 2 _ _ run_18 (omega arith)
    (Moves.begins second_ballot 0 [] refl refl (inl (omega arith)) empty_tells_more refl refl) in
    let run_20 = gets world_19 1 (Prepare second_ballot 0) run_19 (omega arith) refl (inr (inl refl)) in
    next world_20 1 _ _ run_20 (omega arith) (Moves.promises second_ballot 0 (entry ∷ []) refl (inl refl) (inl (omega arith)) tells_21 refl refl)
  where
    empty_tells_more : Tells (promised empty_store ballot) 0 []
    empty_tells_more = record { all = λ slot v covers is. absurd (no_vote v is); only = λ e here. absurd here }

-- so the second ballot carries what the first one chose, though node 2 never heard of it
abbrev world_23 : World
world_23 = got (got world_21 2 (Promise 2 second_ballot 0 [])) 2 (Promise 1 second_ballot 0 (entry ∷ []))

abbrev world_24 : World
world_24 = said world_23 2 (Accept second_ballot 0 deal)

-- nodes 1 and 2
abbrev others : ℕ → Bool
others node = nat_lt 0 node

others_promise : (node : ℕ) → node < 3 → others node ≡ true → HasPromise (world_23.nodes 2).has node second_ballot 0 (λ e. AtMost e.ballot ballot)
others_promise zero within is = absurd (grind arith)
others_promise (suc zero) within is = (0, entry ∷ [], inl refl, (omega arith, omega arith), at_most)
  where
    at_most : (e : Entry) → In e (entry ∷ []) → e.slot ≡ 0 → AtMost e.ballot ballot
    at_most e (inl is) slot = subst (λ x. AtMost x.ballot ballot) (sym is) (inr (refl, omega arith))
    at_most e (inr none) slot = absurd none
others_promise (suc (suc zero)) within is = (0, [], inr (inl refl), (omega arith, omega arith), λ e here _. absurd here)
others_promise (suc (suc (suc node))) within is = absurd (grind arith)

run_24 : Reached toy 3 world_24
run_24 =
    let run_22 = gets world_21 2 (Promise 2 second_ballot 0 []) run_21 (omega arith) refl (inr (inl refl)) in
    let run_23 : Reached toy 3 world_23 =
    gets (got world_21 2 (Promise 2 second_ballot 0 [])) 2 (Promise 1 second_ballot 0 (entry ∷ [])) run_22 (omega arith) refl (inl refl) in
    next world_23 2 _ _ run_23 (omega arith)
    (Moves.proposes second_ballot 0 0 deal refl (inr (inl refl)) (λ other here. no_accept other here) refl
    (inl (ballot, (1, 0, entry ∷ [], inl refl, inl refl), (others, omega arith, others_promise))) refl refl)
  where
    no_accept : (other : Command) → In (Accept second_ballot 0 other) (Promise 2 second_ballot 0 [] ∷ Prepare second_ballot 0 ∷ []) → ⊥
    no_accept other (inl e) = cc
    no_accept other (inr (inl e)) = cc
    no_accept other (inr (inr none)) = none

-- the whole run: a command is chosen in the first ballot, shown once, and proposed again in the second
pub whole_run : Reached toy 3 world_24
    × IsChosen 3 world_24.ever 0 deal
    × In (Accept second_ballot 0 deal) world_24.ever
    × (world_24.shown ≡ line ∷ [])
    × ((world_24.nodes 2).starts ≡ 2)
whole_run = (run_24, (ballot, (these, omega arith, accepted)), inl refl, refl, refl)
  where
    accepted : (node : ℕ) → node < 3 → these node ≡ true → In (Accepted node ballot 0 deal) world_24.ever
    accepted zero within is = inr (inr (inr (inr (inr (inl refl)))))
    accepted (suc zero) within is = inr (inr (inr (inr (inl refl))))
    accepted (suc (suc node)) within is = absurd (grind arith)

-- at the stop of node 2 the run may end altogether, and go on with the stores that it left
abbrev left : ℕ → Store
left node = if node == 2 then promised empty_store ballot else (world_17.nodes node).store

pub goes_on : (opened : World) × IsOpened toy 3 world_17 left opened
goes_on = opens toy 3 world_17 left is_left
  where
    is_left : (i : ℕ) → i < 3 → IsLeft i (world_17.nodes i) (left i)
    is_left zero within = inl (refl, Stores.unchanged _ refl)
    is_left (suc zero) within = inl (refl, Stores.unchanged _ refl)
    is_left (suc (suc zero)) within = inr (refl, inr refl)
    is_left (suc (suc (suc i))) within = absurd (omega arith)

-- a proposal that its node hasn't accepted yet was sent, and isn't in its store
not_stored_yet : In (Accept ballot 0 deal) world_7.ever × (Backs (world_7.nodes 0).store (Accept ballot 0 deal) → ⊥)
not_stored_yet = (inl refl, λ backs. no_vote backs.1.0 backs.1.1)

-- once it has accepted it too, it is
stored_then : IsAcceptedToo world_9.ever (Accept ballot 0 deal) × Backs (world_9.nodes 0).store (Accept ballot 0 deal)
stored_then = (inl refl, (at_most_self ballot, (vote, refl, inl refl)))

-- the nodes that were opened count one start more, and that is all that came
opened_anew : (opened : World) → IsOpened toy 3 world_17 left opened
    → ((opened.nodes 0).starts ≡ 2)
    × (opened.came ≡ (record { event = Started 2; sent = 6 }) ∷ (record { event = Started 1; sent = 6 }) ∷ (record { event = Started 0; sent = 6 }) ∷ world_17.came)
opened_anew opened is = (let one = is.nodes 0 (omega arith) in one.starts, is.came)
