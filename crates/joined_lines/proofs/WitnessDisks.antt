-- Disks on paper, and nodes over them that deal: what stands on their disks, and what they hold.
use Rattle.std.proofs.Common.{◌≡◌, ℕ, ◌==◌, if◌then◌else◌, Bool, true, false, List, [], ◌∷◌, ◌++◌, length, Option, Some, None, inl, inr, Ok, refl, ap, sym, subst, arith}
use Rattle.std.specs.Prelude.{nat_eq}
use Rattle.std.specs.Global.{Global}
use Rattle.std.specs.Ptr.{null_ptr}
use Rattle.std.specs.List.{AllByRecursion, IsDistinct}
use Rattle.paxos_wire.specs.declared.message.Message.{Message}
use Rattle.paxos_wire.specs.Fits.{IsBallot, IsSlot, AreDealt}
use Rattle.paxos_wire.specs.Faults.{reading}
use Rattle.paxos_wire.specs.Spelling.{frame as bytes_of}
use Rattle.paxos_wire.proofs.FrameLaws.{frame_again}
use Rattle.promise_store.specs.declared.disk.Disk.{Ghosts}
use Rattle.promise_store.specs.declared.held.Held.{Held}
use Rattle.promise_store.specs.declared.placed.Placed.{Placed}
use Rattle.promise_store.specs.declared.store.Store.{Store as Kept}
use Rattle.promise_store.specs.declared.records.Record.{Record}
use Rattle.promise_store.specs.declared.records.Record.TheVariants.{Promised, Voted}
use Rattle.promise_store.specs.declared.stage.Stage.TheVariants.{New}
use Rattle.promise_store.specs.Records.{payload, IsRecord}
use Rattle.promise_store.specs.Disks.{Only}
use Rattle.promise_store.specs.Stages.{stage_behind}
use Rattle.promise_store.specs.Journals.{header, gated, IsJournalOf, gate_behind}
use Rattle.promise_store.specs.Index.{found}
use Rattle.promise_store.specs.Holding.{holding, store_of, vote_of, placed_of, first_at, Indexes, StandsFor, Kept as KeptEntry}
use Rattle.slot_log.specs.Hand.{Hand}
use Rattle.protocol_model.specs.Stores.{Store, empty_store}
use Rattle.dealer_kind.specs.Kind.{hands_after}
use Rattle.dealer_kind.specs.declared.source.Source.TheVariants.{Seed}
use Rattle.node_rules.specs.Standings.{Standing, applied, started as started_at}
use Rattle.node_rules.specs.Sending.{Frame as Outgoing}
use Rattle.node_rules.proofs.Examples.{opened, setting, ballot}
use Rattle.dealer_node.specs.Nodes.{Node}
use Rattle.dealer_node.specs.declared.running.Running.{Running}
use Rattle.dealer_node.specs.Members.{Membership}
use Rattle.dealer_node.specs.Working.{StandsByIts}
use Rattle.dealer_node.specs.Seeing.{IsSeen}
use Rattle.joined_lines.proofs.WitnessRules.{AreRead, place, cards, dealt, first_ballot, prepare, promise, accept, accepted, promise_store, vote_store, prepares, leads, knows, has_promised, has_voted, is_connected, is_ready}

-- ---- the frames

pub is_ballot : IsBallot first_ballot
is_ballot = record { first = omega arith; last = omega arith; node = omega arith }

pub are_dealt : AreDealt cards
unfolding IsDistinct
are_dealt = record {
  least = omega arith;
  most = omega arith;
  deal = record {
    count = refl;
    cards_of_the_pack = (omega arith, (omega arith, (omega arith, (omega arith, (omega arith, (omega arith, (omega arith, (omega arith, (omega arith, tt)))))))));
    distinct = ((refl, (refl, (refl, (refl, (refl, (refl, (refl, (refl, tt)))))))), ((refl, (refl, (refl, (refl, (refl, (refl, (refl, tt))))))), ((refl, (refl, (refl, (refl, (refl, (refl, tt)))))), ((refl, (refl, (refl, (refl, (refl, tt))))), ((refl, (refl, (refl, (refl, tt)))), ((refl, (refl, (refl, tt))), ((refl, (refl, tt)), ((refl, tt), (tt, tt)))))))));
  };
}

pub prepare_reads : reading (bytes_of prepare) ≡ Ok prepare
prepare_reads = frame_again prepare (record { numbers = (is_ballot, omega arith); cards = tt })

pub promise_reads : reading (bytes_of promise) ≡ Ok promise
promise_reads = frame_again promise (record { numbers = (is_ballot, omega arith, record { most = omega arith; each = tt; rise = tt }); cards = tt })

pub accept_reads : reading (bytes_of accept) ≡ Ok accept
accept_reads = frame_again accept (record { numbers = (is_ballot, record { least = omega arith; most = omega arith; slots = omega arith; each = (omega arith, tt) }); cards = (are_dealt, tt) })

pub accepted_reads : reading (bytes_of accepted) ≡ Ok accepted
accepted_reads = frame_again accepted (record { numbers = (is_ballot, record { least = omega arith; most = omega arith; slots = omega arith; each = (omega arith, tt) }); cards = (are_dealt, tt) })

pub to_one : (to : ℕ) (message : Message) → reading (bytes_of message) ≡ Ok message → AreRead (record { to = to; message = message } ∷ [])
to_one to message reads one (inl is) = subst (λ (f : Outgoing). reading (bytes_of f.message) ≡ Ok f.message) (sym is) reads
to_one to message reads one (inr none) = absurd none

pub and_more : (to : ℕ) (message : Message) (more : List Outgoing) → reading (bytes_of message) ≡ Ok message → AreRead more → AreRead (record { to = to; message = message } ∷ more)
and_more to message more reads rest one (inl is) = subst (λ (f : Outgoing). reading (bytes_of f.message) ≡ Ok f.message) (sym is) reads
and_more to message more reads rest one (inr there) = rest one there

-- ---- new stores

-- what a new store of node i of three is
abbrev pub created : ℕ → List ℕ
created i = 72 ∷ 68 ∷ 74 ∷ 50 ∷ i ∷ 3 ∷ 0 ∷ 0 ∷ 0 ∷ []

pub is_new : (i : ℕ) → StandsFor (header i 3) (created i) empty_store
is_new i = record { records = []; journal = (New, New, record { gate = 0; rest = []; stands = refl; shut = λ e. omega (arith, e); each = tt; text = refl }); is = refl }

module _ {D : Type 0} (g : Ghosts D) where
  -- a new store was made on the disk and synced, and then it was begun
  pub record IsNewDisk (i : ℕ) (disk : D) : Type 0 where
    pub images : Only (created i) (g.images disk)
    pub begun : g.begun disk ≡ created i

-- ---- a disk on paper

-- what stands on it, and what stood on it when it was begun; a write is there at once
pub record Paper : Type 0 where
  pub bytes : List ℕ
  pub begun : List ℕ

abbrev pub paper : Ghosts Paper
paper = record {
  is_honest = true;
  seen = λ disk. disk.bytes;
  images = λ disk image. image ≡ disk.bytes;
  moment = λ disk. 0;
  since = λ disk t image. image ≡ disk.bytes;
  count = λ disk. 0;
  begun = λ disk. disk.begun;
  picked = λ disk pick. disk.bytes;
}

abbrev pub new_disk : ℕ → Paper
new_disk i = record { bytes = created i; begun = created i }

pub is_new_disk : (i : ℕ) → IsNewDisk paper i (new_disk i)
is_new_disk i = record { images = λ image is. is; begun = refl }

-- ---- journals

abbrev pub one_record : List Record
one_record = Promised first_ballot ∷ []

abbrev pub two_records : List Record
two_records = Promised first_ballot ∷ Voted first_ballot 0 (dealt ∷ []) ∷ []

-- records that a journal of version 2 may have, of which this store is made
pub record AreOf (i : ℕ) (records : List Record) (store : Store) : Type 0 where
  pub stands : stage_behind New records ≡ Some New
  pub each : AllByRecursion IsRecord records
  pub is : store ≡ store_of (holding (header i 3) records)

pub none_of : (i : ℕ) → AreOf i [] empty_store
none_of i = record { stands = refl; each = tt; is = refl }

pub one_of : (i : ℕ) → AreOf i one_record promise_store
one_of i = record { stands = refl; each = (is_ballot, tt); is = refl }

abbrev pub placed : Placed
placed = first_at 17 (length (payload (Voted first_ballot 0 (dealt ∷ [])))) 11 first_ballot 0

abbrev pub entry : KeptEntry
entry = record { command = dealt; placed = placed }

same_votes : (b : Bool) → (if b then Some (record { ballot = first_ballot; command = dealt }) else None) ≡ vote_of (if b then Some entry else None)
same_votes true = refl
same_votes false = refl

pub two_of : (i : ℕ) → AreOf i two_records vote_store
two_of i = record {
  stands = refl;
  each = (is_ballot, ((is_ballot, record { least = omega arith; most = omega arith; slots = omega arith; each = (omega arith, tt) }, (are_dealt, tt)), tt));
  is = λ j. record { promise = first_ballot; votes = λ slot. same_votes (slot == 0) j };
}

abbrev pub text_of : ℕ → List Record → List ℕ
text_of i records = (header i 3 ++ gated records) ++ 0 ∷ []

pub journal_of : (i : ℕ) (records : List Record) (store : Store) → AreOf i records store → IsJournalOf New New (header i 3) (text_of i records) records
journal_of i records store are = record { gate = 0; rest = []; stands = are.stands; shut = λ e. omega (arith, e); each = are.each; text = refl }

pub stands_for : (i : ℕ) (records : List Record) (store : Store) → AreOf i records store → StandsFor (header i 3) (text_of i records) store
stands_for i records store are = record { records = records; journal = (New, New, journal_of i records store are); is = are.is }

-- ---- nodes that run

abbrev pub member : ℕ → Membership
member i = record { setting = setting; source = Seed i; nodes = 3; node = i }

abbrev pub disk_at : ℕ → List Record → Paper
disk_at i records = record { bytes = text_of i records; begun = created i }

abbrev pub store_at : ℕ → List Record → Held → Kept Paper
store_at i records held = record { disk = disk_at i records; gate = gate_behind (header i 3) records; closed = false; held = held }

abbrev pub running_at : ℕ → Standing → List Hand → Running
running_at i s hands = record {
  proposer = record { node = i; nodes = 3; campaign = s.campaign };
  learner = record { learned = s.learned; answers = 0; commands = 0 };
  table = record { game = setting.game; count = setting.title.hands; hands = hands; room = 0 };
  pending = s.pending;
  seen = s.seen;
  seats = record { talks = s.sessions; rooms = [] };
}

abbrev pub node_at : ℕ → List Record → Held → Standing → List Hand → Node Paper
node_at i records held s hands = record {
  member = member i;
  blank = record { game = setting.game; count = setting.title.hands; hands = []; room = 0 };
  disk = None;
  up = Some (record { acceptor = record { store = store_at i records held }; running = running_at i s hands });
}

-- it is seen as this standing
pub record IsAt (i : ℕ) (records : List Record) (held : Held) (s : Standing) (hands : List Hand) : Type 0 where
  pub are : AreOf i records s.store
  pub indexes : Indexes held (holding (header i 3) records)
  pub up : s.up ≡ true
  pub unbegun : s.begun ≡ s.store
  pub stands : StandsByIts s
  pub hands_are : hands ≡ hands_after setting (applied s)

pub no_hands : [] ≡ hands_after setting []
unfolding opened
no_hands = refl

pub sees : (i : ℕ) (records : List Record) (held : Held) (s : Standing) (hands : List Hand) → IsAt i records held s hands → IsSeen paper (node_at i records held s hands) s
sees i records held s hands is = record {
  by = record {
    running = record { up = is.up; campaign = refl; learned = refl; hands = record { game = refl; count = refl; hands = is.hands_are }; waits = refl; greatest = refl; sessions = refl };
    keeps = record {
      first = New;
      records = records;
      is_open = refl;
      settled = record { journal = λ honest. journal_of i records s.store is.are; at_gate = λ honest. refl; durable = λ image same. same };
      is = is.are.is;
      indexes = λ honest. is.indexes;
    };
    unbegun = is.unbegun;
    stands = is.stands;
  };
  blank = record { game = refl; count = refl; hands = no_hands };
}

abbrev pub dealt_hand : List Hand
dealt_hand = (record { deal = cards; past = [] }) ∷ []

module _ (alloc : Global) where
  pub none_in_range : (slot : ℕ) (one : Placed) → found slot [] ≡ Some one → IsBallot one.ballot × IsSlot one.slot
  none_in_range slot one e = absurd cc

  abbrev pub holds_none : Held
  holds_none = record {
    promised = ballot 0 0;
    entries = record { ptr = null_ptr; len = 0; cap = 0; alloc = alloc; items = []; ok = (refl, omega arith); small = omega arith };
    rising = tt;
    promise_in_range = record { last = omega arith; node = omega arith; none = λ e. refl };
    entries_in_range = none_in_range;
  }

  abbrev pub holds_promise : Held
  holds_promise = record {
    promised = first_ballot;
    entries = record { ptr = null_ptr; len = 0; cap = 0; alloc = alloc; items = []; ok = (refl, omega arith); small = omega arith };
    rising = tt;
    promise_in_range = record { last = omega arith; node = omega arith; none = λ e. absurd (omega (arith, e)) };
    entries_in_range = none_in_range;
  }

  some_of : Option Placed → Placed
  some_of None = placed
  some_of (Some one) = one

  pub in_range : (b : Bool) (one : Placed) → ◌≡◌ {A = Option Placed} (if b then Some placed else None) (Some one) → IsBallot one.ballot × IsSlot one.slot
  unfolding some_of
  in_range true one e = subst (λ (p : Placed). IsBallot p.ballot × IsSlot p.slot) (ap some_of e) (is_ballot, omega arith)
  in_range false one e = absurd cc

  abbrev pub holds_vote : Held
  holds_vote = record {
    promised = first_ballot;
    entries = record { ptr = null_ptr; len = 1; cap = 1; alloc = alloc; items = placed ∷ []; ok = (refl, omega arith); small = omega arith };
    rising = (omega arith, tt);
    promise_in_range = record { last = omega arith; node = omega arith; none = λ e. absurd (omega (arith, e)) };
    entries_in_range = λ slot one e. in_range (nat_eq slot 0) one e;
  }

  none_indexes : (i : ℕ) → Indexes holds_none (holding (header i 3) [])
  none_indexes i = record { promise = refl; entries = λ slot. refl }

  promise_indexes : (i : ℕ) → Indexes holds_promise (holding (header i 3) one_record)
  promise_indexes i = record { promise = refl; entries = λ slot. refl }

  found_so : (b : Bool) → (if b then Some placed else None) ≡ placed_of (if b then Some entry else None)
  found_so true = refl
  found_so false = refl

  vote_indexes : (i : ℕ) → Indexes holds_vote (holding (header i 3) two_records)
  vote_indexes i = record { promise = refl; entries = λ slot. found_so (slot == 0) }

  hand_is : dealt_hand ≡ hands_after setting (dealt ∷ [])
  unfolding opened
  hand_is = refl

  -- ---- what the nodes are

  pub is_first : (i : ℕ) → IsAt i [] holds_none (started_at (place i) empty_store) []
  is_first i = record { are = none_of i; indexes = none_indexes i; up = refl; unbegun = refl; stands = tt; hands_are = no_hands }

  pub is_at_connected : IsAt 0 [] holds_none is_connected []
  is_at_connected = record { are = none_of 0; indexes = none_indexes 0; up = refl; unbegun = refl; stands = tt; hands_are = no_hands }

  pub is_at_ready : IsAt 0 [] holds_none is_ready []
  is_at_ready = record { are = none_of 0; indexes = none_indexes 0; up = refl; unbegun = refl; stands = tt; hands_are = no_hands }

  pub is_prepared : IsAt 0 one_record holds_promise prepares []
  is_prepared = record { are = one_of 0; indexes = promise_indexes 0; up = refl; unbegun = refl; stands = refl; hands_are = no_hands }

  pub is_leading : IsAt 0 two_records holds_vote leads []
  is_leading = record { are = two_of 0; indexes = vote_indexes 0; up = refl; unbegun = refl; stands = refl; hands_are = no_hands }

  pub is_knowing : IsAt 0 two_records holds_vote knows dealt_hand
  is_knowing = record { are = two_of 0; indexes = vote_indexes 0; up = refl; unbegun = refl; stands = refl; hands_are = hand_is }

  pub is_promised : IsAt 1 one_record holds_promise has_promised []
  is_promised = record { are = one_of 1; indexes = promise_indexes 1; up = refl; unbegun = refl; stands = tt; hands_are = no_hands }

  pub is_voted : IsAt 1 two_records holds_vote has_voted []
  is_voted = record { are = two_of 1; indexes = vote_indexes 1; up = refl; unbegun = refl; stands = tt; hands_are = no_hands }
