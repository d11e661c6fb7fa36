-- A node's disk at a start, at a stop and when a cluster is opened, and a run in which a call is answered 95: what is so of them, and what isn't.
use Rattle.std.proofs.Common.{◌≡◌, ◌≢◌, ◌⊎◌, ℕ, zero, suc, ◌<◌, inl, inr, true, false, Some, None, List, [], ◌∷◌, length, get_or, Ok, Err, Result, refl, ap, sym, ◌∙◌, subst, arith}
use Rattle.std.proofs.lemmas.List.Elements.{All-nil, All-cons}
use Rattle.promise_store.specs.declared.disk.Disk.{Ghosts}
use Rattle.promise_store.specs.declared.fault.StoreFault.{StoreFault}
use Rattle.promise_store.specs.declared.fault.StoreFault.TheVariants.{NoStore, Disk}
use Rattle.promise_store.specs.Journals.{header}
use Rattle.promise_store.specs.Settled.{OnlyReads}
use Rattle.promise_store.specs.Keeping.{Reopens}
use Rattle.promise_store.specs.Refusals.{Refuses}
use Rattle.promise_store.specs.Holding.{StandsFor}
use Rattle.protocol_model.specs.Stores.{empty_store}
use Rattle.dealer_kind.specs.declared.source.Source.TheVariants.{Seed}
use Rattle.node_rules.specs.Standings.{started}
use Rattle.node_rules.proofs.Examples.{setting}
use Rattle.dealer_node.specs.Nodes.{Node}
use Rattle.dealer_node.specs.declared.fault.NodeFault.{NodeFault}
use Rattle.dealer_node.specs.declared.fault.NodeFault.TheVariants as fault
use Rattle.dealer_node.specs.Outs.{nothing_told}
use Rattle.dealer_node.specs.Members.{place_at}
use Rattle.dealer_node.specs.Seeing.{member_in, disk_in, IsSeen, seen_by, bytes_of, images_of, since_by}
use Rattle.dealer_node.specs.Taking.{FindsStore, StopsBy}
use Rattle.dealer_world.specs.declared.event.Event.TheVariants as event
use Rattle.dealer_world.specs.Records.{no_record}
use Rattle.dealer_world.specs.Stepping.{View, IsStartOf, Stepped, call, Ran, none, more}
use Rattle.dealer_world.specs.Promise.{IsForMatch, NoneConflicts}
use Rattle.dealer_world.specs.Beginning.{IsOver, MayBeFound, AreImagesOf, LeaveNoMore}
use Rattle.dealer_world.proofs.LeftExamples.{plan, with_promise, created, stands_created, stands_for_none, no_promise}

-- ---- a disk on paper

-- what a read gives, what was synced last, what a crash left before and leaves no more, what a read gave when it was begun, and how many calls failed
pub record Paper : Type 0 where
  pub shown : List ℕ
  pub synced : List ℕ
  pub earlier : List ℕ
  pub begun : List ℕ
  pub failed : ℕ

-- a crash leaves what a read gives, or what was synced
abbrev pub Left : Paper → List ℕ → Type 0
Left disk image = (image ≡ disk.shown) ⊎ (image ≡ disk.synced)

-- it is moment 1; what a crash leaves no more it left at moment 0
abbrev pub Since : Paper → ℕ → List ℕ → Type 0
Since disk t image = Left disk image ⊎ ((t ≡ 0) × (image ≡ disk.earlier))

since_now : (disk : Paper) (image : List ℕ) → Since disk 1 image → Left disk image
since_now disk image (inl now) = now
since_now disk image (inr (past, is)) = absurd (omega (arith, past))

-- 0 picks what was synced, and any other number what a read gives
abbrev pub picked : Paper → ℕ → List ℕ
picked disk zero = disk.synced
picked disk (suc pick) = disk.shown

abbrev pub paper : Ghosts Paper
paper = record {
  is_honest = true;
  seen = λ disk. disk.shown;
  images = Left;
  moment = λ disk. 1;
  since = Since;
  count = λ disk. disk.failed;
  begun = λ disk. disk.begun;
  picked = picked;
}

-- all of it was synced
abbrev pub settled : List ℕ → Paper
settled bytes = record { shown = bytes; synced = bytes; earlier = []; begun = bytes; failed = 0 }

-- it was begun empty, and a store was made on it
abbrev made : Paper
made = record (settled (created 0)) { begun = [] }

-- a promise was written on a new store, and not yet synced
abbrev pub written : Paper
written = record (settled (created 0)) { shown = with_promise }

-- node 0 of three, down
abbrev pub down : Paper → Node Paper
down disk = record {
  member = record { setting = setting; source = Seed 7; nodes = 3; node = 0 };
  blank = record { game = setting.game; count = setting.title.hands; hands = []; room = 0 };
  disk = Some disk;
  up = None;
}

created_for_promised : created 0 ≡ with_promise → ⊥
created_for_promised same = omega (arith, ap length same)

promised_for_created : with_promise ≡ created 0 → ⊥
promised_for_created same = omega (arith, ap length same)

created_for_nothing : created 0 ≡ [] → ⊥
created_for_nothing same = omega (arith, ap length same)

nothing_for_promised : [] ≡ with_promise → ⊥
nothing_for_promised same = omega (arith, ap length same)

-- ---- a start

-- a disk that was only synced leaves no more than it did
only_synced : OnlyReads paper written (record written { synced = with_promise })
only_synced = record {
  seen = refl;
  begun = refl;
  images = λ image left. elim left [ inl shown ↦ inl shown | inr synced ↦ inl synced ];
  during = λ t image since. elim since [ inl (inl shown) ↦ inr (inl shown) | inl (inr synced) ↦ inr (inl synced) | inr past ↦ inl (inr past) ];
  counts = omega arith;
}

-- what only reads leaves what stands for the same
read_reopens : (head : List ℕ) (before after : Paper) → OnlyReads paper before after → Reopens paper head before after
read_reopens head before after reads = record {
  begun = reads.begun;
  counts = reads.counts;
  leaves = λ old new honest leaves image at. leaves image (reads.images image at);
  during = λ old new honest leaves t image at. elim (reads.during t image at) [ inl was ↦ inl was | inr now ↦ inr (leaves image now) ];
}

-- nothing made where there was no journal is only read
made_where_none_was : OnlyReads paper (settled []) made → ⊥
made_where_none_was reads = created_for_nothing reads.seen

-- what runs with the store of the file found it
found_what_stands : (new : Node Paper) → IsSeen paper new (started (place_at (member_in (down (settled (created 0))))) empty_store) → FindsStore paper (down (settled (created 0))) new
found_what_stands new seen = record { held = empty_store; stands = stands_created 0; seen = seen }

-- nothing runs with a store of an empty file, nor with one that lacks the file's promise
found_in_nothing : (new : Node Paper) → FindsStore paper (down (settled [])) new → ⊥
found_in_nothing new found = stands_for_none (header 0 3) found.held refl found.stands

found_without_the_promise : (new : Node Paper) (found : FindsStore paper (down (settled with_promise)) new) → found.held ≡ empty_store → ⊥
found_without_the_promise new found older = no_promise (subst (StandsFor (header 0 3) with_promise) older found.stands)

same_fault : (a b : StoreFault) → ◌≡◌ {A = Result (Unit {0}) NodeFault} (Err (fault.Store a)) (Err (fault.Store b)) → a ≡ b
same_fault a b same = cc

untouched : OnlyReads paper (settled []) (settled [])
untouched = record { seen = refl; begun = refl; images = λ image at. at; during = λ t image was. inl was; counts = omega arith }

-- an empty file is told as no store
refused_start : IsStartOf paper (down (settled [])) (down (settled [])) (Err (fault.Store NoStore))
refused_start = record {
  faults = λ want. cc;
  opens = inr (record {
    before = settled [];
    after = settled [];
    was = refl;
    is = refl;
    reopens = read_reopens (header 0 3) (settled []) (settled []) untouched;
    marks = λ honest stopped. tt;
    quiet = λ honest goes_on. untouched;
    unwritten = λ other. untouched;
  });
  found = λ honest stopped. tt;
  refused = λ honest why same. subst (Refuses (header 0 3) []) (same_fault NoStore why same) refl;
}

-- it isn't taken; nor is a store told as none; nor is a file that is refused written
started_over_nothing : (new : Node Paper) → IsStartOf paper (down (settled [])) new (Ok tt) → ⊥
started_over_nothing new start = found_in_nothing new (start.found refl refl)

store_told_as_none : (new : Node Paper) → IsStartOf paper (down (settled (created 0))) new (Err (fault.Store NoStore)) → ⊥
store_told_as_none new start = created_for_nothing (start.refused refl NoStore refl)

refused_and_made : IsStartOf paper (down (settled [])) (down made) (Err (fault.Store NoStore)) → ⊥
refused_and_made start = elim start.opens [
  | inl same ↦ created_for_nothing (ap (bytes_of paper) same.0)
  | inr opens ↦
      let reads = opens.unwritten no_disk_fault in
      created_for_nothing (ap (seen_by paper) opens.is ∙ (reads.seen ∙ sym (ap (seen_by paper) opens.was)))
]
  where
    no_disk_fault : fault.Store NoStore ≢ fault.Store Disk
    no_disk_fault same = cc

-- ---- a stop

stopped_by_0 : StopsBy paper 0 (down written) (down (record written { shown = created 0 }))
stopped_by_0 = inl (refl, refl)

stopped_by_1 : StopsBy paper 1 (down written) (down (record written { synced = with_promise }))
stopped_by_1 = inl (refl, refl)

refused_stop : StopsBy paper 0 (down written) (down (record written { failed = 1 }))
refused_stop = inr (refl, omega arith)

-- what 0 picks was left for 1
always_0 : StopsBy paper 1 (down written) (down (record written { shown = created 0 })) → ⊥
always_0 (inl left) = created_for_promised left.0
always_0 (inr as_before) = created_for_promised as_before.0

stop_that_did_nothing : StopsBy paper 0 (down written) (down written) → ⊥
stop_that_did_nothing (inl left) = promised_for_created left.0
stop_that_did_nothing (inr as_before) = let rose = as_before.1 in omega (arith, rose)

-- ---- an opening

-- the disk was begun anew, and then synced
opened_over : IsOver paper written (down (record written { synced = with_promise; begun = with_promise }))
opened_over = record {
  bytes = refl;
  begun = refl;
  counts = omega arith;
  settled = λ image left. elim left [ inl shown ↦ shown | inr synced ↦ synced ];
  images = λ image left. elim left [ inl shown ↦ inl shown | inr synced ↦ inl synced ];
  during = λ t image since. elim since [ inl (inl shown) ↦ inr (inl shown) | inl (inr synced) ↦ inr (inl synced) | inr past ↦ inl (inr past) ];
}

not_synced : IsOver paper written (down (record written { begun = with_promise })) → ⊥
not_synced over = created_for_promised (over.settled (created 0) (inr refl))

not_begun_anew : IsOver paper written (down written) → ⊥
not_begun_anew over = created_for_promised over.begun

opened_with_a_new_store : IsOver paper (settled []) (down made) → ⊥
opened_with_a_new_store over = created_for_nothing over.bytes

-- what was synced before may be found, and nothing that a crash left only before
not_left : Left written [] → ⊥
not_left (inl shown) = nothing_for_promised shown
not_left (inr synced) = created_for_nothing (sym synced)

may_be_found : MayBeFound paper (written ∷ []) (down written ∷ []) (created 0 ∷ [])
may_be_found = record { count = refl; each = each }
  where
    each : (i : ℕ) (d : Node Paper) (e : Paper) → i < 1 → since_by paper (disk_in (get_or (down written ∷ []) i d)) (paper.moment (get_or (written ∷ []) i e)) (get_or (created 0 ∷ []) i [])
    each zero d e less = inl (inr refl)
    each (suc i) d e less = absurd (omega (arith, less))

left_only_before : MayBeFound paper (written ∷ []) (down written ∷ []) ([] ∷ []) → ⊥
left_only_before found = not_left (since_now written [] (found.each 0 (down written) written (omega arith)))

are_images_of : AreImagesOf paper (written ∷ []) (created 0 ∷ [])
are_images_of = record { count = refl; each = each }
  where
    each : (i : ℕ) (e : Paper) → i < 1 → Left (get_or (written ∷ []) i e) (get_or (created 0 ∷ []) i [])
    each zero e less = inr refl
    each (suc i) e less = absurd (omega (arith, less))

no_image_of : AreImagesOf paper (written ∷ []) ([] ∷ []) → ⊥
no_image_of images = not_left (images.each 0 written (omega arith))

-- a disk that was synced since leaves no more than its node's disk did, and not the other way round
leave_no_more : LeaveNoMore paper (settled with_promise ∷ []) (down written ∷ [])
leave_no_more = record { count = refl; each = each }
  where
    each : (i : ℕ) (d : Node Paper) (e : Paper) → i < 1 → (image : List ℕ) → Left (get_or (settled with_promise ∷ []) i e) image → images_of paper (get_or (down written ∷ []) i d) image
    each zero d e less image (inl shown) = inl shown
    each zero d e less image (inr synced) = inl synced
    each (suc i) d e less image left = absurd (omega (arith, less))

leave_more : LeaveNoMore paper (written ∷ []) (down (settled with_promise) ∷ []) → ⊥
leave_more no_more = elim (no_more.each 0 (down written) written (omega arith) (created 0) (inr refl)) [ inl shown ↦ created_for_promised shown | inr synced ↦ created_for_promised synced ]

-- ---- a call that is answered 95

-- a node without a disk is seen as no standing of the rules, so what a tick of it answers is said nowhere
abbrev lost : Node Paper
lost = record (down written) { disk = None }

abbrev first : View (Node Paper)
first = record { config = plan; opened = false; nodes = lost ∷ []; all = no_record; last = nothing_told }

abbrev conflict : Result (Unit {0}) NodeFault
conflict = Err fault.Conflict

no_want : conflict ≡ Err fault.OutOfMemory → ⊥
no_want same = cc

no_failed_disk : conflict ≡ Err (fault.Store Disk) → ⊥
no_failed_disk same = cc

abbrev answered : Stepped paper first (event.Tick 0) conflict first
answered = record {
  same_config = refl;
  same_opened = refl;
  before = lost;
  after = lost;
  within = omega arith;
  at = refl;
  others = refl;
  told = nothing_told;
  given = record {
    taken = λ s honest seen. absurd seen.by;
    stays = record { member = refl; begun = refl; counts = omega arith; rose = λ failed. absurd (no_failed_disk failed); unmade = λ refused. refl };
    disk = tt;
  };
  gains = call conflict no_want refl refl;
}

abbrev after_the_tick : Ran paper first (event.Tick 0 ∷ []) first
after_the_tick = more [] first (event.Tick 0) conflict (event.Tick 0 ∷ []) first (none [] first refl refl) answered no_want refl

-- a view, of no cluster, whose first tick was answered so
conflict_at_a_tick : NoneConflicts paper first → ⊥
conflict_at_a_tick never =
    let none_answered = never (event.Tick 0 ∷ []) first [] after_the_tick (All-cons (IsForMatch plan) (event.Tick 0) [] (omega arith) (All-nil (IsForMatch plan))) refl refl (λ arrival there. elim there [ ]) in
    none_answered.1 refl
