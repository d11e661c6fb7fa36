-- What a start makes of a node.
use Rattle.std.proofs.Common.{◌≡◌, ◌≢◌, ℕ, inl, inr, Bool, true, false, List, [], ◌∷◌, Result, Ok, Err, OnOk, IfErr, IsTrue, refl, sym, ap, subst, ◌∙◌, arith}
use Rattle.std.specs.Prelude.{◌⊎◌, Option, Some, None, is_some, IsSome}
use Rattle.promise_store.specs.declared.disk.Disk.{Ghosts}
use Rattle.promise_store.specs.declared.fault.StoreFault.{StoreFault}
use Rattle.promise_store.specs.declared.fault.StoreFault.TheVariants.{Disk}
use Rattle.promise_store.specs.Refusals.{Refuses}
use Rattle.promise_store.specs.declared.store.Store.{Store as Journal}
use Rattle.promise_store.specs.Settled.{OnlyReads}
use Rattle.promise_store.specs.Keeping.{disk_of, Keeps, LeavesDuring, Reopens}
use Rattle.acceptor.specs.Stored.{store_of}
use Rattle.acceptor.specs.declared.acceptor.Acceptor.{Acceptor}
use Rattle.protocol_model.specs.Stores.{Store}
use Rattle.slot_log.specs.Hand.{Match}
use Rattle.node_rules.specs.Standings.{Standing, started}
use Rattle.node_rules.specs.Turns.{still}
use Rattle.node_rules.specs.Calls.{Start}
use Rattle.node_rules.specs.Rules.{asking_all, starting}
use Rattle.node_rules.specs.Showing.{header}
use Rattle.node_rules.specs.Called.{took, unchanged}
use Rattle.dealer_node.specs.declared.up.Up.{Up}
use Rattle.dealer_node.specs.declared.running.Running.{Running}
use Rattle.dealer_node.specs.declared.fault.NodeFault.{NodeFault}
use Rattle.dealer_node.specs.declared.fault.NodeFault.TheVariants as fault
use Rattle.dealer_node.specs.Outs.{Told, nothing_told, both_told}
use Rattle.dealer_node.specs.Members.{Membership, place_at}
use Rattle.dealer_node.specs.Turned.{told_of}
use Rattle.dealer_node.specs.Fitting.{AreMessages}
use Rattle.dealer_node.specs.Running.{IsRunning}
use Rattle.dealer_node.specs.Working.{head_of, disk_under}
use Rattle.dealer_node.specs.Starting.{GoesOnNew, MarksJournal, Starts, StaysDown, Finds}
use Rattle.dealer_node.specs.declared.node.Node.TheInside.{Inside}
use Rattle.dealer_node.specs.Nodes.{Node}
use Rattle.dealer_node.specs.NodeInside.{node_of, IsKept}
use Rattle.dealer_node.specs.Scenes.{IsTableOf}
use Rattle.dealer_node.specs.Seeing.{member_in, runs, is_up, disk_by, disk_in, bytes_of, IsSeen}
use Rattle.dealer_node.specs.Taking.{IsStart, Takes, FindsStore, OpensDisk}
use Rattle.dealer_node.proofs.Messages.{no_messages}
use Rattle.dealer_node.proofs.Worked.{memory_took, nothing_more}
use Rattle.dealer_node.proofs.Settled.{noted, read_back, turn_down, may_down, down_by, up_took, seen_at}

module _ {D : Type 0} (g : Ghosts D) where
  -- an opened store runs
  starts_with : (member : Membership) (store begun found : Store) (disk : D) (acceptor : Acceptor D) (running : Running) (earlier later : Told)
      → (found ≡ store) ⊎ (found ≡ begun) → Keeps g (head_of member) found (store_of acceptor) → IsRunning member running (started (place_at member) found)
      → LeavesDuring g (head_of member) store begun disk (disk_of (store_of acceptor))
      → later ≡ both_told earlier (told_of (starting (place_at member) found)) → AreMessages (asking_all (place_at member) found)
      → Starts g member store begun disk (record { acceptor = acceptor; running = running }) earlier later
  starts_with member store begun found disk acceptor running earlier later either keeps runs moments told fits = record {
    found = found;
    either = either;
    now = record { running = runs; keeps = keeps; unbegun = refl; stands = tt };
    told = told;
    fits = fits;
    moments = moments;
  }

  pub starts_by : (member : Membership) (store begun : Store) (disk : D) (acceptor : Acceptor D) (running : Running) (earlier later : Told)
      → Keeps g (head_of member) store (store_of acceptor) ⊎ Keeps g (head_of member) begun (store_of acceptor)
      → ((found : Store) → IsRunning member running (started (place_at member) found))
      → LeavesDuring g (head_of member) store begun disk (disk_of (store_of acceptor))
      → ((found : Store) → Keeps g (head_of member) found (store_of acceptor) → later ≡ both_told earlier (told_of (starting (place_at member) found)))
      → ((found : Store) → Keeps g (head_of member) found (store_of acceptor) → AreMessages (asking_all (place_at member) found))
      → Starts g member store begun disk (record { acceptor = acceptor; running = running }) earlier later
  starts_by member store begun disk acceptor running earlier later (inl keeps) runs moments told fits =
      starts_with member store begun store disk acceptor running earlier later (inl refl) keeps (runs store) moments (told store keeps) (fits store keeps)
  starts_by member store begun disk acceptor running earlier later (inr keeps) runs moments told fits =
      starts_with member store begun begun disk acceptor running earlier later (inr refl) keeps (runs begun) moments (told begun keeps) (fits begun keeps)

  -- ---- of the node

  -- one that was down
  pub down_started : (member : Membership) (blank : Match) (disk : D) (other : Option D) (up : Up D) (s : Standing) (earlier later : Told)
      → IsSeen g (noted g member blank (Some disk) None) s → Starts g member s.store s.begun disk up earlier later
      → (found : Store) × Takes g (Start found) s (noted g member blank (Some disk) None) (noted g member blank other (Some up)) earlier later (Ok tt)
  down_started member blank disk other up s earlier later seen st =
      let place = place_at member in
      let down : s.up ≡ false = down_by g member (Some disk) s seen.by in (
        st.found,
        record {
          after = started place st.found;
          frames = asking_all place st.found;
          shown = header member.setting ∷ [];
          faults = [];
          now = record { by = st.now; blank = seen.blank };
          ends = took (starting place st.found) (turn_down place s (Start st.found) (Ok (starting place st.found)) down (st.either, refl)) refl refl refl;
          fails = tt;
          answered = (refl, refl);
          told = st.told;
          fits = read_back (asking_all place st.found) st.fits;
          next = s.begun;
          may_begin = may_down place s (Start st.found) down;
          moments = st.moments;
        },
      )

  is_start : (up : Bool) (found : Store) → up ≡ false → IsStart up (Start found)
  is_start true found e = absurd (cc)
  is_start false found e = tt

  why_unchanged : (up : Bool) (found : Store) (why : NodeFault) → up ≡ false → (why ≡ fault.OutOfMemory) ⊎ (why ≡ fault.Store Disk)
      → (let answer : Result (Unit {0}) NodeFault = Err why in answer ≡ Err fault.OutOfMemory) ⊎ (IsStart up (Start found) × (let answer : Result (Unit {0}) NodeFault = Err why in answer ≡ Err (fault.Store Disk)))
  why_unchanged up found why down (inl e) = inl (ap Err e)
  why_unchanged up found why down (inr e) = inr (is_start up found down, ap Err e)

  -- one whose store wasn't opened
  pub down_unstarted : (member : Membership) (blank : Match) (disk left : D) (s : Standing) (told : Told) (why : NodeFault)
      → IsSeen g (noted g member blank (Some disk) None) s → StaysDown g member s.store s.begun disk left why
      → (found : Store) × Takes g (Start found) s (noted g member blank (Some disk) None) (noted g member blank (Some left) None) told told (Err why)
  down_unstarted member blank disk left s told why seen stays =
      let place = place_at member in
      let down : s.up ≡ false = down_by g member (Some disk) s seen.by in (
        s.store,
        record {
          after = s;
          frames = [];
          shown = [];
          faults = [];
          now = record { by = record { stopped = seen.by.stopped; leaves = stays.leaves }; blank = seen.blank };
          ends = unchanged refl refl refl;
          fails = tt;
          answered = (refl, why_unchanged s.up s.store why down stays.fault);
          told = nothing_more told s;
          fits = λ one at. absurd at;
          next = s.begun;
          may_begin = may_down place s (Start s.store) down;
          moments = stays.moments;
        },
      )

  -- one for which there was no memory
  pub down_wanting : (member : Membership) (blank : Match) (disk : Option D) (s : Standing) (told : Told)
      → IsSeen g (noted g member blank disk None) s
      → (found : Store) × Takes g (Start found) s (noted g member blank disk None) (noted g member blank disk None) told told (Err fault.OutOfMemory)
  down_wanting member blank disk s told seen =
      let place = place_at member in
      let down : s.up ≡ false = down_by g member disk s seen.by in (
        s.store,
        record {
          after = s;
          frames = [];
          shown = [];
          faults = [];
          now = seen;
          ends = unchanged refl refl refl;
          fails = tt;
          answered = (refl, inl refl);
          told = nothing_more told s;
          fits = λ one at. absurd at;
          next = s.begun;
          may_begin = may_down place s (Start s.store) down;
          moments = λ t image was. inl was;
        },
      )

  -- one that runs
  pub up_started : (member : Membership) (blank : Match) (disk : Option D) (up : Up D) (s : Standing) (told : Told)
      → IsSeen g (noted g member blank disk (Some up)) s
      → (found : Store) × Takes g (Start found) s (noted g member blank disk (Some up)) (noted g member blank disk (Some up)) told told (Ok tt)
  up_started member blank disk up s told seen = (
    s.store,
    up_took g member blank disk disk up up s (Start s.store) (Ok (still s)) told told seen refl
        (memory_took g member s (Ok (still s)) (still s) up up.running told told seen.by refl seen.by.running refl refl seen.by.stands (nothing_more told s) no_messages),
  )

  -- ---- from the fields of a node

  pub opened_at : (a b : List ℕ) (old new : Store) (store other : Journal D) → a ≡ b → other ≡ store
      → Keeps g a old store ⊎ Keeps g a new store → Keeps g b old other ⊎ Keeps g b new other
  opened_at a b old new store other heads same keeps =
      let P : List ℕ → Type 0 = λ h. Keeps g h old other ⊎ Keeps g h new other in
      let Q : Journal D → Type 0 = λ st. Keeps g a old st ⊎ Keeps g a new st in
      subst P heads (subst Q (sym same) keeps)

  no_up : (up : Option (Up D)) → is_some up ≡ false → up ≡ None
  no_up None e = refl
  no_up (Some up) e = absurd (cc)

  some_by : (member : Membership) (blank : Match) (disk : Option D) (up : Option (Up D)) (s : Standing) (told : Told) → is_some up ≡ true → IsSeen g (noted g member blank disk up) s
      → (found : Store) × Takes g (Start found) s (noted g member blank disk up) (noted g member blank disk up) told told (Ok tt)
  some_by member blank disk None s told e seen = absurd (cc)
  some_by member blank disk (Some up) s told e seen = up_started member blank disk up s told seen

  pub runs_on_at : (now : Node D) (i : Inside D) (s : Standing) (told : Told) → node_of i ≡ now → is_some i.up ≡ true → IsSeen g now s
      → (found : Store) × Takes g (Start found) s now now told told (Ok tt)
  runs_on_at now i s told view e seen =
      let P : Node D → Type 0 = λ n. (found : Store) × Takes g (Start found) s n n told told (Ok tt) in
      let Q : Node D → Type 0 = λ n. IsSeen g n s in
      subst P view (some_by i.member i.blank i.disk i.up s told e (subst Q (sym view) seen))

  pub seen_down : (now : Node D) (i : Inside D) (disk : D) (s : Standing) → node_of i ≡ now → is_some i.up ≡ false → i.disk ≡ Some disk → IsSeen g now s
      → IsSeen g (noted g i.member i.blank (Some disk) None) s
  seen_down now i disk s view down has seen =
      let P : Option D → Type 0 = λ d. IsSeen g (noted g i.member i.blank d None) s in
      subst P has (seen_at g now i None s view (no_up i.up down) seen)

  pub wanting_at : (now : Node D) (i : Inside D) (s : Standing) (earlier later : Told) (answer : Result (Unit {0}) NodeFault) → node_of i ≡ now → is_some i.up ≡ false
      → later ≡ earlier → answer ≡ Err fault.OutOfMemory → IsSeen g now s → (found : Store) × Takes g (Start found) s now now earlier later answer
  wanting_at now i s earlier later answer view down same says seen =
      let none = no_up i.up down in
      let U : Option (Up D) → Type 0 = λ u. (found : Store) × Takes g (Start found) s (noted g i.member i.blank i.disk u) (noted g i.member i.blank i.disk u) earlier earlier (Err fault.OutOfMemory) in
      let N : Node D → Type 0 = λ n. (found : Store) × Takes g (Start found) s n n earlier earlier (Err fault.OutOfMemory) in
      let A : Result (Unit {0}) NodeFault → Type 0 = λ a. (found : Store) × Takes g (Start found) s now now earlier earlier a in
      let T : Told → Type 0 = λ t. (found : Store) × Takes g (Start found) s now now earlier t answer in
      subst T (sym same) (subst A (sym says) (subst N view (subst U (sym none) (down_wanting i.member i.blank i.disk s earlier (seen_at g now i None s view none seen)))))

  down_now : (now : Node D) (i : Inside D) (disk : D) → node_of i ≡ now → is_some i.up ≡ false → i.disk ≡ Some disk → noted g i.member i.blank (Some disk) None ≡ now
  down_now now i disk view down has =
      ap (λ (d : Option D). noted g i.member i.blank d None) (sym has) ∙ (ap (λ (u : Option (Up D)). noted g i.member i.blank i.disk u) (sym (no_up i.up down)) ∙ view)

  -- what opening the store found is said of the node's disk
  pub refused_at : (now : Node D) (i : Inside D) (disk : D) (why : StoreFault) → node_of i ≡ now → is_some i.up ≡ false → i.disk ≡ Some disk
      → Refuses (head_of i.member) (g.seen disk) why → Refuses (head_of (member_in now)) (bytes_of g now) why
  refused_at now i disk why view down has refuses = let P : Node D → Type 0 = λ n. Refuses (head_of (member_in n)) (bytes_of g n) why in subst P (down_now now i disk view down has) refuses

  pub started_at : (now : Node D) (i : Inside D) (disk : D) (other : Option D) (up : Up D) (s : Standing) (earlier later : Told) → node_of i ≡ now → is_some i.up ≡ false → i.disk ≡ Some disk
      → IsSeen g now s → Starts g i.member s.store s.begun disk up earlier later
      → (found : Store) × Takes g (Start found) s now (noted g i.member i.blank other (Some up)) earlier later (Ok tt)
  started_at now i disk other up s earlier later view down has seen starts =
      let P : Node D → Type 0 = λ n. (found : Store) × Takes g (Start found) s n (noted g i.member i.blank other (Some up)) earlier later (Ok tt) in
      subst P (down_now now i disk view down has) (down_started i.member i.blank disk other up s earlier later (seen_down now i disk s view down has seen) starts)

  pub unstarted_at : (now : Node D) (i : Inside D) (disk left : D) (s : Standing) (earlier later : Told) (why : NodeFault) → node_of i ≡ now → is_some i.up ≡ false → i.disk ≡ Some disk → later ≡ earlier
      → IsSeen g now s → StaysDown g i.member s.store s.begun disk left why
      → (found : Store) × Takes g (Start found) s now (noted g i.member i.blank (Some left) i.up) earlier later (Err why)
  unstarted_at now i disk left s earlier later why view down has same seen stays =
      let P : Node D → Type 0 = λ n. (found : Store) × Takes g (Start found) s n (noted g i.member i.blank (Some left) None) earlier earlier (Err why) in
      let U : Option (Up D) → Type 0 = λ u. (found : Store) × Takes g (Start found) s now (noted g i.member i.blank (Some left) u) earlier earlier (Err why) in
      let T : Told → Type 0 = λ t. (found : Store) × Takes g (Start found) s now (noted g i.member i.blank (Some left) i.up) earlier t (Err why) in
      subst T (sym same) (subst U (sym (no_up i.up down)) (subst P (down_now now i disk view down has) (down_unstarted i.member i.blank disk left s earlier why (seen_down now i disk s view down has seen) stays)))

  -- ---- its disk

  same_reads : (disk : D) → OnlyReads g disk disk
  same_reads disk = record { seen = refl; begun = refl; images = λ image at. at; during = λ t image was. inl was; counts = omega arith }

  same_reopens : (head : List ℕ) (disk : D) → Reopens g head disk disk
  same_reopens head disk = record { begun = refl; counts = omega arith; leaves = λ old new honest leaves. leaves; during = λ old new honest leaves t image was. inl was }

  each_err : (answer : Result (Unit {0}) NodeFault) (P : NodeFault → Type 0) → ((why : NodeFault) → P why) → IfErr answer P
  each_err (Ok done) P all = tt
  each_err (Err why) P all = all why

  no_ok : (answer : Result (Unit {0}) NodeFault) (P : Type 0) → OnOk answer ⊥ → OnOk answer P
  no_ok (Ok done) P none = absurd none
  no_ok (Err why) P none = tt

  -- a node that was down isn't taken up
  abbrev pub NotTaken : Node D → Result (Unit {0}) NodeFault → Type 0
  NotTaken now answer = runs now ≡ false → OnOk answer ⊥

  there_opens : (now : Node D) (disk : Option D) (answer : Result (Unit {0}) NodeFault) → disk_in now ≡ disk → IsSome disk → NotTaken now answer → OpensDisk g now now answer
  there_opens now None answer is there stays = absurd (cc)
  there_opens now (Some disk) answer is there stays = record {
    before = disk;
    after = disk;
    was = is;
    is = is;
    reopens = same_reopens (head_of (member_in now)) disk;
    marks = λ honest down. no_ok answer (MarksJournal (head_of (member_in now)) (g.seen disk) (g.seen disk)) (stays down);
    quiet = λ honest goes_on. same_reads disk;
    unwritten = each_err answer (λ why. why ≢ fault.Store Disk → OnlyReads g disk disk) (λ why other. same_reads disk);
  }

  stays_opens : (now : Node D) (i : Inside D) (answer : Result (Unit {0}) NodeFault) → node_of i ≡ now → IsKept i → NotTaken now answer → OpensDisk g now now answer
  stays_opens now i answer view kept stays = there_opens now (disk_by i.up i.disk) answer (ap disk_in (sym view)) kept.has_disk stays

  not_down : (up : Option (Up D)) → is_some up ≡ true → is_up up ≡ false → ⊥
  not_down None some down = absurd (cc)
  not_down (Some up) some down = absurd (cc)

  -- one that runs
  pub runs_opens : (now : Node D) (i : Inside D) (answer : Result (Unit {0}) NodeFault) → node_of i ≡ now → IsKept i → is_some i.up ≡ true → OpensDisk g now now answer
  runs_opens now i answer view kept some =
      stays_opens now i answer view kept (λ down. absurd (not_down i.up some (ap (runs {D = D}) view ∙ down)))

  -- one for which there was no memory
  pub wanting_opens : (now : Node D) (i : Inside D) (answer : Result (Unit {0}) NodeFault) → node_of i ≡ now → IsKept i → answer ≡ Err fault.OutOfMemory → OpensDisk g now now answer
  wanting_opens now i answer view kept says =
      stays_opens now i answer view kept (λ down. subst (λ (a : Result (Unit {0}) NodeFault). OnOk a ⊥) (sym says) tt)

  -- what is said of the member that the node had is said of the one that it has
  head_at : (now : Node D) (i : Inside D) → node_of i ≡ now → head_of i.member ≡ head_of (member_in now)
  head_at now i view = ap (λ (n : Node D). head_of (member_in n)) view

  pub started_opens : (now : Node D) (i : Inside D) (disk : D) (other : Option D) (up : Up D) → node_of i ≡ now → is_some i.up ≡ false → i.disk ≡ Some disk
      → Reopens g (head_of i.member) disk (disk_under up) → (IsTrue g.is_honest → MarksJournal (head_of i.member) (g.seen disk) (g.seen (disk_under up)))
      → (IsTrue g.is_honest → GoesOnNew (head_of i.member) (g.seen disk) → OnlyReads g disk (disk_under up)) → OpensDisk g now (noted g i.member i.blank other (Some up)) (Ok tt)
  started_opens now i disk other up view down has reopens marks quiet =
      let heads = head_at now i view in
      record {
        before = disk;
        after = disk_under up;
        was = ap disk_in (sym (down_now now i disk view down has));
        is = refl;
        reopens = subst (λ (head : List ℕ). Reopens g head disk (disk_under up)) heads reopens;
        marks = λ honest stopped. subst (λ (head : List ℕ). MarksJournal head (g.seen disk) (g.seen (disk_under up))) heads (marks honest);
        quiet = λ honest goes_on. quiet honest (subst (λ (head : List ℕ). GoesOnNew head (g.seen disk)) (sym heads) goes_on);
        unwritten = tt;
      }

  pub unstarted_opens : (now : Node D) (i : Inside D) (disk left : D) (why : NodeFault) → node_of i ≡ now → is_some i.up ≡ false → i.disk ≡ Some disk
      → Reopens g (head_of i.member) disk left → (IsTrue g.is_honest → GoesOnNew (head_of i.member) (g.seen disk) → OnlyReads g disk left) → (why ≢ fault.Store Disk → OnlyReads g disk left)
      → OpensDisk g now (noted g i.member i.blank (Some left) i.up) (Err why)
  unstarted_opens now i disk left why view down has reopens quiet unwritten =
      let heads = head_at now i view in
      record {
        before = disk;
        after = left;
        was = ap disk_in (sym (down_now now i disk view down has));
        is = ap (λ (u : Option (Up D)). disk_by u (Some left)) (no_up i.up down);
        reopens = subst (λ (head : List ℕ). Reopens g head disk left) heads reopens;
        marks = λ honest stopped. tt;
        quiet = λ honest goes_on. quiet honest (subst (λ (head : List ℕ). GoesOnNew head (g.seen disk)) (sym heads) goes_on);
        unwritten = unwritten;
      }

  -- what the store was found to be is what the bytes of the node's disk stand for
  pub started_finds : (now : Node D) (i : Inside D) (disk : D) (other : Option D) (up : Up D) → node_of i ≡ now → is_some i.up ≡ false → i.disk ≡ Some disk
      → IsTableOf i.member.setting [] i.blank → Finds g i.member disk up → FindsStore g now (noted g i.member i.blank other (Some up))
  started_finds now i disk other up view down has blank finds =
      let P : Node D → Type 0 = λ n. FindsStore g n (noted g i.member i.blank other (Some up)) in
      subst P (down_now now i disk view down has) (record { held = finds.held; stands = finds.stands; seen = record { by = finds.now; blank = blank } })

  -- what was made behind nothing stands behind what was there
  pub starts_behind : (member : Membership) (store begun : Store) (disk : D) (up : Up D) (earlier later out behind : Told) → earlier ≡ nothing_told → behind ≡ both_told out later
      → Starts g member store begun disk up earlier later → Starts g member store begun disk up out behind
  starts_behind member store begun disk up earlier later out behind nothing e starts = record {
    found = starts.found;
    either = starts.either;
    now = starts.now;
    told = e ∙ ap (both_told out) (starts.told ∙ ap (λ (t : Told). both_told t (told_of (starting (place_at member) starts.found))) nothing);
    fits = starts.fits;
    moments = starts.moments;
  }
