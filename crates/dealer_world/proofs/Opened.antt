-- What the starts of an `open` make of the disks, and what they find there.
use Rattle.std.proofs.Common.{◌≡◌, ◌≢◌, ℕ, zero, suc, ◌+◌, ◌-◌, ◌<◌, ◌≤◌, ◌⊎◌, inl, inr, false, List, [], ◌∷◌, ◌++◌, map, length, get_or, set, take, drop, Some, Result, Ok, Err, OnOk, IfErr, IsTrue, refl, ap, sym, ◌∙◌, subst, arith}
use Rattle.std.specs.List.{AllZip}
use Rattle.std.proofs.lemmas.Bool.{cases_eq, cases_lt}
use Rattle.std.proofs.lemmas.List.{get_or_default, get_or-map, get_or-set_other, get_or-set_same, length-map, length-drop, drop_more}
use Rattle.promise_store.specs.declared.disk.Disk.{Ghosts}
use Rattle.promise_store.specs.declared.fault.StoreFault.{StoreFault}
use Rattle.promise_store.specs.declared.fault.StoreFault.TheVariants.{NoStore, BadHeader, BadRecord, Disk, Closed, OutOfMemory}
use Rattle.promise_store.specs.Journals.{header}
use Rattle.promise_store.specs.Holding.{StandsFor}
use Rattle.promise_store.specs.Settled.{OnlyReads}
use Rattle.promise_store.specs.Keeping.{Leaves}
use Rattle.promise_store.specs.Refusals.{Refuses}
use Rattle.protocol_model.specs.Stores.{Store, empty_store}
use Rattle.dealer_kind.specs.Plans.{Plan}
use Rattle.node_rules.specs.Standings.{Place}
use Rattle.dealer_node.specs.Nodes.{Node}
use Rattle.dealer_node.specs.declared.fault.NodeFault.{NodeFault}
use Rattle.dealer_node.specs.declared.fault.NodeFault.TheVariants as fault
use Rattle.dealer_node.specs.Seeing.{head_of, member_in, runs, seen_by, begun_by, count_by, images_by, since_by, begun_of, bytes_of, images_of, disk_in}
use Rattle.dealer_node.specs.Starting.{GoesOnNew, MarksJournal}
use Rattle.dealer_node.specs.Taking.{IsOfStart, FindsStore, OpensDisk}
use Rattle.dealer_world.specs.declared.event.Event.TheVariants as event
use Rattle.dealer_world.specs.Stepping.{View, Stepped}
use Rattle.dealer_world.specs.Beginning.{IsWant, IsReopenedAt, HaveStores, HasStore, AreEach, IsOver, IsOnlyRead, LeavesIn, IsOpenedSince, MarkFirst, IsOpenedOver, AreOpenedOver, GoOnNew, MayBeFound, AreImagesOf, KeepStores, AreAtRest, LeaveNoMore, AreImages, IsOfBytes, IsFirstRefused, IsFirstNoStore, IsUnopened}

-- ---- lists, side by side

zip_count : {A B : Type 0} (R : A → B → Type 0) (xs : List A) (ys : List B) → AllZip R xs ys → length xs ≡ length ys
zip_count R [] [] zipped = refl
zip_count R [] (y ∷ ys) zipped = absurd zipped
zip_count R (x ∷ xs) [] zipped = absurd zipped
zip_count R (x ∷ xs) (y ∷ ys) (first, rest) = ap suc (zip_count R xs ys rest)

zip_at : {A B : Type 0} (R : A → B → Type 0) (xs : List A) (ys : List B) (i : ℕ) (d : A) (e : B) → AllZip R xs ys → i < length xs → R (get_or xs i d) (get_or ys i e)
zip_at R [] ys i d e zipped less = absurd (omega arith)
zip_at R (x ∷ xs) [] i d e zipped less = absurd zipped
zip_at R (x ∷ xs) (y ∷ ys) zero d e (first, rest) less = first
zip_at R (x ∷ xs) (y ∷ ys) (suc i) d e (first, rest) less = zip_at R xs ys i d e rest (omega arith)

-- one pair more
pub zip_more : {A B : Type 0} (R : A → B → Type 0) (xs : List A) (ys : List B) (i : ℕ) (x : A) (y : B) → i < length xs → x ≡ get_or xs i x → AllZip R (take i xs) ys → R x y
    → AllZip R (take (i + 1) xs) (ys ++ y ∷ [])
zip_more R [] ys i x y less is zipped here = absurd (omega arith)
zip_more R (other ∷ xs) [] zero x y less is zipped here = (subst (λ z. R z y) is here, tt)
zip_more R (other ∷ xs) (z ∷ ys) zero x y less is zipped here = absurd zipped
zip_more R (other ∷ xs) [] (suc i) x y less is zipped here = absurd zipped
zip_more R (other ∷ xs) (z ∷ ys) (suc i) x y less is (first, rest) here =
    let one : suc i + 1 ≡ suc (i + 1) = omega arith in
    subst (λ n. AllZip R (take n (other ∷ xs)) (z ∷ (ys ++ y ∷ []))) (sym one) (first, zip_more R xs ys i x y (omega arith) is rest here)

pub all_zip_itself : {A : Type 0} (R : A → A → Type 0) → ((x : A) → R x x) → (xs : List A) → AllZip R xs xs
all_zip_itself R same [] = tt
all_zip_itself R same (x ∷ xs) = (same x, all_zip_itself R same xs)

pub all_zip_set : {A B : Type 0} (R : A → B → Type 0) (xs : List A) (ys : List B) (k : ℕ) (d new : B) → AllZip R xs ys → k < length ys → ((x : A) → R x (get_or ys k d) → R x new) → AllZip R xs (set ys k new)
all_zip_set R [] [] k d new zipped less on = absurd (omega arith)
all_zip_set R [] (y ∷ ys) k d new zipped less on = absurd zipped
all_zip_set R (x ∷ xs) [] k d new zipped less on = absurd zipped
all_zip_set R (x ∷ xs) (y ∷ ys) zero d new (first, rest) less on = (on x first, rest)
all_zip_set R (x ∷ xs) (y ∷ ys) (suc k) d new (first, rest) less on = (first, all_zip_set R xs ys k d new rest (omega arith) on)

pub all_zip_on : {A B C : Type 0} (R : A → B → Type 0) (S : B → C → Type 0) (T : A → C → Type 0) → ((x : A) (y : B) (z : C) → R x y → S y z → T x z)
    → (xs : List A) (ys : List B) (zs : List C) → AllZip R xs ys → AllZip S ys zs → AllZip T xs zs
all_zip_on R S T on [] [] [] first second = tt
all_zip_on R S T on [] [] (z ∷ zs) first second = absurd second
all_zip_on R S T on [] (y ∷ ys) zs first second = absurd first
all_zip_on R S T on (x ∷ xs) [] zs first second = absurd first
all_zip_on R S T on (x ∷ xs) (y ∷ ys) [] first second = absurd second
all_zip_on R S T on (x ∷ xs) (y ∷ ys) (z ∷ zs) (one, first) (also, second) = (on x y z one also, all_zip_on R S T on xs ys zs first second)

pub all_zip_map : {A B C : Type 0} (R : A → B → Type 0) (f : A → C) (h : B → C) → ((x : A) (y : B) → R x y → h y ≡ f x) → (xs : List A) (ys : List B) → AllZip R xs ys → map h ys ≡ map f xs
all_zip_map R f h same [] [] zipped = refl
all_zip_map R f h same [] (y ∷ ys) zipped = absurd zipped
all_zip_map R f h same (x ∷ xs) [] zipped = absurd zipped
all_zip_map {C = C} R f h same (x ∷ xs) (y ∷ ys) (first, rest) = ap (λ (c : C). c ∷ map h ys) (same x y first) ∙ ap (λ (cs : List C). f x ∷ cs) (all_zip_map R f h same xs ys rest)

-- what is dropped next
pub is_next : {A : Type 0} (xs : List A) (k : ℕ) (x : A) (rest : List A) → x ∷ rest ≡ drop k xs → (k < length xs) × (x ≡ get_or xs k x) × (rest ≡ drop (k + 1) xs)
is_next xs k x rest is =
    let size : length (x ∷ rest) ≡ length xs - k = ap length is ∙ length-drop k xs in
    let less : k < length xs = omega (arith, size) in
    let both : x ∷ rest ≡ get_or xs k x ∷ drop (k + 1) xs = is ∙ drop_more xs k x less in
    (less, cc, cc)

-- what holds of each of a list that has one
with_one : {A : Type 0} (xs : List A) (i : ℕ) (P : Type 0) → i < length xs → (A → P) → P
with_one [] i P less from = absurd (omega arith)
with_one (x ∷ xs) i P less from = from x

module _ {D : Type 0} (g : Ghosts D) where
  -- ---- one start

  pub read_itself : (node : Node D) → IsOnlyRead g node node
  read_itself node = record {
    member = refl;
    bytes = refl;
    begun = refl;
    counts = omega arith;
    images = λ image is. is;
    during = λ t image was. inl was;
  }

  read_disk : (old new : Node D) (before after : D) → member_in new ≡ member_in old → disk_in old ≡ Some before → disk_in new ≡ Some after → OnlyReads g before after → IsOnlyRead g old new
  read_disk old new before after member was is reads = record {
    member = member;
    bytes = ap (seen_by g) is ∙ (reads.seen ∙ sym (ap (seen_by g) was));
    begun = ap (begun_by g) is ∙ (reads.begun ∙ sym (ap (begun_by g) was));
    counts = let a = ap (count_by g) was in let b = ap (count_by g) is in let c = reads.counts in omega arith;
    images = λ image left. subst (λ disk. images_by g disk image) (sym was) (reads.images image (subst (λ disk. images_by g disk image) is left));
    during = λ t image left. elim (reads.during t image (subst (λ disk. since_by g disk t image) is left)) [
      | inl before ↦ inl (subst (λ disk. since_by g disk t image) (sym was) before)
      | inr now ↦ inr (subst (λ disk. images_by g disk image) (sym was) now)
    ];
  }

  pub read_on : (a b c : Node D) → IsOnlyRead g a b → IsOnlyRead g b c → IsOnlyRead g a c
  read_on a b c first second = record {
    member = second.member ∙ first.member;
    bytes = second.bytes ∙ first.bytes;
    begun = second.begun ∙ first.begun;
    counts = let x = first.counts in let y = second.counts in omega arith;
    images = λ image is. first.images image (second.images image is);
    during = λ t image is. elim (second.during t image is) [ inl before ↦ first.during t image before | inr now ↦ inr (first.images image now) ];
  }

  pub opened_itself : (node : Node D) → IsOpenedSince g node node
  opened_itself node = record {
    member = refl;
    begun = refl;
    counts = omega arith;
    leaves = λ store begun honest leaves. leaves;
    during = λ store begun honest leaves t image was. inl was;
    quiet = λ honest goes_on. read_itself node;
  }

  open_disk : (old new : Node D) (answer : Result (Unit {0}) NodeFault) → member_in new ≡ member_in old → OpensDisk g old new answer → IsOpenedSince g old new
  open_disk old new answer member opens =
      let head = head_of (member_in old) in
      let at_first : (store begun : Store) → LeavesIn g head store begun old → Leaves g head store begun opens.before =
      λ store begun leaves image left. leaves image (subst (λ disk. images_by g disk image) (sym opens.was) left) in
      record {
        member = member;
        begun = ap (begun_by g) opens.is ∙ (opens.reopens.begun ∙ sym (ap (begun_by g) opens.was));
        counts = let a = ap (count_by g) opens.was in let b = ap (count_by g) opens.is in let c = opens.reopens.counts in omega arith;
        leaves = λ store begun honest leaves image left.
            opens.reopens.leaves store begun honest (at_first store begun leaves) image (subst (λ disk. images_by g disk image) opens.is left);
        during = λ store begun honest leaves t image left.
            elim (opens.reopens.during store begun honest (at_first store begun leaves) t image (subst (λ disk. since_by g disk t image) opens.is left)) [
              | inl before ↦ inl (subst (λ disk. since_by g disk t image) (sym opens.was) before)
              | inr either ↦ inr either
            ];
        quiet = λ honest goes_on.
            read_disk old new opens.before opens.after member opens.was opens.is
            (opens.quiet honest (subst (GoesOnNew head) (ap (seen_by g) opens.was) goes_on));
      }

  opened_on : (a b c : Node D) → IsOpenedSince g a b → IsOpenedSince g b c → IsOpenedSince g a c
  opened_on a b c first second =
      let heads : head_of (member_in b) ≡ head_of (member_in a) = ap (λ member. head_of member) first.member in
      let later : (store begun : Store) → IsTrue g.is_honest → LeavesIn g (head_of (member_in a)) store begun a → LeavesIn g (head_of (member_in b)) store begun b =
      λ store begun honest leaves. subst (λ head. LeavesIn g head store begun b) (sym heads) (first.leaves store begun honest leaves) in
      record {
        member = second.member ∙ first.member;
        begun = second.begun ∙ first.begun;
        counts = let x = first.counts in let y = second.counts in omega arith;
        leaves = λ store begun honest leaves.
            subst (λ head. LeavesIn g head store begun c) heads (second.leaves store begun honest (later store begun honest leaves));
        during = λ store begun honest leaves t image left.
            elim (second.during store begun honest (later store begun honest leaves) t image left) [
              | inl before ↦ first.during store begun honest leaves t image before
              | inr either ↦ inr (subst (λ head. StandsFor head image store ⊎ StandsFor head image begun) heads either)
            ];
        quiet = λ honest goes_on.
            let one = first.quiet honest goes_on in
            let there = subst (λ head. GoesOnNew head (bytes_of g b)) (sym heads) (subst (GoesOnNew (head_of (member_in a))) (sym one.bytes) goes_on) in
            read_on a b c one (second.quiet honest there);
      }

  start_opens : (old new : View (Node D)) (k : ℕ) (answer : Result (Unit {0}) NodeFault) (stepped : Stepped g old (event.Start k) answer new) → IsOpenedSince g stepped.before stepped.after
  start_opens old new k answer stepped = elim stepped.given.disk.opens [
    | inl same ↦ subst (IsOpenedSince g stepped.before) (sym same.0) (opened_itself stepped.before)
    | inr opens ↦ open_disk stepped.before stepped.after answer stepped.given.stays.member opens
  ]

  -- ---- one start after another: of the nodes, the first ones were started

  pub step_opens : (first : List (Node D)) (old new : View (Node D)) (k : ℕ) (answer : Result (Unit {0}) NodeFault) → Stepped g old (event.Start k) answer new
      → AllZip (IsOpenedSince g) first old.nodes → AllZip (IsOpenedSince g) first new.nodes
  step_opens first old new k answer stepped zipped =
      subst (λ (nodes : List (Node D)). AllZip (IsOpenedSince g) first nodes) (sym stepped.others)
      (all_zip_set (IsOpenedSince g) first old.nodes k stepped.before stepped.after zipped stepped.within (λ node was.
      opened_on node stepped.before stepped.after (subst (IsOpenedSince g node) stepped.at was) (start_opens old new k answer stepped)))

  -- those from this one on are as they were
  abbrev pub Wait : List (Node D) → ℕ → List (Node D) → Type 0
  Wait first k nodes = (i : ℕ) (d : Node D) → k ≤ i → get_or nodes i d ≡ get_or first i d

  pub step_waits : (first : List (Node D)) (old new : View (Node D)) (k : ℕ) (answer : Result (Unit {0}) NodeFault) → Stepped g old (event.Start k) answer new
      → Wait first k old.nodes → Wait first (k + 1) new.nodes
  step_waits first old new k answer stepped waits i d most =
      let ne : i ≢ k = λ same. omega (arith, same, most) in
      ap (λ (nodes : List (Node D)). get_or nodes i d) stepped.others ∙ (get_or-set_other old.nodes k i stepped.after d ne ∙ waits i d (omega (arith, most)))

  abbrev pub AreDown : List (Node D) → Type 0
  AreDown nodes = AreEach (λ i node. runs node ≡ false) nodes

  -- the node that is started next
  next_is : (first : List (Node D)) (old new : View (Node D)) (k : ℕ) (answer : Result (Unit {0}) NodeFault) (d : Node D) (stepped : Stepped g old (event.Start k) answer new)
      → Wait first k old.nodes → k < length first → get_or first k d ≡ stepped.before
  next_is first old new k answer d stepped waits less =
      get_or_default first k d stepped.before less ∙ (sym (waits k stepped.before (omega arith)) ∙ stepped.at)

  is_down : (first : List (Node D)) (old new : View (Node D)) (k : ℕ) (answer : Result (Unit {0}) NodeFault) (stepped : Stepped g old (event.Start k) answer new)
      → Wait first k old.nodes → k < length first → AreDown first → runs stepped.before ≡ false
  is_down first old new k answer stepped waits less down =
      ap (runs {D = D}) (sym (next_is first old new k answer stepped.before stepped waits less)) ∙ down k stepped.before less

  -- the journal of a node whose start went well
  start_marks : (old new : View (Node D)) (k : ℕ) (answer : Result (Unit {0}) NodeFault) (stepped : Stepped g old (event.Start k) answer new) → answer ≡ Ok tt → IsTrue g.is_honest
      → runs stepped.before ≡ false → MarksJournal (head_of (member_in stepped.before)) (bytes_of g stepped.before) (bytes_of g stepped.after)
  start_marks old new k answer stepped went honest down = elim stepped.given.disk.opens [
    | inl same ↦ absurd (let e : ◌≡◌ {A = Result (Unit {0}) NodeFault} (Ok tt) (Err fault.OutOfMemory) = sym went ∙ same.1 in cc)
    | inr opens ↦
        let head = head_of (member_in stepped.before) in
        let marks = subst (λ (a : Result (Unit {0}) NodeFault). OnOk a (MarksJournal head (g.seen opens.before) (g.seen opens.after))) went (opens.marks honest down) in
        subst (λ (file : List ℕ). MarksJournal head file (bytes_of g stepped.after)) (sym (ap (seen_by g) opens.was))
        (subst (MarksJournal head (g.seen opens.before)) (sym (ap (seen_by g) opens.is)) marks)
  ]

  pub step_marks : (first : List (Node D)) (old new : View (Node D)) (k : ℕ) (answer : Result (Unit {0}) NodeFault) → Stepped g old (event.Start k) answer new → answer ≡ Ok tt
      → IsTrue g.is_honest → AreDown first → Wait first k old.nodes → k < length first → MarkFirst g first k old.nodes → MarkFirst g first (k + 1) new.nodes
  step_marks first old new k answer stepped went honest down waits less marks i d below = elim (cases_eq i k) [
    | inl is ↦
        let one = start_marks old new k answer stepped went honest (is_down first old new k answer stepped waits less down) in
        let was : get_or first k d ≡ stepped.before = next_is first old new k answer d stepped waits less in
        let now : get_or new.nodes k d ≡ stepped.after = ap (λ (nodes : List (Node D)). get_or nodes k d) stepped.others ∙ get_or-set_same old.nodes k stepped.after d stepped.within in
        subst (λ j. MarksJournal (head_of (member_in (get_or first j d))) (bytes_of g (get_or first j d)) (bytes_of g (get_or new.nodes j d))) (sym is)
        (subst (λ (node : Node D). MarksJournal (head_of (member_in node)) (bytes_of g node) (bytes_of g (get_or new.nodes k d))) (sym was)
        (subst (λ (node : Node D). MarksJournal (head_of (member_in stepped.before)) (bytes_of g stepped.before) (bytes_of g node)) (sym now) one))
    | inr ne ↦
        let other : get_or new.nodes i d ≡ get_or old.nodes i d = ap (λ (nodes : List (Node D)). get_or nodes i d) stepped.others ∙ get_or-set_other old.nodes k i stepped.after d ne in
        subst (λ (node : Node D). MarksJournal (head_of (member_in (get_or first i d))) (bytes_of g (get_or first i d)) (bytes_of g node)) (sym other) (marks i d (omega (arith, below, ne)))
  ]

  pub step_finds : (first : List (Node D)) (old new : View (Node D)) (k : ℕ) (answer : Result (Unit {0}) NodeFault) → Stepped g old (event.Start k) answer new → answer ≡ Ok tt
      → IsTrue g.is_honest → AreDown first → Wait first k old.nodes → k < length first → (d : Node D) → HasStore g (get_or first k d)
  step_finds first old new k answer stepped went honest down waits less d =
      let found = subst (λ (a : Result (Unit {0}) NodeFault). OnOk a (FindsStore g stepped.before stepped.after)) went
      (stepped.given.disk.found honest (is_down first old new k answer stepped waits less down)) in
      subst (HasStore g) (sym (next_is first old new k answer d stepped waits less)) (found.held, found.stands)

  -- so many of the first have stores
  abbrev pub HaveFirst : List (Node D) → ℕ → Type 0
  HaveFirst first k = (i : ℕ) (d : Node D) → i < k → HasStore g (get_or first i d)

  pub step_have : (first : List (Node D)) (k : ℕ) → HaveFirst first k → ((d : Node D) → HasStore g (get_or first k d)) → HaveFirst first (k + 1)
  step_have first k have here i d less = elim (cases_eq i k) [
    | inl is ↦ subst (λ j. HasStore g (get_or first j d)) (sym is) (here d)
    | inr ne ↦ have i d (omega (arith, less, ne))
  ]

  -- why a start was refused
  abbrev pub IsRefusedStart : List (Node D) → NodeFault → Type 0
  IsRefusedStart first why = IsWant why ⊎ ((f : StoreFault) × (why ≡ fault.Store f) × IsFirstRefused g first f)

  first_refused : (first : List (Node D)) (k : ℕ) (f : StoreFault) → IsOfBytes f → k < length first → ((d : Node D) → Refuses (head_of (member_in (get_or first k d))) (bytes_of g (get_or first k d)) f)
      → HaveFirst first k → IsRefusedStart first (fault.Store f)
  first_refused first k f kind less refused have = inr (f, refl, record { kind = kind; node = k; within = less; refused = refused; before = have })

  by_store_fault : (first : List (Node D)) (k : ℕ) (f : StoreFault) (node : Node D) → IsOfStart (fault.Store f) → k < length first
      → ((d : Node D) → Refuses (head_of (member_in (get_or first k d))) (bytes_of g (get_or first k d)) f) → HaveFirst first k → IsRefusedStart first (fault.Store f)
  by_store_fault first k NoStore node of less refused have = first_refused first k NoStore tt less refused have
  by_store_fault first k BadHeader node of less refused have = first_refused first k BadHeader tt less refused have
  by_store_fault first k BadRecord node of less refused have = first_refused first k BadRecord tt less refused have
  by_store_fault first k Disk node of less refused have = inl (inr refl)
  by_store_fault first k Closed node of less refused have = absurd (refused node)
  by_store_fault first k OutOfMemory node of less refused have = absurd (of refl)

  by_fault : (first : List (Node D)) (k : ℕ) (why : NodeFault) (node : Node D) → IsOfStart why → k < length first
      → ((f : StoreFault) → why ≡ fault.Store f → (d : Node D) → Refuses (head_of (member_in (get_or first k d))) (bytes_of g (get_or first k d)) f) → HaveFirst first k → IsRefusedStart first why
  by_fault first k fault.Down node of less refused have = absurd of
  by_fault first k (fault.Store f) node of less refused have = by_store_fault first k f node of less (refused f refl) have
  by_fault first k fault.OutOfMemory node of less refused have = inl (inl refl)
  by_fault first k fault.Spent node of less refused have = absurd of
  by_fault first k (fault.BadFrame f) node of less refused have = absurd of
  by_fault first k fault.Conflict node of less refused have = absurd of
  by_fault first k fault.NothingToAct node of less refused have = absurd of

  pub step_refused : (first : List (Node D)) (old new : View (Node D)) (k : ℕ) (answer : Result (Unit {0}) NodeFault) (why : NodeFault) → Stepped g old (event.Start k) answer new → answer ≡ Err why
      → IsTrue g.is_honest → Wait first k old.nodes → k < length first → HaveFirst first k → IsRefusedStart first why
  step_refused first old new k answer why stepped failed honest waits less have =
      by_fault first k why stepped.before (subst (λ (a : Result (Unit {0}) NodeFault). IfErr a IsOfStart) failed stepped.given.disk.faults) less
      (λ f is d. subst (λ (node : Node D). Refuses (head_of (member_in node)) (bytes_of g node) f) (sym (next_is first old new k answer d stepped waits less))
      (stepped.given.disk.refused honest f (failed ∙ ap Err is))) have

  -- ---- over the disks that were given

  pub over_on : (given : D) (old new : Node D) → IsOver g given old → IsOnlyRead g old new → IsOver g given new
  over_on given old new over read = record {
    bytes = read.bytes ∙ over.bytes;
    begun = read.begun ∙ over.begun;
    counts = let a = over.counts in let b = read.counts in omega arith;
    settled = λ image is. over.settled image (read.images image is);
    images = λ image is. over.images image (read.images image is);
    during = λ t image is. elim (read.during t image is) [ inl before ↦ over.during t image before | inr now ↦ inr (over.images image now) ];
  }

  pub begun_are : (given : List D) (nodes : List (Node D)) → AllZip (IsOver g) given nodes → map (begun_of g) nodes ≡ map g.seen given
  begun_are given nodes over = all_zip_map (IsOver g) g.seen (begun_of g) (λ disk node one. one.begun) given nodes over

  -- the law of disks: since a moment there is no image that there isn't at it
  abbrev pub OnlyNow : Type 0
  OnlyNow = (disk : D) (image : List ℕ) → g.since disk (g.moment disk) image → g.images disk image

  -- what a read gave when the disks were begun, of the nodes that were put over them
  pub begun_since : (given : List D) (nodes first now : List (Node D)) → AllZip (IsOver g) given nodes → first ≡ nodes → AllZip (IsOpenedSince g) first now → map (begun_of g) now ≡ map g.seen given
  begun_since given nodes first now over same opens =
      all_zip_map (IsOpenedSince g) (begun_of g) (begun_of g) (λ old new one. one.begun) first now opens
      ∙ (ap (map (begun_of g)) same ∙ begun_are given nodes over)

  opened_one : (head : List ℕ) (given : D) (old new : Node D) → head_of (member_in old) ≡ head → IsOver g given old → IsOpenedSince g old new
      → (IsTrue g.is_honest → MarksJournal (head_of (member_in old)) (bytes_of g old) (bytes_of g new)) → IsOpenedOver g head given new
  opened_one head given old new heads over opens marks = record {
    begun = opens.begun ∙ over.begun;
    counts = let a = over.counts in let b = opens.counts in omega arith;
    during = λ store honest stands t image left.
        let first : LeavesIn g (head_of (member_in old)) store store old =
        λ other is. inl (subst (λ (h : List ℕ). StandsFor h other store) (sym heads) (subst (λ (file : List ℕ). StandsFor head file store) (sym (over.settled other is)) stands)) in
        elim (opens.during store store honest first t image left) [
          | inl before ↦ elim (over.during t image before) [ inl was ↦ inl was | inr now ↦ inr (inl now) ]
          | inr either ↦ inr (inr (subst (λ (h : List ℕ). StandsFor h image store) heads (elim either [ inl one ↦ one | inr other ↦ other ])))
        ];
    marks = λ honest.
        subst (λ (file : List ℕ). MarksJournal head file (bytes_of g new)) over.bytes
        (subst (λ (h : List ℕ). MarksJournal h (bytes_of g old) (bytes_of g new)) heads (marks honest));
    quiet = λ honest goes_on.
        let there = subst (λ (h : List ℕ). GoesOnNew h (bytes_of g old)) (sym heads) (subst (GoesOnNew head) (sym over.bytes) goes_on) in
        over_on given old new over (opens.quiet honest there);
  }

  -- what the first starts made of the disks, of the nodes that were put over them
  pub opened_over : (plan : Plan) (given : List D) (nodes first now : List (Node D)) → length given ≡ length plan.sources → length nodes ≡ length plan.sources → AreEach (IsReopenedAt g plan) nodes
      → AllZip (IsOver g) given nodes → first ≡ nodes → AllZip (IsOpenedSince g) first now → (IsTrue g.is_honest → AreDown first → MarkFirst g first (length first) now)
      → AreOpenedOver g (length plan.sources) given now
  opened_over plan given nodes first now count many each over same opens marks =
      let since = subst (λ (ns : List (Node D)). AllZip (IsOpenedSince g) ns now) same opens in
      let marked = subst (λ (ns : List (Node D)). IsTrue g.is_honest → AreDown ns → MarkFirst g ns (length ns) now) same marks in
      let size : length nodes ≡ length now = zip_count (IsOpenedSince g) nodes now since in
      record {
        count = count ∙ (sym many ∙ size);
        each = λ i d e less.
            let here : i < length nodes = omega (arith, less, size) in
            let there : i < length given = omega (arith, here, count, many) in
            opened_one (header i (length plan.sources)) (get_or given i e) (get_or nodes i d) (get_or now i d) (ap (λ (p : Place). header p.node p.nodes) (each i d here).placed)
            (zip_at (IsOver g) given nodes i e d over there) (zip_at (IsOpenedSince g) nodes now i d d since here) (λ honest. marked honest (λ j other within. (each j other within).down) i d here);
      }

  -- what may be found is an image of its disk, or stands for what that disk has
  found_as : (n : ℕ) (given : List D) (nodes : List (Node D)) (files : List (List ℕ)) → OnlyNow → AreOpenedOver g n given nodes → IsTrue g.is_honest → MayBeFound g given nodes files
      → (i : ℕ) (store : Store) (e : D) → i < length given → StandsFor (header i n) (get_or (map g.seen given) i []) store
      → g.images (get_or given i e) (get_or files i []) ⊎ StandsFor (header i n) (get_or files i []) store
  found_as n given nodes files law over honest found i store e less stands =
      let here : i < length nodes = omega (arith, less, over.count) in
      let file = get_or files i [] in
      with_one nodes i (g.images (get_or given i e) file ⊎ StandsFor (header i n) file store) here (λ d.
      let at = subst (λ (f : List ℕ). StandsFor (header i n) f store) (get_or-map g.seen given i e [] less) stands in
      elim ((over.each i d e here).during store honest at (g.moment (get_or given i e)) file (found.each i d e here)) [
        | inl was ↦ inl (law (get_or given i e) file was)
        | inr is ↦ is
      ])

  pub found_keeps : (n : ℕ) (given : List D) (nodes : List (Node D)) (files : List (List ℕ)) (stores : ℕ → Store) → OnlyNow → AreOpenedOver g n given nodes → IsTrue g.is_honest
      → HaveStores n (map g.seen given) stores → MayBeFound g given nodes files → KeepStores g n stores given files
  found_keeps n given nodes files stores law over honest have found = record {
    count = found.count ∙ sym over.count;
    each = λ i e less. found_as n given nodes files law over honest found i (stores i) e less (have i (omega (arith, less, length-map given g.seen)));
  }

  -- of disks at rest it stands for what that disk has
  pub found_again : (n : ℕ) (given : List D) (nodes : List (Node D)) (files : List (List ℕ)) → OnlyNow → AreOpenedOver g n given nodes → IsTrue g.is_honest → AreAtRest g given
      → MayBeFound g given nodes files → (i : ℕ) (store : Store) → i < length (map g.seen given) → StandsFor (header i n) (get_or (map g.seen given) i []) store → StandsFor (header i n) (get_or files i []) store
  found_again n given nodes files law over honest rest found i store less stands =
      let there : i < length given = omega (arith, less, length-map given g.seen) in
      with_one given i (StandsFor (header i n) (get_or files i []) store) there (λ e.
      elim (found_as n given nodes files law over honest found i store e there stands) [
        | inl image ↦ subst (λ (f : List ℕ). StandsFor (header i n) f store) (get_or-map g.seen given i e [] there ∙ sym (rest i e there (get_or files i []) image)) stands
        | inr is ↦ is
      ])

  pub found_within : (n : ℕ) (given : List D) (nodes : List (Node D)) (files : List (List ℕ)) → OnlyNow → AreOpenedOver g n given nodes → IsTrue g.is_honest → GoOnNew n (map g.seen given)
      → MayBeFound g given nodes files → AreImagesOf g given files
  found_within n given nodes files law over honest goes_on found =
      record {
        count = found.count ∙ sym over.count;
        each = λ i e less.
            let here : i < length nodes = omega (arith, less, over.count) in
            with_one nodes i (g.images (get_or given i e) (get_or files i [])) here (λ d.
            let new = subst (GoesOnNew (header i n)) (get_or-map g.seen given i e [] less) (goes_on i (omega (arith, less, length-map given g.seen))) in
            let one = (over.each i d e here).quiet honest new in
            elim (one.during (g.moment (get_or given i e)) (get_or files i []) (found.each i d e here)) [
              | inl was ↦ law (get_or given i e) (get_or files i []) was
              | inr is ↦ is
            ]);
      }

  pub found_resumes : (n : ℕ) (given : List D) (nodes before : List (Node D)) (files : List (List ℕ)) → OnlyNow → AreOpenedOver g n given nodes → IsTrue g.is_honest → GoOnNew n (map g.seen given)
      → LeaveNoMore g given before → MayBeFound g given nodes files → AreImages g before files
  found_resumes n given nodes before files law over honest goes_on leave found =
      let there = found_within n given nodes files law over honest goes_on found in
      record {
        count = there.count ∙ leave.count;
        each = λ i d less.
            let here : i < length given = omega (arith, less, leave.count) in
            with_one given i (images_of g (get_or before i d) (get_or files i [])) here (λ e. leave.each i d e less (get_or files i []) (there.each i e here));
      }

  -- ---- by the places of the nodes

  pub file_at : (given : List D) (nodes : List (Node D)) (i : ℕ) (d : Node D) → AllZip (IsOver g) given nodes → i < length nodes → bytes_of g (get_or nodes i d) ≡ get_or (map g.seen given) i []
  file_at given nodes i d over less =
      let size : length given ≡ length nodes = zip_count (IsOver g) given nodes over in
      let here : i < length given = omega (arith, less, size) in
      with_one given i (bytes_of g (get_or nodes i d) ≡ get_or (map g.seen given) i []) here (λ e.
      (zip_at (IsOver g) given nodes i e d over here).bytes ∙ sym (get_or-map g.seen given i e [] here))

  -- the store that a node's disk has is that of its file
  pub stands_at : (plan : Plan) (given : List D) (nodes : List (Node D)) (i : ℕ) (d : Node D) (store : Store) → AreEach (IsReopenedAt g plan) nodes → AllZip (IsOver g) given nodes → i < length nodes
      → StandsFor (head_of (member_in (get_or nodes i d))) (bytes_of g (get_or nodes i d)) store → StandsFor (header i (length plan.sources)) (get_or (map g.seen given) i []) store
  stands_at plan given nodes i d store each over less stands =
      subst (λ (file : List ℕ). StandsFor (header i (length plan.sources)) file store) (file_at given nodes i d over less)
      (subst (λ (head : List ℕ). StandsFor head (bytes_of g (get_or nodes i d)) store) (ap (λ (p : Place). header p.node p.nodes) (each i d less).placed) stands)

  -- the stores that all have, one for each number
  picked : (nodes : List (Node D)) (d : Node D) → AreEach (λ i. HasStore g) nodes → (i : ℕ) → (i < length nodes) ⊎ (length nodes ≤ i) → Store
  picked nodes d have i (inl less) = (have i d less).0
  picked nodes d have i (inr most) = empty_store

  picked_stands : (nodes : List (Node D)) (d : Node D) (have : AreEach (λ i. HasStore g) nodes) (i : ℕ) → i < length nodes → (which : (i < length nodes) ⊎ (length nodes ≤ i))
      → StandsFor (head_of (member_in (get_or nodes i d))) (bytes_of g (get_or nodes i d)) (picked nodes d have i which)
  unfolding picked
  picked_stands nodes d have i less (inl within) = (have i d within).1
  picked_stands nodes d have i less (inr most) = absurd (omega (arith, less, most))

  -- the files have the stores that the nodes' disks have
  pub files_have : (plan : Plan) (given : List D) (nodes : List (Node D)) → length given ≡ length plan.sources → AreEach (IsReopenedAt g plan) nodes → AllZip (IsOver g) given nodes
      → AreEach (λ i. HasStore g) nodes → (stores : ℕ → Store) × HaveStores (length plan.sources) (map g.seen given) stores
  files_have plan given [] count each over have = (λ i. empty_store, (λ i less. absurd (omega (arith, less, length-map given g.seen, zip_count (IsOver g) given [] over))))
  files_have plan given (node ∷ nodes) count each over have =
      let all = node ∷ nodes in (
        (λ i. picked all node have i (cases_lt i (length all))),
        (λ i less.
            let within : i < length all = omega (arith, less, length-map given g.seen, zip_count (IsOver g) given all over) in
            stands_at plan given all i node (picked all node have i (cases_lt i (length all))) each over within (picked_stands all node have i within (cases_lt i (length all)))),
      )

  -- the file of the first that was refused is the first that is no store
  file_refused : (plan : Plan) (given : List D) (nodes : List (Node D)) (f : StoreFault) → length given ≡ length plan.sources → AreEach (IsReopenedAt g plan) nodes → AllZip (IsOver g) given nodes
      → IsFirstRefused g nodes f → IsFirstNoStore (length plan.sources) (map g.seen given) f
  file_refused plan given nodes f count each over first =
      let size : length given ≡ length nodes = zip_count (IsOver g) given nodes over in
      let k = first.node in
      let n = length plan.sources in
      record {
        kind = first.kind;
        node = k;
        within = let w = first.within in omega (arith, w, size, count);
        refused = with_one nodes k (Refuses (header k n) (get_or (map g.seen given) k []) f) first.within (λ d.
            subst (λ (file : List ℕ). Refuses (header k n) file f) (file_at given nodes k d over first.within)
            (subst (λ (head : List ℕ). Refuses head (bytes_of g (get_or nodes k d)) f) (ap (λ (p : Place). header p.node p.nodes) (each k d first.within).placed) (first.refused d)));
        before = λ i less.
            let w = first.within in
            let within : i < length nodes = omega (arith, w, less) in
            with_one nodes i ((store : Store) × StandsFor (header i n) (get_or (map g.seen given) i []) store) within (λ d.
            let have = first.before i d less in (have.0, stands_at plan given nodes i d have.0 each over within have.1));
      }

  pub unopened : (plan : Plan) (given : List D) (nodes : List (Node D)) (why : NodeFault) → length given ≡ length plan.sources → AreEach (IsReopenedAt g plan) nodes → AllZip (IsOver g) given nodes
      → IsRefusedStart nodes why → IsUnopened (length plan.sources) (map g.seen given) why
  unopened plan given nodes why count each over (inl want) = inl want
  unopened plan given nodes why count each over (inr (f, is, first)) = inr (f, is, file_refused plan given nodes f count each over first)
