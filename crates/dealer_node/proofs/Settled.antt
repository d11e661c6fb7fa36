-- From what a call makes of what runs to what it makes of the node.
use Rattle.std.proofs.Common.{◌≡◌, ℕ, inl, inr, Bool, true, false, List, [], Result, Ok, Err, refl, sym, ap, subst, ◌∙◌}
use Rattle.std.proofs.lemmas.Option.{same_Some}
use Rattle.std.specs.Prelude.{◌⊎◌, Option, Some, None, IfSome, IsSome}
use Rattle.paxos_wire.specs.Spelling.{frame}
use Rattle.paxos_wire.specs.Faults.{reading}
use Rattle.paxos_wire.proofs.FrameLaws.{frame_again}
use Rattle.promise_store.specs.declared.disk.Disk.{Ghosts}
use Rattle.promise_store.specs.declared.fault.StoreFault.TheVariants.{Disk}
use Rattle.promise_store.specs.Disks.{Within, Elapses, Rose, Picks}
use Rattle.promise_store.specs.Keeping.{Leaves, LeavesDuring}
use Rattle.protocol_model.specs.Sets.{In}
use Rattle.protocol_model.specs.Stores.{Store, empty_store}
use Rattle.slot_log.specs.Hand.{Match}
use Rattle.node_rules.specs.Standings.{Place, Standing, stopped}
use Rattle.node_rules.specs.Sending.{Frame}
use Rattle.node_rules.specs.Turns.{Turn, Refusal, Down, Conflict, still}
use Rattle.node_rules.specs.Calls.{Call, Stop}
use Rattle.node_rules.specs.Rules.{IsTurn, IsTurnBy, IsTurnUp, IsTurnDown, standing_after, stopping}
use Rattle.node_rules.specs.Called.{took, refused, failed, unchanged}
use Rattle.dealer_node.specs.declared.up.Up.{Up}
use Rattle.dealer_node.specs.declared.fault.NodeFault.{NodeFault}
use Rattle.dealer_node.specs.declared.fault.NodeFault.TheVariants as fault
use Rattle.dealer_node.specs.Outs.{Told}
use Rattle.dealer_node.specs.Members.{Membership, place_at}
use Rattle.dealer_node.specs.Fitting.{AreMessages}
use Rattle.dealer_node.specs.Working.{head_of, disk_under, ComesTo, IsDone, IsUp, Took, Failed, Clashed}
use Rattle.dealer_node.specs.declared.node.Node.TheInside.{Inside}
use Rattle.dealer_node.specs.Nodes.{Node}
use Rattle.dealer_node.specs.NodeInside.{node_of, IsKept}
use Rattle.dealer_node.specs.Running.{IsAt}
use Rattle.dealer_node.specs.Scenes.{IsTableOf}
use Rattle.dealer_node.specs.Seeing.{is_up, runs, disk_by, disk_in, downed, IsSeenBy, IsSeen, begun_by, begun_of, seen_by, picked_by, count_by, failures_of}
use Rattle.dealer_node.specs.Taking.{refusal_fault, MayBegin, MayFail, Takes, StopsBy}
use Rattle.dealer_node.proofs.Worked.{nothing_more}

pub read_back : (frames : List Frame) → AreMessages frames → (one : Frame) → In one frames → reading (frame one.message) ≡ Ok one.message
read_back frames are one at = frame_again one.message (are one at)

-- ---- turns of a node that runs, and of one that is down

pub turn_up : (place : Place) (s : Standing) (called : Call) (outcome : Result Turn Refusal) → s.up ≡ true → IsTurnUp place s called outcome → IsTurn place s called outcome
turn_up place s called outcome up rule = let P : Bool → Type 0 = λ b. IsTurnBy b place s called outcome in subst P (sym up) rule

pub turn_down : (place : Place) (s : Standing) (called : Call) (outcome : Result Turn Refusal) → s.up ≡ false → IsTurnDown place s called outcome → IsTurn place s called outcome
turn_down place s called outcome up rule = let P : Bool → Type 0 = λ b. IsTurnBy b place s called outcome in subst P (sym up) rule

pub may_up : (place : Place) (s : Standing) (called : Call) (next : Store) → s.up ≡ true
    → (next ≡ s.store) ⊎ ((outcome : Result Turn Refusal) × IsTurn place s called outcome × (next ≡ (standing_after place s outcome).begun)) → MayBegin s.up place s called next
may_up place s called next up may = let P : Bool → Type 0 = λ b. MayBegin b place s called next in subst P (sym up) may

pub may_down : (place : Place) (s : Standing) (called : Call) → s.up ≡ false → MayBegin s.up place s called s.begun
may_down place s called up = let P : Bool → Type 0 = λ b. MayBegin b place s called s.begun in subst P (sym up) refl

-- what the outcome leaves is what the standing after it begins with
pub left_after : (place : Place) (s : Standing) (outcome : Result Turn Refusal) (left : Store) → ComesTo outcome left → left ≡ (standing_after place s outcome).begun
left_after place s outcome left (inl (turn, rule, e)) = e ∙ sym (ap (λ (o : Result Turn Refusal). (standing_after place s o).begun) rule)
left_after place s outcome left (inr rule) = sym (ap (λ (o : Result Turn Refusal). (standing_after place s o).begun) rule)

kept_by : {D : Type 0} (member : Membership) (up : Option (Up D)) (one : Up D) → up ≡ Some one → IfSome up (λ u. IsAt member u.running) → IsAt member one.running
kept_by {D} member up one is at = let P : Option (Up D) → Type 0 = λ u. IfSome u (λ v. IsAt member v.running) in subst P is at

-- what runs, runs at the node's member
pub kept_some : {D : Type 0} (i : Inside D) (up : Up D) → i.up ≡ Some up → IsKept i → IsAt i.member up.running
kept_some i up is kept = kept_by i.member i.up up is kept.at

left_from : (place : Place) (s : Standing) (outcome : Result Turn Refusal) (left : Store) → (left ≡ s.store) ⊎ ComesTo outcome left → (left ≡ s.store) ⊎ (left ≡ (standing_after place s outcome).begun)
left_from place s outcome left (inl e) = inl e
left_from place s outcome left (inr comes) = inr (left_after place s outcome left comes)

left_may : (place : Place) (s : Standing) (called : Call) (outcome : Result Turn Refusal) (left : Store) → IsTurn place s called outcome → (left ≡ s.store) ⊎ (left ≡ (standing_after place s outcome).begun)
    → (left ≡ s.store) ⊎ ((other : Result Turn Refusal) × IsTurn place s called other × (left ≡ (standing_after place s other).begun))
left_may place s called outcome left turns (inl e) = inl e
left_may place s called outcome left turns (inr e) = inr (outcome, turns, e)

module _ {D : Type 0} (g : Ghosts D) where
  abbrev pub noted : Membership → Match → Option D → Option (Up D) → Node D
  noted member blank disk up = record { member = member; blank = blank; disk = disk; up = up }

  -- ---- a node that runs on

  pub up_took : (member : Membership) (blank : Match) (disk other : Option D) (old new : Up D) (s : Standing) (called : Call) (outcome : Result Turn Refusal) (earlier later : Told)
      → IsSeen g (noted member blank disk (Some old)) s → IsTurnUp (place_at member) s called outcome → Took g member s outcome old new earlier later
      → Takes g called s (noted member blank disk (Some old)) (noted member blank other (Some new)) earlier later (Ok tt)
  up_took member blank disk other old new s called outcome earlier later seen rule t =
      let P : Result Turn Refusal → Type 0 = λ o. IsTurnUp (place_at member) s called o in
      let turns = turn_up (place_at member) s called (Ok t.turn) seen.by.running.up (subst P t.rule rule) in
      let L : Store → Type 0 = λ next. LeavesDuring g (head_of member) s.store next (disk_under old) (disk_under new) in
      record {
        after = t.turn.after;
        frames = t.turn.frames;
        shown = t.turn.shown;
        faults = t.turn.faults;
        now = record { by = t.now; blank = seen.blank };
        ends = took t.turn turns refl refl refl;
        fails = tt;
        answered = (refl, refl);
        told = t.told;
        fits = read_back t.turn.frames t.fits;
        next = t.turn.after.begun;
        may_begin = may_up (place_at member) s called t.turn.after.begun seen.by.running.up (inr (Ok t.turn, turns, refl));
        moments = subst L (sym t.now.unbegun) t.moments;
      }

  pub up_unchanged : (member : Membership) (blank : Match) (disk other : Option D) (old new : Up D) (s : Standing) (called : Call) (told : Told)
      → IsSeen g (noted member blank disk (Some old)) s → IsUp g member new s → disk_under new ≡ disk_under old
      → Takes g called s (noted member blank disk (Some old)) (noted member blank other (Some new)) told told (Err fault.OutOfMemory)
  up_unchanged member blank disk other old new s called told seen now same =
      let L : D → Type 0 = λ d. LeavesDuring g (head_of member) s.store s.store (disk_under old) d in
      record {
        after = s;
        frames = [];
        shown = [];
        faults = [];
        now = record { by = now; blank = seen.blank };
        ends = unchanged refl refl refl;
        fails = tt;
        answered = (refl, inl refl);
        told = nothing_more told s;
        fits = λ one at. absurd at;
        next = s.store;
        may_begin = may_up (place_at member) s called s.store seen.by.running.up (inl refl);
        moments = subst L (sym same) (λ t image was. inl was);
      }

  pub up_refused : (member : Membership) (blank : Match) (disk other : Option D) (old new : Up D) (s : Standing) (called : Call) (told : Told) (refusal : Refusal) (why : NodeFault)
      → (standing_after (place_at member) s (Err refusal) ≡ s) → (why ≡ refusal_fault refusal)
      → IsSeen g (noted member blank disk (Some old)) s → IsTurnUp (place_at member) s called (Err refusal) → IsUp g member new s → disk_under new ≡ disk_under old
      → Takes g called s (noted member blank disk (Some old)) (noted member blank other (Some new)) told told (Err why)
  up_refused member blank disk other old new s called told refusal why stays is seen rule now same =
      let turns = turn_up (place_at member) s called (Err refusal) seen.by.running.up rule in
      let L : D → Type 0 = λ d. LeavesDuring g (head_of member) s.store s.store (disk_under old) d in
      record {
        after = s;
        frames = [];
        shown = [];
        faults = [];
        now = record { by = now; blank = seen.blank };
        ends = refused refusal turns (sym stays) refl refl;
        fails = tt;
        answered = (refl, ap Err is);
        told = nothing_more told s;
        fits = λ one at. absurd at;
        next = s.store;
        may_begin = may_up (place_at member) s called s.store seen.by.running.up (inl refl);
        moments = subst L (sym same) (λ t image was. inl was);
      }

  -- ---- a node that goes down

  pub up_failed : (member : Membership) (blank : Match) (disk : Option D) (old new : Up D) (s : Standing) (called : Call) (outcome : Result Turn Refusal) (told : Told)
      → (IsDone outcome → MayFail called outcome)
      → IsSeen g (noted member blank disk (Some old)) s → IsTurnUp (place_at member) s called outcome → Failed g member s outcome old new
      → Takes g called s (noted member blank disk (Some old)) (noted member blank (Some (disk_under new)) None) told told (Err (fault.Store Disk))
  up_failed member blank disk old new s called outcome told may seen rule f =
      let turns = turn_up (place_at member) s called outcome seen.by.running.up rule in
      let left = left_from (place_at member) s outcome f.left f.comes in
      record {
        after = stopped (place_at member) s.store f.left;
        frames = [];
        shown = [];
        faults = [];
        now = record { by = record { stopped = refl; leaves = f.leaves }; blank = seen.blank };
        ends = failed outcome f.left seen.by.running.up turns left refl refl refl;
        fails = may f.done;
        answered = (refl, refl);
        told = nothing_more told s;
        fits = λ one at. absurd at;
        next = f.left;
        may_begin = may_up (place_at member) s called f.left seen.by.running.up (left_may (place_at member) s called outcome f.left turns left);
        moments = f.moments;
      }

  pub up_clashed : (member : Membership) (blank : Match) (disk : Option D) (old new : Up D) (s : Standing) (called : Call) (outcome : Result Turn Refusal) (told : Told)
      → IsSeen g (noted member blank disk (Some old)) s → IsTurnUp (place_at member) s called outcome → Clashed g member s outcome old new
      → Takes g called s (noted member blank disk (Some old)) (noted member blank (Some (disk_under new)) None) told told (Err fault.Conflict)
  up_clashed member blank disk old new s called outcome told seen rule f =
      let P : Result Turn Refusal → Type 0 = λ o. IsTurnUp (place_at member) s called o in
      let turns = turn_up (place_at member) s called (Err (Conflict f.left)) seen.by.running.up (subst P f.rule rule) in
      record {
        after = stopped (place_at member) s.store f.left;
        frames = [];
        shown = [];
        faults = [];
        now = record { by = record { stopped = refl; leaves = f.leaves }; blank = seen.blank };
        ends = refused (Conflict f.left) turns refl refl refl;
        fails = tt;
        answered = (refl, refl);
        told = nothing_more told s;
        fits = λ one at. absurd at;
        next = f.left;
        may_begin = may_up (place_at member) s called f.left seen.by.running.up (inr (Err (Conflict f.left), turns, refl));
        moments = f.moments;
      }

  -- ---- a node that is down

  pub down_by : (member : Membership) (disk : Option D) (s : Standing) → IsSeenBy g member None disk s → s.up ≡ false
  down_by member (Some disk) s seen = ap (λ (x : Standing). x.up) seen.stopped
  down_by member None s seen = absurd seen

  pub down_refuses : (member : Membership) (blank : Match) (disk : Option D) (s : Standing) (called : Call) (told : Told)
      → IsSeen g (noted member blank disk None) s → IsTurnDown (place_at member) s called (Err Down)
      → Takes g called s (noted member blank disk None) (noted member blank disk None) told told (Err fault.Down)
  down_refuses member blank disk s called told seen rule =
      let down = down_by member disk s seen.by in
      record {
        after = s;
        frames = [];
        shown = [];
        faults = [];
        now = seen;
        ends = refused Down (turn_down (place_at member) s called (Err Down) down rule) refl refl refl;
        fails = tt;
        answered = (refl, refl);
        told = nothing_more told s;
        fits = λ one at. absurd at;
        next = s.begun;
        may_begin = may_down (place_at member) s called down;
        moments = λ t image was. inl was;
      }

  -- ---- from the fields of a node

  pub seen_at : (now : Node D) (i : Inside D) (up : Option (Up D)) (s : Standing) → node_of i ≡ now → i.up ≡ up → IsSeen g now s → IsSeen g (noted i.member i.blank i.disk up) s
  seen_at now i up s view is seen =
      let P : Option (Up D) → Type 0 = λ u. IsSeen g (noted i.member i.blank i.disk u) s in
      let Q : Node D → Type 0 = λ n. IsSeen g n s in
      subst P is (subst Q (sym view) seen)

  pub taken_at : (now : Node D) (i j : Inside D) (up : Option (Up D)) (new : Node D) (s : Standing) (called : Call) (earlier later : Told) (answer given : Result (Unit {0}) NodeFault)
      → node_of i ≡ now → i.up ≡ up → node_of j ≡ new → answer ≡ given
      → Takes g called s (noted i.member i.blank i.disk up) new earlier later given
      → Takes g called s now (node_of j) earlier later answer
  taken_at now i j up new s called earlier later answer given view is next says t =
      let A : Result (Unit {0}) NodeFault → Type 0 = λ a. Takes g called s (noted i.member i.blank i.disk up) new earlier later a in
      let N : Node D → Type 0 = λ n. Takes g called s (noted i.member i.blank i.disk up) n earlier later answer in
      let P : Option (Up D) → Type 0 = λ u. Takes g called s (noted i.member i.blank i.disk u) (node_of j) earlier later answer in
      let Q : Node D → Type 0 = λ n. Takes g called s n (node_of j) earlier later answer in
      subst Q view (subst P (sym is) (subst N (sym next) (subst A (sym says) t)))

  -- a node that is down refuses
  pub refuses_at : (now : Node D) (i j : Inside D) (s : Standing) (called : Call) (told : Told) (answer : Result (Unit {0}) NodeFault)
      → node_of i ≡ now → i.up ≡ None → j ≡ i → answer ≡ Err fault.Down → ((place : Place) → IsTurnDown place s called (Err Down)) → IsSeen g now s
      → Takes g called s now (node_of j) told told answer
  refuses_at now i j s called told answer view is same says rule seen =
      taken_at now i j None (noted i.member i.blank i.disk None) s called told told answer (Err fault.Down) view is (ap node_of same ∙ ap (λ (u : Option (Up D)). noted i.member i.blank i.disk u) is) says
      (down_refuses i.member i.blank i.disk s called told (seen_at now i None s view is seen) (rule (place_at i.member)))

  -- ---- a stop

  pub up_stopped : (member : Membership) (blank : Match) (disk : Option D) (up : Up D) (left : D) (s : Standing) (told : Told)
      → IsSeen g (noted member blank disk (Some up)) s → Leaves g (head_of member) s.store s.store (disk_under up)
      → Within (g.images (disk_under up)) (g.images left) → Elapses (g.moment (disk_under up)) (g.moment left) (g.since (disk_under up)) (g.since left) (g.images left)
      → Takes g Stop s (noted member blank disk (Some up)) (noted member blank (Some left) None) told told (Ok tt)
  up_stopped member blank disk up left s told seen leaves fewer time =
      let turns = turn_up (place_at member) s Stop (Ok (stopping (place_at member) s)) seen.by.running.up refl in
      record {
        after = stopped (place_at member) s.store s.store;
        frames = [];
        shown = [];
        faults = [];
        now = record { by = record { stopped = refl; leaves = λ image at. leaves image (fewer image at) }; blank = seen.blank };
        ends = took (stopping (place_at member) s) turns refl refl refl;
        fails = tt;
        answered = (refl, refl);
        told = nothing_more told s;
        fits = λ one at. absurd at;
        next = s.store;
        may_begin = may_up (place_at member) s Stop s.store seen.by.running.up (inl refl);
        moments = λ t image at. elim (time.nothing_else t image at) [ inl was ↦ inl was | inr now ↦ inr (leaves image (fewer image now)) ];
      }

  pub down_stopped : (member : Membership) (blank : Match) (disk left : D) (s : Standing) (told : Told)
      → IsSeen g (noted member blank (Some disk) None) s
      → Within (g.images disk) (g.images left) → Elapses (g.moment disk) (g.moment left) (g.since disk) (g.since left) (g.images left)
      → Takes g Stop s (noted member blank (Some disk) None) (noted member blank (Some left) None) told told (Ok tt)
  down_stopped member blank disk left s told seen fewer time =
      let down = down_by member (Some disk) s seen.by in
      record {
        after = s;
        frames = [];
        shown = [];
        faults = [];
        now = record { by = record { stopped = seen.by.stopped; leaves = λ image at. seen.by.leaves image (fewer image at) }; blank = seen.blank };
        ends = took (still s) (turn_down (place_at member) s Stop (Ok (still s)) down refl) refl refl refl;
        fails = tt;
        answered = (refl, refl);
        told = nothing_more told s;
        fits = λ one at. absurd at;
        next = s.begun;
        may_begin = may_down (place_at member) s Stop down;
        moments = λ t image at. elim (time.nothing_else t image at) [ inl was ↦ inl was | inr now ↦ inr (seen.by.leaves image (fewer image now)) ];
      }

  stop_by : (member : Membership) (blank : Match) (bare : Option D) (up : Option (Up D)) (disk left : D) (s : Standing) (told : Told)
      → ((one : Up D) → IsUp g member one s → Leaves g (head_of member) s.store s.store (disk_under one))
      → Within (g.images disk) (g.images left) → Elapses (g.moment disk) (g.moment left) (g.since disk) (g.since left) (g.images left)
      → disk_by up bare ≡ Some disk → IsSeen g (noted member blank bare up) s
      → Takes g Stop s (noted member blank bare up) (noted member blank (Some left) None) told told (Ok tt)
  stop_by member blank bare (Some up) disk left s told leaves fewer time found seen =
      let same = same_Some (disk_under up) disk found in
      let F : D → Type 0 = λ d. Within (g.images d) (g.images left) in
      let T : D → Type 0 = λ d. Elapses (g.moment d) (g.moment left) (g.since d) (g.since left) (g.images left) in
      up_stopped member blank bare up left s told seen (leaves up seen.by) (subst F (sym same) fewer) (subst T (sym same) time)
  stop_by member blank None None disk left s told leaves fewer time found seen = absurd seen.by
  stop_by member blank (Some bare) None disk left s told leaves fewer time found seen =
      let same = same_Some bare disk found in
      let F : D → Type 0 = λ d. Within (g.images d) (g.images left) in
      let T : D → Type 0 = λ d. Elapses (g.moment d) (g.moment left) (g.since d) (g.since left) (g.images left) in
      down_stopped member blank bare left s told seen (subst F (sym same) fewer) (subst T (sym same) time)

  pub stopped_at : (old : Node D) (i j : Inside D) (disk left : D) (s : Standing) (told : Told)
      → node_of i ≡ downed old → i.disk ≡ Some disk → node_of j ≡ noted i.member i.blank (Some left) None
      → ((up : Up D) → IsUp g old.member up s → Leaves g (head_of old.member) s.store s.store (disk_under up))
      → Within (g.images disk) (g.images left) → Elapses (g.moment disk) (g.moment left) (g.since disk) (g.since left) (g.images left)
      → IsSeen g old s → Takes g Stop s old (node_of j) told told (Ok tt)
  stopped_at old i j disk left s told view has next leaves fewer time seen =
      let N : Node D → Type 0 = λ n. Takes g Stop s old n told told (Ok tt) in
      let same : noted i.member i.blank (Some left) None ≡ noted old.member old.blank (Some left) None = ap (λ (n : Node D). noted n.member n.blank (Some left) None) view in
      let found : disk_by old.up old.disk ≡ Some disk = sym (ap (λ (n : Node D). n.disk) view) ∙ has in
      subst N (sym (next ∙ same)) (stop_by old.member old.blank old.disk old.up disk left s told leaves fewer time found seen)

  -- and its disk has what was picked of it
  pub picked_at : (old : Node D) (i j : Inside D) (disk left : D) (pick : ℕ)
      → node_of i ≡ downed old → i.disk ≡ Some disk → node_of j ≡ noted i.member i.blank (Some left) None
      → Picks (g.picked disk pick) (g.seen disk) (g.seen left) (g.count disk) (g.count left) → StopsBy g pick old (node_of j)
  picked_at old i j disk left pick view has next picks =
      let found : disk_in old ≡ Some disk = sym (ap (λ (n : Node D). n.disk) view) ∙ has in
      let O : Option D → Type 0 = λ d. Picks (picked_by g d pick) (seen_by g d) (g.seen left) (count_by g d) (g.count left) in
      let N : Node D → Type 0 = λ n. StopsBy g pick old n in
      subst N (sym next) (subst O (sym found) picks)

  pub no_disk : (i : Inside D) → IsKept i → i.up ≡ None → i.disk ≡ None → ⊥
  no_disk i kept up none =
      let P : Option (Up D) → Type 0 = λ u. IsSome (disk_by u i.disk) in
      let Q : Option D → Type 0 = λ d. IsSome d in
      let found = subst Q none (subst P up kept.has_disk) in cc

  -- ---- a new store

  pub up_none : (up : Option (Up D)) → is_up up ≡ false → up ≡ None
  up_none None down = refl
  up_none (Some up) down = cc

  pub created_at : (now : Node D) (i : Inside D) (disk : D) → node_of i ≡ now → runs now ≡ false → IsTableOf i.member.setting [] i.blank → Leaves g (head_of i.member) empty_store empty_store disk
      → IsSeen g (noted i.member i.blank (Some disk) i.up) (stopped (place_at now.member) empty_store empty_store)
  created_at now i disk view down blank leaves =
      let none = up_none i.up (ap (λ (n : Node D). is_up n.up) view ∙ down) in
      let P : Option (Up D) → Type 0 = λ up. IsSeen g (noted i.member i.blank (Some disk) up) (stopped (place_at now.member) empty_store empty_store) in
      subst P (sym none) (record { by = record { stopped = ap (λ (n : Node D). stopped (place_at n.member) empty_store empty_store) (sym view); leaves = leaves }; blank = blank })

  pub begun_at : (now : Node D) (i : Inside D) (old new : D) → node_of i ≡ now → runs now ≡ false → i.disk ≡ Some old → g.begun new ≡ g.begun old
      → begun_of g (noted i.member i.blank (Some new) i.up) ≡ begun_of g now
  begun_at now i old new view down has same =
      let none = up_none i.up (ap (λ (n : Node D). is_up n.up) view ∙ down) in
      ap (λ (u : Option (Up D)). begun_of g (noted i.member i.blank (Some new) u)) none ∙ same
      ∙ sym (ap (λ (d : Option D). begun_by g d) has) ∙ sym (ap (λ (u : Option (Up D)). begun_of g (noted i.member i.blank i.disk u)) none) ∙ ap (begun_of g) view

  pub rose_at : (now : Node D) (i : Inside D) (old new : D) → node_of i ≡ now → runs now ≡ false → i.disk ≡ Some old → Rose (g.count old) (g.count new)
      → Rose (failures_of g now) (failures_of g (noted i.member i.blank (Some new) i.up))
  rose_at now i old new view down has rose =
      let none = up_none i.up (ap (λ (n : Node D). is_up n.up) view ∙ down) in
      let after = ap (λ (u : Option (Up D)). failures_of g (noted i.member i.blank (Some new) u)) none in
      let before = sym (ap (failures_of g) view) ∙ ap (λ (u : Option (Up D)). failures_of g (noted i.member i.blank i.disk u)) none ∙ ap (λ (d : Option D). count_by g d) has in
      let P : ℕ → Type 0 = λ n. Rose n (failures_of g (noted i.member i.blank (Some new) i.up)) in
      let Q : ℕ → Type 0 = λ n. Rose (g.count old) n in
      subst P (sym before) (subst Q (sym after) rose)
