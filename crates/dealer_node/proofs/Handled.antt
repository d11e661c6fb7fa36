-- From what a whole call makes of what runs to what it makes of the node.
use Rattle.std.proofs.Common.{◌≡◌, inl, inr, true, false, Result, Ok, Err, refl, sym, ap, subst}
use Rattle.std.specs.Prelude.{Option, Some, IsErr, OnOk}
use Rattle.promise_store.specs.declared.disk.Disk.{Ghosts}
use Rattle.promise_store.specs.declared.fault.StoreFault.TheVariants.{Disk}
use Rattle.slot_log.specs.Hand.{Match}
use Rattle.node_rules.specs.Standings.{Standing}
use Rattle.node_rules.specs.Turns.{Turn, Refusal, Spent, BadFrame, NothingToAct}
use Rattle.node_rules.specs.Calls.{Call}
use Rattle.node_rules.specs.Rules.{IsTurnUp}
use Rattle.dealer_node.specs.declared.up.Up.{Up}
use Rattle.dealer_node.specs.declared.node.Node.TheInside.{Inside}
use Rattle.dealer_node.specs.declared.fault.NodeFault.{NodeFault}
use Rattle.dealer_node.specs.declared.fault.NodeFault.TheVariants as fault
use Rattle.dealer_node.specs.Outs.{Told}
use Rattle.dealer_node.specs.Members.{Membership, place_at}
use Rattle.dealer_node.specs.Working.{disk_under, IsDone}
use Rattle.dealer_node.specs.Handling.{Stays, Handles, HasNoEffect}
use Rattle.dealer_node.specs.Calling.{HandlesCall}
use Rattle.dealer_node.specs.Nodes.{Node}
use Rattle.dealer_node.specs.NodeInside.{node_of}
use Rattle.dealer_node.specs.Seeing.{member_in, runs, disk_in, settled, IsSeen, begun_of, failures_of}
use Rattle.dealer_node.specs.Taking.{MayFail, TakesDown, LeavesDisk, Takes}
use Rattle.dealer_node.proofs.Settled.{noted, turn_up, up_took, up_unchanged, up_refused, up_failed, up_clashed}

same_member : {D : Type 0} (answer : Result (Unit {0}) NodeFault) (node : Node D) → member_in (settled answer node) ≡ member_in node
same_member (Ok done) node = refl
same_member (Err (fault.Store why)) node = refl
same_member (Err fault.Conflict) node = refl
same_member (Err why) node = refl

module _ {D : Type 0} (g : Ghosts D) where
  same_begun : (answer : Result (Unit {0}) NodeFault) (node : Node D) → begun_of g (settled answer node) ≡ begun_of g node
  same_begun (Ok done) node = refl
  same_begun (Err (fault.Store why)) node = refl
  same_begun (Err fault.Conflict) node = refl
  same_begun (Err why) node = refl

  same_failures : (answer : Result (Unit {0}) NodeFault) (node : Node D) → failures_of g (settled answer node) ≡ failures_of g node
  same_failures (Ok done) node = refl
  same_failures (Err (fault.Store why)) node = refl
  same_failures (Err fault.Conflict) node = refl
  same_failures (Err why) node = refl

  -- where nothing was done it runs on
  runs_on : (answer : Result (Unit {0}) NodeFault) (member : Membership) (blank : Match) (disk : Option D) (up : Up D) → HasNoEffect answer → runs (settled answer (noted g member blank disk (Some up))) ≡ true
  runs_on (Ok done) member blank disk up none = absurd none
  runs_on (Err (fault.Store why)) member blank disk up none = absurd none
  runs_on (Err fault.Conflict) member blank disk up none = absurd none
  runs_on (Err why) member blank disk up none = refl

  goes_down : (answer : Result (Unit {0}) NodeFault) (node : Node D) → TakesDown answer → runs (settled answer node) ≡ false
  goes_down (Err (fault.Store why)) node falls = refl
  goes_down (Err fault.Conflict) node falls = refl
  goes_down (Err why) node falls = absurd falls
  goes_down (Ok done) node falls = absurd falls

  -- its disk is what its store had, whether it runs on or not
  disk_after : (answer : Result (Unit {0}) NodeFault) (member : Membership) (blank : Match) (disk : Option D) (up : Up D) → disk_in (settled answer (noted g member blank disk (Some up))) ≡ Some (disk_under up)
  disk_after (Ok done) member blank disk up = refl
  disk_after (Err (fault.Store why)) member blank disk up = refl
  disk_after (Err fault.Conflict) member blank disk up = refl
  disk_after (Err why) member blank disk up = refl

  -- what it made stays as it was by a fault
  same_told : (member : Membership) (blank : Match) (disk : Option D) (old : Up D) (node : Node D) (s : Standing) (called : Call) (earlier later : Told) (answer : Result (Unit {0}) NodeFault) → later ≡ earlier
      → Takes g called s (noted g member blank disk (Some old)) node earlier earlier answer → Takes g called s (noted g member blank disk (Some old)) node earlier later answer
  same_told member blank disk old node s called earlier later answer same t = subst (λ (l : Told). Takes g called s (noted g member blank disk (Some old)) node earlier l answer) (sym same) t

  handled_by : (member : Membership) (blank : Match) (disk : Option D) (old new : Up D) (s : Standing) (called : Call) (outcome : Result Turn Refusal) (earlier later : Told) (answer : Result (Unit {0}) NodeFault)
      → IsSeen g (noted g member blank disk (Some old)) s → (IsErr answer → later ≡ earlier) → ((o : Result Turn Refusal) → IsDone o → MayFail called o) → IsTurnUp (place_at member) s called outcome → Handles g member s outcome old new earlier later answer
      → Takes g called s (noted g member blank disk (Some old)) (settled answer (noted g member blank disk (Some new))) earlier later answer
  handled_by member blank disk old new s called outcome earlier later (Ok done) seen unmade may rule h = up_took g member blank disk disk old new s called outcome earlier later seen rule h
  handled_by member blank disk old new s called outcome earlier later (Err (fault.Store Disk)) seen unmade may rule h =
      same_told member blank disk old _ s called earlier later (Err (fault.Store Disk)) (unmade refl) (up_failed g member blank disk old new s called outcome earlier (may outcome) seen rule h)
  handled_by member blank disk old new s called outcome earlier later (Err fault.Conflict) seen unmade may rule h =
      same_told member blank disk old _ s called earlier later (Err fault.Conflict) (unmade refl) (up_clashed g member blank disk old new s called outcome earlier seen rule h)
  handled_by member blank disk old new s called outcome earlier later (Err fault.OutOfMemory) seen unmade may rule h =
      same_told member blank disk old _ s called earlier later (Err fault.OutOfMemory) (unmade refl) (up_unchanged g member blank disk disk old new s called earlier seen h.now h.disk)
  handled_by member blank disk old new s called outcome earlier later (Err fault.Spent) seen unmade may rule h =
      same_told member blank disk old _ s called earlier later (Err fault.Spent) (unmade refl)
      (up_refused g member blank disk disk old new s called earlier Spent fault.Spent refl refl seen (subst (λ (o : Result Turn Refusal). IsTurnUp (place_at member) s called o) h.0 rule) h.1.now h.1.disk)
  handled_by member blank disk old new s called outcome earlier later (Err (fault.BadFrame why)) seen unmade may rule h =
      same_told member blank disk old _ s called earlier later (Err (fault.BadFrame why)) (unmade refl)
      (up_refused g member blank disk disk old new s called earlier (BadFrame why) (fault.BadFrame why) refl refl seen (subst (λ (o : Result Turn Refusal). IsTurnUp (place_at member) s called o) h.0 rule) h.1.now h.1.disk)
  handled_by member blank disk old new s called outcome earlier later (Err fault.NothingToAct) seen unmade may rule h =
      same_told member blank disk old _ s called earlier later (Err fault.NothingToAct) (unmade refl)
      (up_refused g member blank disk disk old new s called earlier NothingToAct fault.NothingToAct refl refl seen (subst (λ (o : Result Turn Refusal). IsTurnUp (place_at member) s called o) h.0 rule) h.1.now h.1.disk)
  handled_by member blank disk old new s called outcome earlier later (Err why) seen unmade may rule h = absurd h

  wanted : (member : Membership) (blank : Match) (disk : Option D) (old new : Up D) (s : Standing) (called : Call) (earlier later : Told) (answer : Result (Unit {0}) NodeFault)
      → IsSeen g (noted g member blank disk (Some old)) s → (IsErr answer → later ≡ earlier) → Stays g member s old new → answer ≡ Err fault.OutOfMemory
      → Takes g called s (noted g member blank disk (Some old)) (settled answer (noted g member blank disk (Some new))) earlier later answer
  wanted member blank disk old new s called earlier later answer seen unmade stays says =
      let same : later ≡ earlier = subst (λ (a : Result (Unit {0}) NodeFault). IsErr a → later ≡ earlier) says unmade refl in
      subst (λ (a : Result (Unit {0}) NodeFault). Takes g called s (noted g member blank disk (Some old)) (settled a (noted g member blank disk (Some new))) earlier later a) (sym says)
      (same_told member blank disk old _ s called earlier later (Err fault.OutOfMemory) same (up_unchanged g member blank disk disk old new s called earlier seen stays.now stays.disk))

  pub handled : (member : Membership) (blank : Match) (disk : Option D) (old new : Up D) (s : Standing) (called : Call) (earlier later : Told) (answer : Result (Unit {0}) NodeFault)
      → IsSeen g (noted g member blank disk (Some old)) s → (IsErr answer → later ≡ earlier) → ((o : Result Turn Refusal) → IsDone o → MayFail called o) → HandlesCall g member s called old new earlier later answer
      → Takes g called s (noted g member blank disk (Some old)) (settled answer (noted g member blank disk (Some new))) earlier later answer
  handled member blank disk old new s called earlier later answer seen unmade may (inl wants) = wanted member blank disk old new s called earlier later answer seen unmade wants.stays wants.memory
  handled member blank disk old new s called earlier later answer seen unmade may (inr (outcome, rule, h)) = handled_by member blank disk old new s called outcome earlier later answer seen unmade may rule h

  -- from the fields of a node
  pub settled_at : (now : Node D) (i : Inside D) (up : Up D) (new node : Node D) (s : Standing) (called : Call) (earlier later : Told) (answer given : Result (Unit {0}) NodeFault)
      → node_of i ≡ now → i.up ≡ Some up → new ≡ node → answer ≡ given
      → Takes g called s (noted g i.member i.blank i.disk (Some up)) node earlier later given
      → Takes g called s now new earlier later answer
  settled_at now i up new node s called earlier later answer given view is next says t =
      let A : Result (Unit {0}) NodeFault → Type 0 = λ a. Takes g called s (noted g i.member i.blank i.disk (Some up)) node earlier later a in
      let N : Node D → Type 0 = λ n. Takes g called s (noted g i.member i.blank i.disk (Some up)) n earlier later answer in
      let P : Option (Up D) → Type 0 = λ u. Takes g called s (noted g i.member i.blank i.disk u) new earlier later answer in
      let Q : Node D → Type 0 = λ n. Takes g called s n new earlier later answer in
      subst Q view (subst P (sym is) (subst N (sym next) (subst A (sym says) t)))

  pub handled_reads : (member : Membership) (blank : Match) (disk : Option D) (old new : Up D) (s : Standing) (called : Call) (earlier later : Told) (answer : Result (Unit {0}) NodeFault)
      → IsSeen g (noted g member blank disk (Some old)) s → HandlesCall g member s called old new earlier later answer
      → OnOk answer (LeavesDisk called s (noted g member blank disk (Some old)) (settled answer (noted g member blank disk (Some new))))
  handled_reads member blank disk old new s called earlier later (Err why) seen handles = tt
  handled_reads member blank disk old new s called earlier later (Ok done) seen (inl wants) = let never : Ok done ≡ Err fault.OutOfMemory = wants.memory in absurd (cc)
  handled_reads member blank disk old new s called earlier later (Ok done) seen (inr (outcome, rule, h)) =
      let P : Result Turn Refusal → Type 0 = λ o. IsTurnUp (place_at member) s called o in
      record {
        turn = h.turn;
        rule = turn_up (place_at member) s called (Ok h.turn) seen.by.running.up (subst P h.rule rule);
        untouched = λ still. ap (λ (d : D). Some d) (h.untouched still);
      }

  pub reads_at : (now : Node D) (i : Inside D) (up : Up D) (new node : Node D) (s : Standing) (called : Call) (answer given : Result (Unit {0}) NodeFault)
      → node_of i ≡ now → i.up ≡ Some up → new ≡ node → answer ≡ given
      → OnOk given (LeavesDisk called s (noted g i.member i.blank i.disk (Some up)) node)
      → OnOk answer (LeavesDisk called s now new)
  reads_at now i up new node s called answer given view is next says t =
      let A : Result (Unit {0}) NodeFault → Type 0 = λ a. OnOk a (LeavesDisk called s (noted g i.member i.blank i.disk (Some up)) node) in
      let N : Node D → Type 0 = λ n. OnOk answer (LeavesDisk called s (noted g i.member i.blank i.disk (Some up)) n) in
      let P : Option (Up D) → Type 0 = λ u. OnOk answer (LeavesDisk called s (noted g i.member i.blank i.disk u) new) in
      let Q : Node D → Type 0 = λ n. OnOk answer (LeavesDisk called s n new) in
      subst Q view (subst P (sym is) (subst N (sym next) (subst A (sym says) t)))
