-- A piece of a seat's bytes at a node that runs.
use Rattle.std.proofs.Common.{◌≡◌, ℕ, inl, List, Result, Ok, Err, refl, sym, ap, subst, ◌∙◌, arith}
use Rattle.std.specs.Prelude.{◌-◌, ◌^◌, ◌==◌, ◌||◌, nat_le, IsErrAnd}
use Rattle.paxos_wire.specs.declared.limits.TheConstants.{SLOTS}
use Rattle.paxos_wire.specs.declared.ballot.Ballot.{Ballot}
use Rattle.slot_log.specs.Slots.{front}
use Rattle.learner.specs.Learning.{Learned}
use Rattle.node_rules.specs.Proposing.{higher}
use Rattle.promise_store.specs.declared.disk.Disk.{Ghosts}
use Rattle.promise_store.specs.declared.fault.StoreFault.TheVariants.{Disk}
use Rattle.promise_store.specs.Disks.{Rose}
use Rattle.promise_store.specs.Keeping.{LeavesDuring}
use Rattle.node_rules.specs.Standings.{Standing}
use Rattle.node_rules.specs.Turns.{Turn, Refusal}
use Rattle.node_rules.specs.Proposing.{closing}
use Rattle.dealer_node.specs.declared.up.Up.{Up}
use Rattle.dealer_node.specs.declared.running.Running.{Running}
use Rattle.dealer_node.specs.declared.fault.NodeFault.{NodeFault}
use Rattle.dealer_node.specs.declared.fault.NodeFault.TheVariants as fault
use Rattle.dealer_node.specs.Outs.{Told, nothing_told, both_told}
use Rattle.dealer_node.specs.Members.{Membership, place_at}
use Rattle.dealer_node.specs.Turned.{told_of}
use Rattle.dealer_node.specs.Running.{TakesPiece, is_spent_at}
use Rattle.dealer_node.specs.Working.{disk_under, head_of, StandsByIts, IsUp, Works, GoesOn}
use Rattle.dealer_node.specs.Handling.{Handles}
use Rattle.dealer_node.specs.Lines.{HearsLine, WorksLine}
use Rattle.dealer_node.proofs.Worked.{memory_took, then_works}
use Rattle.node_rules.proofs.Results.{ok_is}

pub err_is : (r : Result (Unit {0}) NodeFault) (why : NodeFault) → IsErrAnd r (λ (f : NodeFault). f ≡ why) → r ≡ Err why
err_is (Ok done) why e = absurd e
err_is (Err f) why e = ap Err e

pub err_of : (a b : NodeFault) → (let r : Result (Unit {0}) NodeFault = Err a in r) ≡ Err b → a ≡ b
err_of a b e = cc

pub spent_over : (old new : Running) (promised : Ballot) → new.seen ≡ old.seen → new.learner.learned ≡ old.learner.learned → is_spent_at new promised ≡ is_spent_at old promised
spent_over old new promised seen learned =
    ap (λ (b : Ballot). (higher b promised).round == 2 ^ 32 - 1 || nat_le SLOTS (front new.learner.learned.log)) seen
    ∙ ap (λ (l : Learned). (higher old.seen promised).round == 2 ^ 32 - 1 || nat_le SLOTS (front l.log)) learned

module _ {D : Type 0} (g : Ghosts D) where
  pub line_heard : (member : Membership) (s : Standing) (seat : ℕ) (piece : List ℕ) (up : Up D) (running : Running) (earlier later : Told)
      → IsUp g member up s → TakesPiece member running earlier later seat piece s → HearsLine g member s seat piece up (record up { running = running }) earlier later
  line_heard member s seat piece up running earlier later is takes = record {
    heard = takes.turn;
    rule = takes.rule;
    took = memory_took g member s (Ok takes.turn) takes.turn up running earlier later is refl takes.taken.runs
        (ap (λ (t : Standing). t.store) takes.rest) (ap (λ (t : Standing). t.begun) takes.rest)
        (subst (λ (t : Standing). StandsByIts t) (sym takes.rest) is.stands) takes.taken.told takes.taken.fits;
    store = ap (λ (t : Standing). t.store) takes.rest;
  }

  pub line_works : (member : Membership) (s : Standing) (seat : ℕ) (piece : List ℕ) (a b c : Up D) (earlier middle later : Told) (answer : Result (Unit {0}) NodeFault)
      → (heard : HearsLine g member s seat piece a b earlier middle)
      → Works g member heard.took.turn.after (closing (place_at member) heard.took.turn.after) b c middle later answer
      → WorksLine g member s seat piece a c earlier later answer
  line_works member s seat piece a b c earlier middle later answer heard works = record {
    heard = heard.heard;
    rule = heard.rule;
    works = then_works g member s (closing (place_at member)) (Ok heard.heard) a b c earlier middle later answer heard.took
        (inl (ap (λ (t : Turn). t.after.store) (sym (ok_is heard.heard heard.took.turn heard.took.rule)) ∙ heard.store)) works;
  }

  -- ---- the whole call, from the room that was made on

  -- of the room alone nothing is seen
  pub works_over : (member : Membership) (s : Standing) (outcome : Result Turn Refusal) (before between after : Up D) (made later out behind : Told) (answer : Result (Unit {0}) NodeFault)
      → disk_under between ≡ disk_under before → made ≡ nothing_told → (answer ≡ Ok tt → behind ≡ both_told out later)
      → Works g member s outcome between after made later answer → Handles g member s outcome before after out behind answer
  works_over member s outcome before between after made later out behind (Ok done) same nothing appends w =
      let L : D → Type 0 = λ d. LeavesDuring g (head_of member) s.store w.turn.after.store d (disk_under after) in
      record {
        turn = w.turn;
        rule = w.rule;
        now = w.now;
        told = appends refl ∙ ap (both_told out) (w.told ∙ ap (λ (t : Told). both_told t (told_of w.turn)) nothing);
        fits = w.fits;
        moments = subst L same w.moments;
        untouched = λ still. w.untouched still ∙ same;
      }
  works_over member s outcome before between after made later out behind (Err (fault.Store Disk)) same nothing appends w =
      let L : D → Type 0 = λ d. LeavesDuring g (head_of member) s.store w.left d (disk_under after) in
      record { left = w.left; comes = w.comes; done = w.done; leaves = w.leaves; moments = subst L same w.moments }
  works_over member s outcome before between after made later out behind (Err fault.Conflict) same nothing appends w =
      let L : D → Type 0 = λ d. LeavesDuring g (head_of member) s.store w.left d (disk_under after) in
      record { left = w.left; rule = w.rule; leaves = w.leaves; moments = subst L same w.moments }
  works_over member s outcome before between after made later out behind (Err other) same nothing appends w = absurd w

  pub goes_over : (before between after : Up D) (answer : Result (Unit {0}) NodeFault) → disk_under between ≡ disk_under before → GoesOn g between after answer → GoesOn g before after answer
  goes_over before between after answer same on = record {
    begun = on.begun ∙ ap (λ (d : D). g.begun d) same;
    counts = let h : g.count (disk_under between) ≡ g.count (disk_under before) = ap (λ (d : D). g.count d) same in omega (arith, on.counts, h);
    rose = λ e. subst (λ (n : ℕ). Rose n (g.count (disk_under after))) (ap (λ (d : D). g.count d) same) (on.rose e);
  }
