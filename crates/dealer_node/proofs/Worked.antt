-- What a part of a call makes of what runs.
use Rattle.std.proofs.Common.{◌≡◌, ℕ, inl, inr, List, Result, Ok, Err, refl, sym, ap, subst, ◌∙◌}
use Rattle.std.proofs.lemmas.List.{append-nil}
use Rattle.std.specs.Prelude.{◌⊎◌}
use Rattle.promise_store.specs.declared.disk.Disk.{Ghosts}
use Rattle.promise_store.specs.declared.fault.StoreFault.TheVariants.{Disk}
use Rattle.promise_store.specs.Disks.{During}
use Rattle.promise_store.specs.Holding.{StandsFor}
use Rattle.promise_store.specs.Keeping.{Keeps, Leaves, LeavesDuring}
use Rattle.promise_store.proofs.Appends.{goes_on}
use Rattle.acceptor.specs.Stored.{store_of}
use Rattle.protocol_model.proofs.Sets.{in_first, in_later}
use Rattle.protocol_model.specs.Stores.{Store}
use Rattle.node_rules.specs.Standings.{Standing}
use Rattle.node_rules.specs.Turns.{Turn, Refusal, Conflict, still, joined, behind, and_then}
use Rattle.dealer_node.specs.declared.up.Up.{Up}
use Rattle.dealer_node.specs.declared.running.Running.{Running}
use Rattle.dealer_node.specs.declared.fault.NodeFault.{NodeFault}
use Rattle.dealer_node.specs.declared.fault.NodeFault.TheVariants as fault
use Rattle.dealer_node.specs.Outs.{Told, both_told}
use Rattle.dealer_node.specs.Members.{Membership}
use Rattle.dealer_node.specs.Turned.{told_of}
use Rattle.dealer_node.specs.Fitting.{AreMessages}
use Rattle.dealer_node.specs.Running.{IsRunning}
use Rattle.dealer_node.specs.Working.{head_of, disk_under, StandsByIts, ComesTo, IsDone, IsUp, Took, Failed, Clashed, Works}
use Rattle.dealer_node.proofs.Messages.{both_messages}
use Rattle.dealer_node.proofs.Telling.{told_more, same_told}

pub nothing_more : (told : Told) (s : Standing) → told ≡ both_told told (told_of (still s))
nothing_more told s = same_told _ _ _ _ _ _ (sym (append-nil told.frames)) (sym (append-nil told.shown)) (sym (append-nil told.faults))

-- ---- moments

-- the second part goes on from a store that is the first one's, or leaves the store as it is
pub left_during : (head : List ℕ) (past between since : ℕ → List ℕ → Type 0) (old middle new : Store) → (middle ≡ old) ⊎ (new ≡ middle)
    → During past between (λ image. StandsFor head image old ⊎ StandsFor head image middle)
    → During between since (λ image. StandsFor head image middle ⊎ StandsFor head image new)
    → During past since (λ image. StandsFor head image old ⊎ StandsFor head image new)
left_during head past between since old middle new (inl e) first next =
    goes_on past between since _ _ _ first next
    (λ image at. elim at [ inl o ↦ inl o | inr m ↦ inl (subst (StandsFor head image) e m) ])
    (λ image at. elim at [ inl m ↦ inl (subst (StandsFor head image) e m) | inr n ↦ inr n ])
left_during head past between since old middle new (inr e) first next =
    goes_on past between since _ _ _ first next
    (λ image at. elim at [ inl o ↦ inl o | inr m ↦ inr (subst (StandsFor head image) (sym e) m) ])
    (λ image at. elim at [ inl m ↦ inr (subst (StandsFor head image) (sym e) m) | inr n ↦ inr n ])

pub left_by : (head : List ℕ) (images : List ℕ → Type 0) (old middle new : Store) → (middle ≡ old) ⊎ (new ≡ middle)
    → ((image : List ℕ) → images image → StandsFor head image middle ⊎ StandsFor head image new)
    → (image : List ℕ) → images image → StandsFor head image old ⊎ StandsFor head image new
left_by head images old middle new (inl e) leaves image at =
    elim (leaves image at) [ inl m ↦ inl (subst (StandsFor head image) e m) | inr n ↦ inr n ]
left_by head images old middle new (inr e) leaves image at =
    elim (leaves image at) [ inl m ↦ inr (subst (StandsFor head image) (sym e) m) | inr n ↦ inr n ]

-- ---- one part behind another

-- the store after the first part is the one before, or the second part leaves it as it is
abbrev pub OneAppends : Standing → Standing → Result Turn Refusal → Type 0
OneAppends s middle next = (middle.store ≡ s.store) ⊎ ((turn : Turn) × (next ≡ Ok turn) × (turn.after.store ≡ middle.store) × (turn.after.begun ≡ middle.store))

pub same_turn : (a b : Turn) (r : Result Turn Refusal) → r ≡ Ok a → r ≡ Ok b → a ≡ b
same_turn a b r d e = cc

appends_once : (s middle : Standing) (next : Result Turn Refusal) (turn : Turn) → OneAppends s middle next → next ≡ Ok turn → (middle.store ≡ s.store) ⊎ (turn.after.store ≡ middle.store)
appends_once s middle next turn (inl e) rule = inl e
appends_once s middle next turn (inr (other, is, store, begun)) rule =
    inr (ap (λ (t : Turn). t.after.store) (same_turn turn other _ rule is) ∙ store)

-- what the second part comes to leaves
leaves_once : (s middle : Standing) (next : Result Turn Refusal) (left : Store) → OneAppends s middle next → (left ≡ middle.store) ⊎ ComesTo next left → (middle.store ≡ s.store) ⊎ (left ≡ middle.store)
leaves_once s middle next left (inl e) comes = inl e
leaves_once s middle next left (inr (other, is, store, begun)) (inl e) = inr e
leaves_once s middle next left (inr (other, is, store, begun)) (inr (inl (turn, rule, e))) =
    inr (e ∙ ap (λ (t : Turn). t.after.begun) (same_turn turn other _ rule is) ∙ begun)
leaves_once s middle next left (inr (other, is, store, begun)) (inr (inr rule)) = let both : Err (Conflict left) ≡ Ok other = sym rule ∙ is in cc

behind_ok : (first turn : Turn) (next : Result Turn Refusal) → next ≡ Ok turn → behind first next ≡ Ok (joined first turn)
behind_ok first turn next e = ap (behind first) e

comes_behind : (first : Turn) (next : Result Turn Refusal) (left : Store) → ComesTo next left → ComesTo (behind first next) left
comes_behind first next left (inl (turn, rule, e)) = inl (joined first turn, ap (behind first) rule, e)
comes_behind first next left (inr rule) = inr (ap (behind first) rule)

pub done_behind : (first : Turn) (next : Result Turn Refusal) → IsDone next → IsDone (behind first next)
done_behind first (Ok turn) done = tt
done_behind first (Err (Conflict store)) done = tt
done_behind first (Err why) done = absurd done

-- of the whole too
comes_once : (s : Standing) (first : Turn) (next : Result Turn Refusal) (left : Store) → OneAppends s first.after next → (left ≡ first.after.store) ⊎ ComesTo next left → (left ≡ s.store) ⊎ ComesTo (behind first next) left
comes_once s first next left once (inr comes) = inr (comes_behind first next left comes)
comes_once s first next left (inl same) (inl e) = inl (e ∙ same)
comes_once s first next left (inr (other, is, store, begun)) (inl e) = inr (inl (joined first other, ap (behind first) is, e ∙ sym begun))

module _ {D : Type 0} (g : Ghosts D) where
  -- what a part does in memory alone
  pub memory_took : (member : Membership) (s : Standing) (outcome : Result Turn Refusal) (turn : Turn) (up : Up D) (running : Running) (earlier later : Told)
      → IsUp g member up s → outcome ≡ Ok turn → IsRunning member running turn.after → turn.after.store ≡ s.store → turn.after.begun ≡ s.begun → StandsByIts turn.after
      → later ≡ both_told earlier (told_of turn) → AreMessages turn.frames
      → Took g member s outcome up (record up { running = running }) earlier later
  memory_took member s outcome turn up running earlier later is rule runs store begun stands told fits = record {
    turn = turn;
    rule = rule;
    told = told;
    fits = fits;
    now = record { running = runs; keeps = subst (λ (st : Store). Keeps g (head_of member) st (store_of up.acceptor)) (sym store) is.keeps; unbegun = begun ∙ is.unbegun ∙ sym store; stands = stands };
    moments = λ t image was. inl was;
    untouched = λ still. refl;
  }

  then_took : (member : Membership) (s : Standing) (next : Standing → Result Turn Refusal) (outcome : Result Turn Refusal) (a b c : Up D) (earlier middle later : Told)
      → (first : Took g member s outcome a b earlier middle) → OneAppends s first.turn.after (next first.turn.after)
      → Took g member first.turn.after (next first.turn.after) b c middle later
      → Took g member s (and_then outcome next) a c earlier later
  then_took member s next outcome a b c earlier middle later first once second = record {
    turn = joined first.turn second.turn;
    rule = ap (λ (o : Result Turn Refusal). and_then o next) first.rule ∙ ap (behind first.turn) second.rule;
    now = second.now;
    told = told_more first.turn second.turn earlier middle later first.told second.told;
    fits = both_messages first.turn.frames second.turn.frames first.fits second.fits;
    moments = left_during (head_of member) _ _ _ s.store first.turn.after.store second.turn.after.store (appends_once s first.turn.after (next first.turn.after) second.turn once second.rule) first.moments second.moments;
    untouched = λ still.
        second.untouched (λ sent at. still sent (in_later first.turn.frames second.turn.frames sent at)) ∙ first.untouched (λ sent at. still sent (in_first first.turn.frames second.turn.frames sent at));
  }

  then_failed : (member : Membership) (s : Standing) (next : Standing → Result Turn Refusal) (outcome : Result Turn Refusal) (a b c : Up D) (earlier middle : Told)
      → (first : Took g member s outcome a b earlier middle) → OneAppends s first.turn.after (next first.turn.after)
      → Failed g member first.turn.after (next first.turn.after) b c
      → Failed g member s (and_then outcome next) a c
  then_failed member s next outcome a b c earlier middle first once second =
      let apart = leaves_once s first.turn.after (next first.turn.after) second.left once second.comes in
      record {
        left = second.left;
        comes = subst (λ (o : Result Turn Refusal). (second.left ≡ s.store) ⊎ ComesTo (and_then o next) second.left) (sym first.rule) (comes_once s first.turn (next first.turn.after) second.left once second.comes);
        done = subst (λ (o : Result Turn Refusal). IsDone (and_then o next)) (sym first.rule) (done_behind first.turn (next first.turn.after) second.done);
        leaves = left_by (head_of member) _ s.store first.turn.after.store second.left apart second.leaves;
        moments = left_during (head_of member) _ _ _ s.store first.turn.after.store second.left apart first.moments second.moments;
      }

  then_clashed : (member : Membership) (s : Standing) (next : Standing → Result Turn Refusal) (outcome : Result Turn Refusal) (a b c : Up D) (earlier middle : Told)
      → (first : Took g member s outcome a b earlier middle) → OneAppends s first.turn.after (next first.turn.after)
      → Clashed g member first.turn.after (next first.turn.after) b c
      → Clashed g member s (and_then outcome next) a c
  then_clashed member s next outcome a b c earlier middle first once second =
      let apart = leaves_once s first.turn.after (next first.turn.after) second.left once (inr (inr second.rule)) in
      record {
        left = second.left;
        rule = ap (λ (o : Result Turn Refusal). and_then o next) first.rule ∙ ap (behind first.turn) second.rule;
        leaves = left_by (head_of member) _ s.store first.turn.after.store second.left apart second.leaves;
        moments = left_during (head_of member) _ _ _ s.store first.turn.after.store second.left apart first.moments second.moments;
      }

  -- however the second part ends
  pub then_works : (member : Membership) (s : Standing) (next : Standing → Result Turn Refusal) (outcome : Result Turn Refusal) (a b c : Up D) (earlier middle later : Told) (answer : Result (Unit {0}) NodeFault)
      → (first : Took g member s outcome a b earlier middle) → OneAppends s first.turn.after (next first.turn.after)
      → Works g member first.turn.after (next first.turn.after) b c middle later answer
      → Works g member s (and_then outcome next) a c earlier later answer
  then_works member s next outcome a b c earlier middle later (Ok done) first once w = then_took member s next outcome a b c earlier middle later first once w
  then_works member s next outcome a b c earlier middle later (Err (fault.Store Disk)) first once w = then_failed member s next outcome a b c earlier middle first once w
  then_works member s next outcome a b c earlier middle later (Err fault.Conflict) first once w = then_clashed member s next outcome a b c earlier middle first once w
  then_works member s next outcome a b c earlier middle later (Err other) first once w = absurd w

  moments_from : (member : Membership) (old other new : Store) (a c b : Up D) → other ≡ old → disk_under a ≡ disk_under c
      → LeavesDuring g (head_of member) other new (disk_under a) (disk_under b) → LeavesDuring g (head_of member) old new (disk_under c) (disk_under b)
  moments_from member old other new a c b same disk during =
      subst (λ (d : D). LeavesDuring g (head_of member) old new d (disk_under b)) disk (subst (λ (st : Store). LeavesDuring g (head_of member) st new (disk_under a) (disk_under b)) same during)

  comes_from : (old other : Store) (outcome : Result Turn Refusal) (left : Store) → (left ≡ other) ⊎ ComesTo outcome left → other ≡ old → (left ≡ old) ⊎ ComesTo outcome left
  comes_from old other outcome left (inl e) same = inl (e ∙ same)
  comes_from old other outcome left (inr comes) same = inr comes

  -- a part is that of any standing with the same store, from any node with the same disk
  pub works_from : (member : Membership) (s other : Standing) (outcome : Result Turn Refusal) (a c b : Up D) (earlier later : Told) (answer : Result (Unit {0}) NodeFault)
      → other.store ≡ s.store → disk_under a ≡ disk_under c → Works g member other outcome a b earlier later answer → Works g member s outcome c b earlier later answer
  works_from member s other outcome a c b earlier later (Ok done) same disk w =
      record {
        turn = w.turn;
        rule = w.rule;
        now = w.now;
        told = w.told;
        fits = w.fits;
        moments = moments_from member s.store other.store w.turn.after.store a c b same disk w.moments;
        untouched = λ still. w.untouched still ∙ disk;
      }
  works_from member s other outcome a c b earlier later (Err (fault.Store Disk)) same disk w =
      record { left = w.left; comes = comes_from s.store other.store outcome w.left w.comes same; done = w.done; leaves = subst (λ (st : Store). Leaves g (head_of member) st w.left (disk_under b)) same w.leaves; moments = moments_from member s.store other.store w.left a c b same disk w.moments }
  works_from member s other outcome a c b earlier later (Err fault.Conflict) same disk w =
      record { left = w.left; rule = w.rule; leaves = subst (λ (st : Store). Leaves g (head_of member) st w.left (disk_under b)) same w.leaves; moments = moments_from member s.store other.store w.left a c b same disk w.moments }
  works_from member s other outcome a c b earlier later (Err why) same disk w = absurd w

  -- where the first part fails, so does the whole
  pub first_failed : (member : Membership) (s : Standing) (next : Standing → Result Turn Refusal) (outcome : Result Turn Refusal) (a b : Up D)
      → Clashed g member s outcome a b → Clashed g member s (and_then outcome next) a b
  first_failed member s next outcome a b c = record { left = c.left; rule = ap (λ (o : Result Turn Refusal). and_then o next) c.rule; leaves = c.leaves; moments = c.moments }
