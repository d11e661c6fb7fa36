-- A call of a node that was answered Ok, where its rule has one turn: what the node is then, and what it made.
use Rattle.std.proofs.Common.{◌≡◌, ℕ, List, [], ◌∷◌, map, inl, inr, Result, Ok, Err, IsTrue, refl, ap, sym, ◌∙◌, subst}
use Rattle.promise_store.specs.declared.disk.Disk.{Ghosts}
use Rattle.promise_store.specs.declared.fault.StoreFault.TheVariants.{Disk}
use Rattle.protocol_model.specs.Stores.{Store}
use Rattle.protocol_model.specs.Dealers.{Reader, Seat, Log}
use Rattle.node_rules.specs.Standings.{Place, Standing}
use Rattle.node_rules.specs.Sending.{Frame as Outgoing}
use Rattle.node_rules.specs.Showing.{Piece, SeatFault}
use Rattle.node_rules.specs.Turns.{Turn, Refusal}
use Rattle.node_rules.specs.Calls.{Call}
use Rattle.node_rules.specs.Rules.{IsTurn}
use Rattle.node_rules.specs.Called.{Ends, took, refused, failed, unchanged}
use Rattle.dealer_node.specs.Nodes.{Node}
use Rattle.dealer_node.specs.declared.fault.NodeFault.{NodeFault}
use Rattle.dealer_node.specs.declared.fault.NodeFault.TheVariants as fault
use Rattle.dealer_node.specs.Outs.{Told}
use Rattle.dealer_node.specs.Members.{place_at}
use Rattle.dealer_node.specs.Turned.{framed, printed, told_of, reader_of}
use Rattle.dealer_node.specs.Seeing.{member_in, IsSeen}
use Rattle.dealer_node.specs.Taking.{Answered, refusal_fault}
use Rattle.dealer_world.specs.declared.event.Event.{Event}
use Rattle.dealer_world.specs.Events.{call_of}
use Rattle.dealer_world.specs.KeptShown.{reader_by}
use Rattle.dealer_world.specs.Recordings.{frame_by, text_by}
use Rattle.dealer_world.specs.Runs.{AreWritten, text_by_rule}
use Rattle.dealer_world.specs.Stepping.{IsGiven}
use Rattle.joined_lines.proofs.WitnessRules.{AreRead}

-- ---- the turn

-- an outcome of the rule is this turn
abbrev pub ComesTo : Place → Standing → Call → Turn → Type 0
ComesTo place s called turn = (outcome : Result Turn Refusal) → IsTurn place s called outcome → outcome ≡ Ok turn

turn_in : Turn → Result Turn Refusal → Turn
turn_in other (Ok turn) = turn
turn_in other (Err refusal) = other

same_turn : (a b : Turn) → ◌≡◌ {A = Result Turn Refusal} (Ok a) (Ok b) → a ≡ b
unfolding turn_in
same_turn a b is = ap (turn_in a) is

-- what it left and made are those of the turn
record IsOfTurn (turn : Turn) (after : Standing) (frames : List Outgoing) (shown : List Piece) (faults : List SeatFault) : Type 0 where
  after_is : after ≡ turn.after
  frames_are : frames ≡ turn.frames
  shown_are : shown ≡ turn.shown
  faults_are : faults ≡ turn.faults

not_refused : (why : NodeFault) → ◌≡◌ {A = Result (Unit {0}) NodeFault} (Ok tt) (Err why) → ⊥
not_refused why e = cc

of_turn : (place : Place) (s : Standing) (called : Call) (after : Standing) (frames : List Outgoing) (shown : List Piece) (faults : List SeatFault) (turn : Turn) → ComesTo place s called turn
    → (ends : Ends place s called after frames shown) → Answered place s called after frames shown ends faults (Ok tt) → IsOfTurn turn after frames shown faults
of_turn place s called after frames shown faults turn comes (took own rule e f h) answered =
    let same : own ≡ turn = same_turn own turn (comes (Ok own) rule) in
    record {
      after_is = e ∙ ap (λ (t : Turn). t.after) same;
      frames_are = f ∙ ap (λ (t : Turn). t.frames) same;
      shown_are = h ∙ ap (λ (t : Turn). t.shown) same;
      faults_are = answered.0 ∙ ap (λ (t : Turn). t.faults) same;
    }
of_turn place s called after frames shown faults turn comes (refused refusal rule e f h) answered = absurd (not_refused (refusal_fault refusal) answered.1)
of_turn place s called after frames shown faults turn comes (failed outcome begun up rule b e f h) answered = absurd (not_refused (fault.Store Disk) answered.1)
of_turn place s called after frames shown faults turn comes (unchanged e f h) answered = absurd (elim answered.1 as (λ _. ⊥) [
  | inl none ↦ not_refused fault.OutOfMemory none
  | inr broken ↦ not_refused (fault.Store Disk) broken.1
])

-- ---- what it made, as a record has it

pub written_so : (i : ℕ) (frames : List Outgoing) → AreRead frames → AreWritten i frames (map (frame_by i) (map framed frames))
written_so i [] reads = tt
written_so i (one ∷ more) reads = (refl, refl, refl, reads one (inl refl), written_so i more (λ other there. reads other (inr there)))

reader_back : (reader : Reader) → reader_by (reader_of reader) ≡ reader
reader_back (Seat seat) = refl
reader_back Log = refl

pub printed_so : (pieces : List Piece) → map text_by (map printed pieces) ≡ map text_by_rule pieces
printed_so [] = refl
printed_so (piece ∷ more) = ap (λ reader. (record { reader = reader; text = piece.text }) ∷ map text_by (map printed more)) (reader_back piece.reader)
    ∙ ap (λ texts. text_by_rule piece ∷ texts) (printed_so more)

-- ---- the call

module _ {D : Type 0} (g : Ghosts D) where
  -- the node is seen as what the turn leaves, and made what it has
  pub record TookTurn (turn : Turn) (new : Node D) (told : Told) : Type 0 where
    pub seen : IsSeen g new turn.after
    pub told_is : told ≡ told_of turn
    pub reads : AreRead turn.frames

  pub takes_turn : (place : Place) (e : Event) (s : Standing) (old new : Node D) (told : Told) (turn : Turn) → place_at (member_in old) ≡ place → IsTrue g.is_honest → IsSeen g old s
      → IsGiven g e old new told (Ok tt) → ((found : Store) → ComesTo place s (call_of found e) turn) → TookTurn turn new told
  takes_turn place e s old new told turn placed honest seen given comes =
      let taken = given.taken s honest seen in
      let takes = taken.1 in
      let called = call_of taken.0 e in
      let is = of_turn (place_at (member_in old)) s called takes.after takes.frames takes.shown takes.faults turn (subst (λ (p : Place). ComesTo p s called turn) (sym placed) (comes taken.0)) takes.ends
      takes.answered in
      record {
        seen = subst (λ (after : Standing). IsSeen g new after) is.after_is takes.now;
        told_is = takes.told ∙ (ap (λ (frames : List Outgoing). told_of (record { after = turn.after; frames = frames; shown = takes.shown; faults = takes.faults })) is.frames_are
            ∙ (ap (λ (shown : List Piece). told_of (record { after = turn.after; frames = turn.frames; shown = shown; faults = takes.faults })) is.shown_are
            ∙ ap (λ (faults : List SeatFault). told_of (record { after = turn.after; frames = turn.frames; shown = turn.shown; faults = faults })) is.faults_are));
        reads = subst AreRead is.frames_are takes.fits;
      }
