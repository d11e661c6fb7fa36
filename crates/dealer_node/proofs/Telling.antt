-- What is made, one thing behind another.
use Rattle.std.proofs.Common.{◌≡◌, ℕ, List, [], ◌++◌, ap, sym, ◌∙◌, append_assoc}
use Rattle.std.specs.Prelude.{Option}
use Rattle.std.proofs.lemmas.List.{map-append, append-nil}
use Rattle.paxos_wire.specs.declared.ballot.Ballot.{Ballot}
use Rattle.slot_log.specs.Hand.{Match}
use Rattle.slot_log.specs.declared.command.Command.{Command}
use Rattle.node_rules.specs.Standings.{Place, applied}
use Rattle.node_rules.specs.Turns.{Turn, joined}
use Rattle.dealer_node.specs.declared.reader.Reader.{Reader}
use Rattle.dealer_node.specs.declared.seat_fault.SeatFault.{SeatFault}
use Rattle.dealer_node.specs.Texts.{Marked}
use Rattle.dealer_node.specs.Outs.{Told, both_told}
use Rattle.dealer_node.specs.Turned.{told_of, framed, printed, fault_of}
use Rattle.dealer_node.specs.Fitting.{AreMessages}
use Rattle.dealer_node.specs.Scenes.{IsTableOf}
use Rattle.dealer_node.specs.Hearing.{IsHeard}
use Rattle.dealer_node.proofs.Messages.{both_messages}

abbrev pub told_with : List (Marked ℕ) → List (Marked Reader) → List SeatFault → Told
told_with frames shown faults = record { frames = frames; shown = shown; faults = faults }

pub same_told : (frames others : List (Marked ℕ)) (shown texts : List (Marked Reader)) (faults more : List SeatFault) → frames ≡ others → shown ≡ texts → faults ≡ more → told_with frames shown faults ≡ told_with others texts more
same_told frames others shown texts faults more a b c = ap (λ f. told_with f shown faults) a ∙ ap (λ s. told_with others s faults) b ∙ ap (λ t. told_with others texts t) c

pub told_joined : (first next : Turn) → told_of (joined first next) ≡ both_told (told_of first) (told_of next)
told_joined first next = same_told _ _ _ _ _ _ (map-append framed first.frames next.frames) (map-append printed first.shown next.shown) (map-append fault_of first.faults next.faults)

pub both_assoc : (a b c : Told) → both_told (both_told a b) c ≡ both_told a (both_told b c)
both_assoc a b c = same_told _ _ _ _ _ _ (append_assoc a.frames b.frames c.frames) (append_assoc a.shown b.shown c.shown) (append_assoc a.faults b.faults c.faults)

-- a step more behind a turn
pub told_more : (turn step : Turn) (before told new : Told) → told ≡ both_told before (told_of turn) → new ≡ both_told told (told_of step) → new ≡ both_told before (told_of (joined turn step))
told_more turn step before told new is e =
    e ∙ ap (λ t. both_told t (told_of step)) is ∙ both_assoc before (told_of turn) (told_of step) ∙ ap (both_told before) (sym (told_joined turn step))

pub heard_more : (place : Place) (table : Match) (promised : Ballot) (turn step : Turn) (old new : Option Command) (before told later : Told)
    → IsHeard place table promised turn old before told
    → IsTableOf place.setting (applied step.after) table → step.after.store.promise ≡ promised → new ≡ step.after.pending → later ≡ both_told told (told_of step) → AreMessages step.frames
    → IsHeard place table promised (joined turn step) new before later
heard_more place table promised turn step old new before told later is hands promise waits e messages =
    record { hands = hands; promise = promise; waits = waits; told = told_more turn step before told later is.told e; fits = both_messages turn.frames step.frames is.fits messages }

-- frames alone, texts alone, faults alone
pub frames_more : (told : Told) (frames more : List (Marked ℕ)) → frames ≡ told.frames ++ more → told_with frames told.shown told.faults ≡ both_told told (told_with more [] [])
frames_more told frames more e = same_told _ _ _ _ _ _ e (sym (append-nil told.shown)) (sym (append-nil told.faults))

pub shown_more : (told : Told) (shown more : List (Marked Reader)) → shown ≡ told.shown ++ more → told_with told.frames shown told.faults ≡ both_told told (told_with [] more [])
shown_more told shown more e = same_told _ _ _ _ _ _ (sym (append-nil told.frames)) e (sym (append-nil told.faults))

pub faults_more : (told : Told) (faults more : List SeatFault) → faults ≡ told.faults ++ more → told_with told.frames told.shown faults ≡ both_told told (told_with [] [] more)
faults_more told faults more e = same_told _ _ _ _ _ _ (sym (append-nil told.frames)) (sym (append-nil told.shown)) e
