-- What was learned is applied.
use Rattle.std.proofs.Common.{◌≡◌, ℕ, true≢false, List, ◌++◌, refl, ap, sym, ◌∙◌, subst, drop, reverse}
use Rattle.std.specs.Prelude.{map, Result, Ok, Err, IsOk, IsErr}
use Rattle.std.proofs.lemmas.List.{append-nil}
use Rattle.slot_log.specs.Slots.{front}
use Rattle.slot_log.specs.declared.command.Command.{Command}
use Rattle.slot_log.specs.declared.slot_fault.SlotFault.{SlotFault}
use Rattle.learner.specs.Learning.{Learned, Learning}
use Rattle.protocol_model.specs.Stores.{Store}
use Rattle.node_rules.specs.Standings.{Place, Standing, with_stored}
use Rattle.node_rules.specs.Turns.{Turn, Conflict, sending, joined}
use Rattle.node_rules.specs.Sending.{Frame}
use Rattle.node_rules.specs.Learning.{learning}
use Rattle.node_rules.specs.Applying.{Scene, taking_all, passed, scene_of, applying}
use Rattle.dealer_node.specs.declared.reader.Reader.{Reader}
use Rattle.dealer_node.specs.declared.running.Running.{Running}
use Rattle.dealer_node.specs.Texts.{Marked}
use Rattle.dealer_node.specs.Members.{Membership, place_at}
use Rattle.dealer_node.specs.Outs.{Told}
use Rattle.dealer_node.specs.Turned.{framed, printed}
use Rattle.dealer_node.specs.Fitting.{AreMessages}
use Rattle.dealer_node.specs.Scenes.{IsTableOf, IsScene}
use Rattle.dealer_node.specs.Running.{IsRunning, IsTaken, GoesOn}
use Rattle.node_rules.proofs.Passing.{all_applied, passed_all}
use Rattle.dealer_node.proofs.Messages.{no_messages, both_messages}
use Rattle.dealer_node.proofs.Telling.{told_with, frames_more, shown_more, told_more}

-- ---- the turn of what was learned

pub applied_taken : (member : Membership) (old new : Running) (learner : Learning) (from : ℕ) (s : Standing) (learned : Learned) (told : Told) (shown : List (Marked Reader)) (commands : ℕ)
    → IsRunning member old s → from ≡ front old.learner.learned.log → learner.learned ≡ learned → GoesOn old.learner.learned.log learner.learned.log commands
    → ((scene : Scene) (before : List (Marked Reader)) → IsScene member.setting scene old.table old.pending before told.shown
    → IsScene member.setting (taking_all member.setting old.seats.talks (drop from (reverse learner.learned.log.below)) scene) new.table new.pending before shown)
    → new ≡ record old { learner = learner; table = new.table; pending = new.pending }
    → IsTaken member new told (told_with told.frames shown told.faults) (applying (place_at member) learned s)
applied_taken member old new learner from s learned told shown commands is here same goes scenes rest =
    let first : IsScene member.setting (scene_of s) old.table old.pending told.shown told.shown = record { hands = is.hands; waits = is.waits; shown = sym (append-nil told.shown) } in
    let end : Scene = taking_all member.setting s.sessions (passed s.learned.log learned.log) (scene_of s) in
    let ends : taking_all member.setting old.seats.talks (drop from (reverse learner.learned.log.below)) (scene_of s) ≡ end =
    ap (λ t. taking_all member.setting t (drop from (reverse learner.learned.log.below)) (scene_of s)) is.sessions
    ∙ (ap (λ k. taking_all member.setting s.sessions (drop k (reverse learner.learned.log.below)) (scene_of s)) (here ∙ ap (λ (l : Learned). front l.log) is.learned)
    ∙ ap (λ (l : Learned). taking_all member.setting s.sessions (drop (front s.learned.log) (reverse l.log.below)) (scene_of s)) same) in
    let last : IsScene member.setting end new.table new.pending told.shown shown = subst (λ (scene : Scene). IsScene member.setting scene new.table new.pending told.shown shown) ends (scenes (scene_of s) told.shown first) in
    let below : learned.log.below ≡ goes.later ++ s.learned.log.below =
    ap (λ (l : Learned). l.log.below) (sym same) ∙ (goes.below ∙ ap (λ (l : Learned). goes.later ++ l.log.below) is.learned) in
    let all : end.applied ≡ learned.log.below =
    all_applied member.setting s.sessions (passed s.learned.log learned.log) (scene_of s) ∙ passed_all s.learned.log learned.log goes.later below in
    record {
      runs = record {
        up = is.up;
        campaign = ap (λ (r : Running). r.proposer.campaign) rest ∙ is.campaign;
        learned = ap (λ (r : Running). r.learner.learned) rest ∙ same;
        hands = subst (λ (l : List Command). IsTableOf member.setting l new.table) all last.hands;
        waits = last.waits;
        greatest = ap (λ (r : Running). r.seen) rest ∙ is.greatest;
        sessions = ap (λ (r : Running). r.seats.talks) rest ∙ is.sessions;
      };
      told = shown_more told shown (map printed end.shown) last.shown;
      fits = no_messages;
    }

-- what is learned without a fault is applied, and of a fault there is no turn
pub learned_ok : {A : Type 0} (place : Place) (answer : Result A SlotFault) (learned : Learned) (s : Standing) → IsOk answer → learning place answer learned s ≡ Ok (applying place learned s)
learned_ok place (Ok answer) learned s e = refl
learned_ok place (Err fault) learned s e = absurd (true≢false (sym e))

pub learned_err : {A : Type 0} (place : Place) (answer : Result A SlotFault) (learned : Learned) (s : Standing) → IsErr answer → learning place answer learned s ≡ Err (Conflict s.store)
learned_err place (Ok answer) learned s e = absurd (true≢false (sym e))
learned_err place (Err fault) learned s e = refl

-- ---- frames alone

pub sent_taken : (member : Membership) (running : Running) (s : Standing) (told : Told) (texts : List (Marked ℕ)) (frames : List Frame) → IsRunning member running s
    → texts ≡ told.frames ++ map framed frames → AreMessages frames → IsTaken member running told (told_with texts told.shown told.faults) (sending frames s)
sent_taken member running s told texts frames is e messages = record { runs = is; told = frames_more told texts (map framed frames) e; fits = messages }

-- ---- what is stored changes nothing of it

pub stored_too : (member : Membership) (running : Running) (s : Standing) (store : Store) → IsRunning member running s → IsRunning member running (with_stored s store)
stored_too member running s store is = record {
  up = is.up;
  campaign = is.campaign;
  learned = is.learned;
  hands = is.hands;
  waits = is.waits;
  greatest = is.greatest;
  sessions = is.sessions;
}

-- ---- room

-- ---- one turn behind another

pub taken_behind : (member : Membership) (mid new : Running) (earlier between later : Told) (first next : Turn)
    → IsTaken member mid earlier between first → IsTaken member new between later next → IsTaken member new earlier later (joined first next)
taken_behind member mid new earlier between later first next one other = record {
  runs = other.runs;
  told = told_more first next earlier between later one.told other.told;
  fits = both_messages first.frames next.frames one.fits other.fits;
}
