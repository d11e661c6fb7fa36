-- Answers of a session that were taken one by one.
use Rattle.std.proofs.Common.{◌≡◌, ℕ, inl, inr, Bool, true, false, true≢false, List, [], ◌∷◌, ◌++◌, refl, ap, sym, subst, append_assoc}
use Rattle.std.proofs.lemmas.List.{append-nil}
use Rattle.std.specs.Prelude.{Option, Some, None, Result, Ok, Err, IfOk, if◌then◌else◌}
use Rattle.paxos_wire.specs.declared.ballot.Ballot.{Ballot}
use Rattle.game_def.specs.Game.{Game}
use Rattle.slot_log.specs.Hand.{Hand, Match}
use Rattle.slot_log.specs.declared.command.Command.{Command}
use Rattle.slot_log.specs.declared.command.Command.TheVariants.{Deal, Act as Acts, Away}
use Rattle.seat_session.specs.Session.{Standing as Talk, Conversation, is_closed, with_piece, Answers}
use Rattle.seat_session.specs.Saying.{IsSaidInRange}
use Rattle.seat_session.specs.declared.phase.Phase.{Phase}
use Rattle.seat_session.specs.declared.phase.Phase.TheVariants.{Greeting, Ready as InPlay, Closed}
use Rattle.seat_session.specs.declared.said.Said.{Said}
use Rattle.seat_session.specs.declared.said.Said.TheVariants.{Ready, Act}
use Rattle.seat_session.specs.declared.session_fault.SessionFault.{SessionFault}
use Rattle.node_rules.specs.Standings.{Place}
use Rattle.node_rules.specs.Turns.{Turn, joined}
use Rattle.node_rules.specs.Seats.{answering, answering_all, Drains, left}
use Rattle.dealer_node.specs.declared.reader.Reader.{Reader}
use Rattle.dealer_node.specs.Texts.{Written}
use Rattle.dealer_node.specs.Outs.{Told}
use Rattle.dealer_node.specs.Rooms.{Grows}
use Rattle.dealer_node.specs.Turned.{talk_of}
use Rattle.dealer_node.specs.Hearing.{IsForwardable, IsHeard, TakesAnswer, TakesAnswers, Hears, HearsPiece}

abbrev Answer : Type 0
Answer = Result Said SessionFault

-- ---- what answers are

no_deal : (game : Game) (hands : List Hand) (seat : ℕ) (phase : Phase) (waiting : List ℕ) (hand : ℕ) (deal : List ℕ) (new : Talk) → Answers game hands seat (record { phase = phase; waiting = waiting }) (Some (Ok (Act (Deal hand deal)))) new → ⊥
no_deal game hands seat Greeting waiting hand deal new (inl over) = let wrong = over.too_long.fault in cc
no_deal game hands seat Greeting waiting hand deal new (inr heard) = heard.line.says
no_deal game hands seat InPlay waiting hand deal new (inl over) = let wrong = over.too_long.fault in cc
no_deal game hands seat InPlay waiting hand deal new (inr heard) = heard.line.says
no_deal game hands seat (Closed fault) waiting hand deal new closed = let wrong = closed.0 in cc

pub forwardable : (game : Game) (hands : List Hand) (seat : ℕ) (old new : Talk) (said : Result Said SessionFault) → Answers game hands seat old (Some said) new → IfOk said IsSaidInRange → IsForwardable said
forwardable game hands seat old new (Ok Ready) answer range = tt
forwardable game hands seat old new (Ok (Act (Deal hand deal))) answer range = absurd (no_deal game hands seat old.phase old.waiting hand deal new answer)
forwardable game hands seat old new (Ok (Act (Acts hand index action))) answer range = (tt, range)
forwardable game hands seat old new (Ok (Act (Away hand index))) answer range = (tt, range)
forwardable game hands seat old new (Err fault) answer range = tt

-- ---- answers in order

none_answered : (place : Place) (seat : ℕ) (turn : Turn) → answering_all place seat [] turn ≡ turn
unfolding answering_all
none_answered place seat turn = refl

one_answered : (place : Place) (seat : ℕ) (given : List Answer) (said : Answer) (turn : Turn)
    → answering_all place seat (given ++ said ∷ []) turn ≡ joined (answering_all place seat given turn) (answering place seat said (answering_all place seat given turn).after)
unfolding answering_all
one_answered place seat [] said turn = refl
one_answered place seat (first ∷ given) said turn = one_answered place seat given said (joined turn (answering place seat first turn.after))

none_more : (game : Game) (hands : List Hand) (seat : ℕ) (old new : Talk) → Answers game hands seat old None new → Drains game hands seat old [] new
unfolding Drains
none_more game hands seat old new a = a

last_one : (game : Game) (hands : List Hand) (seat : ℕ) (old new : Talk) (said : Answer) → Answers game hands seat old (Some said) new → is_closed new.phase ≡ true → Drains game hands seat old (said ∷ []) new
unfolding Drains
last_one game hands seat old new said a closed = (new, a, inl (closed, refl, refl))

one_more : (game : Game) (hands : List Hand) (seat : ℕ) (old between new : Talk) (said : Answer) (more : List Answer) → Answers game hands seat old (Some said) between → is_closed between.phase ≡ false
    → Drains game hands seat between more new → Drains game hands seat old (said ∷ more) new
unfolding Drains
one_more game hands seat old between new said more a stays d = (between, a, inr (stays, d))

-- what was answered so far
pub record SoFar (place : Place) (table : Match) (promised : Ballot) (seat : ℕ) (start now : Talk) (waited waits : Option Command) (earlier later : Told) : Type 0 where
  pub given : List (Result Said SessionFault)
  pub goes_on : (more : List (Result Said SessionFault)) (new : Talk) → Drains table.game table.hands seat now more new → Drains table.game table.hands seat start (given ++ more) new
  pub taken : TakesAnswers place table promised seat given waited waits earlier later

pub begins : (place : Place) (table : Match) (promised : Ballot) (seat : ℕ) (start : Talk) (waits : Option Command) (told : Told) → SoFar place table promised seat start start waits waits told told
begins place table promised seat start waits told = record {
  given = [];
  goes_on = λ more new d. d;
  taken = λ turn before is. subst (λ (t : Turn). IsHeard place table promised t waits before told) (sym (none_answered place seat turn)) is;
}

grown : (place : Place) (table : Match) (promised : Ballot) (seat other : ℕ) (given : List Answer) (said : Answer) (waited between waits : Option Command) (earlier mid later : Told) → other ≡ seat
    → TakesAnswers place table promised seat given waited between earlier mid → TakesAnswer place table promised other said between waits mid later
    → TakesAnswers place table promised seat (given ++ said ∷ []) waited waits earlier later
grown place table promised seat other given said waited between waits earlier mid later is taken one = λ turn before start.
    let here : TakesAnswer place table promised seat said between waits mid later = subst (λ s. TakesAnswer place table promised s said between waits mid later) is one in
    subst (λ (t : Turn). IsHeard place table promised t waits before later) (sym (one_answered place seat given said turn)) (here (answering_all place seat given turn) before (taken turn before start))

pub ends : (place : Place) (table : Match) (promised : Ballot) (seat same : ℕ) (start now new : Talk) (waited waits : Option Command) (earlier later : Told) → same ≡ seat
    → SoFar place table promised seat start now waited waits earlier later → Answers table.game table.hands same now None new → Hears place table promised seat start new waited waits earlier later
ends place table promised seat same start now new waited waits earlier later is so a = record {
  answers = so.given ++ [];
  drains = so.goes_on [] new (none_more table.game table.hands seat now new (subst (λ s. Answers table.game table.hands s now None new) is a));
  taken = subst (λ (g : List Answer). TakesAnswers place table promised seat g waited waits earlier later) (sym (append-nil so.given)) so.taken;
}

pub closes : (place : Place) (table : Match) (promised : Ballot) (seat same other : ℕ) (start now new : Talk) (waited between waits : Option Command) (earlier mid later : Told) (said : Result Said SessionFault) → same ≡ seat → other ≡ seat
    → SoFar place table promised seat start now waited between earlier mid → Answers table.game table.hands same now (Some said) new → is_closed new.phase ≡ true → TakesAnswer place table promised other said between waits mid later
    → Hears place table promised seat start new waited waits earlier later
closes place table promised seat same other start now new waited between waits earlier mid later said is too so a closed one = record {
  answers = so.given ++ said ∷ [];
  drains = so.goes_on (said ∷ []) new (last_one table.game table.hands seat now new said (subst (λ s. Answers table.game table.hands s now (Some said) new) is a) closed);
  taken = grown place table promised seat other so.given said waited between waits earlier mid later too so.taken one;
}

pub next : (place : Place) (table : Match) (promised : Ballot) (seat same other : ℕ) (start now new : Talk) (waited between waits : Option Command) (earlier mid later : Told) (said : Result Said SessionFault) → same ≡ seat → other ≡ seat
    → SoFar place table promised seat start now waited between earlier mid → Answers table.game table.hands same now (Some said) new → is_closed new.phase ≡ false → TakesAnswer place table promised other said between waits mid later
    → SoFar place table promised seat start new waited waits earlier later
next place table promised seat same other start now new waited between waits earlier mid later said is too so a stays one = record {
  given = so.given ++ said ∷ [];
  goes_on = λ more last d. subst (λ (g : List Answer). Drains table.game table.hands seat start g last) (sym (append_assoc so.given (said ∷ []) more))
      (so.goes_on (said ∷ more) last (one_more table.game table.hands seat now new last said more (subst (λ s. Answers table.game table.hands s now (Some said) new) is a) stays d));
  taken = grown place table promised seat other so.given said waited between waits earlier mid later too so.taken one;
}

-- ---- a line is shown once at most

pub shown_once : (start old new : Written Reader) (ready : Bool) (said : Result Said SessionFault) → (ready ≡ false → old ≡ start) → Grows start old 1 4096 → Grows old new 1 4096
    → ((said ≡ Ok Ready → ⊥) → new ≡ old) → (said ≡ Ok Ready → ready ≡ false) → Grows start new 1 4096
shown_once start old new false said same before now still first = subst (λ (w : Written Reader). Grows w new 1 4096) (same refl) now
shown_once start old new true said same before now still first = subst (λ (w : Written Reader). Grows start w 1 4096) (sym (still (λ e. absurd (true≢false (first e))))) before

-- ---- a whole piece

heard_at : (place : Place) (table : Match) (promised : Ballot) (seat same : ℕ) (start other new : Talk) (waited waits : Option Command) (earlier later : Told) → same ≡ seat → other ≡ start
    → Hears place table promised same other new waited waits earlier later → Hears place table promised seat start new waited waits earlier later
heard_at place table promised seat same start other new waited waits earlier later is too hears =
    subst (λ s. Hears place table promised seat s new waited waits earlier later) too (subst (λ s. Hears place table promised s other new waited waits earlier later) is hears)

pub heard_piece : (place : Place) (table : Match) (promised : Ballot) (seat : ℕ) (piece : List ℕ) (old result : Option Conversation) (session : Conversation) (same : ℕ) (start new : Talk) (waited waits : Option Command) (earlier later : Told)
    → old ≡ Some session → same ≡ seat → start ≡ with_piece session.standing piece → Hears place table promised same start new waited waits earlier later → talk_of result ≡ left new
    → HearsPiece place table promised seat piece old result waited waits earlier later
heard_piece place table promised seat piece old result session same start new waited waits earlier later was is too hears kept =
    subst (λ (s : Option Conversation). HearsPiece place table promised seat piece s result waited waits earlier later) (sym was)
    (new, heard_at place table promised seat same (with_piece session.standing piece) start new waited waits earlier later is too hears, kept)

pub closed_left : (talk : Talk) → is_closed talk.phase ≡ true → left talk ≡ None
closed_left talk closed = ap (λ b. if b then None else Some talk) closed

pub open_left : (talk : Talk) → is_closed talk.phase ≡ false → left talk ≡ Some talk
open_left talk open_now = ap (λ b. if b then None else Some talk) open_now
