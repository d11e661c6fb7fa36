-- One seat's session among all.
use Rattle.std.proofs.Common.{◌≡◌, ◌≢◌, ℕ, zero, suc, ◌+◌, ◌≤◌, ◌<◌, true, false, List, [], ◌∷◌, inl, inr, eqb, refl, ap, sym, ◌∙◌, subst, length, get_or, arith}
use Rattle.std.proofs.Math.ListN.{set, get_or-map}
use Rattle.std.proofs.lemmas.List.{map-set, set-get_or, get_or-set_same, get_or-set_other}
use Rattle.std.proofs.lemmas.Bool.Decides.{eqb_tells}
use Rattle.std.specs.Prelude.{Option, Some, None, Result, map, replicate, IfSome, ◌⊎◌}
use Rattle.paxos_wire.specs.declared.ballot.Ballot.{Ballot}
use Rattle.game_def.specs.Game.{Game}
use Rattle.slot_log.specs.Hand.{Hand, Match}
use Rattle.slot_log.specs.declared.command.Command.{Command}
use Rattle.seat_session.specs.Session.{Standing as Talk, Conversation, with_piece, is_closed}
use Rattle.seat_session.specs.Feeds.{line_feeds}
use Rattle.seat_session.specs.declared.said.Said.{Said}
use Rattle.seat_session.specs.declared.said.Said.TheVariants.{Ready, Act}
use Rattle.seat_session.specs.declared.session_fault.SessionFault.{SessionFault}
use Rattle.std.specs.Prelude.{Ok, Err}
use Rattle.node_rules.specs.Standings.{Place, Standing, hands_at}
use Rattle.node_rules.specs.Turns.{Turn, still, joined}
use Rattle.node_rules.specs.Seats.{session_at, with_session, answering, answering_all, Drains, left, HearsPiece}
use Rattle.dealer_node.specs.Outs.{Told}
use Rattle.dealer_node.specs.Turned.{talk_of, talks}
use Rattle.dealer_node.specs.Hearing.{IsHeard, CanHear, HearsPiece as Heard}
use Rattle.dealer_node.specs.Seated.{Seated, without_room, HasRoomAt, feeds_with, IsSeatedAt, PieceTurn}
use Rattle.dealer_node.specs.SeatsInside.{AreOwn, room_of}
use Rattle.dealer_node.proofs.Messages.{no_messages}
use Rattle.dealer_node.proofs.Worked.{nothing_more}

abbrev Answer : Type 0
Answer = Result Said SessionFault

-- answers change the act that waits and nothing else
one_changes : (place : Place) (seat : ℕ) (said : Answer) (s : Standing) → (answering place seat said s).after ≡ record s { pending = (answering place seat said s).after.pending }
one_changes place seat (Ok Ready) s = refl
one_changes place seat (Ok (Act act)) s = refl
one_changes place seat (Err fault) s = refl

all_change : (place : Place) (seat : ℕ) (answers : List Answer) (turn : Turn) → (answering_all place seat answers turn).after ≡ record turn.after { pending = (answering_all place seat answers turn).after.pending }
unfolding answering_all
all_change place seat [] turn = refl
all_change place seat (said ∷ more) turn =
    let next = joined turn (answering place seat said turn.after) in
    all_change place seat more next
    ∙ ap (λ (s : Standing). record s { pending = (answering_all place seat more next).after.pending }) (one_changes place seat said turn.after)

drains_there : (game other : Game) (hands there : List Hand) (seat : ℕ) (old : Talk) (answers : List Answer) (new : Talk) → game ≡ other → hands ≡ there → Drains game hands seat old answers new → Drains other there seat old answers new
drains_there game other hands there seat old answers new a b d = subst (λ h. Drains other h seat old answers new) b (subst (λ g. Drains g hands seat old answers new) a d)

-- the session of a seat, as the rules see it
talk_at : (sessions : List (Option Conversation)) (seat : ℕ) (s : Standing) (old : Option Conversation) → s.sessions ≡ talks sessions → get_or sessions seat None ≡ old → session_at s.sessions seat ≡ talk_of old
talk_at sessions seat s old same is = ap (λ ts. session_at ts seat) same ∙ (get_or-map talk_of sessions seat None ∙ ap talk_of is)

pub piece_turn : (place : Place) (table : Match) (promised : Ballot) (seat : ℕ) (piece : List ℕ) (sessions : List (Option Conversation)) (old result : Option Conversation) (waited waits : Option Command) (earlier later : Told) (new : List (Option Talk)) (s : Standing)
    → get_or sessions seat None ≡ old → new ≡ set (talks sessions) seat (talk_of result)
    → Heard place table promised seat piece old result waited waits earlier later
    → IsSeatedAt place (talks sessions) table promised waited s
    → PieceTurn place seat piece s table promised new waits earlier later
piece_turn place table promised seat piece sessions None result waited waits earlier later new s was is heard stands =
    let same : waits ≡ s.pending = heard.1 ∙ stands.pending in
    let none : session_at s.sessions seat ≡ None = talk_at sessions seat s None stands.sessions was in
    let kept : new ≡ s.sessions =
    is ∙ ap (λ r. set (talks sessions) seat (talk_of r)) heard.0 ∙ ap (λ ts. set ts seat None) (sym stands.sessions)
    ∙ ap (set s.sessions seat) (sym none) ∙ set-get_or s.sessions seat None in
    record {
      turn = still s;
      rule = subst (λ t. HearsPiece place seat piece t s (still s)) (sym none) refl;
      heard = record { hands = stands.hands; promise = stands.promise; waits = same; told = heard.2 ∙ nothing_more earlier s; fits = no_messages };
      rest = ap (λ ts. record s { sessions = ts }) (sym kept) ∙ ap (λ p. record s { sessions = new; pending = p }) (sym same);
    }
piece_turn place table promised seat piece sessions (Some session) result waited waits earlier later new s was is heard stands =
    let talk = heard.0 in
    let hears = heard.1 in
    let begun = still (with_session s seat (left talk)) in
    let there : session_at s.sessions seat ≡ Some session.standing = talk_at sessions seat s (Some session) stands.sessions was in
    let turn = answering_all place seat hears.answers begun in
    let after : IsHeard place table promised turn waits earlier later = hears.taken begun earlier (record { hands = stands.hands; promise = stands.promise; waits = stands.pending; told = nothing_more earlier (with_session s seat (left talk)); fits = no_messages }) in
    let kept : set s.sessions seat (left talk) ≡ new = ap (λ ts. set ts seat (left talk)) stands.sessions ∙ (ap (set (talks sessions) seat) (sym heard.2) ∙ sym is) in
    record {
      turn = turn;
      rule = subst (λ t. HearsPiece place seat piece t s turn) (sym there)
          (hears.answers, talk, drains_there table.game place.setting.game table.hands (hands_at place s) seat (with_piece session.standing piece) hears.answers talk stands.hands.game stands.hands.hands hears.drains, refl);
      heard = after;
      rest = all_change place seat hears.answers begun
          ∙ (ap (λ p. record s { sessions = set s.sessions seat (left talk); pending = p }) (sym after.waits) ∙ ap (λ ts. record s { sessions = ts; pending = waits }) kept);
    }

-- what is found where a seat's session was replaced
found_at : (sessions : List (Option Conversation)) (seat other : ℕ) (new : Option Conversation) (session : Conversation) → seat < length sessions
    → ((eqb other seat ≡ true) × (other ≡ seat)) ⊎ ((eqb other seat ≡ false) × (other ≢ seat)) → get_or (set sessions seat new) other None ≡ Some session
    → ((other ≡ seat) × (new ≡ Some session)) ⊎ (get_or sessions other None ≡ Some session)
found_at sessions seat other new session within (inl same) found =
    inl (same.1, sym (ap (λ k. get_or (set sessions seat new) k None) same.1 ∙ get_or-set_same sessions seat new None within) ∙ found)
found_at sessions seat other new session within (inr differ) found = inr (sym (get_or-set_other sessions seat other new None differ.1) ∙ found)

own_of : (sessions : List (Option Conversation)) (seat other : ℕ) (new : Option Conversation) (session : Conversation) → AreOwn sessions
    → ((one : Conversation) → new ≡ Some one → (one.seat ≡ seat) × (is_closed one.standing.phase ≡ false))
    → ((other ≡ seat) × (new ≡ Some session)) ⊎ (get_or sessions other None ≡ Some session) → (session.seat ≡ other) × (is_closed session.standing.phase ≡ false)
own_of sessions seat other new session are is (inl here) = let it = is session here.1 in (it.0 ∙ sym here.0, it.1)
own_of sessions seat other new session are is (inr there) = (are.own other session there, are.stays other session there)

-- all sessions stay their seats'
pub own_still : (sessions : List (Option Conversation)) (seat : ℕ) (new : Option Conversation) → seat < length sessions → AreOwn sessions
    → ((one : Conversation) → new ≡ Some one → (one.seat ≡ seat) × (is_closed one.standing.phase ≡ false)) → AreOwn (set sessions seat new)
own_still sessions seat new within are is = record {
  own = λ other session found. (own_of sessions seat other new session are is (found_at sessions seat other new session within (eqb_tells other seat) found)).0;
  stays = λ other session found. (own_of sessions seat other new session are is (found_at sessions seat other new session within (eqb_tells other seat) found)).1;
}

-- the session found at a seat can take a piece for which there is room
pub can_hear : (sessions : List (Option Conversation)) (seat : ℕ) (piece : List ℕ) (limit : ℕ) (seated : Seated) (session : Conversation) → talks sessions ≡ seated.talks → map room_of sessions ≡ seated.rooms → AreOwn sessions
    → get_or sessions seat None ≡ Some session → HasRoomAt seated seat (length piece) → feeds_with (session_at seated.talks seat) piece < limit → CanHear seat piece limit session
can_hear sessions seat piece limit seated session same rooms are found room few =
    let place : get_or seated.rooms seat 0 ≡ session.room = ap (λ rs. get_or rs seat 0) (sym rooms) ∙ (get_or-map room_of sessions seat None ∙ ap room_of found) in
    let there : session_at seated.talks seat ≡ Some session.standing = ap (λ ts. get_or ts seat None) (sym same) ∙ (get_or-map talk_of sessions seat None ∙ ap talk_of found) in
    let fits : length piece ≤ get_or seated.rooms seat 0 = subst (λ (t : Option Talk). IfSome t (λ _. length piece ≤ get_or seated.rooms seat 0)) there room in
    let feeds : feeds_with (session_at seated.talks seat) piece ≡ line_feeds session.standing.waiting + line_feeds piece =
    ap (λ ts. feeds_with (get_or ts seat None) piece) (sym same) ∙ ap (λ t. feeds_with t piece) (get_or-map talk_of sessions seat None ∙ ap talk_of found) in
    record {
      own = are.own seat session found;
      stays = are.stays seat session found;
      room = omega (arith, fits, place);
      few = omega (arith, few, feeds);
    }

none_there : (n seat : ℕ) → get_or (replicate n None) seat None ≡ (let none : Option Conversation = None in none)
none_there zero seat = refl
none_there (suc n) zero = refl
none_there (suc n) (suc seat) = none_there n seat

-- no session at all
pub none_own : (n : ℕ) → AreOwn (replicate n None)
none_own n = record {
  own = λ seat session found. let none = none_there n seat in cc;
  stays = λ seat session found. let none = none_there n seat in cc;
}

pub none_talk : (n : ℕ) → talks (replicate n None) ≡ replicate n None
none_talk zero = refl
none_talk (suc n) = ap (λ ts. None ∷ ts) (none_talk n)

seat_in : Option Conversation → ℕ → ℕ
seat_in None other = other
seat_in (Some session) other = session.seat

-- a session but for its room is its seat's, and open, as it was
pub own_without : (seat : ℕ) (old new : Option Conversation) → ((one : Conversation) → old ≡ Some one → (one.seat ≡ seat) × (is_closed one.standing.phase ≡ false)) → without_room new ≡ without_room old
    → (one : Conversation) → new ≡ Some one → (one.seat ≡ seat) × (is_closed one.standing.phase ≡ false)
own_without seat None None is same one found = is one found
own_without seat None (Some session) is same one found = absurd (let wrong : ⊥ = cc in wrong)
own_without seat (Some before) None is same one found = absurd (let wrong : ⊥ = cc in wrong)
own_without seat (Some before) (Some session) is same one found =
    let was = is before refl in
    let here : Some session ≡ Some one = found in
    let one_seat : session.seat ≡ before.seat = let e : (let r : Conversation = record session { room = 0 } in r) ≡ record before { room = 0 } = cc in ap (λ (c : Conversation). c.seat) e in
    let one_talk : session.standing ≡ before.standing = let e : (let r : Conversation = record session { room = 0 } in r) ≡ record before { room = 0 } = cc in ap (λ (c : Conversation). c.standing) e in
    let it : session ≡ one = cc in
    (sym (ap (λ (c : Conversation). c.seat) it) ∙ (one_seat ∙ was.0), sym (ap (λ (c : Conversation). is_closed c.standing.phase) it) ∙ (ap (λ (t : Talk). is_closed t.phase) one_talk ∙ was.1))

talk_without : (new : Option Conversation) → talk_of (without_room new) ≡ talk_of new
talk_without None = refl
talk_without (Some session) = refl

-- all stand where they stood
pub talks_without : (sessions : List (Option Conversation)) (seat : ℕ) (old new : Option Conversation) → get_or sessions seat None ≡ old → without_room new ≡ without_room old → talks (set sessions seat new) ≡ talks sessions
talks_without sessions seat old new was same =
    let stands : talk_of new ≡ talk_of old = sym (talk_without new) ∙ (ap talk_of same ∙ talk_without old) in
    map-set talk_of sessions seat new ∙ (ap (set (talks sessions) seat) (stands ∙ (ap talk_of (sym was) ∙ sym (get_or-map talk_of sessions seat None))) ∙ set-get_or (talks sessions) seat None)

room_in : (new : Option Conversation) (talk : Option Talk) (more room : ℕ) → talk ≡ talk_of new → room ≡ room_of new → IfSome new (λ s. more ≤ s.room) → IfSome talk (λ _. more ≤ room)
room_in None talk more room stands is fits = subst (λ (t : Option Talk). IfSome t (λ _. more ≤ room)) (sym stands) tt
room_in (Some session) talk more room stands is fits = subst (λ (t : Option Talk). IfSome t (λ _. more ≤ room)) (sym stands) (omega (arith, fits, is))

pub room_made : (sessions : List (Option Conversation)) (seat : ℕ) (new : Option Conversation) (more : ℕ) → seat < length sessions → IfSome new (λ s. more ≤ s.room)
    → IfSome (session_at (talks (set sessions seat new)) seat) (λ _. more ≤ get_or (map room_of (set sessions seat new)) seat 0)
room_made sessions seat new more within fits =
    room_in new (session_at (talks (set sessions seat new)) seat) more (get_or (map room_of (set sessions seat new)) seat 0)
    (get_or-map talk_of (set sessions seat new) seat None ∙ ap talk_of (get_or-set_same sessions seat new None within))
    (get_or-map room_of (set sessions seat new) seat None ∙ ap room_of (get_or-set_same sessions seat new None within)) fits
