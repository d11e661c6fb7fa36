-- A piece of a seat's bytes, connecting and dropping are paths.
use Rattle.std.proofs.Common.{◌≡◌, ◌≢◌, ℕ, ◌<◌, ◌⊎◌, inl, inr, Bool, true, false, if◌then◌else◌, ◌==◌, List, [], ◌∷◌, ◌++◌, Option, Some, None, Result, Err, refl, sym, ap, subst, ◌∙◌, arith, length, get_or, set, length-set, get_or-set_same, get_or-set_other}
use Rattle.std.specs.Option.{option_map}
use Rattle.std.proofs.lemmas.List.{append-nil}
use Rattle.std.proofs.lemmas.Bool.Decides.{eqb_tells}
use Rattle.game_def.specs.Game.{Game}
use Rattle.slot_log.specs.Hand.{Hand}
use Rattle.protocol_model.specs.Sets.{In, put}
use Rattle.protocol_model.specs.Arrivals.{Arrival, Event, Connected, Dropped, Closed, Came}
use Rattle.protocol_model.specs.Moves.{connects, drops, closes, hears}
use Rattle.seat_session.specs.Lines.{IsPartial}
use Rattle.seat_session.specs.declared.phase.Phase.{Phase}
use Rattle.seat_session.specs.declared.phase.Phase.TheVariants.{Greeting, Ready as InPlay, Closed as IsOver}
use Rattle.seat_session.specs.Session.{Standing as Talk, fresh, with_piece, is_closed, Answers}
use Rattle.seat_session.specs.Laws.{fed}
use Rattle.seat_session.specs.declared.said.Said.{Said as Saying}
use Rattle.seat_session.specs.declared.session_fault.SessionFault.{SessionFault}
use Rattle.node_rules.specs.Standings.{Standing, applied, hands_at}
use Rattle.node_rules.specs.Turns.{Turn, still}
use Rattle.node_rules.specs.Seats.{session_at, with_session, connecting, dropping, Drains, left, hearing, HearsPiece}
use Rattle.node_rules.specs.Being.{IsTalk, IsSession, AreSessions}
use Rattle.node_rules.specs.Called.{events_of}
use Rattle.node_rules.specs.Given.{Given}
use Rattle.protocol_model.proofs.Sets.{put_same, put_other}
use Rattle.node_rules.proofs.Paths.{Hearing, Scope, first_in, Path}
use Rattle.node_rules.proofs.Sitting.{with_heard, sit, drain, asks, no_pieces, drained, drained_asked, rest_drained}
use Rattle.node_rules.proofs.Beginning.{Runs, hearing_of, begin}

-- ---- sessions by seat

-- two that are the same by seat
session_is : (game : Game) (seat other : ℕ) (v w : Option Talk) (h k : Option (List ℕ)) → seat ≡ other → v ≡ w → h ≡ k → IsSession game seat v h → IsSession game other w k
session_is game seat other v w h k es ev eh is =
    subst (λ (n : ℕ). IsSession game n w k) es (subst (λ (y : Option Talk). IsSession game seat y k) ev (subst (λ (y : Option (List ℕ)). IsSession game seat v y) eh is))

-- one seat's session changes
sessions_put : (game : Game) (sessions : List (Option Talk)) (heard : ℕ → Option (List ℕ)) (seat : ℕ) (v : Option Talk) (h : Option (List ℕ)) → seat < length sessions
    → AreSessions game sessions heard → IsSession game seat v h → AreSessions game (set sessions seat v) (put heard seat h)
sessions_put game sessions heard seat v h below are is k = by_case (eqb_tells k seat)
  where
    by_case : ((k == seat) ≡ true) × (k ≡ seat) ⊎ ((k == seat) ≡ false) × (k ≢ seat) → IsSession game k (session_at (set sessions seat v) k) (put heard seat h k)
    by_case (inl same) = session_is game seat k v (session_at (set sessions seat v) k) h (put heard seat h k) (sym same.1)
        (sym (ap (λ n. get_or (set sessions seat v) n None) same.1 ∙ get_or-set_same sessions seat v None below))
        (sym (ap (put heard seat h) same.1 ∙ put_same heard seat h)) is
    by_case (inr other) = session_is game k k (session_at sessions k) (session_at (set sessions seat v) k) (heard k) (put heard seat h k) refl
        (sym (get_or-set_other sessions seat k v None other.1)) (sym (put_other heard seat h k other.1)) (are k)

-- what is heard of a seat alone changes, and its session fits it
heard_put : (game : Game) (sessions : List (Option Talk)) (heard : ℕ → Option (List ℕ)) (seat : ℕ) (h : Option (List ℕ))
    → AreSessions game sessions heard → IsSession game seat (session_at sessions seat) h → AreSessions game sessions (put heard seat h)
heard_put game sessions heard seat h are is k = by_case (eqb_tells k seat)
  where
    by_case : ((k == seat) ≡ true) × (k ≡ seat) ⊎ ((k == seat) ≡ false) × (k ≢ seat) → IsSession game k (session_at sessions k) (put heard seat h k)
    by_case (inl same) = session_is game seat k (session_at sessions seat) (session_at sessions k) h (put heard seat h k) (sym same.1)
        (ap (session_at sessions) (sym same.1)) (sym (ap (put heard seat h) same.1 ∙ put_same heard seat h)) is
    by_case (inr other) = session_is game k k (session_at sessions k) (session_at sessions k) (heard k) (put heard seat h k) refl refl (sym (put_other heard seat h k other.1)) (are k)

-- ---- a path on which seats were heard

pub record Sits (x : Scope) (turn : Turn) (events : List (List Event)) : Type 0 where
  pub came : List Arrival
  pub heard : Hearing
  pub path : Path x came heard (applied turn.after) turn
  pub sessions : AreSessions x.place.setting.game heard.talks heard.bytes
  pub happened : In (events_of came) events

-- the node's seats
seats_of : (x : Scope) (s : Standing) → Runs x s → AreSessions x.place.setting.game s.sessions (first_in x).heard
seats_of x s r = (r.of.runs r.up).sessions

places_of : (x : Scope) (s : Standing) → Runs x s → length s.sessions ≡ x.place.setting.game.players
places_of x s r = (r.of.runs r.up).knows.places

-- ---- connecting and dropping

pub connect_sits : (x : Scope) (s : Standing) (seat : ℕ) → Runs x s → x.messages ≡ [] → seat < x.place.setting.game.players
    → Sits x (connecting seat s) ((Connected x.place.node seat ∷ []) ∷ [])
connect_sits x s seat r quiet seated =
    let h : Hearing = record { bytes = put (first_in x).heard seat (Some []); talks = set s.sessions seat (Some fresh) } in
    let places = places_of x s r in
    let p = begin x s r quiet in
    record {
      came = (record { event = Connected x.place.node seat; sent = length (p.sent ++ x.world.ever) }) ∷ [];
      heard = h;
      path = sit x [] (hearing_of s (first_in x)) (applied s) (still s) p (Connected x.place.node seat) h (length-set s.sessions seat (Some fresh) ∙ places)
          (connects seat p.knows.up refl (ap (λ (f : ℕ → Option (List ℕ)). with_heard p.node (put f seat (Some []))) (sym p.hears)));
      sessions = sessions_put x.place.setting.game s.sessions (first_in x).heard seat (Some fresh) (Some []) (omega (arith, places)) (seats_of x s r)
          (record { goes_on = refl; answered = record { one_line = tt; short = omega arith }; rest = x.given.whole.begun; events = []; pieces = refl; leads_here = refl });
      happened = inl refl;
    }

pub drop_sits : (x : Scope) (s : Standing) (seat : ℕ) → Runs x s → x.messages ≡ [] → seat < x.place.setting.game.players
    → Sits x (dropping seat s) ((Dropped x.place.node seat ∷ []) ∷ [])
drop_sits x s seat r quiet seated =
    let h : Hearing = record { bytes = put (first_in x).heard seat None; talks = set s.sessions seat None } in
    let places = places_of x s r in
    let p = begin x s r quiet in
    record {
      came = (record { event = Dropped x.place.node seat; sent = length (p.sent ++ x.world.ever) }) ∷ [];
      heard = h;
      path = sit x [] (hearing_of s (first_in x)) (applied s) (still s) p (Dropped x.place.node seat) h (length-set s.sessions seat None ∙ places)
          (drops seat p.knows.up refl (ap (λ (f : ℕ → Option (List ℕ)). with_heard p.node (put f seat None)) (sym p.hears)));
      sessions = sessions_put x.place.setting.game s.sessions (first_in x).heard seat None None (omega (arith, places)) (seats_of x s r) tt;
      happened = inl refl;
    }

-- ---- a piece

abbrev piece_events : ℕ → ℕ → List ℕ → List (List Event)
piece_events i seat bytes = (Came i seat bytes ∷ []) ∷ (Closed i seat ∷ Came i seat bytes ∷ []) ∷ []

-- what is heard of the seat once the piece has come
abbrev heard_with : (ℕ → Option (List ℕ)) → ℕ → List ℕ → ℕ → Option (List ℕ)
heard_with heard seat bytes = put heard seat (option_map (λ before. before ++ bytes) (heard seat))

unseated : (game : Game) (seat : ℕ) (h : Option (List ℕ)) → IsSession game seat None h → h ≡ None
unseated game seat None is = refl
unseated game seat (Some before) is = absurd is

seated_bytes : (game : Game) (seat : ℕ) (talk : Talk) (h : Option (List ℕ)) → IsSession game seat (Some talk) h → (before : List ℕ) × (h ≡ Some before) × IsTalk game seat talk before
seated_bytes game seat talk None is = absurd is
seated_bytes game seat talk (Some before) is = (before, refl, is)

-- a path on which a piece came
pub record Heard (x : Scope) (turn : Turn) (seat : ℕ) (bytes : List ℕ) (heard : Hearing) : Type 0 where
  pub came : List Arrival
  pub path : Path x came heard (applied turn.after) turn
  pub only : events_of came ≡ Came x.place.node seat bytes ∷ []

no_session : (x : Scope) (s : Standing) (seat : ℕ) (bytes : List ℕ) → Runs x s → x.messages ≡ [] → session_at s.sessions seat ≡ None
    → Sits x (still s) (piece_events x.place.node seat bytes) × ((h : Hearing) × Heard x (still s) seat bytes h)
no_session x s seat bytes r quiet none =
    let places = places_of x s r in
    let deaf : (first_in x).heard seat ≡ None = unseated x.place.setting.game seat ((first_in x).heard seat) (subst (λ (o : Option Talk). IsSession x.place.setting.game seat o ((first_in x).heard seat)) none (seats_of x s r seat)) in
    let h : Hearing = record { bytes = heard_with (first_in x).heard seat bytes; talks = s.sessions } in
    let p = begin x s r quiet in
    let came : List Arrival = (record { event = Came x.place.node seat bytes; sent = length (p.sent ++ x.world.ever) }) ∷ [] in
    let path : Path x came h (applied s) (still s) =
    sit x [] (hearing_of s (first_in x)) (applied s) (still s) p (Came x.place.node seat bytes) h places
    (hears seat bytes p.knows.up refl (ap (λ (f : ℕ → Option (List ℕ)). with_heard p.node (heard_with f seat bytes)) (sym p.hears))) in (
      record {
        came = came;
        heard = h;
        path = path;
        sessions = heard_put x.place.setting.game s.sessions (first_in x).heard seat (option_map (λ before. before ++ bytes) ((first_in x).heard seat)) (seats_of x s r)
            (session_is x.place.setting.game seat seat None (session_at s.sessions seat) None (option_map (λ before. before ++ bytes) ((first_in x).heard seat)) refl (sym none)
            (sym (ap (option_map (λ (before : List ℕ). before ++ bytes)) deaf)) tt);
        happened = inl refl;
      },
      (h, record { came = came; path = path; only = refl }),
    )

-- a session that was asked until there is no answer holds no whole line
no_line : (game : Game) (hands : List Hand) (seat : ℕ) (phase : Phase) (waiting : List ℕ) (new : Talk)
    → Answers game hands seat (let old : Talk = record { phase = phase; waiting = waiting } in old) None new → IsPartial new.waiting
no_line game hands seat Greeting waiting new h = h.partial
no_line game hands seat InPlay waiting new h = h.partial
no_line game hands seat (IsOver fault) waiting new h = let clash : ◌≡◌ {A = Option (Result Saying SessionFault)} None (Some (Err fault)) = h.0 in absurd (cc)

-- the session that stands at the end, after all that came
goes_further : (g : Given) (game : Game) (hands : List Hand) (seat : ℕ) (before bytes : List ℕ) (cur new : Talk) (answers : List (Result Saying SessionFault)) → IsTalk game seat cur before
    → Drains game hands seat (with_piece cur bytes) answers new → is_closed new.phase ≡ false → IsTalk game seat new (before ++ bytes)
goes_further g game hands seat before bytes cur new answers talk drains goes_on =
    let on = g.runs_on game seat fresh talk.events cur (fed bytes ∷ asks hands answers) new talk.leads_here (drained_asked g game hands seat answers (with_piece cur bytes) new drains goes_on) in
    let d = drained game hands seat answers (with_piece cur bytes) new drains goes_on in
    record {
      goes_on = goes_on;
      answered = no_line game hands seat d.talk.phase d.talk.waiting new d.last;
      rest = rest_drained g game hands seat (before ++ bytes) answers (with_piece cur bytes) new drains (g.whole.fed_more before bytes cur talk.rest);
      events = talk.events ++ fed bytes ∷ asks hands answers;
      pieces = on.1 ∙ ((λ j. talk.pieces j ++ (bytes ++ no_pieces hands answers j)) ∙ ap (λ l. before ++ l) (append-nil bytes));
      leads_here = on.0;
    }

abbrev hearing_with : Scope → Standing → ℕ → List ℕ → Talk → Hearing
hearing_with x s seat bytes new = record { bytes = heard_with (first_in x).heard seat bytes; talks = set s.sessions seat (left new) }

bytes_now : (x : Scope) (seat : ℕ) (bytes before : List ℕ) → (first_in x).heard seat ≡ Some before → heard_with (first_in x).heard seat bytes seat ≡ Some (before ++ bytes)
bytes_now x seat bytes before here =
    put_same (first_in x).heard seat (option_map (λ b. b ++ bytes) ((first_in x).heard seat)) ∙ ap (option_map (λ (b : List ℕ). b ++ bytes)) here

piece_heard : (x : Scope) (s : Standing) (seat : ℕ) (bytes before : List ℕ) (cur new : Talk) (answers : List (Result Saying SessionFault)) → Runs x s → x.messages ≡ []
    → seat < x.place.setting.game.players → (first_in x).heard seat ≡ Some before → IsTalk x.place.setting.game seat cur before
    → Drains x.place.setting.game (hands_at x.place s) seat (with_piece cur bytes) answers new
    → Heard x (hearing x.place seat answers new s) seat bytes (hearing_with x s seat bytes new)
piece_heard x s seat bytes before cur new answers r quiet seated here talk drains = record {
  came = came;
  path = drain x came (hearing_with x s seat bytes new) (still (with_session s seat (left new))) seat (before ++ bytes) answers (with_piece cur bytes) new begun seated
      (bytes_now x seat bytes before here) (x.given.whole.fed_more before bytes cur talk.rest) drains;
  only = refl;
}
  where
    first : Path x [] (hearing_of s (first_in x)) (applied s) (still s)
    first = begin x s r quiet

    came : List Arrival
    came = (record { event = Came x.place.node seat bytes; sent = length (first.sent ++ x.world.ever) }) ∷ []

    begun : Path x came (hearing_with x s seat bytes new) (applied s) (still (with_session s seat (left new)))
    begun = sit x [] (hearing_of s (first_in x)) (applied s) (still s) first (Came x.place.node seat bytes) (hearing_with x s seat bytes new) (length-set s.sessions seat (left new) ∙ places_of x s r)
        (hears seat bytes first.knows.up refl (ap (λ (f : ℕ → Option (List ℕ)). with_heard first.node (heard_with f seat bytes)) (sym first.hears)))

piece_by : (x : Scope) (s : Standing) (seat : ℕ) (bytes before : List ℕ) (cur new : Talk) (answers : List (Result Saying SessionFault)) → Runs x s → seat < x.place.setting.game.players
    → (first_in x).heard seat ≡ Some before → IsTalk x.place.setting.game seat cur before
    → Drains x.place.setting.game (hands_at x.place s) seat (with_piece cur bytes) answers new
    → Heard x (hearing x.place seat answers new s) seat bytes (hearing_with x s seat bytes new)
    → Sits x (hearing x.place seat answers new s) (piece_events x.place.node seat bytes)
piece_by x s seat bytes before cur new answers r seated here talk drains p = by_end (is_closed new.phase) refl
  where
    game : Game
    game = x.place.setting.game

    h : Hearing
    h = hearing_with x s seat bytes new

    sessions_with : (v : Option Talk) (o : Option (List ℕ)) → left new ≡ v → IsSession game seat v o → AreSessions game h.talks (put (first_in x).heard seat o)
    sessions_with v o e is = sessions_put game s.sessions (first_in x).heard seat (left new) o (let l = places_of x s r in omega (arith, l)) (seats_of x s r)
        (subst (λ (y : Option Talk). IsSession game seat y o) (sym e) is)

    again_put : (k : ℕ) → put h.bytes seat None k ≡ put (first_in x).heard seat None k
    again_put k = by_case (eqb_tells k seat)
      where
        by_case : ((k == seat) ≡ true) × (k ≡ seat) ⊎ ((k == seat) ≡ false) × (k ≢ seat) → put h.bytes seat None k ≡ put (first_in x).heard seat None k
        by_case (inl same) = ap (put h.bytes seat None) same.1 ∙ (put_same h.bytes seat None ∙ sym (ap (put (first_in x).heard seat None) same.1 ∙ put_same (first_in x).heard seat None))
        by_case (inr other) = put_other h.bytes seat None k other.1
            ∙ (put_other (first_in x).heard seat (option_map (λ b. b ++ bytes) ((first_in x).heard seat)) k other.1 ∙ sym (put_other (first_in x).heard seat None k other.1))

    by_end : (b : Bool) → is_closed new.phase ≡ b → Sits x (hearing x.place seat answers new s) (piece_events x.place.node seat bytes)
    by_end false e = record {
      came = p.came;
      heard = h;
      path = p.path;
      sessions = sessions_with (Some new) (option_map (λ b. b ++ bytes) ((first_in x).heard seat)) (ap (λ (b : Bool). if b then None else Some new) e)
          (session_is game seat seat (Some new) (Some new) (Some (before ++ bytes)) (option_map (λ b. b ++ bytes) ((first_in x).heard seat)) refl refl (sym (ap (option_map (λ (b : List ℕ). b ++ bytes)) here))
          (goes_further x.given game (hands_at x.place s) seat before bytes cur new answers talk drains e));
      happened = inl p.only;
    }
    by_end true e = record {
      came = (record { event = Closed x.place.node seat; sent = length (p.path.sent ++ x.world.ever) }) ∷ p.came;
      heard = record { bytes = put h.bytes seat None; talks = h.talks };
      path = subst (λ (l : List (Option Talk)). Path x ((record { event = Closed x.place.node seat; sent = length (p.path.sent ++ x.world.ever) }) ∷ p.came) (record { bytes = put h.bytes seat None; talks = h.talks })
          (applied (hearing x.place seat answers new s).after) (record (hearing x.place seat answers new s) { after = record ((hearing x.place seat answers new s).after) { sessions = l } })) (sym p.path.talks)
          (sit x p.came h (applied (hearing x.place seat answers new s).after) (hearing x.place seat answers new s) p.path (Closed x.place.node seat) (record { bytes = put h.bytes seat None; talks = h.talks })
          (length-set s.sessions seat (left new) ∙ places_of x s r)
          (closes seat p.path.knows.up refl (ap (λ (f : ℕ → Option (List ℕ)). with_heard p.path.node (put f seat None)) (sym p.path.hears))));
      sessions = λ k. subst (λ (o : Option (List ℕ)). IsSession game k (session_at h.talks k) o) (sym (again_put k)) (sessions_with None None (ap (λ (b : Bool). if b then None else Some new) e) tt k);
      happened = inr (inl (ap (λ (l : List Event). Closed x.place.node seat ∷ l) p.only));
    }

piece_from : (x : Scope) (s : Standing) (seat : ℕ) (bytes : List ℕ) (turn : Turn) (session : Option Talk) → Runs x s → x.messages ≡ [] → seat < x.place.setting.game.players
    → session_at s.sessions seat ≡ session → HearsPiece x.place seat bytes session s turn
    → Sits x turn (piece_events x.place.node seat bytes) × ((h : Hearing) × Heard x turn seat bytes h)
piece_from x s seat bytes turn None r quiet seated e heard =
    subst (λ (t : Turn). Sits x t (piece_events x.place.node seat bytes) × ((h : Hearing) × Heard x t seat bytes h)) (sym heard) (no_session x s seat bytes r quiet e)
piece_from x s seat bytes turn (Some cur) r quiet seated e (answers, new, drains, same) =
    let b = seated_bytes x.place.setting.game seat cur ((first_in x).heard seat) (subst (λ (o : Option Talk). IsSession x.place.setting.game seat o ((first_in x).heard seat)) e (seats_of x s r seat)) in
    let p = piece_heard x s seat bytes b.0 cur new answers r quiet seated b.1 b.2 drains in
    subst (λ (t : Turn). Sits x t (piece_events x.place.node seat bytes) × ((h : Hearing) × Heard x t seat bytes h)) (sym same)
    (piece_by x s seat bytes b.0 cur new answers r seated b.1 b.2 drains p, (hearing_with x s seat bytes new, p))

-- a piece of a seat's bytes: the path, and its beginning, on which no seat was closed
pub piece_sits : (x : Scope) (s : Standing) (seat : ℕ) (bytes : List ℕ) (turn : Turn) → Runs x s → x.messages ≡ [] → seat < x.place.setting.game.players
    → HearsPiece x.place seat bytes (session_at s.sessions seat) s turn
    → Sits x turn (piece_events x.place.node seat bytes) × ((h : Hearing) × Heard x turn seat bytes h)
piece_sits x s seat bytes turn r quiet seated heard = piece_from x s seat bytes turn (session_at s.sessions seat) r quiet seated refl heard
