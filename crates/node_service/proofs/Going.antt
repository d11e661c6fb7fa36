-- How what a process does in turn comes together.
use Rattle.std.proofs.Common.{◌≡◌, ◌+◌, inl, ℕ, Bool, List, [], ◌++◌, length, refl, sym, ◌∙◌, ap, subst, append_assoc}
use Rattle.std.proofs.lemmas.List.{append-nil}
use Rattle.promise_store.specs.declared.disk.Disk.{Ghosts}
use Rattle.dealer_node.specs.Nodes.{Node}
use Rattle.dealer_node.specs.Seeing.{begun_of}
use Rattle.node_wires.specs.Passages.{Passage, logged_in, seats_in, calls_in}
use Rattle.stations.specs.Deeds.{Deed}
use Rattle.stations.specs.Stations.{Look}
use Rattle.node_service.specs.Parts.{IsPartOf}
use Rattle.node_service.specs.Showing.{shown_log, LogGains}
use Rattle.node_service.specs.Bots.{KeepBots}
use Rattle.node_service.specs.Handed.{frames_by}
use Rattle.node_service.specs.Arriving.{Incoming, seats_of, peers_of, came_by}
use Rattle.node_service.specs.Served.{Served}
use Rattle.node_service.specs.Logging.{StartedOnce, IsOnce}
use Rattle.node_service.specs.Going.{GoesOn, GoesOnWith, Does, Takes}
use Rattle.node_service.specs.Sittings.{Loosens}
use Rattle.node_service.specs.Fitting.{FitsFor, Fits, FitsBut}
use Rattle.node_service.specs.Seated.{SatBefore}
use Rattle.node_service.proofs.Seated.{sat_still, still_somebody, all_but_none, but_nobody}
use Rattle.node_service.proofs.Fitting.{fits_moved}
use Rattle.node_service.specs.Company.{Hears}
use Rattle.node_service.specs.Asking.{GivesOnly, IsReply}
use Rattle.node_service.specs.Apartness.{PutsOffApart}
use Rattle.node_service.proofs.Apartness.{waits_same, waits_on}
use Rattle.node_service.specs.Crossing.{Carries}
use Rattle.node_service.specs.Taking.{StopsAtLife, TakesNext}
use Rattle.node_service.specs.Turns.{AreFrames, ComeOfPeers}
use Rattle.node_service.specs.declared.taking.Taken.{Taken}
use Rattle.node_service.specs.declared.taking.Taken.TheVariants as kind
use Rattle.node_service.proofs.Asking.{gives_on, none_gives_on}
use Rattle.stations.proofs.OwnTables.{beginning_on}
use Rattle.node_service.proofs.Bots.{LooksOn, as_before, keep_on, bots_still}
use Rattle.node_service.proofs.Calls.{and_none, calls_on}
use Rattle.node_service.proofs.Crossing.{heard_both, heard_further}
use Rattle.node_service.proofs.Turns.{no_frames}
use Rattle.node_service.proofs.Hearing.{hears_none, hears_on}
use Rattle.node_service.proofs.Parts.{both, left_out}
use Rattle.node_service.proofs.Welcoming.{hosts_none, hosts_on, let_in_on, let_in_both}
use Rattle.node_service.proofs.Showing.{shown_by_both, came_by_both, frames_by_both, seats_of_more, peers_of_more, nothing_shown, shown_on}

-- where nothing was taken it fits
pub but_nothing : {N : Type 0} (served : Served N) → FitsBut [] served → Fits served
but_nothing served but = subst (λ (m : List Passage). FitsFor served.look.deeds served.sittings m) (sym (but.1.0 ∙ append-nil but.0)) but.1.1

pub all_but_nothing : {N : Type 0} (served : Served N) → Fits served → FitsBut [] served
all_but_nothing served fits = (seats_in served.passed, (sym (append-nil (seats_in served.passed)), fits))

-- and where none of it was of seats
pub but_none_of_seats : {N : Type 0} (taken : List Incoming) (served : Served N) → seats_of taken ≡ [] → FitsBut taken served → FitsBut [] served
but_none_of_seats taken served none but = (but.0, (but.1.0 ∙ ap (λ (m : List Passage). but.0 ++ m) none, but.1.1))

pub fits_kept : {N : Type 0} (old new : Served N) → new.look ≡ old.look → seats_in new.passed ≡ seats_in old.passed → Loosens old.sittings new.sittings → Fits old → Fits new
fits_kept {N} old new look seats loosened fits =
    subst (λ (l : Look N). FitsFor l.deeds new.sittings (seats_in new.passed)) (sym look)
    (subst (λ (m : List Passage). FitsFor old.look.deeds new.sittings m) (sym seats) (fits_moved old.look.deeds old.sittings new.sittings (seats_in old.passed) loosened fits))

-- where nothing is done a node that was started once still is
pub once_kept : {N : Type 0} (old new : Served N) → new.look ≡ old.look → new.started ≡ old.started → IsOnce old → IsOnce new
once_kept {N} old new look started was = (started ∙ was.0, subst (λ (l : Look N). StartedOnce l.deeds) (sym look) was.1)

-- what was taken is all that came since
pub taken_fits : {N : Type 0} (taken : List Incoming) (old new : Served N) → new.look ≡ old.look → seats_in new.passed ≡ seats_in old.passed ++ seats_of taken
    → Loosens old.sittings new.sittings → Fits old → FitsBut taken new
taken_fits {N} taken old new look seats loosened fits = (
  seats_in old.passed,
  (
    seats,
    subst (λ (l : Look N). FitsFor l.deeds new.sittings (seats_in old.passed)) (sym look) (fits_moved old.look.deeds old.sittings new.sittings (seats_in old.passed) loosened fits),
  ),
)

module _ {D : Type 0} {g : Ghosts D} where
  pub looks_on : {taken : List Incoming} {old new : Served (Node D)} → GoesOn g taken old new → LooksOn old.look new.look
  looks_on goes = goes.moments

  -- where nothing is done
  unfoldable pub still : (old new : Served (Node D)) → new.look ≡ old.look → new.log_failed ≡ old.log_failed → new.sent ≡ old.sent → KeepBots old.look new.look old.bots new.bots → new.heard ≡ old.heard → logged_in new.passed ≡ logged_in old.passed → seats_in new.passed ≡ seats_in old.passed → calls_in new.passed ≡ calls_in old.passed
      → Loosens old.sittings new.sittings → Hears old.own new.own old.lines new.lines → GivesOnly (IsReply new.look) old.askers new.askers → (Carries old → Carries new) → new.started ≡ old.started → new.terms ≡ old.terms → new.guests ≡ old.guests → PutsOffApart old.apart new.apart old.bots new.bots → SatBefore old.bots new.bots → GoesOn g [] old new
  still old new look log_failed sent bots heard log seats calls loosened hears asked carried started terms guests waits sat = record {
    config = ap (λ (l : Look (Node D)). l.config) look;
    number = ap (λ (l : Look (Node D)). l.number) look;
    begun = ap (λ (l : Look (Node D)). begun_of g l.node) look;
    terms = terms;
    since = [];
    deeds = ap (λ (l : Look (Node D)). l.deeds) look;
    moments = as_before old.look new.look look;
    calls = and_none (calls_in old.passed) (calls_in new.passed) calls;
    log = subst (λ (b : Bool). LogGains old.log_failed b [] (logged_in old.passed) (logged_in new.passed)) (sym log_failed)
        (subst (λ (m : List ℕ). LogGains old.log_failed old.log_failed [] (logged_in old.passed) m) (sym log) (nothing_shown old.log_failed (logged_in old.passed)));
    sent = sent ∙ sym (append-nil old.sent);
    bots = bots;
    gained = [];
    seats = seats ∙ sym (append-nil (seats_in old.passed));
    heard = heard ∙ sym (append-nil old.heard);
    were = tt;
    hosts = hosts_none old.guests new.guests guests;
    let_in = tt;
    came = tt;
    given = λ but. fits_kept old new look seats loosened (but_nothing old but);
    somebody = λ but. still_somebody old.bots new.bots old.sittings new.sittings sat loosened (but_nobody [] old.bots old.sittings refl but);
    hears = hears;
    asked = asked;
    waits = waits;
    carried = carried;
    once = λ was. once_kept old new look started was;
  }

  -- one after the other
  unfoldable pub on : {taken : List Incoming} {one two three : Served (Node D)} → GoesOn g taken one two → GoesOn g [] two three → GoesOn g taken one three
  on {taken} {one} {two} {three} first then_on = record {
    config = then_on.config ∙ first.config;
    number = then_on.number ∙ first.number;
    begun = then_on.begun ∙ first.begun;
    terms = then_on.terms ∙ first.terms;
    since = then_on.since ++ first.since;
    deeds = then_on.deeds ∙ (ap (λ (m : List Deed). then_on.since ++ m) first.deeds ∙ sym (append_assoc then_on.since first.since one.look.deeds));
    moments = beginning_on one.look.moments two.look.moments three.look.moments first.moments then_on.moments;
    calls = calls_on (calls_in one.passed) (calls_in two.passed) (calls_in three.passed) first.since then_on.since first.calls then_on.calls;
    log = subst (λ (m : List ℕ). LogGains one.log_failed three.log_failed m (logged_in one.passed) (logged_in three.passed)) (sym (shown_by_both then_on.since first.since))
        (shown_on one.log_failed two.log_failed three.log_failed (shown_log first.since) (shown_log then_on.since) (logged_in one.passed) (logged_in two.passed) (logged_in three.passed)
        first.log then_on.log);
    sent = subst (λ (m : List Passage). three.sent ≡ one.sent ++ m) (sym (frames_by_both then_on.since first.since))
        (then_on.sent ∙ (ap (λ (m : List Passage). m ++ frames_by then_on.since) first.sent ∙ append_assoc one.sent (frames_by first.since) (frames_by then_on.since)));
    bots = keep_on (looks_on first) (looks_on then_on) first.bots then_on.bots;
    gained = first.gained ++ then_on.gained;
    seats = subst (λ (m : List Passage). seats_in three.passed ≡ seats_in one.passed ++ m) (sym (seats_of_more first.gained then_on.gained))
        (then_on.seats ∙ (ap (λ (m : List Passage). m ++ seats_of then_on.gained) first.seats ∙ append_assoc (seats_in one.passed) (seats_of first.gained) (seats_of then_on.gained)));
    heard = subst (λ (m : List Passage). three.heard ≡ one.heard ++ m) (sym (peers_of_more first.gained then_on.gained))
        (then_on.heard ∙ (ap (λ (m : List Passage). m ++ peers_of then_on.gained) first.heard ∙ append_assoc one.heard (peers_of first.gained) (peers_of then_on.gained)));
    came = subst (λ (m : List Incoming). IsPartOf m (taken ++ (first.gained ++ then_on.gained))) (sym (came_by_both then_on.since first.since))
        (subst (λ (m : List Incoming). IsPartOf (came_by first.since ++ came_by then_on.since) m) (append_assoc taken first.gained then_on.gained)
        (both (came_by first.since) (came_by then_on.since) (taken ++ first.gained) then_on.gained first.came then_on.came));
    hosts = hosts_on one.guests two.guests three.guests first.hosts then_on.hosts;
    let_in = let_in_both three.guests first.gained then_on.gained (let_in_on two.guests three.guests first.gained then_on.hosts first.let_in) then_on.let_in;
    were = heard_both three.own three.lines first.gained then_on.gained (heard_further two.own three.own two.lines three.lines first.gained then_on.hears first.were) then_on.were;
    given = λ but. then_on.given (all_but_nothing two (first.given but));
    somebody = λ but. then_on.somebody (all_but_none [] two.bots two.sittings (first.somebody but));
    hears = hears_on one.own two.own three.own one.lines two.lines three.lines first.hears then_on.hears;
    asked = gives_on two.look three.look one.askers two.askers three.askers then_on.number then_on.config first.asked then_on.asked;
    waits = waits_on one.apart two.apart three.apart one.bots two.bots three.bots first.waits then_on.waits;
    carried = λ is. then_on.carried (first.carried is);
    once = λ was. then_on.once (first.once was);
  }

  -- what was taken comes to the node then
  unfoldable pub taken_up : {taken : List Incoming} {one two three : Served (Node D)} → Takes g taken one two → GoesOn g taken two three → GoesOn g [] one three
  taken_up {taken} {one} {two} {three} takes then_on = record {
    config = then_on.config ∙ ap (λ (l : Look (Node D)). l.config) takes.look;
    number = then_on.number ∙ ap (λ (l : Look (Node D)). l.number) takes.look;
    begun = then_on.begun ∙ ap (λ (l : Look (Node D)). begun_of g l.node) takes.look;
    terms = then_on.terms ∙ takes.terms;
    since = then_on.since;
    deeds = then_on.deeds ∙ ap (λ (l : Look (Node D)). then_on.since ++ l.deeds) takes.look;
    moments = beginning_on one.look.moments two.look.moments three.look.moments (as_before one.look two.look takes.look) then_on.moments;
    calls = then_on.calls ∙ ap (λ (n : ℕ). n + length then_on.since) takes.calls;
    log = subst (λ (b : Bool). LogGains b three.log_failed (shown_log then_on.since) (logged_in one.passed) (logged_in three.passed)) takes.log_failed
        (subst (λ (m : List ℕ). LogGains two.log_failed three.log_failed (shown_log then_on.since) m (logged_in three.passed)) takes.log then_on.log);
    sent = then_on.sent ∙ ap (λ (m : List Passage). m ++ frames_by then_on.since) takes.sent;
    bots = keep_on (as_before one.look two.look takes.look) (looks_on then_on) takes.bots then_on.bots;
    gained = taken ++ then_on.gained;
    seats = subst (λ (m : List Passage). seats_in three.passed ≡ seats_in one.passed ++ m) (sym (seats_of_more taken then_on.gained))
        (then_on.seats ∙ (ap (λ (m : List Passage). m ++ seats_of then_on.gained) takes.seats ∙ append_assoc (seats_in one.passed) (seats_of taken) (seats_of then_on.gained)));
    heard = subst (λ (m : List Passage). three.heard ≡ one.heard ++ m) (sym (peers_of_more taken then_on.gained))
        (then_on.heard ∙ (ap (λ (m : List Passage). m ++ peers_of then_on.gained) takes.heard ∙ append_assoc one.heard (peers_of taken) (peers_of then_on.gained)));
    hosts = hosts_on one.guests two.guests three.guests takes.hosts then_on.hosts;
    let_in = let_in_both three.guests taken then_on.gained (let_in_on two.guests three.guests taken then_on.hosts takes.let_in) then_on.let_in;
    were = heard_both three.own three.lines taken then_on.gained (heard_further two.own three.own two.lines three.lines taken then_on.hears takes.were) then_on.were;
    came = then_on.came;
    given = λ but. then_on.given (taken_fits taken one two takes.look takes.seats takes.sittings (but_nothing one but));
    somebody = λ but. then_on.somebody (takes.somebody (but_nobody [] one.bots one.sittings refl but));
    hears = hears_on one.own two.own three.own one.lines two.lines three.lines takes.hears then_on.hears;
    asked = none_gives_on three.look one.askers two.askers three.askers takes.asked then_on.asked;
    waits = waits_on one.apart two.apart three.apart one.bots two.bots three.bots takes.waits then_on.waits;
    carried = λ is. then_on.carried (takes.carried is);
    once = λ was. then_on.once (once_kept one two takes.look takes.started was);
  }

  -- and may be left out, where nothing of it is of seats
  unfoldable pub let_go : {taken : List Incoming} {old new : Served (Node D)} → seats_of taken ≡ [] → GoesOn g [] old new → GoesOn g taken old new
  let_go {taken} {old} none goes = record {
    config = goes.config;
    number = goes.number;
    begun = goes.begun;
    terms = goes.terms;
    since = goes.since;
    deeds = goes.deeds;
    moments = goes.moments;
    calls = goes.calls;
    log = goes.log;
    sent = goes.sent;
    bots = goes.bots;
    gained = goes.gained;
    seats = goes.seats;
    heard = goes.heard;
    were = goes.were;
    hosts = goes.hosts;
    let_in = goes.let_in;
    came = left_out (came_by goes.since) taken goes.gained goes.came;
    given = λ but. goes.given (but_none_of_seats taken old none but);
    somebody = λ but. goes.somebody (all_but_none [] old.bots old.sittings (but_nobody (seats_of taken) old.bots old.sittings none but));
    hears = goes.hears;
    asked = goes.asked;
    waits = goes.waits;
    carried = goes.carried;
    once = goes.once;
  }

  -- nothing happens
  unfoldable pub nothing_done : (here : Served (Node D)) → GoesOn g [] here here
  nothing_done here = still here here refl refl refl (bots_still here.look here.bots) refl refl refl refl (λ seat. inl refl) (hears_none here.own here.own here.lines here.lines refl refl) (λ place within. inl refl) (λ is. is) refl refl refl (waits_same here.apart here.bots) (sat_still here.bots)

  -- what was taken and isn't given
  pub not_given : {taken : List Incoming} {one two : Served (Node D)} → seats_of taken ≡ [] → Takes g taken one two → GoesOn g [] one two
  not_given {two = two} none takes = taken_up takes (let_go none (nothing_done two))

  -- ---- where nothing comes meanwhile

  pub does_on : {taken : List Incoming} {one two three : Served (Node D)} → Does g taken one two → Does g [] two three → Does g taken one three
  unfolding on
  does_on first then_on = (on first.0 then_on.0, ap (λ (m : List Incoming). m ++ then_on.0.gained) first.1 ∙ then_on.1)

  pub let_go_so : {taken : List Incoming} {old new : Served (Node D)} → seats_of taken ≡ [] → Does g [] old new → Does g taken old new
  unfolding let_go
  let_go_so none does = (let_go none does.0, does.1)

  -- ---- where what comes meanwhile is such

  pub with_on : (such also all : List Incoming → Type 0) {one two three : Served (Node D)} → ((xs ys : List Incoming) → such xs → also ys → all (xs ++ ys)) → GoesOnWith g such one two → GoesOnWith g also two three
      → GoesOnWith g all one three
  unfolding on
  with_on such also all join first then_on = (on first.0 then_on.0, join first.0.gained then_on.0.gained first.1 then_on.1)

  pub with_so : (such also : List Incoming → Type 0) {one two : Served (Node D)} → ((xs : List Incoming) → such xs → also xs) → GoesOnWith g such one two → GoesOnWith g also one two
  with_so such also change goes = (goes.0, change goes.0.gained goes.1)

  pub does_with : (such : List Incoming → Type 0) {one two three : Served (Node D)} → Does g [] one two → GoesOnWith g such two three → GoesOnWith g such one three
  unfolding on
  does_with such first then_on = (on first.0 then_on.0, subst such (sym (ap (λ (m : List Incoming). m ++ then_on.0.gained) first.1)) then_on.1)

  pub with_does : (such : List Incoming → Type 0) {one two three : Served (Node D)} → GoesOnWith g such one two → Does g [] two three → GoesOnWith g such one three
  unfolding on
  with_does such first then_on = (on first.0 then_on.0, subst such (sym (ap (λ (m : List Incoming). first.0.gained ++ m) then_on.1 ∙ append-nil first.0.gained)) first.1)

  pub does_such : (such : List Incoming → Type 0) {one two : Served (Node D)} → such [] → Does g [] one two → GoesOnWith g such one two
  does_such such none does = (does.0, subst such (sym does.1) none)

  -- what was taken, and given to the node
  pub taken_with : (such : List Incoming → Type 0) {taken : List Incoming} {one two three : Served (Node D)} → Takes g taken one two → Does g taken two three → such taken → GoesOnWith g such one three
  unfolding taken_up
  taken_with such {taken} takes does is = (taken_up takes does.0, subst such (sym (ap (λ (m : List Incoming). taken ++ m) does.1 ∙ append-nil taken)) is)

  pub nothing_taken : (such : List Incoming → Type 0) {one two : Served (Node D)} → such [] → Takes g [] one two → GoesOnWith g such one two
  unfolding taken_up nothing_done still
  nothing_taken such {two = two} none takes = (taken_up takes (nothing_done two), none)

  -- ---- one thing

  pub frame_does : {one two : Served (Node D)} → Does g [] one two → GoesOnWith g AreFrames one two
  frame_does does = does_such AreFrames no_frames does

  -- one thing of a peer was taken, and given to the node
  pub next_taken : {taken : List Incoming} {one two three : Served (Node D)} (result : Taken) → seats_of taken ≡ [] → Takes g taken one two → Does g taken two three → StopsAtLife result taken → TakesNext g result one three
  next_taken kind.Nothing none takes does stops = taken_with AreFrames takes does (record { seats = none; lives = stops })
  next_taken kind.One none takes does stops = taken_with AreFrames takes does (record { seats = none; lives = stops })
  next_taken kind.Last none takes does stops = taken_with ComeOfPeers takes does (record { seats = none; lives = stops })
