-- A run of turns, step by step.
use Rattle.std.proofs.Common.{◌≡◌, inl, inr, ℕ, ◌+◌, ◌-◌, ◌^◌, max, Bool, true, false, cond, List, [], ◌∷◌, ◌++◌, Some, None, Ok, Err, refl, sym, ap, subst, ◌∙◌, append_assoc, arith}
use Rattle.std.specs.Prelude.{Option, Result, OnOk, length}
use Rattle.std.proofs.lemmas.List.{append-nil}
use Rattle.std.proofs.lemmas.List.Sums.{fold_push}
use Rattle.promise_store.specs.declared.disk.Disk.{Ghosts}
use Rattle.node_wires.specs.declared.wire.Wire.{Ghosts as OfWire}
use Rattle.peer_codes.specs.declared.hello.Life.{Life}
use Rattle.dealer_kind.specs.Plans.{Plan}
use Rattle.dealer_node.specs.Nodes.{Node}
use Rattle.dealer_node.specs.declared.fault.NodeFault.{NodeFault}
use Rattle.dealer_node.specs.declared.fault.NodeFault.TheVariants.{Spent}
use Rattle.stations.specs.Stations.{Look}
use Rattle.operator_notes.specs.Notes.{AreNoted}
use Rattle.node_service.specs.Going.{GoesOn as WentOn, TurnsAreOne}
use Rattle.node_service.specs.Served.{Served}
use Rattle.node_service.specs.Ending.{is_well, IsFault, IsOverAt}
use Rattle.node_service.specs.Meaning.{IsMeant, IsKnownEverywhere}
use Rattle.node_service.specs.Company.{IsShown, AreShown, ShownStays}
use Rattle.node_service.specs.Serving.{served_of, told_in, outcome_in, ending_in}
use Rattle.node_service.specs.declared.outcome.Outcome.{Outcome}
use Rattle.node_service.specs.declared.outcome.Outcome.TheVariants as leaves
use Rattle.node_service.specs.declared.server.NodeServer.{NodeServer}
use Rattle.node_service.specs.declared.server_notice.ServerNotice.{ServerNotice}
use Rattle.node_service.specs.declared.server_notice.ServerNotice.TheVariants as tells
use Rattle.node_runs.specs.ServerNotes.{notice_lines, group_lines, Later}
use Rattle.node_runs.specs.NoteGroups.{no_place}
use Rattle.node_runs.specs.NoteLimits.{IsNoneDue, counted_at, latest}
use Rattle.operator_notes.specs.Notes.{IsNoted}
use Rattle.node_service.proofs.Going.{nothing_done}
use Rattle.node_runs.proofs.Waiting.{whole_account}
use Rattle.node_runs.specs.Tellers as teller
use Rattle.node_runs.specs.Tellers.{TellsLater, TellsRest, TurnsAway}
use Rattle.node_runs.specs.WaitingNotes.{Holds, TakesCount, TakesOne, newest_of, notice_at, with_line}
use Rattle.node_runs.specs.declared.note_limits.Count.{Count}
use Rattle.node_runs.specs.declared.waiting_notes.WaitingNotes.{WaitingNotes}
use Rattle.node_runs.specs.Running as run
use Rattle.node_runs.specs.Running.{Turns, Tells, TellsOne, HasFirstReason, HasLife, EndsBy, IsStart, IsOneTurn, later_lines, begin_line, Went, Ran, GoesOnTo, end_of, by_fault, by_turn, unkept, by_count}
use Rattle.node_runs.specs.declared.node_end.NodeEnd.{NodeEnd}

-- what is told at a node goes by its match and its number alone
tells_at : {K N : Type 0} (kept : K → ℕ → Life → K → Type 0) (look other : Look N) (port : ℕ) (thing : ServerNotice) (is_told : Bool) (held held_after : Option (List ℕ)) (lives lives_after : K) → other.config ≡ look.config
    → other.number ≡ look.number → TellsOne kept other port thing is_told held held_after lives lives_after → TellsOne kept look port thing is_told held held_after lives lives_after
tells_at kept look other port thing is_told held held_after lives lives_after config number one = record {
  keeps = one.keeps;
  noted = subst (λ (n : ℕ). AreNoted (cond is_told (notice_lines look.config.setting.names n port thing) []) held held_after) number
      (subst (λ (plan : Plan). AreNoted (cond is_told (notice_lines plan.setting.names other.number port thing) []) held held_after) config one.noted);
}

-- and so are the lines of what waited
later_at : {N : Type 0} (look other : Look N) (port time : ℕ) (things : List ServerNotice) (held held_after : Option (List ℕ)) (more : List Count) → other.config ≡ look.config → other.number ≡ look.number
    → Later (later_lines other port things) time held more held_after → Later (later_lines look port things) time held more held_after
later_at look other port time things held held_after more config number later =
    subst (λ (n : ℕ). Later (λ (group count : ℕ). group_lines look.config.setting.names n port (newest_of group things) group count) time held more held_after) number
    (subst (λ (plan : Plan). Later (λ (group count : ℕ). group_lines plan.setting.names other.number port (newest_of group things) group count) time held more held_after) config later)

-- and those of callers who were turned away
away_at : {N : Type 0} (look other : Look N) (port : ℕ) (things : List ServerNotice) (count : ℕ) (is_told : Bool) (held held_after : Option (List ℕ)) → other.config ≡ look.config → other.number ≡ look.number
    → AreNoted (cond is_told (later_lines other port things no_place count) []) held held_after → AreNoted (cond is_told (later_lines look port things no_place count) []) held held_after
away_at look other port things count is_told held held_after config number noted =
    subst (λ (n : ℕ). AreNoted (cond is_told (group_lines look.config.setting.names n port (newest_of no_place things) no_place count) []) held held_after) number
    (subst (λ (plan : Plan). AreNoted (cond is_told (group_lines plan.setting.names other.number port (newest_of no_place things) no_place count) []) held held_after) config noted)

-- what is told once callers were turned away, or none
record Then {K N : Type 0} (kept : K → ℕ → Life → K → Type 0) (look : Look N) (port : ℕ) (start : Option (List ℕ)) (first : K) (began : ℕ) (told : List ServerNotice) (moments : List ℕ) (held : Option (List ℕ)) (lives : K)
    (notes : WaitingNotes) : Type 0 where
  came : List Count
  lines : List Count
  noted : Tells kept look port start first began told moments came lines held lives
  holds : Holds told came lines notes

after_away : {K N : Type 0} (kept : K → ℕ → Life → K → Type 0) (look other : Look N) (port : ℕ) (start : Option (List ℕ)) (first : K) (began : ℕ) (told : List ServerNotice) (moments : List ℕ) (came lines : List Count) (count : ℕ)
    (held held_after : Option (List ℕ)) (lives : K) (notes notes_after : WaitingNotes) → other.config ≡ look.config → other.number ≡ look.number → notes.limits.clock ≡ latest began moments
    → Tells kept look port start first began told moments came lines held lives → Holds told came lines notes → TurnsAway other port count notes notes_after held held_after
    → Then kept look port start first began told moments held_after lives notes_after
after_away kept look other port start first began told moments came lines count held held_after lives notes notes_after config number clock noted holds (teller.TurnsAway.none nobody same) =
    record { came = came; lines = lines; noted = noted; holds = subst (λ (n : WaitingNotes). Holds told came lines n) (sym same) holds }
after_away kept look other port start first began told moments came lines count held held_after lives notes notes_after config number clock noted holds (teller.TurnsAway.some is_told after takes lined) =
    let at_time : TakesCount (latest began moments) no_place count is_told notes notes_after = subst (λ (t : ℕ). TakesCount t no_place count is_told notes notes_after) clock takes in
    record {
      came = came ++ counted_at (latest began moments) no_place count ∷ [];
      lines = with_line lines is_told (counted_at (latest began moments) no_place count);
      noted = run.Tells.turned_away told moments came lines count is_told held after lives noted (away_at look other port told count is_told held after config number (lined told came lines holds)) (at_time.at_once told came lines holds);
      holds = at_time.holds told came lines holds;
    }

-- where a process ends well its log was written
pub well_ended : (outcome : Outcome) (answer : Result (Unit {0}) NodeEnd) → end_of outcome ≡ Some answer → OnOk answer (is_well outcome ≡ true)
well_ended leaves.GoesOn answer is = cc
well_ended leaves.Over (Ok done) is = refl
well_ended leaves.Over (Err why) is = tt
well_ended leaves.StoreReplaced (Ok done) is = cc
well_ended leaves.StoreReplaced (Err why) is = tt
well_ended leaves.StoreOlder (Ok done) is = cc
well_ended leaves.StoreOlder (Err why) is = tt
well_ended (leaves.Failed fault) (Ok done) is = cc
well_ended (leaves.Failed fault) (Err why) is = tt
well_ended leaves.LogFailed (Ok done) is = cc
well_ended leaves.LogFailed (Err why) is = tt

-- and the match is over
pub over_ended : (outcome : Outcome) (answer : Result (Unit {0}) NodeEnd) → end_of outcome ≡ Some answer → OnOk answer (outcome ≡ leaves.Over)
over_ended leaves.GoesOn answer is = cc
over_ended leaves.Over (Ok done) is = refl
over_ended leaves.Over (Err why) is = tt
over_ended leaves.StoreReplaced (Ok done) is = cc
over_ended leaves.StoreReplaced (Err why) is = tt
over_ended leaves.StoreOlder (Ok done) is = cc
over_ended leaves.StoreOlder (Err why) is = tt
over_ended (leaves.Failed fault) (Ok done) is = cc
over_ended (leaves.Failed fault) (Err why) is = tt
over_ended leaves.LogFailed (Ok done) is = cc
over_ended leaves.LogFailed (Err why) is = tt

-- a further turn comes only where one goes on
goes_on_only : (outcome : Outcome) → end_of outcome ≡ None → outcome ≡ leaves.GoesOn
goes_on_only leaves.GoesOn is = refl
goes_on_only leaves.Over is = cc
goes_on_only leaves.StoreReplaced is = cc
goes_on_only leaves.StoreOlder is = cc
goes_on_only (leaves.Failed fault) is = cc
goes_on_only leaves.LogFailed is = cc

length_more : (told : List ServerNotice) (thing : ServerNotice) → length (told ++ thing ∷ []) ≡ length told + 1
length_more [] thing = refl
length_more (x ∷ told) thing = let more = length_more told thing in omega (arith, more)

module _ {D W : Type 0} {disk : Ghosts D} {wire : OfWire W} where
  -- after so many steps, turns and things that were told
  pub record SoFar {K : Type 0} (kept : K → ℕ → Life → K → Type 0) (port : ℕ) (started : NodeServer D W disk wire) (first : Outcome) (start : Option (List ℕ)) (lives_first : K)
      (now : NodeServer D W disk wire) (outcome : Outcome) (steps : ℕ) (held : Option (List ℕ)) (lives : K) (notes : WaitingNotes) : Type 0 where
    pub count : ℕ
    pub told : List ServerNotice
    pub moments : List ℕ
    pub came : List Count
    pub lines : List Count
    pub last : NodeServer D W disk wire
    pub turns : Turns started first count moments (told ++ told_in now) outcome last
    pub served : served_of now ≡ served_of last
    pub noted : Tells kept (served_of started).look port start lives_first started.left told moments came lines held lives
    pub holds : Holds told came lines notes
    pub clock : notes.limits.clock ≡ latest started.left moments
    pub counted : count + length told ≡ steps
    pub config : (served_of now).look.config ≡ (served_of started).look.config
    pub number : (served_of now).look.number ≡ (served_of started).look.number
    pub whole : GoesOnTo disk (served_of started) (served_of now)
    pub log : is_well outcome ≡ true → (served_of now).log_failed ≡ false
    pub over : outcome ≡ leaves.Over → IsOverAt (served_of now).look.node
    pub shown : AreShown (served_of now).own (served_of now).lines told
    pub further : outcome ≡ leaves.GoesOn → outcome_in now ≡ leaves.GoesOn

  module _ {K : Type 0} (kept : K → ℕ → Life → K → Type 0) (port : ℕ) (started : NodeServer D W disk wire) (first : Outcome) (start : Option (List ℕ)) (lives_first : K) where
    -- nothing is done yet
    pub begun : (notes : WaitingNotes) → Holds [] [] [] notes → notes.limits.clock ≡ started.left → (is_well first ≡ true → (served_of started).log_failed ≡ false) → (first ≡ leaves.Over → IsOverAt (served_of started).look.node)
        → (first ≡ leaves.GoesOn → outcome_in started ≡ leaves.GoesOn) → SoFar kept port started first start lives_first started first 0 start lives_first notes
    begun notes holds clock log over further = record {
      count = 0;
      told = [];
      moments = [];
      came = [];
      lines = [];
      last = started;
      turns = run.Turns.none;
      served = refl;
      noted = run.Tells.none;
      holds = holds;
      clock = clock;
      counted = refl;
      config = refl;
      number = refl;
      whole = λ before goes. goes;
      log = log;
      over = over;
      shown = tt;
      further = further;
    }

    -- one thing more was told
    pub told_one : ShownStays → (now next : NodeServer D W disk wire) (outcome : Outcome) (steps : ℕ) (thing : ServerNotice) (held held_after : Option (List ℕ)) (lives lives_after : K) (notes notes_after : WaitingNotes) (is_told : Bool)
        → SoFar kept port started first start lives_first now outcome steps held lives notes → told_in now ≡ thing ∷ told_in next → served_of next ≡ served_of now
        → outcome_in next ≡ outcome_in now → TellsOne kept (served_of next).look port thing is_told held held_after lives lives_after → TakesOne notes.limits.clock thing is_told notes notes_after
        → notes_after.limits.clock ≡ notes.limits.clock → IsShown (served_of now).own (served_of now).lines thing → SoFar kept port started first start lives_first next outcome (steps + 1) held_after lives_after notes_after
    told_one law now next outcome steps thing held held_after lives lives_after notes notes_after is_told so is same stays one takes still shown =
        let at_time : TakesOne (latest started.left so.moments) thing is_told notes notes_after = subst (λ (t : ℕ). TakesOne t thing is_told notes notes_after) so.clock takes in
        record {
          count = so.count;
          told = so.told ++ thing ∷ [];
          moments = so.moments;
          came = so.came ++ notice_at (latest started.left so.moments) thing ∷ [];
          lines = with_line so.lines is_told (notice_at (latest started.left so.moments) thing);
          last = so.last;
          turns = subst (λ (l : List ServerNotice). Turns started first so.count so.moments l outcome so.last) (sym (append_assoc so.told (thing ∷ []) (told_in next)))
              (subst (λ (l : List ServerNotice). Turns started first so.count so.moments (so.told ++ l) outcome so.last) is so.turns);
          served = same ∙ so.served;
          noted = run.Tells.one so.told thing so.moments so.came so.lines is_told held held_after lives lives_after so.noted
              (tells_at kept (served_of started).look (served_of next).look port thing is_told held held_after lives lives_after (ap (λ (s : Served (Node D)). s.look.config) same ∙ so.config)
              (ap (λ (s : Served (Node D)). s.look.number) same ∙ so.number) one) (at_time.at_once so.told so.came so.lines so.holds);
          holds = at_time.holds so.told so.came so.lines so.holds;
          clock = still ∙ so.clock;
          counted = let more = length_more so.told thing in let counted = so.counted in omega (arith, more, counted);
          config = ap (λ (s : Served (Node D)). s.look.config) same ∙ so.config;
          number = ap (λ (s : Served (Node D)). s.look.number) same ∙ so.number;
          whole = λ before goes. subst (λ (s : Served (Node D)). WentOn disk [] before s) (sym same) (so.whole before goes);
          log = λ well. ap (λ (s : Served (Node D)). s.log_failed) same ∙ so.log well;
          over = λ ends. subst (λ (s : Served (Node D)). IsOverAt s.look.node) (sym same) (so.over ends);
          shown = subst (λ (s : Served (Node D)). AreShown s.own s.lines (so.told ++ thing ∷ [])) (sym same)
              (law.and_one (served_of now).own (served_of now).lines so.told thing so.shown shown);
          further = λ on. stays ∙ so.further on;
        }

    -- one turn more was taken
    pub turned : TurnsAreOne disk → ShownStays → (now emptied next : NodeServer D W disk wire) (before outcome : Outcome) (steps : ℕ) (held between held_after : Option (List ℕ)) (lives : K) (notes notes_due notes_after : WaitingNotes)
        (away : ℕ)
        → SoFar kept port started first start lives_first now before steps held lives notes → TellsLater (served_of next).look port (max notes.limits.clock next.left) notes notes_due held between
        → notes_due.limits.clock ≡ max notes.limits.clock next.left → TurnsAway (served_of next).look port away notes_due notes_after between held_after → notes_after.limits.clock ≡ notes_due.limits.clock → end_of before ≡ None → told_in now ≡ [] → served_of emptied ≡ served_of now
        → IsOneTurn disk (served_of emptied) (served_of next) outcome → outcome_in emptied ≡ outcome_in now → (outcome ≡ leaves.GoesOn → outcome_in next ≡ leaves.GoesOn) → (outcome_in emptied ≡ leaves.GoesOn → outcome ≡ leaves.Over → IsKnownEverywhere next next.left)
        → (outcome_in emptied ≡ leaves.GoesOn → IsFault outcome → IsMeant next outcome) → (outcome ≡ leaves.Over → ending_in next ≡ leaves.GoesOn)
        → SoFar kept port started first start lives_first next outcome (steps + 1) held_after lives notes_after
    turned law shown now emptied next before outcome steps held between held_after lives notes notes_due notes_after away so later due_at turns_away away_at on is same goes stays further known fault behind =
        let going : outcome_in emptied ≡ leaves.GoesOn = stays ∙ so.further (goes_on_only before on) in
        let turn : IsOneTurn disk (served_of now) (served_of next) outcome = subst (λ (s : Served (Node D)). IsOneTurn disk s (served_of next) outcome) same goes in
        let onwards : WentOn disk [] (served_of now) (served_of next) = turn.goes in
        let config = onwards.config ∙ so.config in
        let number = onwards.number ∙ so.number in
        let moments : List ℕ = so.moments ++ next.left ∷ [] in
        let now_is : max notes.limits.clock next.left ≡ latest started.left moments =
        ap (λ (t : ℕ). max t next.left) so.clock ∙ sym (fold_push max started.left so.moments next.left) in
        let due = later so.told so.came so.lines so.holds in
        let due_then = subst (λ (t : ℕ). Later (later_lines (served_of next).look port so.told) t held due.more between) now_is due.told in
        let none_then = subst (λ (t : ℕ). IsNoneDue so.came (so.lines ++ due.more) t) now_is due.none in
        let then = after_away kept (served_of started).look (served_of next).look port start lives_first started.left so.told moments so.came (so.lines ++ due.more) away between held_after lives notes_due notes_after config number
        (due_at ∙ now_is) (run.Tells.later so.told so.moments next.left so.came so.lines due.more held between lives so.noted
        (later_at (served_of started).look (served_of next).look port (latest started.left moments) so.told held between due.more config number due_then) none_then) due.holds turns_away in
        record {
          count = so.count + 1;
          told = so.told;
          moments = moments;
          came = then.came;
          lines = then.lines;
          last = next;
          turns = run.Turns.one so.count so.moments so.told so.last next outcome
              (subst (λ (o : Outcome). Turns started first so.count so.moments so.told o so.last) (goes_on_only before on)
              (subst (λ (l : List ServerNotice). Turns started first so.count so.moments l before so.last) (append-nil so.told)
              (subst (λ (l : List ServerNotice). Turns started first so.count so.moments (so.told ++ l) before so.last) is so.turns)))
              (subst (λ (s : Served (Node D)). IsOneTurn disk s (served_of next) outcome) so.served turn) (record { known = known going; fault = fault going; behind = behind; further = further });
          served = refl;
          noted = then.noted;
          holds = then.holds;
          clock = away_at ∙ (due_at ∙ now_is);
          counted = let counted = so.counted in omega (arith, counted);
          config = config;
          number = number;
          whole = λ earlier going. law [] earlier (served_of now) (served_of next) (so.whole earlier going) onwards;
          log = turn.left.log;
          over = turn.over;
          shown = shown.on (served_of now).own (served_of next).own (served_of now).lines (served_of next).lines so.told onwards.hears so.shown;
          further = further;
        }

    -- how it ends: by a turn
    pub ended : (now emptied : NodeServer D W disk wire) (outcome : Outcome) (answer : Result (Unit {0}) NodeEnd) (steps : ℕ) (held : Option (List ℕ)) (lives : K) (notes : WaitingNotes)
        → SoFar kept port started first start lives_first now outcome steps held lives notes → told_in now ≡ [] → served_of emptied ≡ served_of now → end_of outcome ≡ Some answer
        → Went kept port started first answer emptied start held lives_first lives notes
    ended now emptied outcome answer steps held lives notes so is same ends = record {
      count = so.count;
      outcome = outcome;
      last = so.last;
      moments = so.moments;
      waiting = so.told;
      turns = subst (λ (l : List ServerNotice). Turns started first so.count so.moments l outcome so.last) (append-nil so.told)
          (subst (λ (l : List ServerNotice). Turns started first so.count so.moments (so.told ++ l) outcome so.last) is so.turns);
      served = same ∙ so.served;
      told = so.told;
      came = so.came;
      lines = so.lines;
      lives_then = lives;
      noted = so.noted;
      holds = so.holds;
      clock = so.clock;
      shown = subst (λ (s : Served (Node D)). AreShown s.own s.lines so.told) (sym same) so.shown;
      keeper = inl refl;
      ends = by_turn so.told answer ends;
    }

    -- by a life that couldn't be kept
    pub stopped : (now next : NodeServer D W disk wire) (outcome : Outcome) (steps : ℕ) (thing : ServerNotice) (fault : NodeFault) (held held_after : Option (List ℕ)) (lives lives_after : K) (notes : WaitingNotes)
        → SoFar kept port started first start lives_first now outcome steps held lives notes → told_in now ≡ thing ∷ told_in next → served_of next ≡ served_of now → HasLife thing → held_after ≡ held
        → IsShown (served_of now).own (served_of now).lines thing → Went kept port started first (Err (by_fault fault)) next start held_after lives_first lives_after notes
    stopped now next outcome steps thing fault held held_after lives lives_after notes so is same has noted shown = record {
      count = so.count;
      outcome = outcome;
      last = so.last;
      moments = so.moments;
      waiting = so.told ++ tells.Joined has.0 (Some has.1.0) ∷ told_in next;
      turns = subst (λ (t : ServerNotice). Turns started first so.count so.moments (so.told ++ t ∷ told_in next) outcome so.last) has.1.1
          (subst (λ (l : List ServerNotice). Turns started first so.count so.moments (so.told ++ l) outcome so.last) is so.turns);
      served = same ∙ so.served;
      told = so.told;
      came = so.came;
      lines = so.lines;
      lives_then = lives;
      noted = subst (λ (h : Option (List ℕ)). Tells kept (served_of started).look port start lives_first started.left so.told so.moments so.came so.lines h lives) (sym noted) so.noted;
      holds = so.holds;
      clock = so.clock;
      shown = subst (λ (s : Served (Node D)). AreShown s.own s.lines so.told) (sym same) so.shown;
      keeper = inr (
        has.0,
        (
          has.1.0,
          (
            told_in next,
            (
              refl,
              subst (λ (s : Served (Node D)). IsShown s.own s.lines (tells.Joined has.0 (Some has.1.0))) (sym same)
                  (subst (λ (t : ServerNotice). IsShown (served_of now).own (served_of now).lines t) has.1.1 shown),
            ),
          ),
        ),
      );
      ends = unkept so.told (told_in next) has.0 has.1.0 fault;
    }

    -- by the count of steps
    pub spent : (now : NodeServer D W disk wire) (outcome : Outcome) (steps : ℕ) (held : Option (List ℕ)) (lives : K) (notes : WaitingNotes)
        → SoFar kept port started first start lives_first now outcome steps held lives notes → steps ≡ 2 ^ 64 - 1
        → Went kept port started first (Err (by_fault Spent)) now start held lives_first lives notes
    spent now outcome steps held lives notes so all = record {
      count = so.count;
      outcome = outcome;
      last = so.last;
      moments = so.moments;
      waiting = so.told ++ told_in now;
      turns = so.turns;
      served = so.served;
      told = so.told;
      came = so.came;
      lines = so.lines;
      lives_then = lives;
      noted = so.noted;
      holds = so.holds;
      clock = so.clock;
      shown = so.shown;
      keeper = inl refl;
      ends = by_count so.told (told_in now) (so.counted ∙ all);
    }

  -- the whole run: the start, the turns, and what waited then
  pub ran : {K : Type 0} (kept : K → ℕ → Life → K → Type 0) (port at there : ℕ) (old started new : NodeServer D W disk wire) (first : Outcome) (answer : Result (Unit {0}) NodeEnd)
      (held between behind held_after : Option (List ℕ)) (lives lives_after : K) (notes : WaitingNotes) → IsStart disk (served_of old) (served_of started) first → (outcome_in old ≡ leaves.GoesOn → HasFirstReason started first)
      → ((outcome_in old ≡ leaves.GoesOn → ⊥) → started ≡ old) → IsNoted (begin_line (served_of started).look) held between → at ≡ port → there ≡ at → Went kept at started first answer new between behind lives lives_after notes
      → GoesOnTo disk (served_of started) (served_of new) → TellsRest (served_of new).look there notes behind held_after → Ran kept port old answer new held held_after lives lives_after
  ran kept port at there old started new first answer held between behind held_after lives lives_after notes begins left still begun is same went goes tells =
      let onwards : WentOn disk [] (served_of started) (served_of new) = goes (served_of started) (nothing_done (served_of started)) in
      let here : TellsRest (served_of new).look at notes behind held_after = subst (λ (p : ℕ). TellsRest (served_of new).look p notes behind held_after) same tells in
      let rest = here went.told went.came went.lines went.holds in
      let last = subst (λ (t : ℕ). Later (later_lines (served_of new).look at went.told) t behind rest.rest held_after) went.clock rest.told in
      subst (λ (p : ℕ). Ran kept p old answer new held held_after lives lives_after) is (record {
        started = started;
        first = first;
        begins = begins;
        left = left;
        still = still;
        between = between;
        begun = begun;
        behind = behind;
        notes = notes;
        went = went;
        rest = rest.rest;
        told_rest = later_at (served_of started).look (served_of new).look at (latest started.left went.moments) went.told behind held_after rest.rest onwards.config onwards.number last;
        whole = whole_account went.came went.lines rest.rest notes.limits went.holds.account rest.sums rest.few;
      })
