-- What a node's deeds show to its log since a start.
use Rattle.std.proofs.Common.{◌≡◌, ℕ, ◌≤◌, Bool, true, false, List, [], ◌∷◌, ◌++◌, Ok, Err, refl, sym, ap, subst, ◌∙◌, map, append_assoc}
use Rattle.std.proofs.lemmas.List.{append-nil}
use Rattle.std.proofs.Math.Logic.{∥∥₁_map}
use Rattle.promise_store.specs.declared.disk.Disk.{Ghosts}
use Rattle.match_log.specs.Laws.{LogsBeginWithTheirHeader}
use Rattle.match_log.specs.Lines.{header_line}
use Rattle.dealer_kind.specs.Kind.{Setting, log_of}
use Rattle.node_rules.specs.Standings.{Place, Standing, applied, stopped}
use Rattle.node_rules.specs.Sending.{Frame}
use Rattle.node_rules.specs.Showing.{Piece}
use Rattle.node_rules.specs.Turns.{Turn, Refusal, Down, Spent, BadFrame, Conflict, NothingToAct, still}
use Rattle.node_rules.specs.Calls.{Call, Start, Tick, Away, Line, Connect, Drop, Stop}
use Rattle.node_rules.specs.Calls as call
use Rattle.node_rules.specs.Rules.{IsTurnBy, starting, stopping, standing_after}
use Rattle.node_rules.specs.Called.{Ends, took, refused, failed, unchanged}
use Rattle.node_rules.proofs.Results.{ok_is, ok_not}
use Rattle.dealer_world.specs.Calls.{Made, added_by}
use Rattle.dealer_world.specs.Records.{Arrived}
use Rattle.dealer_world.specs.Runs.{Ruled, text_by_rule, begins_by, Keeps}
use Rattle.dealer_node.specs.Nodes.{Node}
use Rattle.stations.specs.Deeds.{Deed, Did, new_at}
use Rattle.stations.specs.Stations.{Look, Has, HoldsAfter, known_place}
use Rattle.node_service.specs.Showing.{added, shown_log}
use Rattle.node_service.specs.Logging.{HasNoStart, IsLogAt, HasOneLog}
use Rattle.node_service.proofs.RuleLogs.{Given, logged, LogsOn, turns_log}

-- texts add what their pieces do
same_added : (shown : List Piece) → added (map text_by_rule shown) ≡ logged shown
same_added [] = refl
same_added (piece ∷ more) = ap (λ (l : List ℕ). added_by piece.reader piece.text ++ l) (same_added more)

-- ---- where nothing is shown

stays : (setting : Setting) (s : Standing) (log : List ℕ) → IsLogAt setting s log → IsLogAt setting s (log ++ [])
stays setting s log is = subst (IsLogAt setting s) (sym (append-nil log)) is

goes_down : (setting : Setting) (s after : Standing) (log : List ℕ) → after.up ≡ false → IsLogAt setting s log → IsLogAt setting after (log ++ [])
goes_down setting s after log down is = record {
  commands = is.commands;
  log = append-nil log ∙ is.log;
  applied = λ up. let never : true ≡ false = sym up ∙ down in absurd (cc);
}

refused_on : (place : Place) (s : Standing) (log : List ℕ) (refusal : Refusal) → IsLogAt place.setting s log → IsLogAt place.setting (standing_after place s (Err refusal)) (log ++ [])
refused_on place s log Down is = stays place.setting s log is
refused_on place s log Spent is = stays place.setting s log is
refused_on place s log (BadFrame fault) is = stays place.setting s log is
refused_on place s log (Conflict store) is = goes_down place.setting s (stopped place s.store store) log refl is
refused_on place s log NothingToAct is = stays place.setting s log is

-- ---- a turn

module _ (given : Given) where
  moved : (place : Place) (s : Standing) (turn : Turn) (log : List ℕ) → s.up ≡ true → IsLogAt place.setting s log → LogsOn given place.setting (applied s) turn → IsLogAt place.setting turn.after (log ++ logged turn.shown)
  moved place s turn log up is logs = record {
    commands = applied turn.after;
    log = ap (λ (l : List ℕ). l ++ logged turn.shown) (is.log ∙ ap (log_of place.setting) (is.applied up)) ∙ logs;
    applied = λ after. refl;
  }

  -- by which no start began
  turn_on : (place : Place) (s : Standing) (called : Call) (turn : Turn) (log : List ℕ) (up : Bool) → s.up ≡ up → IsTurnBy up place s called (Ok turn) → begins_by up called ≡ false → IsLogAt place.setting s log
      → IsLogAt place.setting turn.after (log ++ logged turn.shown)
  turn_on place s (Start found) turn log true is_up rule none is = moved place s turn log is_up is (turns_log given place s (Start found) (Ok turn) tt rule)
  turn_on place s Tick turn log true is_up rule none is = moved place s turn log is_up is (turns_log given place s Tick (Ok turn) tt rule)
  turn_on place s Away turn log true is_up rule none is = moved place s turn log is_up is (turns_log given place s Away (Ok turn) tt rule)
  turn_on place s (call.Frame from bytes) turn log true is_up rule none is = moved place s turn log is_up is (turns_log given place s (call.Frame from bytes) (Ok turn) tt rule)
  turn_on place s (Line seat bytes) turn log true is_up rule none is = moved place s turn log is_up is (turns_log given place s (Line seat bytes) (Ok turn) tt rule)
  turn_on place s (Connect seat) turn log true is_up rule none is = moved place s turn log is_up is (turns_log given place s (Connect seat) (Ok turn) tt rule)
  turn_on place s (Drop seat) turn log true is_up rule none is = moved place s turn log is_up is (turns_log given place s (Drop seat) (Ok turn) tt rule)
  turn_on place s Stop turn log true is_up rule none is =
      subst (λ (t : Turn). IsLogAt place.setting t.after (log ++ logged t.shown)) (sym (ok_is turn (stopping place s) rule)) (goes_down place.setting s (stopped place s.store s.store) log refl is)
  turn_on place s (Start found) turn log false is_up rule none is = absurd (cc)
  turn_on place s Tick turn log false is_up rule none is = absurd (ok_not turn Down rule)
  turn_on place s Away turn log false is_up rule none is = absurd (ok_not turn Down rule)
  turn_on place s (call.Frame from bytes) turn log false is_up rule none is = absurd (ok_not turn Down rule)
  turn_on place s (Line seat bytes) turn log false is_up rule none is = absurd (ok_not turn Down rule)
  turn_on place s (Connect seat) turn log false is_up rule none is = absurd (ok_not turn Down rule)
  turn_on place s (Drop seat) turn log false is_up rule none is = absurd (ok_not turn Down rule)
  turn_on place s Stop turn log false is_up rule none is =
      subst (λ (t : Turn). IsLogAt place.setting t.after (log ++ logged t.shown)) (sym (ok_is turn (still s) rule)) (stays place.setting s log is)

  -- however a call ends
  ends_on : (place : Place) (s : Standing) (called : Call) (after : Standing) (frames : List Frame) (shown : List Piece) (ends : Ends place s called after frames shown) (arrived : List Arrived) (began : Bool)
      (log : List ℕ) → Keeps place s called after frames shown ends arrived began → began ≡ false → IsLogAt place.setting s log → IsLogAt place.setting after (log ++ logged shown)
  ends_on place s called after frames shown (took turn rule e f h) arrived began log keeps none is =
      subst (λ (m : List Piece). IsLogAt place.setting after (log ++ logged m)) (sym h)
      (subst (λ (t : Standing). IsLogAt place.setting t (log ++ logged turn.shown)) (sym e) (turn_on place s called turn log s.up refl rule (sym keeps.1 ∙ none) is))
  ends_on place s called after frames shown (refused refusal rule e f h) arrived began log keeps none is =
      subst (λ (m : List Piece). IsLogAt place.setting after (log ++ logged m)) (sym h) (subst (λ (t : Standing). IsLogAt place.setting t (log ++ [])) (sym e) (refused_on place s log refusal is))
  ends_on place s called after frames shown (failed outcome begun up rule b e f h) arrived began log keeps none is =
      subst (λ (m : List Piece). IsLogAt place.setting after (log ++ logged m)) (sym h)
      (subst (λ (t : Standing). IsLogAt place.setting t (log ++ [])) (sym e) (goes_down place.setting s (stopped place s.store begun) log refl is))
  ends_on place s called after frames shown (unchanged e f h) arrived began log keeps none is =
      subst (λ (m : List Piece). IsLogAt place.setting after (log ++ logged m)) (sym h) (subst (λ (t : Standing). IsLogAt place.setting t (log ++ [])) (sym e) (stays place.setting s log is))

  -- ---- a start that begins

  header_shown : LogsBeginWithTheirHeader → (place : Place) → 1 ≤ place.setting.title.hands
      → header_line place.setting.title.name place.setting.title.game place.setting.title.hands ++ [] ≡ log_of place.setting []
  header_shown law place least =
      append-nil (header_line place.setting.title.name place.setting.title.game place.setting.title.hands) ∙ sym (law place.setting.game place.setting.title place.setting.names least)

  turn_begins : LogsBeginWithTheirHeader → (place : Place) (s : Standing) (called : Call) (turn : Turn) (up : Bool) → 1 ≤ place.setting.title.hands → IsTurnBy up place s called (Ok turn) → begins_by up called ≡ true
      → IsLogAt place.setting turn.after (logged turn.shown)
  turn_begins law place s (Start found) turn false least rule begins =
      subst (λ (t : Turn). IsLogAt place.setting t.after (logged t.shown)) (sym (ok_is turn (starting place found) rule.1))
      (record { commands = []; log = header_shown law place least; applied = λ up. refl })
  turn_begins law place s (Start found) turn true least rule begins = absurd (cc)
  turn_begins law place s Tick turn up least rule begins = absurd (cc)
  turn_begins law place s Away turn up least rule begins = absurd (cc)
  turn_begins law place s (call.Frame from bytes) turn up least rule begins = absurd (cc)
  turn_begins law place s (Line seat bytes) turn up least rule begins = absurd (cc)
  turn_begins law place s (Connect seat) turn up least rule begins = absurd (cc)
  turn_begins law place s (Drop seat) turn up least rule begins = absurd (cc)
  turn_begins law place s Stop turn up least rule begins = absurd (cc)

  ends_begin : LogsBeginWithTheirHeader → (place : Place) (s : Standing) (called : Call) (after : Standing) (frames : List Frame) (shown : List Piece) (ends : Ends place s called after frames shown)
      (arrived : List Arrived) (began : Bool) → 1 ≤ place.setting.title.hands → Keeps place s called after frames shown ends arrived began → began ≡ true → IsLogAt place.setting after (logged shown)
  ends_begin law place s called after frames shown (took turn rule e f h) arrived began least keeps begins =
      subst (λ (m : List Piece). IsLogAt place.setting after (logged m)) (sym h)
      (subst (λ (t : Standing). IsLogAt place.setting t (logged turn.shown)) (sym e) (turn_begins law place s called turn s.up least rule (sym keeps.1 ∙ begins)))
  ends_begin law place s called after frames shown (refused refusal rule e f h) arrived began least keeps begins = let never : false ≡ true = sym keeps.1 ∙ begins in absurd (cc)
  ends_begin law place s called after frames shown (failed outcome begun up rule b e f h) arrived began least keeps begins = let never : false ≡ true = sym keeps.1 ∙ begins in absurd (cc)
  ends_begin law place s called after frames shown (unchanged e f h) arrived began least keeps begins = let never : false ≡ true = sym keeps.1 ∙ begins in absurd (cc)

  -- ---- deeds

  deed_on : (place : Place) (old : Standing) (called : Call) (arrived : List Arrived) (made : Made) (new : Standing) (log : List ℕ)
      → Ruled place old called arrived made new → made.began ≡ false → IsLogAt place.setting old log → IsLogAt place.setting new (log ++ added made.texts)
  deed_on place old called arrived made new log ruled none is =
      subst (λ (m : List ℕ). IsLogAt place.setting new (log ++ m)) (sym (ap added ruled.texts ∙ same_added ruled.shown))
      (ends_on place old called new ruled.frames ruled.shown ruled.ends arrived made.began log ruled.keeps none is)

  deed_begins : LogsBeginWithTheirHeader → (place : Place) (old : Standing) (called : Call) (arrived : List Arrived) (made : Made) (new : Standing) → 1 ≤ place.setting.title.hands
      → Ruled place old called arrived made new → made.began ≡ true → IsLogAt place.setting new (added made.texts)
  deed_begins law place old called arrived made new least ruled begins =
      subst (λ (m : List ℕ). IsLogAt place.setting new m) (sym (ap added ruled.texts ∙ same_added ruled.shown))
      (ends_begin law place old called new ruled.frames ruled.shown ruled.ends arrived made.began least ruled.keeps begins)

  -- since a start began, and no other
  since_start : LogsBeginWithTheirHeader → (place : Place) (start : Standing) (later : List Deed) (first : Deed) (before : List Deed) (s : Standing) → 1 ≤ place.setting.title.hands
      → HasNoStart later → first.made.began ≡ true → Did place start (later ++ first ∷ before) s → IsLogAt place.setting s (shown_log (later ++ first ∷ []))
  since_start law place start [] first before s least none begins (old, did, ruled) = deed_begins law place old ruled.0 first.arrived first.made s least ruled.1 begins
  since_start law place start (deed ∷ later) first before s least none begins (old, did, ruled) =
      deed_on place old ruled.0 deed.arrived deed.made s (shown_log (later ++ first ∷ [])) ruled.1 none.0 (since_start law place start later first before old least none.1 begins did)

  -- ---- stations

  pub one_log : {D : Type 0} (g : Ghosts D) → LogsBeginWithTheirHeader → (look : Look (Node D)) → Has g look → 1 ≤ look.config.setting.title.hands → HasOneLog g look
  one_log g law look has least once honest before left =
      ∥∥₁_map (has.true_to before ∣ left ∣₁ honest) (λ (holds : HoldsAfter g (known_place look) look.node (look.deeds ++ before)). record {
        s = holds.s;
        seen = holds.seen;
        log = subst (λ (m : List Deed). IsLogAt look.config.setting holds.s (shown_log m)) (sym once.deeds_are)
            (since_start law (known_place look) (new_at (known_place look)) once.later once.first before holds.s least once.no_other once.begins
            (subst (λ (m : List Deed). Did (known_place look) (new_at (known_place look)) m holds.s)
            (ap (λ (m : List Deed). m ++ before) once.deeds_are ∙ append_assoc once.later (once.first ∷ []) before) holds.did));
      })
