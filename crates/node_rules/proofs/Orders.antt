-- An order is taken wherever a hand runs.
use Rattle.std.proofs.Common.{◌≡◌, ℕ, ◌⊎◌, inl, inr, Bool, true, false, true≢false, not, if◌then◌else◌, List, [], ◌∷◌, Option, Some, None, Ok, Err, refl, sym, ap, subst, ◌∙◌, length}
use Rattle.std.proofs.lemmas.List.{append-nil}
use Rattle.game_def.specs.Game.{Game}
use Rattle.slot_log.specs.Hand.{Hand}
use Rattle.slot_log.specs.Dealer.{is_finished, is_running, next_away}
use Rattle.slot_log.specs.declared.command.Command.{Command}
use Rattle.slot_log.specs.declared.command.Command.TheVariants as command
use Rattle.protocol_model.specs.Stores.{Store}
use Rattle.protocol_model.specs.Worlds.{World}
use Rattle.dealer_kind.specs.Kind.{hands_after}
use Rattle.node_rules.specs.Standings.{Place, Standing, hands_at}
use Rattle.node_rules.specs.Turns.{Turn, NothingToAct}
use Rattle.node_rules.specs.Seats.{forwarding, away_at}
use Rattle.node_rules.specs.Calls.{Away}
use Rattle.node_rules.specs.Rules.{IsTurnUp, IsTurnBy, standing_after}
use Rattle.node_rules.specs.Given.{Given}
use Rattle.node_rules.specs.Sound.{Stands}
use Rattle.node_rules.specs.LawsAnswers.{forwards}
use Rattle.node_rules.specs.LawsOrder.{Plays, Orders, OrdersAreTaken}
use Rattle.node_rules.proofs.Results.{ok_not}
use Rattle.node_rules.proofs.Led.{scope, OrderTurn, order_splits}
use Rattle.node_rules.proofs.Noting.{played_for}
use Rattle.node_rules.proofs.Answered.{two}
use Rattle.node_rules.proofs.Shown.{order_waits, applied_is}

-- ---- who is played for

-- nobody, where no hand runs
none_next : (game : Game) (hands : List Hand) → is_running game hands ≡ false → next_away game hands ≡ None
none_next game [] e = refl
none_next game (newest ∷ earlier) e = by_end (is_finished game newest) e
  where
    by_end : (b : Bool) → not b ≡ false → ◌≡◌ {A = Option Command} (if b then None else Some (command.Away (length earlier) (length newest.past))) None
    by_end true k = refl
    by_end false k = absurd (true≢false k)

-- and then none runs
none_runs : (game : Game) (hands : List Hand) → next_away game hands ≡ None → is_running game hands ≡ false
none_runs game [] e = refl
none_runs game (newest ∷ earlier) e = by_end (is_finished game newest) e
  where
    by_end : (b : Bool) → ◌≡◌ {A = Option Command} (if b then None else Some (command.Away (length earlier) (length newest.past))) None → not b ≡ false
    by_end true k = refl
    by_end false k = absurd (cc)

-- the player to act of the newest hand, where that runs
next_is : (game : Game) (newest : Hand) (earlier : List Hand) → is_finished game newest ≡ false
    → next_away game (newest ∷ earlier) ≡ Some (command.Away (length earlier) (length newest.past))
next_is game newest earlier e = ap (λ (b : Bool). let act : Option Command = if b then None else Some (command.Away (length earlier) (length newest.past)) in act) e

some_is : (a b : Command) → ◌≡◌ {A = Option Command} (Some a) (Some b) → a ≡ b
some_is a b e = cc

not_some : (a : Command) → ◌≡◌ {A = Option Command} (Some a) None → ⊥
not_some a e = cc

-- ---- the law

plays_of : (g : Given) (own : ℕ → Command → Bool) (place : Place) (world : World) (s : Standing) (turn : Turn) (st : Stands own place world s)
    → OrderTurn (scope g own place world s st Away) s turn → (act : Command) → away_at place s ≡ Some act → Plays place (world.nodes place.node) act s turn
plays_of g own place world s turn st o act next =
    subst (λ (c : Command). Plays place (world.nodes place.node) c s turn) (some_is o.act act (sym o.next ∙ next)) (record {
      waits = order_waits g own place world s turn st o;
      sends = two place turn (played_for place o.act s) o.closes.turn (forwards place (world.nodes place.node).store.promise (o.act ∷ [])) o.whole o.closes.closed
          (sym (append-nil (forwarding place o.act s)) ∙ ap (λ (store : Store). forwards place store.promise (o.act ∷ [])) (sym st.of.store));
    })

pub orders_are_taken : Given → OrdersAreTaken
orders_are_taken g own place world s outcome before st up h knows front = by_splits (order_splits g own place world s st up outcome rule)
  where
    rule : IsTurnUp place s Away outcome
    rule = subst (λ b. IsTurnBy b place s Away outcome) up h

    same : hands_at place s ≡ hands_after place.setting before
    same = ap (λ (l : List Command). hands_after place.setting l) (applied_is own place world s before st up knows front)

    next_in : away_at place s ≡ next_away place.setting.game (hands_after place.setting before)
    next_in = ap (next_away place.setting.game) same

    by_splits : ((turn : Turn) × (outcome ≡ Ok turn) × OrderTurn (scope g own place world s st Away) s turn) ⊎ ((away_at place s ≡ None) × (outcome ≡ Err NothingToAct))
        → Orders place (world.nodes place.node) (hands_after place.setting before) s outcome
    by_splits (inl (turn, is, o)) = record {
      nothing = λ stops. absurd (not_some o.act (sym o.next ∙ (next_in ∙ none_next place.setting.game (hands_after place.setting before) stops)));
      only_nothing = λ e. absurd (ok_not turn NothingToAct (sym is ∙ e));
      unchanged = λ e. absurd (ok_not turn NothingToAct (sym is ∙ e));
      plays = λ newest earlier e runs. (
        turn,
        is,
        plays_of g own place world s turn st o (command.Away (length earlier) (length newest.past))
            (next_in ∙ (ap (next_away place.setting.game) e ∙ next_is place.setting.game newest earlier runs)),
      );
    }
    by_splits (inr (none, is)) = record {
      nothing = λ stops. is;
      only_nothing = λ e. none_runs place.setting.game (hands_after place.setting before) (sym next_in ∙ none);
      unchanged = λ e. ap (standing_after place s) e;
      plays = λ newest earlier e runs. absurd (not_some (command.Away (length earlier) (length newest.past))
          (sym (next_is place.setting.game newest earlier runs) ∙ (ap (next_away place.setting.game) (sym e) ∙ (sym next_in ∙ none))));
    }
