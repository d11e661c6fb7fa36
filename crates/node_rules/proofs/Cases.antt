-- The three cases of a member, and that an order helps the one that awaits a bot.
use Rattle.std.proofs.Common.{◌≡◌, ℕ, ◌+◌, ◌*◌, ◌<◌, ◌⊎◌, inl, inr, Bool, true, false, not, if◌then◌else◌, List, [], ◌∷◌, Option, Some, None, Ok, Err, refl, sym, ap, subst, ◌∙◌, arith, length, eq-eqb}
use Rattle.std.specs.Prelude.{is_none}
use Rattle.std.proofs.lemmas.Bool.{leb-false}
use Rattle.game_def.specs.Game.{Game}
use Rattle.paxos_wire.specs.declared.limits.TheConstants.{SLOTS}
use Rattle.slot_log.specs.Hand.{Hand}
use Rattle.slot_log.specs.Slots.{Log, front}
use Rattle.slot_log.specs.Dealer.{is_finished, is_running, is_match_over, finished_count, next_away}
use Rattle.slot_log.specs.declared.command.Command.{Command}
use Rattle.slot_log.specs.declared.command.Command.TheVariants.{Deal, Away as AwayCommand}
use Rattle.slot_log.specs.declared.reason.Reason.{Reason}
use Rattle.slot_log.specs.declared.reason.Reason.TheVariants.{MatchDone, HandRunning, WrongHand, WrongCards}
use Rattle.protocol_model.specs.Sets.{put}
use Rattle.protocol_model.specs.Worlds.{World}
use Rattle.protocol_model.proofs.Sets.{put_same}
use Rattle.dealer_kind.specs.Kind.{fits, hands_after}
use Rattle.node_rules.specs.Standings.{Place, Standing, applied, front_of, hands_at}
use Rattle.node_rules.specs.Turns.{Turn, NothingToAct}
use Rattle.node_rules.specs.Proposing.{is_over, own_value}
use Rattle.node_rules.specs.Seats.{away_at}
use Rattle.node_rules.specs.Calls.{Away}
use Rattle.node_rules.specs.Rules.{IsTurnUp, IsTurnBy}
use Rattle.node_rules.specs.Calm.{IsUnheld}
use Rattle.node_rules.specs.CalmRound.{place_in}
use Rattle.node_rules.specs.Cases.{HasEachDeal, HasProposal, Case, proposes, awaits, over, EachHasACase, OrdersHelp}
use Rattle.node_rules.specs.Given.{Given}
use Rattle.node_rules.specs.Sound.{Stands}
use Rattle.node_rules.specs.LawsPending.{first_of}
use Rattle.node_rules.proofs.Valued.{own_deals, waits_from}
use Rattle.node_rules.proofs.Noting.{played_for}
use Rattle.node_rules.proofs.Led.{scope, OrderTurn, order_splits}
use Rattle.node_rules.proofs.Resting.{Closed, rests, proposes as closes_with}
use Rattle.node_rules.proofs.Shown.{order_waits}
use Rattle.node_rules.proofs.HeldRuns.{holding, told_run}

-- ---- the own value

-- while a hand runs no deal fits
running_unfit : (over running next cards : Bool) → running ≡ true
    → is_none {T = Reason} (if over then Some MatchDone else if running then Some HandRunning else if not next then Some WrongHand else if not cards then Some WrongCards else None) ≡ true → ⊥
running_unfit true running next cards e h = cc
running_unfit false true next cards e h = cc
running_unfit false false next cards e h = cc

-- somebody is to be played for, so a hand runs
next_runs : (game : Game) (hands : List Hand) (act : Command) → next_away game hands ≡ Some act → is_running game hands ≡ true
next_runs game [] act e = absurd (cc)
next_runs game (newest ∷ earlier) act e = by_end (is_finished game newest) e
  where
    by_end : (b : Bool) → ◌≡◌ {A = Option Command} (if b then None else Some (AwayCommand (length earlier) (length newest.past))) (Some act) → not b ≡ true
    by_end true k = absurd (cc)
    by_end false k = refl

-- nobody is, so none does
none_runs : (game : Game) (hands : List Hand) → next_away game hands ≡ None → is_running game hands ≡ false
none_runs game [] e = refl
none_runs game (newest ∷ earlier) e = by_end (is_finished game newest) e
  where
    by_end : (b : Bool) → ◌≡◌ {A = Option Command} (if b then None else Some (AwayCommand (length earlier) (length newest.past))) None → not b ≡ false
    by_end true k = refl
    by_end false k = absurd (cc)

-- while a hand runs a node has the act that waits
waits_while_running : (place : Place) (s : Standing) (act : Command) → away_at place s ≡ Some act → own_value place s ≡ s.pending
waits_while_running place s act e =
    waits_from place s (finished_count place.setting.game (hands_at place s)) (place.deals (finished_count place.setting.game (hands_at place s))) refl
    (λ deal has fit. running_unfit (is_over place s) (is_running place.setting.game (hands_at place s)) _ _ (next_runs place.setting.game (hands_at place s) act e) fit)

-- between hands its next deal fits
pub deal_fits_between : (place : Place) (s : Standing) (deal : List ℕ) → is_over place s ≡ false → away_at place s ≡ None → length deal ≡ 2 * place.setting.game.players + 5
    → fits place.setting (applied s) (Deal (finished_count place.setting.game (hands_at place s)) deal) ≡ true
deal_fits_between place s deal goes_on between size = λ j. is_none (if goes_on j then Some MatchDone
    else if stops j then Some HandRunning
    else if not (eq-eqb (finished_count place.setting.game (hands_at place s)) (finished_count place.setting.game (hands_at place s)) refl j) then Some WrongHand
    else if not (eq-eqb (length deal) (2 * place.setting.game.players + 5) size j) then Some WrongCards
    else None)
  where
    stops : is_running place.setting.game (hands_at place s) ≡ false
    stops = none_runs place.setting.game (hands_at place s) between

-- and it has that
deals_between : (place : Place) (s : Standing) (deal : List ℕ) → is_over place s ≡ false → away_at place s ≡ None
    → place.deals (finished_count place.setting.game (hands_at place s)) ≡ Some deal → length deal ≡ 2 * place.setting.game.players + 5
    → own_value place s ≡ Some (Deal (finished_count place.setting.game (hands_at place s)) deal)
deals_between place s deal goes_on between has size =
    own_deals place s (finished_count place.setting.game (hands_at place s)) deal has (deal_fits_between place s deal goes_on between size)

-- ---- the cases

-- where an act waits while a hand runs
proposes_act : (place : Place) (standings : ℕ → Standing) (i : ℕ) (members : List ℕ) (next act : Command) → front_of (standings i) < SLOTS → away_at place (standings i) ≡ Some next
    → (standings i).pending ≡ Some act → HasProposal place standings i members
proposes_act place standings i members next act room runs waits = elim (holding standings members (front_of (standings i))) [
  | inl held ↦ (let run = told_run standings members (front_of (standings i)) held.0 room held.1 in (run.0, inl run.1))
  | inr none ↦ (act ∷ [], inr (act, refl, (none, waits_while_running place (standings i) next runs ∙ waits)))
]

-- where no member has a vote at the front
unheld_case : (place : Place) (standings : ℕ → Standing) (i : ℕ) (members : List ℕ) → HasEachDeal place → front_of (standings i) < SLOTS → IsUnheld standings members (front_of (standings i))
    → Case place standings i members
unheld_case place standings i members has room none = by_over (is_over place (standings i)) refl
  where
    by_pending : (next : Command) → away_at place (standings i) ≡ Some next → (pending : Option Command) → (standings i).pending ≡ pending → Case place standings i members
    by_pending next runs None e = awaits (record { next = (next, runs); nothing_waits = e; unheld = none })
    by_pending next runs (Some act) e = proposes (act ∷ [], inr (act, refl, (none, waits_while_running place (standings i) next runs ∙ e)))

    by_next : is_over place (standings i) ≡ false → (next : Option Command) → away_at place (standings i) ≡ next → Case place standings i members
    by_next goes_on (Some next) runs = by_pending next runs (standings i).pending refl
    by_next goes_on None between =
        let low : finished_count place.setting.game (hands_at place (standings i)) < place.setting.title.hands =
        (let l = leb-false place.setting.title.hands (finished_count place.setting.game (hands_at place (standings i))) goes_on in omega (arith, l)) in
        let deal = has (finished_count place.setting.game (hands_at place (standings i))) low in
        proposes (
          Deal (finished_count place.setting.game (hands_at place (standings i))) deal.0 ∷ [],
          inr (Deal (finished_count place.setting.game (hands_at place (standings i))) deal.0, refl, (none, deals_between place (standings i) deal.0 goes_on between deal.1 deal.2)),
        )

    by_over : (b : Bool) → is_over place (standings i) ≡ b → Case place standings i members
    by_over true e = over e
    by_over false e = by_next e (away_at place (standings i)) refl

pub each_has_a_case : EachHasACase
each_has_a_case place standings i members has room = elim (holding standings members (front_of (standings i))) [
  | inl held ↦ (let run = told_run standings members (front_of (standings i)) held.0 room held.1 in proposes (run.0, inl run.1))
  | inr none ↦ unheld_case place standings i members has room none
]

-- ---- an order helps

-- a close learns nothing
closed_log : (place : Place) (s : Standing) (turn : Turn) → Closed place s turn → turn.after.learned.log ≡ s.learned.log
closed_log place s turn (rests campaign e) = ap (λ (t : Turn). t.after.learned.log) e
closed_log place s turn (closes_with p) = ap (λ (t : Turn). t.after.learned.log) p.turn_is ∙ p.fresh.over.log

-- what an order's turn leaves
pub ordered_log : (g : Given) (own : ℕ → Command → Bool) (place : Place) (world : World) (s : Standing) (turn : Turn) (st : Stands own place world s) → OrderTurn (scope g own place world s st Away) s turn
    → turn.after.learned.log ≡ s.learned.log
ordered_log g own place world s turn st o =
    ap (λ (t : Turn). t.after.learned.log) o.whole ∙ closed_log place (played_for place o.act s).after o.closes.turn o.closes.closed

-- it promises nothing, and has seen nothing
closed_met : (g : Given) (place : Place) (s : Standing) (turn : Turn) → Closed place s turn → (turn.after.store.promise ≡ s.store.promise) × (turn.after.seen ≡ s.seen)
closed_met g place s turn (rests campaign e) = (ap (λ (t : Turn). t.after.store.promise) e, ap (λ (t : Turn). t.after.seen) e)
closed_met g place s turn (closes_with p) = (
  ap (λ (t : Turn). t.after.store.promise) p.turn_is ∙ elim (g.command_run_promise s.store p.made.ballot p.made.slot p.made.commands) [ inl same ↦ same | inr new ↦ new ∙ sym p.promised ],
  ap (λ (t : Turn). t.after.seen) p.turn_is,
)

pub ordered_met : (g : Given) (own : ℕ → Command → Bool) (place : Place) (world : World) (s : Standing) (turn : Turn) (st : Stands own place world s) → OrderTurn (scope g own place world s st Away) s turn
    → (turn.after.store.promise ≡ s.store.promise) × (turn.after.seen ≡ s.seen)
ordered_met g own place world s turn st o =
    let met = closed_met g place (played_for place o.act s).after o.closes.turn o.closes.closed in
    (ap (λ (t : Turn). t.after.store.promise) o.whole ∙ met.0, ap (λ (t : Turn). t.after.seen) o.whole ∙ met.1)

pub orders_help : Given → OrdersHelp
orders_help g own setting n deals world standings i members outcome are among up room awaiting is_turn = by_splits (order_splits g own place world (standings i) st up outcome rule)
  where
    place : Place
    place = place_in setting n deals i

    st : Stands own (place_in setting n deals i) world (standings i)
    st = record { is_place = are.is_place i among; reached = are.reached; of = are.of i among }

    rule : IsTurnUp (place_in setting n deals i) (standings i) Away outcome
    rule = subst (λ (b : Bool). IsTurnBy b (place_in setting n deals i) (standings i) Away outcome) up is_turn

    by_turn : (turn : Turn) → outcome ≡ Ok turn → OrderTurn (scope g own (place_in setting n deals i) world (standings i) (record { is_place = are.is_place i among; reached = are.reached; of = are.of i among }) Away) (standings i) turn
        → (turn : Turn) × (outcome ≡ Ok turn) × (front_of turn.after ≡ front_of (standings i)) × (is_over (place_in setting n deals i) turn.after ≡ is_over (place_in setting n deals i) (standings i))
        × HasProposal (place_in setting n deals i) (put standings i turn.after) i members
    by_turn turn is o = (
      turn,
      is,
      ap front log,
      ap (λ (l : Log). is_match_over setting.game setting.title.hands (hands_after setting l.below)) log,
      proposes_act place (put standings i turn.after) i members o.act o.act
          (subst (λ (f : ℕ). f < SLOTS) (sym (ap (λ (s : Standing). front_of s) here ∙ ap front log)) room)
          (ap (away_at place) here ∙ (ap (λ (l : Log). next_away setting.game (hands_after setting l.below)) log ∙ o.next))
          (ap (λ (s : Standing). s.pending) here ∙ (order_waits g own place world (standings i) turn st o ∙ ap (λ (p : Option Command). first_of p (o.act ∷ [])) awaiting.nothing_waits)),
    )
      where
        log : turn.after.learned.log ≡ (standings i).learned.log
        log = ordered_log g own place world (standings i) turn st o

        here : put standings i turn.after i ≡ turn.after
        here = put_same standings i turn.after

    by_splits : ((turn : Turn) × (outcome ≡ Ok turn) × OrderTurn (scope g own (place_in setting n deals i) world (standings i) (record { is_place = are.is_place i among; reached = are.reached; of = are.of i among }) Away) (standings i) turn)
        ⊎ ((away_at (place_in setting n deals i) (standings i) ≡ None) × (outcome ≡ Err NothingToAct))
        → (turn : Turn) × (outcome ≡ Ok turn) × (front_of turn.after ≡ front_of (standings i)) × (is_over (place_in setting n deals i) turn.after ≡ is_over (place_in setting n deals i) (standings i))
        × HasProposal (place_in setting n deals i) (put standings i turn.after) i members
    by_splits (inl (turn, is, o)) = by_turn turn is o
    by_splits (inr (none, is)) = absurd (let clash : ◌≡◌ {A = Option Command} None (Some awaiting.next.0) = sym none ∙ awaiting.next.1 in cc)
