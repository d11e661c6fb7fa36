-- How many commands a match has: what a node applied fits, so each command is a deal or an action of a hand.
use Rattle.std.proofs.Common.{◌≡◌, ℕ, ◌+◌, ◌*◌, ◌<◌, ◌≤◌, inl, Bool, true, false, if◌then◌else◌, List, [], ◌∷◌, ◌++◌, Option, Some, None, refl, sym, ap, subst, ◌∙◌, arith, length}
use Rattle.std.specs.Prelude.{is_none}
use Rattle.std.specs.List.{AllByRecursion}
use Rattle.std.proofs.lemmas.Bool.{leb-false}
use Rattle.game_def.specs.Game.{Game, IsGame}
use Rattle.betting.specs.declared.action.Action.{Action}
use Rattle.betting.specs.Laws.{HandsEnd}
use Rattle.slot_log.specs.Hand.{Hand}
use Rattle.slot_log.specs.Played.{IsLegalHand}
use Rattle.slot_log.specs.Dealer.{finished_count, act_reason, act_for, is_match_over, reason_of, with_action, with_command, hands_of, hands_after as with_effect}
use Rattle.slot_log.specs.declared.command.Command.{Command}
use Rattle.slot_log.specs.declared.command.Command.TheVariants.{Deal, Act, Away}
use Rattle.slot_log.specs.declared.reason.Reason.{Reason}
use Rattle.slot_log.specs.declared.reason.Reason.TheVariants.{MatchDone}
use Rattle.protocol_model.specs.Sets.{In}
use Rattle.protocol_model.specs.Messages.{Message}
use Rattle.protocol_model.specs.Quorums.{IsChosen, AreChosen}
use Rattle.protocol_model.specs.Dealers.{Dealer, AllFit, Log}
use Rattle.protocol_model.specs.Laws.{IsOfBeginning, OneDealer}
use Rattle.protocol_model.specs.Nodes.{Node, Knows as KnowsCommands}
use Rattle.protocol_model.specs.Moves.{Shown, Output, nothing, Chain, none, more, shows}
use Rattle.protocol_model.specs.Worlds.{World, Reached, IsAfter, new_world}
use Rattle.dealer_kind.specs.Kind.{Setting, fits, hands_after, dealer_of}
use Rattle.node_rules.specs.Standings.{Standing, applied, front_of, hands_at}
use Rattle.node_rules.specs.Proposing.{is_over}
use Rattle.node_rules.specs.Seats.{away_at}
use Rattle.node_rules.specs.CalmRound.{place_in, AreOf}
use Rattle.node_rules.specs.Cases.{HasEachDeal}
use Rattle.node_rules.specs.Endings.{most_commands}
use Rattle.node_rules.specs.Given.{Given}
use Rattle.node_rules.proofs.Beginning.{commands_known}
use Rattle.node_rules.proofs.Cases.{deal_fits_between}

-- ---- commands by hands

-- a deal and the actions of each hand
abbrev weight : List Hand → ℕ
weight [] = 0
weight (hand ∷ hands) = 1 + length hand.past + weight hands

fits_now : (o : Option Reason) → is_none o ≡ true → o ≡ None
fits_now None e = refl
fits_now (Some reason) e = absurd (cc)

-- an action that is taken is one more of the newest hand's
weight_action : (hands : List Hand) (action : Action) → (hands ≡ [] → ⊥) → weight (with_action hands action) ≡ 1 + weight hands
weight_action [] action some = absurd (some refl)
weight_action (newest ∷ earlier) action some = omega arith

-- where an action fits there is a hand
some_hand : (over : Bool) (game : Game) (hands : List Hand) (hand index : ℕ) (action : Action) → (if over then Some MatchDone else act_reason game hands hand index action) ≡ None → hands ≡ [] → ⊥
some_hand true game hands hand index action e empty = cc
some_hand false game [] hand index action e empty = cc
some_hand false game (newest ∷ earlier) hand index action e empty = cc

weight_command : (game : Game) (count : ℕ) (hands : List Hand) (command : Command) → reason_of game count hands command ≡ None → weight (with_command game hands command) ≡ 1 + weight hands
weight_command game count hands (Deal hand deal) e = omega arith
weight_command game count hands (Act hand index action) e = weight_action hands action (some_hand (is_match_over game count hands) game hands hand index action e)
weight_command game count hands (Away hand index) e = weight_action hands (act_for game hands) (some_hand (is_match_over game count hands) game hands hand index (act_for game hands) e)

hands_grow : (game : Game) (count : ℕ) (hands : List Hand) (command : Command) → reason_of game count hands command ≡ None → with_effect game count hands command ≡ with_command game hands command
hands_grow game count hands command e = let pick : Option Reason → List Hand = λ o. elim o [ None ↦ with_command game hands command | Some reason ↦ hands ] in ap pick e

-- as many commands as deals and actions, where all fit
weight_is : (own : ℕ → Command → Bool) (setting : Setting) (commands : List Command) → AllFit (dealer_of setting own) commands → weight (hands_after setting commands) ≡ length commands
unfolding hands_of
weight_is own setting [] fit = refl
weight_is own setting (command ∷ before) fit =
    let unrefused = fits_now (reason_of setting.game setting.title.hands (hands_after setting before) command) fit.0 in
    let earlier = weight_is own setting before fit.1 in
    let now = weight_command setting.game setting.title.hands (hands_after setting before) command unrefused in
    let grown = ap (λ (hands : List Hand). weight hands) (hands_grow setting.game setting.title.hands (hands_after setting before) command unrefused) in
    grown ∙ (now ∙ omega (arith, earlier))

-- ---- no more than the hands have

weight_low : (ends : HandsEnd) (game : Game) (hands : List Hand) → IsGame game → AllByRecursion (IsLegalHand game) hands → weight hands ≤ 257 * length hands
weight_low ends game [] is legal = omega arith
weight_low ends game (hand ∷ hands) is legal =
    let here = ends game hand.past is legal.0.legal in
    let later = weight_low ends game hands is legal.1 in
    omega (arith, here, later)

commands_low : (g : Given) (ends : HandsEnd) (own : ℕ → Command → Bool) (setting : Setting) (commands : List Command) → IsGame setting.game → AllFit (dealer_of setting own) commands
    → length commands ≤ most_commands setting
commands_low g ends own setting commands is fit =
    let hands = g.make setting.game setting.title.hands commands in
    let within = hands.within in
    let low = weight_low ends setting.game (hands_after setting commands) is hands.legal in
    let same = weight_is own setting commands fit in
    omega (arith, within, low, same)

-- ---- what a node applied

-- the law of the one dealer, by which a list of commands that all fit is behind all that is shown
abbrev pub AllShowOneList : Type 0
AllShowOneList = (dealer : Dealer) (n : ℕ) (world : World) → Reached dealer n world → OneDealer dealer n world

are_chosen : (g : Given) (dealer : Dealer) (n i : ℕ) (world : World) (known : List Command) → Reached dealer n world → KnowsCommands (world.nodes i).known known → AreChosen n world.ever known
are_chosen g dealer n i world [] reached knows = tt
are_chosen g dealer n i world (command ∷ before) reached (here, knows) = (g.known dealer n i world (length before) command reached here, are_chosen g dealer n i world before reached knows)

-- lists of chosen commands of one length are the same
same_list : (g : Given) (dealer : Dealer) (n : ℕ) (world : World) (a b : List Command) → Reached dealer n world → length a ≡ length b → AreChosen n world.ever a → AreChosen n world.ever b → a ≡ b
same_list g dealer n world [] [] reached e first second = refl
same_list g dealer n world [] (y ∷ ys) reached e first second = absurd (omega (arith, e))
same_list g dealer n world (x ∷ xs) [] reached e first second = absurd (omega (arith, e))
same_list g dealer n world (x ∷ xs) (y ∷ ys) reached e first second =
    let size : length xs ≡ length ys = omega (arith, e) in
    let here : x ≡ y = g.one_choice dealer n world (length xs) x y reached first.0 (subst (λ (slot : ℕ). IsChosen n world.ever slot y) (sym size) second.0) in
    let later = same_list g dealer n world xs ys reached size first.1 second.1 in
    λ j. here j ∷ later j

-- of a list the older commands
older_fit : (dealer : Dealer) (newer older : List Command) → AllFit dealer (newer ++ older) → AllFit dealer older
older_fit dealer [] older fit = fit
older_fit dealer (command ∷ newer) older fit = older_fit dealer newer older fit.1

older_chosen : (n : ℕ) (ever : List Message) (newer older : List Command) → AreChosen n ever (newer ++ older) → AreChosen n ever older
older_chosen n ever [] older chosen = chosen
older_chosen n ever (command ∷ newer) older chosen = older_chosen n ever newer older chosen.1

-- what a running node applied fits: it might show its log, and then the one dealer's list begins with its commands
applied_fit : (g : Given) (one : AllShowOneList) (own : ℕ → Command → Bool) (setting : Setting) (n : ℕ) (deals : ℕ → ℕ → Option (List ℕ)) (world : World) (st : ℕ → Standing) (i : ℕ) (members : List ℕ)
    → AreOf own setting n deals world st members → In i members → (st i).up ≡ true → AllFit (dealer_of setting own) (applied (st i))
applied_fit g one own setting n deals world st i members are among up =
    subst (AllFit (dealer_of setting own)) (same_list g (dealer_of setting own) n later.0 shown_first.0 (applied (st i)) later.1 shown_first.2 first_chosen own_chosen)
    (older_fit (dealer_of setting own) shown_first.1.0 shown_first.0 (subst (AllFit (dealer_of setting own)) shown_first.1.1 dealt.fitting))
  where
    knows : KnowsCommands (world.nodes i).known (applied (st i))
    knows = commands_known (st i).learned.log (world.nodes i).known ((are.of i among).runs up).knows.learner.knows

    log : Shown
    log = record { node = i; start = (world.nodes i).starts; reader = Log; count = length (applied (st i)); text = (dealer_of setting own).log (applied (st i)) }

    out : Output
    out = record { sent = []; shown = record { node = i; start = (world.nodes i).starts; reader = Log; count = length (applied (st i)); text = (dealer_of setting own).log (applied (st i)) } ∷ []; came = [] }

    told : Node
    told = record (world.nodes i) { shown = length (applied (st i)) }

    chain : Chain (dealer_of setting own) n i world.ever (world.nodes i)
        (record { sent = []; shown = record { node = i; start = (world.nodes i).starts; reader = Log; count = length (applied (st i)); text = (dealer_of setting own).log (applied (st i)) } ∷ []; came = [] })
        (record (world.nodes i) { shown = length (applied (st i)) })
    chain = more nothing (world.nodes i) out out told (none nothing (world.nodes i) refl refl)
        (shows (applied (st i)) Log ((dealer_of setting own).log (applied (st i))) ((are.of i among).up ∙ up) knows ((are.of i among).runs up).knows.shown refl refl refl) refl

    later : (new : World) × Reached (dealer_of setting own) n new
        × IsAfter world i (record { sent = []; shown = record { node = i; start = (world.nodes i).starts; reader = Log; count = length (applied (st i)); text = (dealer_of setting own).log (applied (st i)) } ∷ []; came = [] })
        (record (world.nodes i) { shown = length (applied (st i)) }) new
    later = g.reach (dealer_of setting own) n i new_world world out told are.reached (are.is_place i among).node chain

    dealt : OneDealer (dealer_of setting own) n later.0
    dealt = one (dealer_of setting own) n later.0 later.1

    shown_first : IsOfBeginning (dealer_of setting own) dealt.commands log
    shown_first = dealt.shown log (subst (In log) (sym later.2.shown) (inl refl))

    first_chosen : AreChosen n later.0.ever shown_first.0
    first_chosen = older_chosen n later.0.ever shown_first.1.0 shown_first.0 (subst (AreChosen n later.0.ever) shown_first.1.1 dealt.chosen)

    own_chosen : AreChosen n later.0.ever (applied (st i))
    own_chosen = are_chosen g (dealer_of setting own) n i later.0 (applied (st i)) later.1 (subst (λ (node : Node). KnowsCommands node.known (applied (st i))) (sym later.2.moved) knows)

-- a node knows no more commands than that below its front
pub front_low : (g : Given) (one : AllShowOneList) (ends : HandsEnd) (own : ℕ → Command → Bool) (setting : Setting) (n : ℕ) (deals : ℕ → ℕ → Option (List ℕ)) (world : World) (st : ℕ → Standing) (i : ℕ) (members : List ℕ)
    → AreOf own setting n deals world st members → In i members → (st i).up ≡ true → front_of (st i) ≤ most_commands setting
front_low g one ends own setting n deals world st i members are among up =
    commands_low g ends own setting (applied (st i)) (are.is_place i among).match.is_game (applied_fit g one own setting n deals world st i members are among up)

-- while the match goes on at a node, it has a command left
pub room_for_more : (g : Given) (one : AllShowOneList) (ends : HandsEnd) (own : ℕ → Command → Bool) (setting : Setting) (n : ℕ) (deals : ℕ → ℕ → Option (List ℕ)) (world : World) (st : ℕ → Standing) (i : ℕ) (members : List ℕ)
    → AreOf own setting n deals world st members → In i members → (st i).up ≡ true → HasEachDeal (place_in setting n deals i) → is_over (place_in setting n deals i) (st i) ≡ false
    → front_of (st i) < most_commands setting
room_for_more g one ends own setting n deals world st i members are among up has goes_on = by_next (away_at (place_in setting n deals i) (st i)) refl
  where
    fitting : AllFit (dealer_of setting own) (applied (st i))
    fitting = applied_fit g one own setting n deals world st i members are among up

    with_one : (command : Command) → fits setting (applied (st i)) command ≡ true → front_of (st i) < most_commands setting
    with_one command is = let low = commands_low g ends own setting (command ∷ applied (st i)) (are.is_place i among).match.is_game (is, fitting) in omega (arith, low)

    by_next : (next : Option Command) → away_at (place_in setting n deals i) (st i) ≡ next → front_of (st i) < most_commands setting
    by_next (Some act) runs = with_away act runs
      where
        with_away : (act : Command) → away_at (place_in setting n deals i) (st i) ≡ Some act → front_of (st i) < most_commands setting
        with_away (Deal hand deal) e = with_one (Deal hand deal) (absurd (let clash : false ≡ true = (g.orders setting (applied (st i)) (Deal hand deal) (are.is_place i among).match).1 e in cc))
        with_away (Act hand index action) e = with_one (Act hand index action) (absurd (let clash : false ≡ true = (g.orders setting (applied (st i)) (Act hand index action) (are.is_place i among).match).1 e in cc))
        with_away (Away hand index) e = with_one (Away hand index) ((g.orders setting (applied (st i)) (Away hand index) (are.is_place i among).match).1 e)
    by_next None between =
        let low : finished_count setting.game (hands_at (place_in setting n deals i) (st i)) < setting.title.hands =
        (let l = leb-false setting.title.hands (finished_count setting.game (hands_at (place_in setting n deals i) (st i))) goes_on in omega (arith, l)) in
        let deal = has (finished_count setting.game (hands_at (place_in setting n deals i) (st i))) low in
        with_one (Deal (finished_count setting.game (hands_at (place_in setting n deals i) (st i))) deal.0) (deal_fits_between (place_in setting n deals i) (st i) deal.0 goes_on between deal.2)
