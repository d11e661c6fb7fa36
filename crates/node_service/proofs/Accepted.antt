-- The log of a match that is over at a node is accepted.
use Rattle.std.proofs.Common.{◌≡◌, ◌⊎◌, inl, inr, ℕ, ◌≤◌, true, List, [], Option, Some, None, sym, ap, subst, ◌∙◌, arith}
use Rattle.std.specs.List.{AllByRecursion}
use Rattle.std.proofs.lemmas.Bool.Decides.{nat_tests}
use Rattle.std.proofs.lemmas.List.Sums.{count_by-le-length}
use Rattle.std.proofs.Math.Logic.{∥∥₁_map, ∥∥₁_elim}
use Rattle.promise_store.specs.declared.disk.Disk.{Ghosts}
use Rattle.card_core.specs.Deal.{IsDeal}
use Rattle.game_def.specs.Game.{Game}
use Rattle.slot_log.specs.Hand.{Hand, Match}
use Rattle.slot_log.specs.Dealer.{is_match_over, is_finished, finished_count, hands_of}
use Rattle.slot_log.specs.Laws.{HandsComeOfCommands}
use Rattle.slot_log.specs.Played.{AreHands}
use Rattle.slot_log.specs.declared.command.Command.{Command}
use Rattle.match_log.specs.Check.{IsMatchLog}
use Rattle.dealer_kind.specs.Kind.{Setting, hands_after, log_of}
use Rattle.dealer_kind.specs.Plans.{IsSetting}
use Rattle.node_rules.specs.Standings.{Standing, applied, Place}
use Rattle.dealer_node.specs.Nodes.{Node}
use Rattle.dealer_node.specs.Members.{place_at}
use Rattle.dealer_node.specs.Scenes.{IsTableOf}
use Rattle.dealer_node.specs.Seeing.{IsSeenBy, member_in, table_in}
use Rattle.dealer_node.specs.declared.up.Up.{Up}
use Rattle.stations.specs.Stations.{Look, Has, known_place}
use Rattle.node_service.specs.Showing.{shown_log}
use Rattle.stations.proofs.OwnTables.{has_its_table}
use Rattle.node_service.specs.Logging.{HasOneLog, IsAcceptedOver, ShowsOneLog}
use Rattle.node_service.proofs.Accepting.{accepted}

-- no match is over before its first hand
not_over : (setting : Setting) → 1 ≤ setting.title.hands → is_match_over setting.game setting.title.hands (hands_after setting []) ≡ true → ⊥
unfolding hands_of
not_over setting least over =
    let enough : setting.title.hands ≤ finished_count setting.game [] = grind (arith, nat_tests) in
    omega (arith, enough, least, count_by-le-length (is_finished setting.game) [])

-- a node that is down has applied nothing
up_by : {D : Type 0} (g : Ghosts D) (node : Node D) (up : Option (Up D)) (disk : Option D) (s : Standing) → IsSeenBy g (member_in node) up disk s → (s.up ≡ true) ⊎ (applied s ≡ [])
up_by g node (Some up) disk s is = inl is.running.up
up_by g node None (Some disk) s is = inr (ap applied is.stopped)
up_by g node None None s is = absurd is

-- its table, of which these are the hands
pub record IsTable (setting : Setting) (commands : List Command) (table : Match) : Type 0 where
  pub is : IsTableOf setting commands table
  pub hands : AreHands table.game table.count table.hands
  pub fair : AllByRecursion (λ (hand : Hand). IsDeal table.game.players hand.deal) table.hands

table_accepted : HandsComeOfCommands → (setting : Setting) (commands : List Command) (table : Match) → IsSetting setting → IsTable setting commands table
    → is_match_over setting.game setting.title.hands (hands_after setting commands) ≡ true → IsMatchLog setting.game (log_of setting commands)
table_accepted law setting commands table within there over =
    let hands : AreHands setting.game setting.title.hands (hands_after setting commands) =
    subst (λ (game : Game). AreHands game setting.title.hands (hands_after setting commands)) there.is.game
    (subst (λ (count : ℕ). AreHands table.game count (hands_after setting commands)) there.is.count (subst (AreHands table.game table.count) there.is.hands there.hands)) in
    let fair : AllByRecursion (λ (hand : Hand). IsDeal setting.game.players hand.deal) (hands_after setting commands) =
    subst (λ (game : Game). AllByRecursion (λ (hand : Hand). IsDeal game.players hand.deal) (hands_after setting commands)) there.is.game
    (subst (AllByRecursion (λ (hand : Hand). IsDeal table.game.players hand.deal)) there.is.hands there.fair) in
    accepted law setting commands within hands fair over

-- where it is over by its table, it is by these commands
over_by : (setting : Setting) (commands : List Command) (table : Match) → IsTableOf setting commands table → is_match_over table.game table.count table.hands ≡ true
    → is_match_over setting.game setting.title.hands (hands_after setting commands) ≡ true
over_by setting commands table is over =
    subst (λ (hands : List Hand). is_match_over setting.game setting.title.hands hands ≡ true) is.hands
    (subst (λ (count : ℕ). is_match_over setting.game count table.hands ≡ true) is.count
    (subst (λ (game : Game). is_match_over game table.count table.hands ≡ true) is.game over))

pub is_accepted : {D : Type 0} (g : Ghosts D) → HandsComeOfCommands → (look : Look (Node D)) (table : Match) → Has g look → IsSetting look.config.setting → HasOneLog g look
    → table ≡ table_in look.node → AreHands table.game table.count table.hands
    → AllByRecursion (λ (hand : Hand). IsDeal table.game.players hand.deal) table.hands → IsAcceptedOver g look
is_accepted {D} g law look table has within one_log same hands fair once honest before left over =
    ∥∥₁_elim has.at_place (hlevel) (λ (placed : place_at (member_in look.node) ≡ known_place look).
    ∥∥₁_map (one_log once honest before left) (λ (one : ShowsOneLog g look). by_log (ap (λ (p : Place). p.setting) placed) one (up_by g look.node look.node.up look.node.disk one.s one.seen.by)))
  where
    setting_of : Setting
    setting_of = look.config.setting

    is_table : (member_in look.node).setting ≡ setting_of → (one : ShowsOneLog g look) → IsTableOf setting_of (applied one.s) (table_in look.node)
    is_table setting one = subst (λ (st : Setting). IsTableOf st (applied one.s) (table_in look.node)) setting (has_its_table g look.node one.s one.seen)

    by_log : (member_in look.node).setting ≡ setting_of → (one : ShowsOneLog g look) → (one.s.up ≡ true) ⊎ (applied one.s ≡ []) → IsMatchLog setting_of.game (shown_log look.deeds)
    by_log setting one (inl up) =
        subst (IsMatchLog setting_of.game) (sym (one.log.log ∙ ap (log_of setting_of) (one.log.applied up)))
        (table_accepted law setting_of (applied one.s) table within
        (record { is = subst (IsTableOf setting_of (applied one.s)) (sym same) (is_table setting one); hands = hands; fair = fair })
        (over_by setting_of (applied one.s) (table_in look.node) (is_table setting one) over))
    by_log setting one (inr none) =
        absurd (not_over setting_of within.least
        (subst (λ (m : List Command). is_match_over setting_of.game setting_of.title.hands (hands_after setting_of m) ≡ true) none
        (over_by setting_of (applied one.s) (table_in look.node) (is_table setting one) over)))
