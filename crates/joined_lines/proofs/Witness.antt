-- The premises of the joined law are met: two of three nodes choose the first deal of a match, and a bot at a seat of node 0, behind a relay or without one, that asked for the first line is told it.
--
-- Of any honest disk nine calls are given (`TwoDeal`), each as `Station::step` ensures it where it answers Ok. Over disks on paper (`WitnessPaper`) nodes are values, of which each call is so. A server has parts of which the law says
-- nothing, as its terms and its peers: these are whatever they are. No clause can make an allocator, so that one is given.
use Rattle.std.proofs.Common.{◌≡◌, ℕ, zero, suc, ◌==◌, Bool, true, false, if◌then◌else◌, List, [], ◌∷◌, ◌++◌, length, codes, get_or, ◌⊎◌, Option, Some, None, IsTrue, inl, inr, refl, ap, sym, ◌∙◌, subst, arith, replicate}
use Rattle.std.proofs.Math.Logic.{∥∥₁_elim}
use Rattle.std.proofs.lemmas.Bool.Decides.{eqb_tells}
use Rattle.std.specs.Global.{Global}
use Rattle.std.specs.List.{AllByRecursion}
use Rattle.promise_store.specs.declared.disk.Disk.{Ghosts}
use Rattle.game_def.specs.Game.{Game}
use Rattle.slot_log.specs.Hand.{Hand, Match}
use Rattle.protocol_model.specs.Sets.{In}
use Rattle.protocol_model.specs.Quorums.{AreChosen}
use Rattle.dealer_kind.specs.Kind.{Setting, hands_after}
use Rattle.dealer_kind.specs.Plans.{IsPlan}
use Rattle.dealer_kind.specs.declared.source.Source.{Source}
use Rattle.node_rules.specs.Standings.{Place, applied}
use Rattle.node_rules.proofs.Examples.{opened, setting}
use Rattle.dealer_node.specs.Nodes.{Node}
use Rattle.dealer_node.specs.Scenes.{IsTableOf}
use Rattle.dealer_node.specs.Seeing.{table_in}
use Rattle.dealer_world.specs.Records.{said}
use Rattle.dealer_world.specs.RuleRuns.{plan_of}
use Rattle.stations.specs.Deeds.{Deed, Doing, record_of}
use Rattle.stations.specs.Joining.{IsTrueOrder}
use Rattle.stations.specs.Moments.{Moment, moment_now}
use Rattle.stations.specs.Stations.{Look, Has}
use Rattle.stations.specs.Together.{HaveIncarnations, HaveHistories}
use Rattle.stations.specs.Tables.{HadTable}
use Rattle.stations.proofs.OwnTables.{has_its_table}
use Rattle.node_wires.specs.declared.line.Line.TheVariants as wire
use Rattle.node_wires.specs.Passages.{Passage, Began, Came, Wrote, came_over, wrote_over}
use Rattle.line_cursor.specs.Past.{seat_line_at}
use Rattle.line_cursor.specs.Cursors.{cursor_at, next_cursor}
use Rattle.node_seats.specs.declared.bot.Bot.{Bot}
use Rattle.node_seats.specs.declared.seat.Seat.{Seat}
use Rattle.node_seats.specs.Words.{read_of}
use Rattle.node_seats.specs.Lines.{line_of}
use Rattle.node_seats.specs.Telling.{AreSaid}
use Rattle.node_service.specs.Bots.{AreBotsOf}
use Rattle.node_service.specs.Crossing.{AreCarried, Carries}
use Rattle.node_service.specs.declared.sitting.Sitting.TheVariants.{Here, Away}
use Rattle.node_service.specs.Served.{Served}
use Rattle.joined_lines.specs.Chosen.{IsByChosen}
use Rattle.joined_lines.specs.Coming.{SeatRelay, BotConnection, HaveLines}
use Rattle.joined_lines.specs.Processes.{AreStations}
use Rattle.joined_lines.specs.Serving.{IsServerOf, IsOfServer, LeadsToServers, ComesOfServer, ServersTellOneMatch}
use Rattle.joined_lines.proofs.WitnessRules.{sources, plan, is_plan, cards, dealt, said_by_bot, first_line, knows}
use Rattle.joined_lines.proofs.WitnessDeal.{in_order, in_true_order, is_chosen, TwoDeal, first_stands, first_has, second_has, stations, had, are_histories, vote_reads}
use Rattle.joined_lines.proofs.WitnessDisks.{Paper, paper}
use Rattle.joined_lines.proofs.WitnessPaper.{two_deal}
use Rattle.joined_lines.proofs.WitnessRelay.{told, passed_told, course, each_moment}

-- ---- the table, and its first line of seat 0

abbrev table : Match
table = record { game = setting.game; count = setting.title.hands; hands = (record { deal = cards; past = [] }) ∷ []; room = 0 }

hands_are : table.hands ≡ hands_after setting (dealt ∷ [])
unfolding opened
hands_are = refl

line_is : seat_line_at table.game table.hands 0 0 0 ≡ Some first_line
unfolding opened
line_is = refl

next_is : cursor_at 0 1 ≡ next_cursor table.game table.hands (cursor_at 0 0)
unfolding opened
next_is = refl

-- ---- a bot that asked for the first line, and was told that

abbrev the_bot : Bot
the_bot = record {
  sits = true;
  words = read_of said_by_bot;
  telling = Some (record { start = cursor_at 0 0; next = cursor_at 0 1; told = record { items = Wrote (wire.Seat 0) first_line ∷ [] } });
  parting = None;
}

abbrev seats : List Seat
seats = (record { bot = the_bot; since = None; waiting = record { waiting = []; room = 0 } }) ∷ []

-- what passed over the wires of its server
abbrev passed : List Passage
passed = Began (wire.Seat 0) ∷ Came (wire.Seat 0) said_by_bot ∷ Wrote (wire.Seat 0) (line_of first_line) ∷ []

another_seat : (seat : ℕ) → (0 == suc seat) ≡ false
another_seat seat = elim (eqb_tells 0 (suc seat)) as (λ _. (0 == suc seat) ≡ false) [
  | inl same ↦ absurd (let e = same.1 in omega (arith, e))
  | inr other ↦ other.0
]

nothing_written : (seat : ℕ) → wrote_over passed (wire.Seat (suc seat)) ≡ []
nothing_written seat = ap (λ (b : Bool). if b then (if b then [] else []) ++ line_of first_line else (if b then [] else [])) (another_seat seat)

nothing_came : (seat : ℕ) → came_over passed (wire.Seat (suc seat)) ≡ []
nothing_came seat = ap (λ (b : Bool). if b then (if b then [] else []) ++ said_by_bot else (if b then [] else [])) (another_seat seat)

of_seats : AreSaid passed seats
of_seats zero = (([], (refl, λ sits. refl)), refl)
of_seats (suc seat) = (([], (sym (ap (λ (w : List ℕ). (w ++ []) ++ []) (nothing_written seat)), λ sits. refl)), ap read_of (sym (nothing_came seat)))

of_peers : AreCarried passed []
of_peers (wire.Peer number) is = (refl, refl)
of_peers (wire.Caller place) is = (refl, refl)
of_peers (wire.Seat number) is = absurd is
of_peers (wire.Guest place) is = absurd is
of_peers (wire.Asker place) is = absurd is

-- a relay whose connection to node 0 this is
abbrev pub relay : Global → SeatRelay
relay alloc = record { seat = 0; desk = told alloc; passed = passed_told alloc }

-- or what came over it to a bot without a relay
abbrev pub bot : BotConnection
bot = record { seat = 0; came = line_of first_line; said = said_by_bot }

-- another line than the one that it was told begins nothing that was written
abbrev another_line : List ℕ
another_line = codes "MATCHSTATE:0:0::TdAs|"

not_another_line : (lost : List ℕ) → wrote_over passed (wire.Seat 0) ≡ line_of another_line ++ lost → ⊥
not_another_line lost same = let byte = ap (λ (bytes : List ℕ). get_or bytes 16 0) same in omega (arith, byte)

-- ---- the premises

module _ {D : Type 0} (g : Ghosts D) where
  -- of processes of a match, of an order of all that they did, whichever histories of theirs are taken, and of relays and bots
  pub record AreMet (setting : Setting) (sources : List Source) (stations : List (Option (Look (Node D)))) (all : List Doing) (relays : List SeatRelay) (bots : List BotConnection) : Type 0 where
    pub are_stations : AreStations g stations
    pub plan : IsPlan (plan_of setting sources)
    pub count : length stations ≡ length sources
    pub honest : IsTrue g.is_honest
    pub had : HaveIncarnations g (plan_of setting sources) stations
    pub order : (histories : ℕ → List Deed) → HaveHistories g (plan_of setting sources) stations had histories → IsTrueOrder (length sources) histories all
    pub relays_lead : AllByRecursion (LeadsToServers g (plan_of setting sources) stations had) relays
    pub bots_come : AllByRecursion (ComesOfServer g (plan_of setting sources) stations had) bots

  -- by the law these bots have lines of the dealer, by chosen commands
  pub so_by_the_law : ServersTellOneMatch g → (setting : Setting) (sources : List Source) (stations : List (Option (Look (Node D)))) (all : List Doing) (relays : List SeatRelay) (bots : List BotConnection) → AreMet setting sources stations all relays bots
      → IsByChosen (length sources) all (λ commands. HaveLines setting commands relays bots)
  so_by_the_law law setting sources stations all relays bots met =
      ∥∥₁_elim (law stations met.are_stations setting sources met.plan met.count met.honest met.had) (hlevel) (λ joined.
      (joined.joined all (met.order joined.histories joined.have)).lines relays met.relays_lead bots met.bots_come)

  module _ (honest : IsTrue g.is_honest) (d : TwoDeal g) where
    -- the table that its node has is that of the one deal
    its_table : Match
    its_table = table_in d.knowing_0.node

    its_table_is : IsTableOf setting (applied knows) its_table
    unfolding its_table
    its_table_is =
        let stands = first_stands g honest d in
        subst (λ (p : Place). IsTableOf p.setting (applied knows) (table_in d.knowing_0.node)) stands.at (has_its_table g d.knowing_0.node knows stands.seen)

    of_table : (P : Game → List Hand → Type 0) → P table.game table.hands → P its_table.game its_table.hands
    of_table P is =
        subst (λ (game : Game). P game its_table.hands) (sym its_table_is.game)
        (subst (λ (hands : List Hand). P setting.game hands) (hands_are ∙ sym its_table_is.hands) is)

    had_table : HadTable d.knowing_0 its_table
    unfolding its_table
    had_table = record {
      moment = moment_now d.knowing_0.node d.knowing_0.deeds;
      was = subst (λ (moments : List Moment). In (moment_now d.knowing_0.node d.knowing_0.deeds) moments) (sym (first_has g honest d).newest) (inl refl);
      table_is = refl;
    }

    bots_are_told : AreBotsOf d.knowing_0 seats
    bots_are_told zero = record {
      told = (
        its_table,
        (
          had_table,
          (
            of_table (λ game hands. seat_line_at game hands 0 0 0 ≡ Some first_line) line_is,
            of_table (λ game hands. cursor_at 0 1 ≡ next_cursor game hands (cursor_at 0 0)) next_is,
          ),
        ),
      );
      started = (refl, (its_table, (had_table, refl)));
      parted = tt;
    }
    bots_are_told (suc seat) = record { told = tt; started = tt; parted = tt }

    some_look : Look (Node D) → Option (Look (Node D)) → Look (Node D)
    some_look other None = other
    some_look other (Some look) = look

    each_is_a_station : AreStations g (stations g honest d)
    unfolding some_look
    each_is_a_station zero look is = subst (λ (l : Look (Node D)). Has g l) (ap (some_look look) is) (first_has g honest d)
    each_is_a_station (suc zero) look is = subst (λ (l : Look (Node D)). Has g l) (ap (some_look look) is) (second_has g honest d)
    each_is_a_station (suc (suc zero)) look is = absurd cc
    each_is_a_station (suc (suc (suc i))) look is = absurd cc

    -- whatever else there is of the server
    module _ (other : Served (Node D)) where
      abbrev served : Served (Node D)
      served = record other { look = d.knowing_0; passed = passed; lines = []; bots = seats; askers = [] }

      over_its_wires : Carries served
      over_its_wires = record { peers = of_peers; said = of_seats; guests = λ place. refl; answered = λ place. refl }

      is_server : IsServerOf d.knowing_0 served
      is_server = record { moments = ([], refl); bots = bots_are_told; carries = over_its_wires }

      wrote : (seat : ℕ) (came : List ℕ) → wrote_over passed (wire.Seat seat) ≡ came ++ [] → IsOfServer g plan (stations g honest d) (had g honest d) seat came
      wrote seat came is = record { node = 0; is_node = omega arith; look = d.knowing_0; process = inl refl; served = served; server = is_server; lost = []; bytes = is }

      comes : ComesOfServer g plan (stations g honest d) (had g honest d) bot
      unfolding wrote
      comes = record { server = wrote 0 (line_of first_line) refl; later = []; heard = refl }

      -- a bot without a relay
      pub are_met : AreMet setting sources (stations g honest d) in_order [] (bot ∷ [])
      are_met = record {
        are_stations = each_is_a_station;
        plan = is_plan;
        count = refl;
        honest = honest;
        had = had g honest d;
        order = λ histories have. in_true_order histories (are_histories g honest d histories have);
        relays_lead = tt;
        bots_come = (comes, tt);
      }

      -- or the same connection, of a relay
      module _ (alloc : Global) where
        leads : LeadsToServers g plan (stations g honest d) (had g honest d) (relay alloc)
        leads = record {
          course = course alloc;
          come = λ node front behind whole. elim (each_moment alloc node front behind whole) as (λ _. (came_over front (wire.Peer node) ≡ []) ⊎ IsOfServer g plan (stations g honest d) (had g honest d) 0 (came_over front (wire.Peer node))) [
            | inl none ↦ inl none
            | inr all ↦ inr (wrote 0 (came_over front (wire.Peer node)) (sym (ap (λ (came : List ℕ). came ++ []) all)))
          ];
        }

        pub are_met_by_a_relay : AreMet setting sources (stations g honest d) in_order (relay alloc ∷ []) []
        are_met_by_a_relay = record {
          are_stations = each_is_a_station;
          plan = is_plan;
          count = refl;
          honest = honest;
          had = had g honest d;
          order = λ histories have. in_true_order histories (are_histories g honest d histories have);
          relays_lead = (leads, tt);
          bots_come = tt;
        }

-- ---- values

-- the deal is chosen by nodes 0 and 1
pub the_deal_is_chosen : (alloc : Global) → AreChosen 3 (said (record_of in_order).sent) (dealt ∷ [])
the_deal_is_chosen alloc = is_chosen (vote_reads paper refl (two_deal alloc))

-- what the law says nothing of
abbrev some_server : Look (Node Paper) → Served (Node Paper)
some_server look = record {
  look = look;
  started = true;
  terms = record { patience = None; start = 0; gives_up = false; settings = None };
  passed = [];
  log_failed = false;
  sent = [];
  heard = [];
  sittings = record { all = Here ∷ replicate 9 Away };
  apart = record { is_apart = false; times = 0 };
  own = record { number = 0; nodes = 3; digest = record { bytes = replicate 32 9 }; life = record { bytes = replicate 16 6 }; key = None };
  lines = [];
  bots = [];
  guests = None;
  askers = [];
}

pub over_paper : (alloc : Global) → AreMet paper setting sources (stations paper refl (two_deal alloc)) in_order [] (bot ∷ [])
over_paper alloc = are_met paper refl (two_deal alloc) (some_server (two_deal alloc).knowing_0)

pub over_paper_by_a_relay : (alloc : Global) → AreMet paper setting sources (stations paper refl (two_deal alloc)) in_order (relay alloc ∷ []) []
over_paper_by_a_relay alloc = are_met_by_a_relay paper refl (two_deal alloc) (some_server (two_deal alloc).knowing_0) alloc
