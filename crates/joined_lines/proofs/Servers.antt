-- What comes over a connection to a server was told off tables of the match's nodes, and so each bot is given the lines of the one dealer.
use Rattle.std.proofs.Common.{◌≡◌, ◌≢◌, ◌⊎◌, ℕ, ◌<◌, true, List, [], ◌++◌, ◌∷◌, length, Option, Some, None, get_or, refl, sym, ap, ◌∙◌, subst, inl, inr, append_assoc}
use Rattle.std.proofs.Math.Logic.{∥∥₁_map}
use Rattle.std.specs.List.{AllByRecursion}
use Rattle.promise_store.specs.declared.disk.Disk.{Ghosts}
use Rattle.slot_log.specs.Hand.{Match}
use Rattle.protocol_model.specs.Sets.{In}
use Rattle.protocol_model.proofs.Sets.{in_later}
use Rattle.dealer_kind.specs.Plans.{Plan}
use Rattle.node_rules.specs.Standings.{place_of}
use Rattle.dealer_node.specs.Nodes.{Node}
use Rattle.dealer_world.specs.RuleRuns.{plan_of}
use Rattle.stations.specs.Deeds.{Deed}
use Rattle.stations.specs.Moments.{Moment}
use Rattle.stations.specs.Stations.{Look, DeathsAtRestAreDeeds, DeathsInsideAreDeeds}
use Rattle.stations.specs.Tables.{HadTable, WasLook, WasTable}
use Rattle.stations.specs.Together.{HaveIncarnations}
use Rattle.node_wires.specs.declared.line.Line.TheVariants.{Peer, Seat}
use Rattle.node_wires.specs.Passages.{Passage, came_over, wrote_over}
use Rattle.line_cursor.specs.declared.cursor.Cursor.{Cursor}
use Rattle.line_cursor.specs.Cursors.{cursor_at, next_cursor}
use Rattle.node_seats.specs.declared.bot.Bot.{Bot}
use Rattle.node_seats.specs.declared.bot.Parting.{Parting}
use Rattle.node_seats.specs.declared.bot.Parting.TheVariants.{Over, Other, Wait}
use Rattle.node_seats.specs.declared.bot.Telling.{Telling}
use Rattle.node_seats.specs.declared.words.Asked.{Asked}
use Rattle.node_seats.specs.declared.words.Asked.TheVariants as asks
use Rattle.node_seats.specs.Words.{Reading, read_of}
use Rattle.node_seats.specs.Seating.{names_line, bot_at, waits_at}
use Rattle.node_seats.specs.Telling.{TellsFrom, lines_of, text_for, text_told, parting_text}
use Rattle.node_service.specs.Bots.{IsRefusedBy, IsToldBy, IsStarted, IsOverFor, IsParted, IsBotOf}
use Rattle.node_service.specs.Served.{Served}
use Rattle.joined_lines.specs.Coming.{IsOfTold, ComeOfTold, SeatRelay, IsToldSo, BotConnection, BeginsAt, BringsTold, RelaysTellOneMatch}
use Rattle.joined_lines.specs.Serving.{IsServerOf, IsOfServer, ComeOfServers, LeadsToServers, ComesOfServer, ServersTellOneMatch}
use Rattle.joined_lines.proofs.Saying.{words_behind, asked_behind}
use Rattle.joined_lines.proofs.Histories.{IsThere, all_nodes, all_did, has_history, there_at, are_processes}

tells_such : (such other : Match → Type 0) → ((table : Match) → such table → other table) → (seat : ℕ) (at : Cursor) (lines : List (List ℕ)) (next : Cursor) → TellsFrom such seat at lines next → TellsFrom other seat at lines next
tells_such such other change seat at [] next tells = tells
tells_such such other change seat at (line ∷ lines) next (table, (is, (told, more))) =
    (table, (change table is, (told, tells_such such other change seat (next_cursor table.game table.hands at) lines next more)))

not_over : None ≡ Some Over → ⊥
not_over e = cc

not_nothing : (telling : Telling) → Some telling ≡ None → ⊥
not_nothing telling e = cc

abbrev no_lines : List (List ℕ)
no_lines = []

-- a bot that was told no line, nor that the match is over, hasn't begun
not_begun : {parting : Option Parting} → (no_lines ≢ []) ⊎ (parting ≡ Some Over) → (parting ≡ Some Over → ⊥) → ⊥
not_begun (inl some) goes_on = some refl
not_begun (inr over) goes_on = goes_on over

-- nothing came
none_told : (such : Match → Type 0) (seat : ℕ) (came : List ℕ) → came ≡ [] → IsOfTold such seat came
none_told such seat came none =
    record { start = cursor_at 0 0; next = cursor_at 0 0; lines = []; told = refl; parting = None; over = λ e. absurd (not_over e); lost = []; bytes = ap (λ (bytes : List ℕ). bytes ++ []) (sym none) }

refused_names : (table : Match) (seat : ℕ) (asked : Asked) (named : List ℕ) → IsRefusedBy table seat asked named → names_line asked ≡ true
refused_names table seat asks.Nothing named is = absurd is
refused_names table seat asks.First named is = absurd is
refused_names table seat asks.Newest named is = absurd is
refused_names table seat asks.Line named is = refl
refused_names table seat asks.Other named is = refl

module _ {D : Type 0} (g : Ghosts D) where
  -- ---- tables

  -- a table that the node of a server had by some moment is one that a node of the match had
  server_had : (plan : Plan) (histories : ℕ → List Deed) (node : ℕ) (look : Look (Node D)) (served : Served (Node D)) → node < length plan.sources → WasLook g (place_of plan node) (histories node) look
      → IsServerOf look served → (table : Match) → HadTable served.look table → WasTable g plan histories table
  server_had plan histories node look served is_node was server table had = record {
    node = node;
    is_node = is_node;
    look = look;
    was = was;
    had = record {
      moment = had.moment;
      was = subst (λ (moments : List Moment). In had.moment moments) (sym server.moments.1) (in_later server.moments.0 served.look.moments had.moment had.was);
      table_is = had.table_is;
    };
  }

  -- ---- bytes

  -- a bot that was told that its line is none named one, or asked twice
  names_one : (look : Look (Node D)) (seat : ℕ) (bot : Bot) (said : List ℕ) → IsParted look seat bot (Some Other) → (bot.words.is_over ≡ true → bot.words ≡ read_of said) → names_line (read_of said).asked ≡ true
  names_one look seat bot said is words =
      let named : names_line bot.words.asked ≡ true = refused_names is.1.1.0 seat bot.words.asked bot.words.named is.1.1.1.1 in
      subst (λ (r : Reading). names_line r.asked ≡ true) (words is.1.0) named

  -- what a bot was told, off such tables, and where it asked for that
  bot_told : (such : Match → Type 0) (look : Look (Node D)) → ((table : Match) → HadTable look table → such table) → (seat : ℕ) (bot : Bot) (telling : Option Telling) (came lost said : List ℕ) → IsToldBy look seat telling
      → IsStarted look seat bot.words telling → (bot.parting ≡ Some Over → IsOverFor look seat bot.words telling) → (bot.parting ≡ Some Other → IsParted look seat bot (Some Other)) → (bot.parting ≡ Some Wait → (read_of said).asked ≢ asks.Nothing) → bot.telling ≡ telling
      → text_told telling ++ parting_text bot.parting ≡ came ++ lost → (bot.words.is_over ≡ true → bot.words ≡ read_of said) → BringsTold such (record { seat = seat; came = came; said = said })
  bot_told such look change seat bot None came lost said told started over other wait same bytes words = record {
    come = record { start = cursor_at 0 0; next = cursor_at 0 0; lines = []; told = refl; parting = bot.parting; over = λ e. absurd (over e); lost = lost; bytes = bytes };
    begins = λ has. absurd (not_begun has over);
    alone = λ e. refl;
    refused = λ e. names_one look seat bot said (other e) words;
    put_off = wait;
  }
  bot_told such look change seat bot (Some telling) came lost said told started over other wait same bytes words = record {
    come = record {
      start = telling.start;
      next = telling.next;
      lines = lines_of telling;
      told = tells_such (HadTable look) such change seat telling.start (lines_of telling) telling.next told;
      parting = bot.parting;
      over = λ e. let so = over e in (so.1.0, (change so.1.0 so.1.1.0, so.1.1.1));
      lost = lost;
      bytes = bytes;
    };
    begins = λ has.
        let begins : BeginsAt such seat bot.words telling.start = (started.1.0, (change started.1.0 started.1.1.0, started.1.1.1)) in
        subst (λ (r : Reading). BeginsAt such seat r telling.start) (words started.0) begins;
    alone = λ e. absurd (not_nothing telling (sym same ∙ (other e).0));
    refused = λ e. names_one look seat bot said (other e) words;
    put_off = wait;
  }

  server_told : (such : Match → Type 0) (look : Look (Node D)) (served : Served (Node D)) (seat : ℕ) (came lost said later : List ℕ) → ((table : Match) → HadTable served.look table → such table) → IsServerOf look served
      → wrote_over served.passed (Seat seat) ≡ came ++ lost → said ≡ came_over served.passed (Seat seat) ++ later → BringsTold such (record { seat = seat; came = came; said = said })
  server_told such look served seat came lost said later change server wrote heard =
      let bot : Bot = bot_at served.bots seat in
      let waits : List ℕ = waits_at served.bots seat in
      let is : IsBotOf served.look seat bot = server.bots seat in
      let wrote_is = (server.carries.said seat).0 in
      let words_are : bot.words ≡ read_of (came_over served.passed (Seat seat)) = (server.carries.said seat).1 in
      let bytes : text_for bot ≡ came ++ (lost ++ (waits ++ wrote_is.0)) =
      wrote_is.1.0
      ∙ (append_assoc (wrote_over served.passed (Seat seat)) waits wrote_is.0 ∙ (ap (λ (w : List ℕ). w ++ (waits ++ wrote_is.0)) wrote ∙ append_assoc came lost (waits ++ wrote_is.0))) in
      bot_told such served.look change seat bot bot.telling came (lost ++ (waits ++ wrote_is.0)) said is.told is.started (λ e. subst (IsParted served.look seat bot) e is.parted)
      (λ e. subst (IsParted served.look seat bot) e is.parted)
      (λ e. asked_behind bot.words (came_over served.passed (Seat seat)) later said words_are heard (subst (IsParted served.look seat bot) e is.parted)) refl bytes (words_behind bot.words (came_over served.passed (Seat seat)) later said words_are heard)

  -- ---- the law

  of_server_told : (stations : List (Option (Look (Node D)))) (plan : Plan) (had : HaveIncarnations g plan stations) (histories : ℕ → List Deed) → length stations ≡ length plan.sources
      → ((i : ℕ) (less : i < length stations) → IsThere g (place_of plan i) (get_or stations i None) (had i less) (histories i)) → (seat : ℕ) (came said later : List ℕ) (server : IsOfServer g plan stations had seat came)
      → said ≡ came_over server.served.passed (Seat seat) ++ later → BringsTold (WasTable g plan histories) (record { seat = seat; came = came; said = said })
  of_server_told stations plan had histories count there seat came said later of heard =
      let within : of.node < length plan.sources = subst (λ (n : ℕ). of.node < n) count of.is_node in
      server_told (WasTable g plan histories) of.look of.served seat came of.lost said later
      (server_had plan histories of.node of.look of.served within ((there of.node of.is_node).was of.look of.process) of.server) of.server of.bytes heard

  servers_told : (stations : List (Option (Look (Node D)))) (plan : Plan) (had : HaveIncarnations g plan stations) (histories : ℕ → List Deed) → length stations ≡ length plan.sources
      → ((i : ℕ) (less : i < length stations) → IsThere g (place_of plan i) (get_or stations i None) (had i less) (histories i)) → (seat : ℕ) (passed : List Passage) → ComeOfServers g plan stations had seat passed
      → ComeOfTold (WasTable g plan histories) seat passed
  servers_told stations plan had histories count there seat passed come node front behind whole =
      elim (come node front behind whole) as (λ _. IsOfTold (WasTable g plan histories) seat (came_over front (Peer node))) [
        | inl none ↦ none_told (WasTable g plan histories) seat (came_over front (Peer node)) none
        | inr of ↦ (of_server_told stations plan had histories count there seat (came_over front (Peer node)) (came_over of.served.passed (Seat seat) ++ []) [] of refl).come
      ]

  relays_told : (stations : List (Option (Look (Node D)))) (plan : Plan) (had : HaveIncarnations g plan stations) (histories : ℕ → List Deed) → length stations ≡ length plan.sources
      → ((i : ℕ) (less : i < length stations) → IsThere g (place_of plan i) (get_or stations i None) (had i less) (histories i)) → (relays : List SeatRelay) → AllByRecursion (LeadsToServers g plan stations had) relays
      → AllByRecursion (IsToldSo (WasTable g plan histories)) relays
  relays_told stations plan had histories count there [] lead = tt
  relays_told stations plan had histories count there (relay ∷ relays) lead =
      (record { course = lead.0.course; come = servers_told stations plan had histories count there relay.seat relay.passed lead.0.come }, relays_told stations plan had histories count there relays lead.1)

  bots_told : (stations : List (Option (Look (Node D)))) (plan : Plan) (had : HaveIncarnations g plan stations) (histories : ℕ → List Deed) → length stations ≡ length plan.sources
      → ((i : ℕ) (less : i < length stations) → IsThere g (place_of plan i) (get_or stations i None) (had i less) (histories i)) → (bots : List BotConnection) → AllByRecursion (ComesOfServer g plan stations had) bots
      → AllByRecursion (BringsTold (WasTable g plan histories)) bots
  bots_told stations plan had histories count there [] come = tt
  bots_told stations plan had histories count there (bot ∷ bots) come =
      (of_server_told stations plan had histories count there bot.seat bot.came bot.said come.0.later come.0.server come.0.heard, bots_told stations plan had histories count there bots come.1)

  pub servers_tell_one_match : DeathsAtRestAreDeeds g → DeathsInsideAreDeeds g → RelaysTellOneMatch g → ServersTellOneMatch g
  servers_tell_one_match rests breaks law stations are setting sources is_plan count honest had =
      let plan = plan_of setting sources in
      ∥∥₁_map (all_nodes g stations rests breaks honest are plan had) (λ each.
      let histories : ℕ → List Deed = all_did g stations plan had each in
      let there = there_at g stations plan had each in
      record {
        histories = histories;
        have = has_history g stations plan had each;
        joined = λ all order.
            let processes = are_processes g stations setting sources is_plan count had histories there all order in
            record {
              processes = processes;
              lines = λ relays lead bots come.
                  law setting sources histories all processes honest relays (relays_told stations plan had histories count there relays lead) bots (bots_told stations plan had histories count there bots come);
            };
      })
