-- What the definitions say of the smallest cases, and near misses.
use Rattle.std.proofs.Common.{◌≡◌, ℕ, true, false, List, [], ◌∷◌, ◌++◌, codes, get_or, Option, Some, None, refl, sym, ap, ◌∙◌, subst, inl, inr, arith}
use Rattle.promise_store.specs.declared.disk.Disk.{Ghosts}
use Rattle.promise_store.specs.Journals.{header}
use Rattle.promise_store.specs.Holding.{StandsFor}
use Rattle.protocol_model.specs.Stores.{empty_store}
use Rattle.slot_log.specs.Dealer.{is_match_over}
use Rattle.slot_log.specs.Hand.{Match}
use Rattle.slot_log.specs.declared.command.Command.{Command}
use Rattle.dealer_kind.specs.Kind.{Setting, hands_after}
use Rattle.dealer_kind.specs.Plans.{Plan}
use Rattle.node_rules.specs.Standings.{Place}
use Rattle.dealer_node.specs.Nodes.{Node}
use Rattle.stations.specs.Moments.{Moment}
use Rattle.stations.specs.Stations.{Look}
use Rattle.stations.specs.Incarnations.{new_store}
use Rattle.stations.specs.Together.{HasIncarnations, HaveIncarnations}
use Rattle.node_wires.specs.declared.line.Line.TheVariants.{Peer}
use Rattle.node_wires.specs.Passages.{Passage, Began, Came}
use Rattle.line_cursor.specs.declared.cursor.Cursor.{Cursor}
use Rattle.line_cursor.specs.Cursors.{cursor_at}
use Rattle.seat_relay.specs.declared.place.Place.{Place as LinePlace}
use Rattle.seat_relay.specs.Relaying.{Line, with_place, Begins, Tells}
use Rattle.seat_relay.specs.Dealing.{dealers_lines}
use Rattle.seat_relay.specs.Laws.{IsFront, IsPart}
use Rattle.node_seats.specs.declared.bot.Parting.{Parting}
use Rattle.node_seats.specs.declared.bot.Parting.TheVariants.{Over, Other, Wait}
use Rattle.node_seats.specs.Words.{read_of}
use Rattle.node_seats.specs.Telling.{TellsFrom, text_of, parting_text}
use Rattle.relay_runs.specs.declared.desk.Desk.{Desk}
use Rattle.relay_runs.specs.Said.{bytes_of_lines}
use Rattle.node_service.specs.Bots.{AreBotsOf}
use Rattle.node_service.specs.Crossing.{Carries}
use Rattle.node_service.specs.Served.{Served}
use Rattle.joined_lines.specs.Bringing.{IsOfPlaced, AreToldFirst, BringToldLines}
use Rattle.joined_lines.specs.Chosen.{lines_by}
use Rattle.joined_lines.specs.Coming.{IsOfTold, AreBytesOf, BotConnection, AreLast, IsAskedFor, BringsLines}
use Rattle.joined_lines.specs.Processes.{IsProcessOf}
use Rattle.joined_lines.specs.Serving.{IsServerOf, ComeOfServers, LeadsToServers, ComesOfServer}

-- no node had a table
abbrev NoTable : Match → Type 0
NoTable table = ⊥

abbrev line_at_start : List ℕ → Line
line_at_start text = with_place text (let place : LinePlace = record { hand = 0; len = 0 } in place)

-- ---- line by line

-- what is no line of the dealer names no place
no_place : IsOfPlaced (Tells 1 (line_at_start [])) → ⊥
no_place is = let whole = is.has_fields.whole in absurd cc

none_told : AreToldFirst NoTable 0 []
none_told = record { start = cursor_at 0 0; next = cursor_at 0 0; further = []; told = refl }

-- off no table no line is told
not_told : (text : List ℕ) → AreToldFirst NoTable 0 (text ∷ []) → ⊥
not_told text first = first.told.1.0

nothing_brought : BringToldLines NoTable 0 []
nothing_brought node [] behind whole = none_told
nothing_brought node (e ∷ front) behind whole = absurd cc

-- a connection brings one
not_brought : (line : Line) → BringToldLines NoTable 0 (Begins 1 ∷ Tells 1 line ∷ []) → ⊥
not_brought line brings = not_told line.text (brings 1 (Begins 1 ∷ Tells 1 line ∷ []) [] refl)

-- ---- byte by byte

-- a part of #OTHER came, and no line
not_over : Some Other ≡ Some Over → ⊥
not_over e = cc

other_came : IsOfTold NoTable 0 (codes "#OT")
other_came = record {
  start = cursor_at 0 0;
  next = cursor_at 0 0;
  lines = [];
  told = refl;
  parting = Some Other;
  over = λ e. absurd (not_over e);
  lost = codes "HER\r\n";
  bytes = refl;
}

no_lines : (at next : Cursor) (lines : List (List ℕ)) → TellsFrom NoTable 0 at lines next → lines ≡ []
no_lines at next [] tells = refl
no_lines at next (line ∷ lines) tells = absurd tells.1.0

only_parting : (came : List ℕ) (told : IsOfTold NoTable 0 came) → parting_text told.parting ≡ came ++ told.lost
only_parting came told = sym (ap (λ (lines : List (List ℕ)). text_of lines ++ parting_text told.parting) (no_lines told.start told.next told.lines told.told)) ∙ told.bytes

-- #OVER comes only where a table says so
no_parting : (parting : Option Parting) (lost : List ℕ) → (parting ≡ Some Over → ⊥) → parting_text parting ≡ codes "#OVER" ++ lost → ⊥
no_parting None lost over e = cc
no_parting (Some Over) lost over e = over refl
no_parting (Some Wait) lost over e = let second = ap (λ (bytes : List ℕ). get_or bytes 1 0) e in omega (arith, second)
no_parting (Some Other) lost over e = let third = ap (λ (bytes : List ℕ). get_or bytes 2 0) e in omega (arith, third)

over_not_told : IsOfTold NoTable 0 (codes "#OVER") → ⊥
over_not_told told = no_parting told.parting told.lost (λ e. (told.over e).1.0) (only_parting (codes "#OVER") told)

-- ---- what the bot has

abbrev first_line : Line
first_line = line_at_start (codes "A")

abbrev second_line : Line
second_line = line_at_start (codes "B")

a_part : AreBytesOf true (first_line ∷ second_line ∷ []) (codes "B\r\n")
a_part = record { given = second_line ∷ []; are = record { before = first_line ∷ []; behind = []; joined = refl }; as_bytes = refl }

-- a part isn't a beginning
not_the_first : (given : List Line) → IsFront given (first_line ∷ second_line ∷ []) → codes "B\r\n" ≡ bytes_of_lines given → ⊥
not_the_first [] front bytes = cc
not_the_first (line ∷ more) front bytes =
    let joined = front.joined in
    let same : first_line ≡ line = cc in
    let first = subst (λ (l : Line). 66 ≡ get_or (bytes_of_lines (l ∷ more)) 0 0) (sym same) (ap (λ (b : List ℕ). get_or b 0 0) bytes) in
    omega (arith, first)

no_beginning : AreBytesOf false (first_line ∷ second_line ∷ []) (codes "B\r\n") → ⊥
no_beginning is = not_the_first is.given is.are is.as_bytes

-- ---- what a bot without a relay has

abbrev of_first_seat : List ℕ → BotConnection
of_first_seat came = record { seat = 0; came = came; said = codes "#RESUME A\r\nVERSION:2.0.0\r\n" }

-- before the first command a part of #OTHER comes to it
other_brought : (setting : Setting) → BringsLines setting [] (of_first_seat (codes "#OT"))
other_brought setting = record {
  given = [];
  are = record { before = []; behind = lines_by setting 0 []; joined = refl };
  parting = Some Other;
  over = λ e. absurd (not_over e);
  asked = λ some. absurd (some refl);
  alone = λ e. refl;
  refused = λ e. refl;
  put_off = λ e. absurd cc;
  lost = codes "HER\r\n";
  bytes = refl;
}

not_empty : (before : List Line) (line : Line) (more : List Line) → [] ≡ before ++ line ∷ more → ⊥
not_empty [] line more e = cc
not_empty (first ∷ before) line more e = cc

none_given : (setting : Setting) (given : List Line) → IsPart given (lines_by setting 0 []) → given ≡ []
unfolding dealers_lines
none_given setting [] part = refl
none_given setting (line ∷ given) part = absurd (not_empty part.before line (given ++ part.behind) part.joined)

only_behind : (setting : Setting) (came : List ℕ) (brings : BringsLines setting [] (of_first_seat came)) → parting_text brings.parting ≡ came ++ brings.lost
only_behind setting came brings = sym (ap (λ (lines : List Line). bytes_of_lines lines ++ parting_text brings.parting) (none_given setting brings.given brings.are)) ∙ brings.bytes

-- but no line
no_letter : (parting : Option Parting) (lost : List ℕ) → parting_text parting ≡ codes "M" ++ lost → ⊥
no_letter None lost e = cc
no_letter (Some Over) lost e = let first = ap (λ (bytes : List ℕ). get_or bytes 0 0) e in omega (arith, first)
no_letter (Some Wait) lost e = let first = ap (λ (bytes : List ℕ). get_or bytes 0 0) e in omega (arith, first)
no_letter (Some Other) lost e = let first = ap (λ (bytes : List ℕ). get_or bytes 0 0) e in omega (arith, first)

line_not_brought : (setting : Setting) → BringsLines setting [] (of_first_seat (codes "M")) → ⊥
line_not_brought setting brings = no_letter brings.parting brings.lost (only_behind setting (codes "M") brings)

-- and #OVER only behind a line
over_not_brought : (setting : Setting) → BringsLines setting [] (of_first_seat (codes "#OVER")) → ⊥
over_not_brought setting brings = no_parting brings.parting brings.lost (λ e. (brings.over e).some (none_given setting brings.given brings.are)) (only_behind setting (codes "#OVER") brings)

-- a bot that asked for all lines has the first one first
abbrev both_lines : List Line
both_lines = first_line ∷ second_line ∷ []

abbrev said_first : List ℕ
said_first = codes "#RESUME FIRST\r\nVERSION:2.0.0\r\n"

first_for_first : IsAskedFor (read_of said_first).asked (read_of said_first).named (first_line ∷ []) both_lines
first_for_first = record { behind = second_line ∷ []; joined = refl }

second_for_first : IsAskedFor (read_of said_first).asked (read_of said_first).named (second_line ∷ []) both_lines → ⊥
second_for_first front =
    let joined = front.joined in
    let same : first_line ≡ second_line = cc in
    let first = ap (λ (line : Line). get_or line.text 0 0) same in
    omega (arith, first)

-- one that named a line has that one first
abbrev said_second : List ℕ
said_second = codes "#RESUME B\r\nVERSION:2.0.0\r\n"

second_for_second : IsAskedFor (read_of said_second).asked (read_of said_second).named (second_line ∷ []) both_lines
second_for_second = refl

first_for_second : IsAskedFor (read_of said_second).asked (read_of said_second).named (first_line ∷ second_line ∷ []) both_lines → ⊥
first_for_second is =
    let same : codes "A" ≡ codes "B" = cc in
    let first = ap (λ (text : List ℕ). get_or text 0 0) same in
    omega (arith, first)

-- and one that asked twice has none
abbrev said_twice : List ℕ
said_twice = codes "#RESUME FIRST\r\n#RESUME B\r\nVERSION:2.0.0\r\n"

none_for_both : IsAskedFor (read_of said_twice).asked (read_of said_twice).named (first_line ∷ []) both_lines → ⊥
none_for_both is = is

-- #OTHER doesn't come to one that named none
not_refused : (setting : Setting) (commands : List Command) (brings : BringsLines setting commands (record { seat = 0; came = codes "#OT"; said = said_first })) → brings.parting ≡ Some Other → ⊥
not_refused setting commands brings e = let wrong : false ≡ true = brings.refused e in cc

-- where the match goes on no lines are the last
not_yet : (setting : Setting) (lines : List Line) → is_match_over setting.game setting.title.hands (hands_after setting []) ≡ false → AreLast setting [] 0 lines → ⊥
not_yet setting lines goes_on are = let wrong : false ≡ true = sym goes_on ∙ are.over in cc

-- ---- servers

module _ {D : Type 0} (g : Ghosts D) where
  -- a node that has only just been created had no process
  none_yet : (place : Place) (file : List ℕ) (is : StandsFor (header place.node place.nodes) file empty_store) (look : Look (Node D)) → IsProcessOf g place None (record { file = file; incarnations = new_store file is }) look → ⊥
  none_yet place file is look process = process

  present_one : (place : Place) (look : Look (Node D)) (had : HasIncarnations g place (Some look)) → IsProcessOf g place (Some look) had look
  present_one place look had = inl refl

  -- a server as it is now is one of its process
  as_now : (served : Served (Node D)) → AreBotsOf served.look served.bots → Carries served → IsServerOf served.look served
  as_now served bots carries = record { moments = ([], refl); bots = bots; carries = carries }

  -- and none whose node had a table later than that of the process
  ends_so : (since : List Moment) (moment : Moment) → [] ≡ since ++ moment ∷ [] → ⊥
  ends_so [] moment e = cc
  ends_so (first ∷ since) moment e = cc

  not_of_later : (look : Look (Node D)) (served : Served (Node D)) (moment : Moment) → look.moments ≡ [] → served.look.moments ≡ moment ∷ [] → IsServerOf look served → ⊥
  not_of_later look served moment none one is =
      ends_so is.moments.0 moment (sym none ∙ (is.moments.1 ∙ ap (λ (moments : List Moment). is.moments.0 ++ moments) one))

  nothing_came : (plan : Plan) (stations : List (Option (Look (Node D)))) (had : HaveIncarnations g plan stations) (seat : ℕ) → ComeOfServers g plan stations had seat []
  nothing_came plan stations had seat node [] behind whole = inl refl
  nothing_came plan stations had seat node (p ∷ front) behind whole = absurd cc

  -- where the match has no node nothing comes
  abbrev one_byte : List Passage
  one_byte = Began (Peer 0) ∷ Came (Peer 0) (codes "M") ∷ []

  nobody_wrote : (plan : Plan) (had : HaveIncarnations g plan []) (seat : ℕ) → ComeOfServers g plan [] had seat one_byte → ⊥
  nobody_wrote plan had seat come = elim (come 0 one_byte [] refl) as (λ _. ⊥) [
    | inl none ↦ cc
    | inr of ↦ let less = of.is_node in omega (arith, less)
  ]

  -- so no relay whose connection brought a byte leads there
  leads_nowhere : (plan : Plan) (had : HaveIncarnations g plan []) (seat : ℕ) (desk : Desk) → LeadsToServers g plan [] had (record { seat = seat; desk = desk; passed = one_byte }) → ⊥
  leads_nowhere plan had seat desk lead = nobody_wrote plan had seat lead.come

  -- nor does a bot's
  of_no_server : (plan : Plan) (had : HaveIncarnations g plan []) (bot : BotConnection) → ComesOfServer g plan [] had bot → ⊥
  of_no_server plan had bot come = let less = come.server.is_node in omega (arith, less)
