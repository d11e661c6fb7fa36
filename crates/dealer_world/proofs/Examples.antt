-- Records, read out; and records that aren't so.
use Rattle.std.proofs.Common.{◌≡◌, Err, Ok, get_or, ◌≢◌, ℕ, zero, suc, ◌+◌, ◌*◌, ◌<◌, ◌≤◌, inl, inr, Bool, true, false, cond, Option, Some, None, Vec, Global, List, [], ◌∷◌, ◌++◌, length, take, replicate, refl, ap, sym, ◌∙◌, subst, arith}
use Rattle.paxos_wire.specs.Reading.{body_of, message_at, of_ballot_at, ballot_at, ask_at, below_at}
use Rattle.paxos_wire.specs.Faults.{header_fault, reading}
use Rattle.slot_log.specs.declared.command.Command.{Command}
use Rattle.protocol_model.specs.Sets.{In, IsBeginning}
use Rattle.protocol_model.specs.Messages.{Prepare, Ask}
use Rattle.protocol_model.specs.Arrivals as model
use Rattle.protocol_model.specs.Dealers.{Dealer, Seat, Log}
use Rattle.protocol_model.specs.Moves.{Shown}
use Rattle.protocol_model.specs.Quorums.{count, AreChosen}
use Rattle.protocol_model.specs.Laws.{NeverGoesBack}
use Rattle.dealer_world.specs.declared.rows.Entry.{Entry}
use Rattle.dealer_world.specs.Rows.{Row, cut, start_of, AreEnds}
use Rattle.dealer_world.specs.declared.shared_rows.Numbered.{Numbered}
use Rattle.dealer_world.specs.SharedRows.{text_of, rows_by, AreNumbered}
use Rattle.dealer_world.specs.Records.{Frame, Arrived, Delivered, Came, Connected, Dropped, Arrival, Piece, Record, no_record, Line, lines_of, logs_of, start_count, last_start, said_by, said}
use Rattle.dealer_world.specs.Unforged.{IsAmong, IsUnforged}
use Rattle.dealer_world.specs.Hearing.{heard_by, WasHeard}
use Rattle.dealer_world.specs.Headline.{Era, AreTexts, OneList}
use Rattle.dealer_world.specs.Calls.{Made, nothing_made, AreTold, Brings}
use Rattle.dealer_world.specs.Views.{grown}
use Rattle.std.proofs.lemmas.List.{get_or-set_other}
use Rattle.protocol_model.specs.Stores.{Store, empty_store}
use Rattle.dealer_kind.specs.Kind.{Setting}
use Rattle.dealer_kind.specs.Plans.{Plan, HasNodes}
use Rattle.dealer_kind.proofs.Counts.{three_nodes}
use Rattle.dealer_kind.specs.declared.source.Source.{Source}
use Rattle.dealer_kind.specs.declared.source.Source.TheVariants.{Seed, Listed}
use Rattle.dealer_kind.specs.Sources.{HasDeals}
use Rattle.dealer_world.specs.RecordLaws.{HaveDeals}
use Rattle.std.proofs.lemmas.List.Elements.{All-nil, All-cons, All-head}
use Rattle.node_rules.specs.Standings.{Standing}
use Rattle.dealer_node.specs.declared.reader.Reader.TheVariants as reads
use Rattle.dealer_node.specs.declared.fault.NodeFault.TheVariants as fault
use Rattle.dealer_world.specs.declared.event.Event.TheVariants as event
use Rattle.dealer_world.specs.Events.{node_of, brought_by}
use Rattle.node_rules.specs.Calm.{Ticks}
use Rattle.dealer_world.specs.CalmCluster.{AreEvents}
use Rattle.dealer_world.specs.Stepping.{IsFor, arrived_by_event, begins_by_event}
use Rattle.dealer_world.specs.Recordings.{whole}
use Rattle.dealer_world.specs.KeptStarts.{AreCounted}
use Rattle.dealer_world.specs.RuleRuns.{State, Steps, RunsTo, fresh, step, opened, IsAddressed}
use Rattle.dealer_world.specs.Ruling.{AreLeft, GoesOn}
use Rattle.dealer_world.specs.Beginning.{first_starts, first_asks}

-- ---- frames and what they say

-- node 1 asks for what was chosen from slot 1 on
asking : List ℕ
asking = 0 ∷ 0 ∷ 0 ∷ 6 ∷ 2 ∷ 7 ∷ 0 ∷ 0 ∷ 0 ∷ 1 ∷ []

abbrev asks : Frame
asks = record { from = 1; to = 0; bytes = asking }

asked : said_by asks ≡ Ask 1 1 ∷ []
unfolding asking reading header_fault body_of message_at ask_at below_at
asked = refl

-- the same frame of another sender says another message
asked_by_another : said_by (record asks { from = 2 }) ≡ Ask 2 1 ∷ []
unfolding asking reading header_fault body_of message_at ask_at below_at
asked_by_another = refl

-- a frame of version 1 says the same
asking_before : List ℕ
asking_before = 0 ∷ 0 ∷ 0 ∷ 6 ∷ 1 ∷ 7 ∷ 0 ∷ 0 ∷ 0 ∷ 1 ∷ []

asked_before : said_by (record asks { bytes = asking_before }) ≡ Ask 1 1 ∷ []
unfolding asking_before reading header_fault body_of message_at ask_at below_at
asked_before = refl

-- but nothing of a node that it doesn't know, of which one of version 2 speaks
abbrev preparing_by_node_5 : ℕ → Frame
preparing_by_node_5 version = record { from = 5; to = 0; bytes = 0 ∷ 0 ∷ 0 ∷ 11 ∷ version ∷ 1 ∷ 0 ∷ 0 ∷ 0 ∷ 1 ∷ 5 ∷ 0 ∷ 0 ∷ 0 ∷ 0 ∷ [] }

unknown_before : said_by (preparing_by_node_5 1) ≡ []
unfolding reading header_fault body_of message_at of_ballot_at ballot_at below_at
unknown_before = refl

known_now : said_by (preparing_by_node_5 2) ≡ Prepare (record { round = 1; node = 5 }) 0 ∷ []
unfolding reading header_fault body_of message_at of_ballot_at ballot_at below_at
known_now = refl

-- bytes that are no frame say nothing
abbrev broken : Frame
broken = record { from = 1; to = 0; bytes = 0 ∷ 0 ∷ 0 ∷ 2 ∷ 2 ∷ 9 ∷ [] }

nothing_said : said_by broken ≡ []
unfolding reading header_fault
nothing_said = refl

both_said : said (broken ∷ asks ∷ []) ≡ Ask 1 1 ∷ []
unfolding asking reading header_fault body_of message_at ask_at below_at
both_said = refl

-- ---- what was shown

abbrev line_at : ℕ → ℕ → ℕ → ℕ → Piece
line_at node start seat byte = record { node = node; start = start; reader = Seat seat; text = byte ∷ [] }

abbrev log_at : ℕ → ℕ → ℕ → Piece
log_at node start byte = record { node = node; start = start; reader = Log; text = byte ∷ [] }

-- node 0 logs twice and shows a line between, node 1 logs once, and node 0 once more after its second start
abbrev pieces : List Piece
pieces = log_at 0 0 1 ∷ log_at 1 0 2 ∷ line_at 0 0 1 7 ∷ log_at 0 0 3 ∷ log_at 0 1 4 ∷ line_at 0 1 0 8 ∷ []

abbrev shown : Record
shown = record { sent = []; delivered = []; starts = (record { node = 0; start = 0 }) ∷ (record { node = 1; start = 0 }) ∷ (record { node = 0; start = 1 }) ∷ []; shown = pieces }

lines_apart : lines_of pieces ≡ (record { node = 0; start = 0; seat = 1; text = 7 ∷ [] }) ∷ (record { node = 0; start = 1; seat = 0; text = 8 ∷ [] }) ∷ []
lines_apart = refl

-- a log for each start: what node 0 logged after its second start isn't in its first log, nor is what node 1 logged
logs_apart : logs_of shown ≡ (record { node = 0; start = 0; text = 1 ∷ 3 ∷ [] }) ∷ (record { node = 1; start = 0; text = 2 ∷ [] }) ∷ (record { node = 0; start = 1; text = 4 ∷ [] }) ∷ []
logs_apart = refl

starts_counted : (start_count shown.starts 0 ≡ 2) × (last_start shown.starts 0 ≡ 1) × (last_start shown.starts 1 ≡ 0) × (start_count shown.starts 2 ≡ 0)
starts_counted = (refl, refl, refl, refl)

-- a start that isn't counted, and one counted under another node
uncounted : AreCounted ((record { node = 0; start = 0 }) ∷ []) (replicate 256 0) → ⊥
uncounted are = let e : ◌≡◌ {A = ℕ} 0 1 = are.1 0 (omega arith) in omega (arith, e)

counted_elsewhere : AreCounted ((record { node = 1; start = 0 }) ∷ []) (1 ∷ replicate 255 0) → ⊥
counted_elsewhere are = let e : ◌≡◌ {A = ℕ} 1 0 = are.1 0 (omega arith) in omega (arith, e)

-- a log is shown as a whole each time
abbrev text_at : ℕ → ℕ → ℕ → List ℕ → Shown
text_at node start count text = record { node = node; start = start; reader = Log; count = count; text = text }

whole_logs : AreTexts (text_at 0 0 1 (1 ∷ 3 ∷ []) ∷ text_at 0 0 0 (1 ∷ []) ∷ []) (log_at 0 0 3 ∷ log_at 0 0 1 ∷ [])
whole_logs = (record { node = refl; start = refl; reader = refl; whole = refl }, (record { node = refl; start = refl; reader = refl; whole = refl }, tt))

short : (a b : List ℕ) → length a ≡ 1 → length b ≡ 2 → a ≡ b → ⊥
short a b one two same = let e = ap length same in omega arith

-- and not only what was added
part_of_a_log : AreTexts (text_at 0 0 1 (3 ∷ []) ∷ text_at 0 0 0 (1 ∷ []) ∷ []) (log_at 0 0 3 ∷ log_at 0 0 1 ∷ []) → ⊥
part_of_a_log (is, rest) = short (3 ∷ []) (1 ∷ 3 ∷ []) refl refl is.whole

-- ---- no frame is forged

abbrev delivered_at : ℕ → Frame → Arrival
delivered_at sent frame = record { what = Delivered frame; sent_before = sent }

-- a frame may be delivered twice
unforged : IsUnforged (asks ∷ []) (delivered_at 1 asks ∷ delivered_at 1 asks ∷ [])
unforged arrival (inl is) = subst (λ (a : Arrival). IsAmong (take a.sent_before (asks ∷ [])) a.what) (sym is) (inl refl)
unforged arrival (inr (inl is)) = subst (λ (a : Arrival). IsAmong (take a.sent_before (asks ∷ [])) a.what) (sym is) (inl refl)
unforged arrival (inr (inr none)) = elim none [ ]

-- not before it was sent
too_early : IsUnforged (asks ∷ []) (delivered_at 0 asks ∷ []) → ⊥
too_early is = is (delivered_at 0 asks) (inl refl)

two_is_not_one : (a b : ℕ) → a ≡ 2 → b ≡ 1 → a ≡ b → ⊥
two_is_not_one a b two one same = omega arith

-- not with another sender, nor with other bytes
other_sender : IsUnforged (asks ∷ []) (delivered_at 1 (record asks { from = 2 }) ∷ []) → ⊥
other_sender is = elim (is (delivered_at 1 (record asks { from = 2 })) (inl refl)) [
  | inl same ↦ absurd (two_is_not_one 2 1 refl refl (ap (λ (f : Frame). f.from) same))
  | inr none ↦ elim none [ ]
]

never_sent : IsUnforged [] (delivered_at 1 broken ∷ []) → ⊥
never_sent is = is (delivered_at 1 broken) (inl refl)

-- ---- what a seat had sent

abbrev arrival_of : Arrived → Arrival
arrival_of what = record { what = what; sent_before = 0 }

abbrev talk : List Arrival
talk = arrival_of (Came 0 1 (5 ∷ [])) ∷ arrival_of (Connected 0 1) ∷ arrival_of (Came 0 1 (6 ∷ [])) ∷ arrival_of (Came 1 1 (9 ∷ [])) ∷ arrival_of (Came 0 1 (7 ∷ [])) ∷ []

-- from the connection on, and of that node alone
since_connected : heard_by talk 0 1 ≡ Some (6 ∷ 7 ∷ [])
since_connected = refl

elsewhere : (heard_by talk 1 1 ≡ None) × (heard_by talk 0 0 ≡ None)
elsewhere = (refl, refl)

-- what was heard at some time was heard, also where the seat was dropped since
once_heard : WasHeard (talk ++ arrival_of (Dropped 0 1) ∷ []) 0 1 (6 ∷ [])
once_heard = (3, refl)

dropped_since : heard_by (talk ++ arrival_of (Dropped 0 1) ∷ []) 0 1 ≡ None
dropped_since = refl

-- connected again, what came before is forgotten
again : heard_by (talk ++ arrival_of (Connected 0 1) ∷ []) 0 1 ≡ Some []
again = refl

-- ---- how a record grows

-- node 0 answers a frame of node 1, and shows a line and a log line
abbrev made : Made
made = record { frames = (record { from = 0; to = 1; bytes = [] }) ∷ []; texts = (record { reader = Seat 1; text = 9 ∷ [] }) ∷ (record { reader = Log; text = 5 ∷ [] }) ∷ []; began = false }

grows : grown (record shown { sent = asks ∷ [] }) 0 (Delivered asks ∷ []) made ≡ record {
  sent = asks ∷ (record { from = 0; to = 1; bytes = [] }) ∷ [];
  delivered = delivered_at 1 asks ∷ [];
  starts = shown.starts;
  shown = pieces ++ line_at 0 1 1 9 ∷ log_at 0 1 5 ∷ [];
}
grows = refl

-- a start of node 0 begins its third log, and what it shows is of that start
starts_again : grown shown 0 [] (record { frames = []; texts = (record { reader = Log; text = 1 ∷ [] }) ∷ []; began = true }) ≡ record {
  sent = [];
  delivered = [];
  starts = shown.starts ++ (record { node = 0; start = 2 }) ∷ [];
  shown = pieces ++ log_at 0 2 1 ∷ [];
}
starts_again = refl

-- a call that makes nothing and to which nothing came leaves the record as it is
stays : grown shown 1 [] nothing_made ≡ shown
stays = refl

-- what a call shows of the log is told as the whole log
told : AreTold 0 2 (1 ∷ []) ((record { node = 0; start = 2; reader = Log; count = 3; text = 1 ∷ 5 ∷ [] }) ∷ (record { node = 0; start = 2; reader = Seat 1; count = 3; text = 9 ∷ [] }) ∷ [])
    ((record { reader = Log; text = 5 ∷ [] }) ∷ (record { reader = Seat 1; text = 9 ∷ [] }) ∷ [])
told = (record { of_node = refl; in_start = refl; to_reader = refl; whole = refl }, (record { of_node = refl; in_start = refl; to_reader = refl; whole = refl }, tt))

-- the node may close a connection behind a seat's bytes, and not before them
closed_behind : Brings 0 (Came 0 1 (5 ∷ [])) (model.Closed 0 1 ∷ model.Came 0 1 (5 ∷ []) ∷ [])
closed_behind = inr refl

closed_before : Brings 0 (Came 0 1 (5 ∷ [])) (model.Came 0 1 (5 ∷ []) ∷ model.Closed 0 1 ∷ []) → ⊥
closed_before (inl e) = cc
closed_before (inr e) = cc

-- ---- one list

-- nothing shown: the empty list is behind it
abbrev quiet : Era
quiet = record { sources = []; record_of = no_record }

none_counted : (quorum : ℕ → Bool) (n : ℕ) → ((node : ℕ) → node < n → quorum node ≡ false) → count quorum n ≡ 0
none_counted quorum zero none = refl
none_counted quorum (suc n) none =
    ap (λ b. cond b (1 + count quorum n) (count quorum n)) (none n (omega arith)) ∙ none_counted quorum n (λ node less. none node (omega arith))

no_member : (quorum : ℕ → Bool) (node : ℕ) (b : Bool) → quorum node ≡ b → (quorum node ≡ true → ⊥) → quorum node ≡ false
no_member quorum node true is never = absurd (never is)
no_member quorum node false is never = is

-- where no frame says anything, nothing is chosen
nothing_chosen : (n : ℕ) (commands : List Command) → AreChosen n [] commands → commands ≡ []
nothing_chosen n [] chosen = refl
nothing_chosen n (command ∷ before) ((ballot, (quorum, most, all)), rest) =
    let none = none_counted quorum n (λ node less. no_member quorum node (quorum node) refl (λ is. all node less is)) in
    let more : n < 2 * count quorum n = most in
    absurd (omega arith)

nothing_behind : (dealer : Dealer) → OneList dealer 3 (quiet ∷ [])
nothing_behind dealer = record {
  commands = [];
  chosen = tt;
  fitting = tt;
  shown = (
    record {
      lines = λ line there. elim there [ ];
      logs = λ log there. elim there [ ];
      texts = [];
      are_texts = tt;
      of_beginnings = λ text there. elim there [ ];
      forward = tt;
    },
    tt,
  );
  origin = λ slot command (ballot, (quorum, most, all)).
      let none = none_counted quorum 3 (λ node less. no_member quorum node (quorum node) refl (λ is. all node less is)) in
      let more : 3 < 2 * count quorum 3 = most in
      absurd (omega arith);
}

-- a line that no chosen commands are behind: a dealer shows none before the first deal
abbrev invented : Era
invented = record { sources = []; record_of = record no_record { shown = line_at 0 0 1 7 ∷ [] } }

only_empty : (first : List Command) → IsBeginning first [] → first ≡ []
only_empty first ([], is) = sym is
only_empty first (command ∷ later, is) = absurd cc

clash : (shown : Option (List ℕ)) (text : List ℕ) → shown ≡ Some text → shown ≡ None → ⊥
clash shown text some none = cc

nothing_behind_a_line : (dealer : Dealer) → ((seat : ℕ) → dealer.line [] seat ≡ None) → OneList dealer 3 (invented ∷ []) → ⊥
nothing_behind_a_line dealer before_deals one =
    let line : Line = record { node = 0; start = 0; seat = 1; text = 7 ∷ [] } in
    let is = one.shown.0.lines line (inl refl) in
    let empty : one.commands ≡ [] = nothing_chosen 3 one.commands one.chosen in
    let first : is.0 ≡ [] = only_empty is.0 (subst (IsBeginning is.0) empty is.1) in
    let shows : dealer.line is.0 1 ≡ Some (7 ∷ []) = is.2 in
    let none : dealer.line is.0 1 ≡ None = ap (λ commands. dealer.line commands 1) first ∙ before_deals 1 in
    clash (dealer.line is.0 1) (7 ∷ []) shows none

-- two lines of one start, the later after fewer commands, are not in order
abbrev two_lines : List Shown
two_lines = (record { node = 0; start = 0; reader = Seat 1; count = 1; text = 7 ∷ [] }) ∷ (record { node = 0; start = 0; reader = Seat 1; count = 2; text = 8 ∷ [] }) ∷ []

goes_back : NeverGoesBack two_lines → ⊥
goes_back (latest, rest) =
    let fewer : 2 ≤ 1 = latest (record { node = 0; start = 0; reader = Seat 1; count = 2; text = 8 ∷ [] }) (inl refl) refl refl in
    omega arith

-- a start between them, and they are
after_a_start : NeverGoesBack ((record { node = 0; start = 1; reader = Seat 1; count = 1; text = 7 ∷ [] }) ∷ (record { node = 0; start = 0; reader = Seat 1; count = 2; text = 8 ∷ [] }) ∷ [])
after_a_start = ((λ shown there same_node same_start. absurd (another shown there same_start)), ((λ shown there same_node same_start. elim there [ ]), tt))
  where
    another : (shown : Shown) → In shown ((record { node = 0; start = 0; reader = Seat 1; count = 2; text = 8 ∷ [] }) ∷ []) → shown.start ≡ 1 → ⊥
    another shown (inl is) start = let zero_start : shown.start ≡ 0 = ap (λ (s : Shown). s.start) is in omega arith
    another shown (inr none) start = elim none [ ]

-- ---- rows of one buffer

abbrev ends_at : ℕ → ℕ → Entry ℕ
ends_at mark end = record { mark = mark; end = end }

-- three rows, the second without bytes
rows_cut : cut 0 (ends_at 8 2 ∷ ends_at 9 2 ∷ ends_at 7 3 ∷ []) (5 ∷ 6 ∷ 4 ∷ []) ≡ (record { mark = 8; text = 5 ∷ 6 ∷ [] }) ∷ (record { mark = 9; text = [] }) ∷ (record { mark = 7; text = 4 ∷ [] }) ∷ []
rows_cut = refl

second_starts : (start_of 0 (ends_at 8 2 ∷ ends_at 7 3 ∷ []) 0 ≡ 0) × (start_of 0 (ends_at 8 2 ∷ ends_at 7 3 ∷ []) 1 ≡ 2)
second_starts = (refl, refl)

ends_in_order : AreEnds 0 (ends_at 8 2 ∷ ends_at 7 3 ∷ []) 3
ends_in_order = (omega arith, (omega arith, refl))

-- a buffer with a byte more than its rows, and a row that ends before it begins
byte_too_many : AreEnds 0 (ends_at 8 2 ∷ []) 3 → ⊥
byte_too_many (least, last) = let is : 2 ≡ 3 = last in omega arith

ends_before_it_begins : AreEnds 0 (ends_at 8 2 ∷ ends_at 7 1 ∷ []) 1 → ⊥
ends_before_it_begins (first, (second, last)) = let is : 2 ≤ 1 = second in omega arith

-- ---- rows that share texts

abbrev numbered : ℕ → ℕ → Numbered ℕ
numbered mark text = record { mark = mark; text = text }

abbrev two_texts : List (Row ℕ)
two_texts = (record { mark = 0; text = 5 ∷ 6 ∷ [] }) ∷ (record { mark = 0; text = 4 ∷ [] }) ∷ []

-- three rows, the first and the last with one text
rows_share : rows_by two_texts (numbered 8 0 ∷ numbered 9 1 ∷ numbered 7 0 ∷ []) ≡ (record { mark = 8; text = 5 ∷ 6 ∷ [] }) ∷ (record { mark = 9; text = 4 ∷ [] }) ∷ (record { mark = 7; text = 5 ∷ 6 ∷ [] }) ∷ []
rows_share = refl

no_third_text : text_of two_texts 2 ≡ []
no_third_text = refl

numbers_of_texts : AreNumbered 2 (numbered 8 0 ∷ numbered 9 1 ∷ [])
numbers_of_texts = (omega arith, (omega arith, tt))

-- a row whose text isn't there
number_of_no_text : AreNumbered 2 (numbered 8 2 ∷ []) → ⊥
number_of_no_text (below, rest) = let is : 2 < 2 = below in omega arith

-- ---- events

seat_arrives : (node_of (event.Connect 1 0) ≡ 1) × (brought_by 7 (event.Connect 1 0) ≡ Connected 1 0 ∷ [])
seat_arrives = (refl, refl)

tick_brings_nothing : brought_by 7 (event.Tick 1) ≡ []
tick_brings_nothing = refl

-- what comes to a node that is down doesn't arrive
down_gets_nothing : (arrived_by_event false 7 (event.Connect 1 0) ≡ []) × (arrived_by_event true 7 (event.Connect 1 0) ≡ Connected 1 0 ∷ [])
down_gets_nothing = (refl, refl)

-- a start of a node that runs begins nothing, nor does one that fails
running_starts_nothing : (begins_by_event false (event.Start 1) (Ok tt) ≡ true) × (begins_by_event true (event.Start 1) (Ok tt) ≡ false)
    × (begins_by_event false (event.Start 1) (Err fault.Down) ≡ false) × (begins_by_event false (event.Stop 1 0) (Ok tt) ≡ false)
running_starts_nothing = (refl, refl, refl, refl)

seat_too_high : IsFor 3 2 (event.Connect 1 2) → ⊥
seat_too_high (here, seat_here) = omega (arith, seat_here)

node_too_high : IsFor 3 2 (event.Tick 3) → ⊥
node_too_high here = omega (arith, here)

-- what the last call made stands behind what was put away, once, and under its own start
last_behind : (whole (asks ∷ []) [] [] [] (record { frames = (record { mark = 2; text = 7 ∷ [] }) ∷ []; shown = []; faults = [] }) (Some (record { node = 1; start = 0 }))).sent
    ≡ asks ∷ (record { from = 1; to = 2; bytes = 7 ∷ [] }) ∷ []
last_behind = refl

last_put_away : (whole (asks ∷ []) [] [] [] (record { frames = (record { mark = 2; text = 7 ∷ [] }) ∷ []; shown = []; faults = [] }) None).sent ≡ asks ∷ []
last_put_away = refl

last_under_its_start : (whole [] [] [] [] (record { frames = []; shown = (record { mark = reads.Seat 1; text = 7 ∷ [] }) ∷ []; faults = [] }) (Some (record { node = 2; start = 3 }))).shown
    ≡ (record { node = 2; start = 3; reader = Seat 1; text = 7 ∷ [] }) ∷ []
last_under_its_start = refl

-- two nodes that were started, with empty stores: nothing was asked
first_two : (first_starts 2 ≡ (record { node = 0; start = 0 }) ∷ (record { node = 1; start = 0 }) ∷ [])
    × ((plan : Plan) → first_asks plan (λ i. empty_store) 2 ≡ [])
first_two = (refl, λ plan. refl)

-- ---- runs

-- a new cluster goes on from no era
new_goes_on : (setting : Setting) (files : List (List ℕ)) → GoesOn false setting 3 [] files
new_goes_on setting files = refl

new_has_no_past : (setting : Setting) (files : List (List ℕ)) (era : Era) → GoesOn false setting 3 (era ∷ []) files → ⊥
new_has_no_past setting files era is = cc

-- a file for no node
file_too_many : (begun : ℕ → Store) → AreLeft 3 0 begun ([] ∷ []) [] → ⊥
file_too_many begun left = left

not_two : (n : ℕ) → n ≡ 2 → HasNodes n → ⊥
not_two n two has = let three = three_nodes n has in omega (arith, two, three)

-- there is no run of two nodes
no_run_of_two : (setting : Setting) (eras : List Era) (sources : List Source) (state : State) → RunsTo setting 2 eras sources state → ⊥
no_run_of_two setting _ _ _ (fresh sources state plan are is) = not_two (length sources) are plan.nodes
no_run_of_two setting _ _ _ (step before sources old state run s) = no_run_of_two setting before sources old run
no_run_of_two setting _ _ _ (opened before sources old latest begun others state run ends same clean plan are reopened empty) = no_run_of_two setting before sources old run

-- in a step only its node changes
others_stay : (plan : Plan) (old new : State) (s : Steps plan old new) (i : ℕ) (d : Standing) → i ≢ s.node → get_or new.standings i d ≡ get_or old.standings i d
others_stay plan old new s i d other = ap (λ standings. get_or standings i d) s.standings ∙ get_or-set_other old.standings s.node i s.after d other

-- ---- where frames go, and the events of a round

-- a frame from a node to itself, and one to a node that isn't there
to_itself : (bytes : List ℕ) → IsAddressed 3 (record { from = 1; to = 1; bytes = bytes }) → ⊥
to_itself bytes (from, to, other) = other refl

to_nobody : (bytes : List ℕ) → IsAddressed 3 (record { from = 1; to = 3; bytes = bytes }) → ⊥
to_nobody bytes (from, to, other) = omega (arith, to)

to_another : (bytes : List ℕ) → IsAddressed 3 (record { from = 1; to = 2; bytes = bytes })
to_another bytes = (omega arith, omega arith, λ same. omega (arith, same))

-- an event of a round is of the same kind and of the same node
tick_of_a_round : AreEvents (event.Tick 0 ∷ []) (Ticks 0 ∷ [])
tick_of_a_round = (refl, tt)

tick_of_another : AreEvents (event.Tick 1 ∷ []) (Ticks 0 ∷ []) → ⊥
tick_of_another (same, rest) = let is : 1 ≡ 0 = same in omega (arith, is)

start_in_a_round : AreEvents (event.Start 0 ∷ []) (Ticks 0 ∷ []) → ⊥
start_in_a_round (none, rest) = none

one_too_few : AreEvents (event.Tick 0 ∷ []) (Ticks 0 ∷ Ticks 1 ∷ []) → ⊥
one_too_few (same, none) = none

-- ---- deals of the eras

abbrev era_by : Source → Era
era_by source = record { sources = source ∷ []; record_of = no_record }

-- a seed has a deal for each hand
seeds_have_deals : (setting : Setting) → HaveDeals setting (era_by (Seed 7) ∷ [])
seeds_have_deals setting =
    let has : Source → Type 0 = HasDeals setting.game.players setting.title.hands in
    (All-cons has (Seed 7) [] tt (All-nil has), tt)

-- a node of an earlier era whose list has no deal for the first hand
no_deal_for_a_hand : (setting : Setting) (deals : Vec (List ℕ) Global) → deals.items ≡ [] → 1 ≤ setting.title.hands
    → HaveDeals setting (era_by (Seed 7) ∷ era_by (Listed deals) ∷ []) → ⊥
no_deal_for_a_hand setting deals none some have =
    let has = All-head (HasDeals setting.game.players setting.title.hands) (Listed deals) [] have.1.0 in
    let enough : setting.title.hands ≤ length deals.items = has.0 in
    let size : length deals.items ≡ 0 = ap length none in
    omega arith
