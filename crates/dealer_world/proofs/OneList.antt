-- The headline, read off the world behind the records.
use Rattle.std.proofs.Common.{◌≡◌, ℕ, ◌+◌, ◌-◌, ◌<◌, ◌≤◌, inl, inr, ◌==◌, ◌&&◌, Bool, true, false, cond, Some, List, [], ◌∷◌, ◌++◌, map, reverse, length, take, refl, ap, sym, ◌∙◌, subst, eq-eqb, eqb-true, arith}
use Rattle.std.proofs.lemmas.List.{append-nil, length-append}
use Rattle.std.proofs.lemmas.Bool.{and_from, and_parts, false≢true}
use Rattle.slot_log.specs.declared.command.Command.{Command}
use Rattle.slot_log.specs.declared.command.Command.TheVariants.{Deal, Act, Away}
use Rattle.protocol_model.specs.Sets.{In, IsBeginning}
use Rattle.protocol_model.specs.Messages.{Message, Accepted}
use Rattle.protocol_model.specs.Quorums.{IsChosen, AreChosen}
use Rattle.protocol_model.specs.Nodes.{Node as WorldNode}
use Rattle.protocol_model.specs.Dealers.{Dealer, Reader, Seat, Log, text_of}
use Rattle.protocol_model.specs.Moves.{Shown}
use Rattle.protocol_model.specs.Worlds.{World, Reached}
use Rattle.protocol_model.specs.Laws.{OneDealer, IsOfBeginning, NeverGoesBack}
use Rattle.dealer_kind.specs.Kind.{Setting, dealer_of}
use Rattle.dealer_kind.specs.Owning.{OwnsDeals, IsDealtSaidOrOrdered}
use Rattle.protocol_model.specs.Arrivals as model
use Rattle.dealer_world.specs.Records.{Record, Ordered, said, Piece, Line, Written, Start, logged_by, log_in, log_of, line_by, lines_of, logs_of}
use Rattle.dealer_world.specs.Headline.{Era, said_in, owned_in, dealer_in, text_by, AreTexts, IsLineOf, IsLogOf, IsOfOneList, InEach, WasOrderedIn, WasOrdered, HasOrigin, OneList}
use Rattle.dealer_world.specs.Behind.{Behind, IsOrderIn, IsOrderOf, IsPiece, ArePieces, HaveHeaders, AreEras, no_era, one_more}
use Rattle.protocol_model.proofs.Sets.{in_first, in_later, in_split}
use Rattle.dealer_world.proofs.Lists.{in_reverse}
use Rattle.dealer_world.proofs.Saying.{said_of_first}
use Rattle.dealer_world.proofs.Ordering.{chosen_in}

-- ---- what was shown, with its starts counted from 0

rebased : (ℕ → ℕ) → Shown → Shown
rebased base shown = record shown { start = shown.start - base shown.node }

texts_are : (base : ℕ → ℕ) (latest : List Shown) (pieces : List Piece) → ArePieces base latest pieces → AreTexts (map (rebased base) latest) pieces
unfolding rebased
texts_are base [] [] are = tt
texts_are base [] (piece ∷ before) are = absurd are
texts_are base (shown ∷ more) [] are = absurd are
texts_are base (shown ∷ more) (piece ∷ before) (is, are) = (
  record {
    node = is.node;
    start =
        let at : base shown.node ≡ base piece.node = ap base is.node in
        let start : shown.start ≡ base piece.node + piece.start = is.start in
        omega arith;
    reader = is.reader;
    whole = is.whole;
  },
  texts_are base more before are,
)

in_map : {A B : Type 0} (f : A → B) (xs : List A) (y : B) → In y (map f xs) → (x : A) × In x xs × (y ≡ f x)
in_map f [] y there = elim there [ ]
in_map f (x ∷ xs) y (inl is) = (x, inl refl, is)
in_map f (x ∷ xs) y (inr there) = let found = in_map f xs y there in (found.0, inr found.1, found.2)

above : (base : ℕ → ℕ) (latest : List Shown) (pieces : List Piece) (shown : Shown) → ArePieces base latest pieces → In shown latest → base shown.node ≤ shown.start
above base [] pieces shown are there = elim there [ ]
above base (first ∷ more) [] shown are there = absurd are
above base (first ∷ more) (piece ∷ before) shown (is, are) (inl same) =
    let at : base first.node ≡ base piece.node = ap base is.node in
    let start : first.start ≡ base piece.node + piece.start = is.start in
    subst (λ (s : Shown). base s.node ≤ s.start) (sym same) (omega arith)
above base (first ∷ more) (piece ∷ before) shown (is, are) (inr there) = above base more before shown are there

forward_rebased : (base : ℕ → ℕ) (latest : List Shown) → ((shown : Shown) → In shown latest → base shown.node ≤ shown.start) → NeverGoesBack latest → NeverGoesBack (map (rebased base) latest)
unfolding rebased
forward_rebased base [] least forward = tt
forward_rebased base (latest ∷ before) least (first, forward) = (
  (λ shown there same_node same_start.
      let found = in_map (rebased base) before shown there in
      let old : Shown = found.0 in
      let node : old.node ≡ latest.node = sym (ap (λ (s : Shown). s.node) found.2) ∙ same_node in
      let starts : old.start - base old.node ≡ latest.start - base latest.node = sym (ap (λ (s : Shown). s.start) found.2) ∙ same_start in
      let at : base old.node ≡ base latest.node = ap base node in
      let a = least old (inr found.1) in
      let b = least latest (inl refl) in
      let start : old.start ≡ latest.start = omega arith in
      let fewer : old.count ≤ latest.count = first old found.1 node start in
      subst (λ c. c ≤ latest.count) (sym (ap (λ (s : Shown). s.count) found.2)) fewer),
  forward_rebased base before (λ shown there. least shown (inr there)) forward,
)

-- ---- the text of a piece, and the last one of a log

piece_found : (base : ℕ → ℕ) (latest : List Shown) (pieces : List Piece) (piece : Piece) → ArePieces base latest pieces → In piece pieces
    → (shown : Shown) × In shown latest × ((before : List Piece) × IsPiece base before piece shown)
piece_found base latest [] piece are there = elim there [ ]
piece_found base [] (first ∷ before) piece are there = absurd are
piece_found base (shown ∷ more) (first ∷ before) piece (is, are) (inl same) = (shown, inl refl, (before, subst (λ p. IsPiece base before p shown) (sym same) is))
piece_found base (shown ∷ more) (first ∷ before) piece (is, are) (inr there) =
    let found = piece_found base more before piece are there in (found.0, inr found.1, found.2)

abbrev IsHeader : ℕ → ℕ → Piece → Type 0
IsHeader node start piece = (piece.reader ≡ Log) × (piece.node ≡ node) × (piece.start ≡ start)

abbrev HasLast : List Shown → List ℕ → Type 0
HasLast latest log = (shown : Shown) × In shown latest × (shown.reader ≡ Log) × (shown.text ≡ log)

last_later : (shown : Shown) (more : List Shown) (log added : List ℕ) → added ≡ [] → HasLast more log → HasLast (shown ∷ more) (log ++ added)
last_later shown more log added none (found, there, reader, text) = (found, inr there, reader, text ∙ (sym (append-nil log) ∙ ap (λ xs. log ++ xs) (sym none)))

seat_not_log : (seat : ℕ) → Seat seat ≡ Log → ⊥
seat_not_log seat e = cc

last_by : (base : ℕ → ℕ) (shown : Shown) (more : List Shown) (piece : Piece) (before : List Piece) (node start : ℕ) (header : Piece)
    → IsPiece base before piece shown → In header (piece ∷ before) → IsHeader node start header
    → (In header before → HasLast more (log_in before node start))
    → (reader : Reader) → piece.reader ≡ reader → (here : Bool) → ((piece.node == node) && (piece.start == start)) ≡ here
    → HasLast (shown ∷ more) (log_in before node start ++ logged_by reader piece node start)
last_by base shown more piece before node start header is (inr there) headed later (Seat seat) reader here test =
    last_later shown more (log_in before node start) [] refl (later there)
last_by base shown more piece before node start header is (inl same) headed later (Seat seat) reader here test =
    absurd (seat_not_log seat (sym reader ∙ (sym (ap (λ (p : Piece). p.reader) same) ∙ headed.0)))
last_by base shown more piece before node start header is there headed later Log reader true test =
    let parts = and_parts (piece.node == node) (piece.start == start) test in
    let at_node : piece.node ≡ node = eqb-true piece.node node parts.0 in
    let at_start : piece.start ≡ start = eqb-true piece.start start parts.1 in
    let whole : shown.text ≡ log_in before piece.node piece.start ++ piece.text = is.whole ∙ ap (λ r. text_by r before piece) reader in (
      shown,
      inl refl,
      is.reader ∙ reader,
      whole ∙ (ap (λ k. log_in before k piece.start ++ piece.text) at_node ∙ (ap (λ k. log_in before node k ++ piece.text) at_start
          ∙ ap (λ b. log_in before node start ++ cond b piece.text []) (sym test))),
    )
last_by base shown more piece before node start header is (inr there) headed later Log reader false test =
    last_later shown more (log_in before node start) (logged_by Log piece node start) (ap (λ b. cond b piece.text []) test) (later there)
last_by base shown more piece before node start header is (inl same) headed later Log reader false test =
    absurd (false≢true (sym test ∙ and_from (piece.node == node) (piece.start == start)
    (eq-eqb piece.node node (sym (ap (λ (p : Piece). p.node) same) ∙ headed.1)) (eq-eqb piece.start start (sym (ap (λ (p : Piece). p.start) same) ∙ headed.2))))

last_log : (base : ℕ → ℕ) (latest : List Shown) (pieces : List Piece) (node start : ℕ) (header : Piece) → ArePieces base latest pieces
    → In header pieces → IsHeader node start header → HasLast latest (log_in pieces node start)
last_log base latest [] node start header are there headed = elim there [ ]
last_log base [] (piece ∷ before) node start header are there headed = absurd are
last_log base (shown ∷ more) (piece ∷ before) node start header (is, are) there headed =
    last_by base shown more piece before node start header is there headed (λ later. last_log base more before node start header are later headed)
    piece.reader refl ((piece.node == node) && (piece.start == start)) refl

-- ---- lines and logs

line_by_piece : (reader : Reader) (piece : Piece) (line : Line) → In line (line_by reader piece)
    → (reader ≡ Seat line.seat) × (line.text ≡ piece.text)
line_by_piece (Seat seat) piece line (inl is) = (ap Seat (sym (ap (λ (l : Line). l.seat) is)), ap (λ (l : Line). l.text) is)
line_by_piece (Seat seat) piece line (inr none) = elim none [ ]
line_by_piece Log piece line there = elim there [ ]

line_found : (pieces : List Piece) (line : Line) → In line (lines_of pieces) → (piece : Piece) × In piece pieces × (piece.reader ≡ Seat line.seat) × (line.text ≡ piece.text)
line_found [] line there = elim there [ ]
line_found (piece ∷ pieces) line there = elim (in_split (line_by piece.reader piece) (lines_of pieces) line there) [
  | inl here ↦ let found = line_by_piece piece.reader piece line here in (piece, inl refl, found.0, found.1)
  | inr later ↦ let found = line_found pieces line later in (found.0, inr found.1, found.2, found.3)
]

line_of_text : (dealer : Dealer) (commands : List Command) (line : Line) (before : List Piece) (piece : Piece) (shown : Shown) (base : ℕ → ℕ)
    → IsPiece base before piece shown → piece.reader ≡ Seat line.seat → line.text ≡ piece.text → IsOfBeginning dealer commands shown → IsLineOf dealer commands line
line_of_text dealer commands line before piece shown base is reader text (first, beginning, count, shows) =
    let to : shown.reader ≡ Seat line.seat = is.reader ∙ reader in
    let whole : shown.text ≡ line.text = is.whole ∙ (ap (λ r. text_by r before piece) reader ∙ sym text) in
    (first, beginning, sym (ap (text_of dealer first) to) ∙ (shows ∙ ap Some whole))

log_of_text : (dealer : Dealer) (commands : List Command) (log : List ℕ) (shown : Shown) → shown.reader ≡ Log → shown.text ≡ log → IsOfBeginning dealer commands shown
    → (first : List Command) × IsBeginning first commands × (dealer.log first ≡ log)
log_of_text dealer commands log shown reader text (first, beginning, count, shows) =
    let is : Some (dealer.log first) ≡ Some log = sym (ap (text_of dealer first) reader) ∙ (shows ∙ ap Some text) in
    (first, beginning, cc)

log_by_start : (dealer : Dealer) (commands : List Command) (all : Record) (base : ℕ → ℕ) (latest : List Shown)
    → ArePieces base latest (reverse all.shown) → HaveHeaders all → ((shown : Shown) → In shown latest → IsOfBeginning dealer commands shown)
    → (written : Written) → In written (logs_of all) → IsLogOf dealer commands written
log_by_start dealer commands all base latest are headers of written there =
    let found = in_map (λ (begun : Start). let log : Written = record { node = begun.node; start = begun.start; text = log_of all.shown begun.node begun.start } in log) all.starts written there in
    let begun : Start = found.0 in
    let header = headers begun found.1 in
    let last = last_log base latest (reverse all.shown) begun.node begun.start header.0 are (in_reverse all.shown header.0 header.1) (header.2, header.3, header.4) in
    let log = log_of_text dealer commands (log_of all.shown begun.node begun.start) last.0 last.2 last.3 (of last.0 last.1) in
    (log.0, log.1, log.2 ∙ sym (ap (λ (w : Written). w.text) found.2))

of_one_list : (dealer : Dealer) (commands : List Command) (all : Record) (base : ℕ → ℕ) (latest : List Shown)
    → ArePieces base latest (reverse all.shown) → HaveHeaders all → ((shown : Shown) → In shown latest → IsOfBeginning dealer commands shown) → NeverGoesBack latest
    → IsOfOneList dealer commands all
unfolding rebased
of_one_list dealer commands all base latest are headers of forward = record {
  lines = λ line there.
      let found = line_found all.shown line there in
      let shown = piece_found base latest (reverse all.shown) found.0 are (in_reverse all.shown found.0 found.1) in
      line_of_text dealer commands line shown.2.0 found.0 shown.0 base shown.2.1 found.2 found.3 (of shown.0 shown.1);
  logs = log_by_start dealer commands all base latest are headers of;
  texts = map (rebased base) latest;
  are_texts = texts_are base latest (reverse all.shown) are;
  of_beginnings = λ text there.
      let found = in_map (rebased base) latest text there in
      subst (IsOfBeginning dealer commands) (sym found.2) (of found.0 found.1);
  forward = forward_rebased base latest (λ shown there. above base latest (reverse all.shown) shown are there) forward;
}

-- ---- all eras

forward_first : (xs ys : List Shown) → NeverGoesBack (xs ++ ys) → NeverGoesBack xs
forward_first [] ys forward = tt
forward_first (x ∷ xs) ys (first, forward) = ((λ shown there. first shown (in_first xs ys shown there)), forward_first xs ys forward)

forward_rest : (xs ys : List Shown) → NeverGoesBack (xs ++ ys) → NeverGoesBack ys
forward_rest [] ys forward = forward
forward_rest (x ∷ xs) ys (first, forward) = forward_rest xs ys forward

eras_of_one_list : (dealer : Dealer) (commands : List Command) (shown : List Shown) (eras : List Era) → AreEras shown eras
    → ((text : Shown) → In text shown → IsOfBeginning dealer commands text) → NeverGoesBack shown
    → InEach (λ era. IsOfOneList dealer commands era.record_of) eras
eras_of_one_list dealer commands shown eras (no_era _ _ empty no_eras) of forward =
    subst (InEach (λ era. IsOfOneList dealer commands era.record_of)) (sym no_eras) tt
eras_of_one_list dealer commands shown eras (one_more base latest older _ era before _ all is are headers rest) of forward =
    let now : NeverGoesBack (latest ++ older) = subst NeverGoesBack all forward in
    subst (InEach (λ e. IsOfOneList dealer commands e.record_of)) (sym is) (
      of_one_list dealer commands era.record_of base latest are headers (λ text there. of text (subst (In text) (sym all) (in_first latest older text there))) (forward_first latest older now),
      eras_of_one_list dealer commands older before rest (λ text there. of text (subst (In text) (sym all) (in_later latest older text there))) (forward_rest latest older now),
    )

-- the laws of the protocol and of the dealer that the headline stands on
abbrev pub IsOneDealer : Type 0
IsOneDealer = (dealer : Dealer) (n : ℕ) (world : World) → Reached dealer n world → OneDealer dealer n world

abbrev pub IsOneChoice : Type 0
IsOneChoice = (dealer : Dealer) (n : ℕ) (world : World) (shorter longer : List Command)
    → Reached dealer n world → AreChosen n world.ever shorter → AreChosen n world.ever longer → length shorter ≤ length longer → IsBeginning shorter longer

abbrev pub ChosenAreDealtOrSaid : Type 0
ChosenAreDealtOrSaid = (setting : Setting) (own : ℕ → Command → Bool) (n : ℕ) (world : World) (slot : ℕ) (command : Command)
    → OwnsDeals own → Reached (dealer_of setting own) n world → IsChosen n world.ever slot command
    → IsDealtSaidOrOrdered (dealer_of setting own) n world.ever world.came command

-- ---- orders

-- of as many commands the one list begins the other only where they are the same
same_list : (shorter longer : List Command) → IsBeginning shorter longer → length shorter ≡ length longer → shorter ≡ longer
same_list shorter longer ([], is) same = sym is
same_list shorter longer (first ∷ later, is) same = absurd (omega (arith, ap length is, length-append (first ∷ later) shorter))

-- the commands that the order met are those that the world had
ordered_in : (dealer : Dealer) (n : ℕ) (world : World) (era : Era) (before : List Era) (node : ℕ) (commands : List Command) (command : Command) → IsOneChoice → Reached dealer n world
    → ((message : Message) → In message (said_in (era ∷ before)) → In message world.ever) → AreChosen n world.ever commands
    → node < n → dealer.orders commands command ≡ true → IsOrderIn n era.record_of before node (length commands) → WasOrderedIn dealer n era before command
ordered_in dealer n world era before node commands command one reached carried chosen within orders o =
    let there : AreChosen n world.ever o.known =
    chosen_in n (said_in before ++ said (take o.arrival.sent_before era.record_of.sent)) world.ever o.known
    (λ sender ballot slot c h. carried (Accepted sender ballot slot c)
    (elim (in_split (said_in before) (said (take o.arrival.sent_before era.record_of.sent)) (Accepted sender ballot slot c) h) [
      | inl first ↦ in_first (said_in before) (said era.record_of.sent) (Accepted sender ballot slot c) first
      | inr later ↦ in_later (said_in before) (said era.record_of.sent) (Accepted sender ballot slot c) (said_of_first o.arrival.sent_before era.record_of.sent (Accepted sender ballot slot c) later)
    ])) o.chosen in
    let same : o.known ≡ commands = same_list o.known commands (one dealer n world o.known commands reached there chosen (omega (arith, o.all_below))) o.all_below in
    record {
      node = node;
      is_node = within;
      arrival = o.arrival;
      came = o.came;
      known = o.known;
      order = o.order ∙ ap (λ k. Ordered node k) (sym o.all_below);
      chosen = o.chosen;
      orders = subst (λ (l : List Command). dealer.orders l command ≡ true) (sym same) orders;
    }

ordered_of : (dealer : Dealer) (n : ℕ) (world : World) (eras : List Era) (node : ℕ) (commands : List Command) (command : Command) → IsOneChoice → Reached dealer n world
    → ((message : Message) → In message (said_in eras) → In message world.ever) → AreChosen n world.ever commands
    → node < n → dealer.orders commands command ≡ true → IsOrderOf n eras node (length commands) → WasOrdered dealer n eras command
ordered_of dealer n world [] node commands command one reached carried chosen within orders o = o
ordered_of dealer n world (era ∷ before) node commands command one reached carried chosen within orders (inl here) =
    inl (ordered_in dealer n world era before node commands command one reached carried chosen within orders here)
ordered_of dealer n world (era ∷ before) node commands command one reached carried chosen within orders (inr old) =
    inr (ordered_of dealer n world before node commands command one reached (λ message h. carried message (in_first (said_in before) (said era.record_of.sent) message h)) chosen within orders old)

origin_by : {Node : Type 0} (IsOf : ℕ → Node → WorldNode → List ℕ → Type 0) (dealer : Dealer) (nodes : List Node) (era : Era) (before : List Era) (command : Command)
    → IsOneChoice → (b : Behind IsOf dealer nodes era.record_of before)
    → IsDealtSaidOrOrdered dealer (length nodes) b.world.ever b.world.came command → HasOrigin dealer (length nodes) (era ∷ before) command
origin_by IsOf dealer nodes era before (Deal hand deal) one b owned = owned
origin_by IsOf dealer nodes era before (Away hand index) one b order =
    let arrival : model.Arrival = record { event = model.Ordered order.node (length order.before); sent = length order.sent } in
    ordered_of dealer (length nodes) b.world (era ∷ before) order.node order.before (Away hand index) one b.reached b.carried
    (chosen_in (length nodes) order.sent b.world.ever order.before
    (λ sender ballot slot command there.
    subst (In (Accepted sender ballot slot command)) (sym order.moment.all_sent) (in_later order.moment.sent_later order.sent (Accepted sender ballot slot command) there)) order.chosen)
    order.is_node order.orders
    (b.ordered order.node (length order.before) (length order.sent)
    (subst (In arrival) (sym order.moment.all_came) (in_later order.moment.came_later order.earlier arrival (subst (In arrival) (sym order.newest) (inl refl)))))
origin_by IsOf dealer nodes era before (Act hand index action) one b said = record {
  node = said.node;
  is_node = said.is_node;
  seat = said.seat;
  bytes = said.bytes;
  heard = b.heard said.earlier said.node said.seat said.bytes (said.moment.came_later, said.moment.all_came) said.connected;
  line = said.line;
  holds = said.heard;
  before = said.before;
  chosen = chosen_in (length nodes) said.sent (said_in (era ∷ before)) said.before
      (λ sender ballot slot command there. b.accepted sender ballot slot command
      (subst (In (Accepted sender ballot slot command)) (sym said.moment.all_sent) (in_later said.moment.sent_later said.sent (Accepted sender ballot slot command) there)))
      said.chosen;
  says = said.says;
}

-- The headline, from the world behind the records.
pub one_list_of : {Node : Type 0} (IsOf : ℕ → Node → WorldNode → List ℕ → Type 0) (setting : Setting) (nodes : List Node) (era : Era) (before : List Era)
    → IsOneDealer → IsOneChoice → ChosenAreDealtOrSaid → OwnsDeals (owned_in setting.game.players (era ∷ before))
    → Behind IsOf (dealer_in setting (era ∷ before)) nodes era.record_of before → OneList (dealer_in setting (era ∷ before)) (length nodes) (era ∷ before)
one_list_of IsOf setting nodes era before one_dealer one_choice dealt owns b =
    let one = one_dealer (dealer_in setting (era ∷ before)) (length nodes) b.world b.reached in
    let forward : NeverGoesBack (b.latest ++ b.older) = subst NeverGoesBack b.shown one.forward in
    record {
      commands = one.commands;
      chosen = chosen_in (length nodes) b.world.ever (said_in (era ∷ before)) one.commands b.accepted one.chosen;
      fitting = one.fitting;
      shown = (
        of_one_list (dealer_in setting (era ∷ before)) one.commands era.record_of b.base b.latest b.pieces b.headers
            (λ text there. one.shown text (subst (In text) (sym b.shown) (in_first b.latest b.older text there))) (forward_first b.latest b.older forward),
        eras_of_one_list (dealer_in setting (era ∷ before)) one.commands b.older before b.eras
            (λ text there. one.shown text (subst (In text) (sym b.shown) (in_later b.latest b.older text there))) (forward_rest b.latest b.older forward),
      );
      origin = λ slot command (ballot, (quorum, is, all)).
          origin_by IsOf (dealer_in setting (era ∷ before)) nodes era before command one_choice b
          (dealt setting (owned_in setting.game.players (era ∷ before)) (length nodes) b.world slot command owns b.reached
          (ballot, (quorum, is, λ node less q. b.carried (Accepted node ballot slot command) (all node less q))));
    }
