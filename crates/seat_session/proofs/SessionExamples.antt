-- Worked examples of what sessions answer, and near misses.
use Rattle.std.proofs.Common.{◌≡◌, ℕ, ◌<◌, Bool, true, false, List, [], ◌∷◌, ◌++◌, length, get_or, inr, Option, Some, None, Result, Ok, Err, refl, sym, ap, arith, rules, replicate, inl}
use Rattle.std.specs.Prelude.{codes}
use Rattle.std.specs.List.{AllByRecursion}
use Rattle.std.proofs.lemmas.List.{length-append}
use Rattle.betting.specs.declared.action.Action.{Action}
use Rattle.betting.specs.declared.action.Action.TheVariants.{Fold, Call, Raise}
use Rattle.betting.specs.declared.fault.ActFault.TheVariants.{FoldNotFacing, TooManyRaises}
use Rattle.betting.specs.Rounds.{turns}
use Rattle.betting.specs.Legal.{Legal}
use Rattle.betting.proofs.Legal.{none-can_act}
use Rattle.slot_log.specs.Hand.{Hand, Match}
use Rattle.slot_log.specs.declared.command.Command.TheVariants.{Act as Acts, Away}
use Rattle.matchstate.specs.Answer.{SaysAction}
use Rattle.matchstate.specs.Line.{IsLine}
use Rattle.matchstate.specs.View.{View, view_of}
use Rattle.matchstate.specs.declared.line_fault.LineFault.TheVariants.{BadAction}
use Rattle.matchstate.proofs.Examples.{opened, limit_pair, first_deal, first_deal_dealt, played}
use Rattle.seat_session.specs.Fault.{fault_text}
use Rattle.seat_session.specs.Lines.{HasNoFeed, IsPartial, text_of}
use Rattle.seat_session.specs.Skipped.{is_skipped, IsSkippedLine, on_stream, Skips}
use Rattle.seat_session.specs.Feeds.{line_feeds}
use Rattle.seat_session.specs.Progress.{says_ready}
use Rattle.seat_session.specs.Saying.{Greets, Echoes, Plays, SaidFits, IsSaidInRange}
use Rattle.seat_session.specs.Session.{Standing, fresh, closed_by, with_piece, after_line, Answers}
use Rattle.seat_session.specs.Laws.{Event, fed, asked, Given, joined, given, HoldsLine, IsRestOf, Happens, Gives}
use Rattle.seat_session.specs.declared.phase.Phase.TheVariants.{Greeting, Ready as InPlay}
use Rattle.seat_session.specs.declared.said.Said.{Said}
use Rattle.seat_session.specs.declared.said.Said.TheVariants.{Ready, Act}
use Rattle.seat_session.specs.declared.session_fault.SessionFault.{SessionFault}
use Rattle.seat_session.specs.declared.session_fault.SessionFault.TheVariants.{BadVersion, LineTooLong, Malformed, NotCurrent, NotYourTurn, Illegal}
use Rattle.seat_session.proofs.Examples.{version_zero, not_version_one, overlong_4097}
use Rattle.seat_session.proofs.Heard.{standing}
use Rattle.seat_session.proofs.Skipping.{skips_none}

abbrev Answer : Type 0
Answer = Result Said SessionFault

-- ---- faults

malformed_text : fault_text (Malformed BadAction) ≡ codes "82 Malformed 44 BadAction"
malformed_text = refl

illegal_text : fault_text (Illegal TooManyRaises) ≡ codes "85 Illegal 22 TooManyRaises"
illegal_text = refl

-- ---- lines that are skipped

hash : is_skipped (codes "# hello") ≡ true
hash = refl

semicolon : is_skipped (codes ";") ≡ true
semicolon = refl

blank : is_skipped [] ≡ false
blank = refl

hash_behind_a_space : is_skipped (codes " #") ≡ false
hash_behind_a_space = refl

skips_a_comment : Skips (codes "#a" ++ 10 ∷ codes "VERSION") (codes "VERSION")
skips_a_comment = record { lines = codes "#a" ∷ []; each = (record { one_line = (omega arith, (omega arith, tt)); short = omega arith; skipped = refl }, tt); joined = refl }

-- a line that isn't whole is not skipped yet
not_skips_a_beginning : Skips (codes "#a") [] → ⊥
not_skips_a_beginning skips = none skips.lines skips.joined
  where
    none : (lines : List (List ℕ)) → codes "#a" ≡ on_stream lines ++ [] → ⊥
    none [] whole = cc
    none ([] ∷ lines) whole = let byte = ap (λ (l : List ℕ). get_or l 0 0) whole in omega (arith, byte)
    none ((x ∷ []) ∷ lines) whole = let byte = ap (λ (l : List ℕ). get_or l 1 0) whole in omega (arith, byte)
    none ((x ∷ y ∷ more) ∷ lines) whole =
        omega (arith, ap length whole, length-append (more ++ 10 ∷ []) (on_stream lines), length-append ((more ++ 10 ∷ []) ++ on_stream lines) [], length-append more (10 ∷ []))

-- ---- where a session stands

a_piece_waits : with_piece fresh (codes "VER") ≡ standing Greeting (codes "VER")
a_piece_waits = refl

a_closed_session_keeps_none : with_piece (closed_by LineTooLong) (codes "VER") ≡ closed_by LineTooLong
a_closed_session_keeps_none = refl

goes_on_behind_a_fault : after_line (Err NotCurrent) (codes "next") ≡ standing InPlay (codes "next")
goes_on_behind_a_fault = refl

closes_at_a_wrong_version : after_line (Err BadVersion) (codes "next") ≡ closed_by BadVersion
closes_at_a_wrong_version = refl

-- ---- the first line

greets : Greets (codes "VERSION:2.0.0") (Ok Ready)
greets = version_zero

not_greets_with_another : Greets (codes "VERSION:2.1.0") (Ok Ready) → ⊥
not_greets_with_another = not_version_one

refuses_another : Greets (codes "VERSION:2.1.0") (Err BadVersion)
refuses_another = not_version_one

not_refuses_the_version : Greets (codes "VERSION:2.0.0") (Err BadVersion) → ⊥
not_refuses_the_version refused = refused version_zero

-- ---- answers of a session

waits_for_the_first_line : Answers limit_pair [] 1 fresh None fresh
waits_for_the_first_line = record { skips = skips_none []; partial = record { one_line = tt; short = omega arith }; same_phase = refl }

is_ready_after_the_version : Answers limit_pair [] 1 (standing Greeting (codes "VERSION:2.0.0" ++ 10 ∷ codes "MATCH")) (Some (Ok Ready)) (standing InPlay (codes "MATCH"))
is_ready_after_the_version =
    inr (record {
      rest = codes "VERSION:2.0.0" ++ 10 ∷ codes "MATCH";
      skips = skips_none (codes "VERSION:2.0.0" ++ 10 ∷ codes "MATCH");
      line = record { line = codes "VERSION:2.0.0"; behind = codes "MATCH"; begins = record { breaks = record { joined = refl; one_line = search rules }; short = omega arith }; says = version_zero };
      counts = refl;
      after = refl;
    })

-- a line that is skipped, and another version
is_closed_by_another_version : Answers limit_pair [] 1 (standing Greeting (codes "#a" ++ 10 ∷ (codes "VERSION:2.1.0" ++ 10 ∷ codes "MATCH"))) (Some (Err BadVersion)) (closed_by BadVersion)
is_closed_by_another_version =
    inr (record {
      rest = codes "VERSION:2.1.0" ++ 10 ∷ codes "MATCH";
      skips = record { lines = codes "#a" ∷ []; each = (record { one_line = (omega arith, (omega arith, tt)); short = omega arith; skipped = refl }, tt); joined = refl };
      line = record { line = codes "VERSION:2.1.0"; behind = codes "MATCH"; begins = record { breaks = record { joined = refl; one_line = search rules }; short = omega arith }; says = not_version_one };
      counts = refl;
      after = refl;
    })

-- 4097 bytes without a line feed, even as the first line
is_closed_by_a_long_line : (more : List ℕ) → Answers limit_pair [] 1 (standing Greeting (replicate 4097 97 ++ more)) (Some (Err LineTooLong)) (closed_by LineTooLong)
is_closed_by_a_long_line more =
    inl (record {
      rest = replicate 4097 97 ++ more;
      skips = skips_none (replicate 4097 97 ++ more);
      too_long = record { front = replicate 4097 97; more = more; overlong = overlong_4097 more; fault = refl };
      closed = refl;
    })

tells_its_fault_again : Answers limit_pair [] 1 (closed_by BadVersion) (Some (Err BadVersion)) (closed_by BadVersion)
tells_its_fault_again = (refl, refl)

not_waits_once_closed : (new : Standing) → Answers limit_pair [] 1 (closed_by BadVersion) None new → ⊥
not_waits_once_closed new answers = let none : ◌≡◌ {A = Option Answer} None (Some (Err BadVersion)) = answers.0 in cc

not_waits_with_a_whole_line : (new : Standing) → Answers limit_pair [] 1 (standing InPlay (97 ∷ 10 ∷ [])) None new → ⊥
not_waits_with_a_whole_line new waits = none waits.skips.lines new.waiting waits.skips.each waits.partial waits.skips.joined
  where
    none : (lines : List (List ℕ)) (rest : List ℕ) → AllByRecursion IsSkippedLine lines → IsPartial rest → 97 ∷ 10 ∷ [] ≡ on_stream lines ++ rest → ⊥
    none [] rest each partial whole = let clear : HasNoFeed (97 ∷ 10 ∷ []) = rw (← whole) at partial.one_line in clear.1.0 refl
    none ([] ∷ lines) rest each partial whole = let byte = ap (λ (l : List ℕ). get_or l 0 0) whole in omega (arith, byte)
    none ((x ∷ []) ∷ lines) rest each partial whole =
        let byte : x ≡ 97 = sym (ap (λ (l : List ℕ). get_or l 0 0) whole) in
        let skipped : is_skipped (text_of (x ∷ [])) ≡ true = each.0.skipped in
        let plain : ◌≡◌ {A = Bool} false true = rw byte at skipped in
        cc
    none ((x ∷ y ∷ more) ∷ lines) rest each partial whole =
        omega (arith, ap length whole, length-append (more ++ 10 ∷ []) (on_stream lines), length-append ((more ++ 10 ∷ []) ++ on_stream lines) rest, length-append more (10 ∷ []))

-- ---- lines of the game: the first hand, nobody having acted yet, and after a call

abbrev dealt : List Hand
dealt = played first_deal [] ∷ []

abbrev called : List Hand
called = played first_deal (Call ∷ []) ∷ []

first_view : View
unfolding opened
first_view = view_of limit_pair 1 0 (played first_deal [])

other_view : View
unfolding opened
other_view = view_of limit_pair 0 0 (played first_deal [])

later_view : View
unfolding opened
later_view = view_of limit_pair 0 0 (played first_deal (Call ∷ []))

call_is_legal : Legal limit_pair (Call ∷ [])
unfolding opened
call_is_legal = (tt, none-can_act limit_pair (turns limit_pair []) Call refl)

line_of_seat_1 : IsLine limit_pair (codes "MATCHSTATE:1:0::|8hTc") first_view
unfolding opened first_view
line_of_seat_1 = record {
  fields = record { position = codes "1"; hand = codes "0"; betting = []; cards = codes "|8hTc" };
  has_fields = record { whole = refl; position_field = search rules; hand_field = search rules; betting_field = tt; cards_field = search rules };
  same_game = refl;
  numbers = record { position_text = refl; position_below = omega arith; hand_text = refl; hand_most = omega arith };
  betting = record { betting_text = refl; legal = tt };
  cards = record { cards_text = refl; seen = (first_deal, record { dealt = first_deal_dealt; hole_cards = refl; board_cards = refl }) };
}

line_of_seat_0 : IsLine limit_pair (codes "MATCHSTATE:0:0::TdAs|") other_view
unfolding opened other_view
line_of_seat_0 = record {
  fields = record { position = codes "0"; hand = codes "0"; betting = []; cards = codes "TdAs|" };
  has_fields = record { whole = refl; position_field = search rules; hand_field = search rules; betting_field = tt; cards_field = search rules };
  same_game = refl;
  numbers = record { position_text = refl; position_below = omega arith; hand_text = refl; hand_most = omega arith };
  betting = record { betting_text = refl; legal = tt };
  cards = record { cards_text = refl; seen = (first_deal, record { dealt = first_deal_dealt; hole_cards = refl; board_cards = refl }) };
}

later_line_of_seat_0 : IsLine limit_pair (codes "MATCHSTATE:0:0:c:TdAs|") later_view
unfolding opened later_view
later_line_of_seat_0 = record {
  fields = record { position = codes "0"; hand = codes "0"; betting = codes "c"; cards = codes "TdAs|" };
  has_fields = record { whole = refl; position_field = search rules; hand_field = search rules; betting_field = search rules; cards_field = search rules };
  same_game = refl;
  numbers = record { position_text = refl; position_below = omega arith; hand_text = refl; hand_most = omega arith };
  betting = record { betting_text = refl; legal = call_is_legal };
  cards = record { cards_text = refl; seen = (first_deal, record { dealt = first_deal_dealt; hole_cards = refl; board_cards = refl }) };
}

call_of_seat_1 : Echoes limit_pair dealt 1 (codes "MATCHSTATE:1:0::|8hTc:c") first_view Call
unfolding opened first_view
call_of_seat_1 = record {
  reads = record { line = codes "MATCHSTATE:1:0::|8hTc"; field = codes "c"; cut = record { whole = refl; last = search rules }; line_is = line_of_seat_1; action_is = refl };
  current = refl;
  field = codes "c";
  whole = refl;
  action_text = refl;
}

call_of_seat_0 : Echoes limit_pair dealt 0 (codes "MATCHSTATE:0:0::TdAs|:c") other_view Call
unfolding opened other_view
call_of_seat_0 = record {
  reads = record { line = codes "MATCHSTATE:0:0::TdAs|"; field = codes "c"; cut = record { whole = refl; last = search rules }; line_is = line_of_seat_0; action_is = refl };
  current = refl;
  field = codes "c";
  whole = refl;
  action_text = refl;
}

fold_of_seat_0 : Echoes limit_pair called 0 (codes "MATCHSTATE:0:0:c:TdAs|:f") later_view Fold
unfolding opened later_view
fold_of_seat_0 = record {
  reads = record { line = codes "MATCHSTATE:0:0:c:TdAs|"; field = codes "f"; cut = record { whole = refl; last = search rules }; line_is = later_line_of_seat_0; action_is = refl };
  current = refl;
  field = codes "f";
  whole = refl;
  action_text = refl;
}

seat_1_calls : Plays limit_pair dealt 1 (codes "MATCHSTATE:1:0::|8hTc:c") (Ok (Act (Acts 0 0 Call)))
unfolding opened first_view
seat_1_calls = record { view = first_view; echoes = call_of_seat_1; turn = refl; allowed = none-can_act limit_pair (turns limit_pair []) Call refl; same_hand = refl; next_index = refl }

-- the first action has the index 0
not_the_second_action : Plays limit_pair dealt 1 (codes "MATCHSTATE:1:0::|8hTc:c") (Ok (Act (Acts 0 1 Call))) → ⊥
unfolding opened
not_the_second_action says =
    let same : ◌≡◌ {A = Option View} (Some (view_of limit_pair 1 0 (played first_deal []))) (Some says.view) = says.echoes.current in
    let view : view_of limit_pair 1 0 (played first_deal []) ≡ says.view = cc in
    omega (arith, says.next_index, ap (λ (v : View). length v.past) view)

-- no line says that a player is away
away_is_not_said : Plays limit_pair dealt 1 (codes "MATCHSTATE:1:0::|8hTc:f") (Ok (Act (Away 0 0))) → ⊥
away_is_not_said says = says

seat_0_is_not_to_act : Plays limit_pair dealt 0 (codes "MATCHSTATE:0:0::TdAs|:c") (Err NotYourTurn)
unfolding opened other_view
seat_0_is_not_to_act = (other_view, Call, call_of_seat_0, λ turn. let clash : ◌≡◌ {A = Option ℕ} (Some 1) (Some 0) = turn in let one : ◌≡◌ {A = ℕ} 1 0 = cc in omega (arith, one))

seat_1_sends_another_line : Plays limit_pair dealt 1 (codes "MATCHSTATE:0:0::TdAs|:c") (Err NotCurrent)
unfolding opened other_view
seat_1_sends_another_line =
    (other_view, Call, call_of_seat_0.reads, λ same. let view : view_of limit_pair 1 0 (played first_deal []) ≡ other_view = cc in omega (arith, ap (λ (v : View). v.position) view))

nothing_is_current_before_the_deal : Plays limit_pair [] 1 (codes "MATCHSTATE:1:0::|8hTc:c") (Err NotCurrent)
nothing_is_current_before_the_deal = (first_view, Call, call_of_seat_1.reads, λ same. let none : ◌≡◌ {A = Option View} None (Some first_view) = same in cc)

seat_0_folds_for_nothing : Plays limit_pair called 0 (codes "MATCHSTATE:0:0:c:TdAs|:f") (Err (Illegal FoldNotFacing))
unfolding opened later_view
seat_0_folds_for_nothing = (later_view, Fold, fold_of_seat_0, refl, refl)

x_is_no_action : Plays limit_pair dealt 1 (codes "MATCHSTATE:1:0::|8hTc:x") (Err (Malformed BadAction))
unfolding opened
x_is_no_action = (codes "MATCHSTATE:1:0::|8hTc", codes "x", record { whole = refl; last = search rules }, (first_view, line_of_seat_1, no_action))
  where
    no_action : (action : Action) → SaysAction limit_pair first_view (codes "x") action → ⊥
    no_action Fold says = let byte = ap (λ (l : List ℕ). get_or l 0 0) says in omega (arith, byte)
    no_action Call says = let byte = ap (λ (l : List ℕ). get_or l 0 0) says in omega (arith, byte)
    no_action (Raise amount) says = let byte = ap (λ (l : List ℕ). get_or l 0 0) says.0 in omega (arith, byte)

abbrev one_hand : List Hand → Match
one_hand hands = record { game = limit_pair; count = 1; hands = hands; room = 0 }

the_call_fits : SaidFits (one_hand dealt) (Act (Acts 0 0 Call))
unfolding opened
the_call_fits = record { goes_on = omega arith; runs = refl; same_hand = refl; next_index = refl; allowed = none-can_act limit_pair (turns limit_pair []) Call refl }

not_fits_twice : SaidFits (one_hand called) (Act (Acts 0 0 Call)) → ⊥
not_fits_twice fits = omega (arith, fits.next_index)

-- ---- pieces and whole lines

abbrev two_pieces : List Event
two_pieces = fed (codes "VERS") ∷ asked [] None ∷ fed (codes "ION") ∷ asked dealt (Some (Err BadVersion)) ∷ []

-- the version in two pieces, and joined
abbrev greeting : List Event
greeting = fed (codes "VERSION:2.0") ∷ asked [] None ∷ fed (codes ".0" ++ 10 ∷ []) ∷ asked [] (Some (Ok Ready)) ∷ []

greeting_is_whole : Answers limit_pair [] 1 (standing Greeting (codes "VERSION:2.0.0" ++ 10 ∷ [])) (Some (Ok Ready)) (standing InPlay [])
greeting_is_whole =
    inr (record {
      rest = codes "VERSION:2.0.0" ++ 10 ∷ [];
      skips = skips_none (codes "VERSION:2.0.0" ++ 10 ∷ []);
      line = record { line = codes "VERSION:2.0.0"; behind = []; begins = record { breaks = record { joined = refl; one_line = search rules }; short = omega arith }; says = version_zero };
      counts = refl;
      after = refl;
    })

greeting_happens : Happens limit_pair 1 fresh greeting (standing InPlay [])
greeting_happens = (
  standing Greeting (codes "VERSION:2.0"),
  record { skips = skips_none (codes "VERSION:2.0"); partial = record { one_line = search rules; short = omega arith }; same_phase = refl },
  (standing InPlay [], greeting_is_whole, refl),
)

joined_greeting_gives : Gives limit_pair 1 (with_piece fresh (joined greeting)) (given greeting) (standing InPlay [])
joined_greeting_gives = (standing InPlay [], greeting_is_whole, refl)

-- what was said stays said
not_gives_nothing : Gives limit_pair 1 (with_piece fresh (joined greeting)) [] (standing InPlay []) → ⊥
not_gives_nothing same = let none : ◌≡◌ {A = List ℕ} [] (joined greeting) = ap (λ (s : Standing). s.waiting) same in cc

pieces_join : joined two_pieces ≡ codes "VERSION"
pieces_join = refl

one_answer_given : given two_pieces ≡ (let first : Given = record { hands = dealt; said = Err BadVersion } in first) ∷ []
one_answer_given = refl

second_line_stands : HoldsLine (97 ∷ 10 ∷ 98 ∷ 10 ∷ []) (98 ∷ [])
second_line_stands = record { before = (97 ∷ []) ∷ []; behind = []; whole = refl; one_line = (omega arith, tt) }

-- what stands in the middle of a line is none
not_the_end_of_a_line : HoldsLine (97 ∷ 98 ∷ 10 ∷ []) (98 ∷ []) → ⊥
not_the_end_of_a_line holds = none holds.before holds.whole
  where
    none : (before : List (List ℕ)) → 97 ∷ 98 ∷ 10 ∷ [] ≡ on_stream before ++ (98 ∷ 10 ∷ holds.behind) → ⊥
    none [] whole = let byte = ap (λ (l : List ℕ). get_or l 0 0) whole in omega (arith, byte)
    none ([] ∷ lines) whole = let byte = ap (λ (l : List ℕ). get_or l 0 0) whole in omega (arith, byte)
    none ((x ∷ []) ∷ lines) whole = let byte = ap (λ (l : List ℕ). get_or l 1 0) whole in omega (arith, byte)
    none ((x ∷ y ∷ more) ∷ lines) whole =
        omega (arith, ap length whole, length-append (more ++ 10 ∷ []) (on_stream lines), length-append ((more ++ 10 ∷ []) ++ on_stream lines) (98 ∷ 10 ∷ holds.behind), length-append more (10 ∷ []))

rest_of_a_line : IsRestOf (97 ∷ 10 ∷ 98 ∷ []) (standing InPlay (98 ∷ []))
rest_of_a_line = λ unclosed. ((97 ∷ []) ∷ [], refl)

-- ---- what is counted, and in which range it is

two_feeds : line_feeds (97 ∷ 10 ∷ 98 ∷ 10 ∷ 99 ∷ []) ≡ 2
two_feeds = refl

-- a carriage return ends no line
no_feed : line_feeds (97 ∷ 13 ∷ 99 ∷ []) ≡ 0
no_feed = refl

version_counts : says_ready (Ok Ready) ≡ true
version_counts = refl

call_counts_not : says_ready (Ok (Act (Acts 0 0 Call))) ≡ false
call_counts_not = refl

fault_counts_not : says_ready (Err NotCurrent) ≡ false
fault_counts_not = refl

-- no hand has an action of index 256
index_256_is_out_of_range : IsSaidInRange (Act (Acts 0 256 Call)) → ⊥
index_256_is_out_of_range within = let index : 256 < 256 = within.1 in absurd (omega (arith, index))
