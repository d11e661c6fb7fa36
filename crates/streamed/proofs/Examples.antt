-- The definitions on values that are written out: what they hold of, and near misses that they don't.
use Rattle.std.proofs.Common.{◌≡◌, ℕ, List, [], ◌∷◌, ◌++◌, length, refl, ap, append_assoc, arith}
use Rattle.std.specs.Prelude.{codes, decimal, None, Some, Ok, Err}
use Rattle.std.specs.List.{IsDistinct}
use Rattle.std.specs.Fmt.{digits}
use Rattle.game_def.specs.Game.{Game}
use Rattle.game_def.specs.declared.fault_kind.FaultKind.TheVariants.{Unsupported}
use Rattle.betting.specs.declared.action.Action.TheVariants.{Call, Fold}
use Rattle.betting.specs.declared.fault.ActFault.TheVariants.{TooManyRaises, RaiseTooSmall}
use Rattle.slot_log.specs.Hand.{Hand}
use Rattle.slot_log.specs.declared.command.Command.TheVariants.{Act, Away, Deal}
use Rattle.slot_log.specs.declared.reason.Reason.TheVariants.{NoHand, Illegal}
use Rattle.match_log.specs.Names.{AreNames}
use Rattle.match_log.proofs.Examples.{opened}
use Rattle.streamed.specs.Names.{IsNamesLine, pieces}
use Rattle.streamed.specs.Told.{commands_of, names_of}
use Rattle.streamed.specs.Logged.{lettered, logged}
use Rattle.streamed.specs.Answer.{Says, Tells, refusal, reply, answer, bad_script}
use Rattle.streamed.specs.Script.{AreLines, Script, answers}
use Rattle.streamed.specs.Pieces.{bytes_of}
use Rattle.streamed.specs.Ending.{status_of, ending_text, stopped, words_text}
use Rattle.match_log.specs.declared.fault_kind.LogFaultKind.TheVariants.{WrongValues}
use Rattle.streamed.specs.Verdict.{verdict_text, EndsVerdict}
use Rattle.streamed.specs.declared.ending.Ending.TheVariants.{Done, SaidNo, Refused, StoreInUse, OtherMatch, Unreadable, StreamFailed}
use Rattle.match_file.specs.declared.difference.Difference.TheVariants.{Nodes, Unread}
use Rattle.operator_notes.specs.declared.stop.Stop.TheVariants as stop
use Rattle.streamed.specs.declared.wrong_words.WrongWords.TheVariants.{Incomplete}
use Rattle.streamed.specs.declared.script_line.ScriptLine.TheVariants.{Names, Told, Bad}

-- two players, blinds 10 and 5, raises of 10 and 20
abbrev limit_game : Game
limit_game = record {
  players = 2;
  stacks = 2147483647 ∷ 2147483647 ∷ [];
  blinds = 10 ∷ 5 ∷ [];
  raise_sizes = Some (10 ∷ 10 ∷ 20 ∷ 20 ∷ []);
  first_players = 1 ∷ 0 ∷ 0 ∷ 0 ∷ [];
  max_raises = 3 ∷ 4 ∷ 4 ∷ 4 ∷ [];
}

-- TdAs|8hTc/2c8c3h/9c/Kh
abbrev dealt : List ℕ
dealt = 33 ∷ 51 ∷ 26 ∷ 32 ∷ 0 ∷ 24 ∷ 6 ∷ 28 ∷ 46 ∷ []

abbrev new_hand : Hand
new_hand = record { deal = dealt; past = [] }

names_have_pieces : pieces (codes "alice|bob") ≡ codes "alice" ∷ codes "bob" ∷ []
names_have_pieces = refl

empty_text_is_one_piece : pieces [] ≡ [] ∷ []
empty_text_is_one_piece = refl

alice_and_bob : AreNames 2 (codes "alice" ∷ codes "bob" ∷ [])
unfolding IsDistinct
alice_and_bob = record {
  one_each = refl;
  each_name = (
    record { least = omega arith; most = omega arith; bytes = (refl, (refl, (refl, (refl, (refl, tt))))) },
    (record { least = omega arith; most = omega arith; bytes = (refl, (refl, (refl, tt))) }, tt),
  );
  distinct = ((refl, tt), (tt, tt));
}

two_seats : IsNamesLine 2 (codes "alice" ∷ codes "bob" ∷ []) (codes "names alice|bob")
two_seats = record { are_names = alice_and_bob; form = refl }

a_name_for_each_seat : ¬ (IsNamesLine 3 (codes "alice" ∷ codes "bob" ∷ []) (codes "names alice|bob"))
a_name_for_each_seat line = let each : length (codes "alice" ∷ codes "bob" ∷ []) ≡ 3 = line.are_names.one_each in omega arith

no_space_behind_the_names : ¬ (IsNamesLine 2 (codes "alice" ∷ codes "bob" ∷ []) (codes "names alice|bob "))
no_space_behind_the_names line = let form : codes "names alice|bob " ≡ codes "names alice|bob" = line.form in cc

commands_are_told : commands_of (Bad ∷ Told (Act 0 0 Call) ∷ Names (codes "a" ∷ codes "b" ∷ []) ∷ []) ≡ Act 0 0 Call ∷ []
commands_are_told = refl

names_by_one_line : names_of (Bad ∷ Names (codes "a" ∷ codes "b" ∷ []) ∷ Bad ∷ []) ≡ Some (codes "a" ∷ codes "b" ∷ [])
names_by_one_line = refl

no_names_by_a_bad_line : names_of (Bad ∷ []) ≡ None
no_names_by_a_bad_line = refl

next_action_of_the_newest_hand : Tells limit_game (new_hand ∷ []) (codes "c") (Act 0 0 Call)
next_action_of_the_newest_hand = (refl, refl, refl)

no_action_before_the_first_deal : ¬ (Tells limit_game [] (codes "c") (Act 0 0 Call))
no_action_before_the_first_deal told = told

played_for_by_one_word : Tells limit_game (new_hand ∷ []) (codes "away") (Away 0 0)
played_for_by_one_word = (refl, refl, refl)

nobody_played_for_before_the_first_deal : ¬ (Tells limit_game [] (codes "away") (Away 0 0))
nobody_played_for_before_the_first_deal told = told

nobody_played_for_with_a_space_behind : ¬ (Tells limit_game (new_hand ∷ []) (codes "away ") (Away 0 0))
nobody_played_for_with_a_space_behind told = omega (arith, let text : codes "away " ≡ codes "away" = told.2 in ap length text)

nobody_played_for_by_a_fold : ¬ (Tells limit_game (new_hand ∷ []) (codes "f") (Away 0 0))
nobody_played_for_by_a_fold told = omega (arith, let text : codes "f" ≡ codes "away" = told.2 in ap length text)

not_played_for_at_another_index : ¬ (Tells limit_game (new_hand ∷ []) (codes "away") (Away 0 1))
not_played_for_at_another_index told = let index : 1 ≡ length (let past : List ℕ = [] in past) = told.1 in omega arith

no_other_index : ¬ (Tells limit_game (new_hand ∷ []) (codes "c") (Act 0 1 Call))
no_other_index told = let index : 1 ≡ length (let past : List ℕ = [] in past) = told.1 in omega arith

no_return_behind_an_action : ¬ (Tells limit_game (new_hand ∷ []) (13 ∷ []) (Act 0 0 Call))
no_return_behind_an_action told = let text : 13 ∷ [] ≡ codes "c" = told.2 in cc

names_come_first : ¬ (Says limit_game None [] (codes "names alice|bob") (Told (Act 0 0 Call)))
names_come_first says = says

names_come_once : ¬ (Says limit_game (Some (codes "a" ∷ codes "b" ∷ [])) [] (codes "names alice|bob") (Names (codes "alice" ∷ codes "bob" ∷ [])))
names_come_once says = says

refused_with_its_number : refusal (Illegal TooManyRaises) ≡ codes "E 22 TooManyRaises" ++ 10 ∷ []
refused_with_its_number = refl

refused_with_its_amount : refusal (Illegal (RaiseTooSmall 200)) ≡ codes "E 24 RaiseTooSmall " ++ decimal 200 ++ 10 ∷ []
refused_with_its_amount = ap (λ z. z ++ 10 ∷ []) (append_assoc (codes "E ") (codes "24 RaiseTooSmall ") (decimal 200))

no_hand_is_a_bad_line : refusal NoHand ≡ codes "E 110 BadScript" ++ 10 ∷ []
no_hand_is_a_bad_line = refl

names_bring_no_reply : reply limit_game 1 [] (Names (codes "a" ∷ codes "b" ∷ [])) ≡ []
names_bring_no_reply = refl

answers_in_order : answers limit_game 1 None (Bad ∷ Names (codes "a" ∷ codes "b" ∷ []) ∷ Bad ∷ []) ≡ bad_script ++ bad_script
answers_in_order = refl

a_letter_for_each_line : lettered (97 ∷ 10 ∷ 98 ∷ 99 ∷ 10 ∷ []) ≡ codes "L a" ++ 10 ∷ codes "L bc" ++ 10 ∷ []
a_letter_for_each_line = refl

no_letter_for_no_line : lettered [] ≡ []
no_letter_for_no_line = refl

no_log_unless_asked_for : logged limit_game 1 None [] (Names (codes "a" ∷ codes "b" ∷ [])) ≡ []
no_log_unless_asked_for = refl

header_first : logged limit_game 1 (Some (codes "l2.game")) (Bad ∷ []) (Names (codes "a" ∷ codes "b" ∷ [])) ≡ codes "L # name/game/hands hand l2.game 1\n"
unfolding opened
header_first = refl

no_header_for_a_bad_line : logged limit_game 1 (Some (codes "l2.game")) (Names (codes "a" ∷ codes "b" ∷ []) ∷ []) Bad ≡ []
unfolding opened
no_header_for_a_bad_line = refl

nothing_while_a_hand_runs : logged limit_game 2 (Some (codes "l2.game")) (Names (codes "a" ∷ codes "b" ∷ []) ∷ []) (Told (Deal 0 dealt)) ≡ []
unfolding opened
nothing_while_a_hand_runs = refl

-- the second seat, at position 1, folds at once
hand_that_ends : logged limit_game 2 (Some (codes "l2.game")) (Told (Deal 0 dealt) ∷ Names (codes "a" ∷ codes "b" ∷ []) ∷ []) (Told (Act 0 0 Fold)) ≡ codes "L STATE:0:f:TdAs|8hTc:5|-5:a|b\n"
unfolding opened
hand_that_ends = refl

-- behind the last hand's lines stands the score
match_that_ends : answer limit_game 1 (Some (codes "l2.game")) (Told (Deal 0 dealt) ∷ Names (codes "a" ∷ codes "b" ∷ []) ∷ []) (Told (Act 0 0 Fold)) ≡ codes "0 MATCHSTATE:0:0:f:TdAs|\n1 MATCHSTATE:1:0:f:|8hTc\nL STATE:0:f:TdAs|8hTc:5|-5:a|b\nL SCORE:5|-5:a|b\n"
unfolding opened
match_that_ends = refl

lines_and_a_rest : AreLines (97 ∷ 10 ∷ 98 ∷ 10 ∷ 99 ∷ []) ((98 ∷ []) ∷ (97 ∷ []) ∷ []) (99 ∷ [])
lines_and_a_rest = record {
  joined = refl;
  whole = (((λ e. let n : 98 ≡ 10 = e in omega arith), tt), (((λ e. let n : 97 ≡ 10 = e in omega arith), tt), tt));
  partial = ((λ e. let n : 99 ≡ 10 = e in omega arith), tt);
}

no_line_feed_in_a_rest : ¬ (AreLines (97 ∷ 10 ∷ []) [] (97 ∷ 10 ∷ []))
no_line_feed_in_a_rest lines = lines.partial.1.0 refl

a_rest_is_not_answered : Script limit_game 1 None (codes "c") []
a_rest_is_not_answered = record {
  lines = [];
  rest = codes "c";
  says = [];
  are_lines = record { joined = refl; whole = tt; partial = ((λ e. let n : 99 ≡ 10 = e in omega arith), tt) };
  say_in_turn = tt;
  written = refl;
}

done_is_0 : status_of Done ≡ 0
done_is_0 = refl

refused_is_2 : status_of (Refused (record { kind = Unsupported; line = 9 })) ≡ 2
refused_is_2 = refl

refused_with_its_line : ending_text (Refused (record { kind = Unsupported; line = 9 })) ≡ decimal 15 ++ codes " " ++ codes "Unsupported" ++ codes " " ++ decimal 9
refused_with_its_line = refl

refused_memory_stops_a_script : ending_text (stopped stop.OutOfMemory) ≡ codes "92 OutOfMemory"
refused_memory_stops_a_script = refl

failed_stream_stops_a_script : ending_text (stopped stop.StreamFailed) ≡ codes "107 StreamFailed"
failed_stream_stops_a_script = refl

piece_is_the_front_of_the_room : bytes_of (record { room = 7 ∷ 8 ∷ 9 ∷ []; count = 2; left = 1; within = omega arith }) ≡ 7 ∷ 8 ∷ []
piece_is_the_front_of_the_room = refl

failed_stream_has_its_number : ending_text StreamFailed ≡ codes "107 StreamFailed"
failed_stream_has_its_number = refl

no_is_1 : status_of (SaidNo (record { kind = WrongValues; line = 2 })) ≡ 1
no_is_1 = refl

unreadable_is_2 : status_of Unreadable ≡ 2
unreadable_is_2 = refl

wrong_words_are_told : words_text Incomplete ≡ codes "error: the command line lacks its command, or a word of it"
wrong_words_are_told = refl

said_of_a_right_log : verdict_text (Ok tt) ≡ codes "yes\n"
said_of_a_right_log = refl

said_of_a_wrong_log : verdict_text (Err (record { kind = WrongValues; line = 2 })) ≡ codes "no 2 48 WrongValues\n"
unfolding opened
said_of_a_wrong_log = refl

another_count_of_nodes_is_told : ending_text (OtherMatch (Nodes (record { kept = 5; expected = 3 }))) ≡ codes "109 OtherMatch nodes 5, not 3"
unfolding digits
another_count_of_nodes_is_told = refl

another_match_has_status_2 : status_of (OtherMatch Unread) ≡ 2
another_match_has_status_2 = refl

no_kept_match_is_told_by_its_file : ending_text (OtherMatch Unread) ≡ codes "109 OtherMatch match.kept"
no_kept_match_is_told_by_its_file = refl

store_in_use_has_its_number : (ending_text StoreInUse ≡ codes "108 StoreInUse") × (status_of StoreInUse ≡ 2)
store_in_use_has_its_number = (refl, refl)

nothing_on_standard_error_of_a_wrong_log : ending_text (SaidNo (record { kind = WrongValues; line = 2 })) ≡ []
nothing_on_standard_error_of_a_wrong_log = refl

-- a verdict that was written in part is no yes
no_yes_by_half : ¬ (EndsVerdict (Ok tt) (Some []) (Some (codes "ye")) Done)
no_yes_by_half ends = let written : codes "ye" ≡ codes "yes\n" = ends.1 in cc

-- and it is one by a stream that failed
half_a_yes : EndsVerdict (Ok tt) (Some []) (Some (codes "ye")) StreamFailed
half_a_yes = record { shown = codes "ye"; missing = codes "s\n"; whole = refl; written = refl }
