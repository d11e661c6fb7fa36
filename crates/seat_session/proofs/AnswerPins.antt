-- Worked answers in play: acts, lines that go wrong, and near misses.
use Rattle.std.proofs.Common.{◌≡◌, ◌≢◌, ℕ, List, [], ◌∷◌, ◌++◌, length, inl, inr, Option, Some, None, Result, Ok, Err, refl, ap, subst, arith, rules, replicate}
use Rattle.std.specs.Prelude.{codes}
use Rattle.std.proofs.lemmas.List.{length-append, length-replicate}
use Rattle.std.proofs.lemmas.List.Elements.{All-replicate, recursion_from_All}
use Rattle.betting.specs.declared.action.Action.TheVariants.{Call, Raise}
use Rattle.betting.specs.declared.fault.ActFault.{ActFault}
use Rattle.betting.specs.declared.fault.ActFault.TheVariants.{TooManyRaises}
use Rattle.betting.specs.Rounds.{turns}
use Rattle.betting.proofs.Legal.{can_act-none, none-can_act}
use Rattle.slot_log.specs.Hand.{Hand}
use Rattle.slot_log.specs.declared.command.Command.TheVariants.{Act as Acts}
use Rattle.matchstate.specs.Answer.{IsAnswer}
use Rattle.matchstate.specs.View.{View, IsView, view_of}
use Rattle.matchstate.specs.declared.line_fault.LineFault.TheVariants.{NotMatchstate}
use Rattle.matchstate.proofs.Examples.{opened, limit_pair, first_deal, first_deal_dealt, played}
use Rattle.matchstate.proofs.LineExamples.{limit_pair_game}
use Rattle.matchstate.proofs.OneLine.{texts_are_lines}
use Rattle.seat_session.specs.Lines.{HasNoFeed}
use Rattle.seat_session.specs.Skipped.{on_stream, Skips}
use Rattle.seat_session.specs.Saying.{Plays}
use Rattle.seat_session.specs.Session.{Standing, Answers}
use Rattle.seat_session.specs.Laws.{Event, fed, asked, Happens}
use Rattle.seat_session.specs.declared.phase.Phase.TheVariants.{Greeting, Ready as InPlay}
use Rattle.seat_session.specs.declared.said.Said.{Said}
use Rattle.seat_session.specs.declared.said.Said.TheVariants.{Act}
use Rattle.seat_session.specs.declared.session_fault.SessionFault.{SessionFault}
use Rattle.seat_session.specs.declared.session_fault.SessionFault.TheVariants.{LineTooLong, Malformed, Illegal}
use Rattle.seat_session.proofs.AtTable.{echoes_now}
use Rattle.seat_session.proofs.Heard.{standing}
use Rattle.seat_session.proofs.LineLemmas.{not_clear}
use Rattle.seat_session.proofs.Skipping.{skips_none}
use Rattle.matchstate.proofs.RightTexts.{texts_are_answers}
use Rattle.seat_session.proofs.RightLines.{right_lines_act}

-- ---- 4096 bytes aren't too long

clear_4096 : HasNoFeed (replicate 4096 97)
clear_4096 = recursion_from_All (λ byte. byte ≢ 10) (replicate 4096 97) (All-replicate (λ byte. byte ≢ 10) 4096 97 (λ e. omega (arith, e)))

waits_behind_4096 : Answers limit_pair [] 1 (standing Greeting (replicate 4096 97)) None (standing Greeting (replicate 4096 97))
waits_behind_4096 = record {
  skips = skips_none (replicate 4096 97);
  partial = record { one_line = clear_4096; short = omega (arith, length-replicate {A = ℕ} 4096 97) };
  same_phase = refl;
}

not_closed_by_4096 : (new : Standing) → Answers limit_pair [] 1 (standing Greeting (replicate 4096 97)) (Some (Err LineTooLong)) new → ⊥
not_closed_by_4096 new (inl over) =
    omega (arith, length-replicate {A = ℕ} 4096 97, ap length over.skips.joined, length-append (on_stream over.skips.lines) over.rest, ap length over.too_long.overlong.joined, length-append over.too_long.front over.too_long.more, over.too_long.overlong.long)
not_closed_by_4096 new (inr hears) = hears.line.says

-- ---- an act in play

abbrev dealt : List Hand
dealt = played first_deal [] ∷ []

abbrev first_view : View
first_view = view_of limit_pair 1 0 (played first_deal [])

seen_by_seat_1 : IsView first_view
unfolding opened
seen_by_seat_1 = record {
  seated = omega arith;
  numbered = omega arith;
  legal = tt;
  seen = (first_deal, record { dealt = first_deal_dealt; hole_cards = refl; board_cards = refl });
}

the_right_line_acts : Plays limit_pair dealt 1 (codes "MATCHSTATE:1:0::|8hTc:c") (Ok (Act (Acts 0 0 Call)))
unfolding opened
the_right_line_acts =
    right_lines_act texts_are_answers limit_pair dealt 1 first_view Call limit_pair_game seen_by_seat_1 refl refl (none-can_act limit_pair (turns limit_pair []) Call refl)

abbrev call_line : List ℕ
call_line = codes "MATCHSTATE:1:0::|8hTc:c"

seat_1_acts : Answers limit_pair dealt 1 (standing InPlay (call_line ++ 10 ∷ codes "MATCH")) (Some (Ok (Act (Acts 0 0 Call)))) (standing InPlay (codes "MATCH"))
seat_1_acts =
    inr (record {
      rest = call_line ++ 10 ∷ codes "MATCH";
      skips = skips_none (call_line ++ 10 ∷ codes "MATCH");
      line = record { line = call_line; behind = codes "MATCH"; begins = record { breaks = record { joined = refl; one_line = search rules }; short = omega arith }; says = the_right_line_acts };
      counts = refl;
      after = refl;
    })

skips_a_line : (rest : List ℕ) → Skips (codes "#a" ++ 10 ∷ rest) rest
skips_a_line rest = record { lines = codes "#a" ∷ []; each = (record { one_line = (omega arith, (omega arith, tt)); short = omega arith; skipped = refl }, tt); joined = refl }

acts_behind_a_skipped_line : Answers limit_pair dealt 1 (standing InPlay (codes "#a" ++ 10 ∷ (call_line ++ 10 ∷ []))) (Some (Ok (Act (Acts 0 0 Call)))) (standing InPlay [])
acts_behind_a_skipped_line =
    inr (record {
      rest = call_line ++ 10 ∷ [];
      skips = skips_a_line (call_line ++ 10 ∷ []);
      line = record { line = call_line; behind = []; begins = record { breaks = record { joined = refl; one_line = search rules }; short = omega arith }; says = the_right_line_acts };
      counts = refl;
      after = refl;
    })

-- ---- a line that is no answer, and the session goes on behind it

x_is_no_line : Plays limit_pair dealt 1 (codes "x") (Err (Malformed NotMatchstate))
x_is_no_line = λ line field fields cut has. omega (arith, ap length cut.whole, length-append line (58 ∷ field), ap length has.whole)

goes_on_behind_x : Answers limit_pair dealt 1 (standing InPlay (codes "x" ++ 10 ∷ call_line)) (Some (Err (Malformed NotMatchstate))) (standing InPlay call_line)
goes_on_behind_x =
    inr (record {
      rest = codes "x" ++ 10 ∷ call_line;
      skips = skips_none (codes "x" ++ 10 ∷ call_line);
      line = record { line = codes "x"; behind = call_line; begins = record { breaks = record { joined = refl; one_line = (omega arith, tt) }; short = omega arith }; says = x_is_no_line };
      counts = refl;
      after = refl;
    })

-- ---- the line of an act in two pieces, behind one that is no answer

abbrev in_pieces : List Event
in_pieces = fed (codes "x" ++ 10 ∷ call_line) ∷ asked dealt (Some (Err (Malformed NotMatchstate))) ∷ asked dealt None ∷ fed (10 ∷ []) ∷ asked dealt (Some (Ok (Act (Acts 0 0 Call)))) ∷ []

act_alone : Answers limit_pair dealt 1 (standing InPlay (call_line ++ 10 ∷ [])) (Some (Ok (Act (Acts 0 0 Call)))) (standing InPlay [])
act_alone =
    inr (record {
      rest = call_line ++ 10 ∷ [];
      skips = skips_none (call_line ++ 10 ∷ []);
      line = record { line = call_line; behind = []; begins = record { breaks = record { joined = refl; one_line = search rules }; short = omega arith }; says = the_right_line_acts };
      counts = refl;
      after = refl;
    })

pieces_happen : Happens limit_pair 1 (standing InPlay []) in_pieces (standing InPlay [])
pieces_happen = (
  standing InPlay call_line,
  goes_on_behind_x,
  (
    standing InPlay call_line,
    record { skips = skips_none call_line; partial = record { one_line = search rules; short = omega arith }; same_phase = refl },
    (standing InPlay [], act_alone, refl),
  ),
)

later_part : (xs ys : List ℕ) → HasNoFeed (xs ++ ys) → HasNoFeed ys
later_part [] ys clear = clear
later_part (x ∷ xs) ys clear = later_part xs ys clear.1

-- nothing is said before the line feed came
not_acts_before_the_feed : (said : Said) (new : Standing) → Happens limit_pair 1 (standing InPlay []) (fed call_line ∷ asked dealt (Some (Ok said)) ∷ []) new → ⊥
not_acts_before_the_feed said new happens = by_front happens.1
  where
    clear : HasNoFeed call_line
    clear = search rules

    by_front : Answers limit_pair dealt 1 (standing InPlay call_line) (Some (Ok said)) happens.0 → ⊥
    by_front (inl over) = let clash : ◌≡◌ {A = Result Said SessionFault} (Ok said) (Err LineTooLong) = over.too_long.fault in cc
    by_front (inr hears) =
        let rest = later_part (on_stream hears.skips.lines) hears.rest (subst HasNoFeed hears.skips.joined clear) in
        not_clear hears.rest hears.line.line hears.line.behind hears.line.begins.breaks rest

-- ---- a raise where no more are allowed

abbrev raised : List Hand
raised = played first_deal (Raise 40 ∷ Raise 30 ∷ Raise 20 ∷ []) ∷ []

abbrev raised_view : View
raised_view = view_of limit_pair 0 0 (played first_deal (Raise 40 ∷ Raise 30 ∷ Raise 20 ∷ []))

seen_by_seat_0 : IsView raised_view
unfolding opened
seen_by_seat_0 = record {
  seated = omega arith;
  numbered = omega arith;
  legal = (
    ((tt, none-can_act limit_pair (turns limit_pair []) (Raise 20) refl), none-can_act limit_pair (turns limit_pair (Raise 20 ∷ [])) (Raise 30) refl),
    none-can_act limit_pair (turns limit_pair (Raise 30 ∷ Raise 20 ∷ [])) (Raise 40) refl,
  );
  seen = (first_deal, record { dealt = first_deal_dealt; hole_cards = refl; board_cards = refl });
}

no_raise_is_left : IsAnswer limit_pair (codes "MATCHSTATE:0:0:rrr:TdAs|:r") raised_view (Raise 0)
unfolding opened
no_raise_is_left = record {
  line = codes "MATCHSTATE:0:0:rrr:TdAs|";
  field = codes "r";
  cut = record { whole = refl; last = (omega arith, tt) };
  line_is = texts_are_lines raised_view limit_pair_game seen_by_seat_0;
  action_is = (
    refl,
    inr (
      refl,
      λ other can.
          let wrong : ◌≡◌ {A = Option ActFault} (Some TooManyRaises) None = can_act-none limit_pair (turns limit_pair (Raise 40 ∷ Raise 30 ∷ Raise 20 ∷ [])) (Raise other) can in
          cc,
    ),
  );
}

seat_0_raises_once_too_often : Plays limit_pair raised 0 (codes "MATCHSTATE:0:0:rrr:TdAs|:r") (Err (Illegal TooManyRaises))
unfolding opened
seat_0_raises_once_too_often = (raised_view, Raise 0, echoes_now limit_pair raised 0 (codes "MATCHSTATE:0:0:rrr:TdAs|:r") raised_view (Raise 0) no_raise_is_left refl, refl, refl)
