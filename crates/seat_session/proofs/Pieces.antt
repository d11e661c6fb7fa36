-- Bytes that come in pieces, and the whole lines among them.
use Rattle.std.proofs.Common.{◌≡◌, ℕ, Bool, true, false, List, [], ◌∷◌, ◌++◌, inl, inr, Option, Some, None, Result, Ok, Err, refl, sym, ◌∙◌, ap, subst, append_assoc}
use Rattle.std.proofs.lemmas.List.{append-nil}
use Rattle.game_def.specs.Game.{Game}
use Rattle.slot_log.specs.Hand.{Hand}
use Rattle.seat_session.specs.Lines.{BeginsWith, text_of}
use Rattle.seat_session.specs.Skipped.{on_stream, Skips}
use Rattle.seat_session.specs.Saying.{Says}
use Rattle.seat_session.specs.Session.{Standing, with_piece, is_closed, after_line, IsTooLong, AnswersOpen, Answers}
use Rattle.seat_session.specs.Laws.{Event, fed, asked, joined, Given, given, Happens, Gives, SkipsTo, RunsGoOn, AnyPieces, HoldsLine, IsRestOf, WholeLines}
use Rattle.seat_session.specs.declared.phase.Phase.{Phase}
use Rattle.seat_session.specs.declared.phase.Phase.TheVariants.{Greeting, Ready, Closed}
use Rattle.seat_session.specs.declared.said.Said.{Said}
use Rattle.seat_session.specs.declared.session_fault.SessionFault.{SessionFault}
use Rattle.seat_session.specs.declared.session_fault.SessionFault.TheVariants.{BadVersion, LineTooLong, Malformed, NotCurrent, NotYourTurn, Illegal}
use Rattle.seat_session.proofs.Heard.{standing}
use Rattle.seat_session.proofs.Skipping.{skips_none, skips_on, skips_before, on_stream-append}

begins_before : (stream line behind more : List ℕ) → BeginsWith stream line behind → BeginsWith (stream ++ more) line (behind ++ more)
begins_before stream line behind more begins = record {
  breaks = record {
    joined = ap (λ (l : List ℕ). l ++ more) begins.breaks.joined ∙ append_assoc line (10 ∷ behind) more;
    one_line = begins.breaks.one_line;
  };
  short = begins.short;
}

too_long_before : (stream : List ℕ) (said : Result Said SessionFault) (more : List ℕ) → IsTooLong stream said → IsTooLong (stream ++ more) said
too_long_before stream said more too_long = record {
  front = too_long.front;
  more = too_long.more ++ more;
  overlong = record {
    joined = ap (λ (l : List ℕ). l ++ more) too_long.overlong.joined ∙ append_assoc too_long.front too_long.more more;
    one_line = too_long.overlong.one_line;
    long = too_long.overlong.long;
  };
  fault = too_long.fault;
}

after_more : (said : Result Said SessionFault) (behind more : List ℕ) → with_piece (after_line said behind) more ≡ after_line said (behind ++ more)
after_more (Ok said) behind more = refl
after_more (Err BadVersion) behind more = refl
after_more (Err LineTooLong) behind more = refl
after_more (Err (Malformed fault)) behind more = refl
after_more (Err NotCurrent) behind more = refl
after_more (Err NotYourTurn) behind more = refl
after_more (Err (Illegal fault)) behind more = refl

-- more bytes, and lines in front that are skipped, change no answer
more_open : (game : Game) (hands : List Hand) (seat : ℕ) (phase : Phase) (ahead waiting : List ℕ) (said : Result Said SessionFault) (new : Standing) (more : List ℕ)
    → Skips ahead waiting → AnswersOpen game hands seat (standing phase waiting) (Some said) new
    → AnswersOpen game hands seat (standing phase (ahead ++ more)) (Some said) (with_piece new more)
more_open game hands seat phase ahead waiting said new more skips (inl over) =
    inl (record {
      rest = over.rest ++ more;
      skips = skips_before ahead over.rest more (skips_on ahead waiting over.rest skips over.skips);
      too_long = too_long_before over.rest said more over.too_long;
      closed = ap (λ (s : Standing). with_piece s more) over.closed;
    })
more_open game hands seat phase ahead waiting said new more skips (inr hears) =
    inr (record {
      rest = hears.rest ++ more;
      skips = skips_before ahead hears.rest more (skips_on ahead waiting hears.rest skips hears.skips);
      line = record { line = hears.line.line; behind = hears.line.behind ++ more; begins = begins_before hears.rest hears.line.line hears.line.behind more hears.line.begins; says = hears.line.says };
      counts = hears.counts;
      after = ap (λ (s : Standing). with_piece s more) hears.after ∙ after_more said hears.line.behind more;
    })

-- the same answer is given ahead of lines that are skipped, whatever comes later
record Ahead (game : Game) (hands : List Hand) (seat : ℕ) (ahead : Standing) (said : Result Said SessionFault) (new : Standing) : Type 0 where
  next : Standing
  skips : SkipsTo next new
  answers : (more : List ℕ) → Answers game hands seat (with_piece ahead more) (Some said) (with_piece next more)

ahead_in : (game : Game) (hands : List Hand) (seat : ℕ) (phase : Phase) (ahead waiting : List ℕ) (said : Result Said SessionFault) (new : Standing)
    → Skips ahead waiting → Answers game hands seat (standing phase waiting) (Some said) new
    → Ahead game hands seat (standing phase ahead) said new
ahead_in game hands seat Greeting ahead waiting said new skips answers = record {
  next = new;
  skips = record { same_phase = refl; skips = skips_none new.waiting };
  answers = λ more. more_open game hands seat Greeting ahead waiting said new more skips answers;
}
ahead_in game hands seat Ready ahead waiting said new skips answers = record {
  next = new;
  skips = record { same_phase = refl; skips = skips_none new.waiting };
  answers = λ more. more_open game hands seat Ready ahead waiting said new more skips answers;
}
ahead_in game hands seat (Closed fault) ahead waiting said new skips answers = record {
  next = standing (Closed fault) ahead;
  skips = record { same_phase = ap (λ (s : Standing). s.phase) (sym answers.1); skips = subst (λ (s : Standing). Skips ahead s.waiting) (sym answers.1) skips };
  answers = λ more. (answers.0, refl);
}

ahead_of : (game : Game) (hands : List Hand) (seat : ℕ) (ahead old : Standing) (said : Result Said SessionFault) (new : Standing)
    → SkipsTo ahead old → Answers game hands seat old (Some said) new → Ahead game hands seat ahead said new
ahead_of game hands seat ahead old said new to answers =
    let here : standing old.phase old.waiting ≡ standing ahead.phase old.waiting = ap (λ (p : Phase). standing p old.waiting) (sym to.same_phase) in
    ahead_in game hands seat ahead.phase ahead.waiting old.waiting said new to.skips (subst (λ (s : Standing). Answers game hands seat s (Some said) new) here answers)

-- a wait only skips lines
wait_in : (game : Game) (hands : List Hand) (seat : ℕ) (phase : Phase) (waiting : List ℕ) (new : Standing) → Answers game hands seat (standing phase waiting) None new → SkipsTo (standing phase waiting) new
wait_in game hands seat Greeting waiting new waits = record { same_phase = sym waits.same_phase; skips = waits.skips }
wait_in game hands seat Ready waiting new waits = record { same_phase = sym waits.same_phase; skips = waits.skips }
wait_in game hands seat (Closed fault) waiting new waits = absurd (let clash : ◌≡◌ {A = Option (Result Said SessionFault)} None (Some (Err fault)) = waits.0 in cc)

skips_to_on : (first second third : Standing) → SkipsTo first second → SkipsTo second third → SkipsTo first third
skips_to_on first second third to further = record { same_phase = to.same_phase ∙ further.same_phase; skips = skips_on first.waiting second.waiting third.waiting to.skips further.skips }

with_piece_in : (phase : Phase) (ahead waiting piece : List ℕ) → Skips ahead waiting → SkipsTo (with_piece (standing phase ahead) piece) (with_piece (standing phase waiting) piece)
with_piece_in Greeting ahead waiting piece skips = record { same_phase = refl; skips = skips_before ahead waiting piece skips }
with_piece_in Ready ahead waiting piece skips = record { same_phase = refl; skips = skips_before ahead waiting piece skips }
with_piece_in (Closed fault) ahead waiting piece skips = record { same_phase = refl; skips = skips }

with_piece_to : (ahead old : Standing) (piece : List ℕ) → SkipsTo ahead old → SkipsTo (with_piece ahead piece) (with_piece old piece)
with_piece_to ahead old piece to =
    let here : standing ahead.phase old.waiting ≡ standing old.phase old.waiting = ap (λ (p : Phase). standing p old.waiting) to.same_phase in
    subst (λ (s : Standing). SkipsTo (with_piece ahead piece) (with_piece s piece)) here (with_piece_in ahead.phase ahead.waiting old.waiting piece to.skips)

pieces_join_in : (phase : Phase) (waiting piece more : List ℕ) → with_piece (with_piece (standing phase waiting) piece) more ≡ with_piece (standing phase waiting) (piece ++ more)
pieces_join_in Greeting waiting piece more = ap (standing Greeting) (append_assoc waiting piece more)
pieces_join_in Ready waiting piece more = ap (standing Ready) (append_assoc waiting piece more)
pieces_join_in (Closed fault) waiting piece more = refl

pieces_join : (old : Standing) (piece more : List ℕ) → with_piece (with_piece old piece) more ≡ with_piece old (piece ++ more)
pieces_join old piece more = pieces_join_in old.phase old.waiting piece more

no_piece_in : (phase : Phase) (waiting : List ℕ) → standing phase waiting ≡ with_piece (standing phase waiting) []
no_piece_in Greeting waiting = ap (standing Greeting) (sym (append-nil waiting))
no_piece_in Ready waiting = ap (standing Ready) (sym (append-nil waiting))
no_piece_in (Closed fault) waiting = refl

happens_on : (game : Game) (seat : ℕ) (old : Standing) (first : List Event) (between : Standing) (later : List Event) (new : Standing) → Happens game seat old first between → Happens game seat between later new → Happens game seat old (first ++ later) new
happens_on game seat old [] between later new happens follows = subst (λ (s : Standing). Happens game seat s later new) happens follows
happens_on game seat old (fed piece ∷ first) between later new happens follows = happens_on game seat (with_piece old piece) first between later new happens follows
happens_on game seat old (asked hands answer ∷ first) between later new happens follows = (happens.0, happens.1, happens_on game seat happens.0 first between later new happens.2 follows)

joined_on : (first later : List Event) → joined (first ++ later) ≡ joined first ++ joined later
joined_on [] later = refl
joined_on (fed piece ∷ first) later = ap (λ (l : List ℕ). piece ++ l) (joined_on first later) ∙ sym (append_assoc piece (joined first) (joined later))
joined_on (asked hands answer ∷ first) later = joined_on first later

given_on : (first later : List Event) → given (first ++ later) ≡ given first ++ given later
given_on [] later = refl
given_on (fed piece ∷ first) later = given_on first later
given_on (asked hands None ∷ first) later = given_on first later
given_on (asked hands (Some said) ∷ first) later = ap (λ (l : List Given). let one : Given = record { hands = hands; said = said } in one ∷ l) (given_on first later)

pub runs_go_on : RunsGoOn
runs_go_on game seat old first between later new happens follows = (happens_on game seat old first between later new happens follows, joined_on first later, given_on first later)

abbrev GivesTo : Game → ℕ → Standing → List Given → Standing → Type 0
GivesTo game seat old answers new = (last : Standing) × Gives game seat old answers last × SkipsTo last new

any_pieces_ahead : (game : Game) (seat : ℕ) (ahead old : Standing) (events : List Event) (new : Standing) → SkipsTo ahead old → Happens game seat old events new
    → GivesTo game seat (with_piece ahead (joined events)) (given events) new
any_pieces_ahead game seat ahead old [] new to happens =
    (ahead, no_piece_in ahead.phase ahead.waiting, subst (λ (s : Standing). SkipsTo ahead s) (sym happens) to)
any_pieces_ahead game seat ahead old (fed piece ∷ events) new to happens =
    let rest = any_pieces_ahead game seat (with_piece ahead piece) (with_piece old piece) events new (with_piece_to ahead old piece to) happens in
    subst (λ (s : Standing). GivesTo game seat s (given events) new) (pieces_join ahead piece (joined events)) rest
any_pieces_ahead game seat ahead old (asked hands None ∷ events) new to happens =
    any_pieces_ahead game seat ahead happens.0 events new (skips_to_on ahead old happens.0 to (wait_in game hands seat old.phase old.waiting happens.0 happens.1)) happens.2
any_pieces_ahead game seat ahead old (asked hands (Some said) ∷ events) new to happens =
    let here = ahead_of game hands seat ahead old said happens.0 to happens.1 in
    let rest = any_pieces_ahead game seat here.next happens.0 events new here.skips happens.2 in
    (rest.0, (with_piece here.next (joined events), here.answers (joined events), rest.1), rest.2)

pub any_pieces : AnyPieces
any_pieces game seat old events new happens = any_pieces_ahead game seat old old events new (record { same_phase = refl; skips = skips_none old.waiting }) happens

-- ---- whole lines

fed_in : (bytes piece : List ℕ) (phase : Phase) (waiting : List ℕ) → IsRestOf bytes (standing phase waiting) → IsRestOf (bytes ++ piece) (with_piece (standing phase waiting) piece)
fed_in bytes piece Greeting waiting rest = λ unclosed. let r = rest unclosed in (r.0, ap (λ (l : List ℕ). l ++ piece) r.1 ∙ append_assoc (on_stream r.0) waiting piece)
fed_in bytes piece Ready waiting rest = λ unclosed. let r = rest unclosed in (r.0, ap (λ (l : List ℕ). l ++ piece) r.1 ∙ append_assoc (on_stream r.0) waiting piece)
fed_in bytes piece (Closed fault) waiting rest = λ unclosed. absurd (let clash : ◌≡◌ {A = Bool} true false = unclosed in cc)

-- where what waits is behind whole lines, so is what stands behind further lines that are skipped
rest_behind : (bytes waiting rest : List ℕ) (lines : List (List ℕ)) → bytes ≡ on_stream lines ++ waiting → (skips : Skips waiting rest) → bytes ≡ on_stream (lines ++ skips.lines) ++ rest
rest_behind bytes waiting rest lines whole skips =
    whole ∙ ap (λ (l : List ℕ). on_stream lines ++ l) skips.joined ∙ sym (append_assoc (on_stream lines) (on_stream skips.lines) rest)
    ∙ ap (λ (l : List ℕ). l ++ rest) (sym (on_stream-append lines skips.lines))

one_line_on : (line : List ℕ) → on_stream (line ∷ []) ≡ line ++ 10 ∷ []
one_line_on line = append-nil (line ++ 10 ∷ [])

line_behind : (bytes rest line behind : List ℕ) (lines : List (List ℕ)) → bytes ≡ on_stream lines ++ rest → BeginsWith rest line behind → bytes ≡ on_stream (lines ++ line ∷ []) ++ behind
line_behind bytes rest line behind lines whole begins =
    let line_is : rest ≡ on_stream (line ∷ []) ++ behind = begins.breaks.joined ∙ sym (append_assoc line (10 ∷ []) behind) ∙ ap (λ (l : List ℕ). l ++ behind) (sym (one_line_on line)) in
    whole ∙ ap (λ (l : List ℕ). on_stream lines ++ l) line_is ∙ sym (append_assoc (on_stream lines) (on_stream (line ∷ [])) behind)
    ∙ ap (λ (l : List ℕ). l ++ behind) (sym (on_stream-append lines (line ∷ [])))

after_waiting : (said : Result Said SessionFault) (behind : List ℕ) → is_closed (after_line said behind).phase ≡ false → (after_line said behind).waiting ≡ behind
after_waiting (Ok said) behind unclosed = refl
after_waiting (Err BadVersion) behind unclosed = absurd (let clash : ◌≡◌ {A = Bool} true false = unclosed in cc)
after_waiting (Err LineTooLong) behind unclosed = absurd (let clash : ◌≡◌ {A = Bool} true false = unclosed in cc)
after_waiting (Err (Malformed fault)) behind unclosed = refl
after_waiting (Err NotCurrent) behind unclosed = refl
after_waiting (Err NotYourTurn) behind unclosed = refl
after_waiting (Err (Illegal fault)) behind unclosed = refl

answered_open : (game : Game) (hands : List Hand) (seat : ℕ) (bytes : List ℕ) (phase : Phase) (waiting : List ℕ) (answer : Option (Result Said SessionFault)) (new : Standing) (lines : List (List ℕ))
    → bytes ≡ on_stream lines ++ waiting → AnswersOpen game hands seat (standing phase waiting) answer new → IsRestOf bytes new
answered_open game hands seat bytes phase waiting None new lines whole waits = λ unclosed. (lines ++ waits.skips.lines, rest_behind bytes waiting new.waiting lines whole waits.skips)
answered_open game hands seat bytes phase waiting (Some said) new lines whole (inl over) =
    subst (λ (s : Standing). IsRestOf bytes s) (sym over.closed) (λ unclosed. absurd (let clash : ◌≡◌ {A = Bool} true false = unclosed in cc))
answered_open game hands seat bytes phase waiting (Some said) new lines whole (inr hears) =
    let skipped = rest_behind bytes waiting hears.rest lines whole hears.skips in
    let taken = line_behind bytes hears.rest hears.line.line hears.line.behind (lines ++ hears.skips.lines) skipped hears.line.begins in
    let all = (lines ++ hears.skips.lines) ++ hears.line.line ∷ [] in
    subst (λ (s : Standing). IsRestOf bytes s) (sym hears.after)
    (λ unclosed. (all, taken ∙ ap (λ (l : List ℕ). on_stream all ++ l) (sym (after_waiting said hears.line.behind unclosed))))

answered_in : (game : Game) (hands : List Hand) (seat : ℕ) (bytes : List ℕ) (phase : Phase) (waiting : List ℕ) (answer : Option (Result Said SessionFault)) (new : Standing)
    → IsRestOf bytes (standing phase waiting) → Answers game hands seat (standing phase waiting) answer new → IsRestOf bytes new
answered_in game hands seat bytes Greeting waiting answer new rest answers = let r = rest refl in answered_open game hands seat bytes Greeting waiting answer new r.0 r.1 answers
answered_in game hands seat bytes Ready waiting answer new rest answers = let r = rest refl in answered_open game hands seat bytes Ready waiting answer new r.0 r.1 answers
answered_in game hands seat bytes (Closed fault) waiting answer new rest answers = subst (λ (s : Standing). IsRestOf bytes s) (sym answers.1) rest

abbrev SaidBy : Game → List Hand → ℕ → List ℕ → Phase → Said → Type 0
SaidBy game hands seat bytes phase said = (line : List ℕ) × HoldsLine bytes line × Says game hands seat phase (text_of line) (Ok said)

said_open : (game : Game) (hands : List Hand) (seat : ℕ) (bytes : List ℕ) (phase : Phase) (waiting : List ℕ) (said : Said) (new : Standing) (lines : List (List ℕ))
    → bytes ≡ on_stream lines ++ waiting → AnswersOpen game hands seat (standing phase waiting) (Some (Ok said)) new → SaidBy game hands seat bytes phase said
said_open game hands seat bytes phase waiting said new lines whole (inl over) =
    absurd (let clash : ◌≡◌ {A = Result Said SessionFault} (Ok said) (Err LineTooLong) = over.too_long.fault in cc)
said_open game hands seat bytes phase waiting said new lines whole (inr hears) =
    let skipped = rest_behind bytes waiting hears.rest lines whole hears.skips in
    let before = lines ++ hears.skips.lines in
    let holds : HoldsLine bytes hears.line.line = record {
      before = before;
      behind = hears.line.behind;
      whole = skipped ∙ ap (λ (l : List ℕ). on_stream before ++ l) hears.line.begins.breaks.joined;
      one_line = hears.line.begins.breaks.one_line;
    } in
    (hears.line.line, holds, hears.line.says)

said_in : (game : Game) (hands : List Hand) (seat : ℕ) (bytes : List ℕ) (phase : Phase) (waiting : List ℕ) (said : Said) (new : Standing)
    → IsRestOf bytes (standing phase waiting) → Answers game hands seat (standing phase waiting) (Some (Ok said)) new → SaidBy game hands seat bytes phase said
said_in game hands seat bytes Greeting waiting said new rest answers = let r = rest refl in said_open game hands seat bytes Greeting waiting said new r.0 r.1 answers
said_in game hands seat bytes Ready waiting said new rest answers = let r = rest refl in said_open game hands seat bytes Ready waiting said new r.0 r.1 answers
said_in game hands seat bytes (Closed fault) waiting said new rest answers =
    absurd (let clash : ◌≡◌ {A = Option (Result Said SessionFault)} (Some (Ok said)) (Some (Err fault)) = answers.0 in cc)

pub whole_lines : WholeLines
whole_lines = record {
  begun = λ unclosed. ([], refl);
  fed_more = λ bytes piece old rest. fed_in bytes piece old.phase old.waiting rest;
  answered = λ game hands seat bytes old answer new rest answers. answered_in game hands seat bytes old.phase old.waiting answer new rest answers;
  said = λ game hands seat bytes old said new rest answers. said_in game hands seat bytes old.phase old.waiting said new rest answers;
}
