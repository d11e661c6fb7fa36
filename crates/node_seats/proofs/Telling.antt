-- What was told to seats is what is written to them, and what they asked is what came of them, call by call.
use Rattle.std.proofs.Common.{◌≡◌, ◌≢◌, inl, inr, ℕ, ◌<◌, ◌≤◌, ◌+◌, ◌==◌, Bool, true, false, if◌then◌else◌, List, [], ◌∷◌, ◌++◌, append_assoc, append-nil, length, set, get_or, refl, ap, sym, subst, ◌∙◌, arith}
use Rattle.std.proofs.lemmas.Bool.{cond-true, cond-false, eq-eqb, ne_eqb}
use Rattle.std.proofs.lemmas.Bool.Decides.{eqb_tells}
use Rattle.std.proofs.lemmas.List.{length-append, get_or_default, get_or-set_same, get_or-set_other}
use Rattle.std.specs.Prelude.{Option, Some, None}
use Rattle.slot_log.specs.Hand.{Match}
use Rattle.line_cursor.specs.declared.cursor.Cursor.{Cursor}
use Rattle.line_cursor.specs.Cursors.{next_cursor}
use Rattle.node_wires.specs.declared.line.Line.TheVariants.{Peer, Caller, Seat as SeatOf, Guest, Asker}
use Rattle.node_wires.specs.Passages.{Passage, Began, Came, Wrote, Gave, Logged, Tried, Ended, Closed, Saw, Waited, Called, wrote_behind, wrote_over}
use Rattle.node_seats.specs.declared.bot.Bot.{Bot}
use Rattle.node_seats.specs.declared.bot.Parting.{Parting}
use Rattle.node_seats.specs.declared.bot.Telling.{Telling}
use Rattle.node_seats.specs.declared.seat.Seat.{Seat}
use Rattle.node_seats.specs.declared.seats.Seats.{Seats}
use Rattle.node_seats.specs.declared.seat_notice.SeatNotice.{SeatNotice}
use Rattle.node_seats.specs.declared.seat_notice.SeatNotice.TheVariants as notices
use Rattle.node_seats.specs.declared.token_digest.TokenDigest.{TokenDigest}
use Rattle.node_seats.specs.Lines.{line_of}
use Rattle.node_seats.specs.Passing.{AreOfGuests, HearsNothing, passed_by}
use Rattle.node_seats.specs.Guesting.{IsGuested, behind_by}
use Rattle.node_seats.specs.Writing.{Writes, WritesToSeats}
use Rattle.node_seats.specs.Coming.{Comes, tokens_of, passed_of}
use Rattle.node_seats.specs.Seating.{nobody, no_bot, gone, heard, waits_at, sits_at, bot_at, Follows, Changes, Flushes}
use Rattle.node_seats.specs.Telling.{texts_in, lines_of, text_of, text_told, parting_line, parting_text, text_for, IsSaid, AreSaid, TellsFrom, telling_from, Told, TellsOn, TellsMore, TellsBot, SaysMore, SaysAt, Loses}
use Rattle.node_seats.proofs.Seating.{waits_here}
use Rattle.node_seats.proofs.Others.{wrote_both, wrote_coming}
use Rattle.node_seats.specs.Others.{Rests}
use Rattle.node_seats.proofs.Asking.{asked_coming, asked_leaving, asked_telling, nothing_came}

-- ---- lines off a table

-- a line of the dealer, with its end, is so long at most
pub line_bound : (old line new : List ℕ) → new ≡ old ++ line_of line → length line ≤ 4096 → length new ≤ length old + 4098
line_bound old line new e most = omega (arith, ap length e ∙ length-append old (line_of line), length-append line (13 ∷ 10 ∷ []), most)

pub line_grows : (old line new : List ℕ) → new ≡ old ++ line_of line → length old < length new
line_grows old line new e = omega (arith, ap length e ∙ length-append old (line_of line), length-append line (13 ∷ 10 ∷ []))

text_both : (xs ys : List (List ℕ)) → text_of (xs ++ ys) ≡ text_of xs ++ text_of ys
text_both [] ys = refl
text_both (x ∷ xs) ys = ap (λ (t : List ℕ). line_of x ++ t) (text_both xs ys) ∙ sym (append_assoc (line_of x) (text_of xs) (text_of ys))

texts_and : (told : List Passage) (seat : ℕ) (line : List ℕ) → texts_in (told ++ Wrote (SeatOf seat) line ∷ []) ≡ texts_in told ++ line ∷ []
texts_and [] seat line = refl
texts_and (Wrote at bytes ∷ told) seat line = ap (λ (ls : List (List ℕ)). bytes ∷ ls) (texts_and told seat line)
texts_and (Began at ∷ told) seat line = texts_and told seat line
texts_and (Came at bytes ∷ told) seat line = texts_and told seat line
texts_and (Gave place number ∷ told) seat line = texts_and told seat line
texts_and (Logged text ∷ told) seat line = texts_and told seat line
texts_and (Tried at way ∷ told) seat line = texts_and told seat line
texts_and (Ended at way ∷ told) seat line = texts_and told seat line
texts_and (Closed at ∷ told) seat line = texts_and told seat line
texts_and (Saw moment ∷ told) seat line = texts_and told seat line
texts_and (Waited most ∷ told) seat line = texts_and told seat line
texts_and (Called ∷ told) seat line = texts_and told seat line

pub tells_both : (such : Match → Type 0) (seat : ℕ) (at mid next : Cursor) (xs ys : List (List ℕ)) → TellsFrom such seat at xs mid → TellsFrom such seat mid ys next → TellsFrom such seat at (xs ++ ys) next
tells_both such seat at mid next [] ys one two = subst (λ (c : Cursor). TellsFrom such seat c ys next) one two
tells_both such seat at mid next (x ∷ xs) ys one two =
    (one.0, (one.1.0, (one.1.1.0, tells_both such seat (next_cursor one.0.game one.0.hands at) mid next xs ys one.1.1.1 two)))

pub tells_nothing : (table : Match) (seat : ℕ) (old new : Telling) (waits_old waits_new : List ℕ) → new ≡ old → waits_new ≡ waits_old → TellsOn table seat old new waits_old waits_new
tells_nothing table seat old new waits_old waits_new e f = record {
  lines = [];
  start = ap (λ (t : Telling). t.start) e;
  told = ap lines_of e ∙ sym (append-nil (lines_of old));
  tells = ap (λ (t : Telling). t.next) e;
  waits = f ∙ sym (append-nil waits_old);
}

tells_one : (table : Match) (seat : ℕ) (old new : Telling) (waits_old waits_new : List ℕ) → Told table seat old new waits_old waits_new → TellsOn table seat old new waits_old waits_new
tells_one table seat old new waits_old waits_new (inl none) = tells_nothing table seat old new waits_old waits_new none.0 none.1
tells_one table seat old new waits_old waits_new (inr (line, (found, (is, waits)))) = record {
  lines = line ∷ [];
  start = ap (λ (t : Telling). t.start) is;
  told = ap lines_of is ∙ texts_and old.told.items seat line;
  tells = (table, (refl, (found, ap (λ (t : Telling). t.next) is)));
  waits = waits ∙ ap (λ (t : List ℕ). waits_old ++ t) (sym (append-nil (line_of line)));
}

pub tells_more : (table : Match) (seat : ℕ) (a b c : Telling) (x y z : List ℕ) → TellsOn table seat a b x y → Told table seat b c y z → TellsOn table seat a c x z
tells_more table seat a b c x y z one told =
    let two = tells_one table seat b c y z told in
    record {
      lines = one.lines ++ two.lines;
      start = two.start ∙ one.start;
      told = two.told ∙ (ap (λ (ls : List (List ℕ)). ls ++ two.lines) one.told ∙ append_assoc (lines_of a) one.lines two.lines);
      tells = tells_both (λ other. other ≡ table) seat a.next b.next c.next one.lines two.lines one.tells two.tells;
      waits = two.waits ∙ (ap (λ (t : List ℕ). t ++ text_of two.lines) one.waits ∙ (append_assoc x (text_of one.lines) (text_of two.lines) ∙ ap (λ (t : List ℕ). x ++ t) (sym (text_both one.lines two.lines))));
    }

-- ---- one bot

pub says_nothing : (old new : Bot) (waits_old waits_new : List ℕ) → new ≡ old → waits_new ≡ waits_old → SaysMore old new waits_old waits_new
says_nothing old new waits_old waits_new e f = record {
  more = [];
  none = λ gone_is. refl;
  text = ap text_for e ∙ sym (append-nil (text_for old));
  waits = f ∙ sym (append-nil waits_old);
  sits = ap (λ (b : Bot). b.sits) e;
  words = ap (λ (b : Bot). b.words) e;
}

-- it is told lines from here on
pub says_begun : (old new : Bot) (at : Cursor) (waits_old waits_new : List ℕ) → old.telling ≡ None → new ≡ record old { telling = Some (telling_from at) } → waits_new ≡ waits_old → SaysMore old new waits_old waits_new
says_begun old new at waits_old waits_new none e f = record {
  more = [];
  none = λ gone_is. refl;
  text = ap text_for e ∙ (ap (λ (t : Option Telling). text_told t ++ parting_text old.parting) (sym none) ∙ sym (append-nil (text_for old)));
  waits = f ∙ sym (append-nil waits_old);
  sits = ap (λ (b : Bot). b.sits) e;
  words = ap (λ (b : Bot). b.words) e;
}

-- it is told lines
pub says_told : (table : Match) (seat : ℕ) (old new : Bot) (before after : Telling) (waits_old waits_new : List ℕ) → old.sits ≡ true → old.telling ≡ Some before → old.parting ≡ None → new ≡ record old { telling = Some after }
    → TellsOn table seat before after waits_old waits_new → SaysMore old new waits_old waits_new
says_told table seat old new before after waits_old waits_new sits is none e tells = record {
  more = text_of tells.lines;
  none = λ gone_is. absurd (cc (gone_is, sits));
  text =
      ap text_for e
      ∙ (ap (λ (p : Option Parting). text_of (lines_of after) ++ parting_text p) none
      ∙ (append-nil (text_of (lines_of after))
      ∙ (ap text_of tells.told
      ∙ (text_both (lines_of before) tells.lines
      ∙ ap (λ (t : List ℕ). t ++ text_of tells.lines)
      (sym (append-nil (text_of (lines_of before))) ∙ (ap (λ (p : Option Parting). text_of (lines_of before) ++ parting_text p) (sym none) ∙ ap (λ (t : Option Telling). text_told t ++ parting_text old.parting) (sym is)))))));
  waits = tells.waits;
  sits = ap (λ (b : Bot). b.sits) e;
  words = ap (λ (b : Bot). b.words) e;
}

pub says_parted : (parting : Parting) (old new : Bot) (waits_old waits_new : List ℕ) → old.sits ≡ true → old.parting ≡ None → new ≡ record old { parting = Some parting } → waits_new ≡ waits_old ++ line_of (parting_line parting)
    → SaysMore old new waits_old waits_new
says_parted parting old new waits_old waits_new sits none e waits = record {
  more = line_of (parting_line parting);
  none = λ gone_is. absurd (cc (gone_is, sits));
  text = ap text_for e ∙ ap (λ (t : List ℕ). t ++ line_of (parting_line parting)) (sym (append-nil (text_told old.telling)) ∙ ap (λ (p : Option Parting). text_told old.telling ++ parting_text p) (sym none));
  waits = waits;
  sits = ap (λ (b : Bot). b.sits) e;
  words = ap (λ (b : Bot). b.words) e;
}

more_none : (table : Match) (seat : ℕ) (telling : Option Telling) → TellsMore table seat telling telling
more_none table seat None = refl
more_none table seat (Some telling) = (telling, (refl, (refl, ([], (sym (append-nil (lines_of telling)), refl)))))

pub bot_same : (table : Match) (seat : ℕ) (old new : Bot) → new ≡ old → TellsBot table seat old new
bot_same table seat old new e = record {
  sits = ap (λ (b : Bot). b.sits) e;
  words = ap (λ (b : Bot). b.words) e;
  parting = ap (λ (b : Bot). b.parting) e;
  told = subst (λ (b : Bot). TellsMore table seat old.telling b.telling) (sym e) (more_none table seat old.telling);
  parted = λ parting is. e;
}

pub bot_told : (table : Match) (seat : ℕ) (old new : Bot) (before after : Telling) (waits_old waits_new : List ℕ) → old.telling ≡ Some before → old.parting ≡ None → new ≡ record old { telling = Some after }
    → TellsOn table seat before after waits_old waits_new → TellsBot table seat old new
bot_told table seat old new before after waits_old waits_new is none e tells = record {
  sits = ap (λ (b : Bot). b.sits) e;
  words = ap (λ (b : Bot). b.words) e;
  parting = ap (λ (b : Bot). b.parting) e;
  told = subst (λ (t : Option Telling). TellsMore table seat t new.telling) (sym is)
      (after, (ap (λ (b : Bot). b.telling) e, (tells.start, (tells.lines, (tells.told, tells.tells)))));
  parted = λ parting has. absurd (cc (has, none));
}

-- ---- at one seat

said_as : (sits now : Bool) (wrote written waits waiting : List ℕ) (text all : List ℕ) → now ≡ sits → written ≡ wrote → waiting ≡ waits → all ≡ text → IsSaid sits wrote waits text → IsSaid now written waiting all
said_as sits now wrote written waits waiting text all e f g h is =
    subst (λ (b : Bool). IsSaid b written waiting all) (sym e)
    (subst (λ (w : List ℕ). IsSaid sits w waiting all) (sym f) (subst (λ (w : List ℕ). IsSaid sits wrote w all) (sym g) (subst (λ (t : List ℕ). IsSaid sits wrote waits t) (sym h) is)))

-- whoever sat there is let go of, and so much is lost
said_lost : (sits : Bool) (wrote waits written waiting lost : List ℕ) (text : List ℕ) → wrote ++ waits ≡ (written ++ waiting) ++ lost → IsSaid sits wrote waits text → IsSaid false written waiting text
said_lost sits wrote waits written waiting lost text e is =
    (lost ++ is.0, (is.1.0 ∙ (ap (λ (t : List ℕ). t ++ is.0) e ∙ append_assoc (written ++ waiting) lost is.0), λ never. absurd cc))

said_gone : (sits : Bool) (wrote waits : List ℕ) (text : List ℕ) → IsSaid sits wrote waits text → IsSaid false wrote [] text
said_gone sits wrote waits text is = said_lost sits wrote waits wrote [] waits text (ap (λ (t : List ℕ). t ++ waits) (sym (append-nil wrote))) is

said_moved : (sits : Bool) (wrote waits written waiting : List ℕ) (text : List ℕ) → written ++ waiting ≡ wrote ++ waits → IsSaid sits wrote waits text → IsSaid sits written waiting text
said_moved sits wrote waits written waiting text e is = (is.0, (is.1.0 ∙ ap (λ (t : List ℕ). t ++ is.0) (sym e), is.1.1))

-- ---- what something that comes writes

abbrev WroteBy : Option SeatNotice → ℕ → List ℕ → List ℕ → Type 0
WroteBy None seat old new = new ≡ old
WroteBy (Some (notices.Came number)) seat old new = (seat ≡ number → new ≡ []) × ((seat ≢ number) → new ≡ old)
WroteBy (Some (notices.Piece number bytes)) seat old new = new ≡ old
WroteBy (Some (notices.Gone number)) seat old new = new ≡ old
WroteBy (Some (notices.Refused number source)) seat old new = new ≡ old
WroteBy (Some (notices.Unread number)) seat old new = new ≡ old

nobody_writes : (notice : Option SeatNotice) (seat : ℕ) (old new : List ℕ) → HearsNothing notice → new ≡ old → WroteBy notice seat old new
nobody_writes None seat old new hears e = e
nobody_writes (Some (notices.Came number)) seat old new hears e = absurd hears
nobody_writes (Some (notices.Piece number bytes)) seat old new hears e = absurd hears
nobody_writes (Some (notices.Gone number)) seat old new hears e = e
nobody_writes (Some (notices.Refused number source)) seat old new hears e = absurd hears
nobody_writes (Some (notices.Unread number)) seat old new hears e = absurd hears

by_guests : (seat : ℕ) (before : List ℕ) (ps : List Passage) → AreOfGuests ps → wrote_behind (SeatOf seat) before ps ≡ before
by_guests seat before [] are = refl
by_guests seat before (Began (Guest place) ∷ ps) are = by_guests seat before ps are.1
by_guests seat before (Came line bytes ∷ ps) are = by_guests seat before ps are.1
by_guests seat before (Began (Peer n) ∷ ps) are = absurd are.0
by_guests seat before (Began (Caller n) ∷ ps) are = absurd are.0
by_guests seat before (Began (SeatOf n) ∷ ps) are = absurd are.0
by_guests seat before (Began (Asker n) ∷ ps) are = absurd are.0
by_guests seat before (Wrote line bytes ∷ ps) are = absurd are.0
by_guests seat before (Gave place number ∷ ps) are = absurd are.0
by_guests seat before (Logged text ∷ ps) are = absurd are.0
by_guests seat before (Tried line way ∷ ps) are = by_guests seat before ps are.1
by_guests seat before (Ended line way ∷ ps) are = by_guests seat before ps are.1
by_guests seat before (Closed line ∷ ps) are = by_guests seat before ps are.1
by_guests seat before (Saw moment ∷ ps) are = absurd are.0
by_guests seat before (Waited most ∷ ps) are = absurd are.0
by_guests seat before (Called ∷ ps) are = absurd are.0

anew : (number seat : ℕ) (before new : List ℕ) → new ≡ (if number == seat then [] else before) → (seat ≡ number → new ≡ []) × ((seat ≢ number) → new ≡ before)
anew number seat before new e = (λ same. e ∙ cond-true (number == seat) [] before (eq-eqb number seat (sym same)), λ differs. e ∙ cond-false (number == seat) [] before (ne_eqb number seat (λ same. differs (sym same))))

by_passed : (notice : Option SeatNotice) (seat : ℕ) (before : List ℕ) → WroteBy notice seat before (wrote_behind (SeatOf seat) before (passed_by notice))
by_passed None seat before = refl
by_passed (Some (notices.Came number)) seat before = anew number seat before (wrote_behind (SeatOf seat) before (Began (SeatOf number) ∷ [])) refl
by_passed (Some (notices.Piece number bytes)) seat before = refl
by_passed (Some (notices.Gone number)) seat before = refl
by_passed (Some (notices.Refused number source)) seat before = refl
by_passed (Some (notices.Unread number)) seat before = refl

by_more : (tokens : Option (List TokenDigest)) (notice : Option SeatNotice) (old more : List Passage) (seat : ℕ) (before : List ℕ) → IsGuested tokens notice old more
    → WroteBy notice seat before (wrote_behind (SeatOf seat) before (more ++ behind_by tokens notice))
by_more None notice old more seat before is = subst (λ (ps : List Passage). WroteBy notice seat before (wrote_behind (SeatOf seat) before (ps ++ passed_by notice))) (sym is) (by_passed notice seat before)
by_more (Some tokens) None old more seat before is = ap (λ (ps : List Passage). wrote_behind (SeatOf seat) before ps) (append-nil more) ∙ by_guests seat before more is
by_more (Some tokens) (Some (notices.Came number)) old more seat before is =
    anew number seat before (wrote_behind (SeatOf seat) before (more ++ []))
    (ap (λ (ps : List Passage). wrote_behind (SeatOf seat) before ps) (append-nil more ∙ is.given)
    ∙ (wrote_both (SeatOf seat) before is.front (Gave is.place number ∷ []) ∙ ap (λ (b : List ℕ). wrote_behind (SeatOf seat) b (Gave is.place number ∷ [])) (by_guests seat before is.front is.of_guests)))
by_more (Some tokens) (Some (notices.Piece number bytes)) old more seat before is = wrote_both (SeatOf seat) before more (Came (SeatOf number) bytes.items ∷ []) ∙ by_guests seat before more is
by_more (Some tokens) (Some (notices.Gone number)) old more seat before is = ap (λ (ps : List Passage). wrote_behind (SeatOf seat) before ps) (append-nil more) ∙ by_guests seat before more is
by_more (Some tokens) (Some (notices.Refused number source)) old more seat before is = ap (λ (ps : List Passage). wrote_behind (SeatOf seat) before ps) (append-nil more) ∙ by_guests seat before more is
by_more (Some tokens) (Some (notices.Unread number)) old more seat before is = ap (λ (ps : List Passage). wrote_behind (SeatOf seat) before ps) (append-nil more) ∙ by_guests seat before more is

-- ---- at all seats

abbrev SaidAt : ℕ → List Passage → List Seat → Type 0
SaidAt seat passed seats = IsSaid (sits_at seats seat) (wrote_over passed (SeatOf seat)) (waits_at seats seat) (text_for (bot_at seats seat))

stays_at : (seat : ℕ) (passed_old passed_new : List Passage) (old new : List Seat) → bot_at new seat ≡ bot_at old seat → wrote_over passed_new (SeatOf seat) ≡ wrote_over passed_old (SeatOf seat) → waits_at new seat ≡ waits_at old seat
    → SaidAt seat passed_old old → SaidAt seat passed_new new
stays_at seat passed_old passed_new old new bot wrote waits is =
    said_as (sits_at old seat) (sits_at new seat) (wrote_over passed_old (SeatOf seat)) (wrote_over passed_new (SeatOf seat)) (waits_at old seat) (waits_at new seat) (text_for (bot_at old seat)) (text_for (bot_at new seat))
    (ap (λ (b : Bot). b.sits) bot) wrote waits (ap text_for bot) is

-- of a bot something was read
heard_at : (seat : ℕ) (bytes : List ℕ) (passed_old passed_new : List Passage) (old new : List Seat) → bot_at new seat ≡ heard bytes (bot_at old seat) → wrote_over passed_new (SeatOf seat) ≡ wrote_over passed_old (SeatOf seat)
    → waits_at new seat ≡ waits_at old seat → SaidAt seat passed_old old → SaidAt seat passed_new new
heard_at seat bytes passed_old passed_new old new bot wrote waits is =
    said_as (sits_at old seat) (sits_at new seat) (wrote_over passed_old (SeatOf seat)) (wrote_over passed_new (SeatOf seat)) (waits_at old seat) (waits_at new seat) (text_for (bot_at old seat)) (text_for (bot_at new seat))
    (ap (λ (b : Bot). b.sits) bot) wrote waits (ap text_for bot) is

anew_at : (seat : ℕ) (passed : List Passage) (seats : List Seat) → text_for (bot_at seats seat) ≡ [] → wrote_over passed (SeatOf seat) ≡ [] → waits_at seats seat ≡ [] → SaidAt seat passed seats
anew_at seat passed seats text wrote waits =
    said_as (sits_at seats seat) (sits_at seats seat) [] (wrote_over passed (SeatOf seat)) [] (waits_at seats seat) [] (text_for (bot_at seats seat)) refl wrote waits text ([], (refl, λ e. refl))

gone_at : (seat : ℕ) (passed_old passed_new : List Passage) (old new : List Seat) → bot_at new seat ≡ gone (bot_at old seat) → wrote_over passed_new (SeatOf seat) ≡ wrote_over passed_old (SeatOf seat) → waits_at new seat ≡ []
    → SaidAt seat passed_old old → SaidAt seat passed_new new
gone_at seat passed_old passed_new old new bot wrote waits is =
    said_as false (sits_at new seat) (wrote_over passed_old (SeatOf seat)) (wrote_over passed_new (SeatOf seat)) [] (waits_at new seat) (text_for (bot_at old seat)) (text_for (bot_at new seat))
    (ap (λ (b : Bot). b.sits) bot) wrote waits (ap text_for bot)
    (said_gone (sits_at old seat) (wrote_over passed_old (SeatOf seat)) (waits_at old seat) (text_for (bot_at old seat)) is)

comes_at : (notice : Option SeatNotice) (seat : ℕ) (passed_old passed_new : List Passage) (old new : List Seat) → WroteBy notice seat (wrote_over passed_old (SeatOf seat)) (wrote_over passed_new (SeatOf seat))
    → Follows notice old new → Changes notice old new → SaidAt seat passed_old old → SaidAt seat passed_new new
comes_at None seat passed_old passed_new old new wrote waits sits is = stays_at seat passed_old passed_new old new (sits seat) wrote (waits seat) is
comes_at (Some (notices.Piece number bytes)) seat passed_old passed_new old new wrote waits sits is = elim (eqb_tells seat number) as (λ _. SaidAt seat passed_new new) [
  | inl here ↦ heard_at seat bytes.items passed_old passed_new old new (subst (λ (n : ℕ). bot_at new n ≡ heard bytes.items (bot_at old n)) (sym here.1) sits.0) wrote (waits seat) is
  | inr there ↦ stays_at seat passed_old passed_new old new (sits.1 seat there.1) wrote (waits seat) is
]
comes_at (Some (notices.Refused number source)) seat passed_old passed_new old new wrote waits sits is = stays_at seat passed_old passed_new old new (sits seat) wrote (waits seat) is
comes_at (Some (notices.Unread number)) seat passed_old passed_new old new wrote waits sits is = stays_at seat passed_old passed_new old new (sits seat) wrote (waits seat) is
comes_at (Some (notices.Came number)) seat passed_old passed_new old new wrote waits sits is = elim (eqb_tells seat number) as (λ _. SaidAt seat passed_new new) [
  | inl here ↦ anew_at seat passed_new new (ap text_for (ap (λ (n : ℕ). bot_at new n) here.1 ∙ sits.1.0)) (wrote.0 here.1) (ap (λ (n : ℕ). waits_at new n) here.1 ∙ waits.0)
  | inr there ↦ stays_at seat passed_old passed_new old new (sits.1.1 seat there.1) (wrote.1 there.1) (waits.1 seat there.1) is
]
comes_at (Some (notices.Gone number)) seat passed_old passed_new old new wrote waits sits is = elim (eqb_tells seat number) as (λ _. SaidAt seat passed_new new) [
  | inl here ↦ gone_at seat passed_old passed_new old new (subst (λ (n : ℕ). bot_at new n ≡ gone (bot_at old n)) (sym here.1) sits.0) wrote (ap (λ (n : ℕ). waits_at new n) here.1 ∙ waits.0) is
  | inr there ↦ stays_at seat passed_old passed_new old new (sits.1 seat there.1) wrote (waits.1 seat there.1) is
]

-- ---- calls

pub said_coming : (notice : Option SeatNotice) (old new : Seats) (wired_old wired_new : List Passage) → Comes notice old new wired_old wired_new → AreSaid wired_old old.seats.items → AreSaid wired_new new.seats.items
said_coming notice old new wired_old wired_new comes are seat =
    let wrote : wrote_over wired_new (SeatOf seat) ≡ wrote_behind (SeatOf seat) (wrote_over wired_old (SeatOf seat)) (comes.passes.more ++ behind_by (tokens_of old) notice) =
    wrote_coming notice old new wired_old wired_new (SeatOf seat) comes in (
      comes_at notice seat wired_old wired_new old.seats.items new.seats.items
          (subst (λ (w : List ℕ). WroteBy notice seat (wrote_over wired_old (SeatOf seat)) w) (sym wrote)
          (by_more (tokens_of old) notice (passed_of old) comes.passes.more seat (wrote_over wired_old (SeatOf seat)) comes.passes.guested))
          comes.waits comes.sits (are seat).0,
      asked_coming notice old new wired_old wired_new comes seat (are seat).1,
    )

pub said_leaving : (notice : Option SeatNotice) (wired_old wired_new : List Passage) (old new : List Seat) → HearsNothing notice → Rests wired_old wired_new → Follows notice old new → Changes notice old new → AreSaid wired_old old
    → AreSaid wired_new new
said_leaving notice wired_old wired_new old new hears rests waits sits are seat = (
  comes_at notice seat wired_old wired_new old new (nobody_writes notice seat (wrote_over wired_old (SeatOf seat)) (wrote_over wired_new (SeatOf seat)) hears (rests.wrote (SeatOf seat))) waits sits (are seat).0,
  asked_leaving notice seat wired_old wired_new old new hears (rests.came (SeatOf seat)) sits (are seat).1,
)

moved_at : (seat : ℕ) (passed_old passed_new : List Passage) (old new : List Seat) (bot : Bot) → bot_at new seat ≡ bot → bot.sits ≡ sits_at old seat → text_for bot ≡ text_for (bot_at old seat)
    → wrote_over passed_new (SeatOf seat) ++ waits_at new seat ≡ wrote_over passed_old (SeatOf seat) ++ waits_at old seat → SaidAt seat passed_old old → SaidAt seat passed_new new
moved_at seat passed_old passed_new old new bot e sits text said is =
    said_as (sits_at old seat) (sits_at new seat) (wrote_over passed_new (SeatOf seat)) (wrote_over passed_new (SeatOf seat)) (waits_at new seat) (waits_at new seat) (text_for (bot_at old seat)) (text_for (bot_at new seat))
    (ap (λ (b : Bot). b.sits) e ∙ sits) refl refl (ap text_for e ∙ text)
    (said_moved (sits_at old seat) (wrote_over passed_old (SeatOf seat)) (waits_at old seat) (wrote_over passed_new (SeatOf seat)) (waits_at new seat) (text_for (bot_at old seat)) said is)

lost_at : (seat : ℕ) (passed_old passed_new : List Passage) (old new : List Seat) (lost : List ℕ) → bot_at new seat ≡ gone (bot_at old seat)
    → wrote_over passed_old (SeatOf seat) ++ waits_at old seat ≡ (wrote_over passed_new (SeatOf seat) ++ waits_at new seat) ++ lost → SaidAt seat passed_old old → SaidAt seat passed_new new
lost_at seat passed_old passed_new old new lost e loses is =
    said_as false (sits_at new seat) (wrote_over passed_new (SeatOf seat)) (wrote_over passed_new (SeatOf seat)) (waits_at new seat) (waits_at new seat) (text_for (bot_at old seat)) (text_for (bot_at new seat))
    (ap (λ (b : Bot). b.sits) e) refl refl (ap text_for e)
    (said_lost (sits_at old seat) (wrote_over passed_old (SeatOf seat)) (waits_at old seat) (wrote_over passed_new (SeatOf seat)) (waits_at new seat) lost (text_for (bot_at old seat)) loses is)

flushed_at : (notice : Option SeatNotice) (seat : ℕ) (passed_old passed_new : List Passage) (old new : List Seat) → HearsNothing notice → Flushes notice old new passed_old passed_new → Changes notice old new
    → Loses notice old new passed_old passed_new → SaidAt seat passed_old old → SaidAt seat passed_new new
flushed_at None seat passed_old passed_new old new hears said sits loses is = moved_at seat passed_old passed_new old new (bot_at old seat) (sits seat) refl refl (said seat (λ never. never)) is
flushed_at (Some (notices.Piece number bytes)) seat passed_old passed_new old new hears said sits loses is = absurd hears
flushed_at (Some (notices.Refused number source)) seat passed_old passed_new old new hears said sits loses is = absurd hears
flushed_at (Some (notices.Unread number)) seat passed_old passed_new old new hears said sits loses is = absurd hears
flushed_at (Some (notices.Came number)) seat passed_old passed_new old new hears said sits loses is = absurd hears
flushed_at (Some (notices.Gone number)) seat passed_old passed_new old new hears said sits loses is = elim (eqb_tells seat number) as (λ _. SaidAt seat passed_new new) [
  | inl here ↦
      let lost = loses seat here.1 in
      lost_at seat passed_old passed_new old new lost.0 (subst (λ (n : ℕ). bot_at new n ≡ gone (bot_at old n)) (sym here.1) sits.0) lost.1 is
  | inr there ↦ moved_at seat passed_old passed_new old new (bot_at old seat) (sits.1 seat there.1) refl refl (said seat there.1) is
]

pub said_flushed : (notice : Option SeatNotice) (wired_old wired_new : List Passage) (old new : List Seat) → HearsNothing notice → Flushes notice old new wired_old wired_new → Changes notice old new
    → Loses notice old new wired_old wired_new → WritesToSeats wired_old wired_new → AreSaid wired_old old → AreSaid wired_new new
said_flushed notice wired_old wired_new old new hears said sits loses writes are seat = (
  flushed_at notice seat wired_old wired_new old new hears said sits loses (are seat).0,
  asked_leaving notice seat wired_old wired_new old new hears (nothing_came wired_old wired_new (SeatOf seat) writes) sits (are seat).1,
)

-- more is told of one seat
said_more : (sits : Bool) (wrote waits more : List ℕ) (text : List ℕ) → IsSaid sits wrote waits text → (sits ≡ false → more ≡ []) → IsSaid sits wrote (waits ++ more) (text ++ more)
said_more true wrote waits more text is none =
    ([], (ap (λ (t : List ℕ). t ++ more) (is.1.0 ∙ (ap (λ (l : List ℕ). (wrote ++ waits) ++ l) (is.1.1 refl) ∙ append-nil (wrote ++ waits))) ∙ (append_assoc wrote waits more ∙ sym (append-nil (wrote ++ (waits ++ more)))), λ e. refl))
said_more false wrote waits more text is none =
    let nothing : more ≡ [] = none refl in
    said_as false false wrote wrote waits (waits ++ more) text (text ++ more) refl refl (ap (λ (m : List ℕ). waits ++ m) nothing ∙ append-nil waits) (ap (λ (m : List ℕ). text ++ m) nothing ∙ append-nil text) is

said_telling_at : (number : ℕ) (old new : List Seat) → SaysAt number old new → (passed : List Passage) (seat : ℕ) → SaidAt seat passed old → SaidAt seat passed new
said_telling_at number old new says passed seat is =
    elim (eqb_tells seat number) as (λ _. SaidAt seat passed new) [
      | inl here ↦
          subst (λ (n : ℕ). SaidAt n passed new) (sym here.1)
          (said_as (sits_at old number) (sits_at new number) (wrote_over passed (SeatOf number)) (wrote_over passed (SeatOf number)) (waits_at old number ++ says.here.more) (waits_at new number) (text_for (bot_at old number) ++ says.here.more)
          (text_for (bot_at new number)) says.here.sits refl says.here.waits says.here.text
          (said_more (sits_at old number) (wrote_over passed (SeatOf number)) (waits_at old number) says.here.more (text_for (bot_at old number)) (subst (λ (n : ℕ). SaidAt n passed old) here.1 is) says.here.none))
      | inr there ↦ stays_at seat passed passed old new (says.bots seat there.1) refl (says.others seat there.1) is
    ]

pub said_telling : (number : ℕ) (old new : List Seat) → SaysAt number old new → (passed : List Passage) → AreSaid passed old → AreSaid passed new
said_telling number old new says passed are seat = (said_telling_at number old new says passed seat (are seat).0, asked_telling number old new says passed seat (are seat).1)

-- nothing is told yet
pub said_first : (seats : List Seat) → ((seat : ℕ) → waits_at seats seat ≡ []) → ((seat : ℕ) → bot_at seats seat ≡ no_bot) → AreSaid [] seats
said_first seats none nobody seat = (anew_at seat [] seats (ap text_for (nobody seat)) refl (none seat), ap (λ (b : Bot). b.words) (nobody seat))

-- whoever sits there is let go of behind what was written
pub loses_it : (number : ℕ) (seats : List Seat) (old new : Seat) (waiting : List ℕ) (passed_old passed passed_new : List Passage) → number < length seats → old ≡ get_or seats number old
    → Writes number old.waiting.waiting waiting passed_old passed → wrote_over passed_new (SeatOf number) ≡ wrote_over passed (SeatOf number) → new.waiting.waiting ≡ [] → Loses (Some (notices.Gone number)) seats (set seats number new) passed_old passed_new
loses_it number seats old new waiting passed_old passed passed_new within found writes same none seat is =
    let at : waits_at seats number ≡ old.waiting.waiting = ap (λ (s : Seat). s.waiting.waiting) (sym (found ∙ get_or_default seats number old nobody within)) in
    let wrote_old = wrote_over passed_old (SeatOf number) in
    let wrote = wrote_over passed (SeatOf number) in
    let e : wrote_old ++ waits_at seats number ≡ (wrote_over passed_new (SeatOf number) ++ waits_at (set seats number new) number) ++ waiting =
    ap (λ (w : List ℕ). wrote_old ++ w) at
    ∙ (sym writes.said
    ∙ (ap (λ (w : List ℕ). w ++ waiting) (sym (append-nil wrote))
    ∙ (ap (λ (w : List ℕ). (wrote ++ w) ++ waiting) (sym (waits_here seats number new within ∙ none))
    ∙ ap (λ (w : List ℕ). (w ++ waits_at (set seats number new) number) ++ waiting) (sym same)))) in
    (waiting, subst (λ (n : ℕ). wrote_over passed_old (SeatOf n) ++ waits_at seats n ≡ (wrote_over passed_new (SeatOf n) ++ waits_at (set seats number new) n) ++ waiting) (sym is) e)

-- ---- all seats

pub says_there : (seats : List Seat) (number : ℕ) (old new : Seat) → number < length seats → old ≡ get_or seats number old → SaysMore old.bot new.bot old.waiting.waiting new.waiting.waiting → SaysAt number seats (set seats number new)
says_there seats number old new within found says =
    let at : old ≡ get_or seats number nobody = found ∙ get_or_default seats number old nobody within in
    let now : get_or (set seats number new) number nobody ≡ new = get_or-set_same seats number new nobody within in
    record {
      here = subst (λ (s : Seat). SaysMore (get_or seats number nobody).bot s.bot (get_or seats number nobody).waiting.waiting s.waiting.waiting) (sym now)
          (subst (λ (s : Seat). SaysMore s.bot new.bot s.waiting.waiting new.waiting.waiting) at says);
      bots = λ seat differs. ap (λ (s : Seat). s.bot) (get_or-set_other seats number seat new nobody differs);
      others = λ seat differs. ap (λ (s : Seat). s.waiting.waiting) (get_or-set_other seats number seat new nobody differs);
    }

pub says_nowhere : (number : ℕ) (old new : List Seat) → new ≡ old → SaysAt number old new
says_nowhere number old new e = record {
  here = says_nothing (bot_at old number) (bot_at new number) (waits_at old number) (waits_at new number) (ap (λ (s : List Seat). bot_at s number) e) (ap (λ (s : List Seat). waits_at s number) e);
  bots = λ seat differs. ap (λ (s : List Seat). bot_at s seat) e;
  others = λ seat differs. ap (λ (s : List Seat). waits_at s seat) e;
}

pub said_there : (seats : List Seat) (number : ℕ) (old new : Seat) → number < length seats → old ≡ get_or seats number old → SaysMore old.bot new.bot old.waiting.waiting new.waiting.waiting → (passed : List Passage) → AreSaid passed seats
    → AreSaid passed (set seats number new)
said_there seats number old new within found says = said_telling number seats (set seats number new) (says_there seats number old new within found says)

pub said_still : (seats : List Seat) (number : ℕ) (old : Seat) → number < length seats → old ≡ get_or seats number old → (passed : List Passage) → AreSaid passed seats → AreSaid passed (set seats number old)
said_still seats number old within found = said_there seats number old old within found (says_nothing old.bot old.bot old.waiting.waiting old.waiting.waiting refl refl)
