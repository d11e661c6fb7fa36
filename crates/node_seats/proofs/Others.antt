-- What passes over lines of bots and of guests leaves those of others.
use Rattle.std.proofs.Common.{◌≡◌, ℕ, Bool, true, false, if◌then◌else◌, List, [], ◌∷◌, ◌++◌, refl, ap, ◌∙◌, subst, sym, append_assoc, append-nil, inl, inr}
use Rattle.std.proofs.lemmas.Bool.{cond-false}
use Rattle.std.specs.Prelude.{Option, Some, None}
use Rattle.node_wires.specs.declared.line.Line.{Line}
use Rattle.node_wires.specs.declared.line.Line.TheVariants.{Peer, Caller, Seat, Guest, Asker}
use Rattle.node_wires.specs.declared.way.Way.TheVariants.{Reading}
use Rattle.node_wires.specs.Passages.{Passage, Began, Came, Wrote, Gave, Logged, Tried, Ended, Closed, Saw, Waited, Called, is_line, is_given, came_by, came_behind, came_over, wrote_by, wrote_behind, wrote_over, seats_in, logged_in}
use Rattle.node_seats.specs.declared.seats.Seats.{Seats}
use Rattle.node_seats.specs.declared.seat_notice.SeatNotice.{SeatNotice}
use Rattle.node_seats.specs.declared.seat_notice.SeatNotice.TheVariants as notices
use Rattle.node_seats.specs.declared.token_digest.TokenDigest.{TokenDigest}
use Rattle.node_seats.specs.Others.{is_bots, IsOfBots, AreOfBots, KeepsOthers, TellsNoGuest}
use Rattle.node_seats.specs.Passing.{AreOfGuests, passed_by, IsPassedBy}
use Rattle.node_seats.specs.Guesting.{IsGuested, IsBehind, behind_by}
use Rattle.node_seats.specs.Coming.{Comes, tokens_of, passed_of}

-- ---- one passage

differ : (at line : Line) → is_bots at ≡ true → is_bots line ≡ false → is_line at line ≡ false
differ (Seat n) (Peer m) is off = refl
differ (Seat n) (Caller m) is off = refl
differ (Seat n) (Asker m) is off = refl
differ (Seat n) (Seat m) is off = absurd cc
differ (Seat n) (Guest m) is off = absurd cc
differ (Guest n) (Peer m) is off = refl
differ (Guest n) (Caller m) is off = refl
differ (Guest n) (Asker m) is off = refl
differ (Guest n) (Seat m) is off = absurd cc
differ (Guest n) (Guest m) is off = absurd cc
differ (Peer n) line is off = absurd cc
differ (Caller n) line is off = absurd cc
differ (Asker n) line is off = absurd cc

not_given : (place seat : ℕ) (line : Line) → is_bots line ≡ false → is_given place seat line ≡ false
not_given place seat (Peer n) off = refl
not_given place seat (Caller n) off = refl
not_given place seat (Asker n) off = refl
not_given place seat (Seat n) off = absurd cc
not_given place seat (Guest n) off = absurd cc

wrote_left : (line : Line) (before : List ℕ) (p : Passage) → is_bots line ≡ false → IsOfBots p → wrote_by line before p ≡ before
wrote_left line before (Began at) off is = cond-false (is_line at line) [] before (differ at line is off)
wrote_left line before (Came at bytes) off is = refl
wrote_left line before (Wrote at bytes) off is = cond-false (is_line at line) (before ++ bytes) before (differ at line is off)
wrote_left line before (Gave place seat) off is = cond-false (is_given place seat line) [] before (not_given place seat line off)
wrote_left line before (Logged text) off is = absurd is
wrote_left line before (Tried at way) off is = refl
wrote_left line before (Ended at way) off is = refl
wrote_left line before (Closed at) off is = refl
wrote_left line before (Saw moment) off is = absurd is
wrote_left line before (Waited most) off is = absurd is
wrote_left line before Called off is = absurd is

came_left : (line : Line) (before : List ℕ) (p : Passage) → is_bots line ≡ false → IsOfBots p → came_by line before p ≡ before
came_left line before (Began at) off is = cond-false (is_line at line) [] before (differ at line is off)
came_left line before (Came at bytes) off is = cond-false (is_line at line) (before ++ bytes) before (differ at line is off)
came_left line before (Wrote at bytes) off is = refl
came_left line before (Gave place seat) off is = cond-false (is_given place seat line) [] before (not_given place seat line off)
came_left line before (Logged text) off is = absurd is
came_left line before (Tried at way) off is = refl
came_left line before (Ended at way) off is = refl
came_left line before (Closed at) off is = refl
came_left line before (Saw moment) off is = absurd is
came_left line before (Waited most) off is = absurd is
came_left line before Called off is = absurd is

-- ---- several

wrote_all_left : (line : Line) (before : List ℕ) (ps : List Passage) → is_bots line ≡ false → AreOfBots ps → wrote_behind line before ps ≡ before
wrote_all_left line before [] off are = refl
wrote_all_left line before (p ∷ ps) off are = ap (λ (b : List ℕ). wrote_behind line b ps) (wrote_left line before p off are.0) ∙ wrote_all_left line before ps off are.1

came_all_left : (line : Line) (before : List ℕ) (ps : List Passage) → is_bots line ≡ false → AreOfBots ps → came_behind line before ps ≡ before
came_all_left line before [] off are = refl
came_all_left line before (p ∷ ps) off are = ap (λ (b : List ℕ). came_behind line b ps) (came_left line before p off are.0) ∙ came_all_left line before ps off are.1

pub wrote_both : (line : Line) (before : List ℕ) (xs ys : List Passage) → wrote_behind line before (xs ++ ys) ≡ wrote_behind line (wrote_behind line before xs) ys
wrote_both line before [] ys = refl
wrote_both line before (x ∷ xs) ys = wrote_both line (wrote_by line before x) xs ys

pub came_both : (line : Line) (before : List ℕ) (xs ys : List Passage) → came_behind line before (xs ++ ys) ≡ came_behind line (came_behind line before xs) ys
came_both line before [] ys = refl
came_both line before (x ∷ xs) ys = came_both line (came_by line before x) xs ys

pub keeps_by : (old new more : List Passage) → AreOfBots more → new ≡ old ++ more → KeepsOthers old new
keeps_by old new more are e = record {
  more = more;
  passed = e;
  of_bots = are;
  wrote = λ line off. ap (λ (ps : List Passage). wrote_over ps line) e ∙ (wrote_both line [] old more ∙ wrote_all_left line (wrote_over old line) more off are);
  came = λ line off. ap (λ (ps : List Passage). came_over ps line) e ∙ (came_both line [] old more ∙ came_all_left line (came_over old line) more off are);
}

-- ---- calls

pub keeps_same : (old new : List Passage) → new ≡ old → KeepsOthers old new
keeps_same old new e = keeps_by old new [] tt (e ∙ sym (append-nil old))

both_of_bots : (xs ys : List Passage) → AreOfBots xs → AreOfBots ys → AreOfBots (xs ++ ys)
both_of_bots [] ys are others = others
both_of_bots (x ∷ xs) ys are others = (are.0, both_of_bots xs ys are.1 others)

pub keeps_on : (a b c : List Passage) → KeepsOthers a b → KeepsOthers b c → KeepsOthers a c
keeps_on a b c one two =
    keeps_by a c (one.more ++ two.more) (both_of_bots one.more two.more one.of_bots two.of_bots) (two.passed ∙ (ap (λ (ps : List Passage). ps ++ two.more) one.passed ∙ append_assoc a one.more two.more))

pub keeps_written : (seat : ℕ) (bytes : List ℕ) (old new : List Passage) → new ≡ old ++ Wrote (Seat seat) bytes ∷ [] → KeepsOthers old new
keeps_written seat bytes old new e = keeps_by old new (Wrote (Seat seat) bytes ∷ []) (refl, tt) e

bots_of_guests : (ps : List Passage) → AreOfGuests ps → AreOfBots ps
bots_of_guests [] are = tt
bots_of_guests (Began (Guest place) ∷ ps) are = (refl, bots_of_guests ps are.1)
bots_of_guests (Came (Guest place) bytes ∷ ps) are = (refl, bots_of_guests ps are.1)
bots_of_guests (Began (Peer n) ∷ ps) are = absurd are.0
bots_of_guests (Began (Caller n) ∷ ps) are = absurd are.0
bots_of_guests (Began (Seat n) ∷ ps) are = absurd are.0
bots_of_guests (Began (Asker n) ∷ ps) are = absurd are.0
bots_of_guests (Came (Peer n) bytes ∷ ps) are = absurd are.0
bots_of_guests (Came (Caller n) bytes ∷ ps) are = absurd are.0
bots_of_guests (Came (Seat n) bytes ∷ ps) are = absurd are.0
bots_of_guests (Came (Asker n) bytes ∷ ps) are = absurd are.0
bots_of_guests (Wrote line bytes ∷ ps) are = absurd are.0
bots_of_guests (Gave place seat ∷ ps) are = absurd are.0
bots_of_guests (Logged text ∷ ps) are = absurd are.0
bots_of_guests (Tried (Guest place) way ∷ ps) are = (refl, bots_of_guests ps are.1)
bots_of_guests (Tried (Peer n) way ∷ ps) are = absurd are.0
bots_of_guests (Tried (Caller n) way ∷ ps) are = absurd are.0
bots_of_guests (Tried (Seat n) way ∷ ps) are = absurd are.0
bots_of_guests (Tried (Asker n) way ∷ ps) are = absurd are.0
bots_of_guests (Ended (Guest place) way ∷ ps) are = (refl, bots_of_guests ps are.1)
bots_of_guests (Ended (Peer n) way ∷ ps) are = absurd are.0
bots_of_guests (Ended (Caller n) way ∷ ps) are = absurd are.0
bots_of_guests (Ended (Seat n) way ∷ ps) are = absurd are.0
bots_of_guests (Ended (Asker n) way ∷ ps) are = absurd are.0
bots_of_guests (Closed (Guest place) ∷ ps) are = (refl, bots_of_guests ps are.1)
bots_of_guests (Closed (Peer n) ∷ ps) are = absurd are.0
bots_of_guests (Closed (Caller n) ∷ ps) are = absurd are.0
bots_of_guests (Closed (Seat n) ∷ ps) are = absurd are.0
bots_of_guests (Closed (Asker n) ∷ ps) are = absurd are.0
bots_of_guests (Saw moment ∷ ps) are = absurd are.0
bots_of_guests (Waited most ∷ ps) are = absurd are.0
bots_of_guests (Called ∷ ps) are = absurd are.0

bots_passed : (notice : Option SeatNotice) (more : List Passage) → IsPassedBy notice more → AreOfBots more
bots_passed None more (inl e) = subst AreOfBots (sym e) tt
bots_passed None more (inr is) = subst AreOfBots (sym is.1) (refl, tt)
bots_passed (Some (notices.Came seat)) more e = subst AreOfBots (sym e) (refl, tt)
bots_passed (Some (notices.Piece seat bytes)) more e = subst AreOfBots (sym e) (refl, tt)
bots_passed (Some (notices.Gone seat)) more (inl e) = subst AreOfBots (sym e) (refl, tt)
bots_passed (Some (notices.Gone seat)) more (inr e) = subst AreOfBots (sym e) (refl, (refl, tt))
bots_passed (Some (notices.Refused seat source)) more e = subst AreOfBots (sym e) tt
bots_passed (Some (notices.Unread seat)) more e = subst AreOfBots (sym e) tt

bots_behind : (tokens : Option (List TokenDigest)) (notice : Option SeatNotice) (behind : List Passage) → IsBehind tokens notice behind → AreOfBots behind
bots_behind None notice behind is = bots_passed notice behind is
bots_behind (Some tokens) None behind is = bots_passed None behind is
bots_behind (Some tokens) (Some (notices.Came seat)) behind e = subst AreOfBots (sym e) tt
bots_behind (Some tokens) (Some (notices.Piece seat bytes)) behind is = bots_passed (Some (notices.Piece seat bytes)) behind is
bots_behind (Some tokens) (Some (notices.Gone seat)) behind is = bots_passed (Some (notices.Gone seat)) behind is
bots_behind (Some tokens) (Some (notices.Refused seat source)) behind e = subst AreOfBots (sym e) tt
bots_behind (Some tokens) (Some (notices.Unread seat)) behind e = subst AreOfBots (sym e) tt

bots_guested : (tokens : Option (List TokenDigest)) (notice : Option SeatNotice) (old more : List Passage) → IsGuested tokens notice old more → AreOfBots more
bots_guested None notice old more is = subst AreOfBots (sym is) tt
bots_guested (Some tokens) None old more is = bots_of_guests more is
bots_guested (Some tokens) (Some (notices.Came seat)) old more is = subst AreOfBots (sym is.given) (both_of_bots is.front (Gave is.place seat ∷ []) (bots_of_guests is.front is.of_guests) (tt, tt))
bots_guested (Some tokens) (Some (notices.Piece seat bytes)) old more is = bots_of_guests more is
bots_guested (Some tokens) (Some (notices.Gone seat)) old more is = bots_of_guests more is
bots_guested (Some tokens) (Some (notices.Refused seat source)) old more is = bots_of_guests more is
bots_guested (Some tokens) (Some (notices.Unread seat)) old more is = bots_of_guests more is

pub keeps_coming : (notice : Option SeatNotice) (old new : Seats) (wired_old wired_new : List Passage) → Comes notice old new wired_old wired_new → KeepsOthers wired_old wired_new
keeps_coming notice old new wired_old wired_new comes =
    keeps_by wired_old wired_new (comes.passes.more ++ comes.passes.behind)
    (both_of_bots comes.passes.more comes.passes.behind (bots_guested (tokens_of old) notice (passed_of old) comes.passes.more comes.passes.guested) (bots_behind (tokens_of old) notice comes.passes.behind comes.passes.by_it)) comes.passes.wired

-- ---- what moves nothing

-- the same came, was written, and went to the log
pub record Alike (xs ys : List Passage) : Type 0 where
  pub wrote : (line : Line) (before : List ℕ) → wrote_behind line before xs ≡ wrote_behind line before ys
  pub came : (line : Line) (before : List ℕ) → came_behind line before xs ≡ came_behind line before ys
  pub seats : seats_in xs ≡ seats_in ys
  pub log : logged_in xs ≡ logged_in ys

alike_as : (xs ys zs : List Passage) → xs ≡ ys → Alike ys zs → Alike xs zs
alike_as xs ys zs e are = subst (λ (ps : List Passage). Alike ps zs) (sym e) are

alike_same : (xs : List Passage) → Alike xs xs
alike_same xs = record { wrote = λ line before. refl; came = λ line before. refl; seats = refl; log = refl }

tried_alike : (seat : ℕ) → Alike (Tried (Seat seat) Reading ∷ []) []
tried_alike seat = record { wrote = λ line before. refl; came = λ line before. refl; seats = refl; log = refl }

closed_alike : (seat : ℕ) → Alike (Closed (Seat seat) ∷ []) []
closed_alike seat = record { wrote = λ line before. refl; came = λ line before. refl; seats = refl; log = refl }

ended_alike : (seat : ℕ) → Alike (Ended (Seat seat) Reading ∷ Closed (Seat seat) ∷ []) []
ended_alike seat = record { wrote = λ line before. refl; came = λ line before. refl; seats = refl; log = refl }

passed_alike : (notice : Option SeatNotice) (more : List Passage) → IsPassedBy notice more → Alike more (passed_by notice)
passed_alike None more (inl e) = alike_as more [] [] e (alike_same [])
passed_alike None more (inr is) = alike_as more (Tried (Seat is.0) Reading ∷ []) [] is.1 (tried_alike is.0)
passed_alike (Some (notices.Came seat)) more e = alike_as more (Began (Seat seat) ∷ []) (Began (Seat seat) ∷ []) e (alike_same (Began (Seat seat) ∷ []))
passed_alike (Some (notices.Piece seat bytes)) more e = alike_as more (Came (Seat seat) bytes.items ∷ []) (Came (Seat seat) bytes.items ∷ []) e (alike_same (Came (Seat seat) bytes.items ∷ []))
passed_alike (Some (notices.Gone seat)) more (inl e) = alike_as more (Closed (Seat seat) ∷ []) [] e (closed_alike seat)
passed_alike (Some (notices.Gone seat)) more (inr e) = alike_as more (Ended (Seat seat) Reading ∷ Closed (Seat seat) ∷ []) [] e (ended_alike seat)
passed_alike (Some (notices.Refused seat source)) more e = alike_as more [] [] e (alike_same [])
passed_alike (Some (notices.Unread seat)) more e = alike_as more [] [] e (alike_same [])

pub behind_alike : (tokens : Option (List TokenDigest)) (notice : Option SeatNotice) (behind : List Passage) → IsBehind tokens notice behind → Alike behind (behind_by tokens notice)
behind_alike None notice behind is = passed_alike notice behind is
behind_alike (Some tokens) None behind is = passed_alike None behind is
behind_alike (Some tokens) (Some (notices.Came seat)) behind e = alike_as behind [] [] e (alike_same [])
behind_alike (Some tokens) (Some (notices.Piece seat bytes)) behind is = passed_alike (Some (notices.Piece seat bytes)) behind is
behind_alike (Some tokens) (Some (notices.Gone seat)) behind is = passed_alike (Some (notices.Gone seat)) behind is
behind_alike (Some tokens) (Some (notices.Refused seat source)) behind e = alike_as behind [] [] e (alike_same [])
behind_alike (Some tokens) (Some (notices.Unread seat)) behind e = alike_as behind [] [] e (alike_same [])

-- over one line the same was written in a call as what moved says, and the same came
pub wrote_coming : (notice : Option SeatNotice) (old new : Seats) (wired_old wired_new : List Passage) (line : Line) (comes : Comes notice old new wired_old wired_new)
    → wrote_over wired_new line ≡ wrote_behind line (wrote_over wired_old line) (comes.passes.more ++ behind_by (tokens_of old) notice)
wrote_coming notice old new wired_old wired_new line comes =
    let before : List ℕ = wrote_over wired_old line in
    ap (λ (ps : List Passage). wrote_over ps line) comes.passes.wired
    ∙ (wrote_both line [] wired_old (comes.passes.more ++ comes.passes.behind)
    ∙ (wrote_both line before comes.passes.more comes.passes.behind
    ∙ ((behind_alike (tokens_of old) notice comes.passes.behind comes.passes.by_it).wrote line (wrote_behind line before comes.passes.more)
    ∙ sym (wrote_both line before comes.passes.more (behind_by (tokens_of old) notice)))))

pub came_coming : (notice : Option SeatNotice) (old new : Seats) (wired_old wired_new : List Passage) (line : Line) (comes : Comes notice old new wired_old wired_new)
    → came_over wired_new line ≡ came_behind line (came_over wired_old line) (comes.passes.more ++ behind_by (tokens_of old) notice)
came_coming notice old new wired_old wired_new line comes =
    let before : List ℕ = came_over wired_old line in
    ap (λ (ps : List Passage). came_over ps line) comes.passes.wired
    ∙ (came_both line [] wired_old (comes.passes.more ++ comes.passes.behind)
    ∙ (came_both line before comes.passes.more comes.passes.behind
    ∙ ((behind_alike (tokens_of old) notice comes.passes.behind comes.passes.by_it).came line (came_behind line before comes.passes.more)
    ∙ sym (came_both line before comes.passes.more (behind_by (tokens_of old) notice)))))

-- ---- guests are told nothing

abbrev IsUnsaid : Passage → Type 0
IsUnsaid (Wrote line bytes) = ⊥
IsUnsaid (Began line) = Unit {0}
IsUnsaid (Came line bytes) = Unit {0}
IsUnsaid (Gave place seat) = Unit {0}
IsUnsaid (Logged text) = Unit {0}
IsUnsaid (Tried line way) = Unit {0}
IsUnsaid (Ended line way) = Unit {0}
IsUnsaid (Closed line) = Unit {0}
IsUnsaid (Saw moment) = Unit {0}
IsUnsaid (Waited most) = Unit {0}
IsUnsaid Called = Unit {0}

abbrev AreUnsaid : List Passage → Type 0
AreUnsaid [] = Unit {0}
AreUnsaid (p ∷ more) = IsUnsaid p × AreUnsaid more

both_unsaid : (xs ys : List Passage) → AreUnsaid xs → AreUnsaid ys → AreUnsaid (xs ++ ys)
both_unsaid [] ys are others = others
both_unsaid (x ∷ xs) ys are others = (are.0, both_unsaid xs ys are.1 others)

unsaid_of_guests : (ps : List Passage) → AreOfGuests ps → AreUnsaid ps
unsaid_of_guests [] are = tt
unsaid_of_guests (Began line ∷ ps) are = (tt, unsaid_of_guests ps are.1)
unsaid_of_guests (Came line bytes ∷ ps) are = (tt, unsaid_of_guests ps are.1)
unsaid_of_guests (Wrote line bytes ∷ ps) are = absurd are.0
unsaid_of_guests (Gave place seat ∷ ps) are = absurd are.0
unsaid_of_guests (Logged text ∷ ps) are = absurd are.0
unsaid_of_guests (Tried line way ∷ ps) are = (tt, unsaid_of_guests ps are.1)
unsaid_of_guests (Ended line way ∷ ps) are = (tt, unsaid_of_guests ps are.1)
unsaid_of_guests (Closed line ∷ ps) are = (tt, unsaid_of_guests ps are.1)
unsaid_of_guests (Saw moment ∷ ps) are = absurd are.0
unsaid_of_guests (Waited most ∷ ps) are = absurd are.0
unsaid_of_guests (Called ∷ ps) are = absurd are.0

unsaid_passed : (notice : Option SeatNotice) → AreUnsaid (passed_by notice)
unsaid_passed None = tt
unsaid_passed (Some (notices.Came seat)) = (tt, tt)
unsaid_passed (Some (notices.Piece seat bytes)) = (tt, tt)
unsaid_passed (Some (notices.Gone seat)) = tt
unsaid_passed (Some (notices.Refused seat source)) = tt
unsaid_passed (Some (notices.Unread seat)) = tt

unsaid_come : (tokens : Option (List TokenDigest)) (notice : Option SeatNotice) (old more : List Passage) → IsGuested tokens notice old more → AreUnsaid (more ++ behind_by tokens notice)
unsaid_come None notice old more is = subst (λ (ps : List Passage). AreUnsaid (ps ++ passed_by notice)) (sym is) (unsaid_passed notice)
unsaid_come (Some tokens) None old more is = both_unsaid more [] (unsaid_of_guests more is) tt
unsaid_come (Some tokens) (Some (notices.Came seat)) old more is =
    both_unsaid more [] (subst (λ (ps : List Passage). AreUnsaid ps) (sym is.given) (both_unsaid is.front (Gave is.place seat ∷ []) (unsaid_of_guests is.front is.of_guests) (tt, tt))) tt
unsaid_come (Some tokens) (Some (notices.Piece seat bytes)) old more is = both_unsaid more (Came (Seat seat) bytes.items ∷ []) (unsaid_of_guests more is) (tt, tt)
unsaid_come (Some tokens) (Some (notices.Gone seat)) old more is = both_unsaid more [] (unsaid_of_guests more is) tt
unsaid_come (Some tokens) (Some (notices.Refused seat source)) old more is = both_unsaid more [] (unsaid_of_guests more is) tt
unsaid_come (Some tokens) (Some (notices.Unread seat)) old more is = both_unsaid more [] (unsaid_of_guests more is) tt

none_or : (b : Bool) (before : List ℕ) → before ≡ [] → (if b then [] else before) ≡ []
none_or true before none = refl
none_or false before none = none

nothing_said : (line : Line) (before : List ℕ) (ps : List Passage) → before ≡ [] → AreUnsaid ps → wrote_behind line before ps ≡ []
nothing_said line before [] none are = none
nothing_said line before (Began at ∷ ps) none are = nothing_said line (wrote_by line before (Began at)) ps (none_or (is_line at line) before none) are.1
nothing_said line before (Came at bytes ∷ ps) none are = nothing_said line before ps none are.1
nothing_said line before (Wrote at bytes ∷ ps) none are = absurd are.0
nothing_said line before (Gave place seat ∷ ps) none are = nothing_said line (wrote_by line before (Gave place seat)) ps (none_or (is_given place seat line) before none) are.1
nothing_said line before (Logged text ∷ ps) none are = nothing_said line before ps none are.1
nothing_said line before (Tried at way ∷ ps) none are = nothing_said line before ps none are.1
nothing_said line before (Ended at way ∷ ps) none are = nothing_said line before ps none are.1
nothing_said line before (Closed at ∷ ps) none are = nothing_said line before ps none are.1
nothing_said line before (Saw moment ∷ ps) none are = nothing_said line before ps none are.1
nothing_said line before (Waited most ∷ ps) none are = nothing_said line before ps none are.1
nothing_said line before (Called ∷ ps) none are = nothing_said line before ps none are.1

pub no_guest_told_coming : (notice : Option SeatNotice) (old new : Seats) (wired_old wired_new : List Passage) → Comes notice old new wired_old wired_new → TellsNoGuest wired_old wired_new
no_guest_told_coming notice old new wired_old wired_new comes place none =
    let more = comes.passes.more ++ behind_by (tokens_of old) notice in
    wrote_coming notice old new wired_old wired_new (Guest place) comes
    ∙ nothing_said (Guest place) (wrote_over wired_old (Guest place)) more none (unsaid_come (tokens_of old) notice (passed_of old) comes.passes.more comes.passes.guested)
