-- What the connections go by, as more passes and as connections are put in their places.
use Rattle.std.proofs.Common.{◌≡◌, inl, inr, ◌⊎◌, ◌≢◌, ℕ, ◌+◌, ◌-◌, ◌<◌, ◌≤◌, Bool, true, false, if◌then◌else◌, cond, nat_lt, eqb, List, [], ◌∷◌, ◌++◌, append_assoc, append-nil, Option, Some, None, IfSome, Result, Ok, Err, refl, sym, ap, subst, ◌∙◌, get_or, set, length, take, arith}
use Rattle.std.proofs.Math.Logic.{∥∥₁_map}
use Rattle.std.proofs.lemmas.Bool.{cases_lt, eq-eqb, ne_eqb, ltb-false, le-ltb, lt-ltb}
use Rattle.std.proofs.Math.ListN.{get_or-eq_default}
use Rattle.std.proofs.lemmas.Bool.Decides.{eqb_tells}
use Rattle.std.proofs.lemmas.List.{get_or-set_same, get_or-set_other, length-set}
use Rattle.node_peers.specs.declared.limits.TheConstants.{DIALLED}
use Rattle.node_wires.specs.declared.line.Line.{Line}
use Rattle.node_wires.specs.declared.line.Line.TheVariants.{Peer, Caller, Seat, Guest, Asker}
use Rattle.node_wires.specs.declared.way.Way.{Way}
use Rattle.node_wires.specs.declared.halt.Halt.{Halt}
use Rattle.node_wires.specs.declared.halt.Halt.TheVariants as halts
use Rattle.node_wires.specs.Passages.{Passage, Began, Came, Wrote, is_line, came_by, came_behind, came_over, wrote_by, wrote_behind, wrote_over, Tried, Ended, Closed, halted_as}
use Rattle.peer_codes.specs.declared.frame.Frame.{Frame}
use Rattle.peer_codes.specs.declared.hello.Hello.{Hello}
use Rattle.peer_codes.specs.declared.hello.Life.{Life}
use Rattle.node_links.specs.declared.connection.Connection.{Connection}
use Rattle.node_links.specs.declared.arrived.Arrived.{Arrived}
use Rattle.node_links.specs.declared.arrived.Arrived.TheVariants as arrivals
use Rattle.node_links.specs.Arriving.{told}
use Rattle.node_links.specs.declared.heard.Heard.{Heard}
use Rattle.node_links.specs.declared.heard.Heard.TheVariants as heards
use Rattle.node_links.specs.declared.peer_fault.PeerFault.{PeerFault}
use Rattle.node_links.specs.declared.own.Own.{Own}
use Rattle.node_links.specs.Speaking.{OwnHello, Spoke, SpeaksOn, SpeaksOnWritten, SpeaksAs, SpeaksOf}
use Rattle.node_links.specs.Talks.{Talk, Says, Opens}
use Rattle.node_links.specs.Going.{Goes, GoesOn, GoesOnWritten, OpensAs, Tells, silence, unwritten_of, peer_of}
use Rattle.node_peers.specs.declared.link.Link.{Link}
use Rattle.node_peers.specs.declared.notice.Notice.{Notice}
use Rattle.node_peers.specs.declared.notice.Notice.TheVariants as notices
use Rattle.node_peers.specs.Lines.{line_at, dialled_over}
use Rattle.node_peers.specs.Adding.{Adds}
use Rattle.node_peers.specs.Hearing.{talk_over, IsKept, Hears, IsOf, FitsBy, Fits, OpenedBy, IsOpened, IsTold, AreTold, IsAside, AreAside, OpensIn, OpensAt, KeepsOn, KeepsAs, KeepsSaying, FitsOn, FitsAs, FitsSaying, Moves, FitsThrough, TakesIn, SaysFrame, IsFresh}
use Rattle.node_peers.specs.Greeting.{IsOurs}
use Rattle.node_peers.specs.Handing.{AreFor, peer_in}
use Rattle.node_peers.specs.Speaking.{IsUnspoken}
use Rattle.node_peers.proofs.Speaking.{speaks_on, speaks_still, speaks_as, speaks_of, speaks_written, speaks_lost, speaks_taken, speaks_fresh, speaks_more}
use Rattle.node_peers.specs.declared.saying.Saying.{Saying}
use Rattle.node_peers.specs.declared.saying.Saying.TheVariants as sayings
use Rattle.node_peers.specs.Saying.{saying_of, SaidBy, SaidAt}

-- ---- which line is which

same_line : (line : Line) → is_line line line ≡ true
same_line (Peer n) = eq-eqb n n refl
same_line (Caller n) = eq-eqb n n refl
same_line (Seat n) = eq-eqb n n refl
same_line (Guest n) = eq-eqb n n refl
same_line (Asker n) = eq-eqb n n refl

from_behind : (p q : ℕ) → DIALLED ≤ p → DIALLED ≤ q → p - DIALLED ≡ q - DIALLED → p ≡ q
from_behind p q above_p above_q same = omega (arith, same)

by_choices : (p q : ℕ) (is_p is_q : Bool) → nat_lt p DIALLED ≡ is_p → nat_lt q DIALLED ≡ is_q → (p ≡ q → ⊥)
    → is_line (if is_p then Peer p else Caller (p - DIALLED)) (if is_q then Peer q else Caller (q - DIALLED)) ≡ false
by_choices p q true true low_p low_q differ = ne_eqb p q differ
by_choices p q true false low_p low_q differ = refl
by_choices p q false true low_p low_q differ = refl
by_choices p q false false low_p low_q differ = ne_eqb (p - DIALLED) (q - DIALLED) (λ same. differ (from_behind p q (ltb-false p DIALLED low_p) (ltb-false q DIALLED low_q) same))

pub other_line : (p q : ℕ) → (p ≡ q → ⊥) → is_line (line_at p) (line_at q) ≡ false
other_line p q differ = by_choices p q (nat_lt p DIALLED) (nat_lt q DIALLED) refl refl differ

-- ---- one passage more

came_more : (line : Line) (before : List ℕ) (xs : List Passage) (p : Passage) → came_behind line before (xs ++ p ∷ []) ≡ came_by line (came_behind line before xs) p
came_more line before [] p = refl
came_more line before (x ∷ xs) p = came_more line (came_by line before x) xs p

wrote_more : (line : Line) (before : List ℕ) (xs : List Passage) (p : Passage) → wrote_behind line before (xs ++ p ∷ []) ≡ wrote_by line (wrote_behind line before xs) p
wrote_more line before [] p = refl
wrote_more line before (x ∷ xs) p = wrote_more line (wrote_by line before x) xs p

chosen : (same : Bool) (a b : List ℕ) → same ≡ true → cond same a b ≡ a
chosen true a b e = refl
chosen false a b e = absurd cc

passed_over : (same : Bool) (a b : List ℕ) → same ≡ false → cond same a b ≡ b
passed_over true a b e = absurd cc
passed_over false a b e = refl

talk_is : (dialled : Option ℕ) (came came_new wrote wrote_new : List ℕ) → came ≡ came_new → wrote ≡ wrote_new → ◌≡◌ {A = Talk} (record { dialled = dialled; came = came; wrote = wrote }) (record { dialled = dialled; came = came_new; wrote = wrote_new })
talk_is dialled came came_new wrote wrote_new e f =
    ap (λ (c : List ℕ). let t : Talk = record { dialled = dialled; came = c; wrote = wrote } in t) e ∙ ap (λ (w : List ℕ). let t : Talk = record { dialled = dialled; came = came_new; wrote = w } in t) f

piece_came : (passed : List Passage) (place : ℕ) (piece : List ℕ) → talk_over (passed ++ Came (line_at place) piece ∷ []) (line_at place)
    ≡ record { dialled = dialled_over (line_at place); came = came_over passed (line_at place) ++ piece; wrote = wrote_over passed (line_at place) }
piece_came passed place piece =
    talk_is _ _ _ _ _ (came_more (line_at place) [] passed (Came (line_at place) piece) ∙ chosen (is_line (line_at place) (line_at place)) _ _ (same_line (line_at place))) (wrote_more (line_at place) [] passed (Came (line_at place) piece))

piece_elsewhere : (passed : List Passage) (place other : ℕ) (piece : List ℕ) → (place ≡ other → ⊥) → talk_over (passed ++ Came (line_at place) piece ∷ []) (line_at other) ≡ talk_over passed (line_at other)
piece_elsewhere passed place other piece differ =
    talk_is _ _ _ _ _ (came_more (line_at other) [] passed (Came (line_at place) piece) ∙ passed_over (is_line (line_at place) (line_at other)) _ _ (other_line place other differ)) (wrote_more (line_at other) [] passed (Came (line_at place) piece))

began_anew : (passed : List Passage) (place : ℕ) → talk_over (passed ++ Began (line_at place) ∷ []) (line_at place) ≡ silence (dialled_over (line_at place))
began_anew passed place =
    talk_is _ _ _ _ _ (came_more (line_at place) [] passed (Began (line_at place)) ∙ chosen (is_line (line_at place) (line_at place)) _ _ (same_line (line_at place)))
    (wrote_more (line_at place) [] passed (Began (line_at place)) ∙ chosen (is_line (line_at place) (line_at place)) _ _ (same_line (line_at place)))

began_elsewhere : (passed : List Passage) (place other : ℕ) → (place ≡ other → ⊥) → talk_over (passed ++ Began (line_at place) ∷ []) (line_at other) ≡ talk_over passed (line_at other)
began_elsewhere passed place other differ =
    talk_is _ _ _ _ _ (came_more (line_at other) [] passed (Began (line_at place)) ∙ passed_over (is_line (line_at place) (line_at other)) _ _ (other_line place other differ))
    (wrote_more (line_at other) [] passed (Began (line_at place)) ∙ passed_over (is_line (line_at place) (line_at other)) _ _ (other_line place other differ))

written_there : (passed : List Passage) (place : ℕ) (bytes : List ℕ) → talk_over (passed ++ Wrote (line_at place) bytes ∷ []) (line_at place)
    ≡ record { dialled = dialled_over (line_at place); came = came_over passed (line_at place); wrote = wrote_over passed (line_at place) ++ bytes }
written_there passed place bytes =
    talk_is _ _ _ _ _ (came_more (line_at place) [] passed (Wrote (line_at place) bytes)) (wrote_more (line_at place) [] passed (Wrote (line_at place) bytes) ∙ chosen (is_line (line_at place) (line_at place)) _ _ (same_line (line_at place)))

written_elsewhere : (passed : List Passage) (place other : ℕ) (bytes : List ℕ) → (place ≡ other → ⊥) → talk_over (passed ++ Wrote (line_at place) bytes ∷ []) (line_at other) ≡ talk_over passed (line_at other)
written_elsewhere passed place other bytes differ =
    talk_is _ _ _ _ _ (came_more (line_at other) [] passed (Wrote (line_at place) bytes))
    (wrote_more (line_at other) [] passed (Wrote (line_at place) bytes) ∙ passed_over (is_line (line_at place) (line_at other)) _ _ (other_line place other differ))

-- ---- a connection in its place

fits_at : (own : Own) (sent : List Passage) (talks talks_new : ℕ → Talk) (links : List (Option Link)) (place q : ℕ) (link : Option Link) → place < length links → FitsBy own sent talks links → IsOf own sent (talks_new place) link
    → ((r : ℕ) → (place ≡ r → ⊥) → talks_new r ≡ talks r) → ((eqb q place ≡ true) × (q ≡ place)) ⊎ ((eqb q place ≡ false) × (q ≢ place)) → IsOf own sent (talks_new q) (get_or (set links place link) q None)
fits_at own sent talks talks_new links place q link within fits is same (inl here) =
    subst (λ (n : ℕ). IsOf own sent (talks_new n) (get_or (set links place link) n None)) (sym here.1)
    (subst (λ (l : Option Link). IsOf own sent (talks_new place) l) (sym (get_or-set_same links place link None within)) is)
fits_at own sent talks talks_new links place q link within fits is same (inr elsewhere) =
    subst (λ (l : Option Link). IsOf own sent (talks_new q) l) (sym (get_or-set_other links place q link None elsewhere.1))
    (subst (λ (t : Talk). IsOf own sent t (get_or links q None)) (sym (same q (λ e. elsewhere.1 (sym e)))) (fits q))

-- the connection at a place is another one, and this came of each
pub fits_set : (own : Own) (sent : List Passage) (talks talks_new : ℕ → Talk) (links : List (Option Link)) (place : ℕ) (link : Option Link) → place < length links → FitsBy own sent talks links → IsOf own sent (talks_new place) link
    → ((q : ℕ) → (place ≡ q → ⊥) → talks_new q ≡ talks q) → FitsBy own sent talks_new (set links place link)
fits_set own sent talks talks_new links place link within fits is same q = fits_at own sent talks talks_new links place q link within fits is same (eqb_tells q place)

-- ---- what was told stays so

opened_on : (own : Own) (passed more : List Passage) (hello : Hello) → OpenedBy own passed hello → OpenedBy own (passed ++ more) hello
opened_on own passed more hello t = record {
  place = t.place;
  before = t.before;
  since = t.since ++ more;
  passed_is = ap (λ (ps : List Passage). ps ++ more) t.passed_is ∙ append_assoc t.before t.since more;
  opens = t.opens;
}

pub opened_through : (own : Own) (old new wired_old wired_new : List Passage) (hello : Hello) → Adds old new wired_old wired_new → IsOpened own old hello → IsOpened own new hello
opened_through own old new wired_old wired_new hello adds is = subst (λ (ps : List Passage). IsOpened own ps hello) (sym adds.put_down) (∥∥₁_map is (λ t. opened_on own old adds.more hello t))

opened_here : (own : Own) (passed : List Passage) (place : ℕ) (hello : Hello) → ∥ Opens own hello (talk_over passed (line_at place)) ∥₁ → IsOpened own passed hello
opened_here own passed place hello opens = ∥∥₁_map opens (λ o. record { place = place; before = passed; since = []; passed_is = sym (append-nil passed); opens = o })

pub opened_now : (own : Own) (sent passed : List Passage) (place : ℕ) (links : List (Option Link)) (result : Option Hello) → Fits own sent passed links → OpensAt own result place links → IfSome result (λ hello. IsOpened own passed hello)
opened_now own sent passed place links None fits opens = tt
opened_now own sent passed place links (Some hello) fits opens = opened_here own passed place hello (opens (λ q. talk_over passed (line_at q)) (λ other. (fits other).0))

pub joins : (own : Own) (passed : List Passage) (hello : Hello) (life : Option Life) → IsOpened own passed hello → IfSome life (λ l. l ≡ hello.life) → IsTold own passed (notices.Joined hello.ends.from life)
joins own passed hello life opened is = ∥∥₁_map opened (λ o. record { hello = hello; from_is = refl; life_is = is; opened = o })

told_on : (own : Own) (passed more : List Passage) (notice : Notice) → IsTold own passed notice → IsTold own (passed ++ more) notice
told_on own passed more (notices.Frame from frame) told =
    ∥∥₁_map told (λ t. record {
      place = t.place;
      before = t.before;
      since = t.since ++ more;
      passed_is = ap (λ (ps : List Passage). ps ++ more) t.passed_is ∙ append_assoc t.before t.since more;
      says = t.says;
    })
told_on own passed more (notices.Joined peer life) told =
    ∥∥₁_map told (λ t. record { hello = t.hello; from_is = t.from_is; life_is = t.life_is; opened = opened_on own passed more t.hello t.opened })
told_on own passed more (notices.Gone peer) told = tt
told_on own passed more (notices.Refused peer fault source) told = tt
told_on own passed more (notices.Unreached peer refuses) told = tt
told_on own passed more (notices.Strangers peer count fault) told = tt
told_on own passed more (notices.Settings peer settings) told = tt

pub are_told_on : (own : Own) (passed more : List Passage) (told : List Notice) → AreTold own passed told → AreTold own (passed ++ more) told
are_told_on own passed more [] are = tt
are_told_on own passed more (notice ∷ told) are = (told_on own passed more notice are.0, are_told_on own passed more told are.1)

pub one_told : (own : Own) (passed : List Passage) (told : List Notice) (notice : Notice) → AreTold own passed told → IsTold own passed notice → AreTold own passed (told ++ notice ∷ [])
one_told own passed [] notice are is = (is, tt)
one_told own passed (n ∷ told) notice are is = (are.0, one_told own passed told notice are.1 is)

aside_on : (own : Own) (passed more : List Passage) (from : ℕ) (frame : Option Frame) → IsAside own passed from frame → IsAside own (passed ++ more) from frame
aside_on own passed more from None is = tt
aside_on own passed more from (Some frame) is = told_on own passed more (notices.Frame from frame) is

pub are_aside_on : (own : Own) (passed more : List Passage) (frames : List (Option Frame)) → AreAside own passed frames → AreAside own (passed ++ more) frames
are_aside_on own passed more frames are number = aside_on own passed more number (get_or frames number None) (are number)

pub none_aside : (own : Own) (passed : List Passage) (frames : List (Option Frame)) → ((number : ℕ) → get_or frames number None ≡ None) → AreAside own passed frames
none_aside own passed frames none number = subst (λ (f : Option Frame). IsAside own passed number f) (sym (none number)) tt

-- another one is at a place, if there is such a place
aside_here : (own : Own) (passed : List Passage) (frames : List (Option Frame)) (place : ℕ) (frame : Option Frame) → IsAside own passed place frame → (place < length frames) ⊎ (length frames ≤ place) → IsAside own passed place (get_or (set frames place frame) place None)
aside_here own passed frames place frame is (inl within) = subst (λ (f : Option Frame). IsAside own passed place f) (sym (get_or-set_same frames place frame None within)) is
aside_here own passed frames place frame is (inr beyond) =
    let none : get_or (set frames place frame) place None ≡ None = get_or-eq_default (set frames place frame) None (let same = length-set frames place frame in omega (arith, beyond, same)) in
    subst (λ (f : Option Frame). IsAside own passed place f) (sym none) tt

aside_at : (own : Own) (passed : List Passage) (frames : List (Option Frame)) (place : ℕ) (frame : Option Frame) → AreAside own passed frames → IsAside own passed place frame → (number : ℕ)
    → ((eqb number place ≡ true) × (number ≡ place)) ⊎ ((eqb number place ≡ false) × (number ≢ place)) → IsAside own passed number (get_or (set frames place frame) number None)
aside_at own passed frames place frame are is number (inl here) =
    subst (λ (n : ℕ). IsAside own passed n (get_or (set frames place frame) n None)) (sym here.1) (aside_here own passed frames place frame is (cases_lt place (length frames)))
aside_at own passed frames place frame are is number (inr elsewhere) =
    subst (λ (f : Option Frame). IsAside own passed number f) (sym (get_or-set_other frames place number frame None elsewhere.1)) (are number)

pub aside_set : (own : Own) (passed : List Passage) (frames : List (Option Frame)) (place : ℕ) (frame : Option Frame) → AreAside own passed frames → IsAside own passed place frame → AreAside own passed (set frames place frame)
aside_set own passed frames place frame are is number = aside_at own passed frames place frame are is number (eqb_tells number place)

aside_taken_is : (own : Own) (passed : List Passage) (from : ℕ) (frame : Option Frame) → IsAside own passed from frame → IfSome frame (λ f. IsTold own passed (notices.Frame from f))
aside_taken_is own passed from None is = tt
aside_taken_is own passed from (Some frame) is = is

pub aside_taken : (own : Own) (passed : List Passage) (frames : List (Option Frame)) (from : ℕ) (frame : Option Frame) → frame ≡ get_or frames from None → AreAside own passed frames → IfSome frame (λ f. IsTold own passed (notices.Frame from f))
aside_taken own passed frames from frame at are = aside_taken_is own passed from frame (subst (λ (f : Option Frame). IsAside own passed from f) (sym at) (are from))

pub told_now : (own : Own) (passed : List Passage) (place from : ℕ) (frame : Frame) → ∥ Says own from frame (talk_over passed (line_at place)) ∥₁ → IsTold own passed (notices.Frame from frame)
told_now own passed place from frame says = ∥∥₁_map says (λ s. record { place = place; before = passed; since = []; passed_is = sym (append-nil passed); says = s })

-- ---- what calls of a connection leave of it

kept_on : (lost : Bool) (own : Own) (talk : Talk) (old new : Connection) → GoesOn old new → IsKept lost own talk old → IsKept lost own talk new
kept_on true own talk old new goes is = tt
kept_on false own talk old new goes is = goes own talk is

hears_on : (old new : Link) → new.is_lost ≡ old.is_lost → GoesOn old.connection new.connection → (own : Own) (talk : Talk) → Hears own talk (Some old) → Hears own talk (Some new)
hears_on old new lost goes own talk is = subst (λ (b : Bool). IsKept b own talk new.connection) (sym lost) (kept_on old.is_lost own talk old.connection new.connection goes is)

pub keeps_on : (old new : Link) → new.is_lost ≡ old.is_lost → GoesOn old.connection new.connection → SpeaksOn old.connection new.connection → KeepsOn (Some old) (Some new)
keeps_on old new lost goes speaks own sent talk is = (hears_on old new lost goes own talk is.0, speaks_on old new lost speaks own sent talk is.1)

pub keeps_as : (old new : Link) (mine : Hello) → new.is_lost ≡ old.is_lost → GoesOn old.connection new.connection → SpeaksAs old.connection new.connection mine → KeepsAs mine (Some old) (Some new)
keeps_as old new mine lost goes speaks own sent talk ours is = (hears_on old new lost goes own talk is.0, speaks_as old new mine lost speaks own sent talk ours is.1)

pub keeps_saying : (old new : Link) (frames : List Frame) → new.is_lost ≡ old.is_lost → GoesOn old.connection new.connection → SpeaksOf old.connection new.connection (peer_of old.connection) frames → KeepsSaying frames (Some old) (Some new)
keeps_saying old new frames lost goes speaks own sent talk are is = (hears_on old new lost goes own talk is.0, speaks_of old new frames lost speaks own sent talk are is.1)

goes_still : (old new : Connection) → new ≡ old → GoesOn old new
goes_still old new e own talk goes = subst (λ (c : Connection). Goes own talk c) (sym e) goes

pub keeps_still : (old new : Link) → new.is_lost ≡ old.is_lost → new.connection ≡ old.connection → KeepsOn (Some old) (Some new)
keeps_still old new lost same = keeps_on old new lost (goes_still old.connection new.connection same) (speaks_still old.connection new.connection same)

pub keeps_same : (old new : Option Link) → new ≡ old → KeepsOn old new
keeps_same old new e own sent talk is = subst (λ (l : Option Link). IsOf own sent talk l) (sym e) is

pub same_as : (old new : Option Link) (mine : Hello) → new ≡ old → KeepsAs mine old new
same_as old new mine e own sent talk ours is = keeps_same old new e own sent talk is

pub same_saying : (old new : Option Link) (frames : List Frame) → new ≡ old → KeepsSaying frames old new
same_saying old new frames e own sent talk are is = keeps_same old new e own sent talk is

kept_settled : (lost : Bool) (own : Own) (old new : Connection) (talk : Talk) → (Goes own talk old → Goes own talk new) → IsKept lost own talk old → IsKept lost own talk new
kept_settled true own old new talk goes is = tt
kept_settled false own old new talk goes is = goes is

pub keeps_settled : (own : Own) (dialled : Option ℕ) (old new : Link) → new.is_lost ≡ old.is_lost → ((talk : Talk) → talk.dialled ≡ dialled → Goes own talk old.connection → Goes own talk new.connection) → SpeaksOn old.connection new.connection
    → (sent : List Passage) (talk : Talk) → talk.dialled ≡ dialled → IsOf own sent talk (Some old) → IsOf own sent talk (Some new)
keeps_settled own dialled old new lost goes speaks sent talk same is = (
  subst (λ (b : Bool). IsKept b own talk new.connection) (sym lost) (kept_settled old.is_lost own old.connection new.connection talk (goes talk same) is.0),
  speaks_on old new lost speaks own sent talk is.1,
)

goes_in : (lost : Bool) (own : Own) (talk : Talk) (c : Connection) → lost ≡ false → IsKept lost own talk c → Goes own talk c
goes_in true own talk c e is = absurd cc
goes_in false own talk c e is = is

pub opens_in : (own : Own) (link : Link) (result : Option Hello) → link.is_lost ≡ false → OpensAs result link.connection → OpensIn own result (Some link)
opens_in own link None kept opens = tt
opens_in own link (Some hello) kept opens = λ talk is. opens own talk (goes_in link.is_lost own talk link.connection kept is)

pub says_next : (old new : Link) (result : Option (Result Heard PeerFault)) → old.is_lost ≡ false → Tells result old.connection new.connection → SaysFrame result old new
says_next old new None lost tells = tt
says_next old new (Some (Err fault)) lost tells = tt
says_next old new (Some (Ok (heards.Hello hello))) lost tells = tt
says_next old new (Some (Ok (heards.Proved hello))) lost tells = tt
says_next old new (Some (Ok (heards.Beat beat))) lost tells = tt
says_next old new (Some (Ok (heards.Further further))) lost tells = tt
says_next old new (Some (Ok (heards.Frame frame))) lost tells = λ own talk from is at. tells own talk from (goes_in old.is_lost own talk old.connection lost is) at

pub said_of : (arrived : Option (Result Arrived PeerFault)) (frame : Frame) (from : Option ℕ) (old new : Link) → SaysFrame (told arrived frame) old new → from ≡ peer_of new.connection → SaidBy (saying_of arrived from) frame (Some old)
said_of None frame from old new says is = tt
said_of (Some (Err fault)) frame from old new says is = tt
said_of (Some (Ok (arrivals.Hello hello))) frame from old new says is = tt
said_of (Some (Ok (arrivals.Proved hello))) frame from old new says is = tt
said_of (Some (Ok (arrivals.Beat beat))) frame None old new says is = tt
said_of (Some (Ok (arrivals.Beat beat))) frame (Some from) old new says is = tt
said_of (Some (Ok (arrivals.Further further))) frame None old new says is = tt
said_of (Some (Ok (arrivals.Further further))) frame (Some from) old new says is = tt
said_of (Some (Ok arrivals.Frame)) frame None old new says is = tt
said_of (Some (Ok arrivals.Frame)) frame (Some from) old new says is = λ own talk kept. says own talk from kept (sym is)

pub moves_same : (place : ℕ) (old new : Option Link) (passed_old passed_new : List Passage) → new ≡ old → passed_new ≡ passed_old → Moves place old new passed_old passed_new
moves_same place old new passed_old passed_new e f = record {
  heard = λ own sent is. subst (λ (l : Option Link). IsOf own sent (talk_over passed_new (line_at place)) l) (sym e) (subst (λ (ps : List Passage). IsOf own sent (talk_over ps (line_at place)) old) (sym f) is);
  elsewhere = λ other differ. ap (λ (ps : List Passage). talk_over ps (line_at other)) f;
}

pub moves_still : (place : ℕ) (old new : Link) (passed_old passed_new : List Passage) → new.is_lost ≡ old.is_lost → new.connection ≡ old.connection → passed_new ≡ passed_old → Moves place (Some old) (Some new) passed_old passed_new
moves_still place old new passed_old passed_new lost connection same = record {
  heard = λ own sent is. subst (λ (ps : List Passage). IsOf own sent (talk_over ps (line_at place)) (Some new)) (sym same) (keeps_still old new lost connection own sent (talk_over passed_old (line_at place)) is);
  elsewhere = λ other differ. ap (λ (ps : List Passage). talk_over ps (line_at other)) same;
}

-- a read or a write that is halted, a connection that is closed: nothing moves
rests : (passed : List Passage) (p : Passage) (line : Line) → ((before : List ℕ) → came_by line before p ≡ before) → ((before : List ℕ) → wrote_by line before p ≡ before) → talk_over (passed ++ p ∷ []) line ≡ talk_over passed line
rests passed p line came wrote = talk_is _ _ _ _ _ (came_more line [] passed p ∙ came (came_over passed line)) (wrote_more line [] passed p ∙ wrote (wrote_over passed line))

halted_rests : (way : Way) (at : Line) (halt : Halt) (passed : List Passage) (line : Line) → talk_over (passed ++ halted_as way at halt ∷ []) line ≡ talk_over passed line
halted_rests way at halts.Later passed line = rests passed (Tried at way) line (λ before. refl) (λ before. refl)
halted_rests way at halts.Ended passed line = rests passed (Ended at way) line (λ before. refl) (λ before. refl)

pub moves_halted : (place : ℕ) (way : Way) (line : Line) (halt : Halt) (old new : Link) (passed_old passed_new : List Passage) → new.is_lost ≡ old.is_lost → new.connection ≡ old.connection → passed_new ≡ passed_old ++ halted_as way line halt ∷ []
    → Moves place (Some old) (Some new) passed_old passed_new
moves_halted place way line halt old new passed_old passed_new lost connection same = record {
  heard =
      λ own sent is. subst (λ (t : Talk). IsOf own sent t (Some new)) (sym (ap (λ (ps : List Passage). talk_over ps (line_at place)) same ∙ halted_rests way line halt passed_old (line_at place)))
      (keeps_still old new lost connection own sent (talk_over passed_old (line_at place)) is);
  elsewhere = λ other differ. ap (λ (ps : List Passage). talk_over ps (line_at other)) same ∙ halted_rests way line halt passed_old (line_at other);
}

-- so it is behind a connection that is closed
pub fits_behind : (own : Own) (sent : List Passage) (line : Line) (links : List (Option Link)) (passed_old passed_new : List Passage) → passed_new ≡ passed_old ++ Closed line ∷ [] → Fits own sent passed_old links → Fits own sent passed_new links
fits_behind own sent line links passed_old passed_new same fits place =
    subst (λ (t : Talk). IsOf own sent t (get_or links place None)) (sym (ap (λ (ps : List Passage). talk_over ps (line_at place)) same ∙ rests passed_old (Closed line) (line_at place) (λ before. refl) (λ before. refl))) (fits place)

pub moves_on : (place : ℕ) (a b c : Option Link) (x y z : List Passage) → Moves place a b x y → Moves place b c y z → Moves place a c x z
moves_on place a b c x y z one two = record {
  heard = λ own sent is. two.heard own sent (one.heard own sent is);
  elsewhere = λ other differ. two.elsewhere other differ ∙ one.elsewhere other differ;
}

kept_written : (lost : Bool) (own : Own) (talk : Talk) (old new : Connection) (count : ℕ) → GoesOnWritten old new count → IsKept lost own talk old → IsKept lost own (record talk { wrote = talk.wrote ++ take count (unwritten_of old) }) new
kept_written true own talk old new count goes is = tt
kept_written false own talk old new count goes is = goes own talk is

written_of : (own : Own) (sent : List Passage) (talk : Talk) (old new : Link) (count : ℕ) → new.is_lost ≡ old.is_lost → GoesOnWritten old.connection new.connection count → SpeaksOnWritten old.connection new.connection count → IsOf own sent talk (Some old)
    → IsOf own sent (record talk { wrote = talk.wrote ++ take count (unwritten_of old.connection) }) (Some new)
written_of own sent talk old new count lost goes speaks is = (
  subst (λ (b : Bool). IsKept b own (record talk { wrote = talk.wrote ++ take count (unwritten_of old.connection) }) new.connection) (sym lost) (kept_written old.is_lost own talk old.connection new.connection count goes is.0),
  speaks_written old new count lost speaks own sent talk is.1,
)

pub moves_written : (place : ℕ) (line : Line) (bytes : List ℕ) (count : ℕ) (old new : Link) (passed_old passed_new : List Passage) → new.is_lost ≡ old.is_lost → GoesOnWritten old.connection new.connection count
    → SpeaksOnWritten old.connection new.connection count → bytes ≡ take count (unwritten_of old.connection) → line ≡ line_at place → passed_new ≡ passed_old ++ Wrote line bytes ∷ [] → Moves place (Some old) (Some new) passed_old passed_new
moves_written place line bytes count old new passed_old passed_new lost goes speaks is_written is_line_at put =
    let same : passed_new ≡ passed_old ++ Wrote (line_at place) (take count (unwritten_of old.connection)) ∷ [] =
    put ∙ (ap (λ (l : Line). passed_old ++ Wrote l bytes ∷ []) is_line_at ∙ ap (λ (b : List ℕ). passed_old ++ Wrote (line_at place) b ∷ []) is_written) in
    record {
      heard =
          λ own sent is. subst (λ (t : Talk). IsOf own sent t (Some new)) (sym (ap (λ (ps : List Passage). talk_over ps (line_at place)) same ∙ written_there passed_old place _))
          (written_of own sent (talk_over passed_old (line_at place)) old new count lost goes speaks is);
      elsewhere = λ other differ. ap (λ (ps : List Passage). talk_over ps (line_at other)) same ∙ written_elsewhere passed_old place other _ differ;
    }

lost_of : (own : Own) (talk : Talk) (lost : Bool) (c : Connection) → lost ≡ true → IsKept lost own talk c
lost_of own talk true c e = tt
lost_of own talk false c e = absurd cc

kept_piece : (lost : Bool) (own : Own) (talk : Talk) (piece : List ℕ) (old new : Connection) → ((own : Own) (talk : Talk) → Goes own talk old → Goes own (record talk { came = talk.came ++ piece }) new) → IsKept lost own talk old
    → IsKept lost own (record talk { came = talk.came ++ piece }) new
kept_piece true own talk piece old new goes is = tt
kept_piece false own talk piece old new goes is = goes own talk is

taken_of : (own : Own) (sent : List Passage) (talk : Talk) (piece : List ℕ) (old new : Link) → TakesIn old new piece → IsOf own sent talk (Some old) → IsOf own sent (record talk { came = talk.came ++ piece }) (Some new)
taken_of own sent talk piece old new (inl (lost, same)) is = (lost_of own (record talk { came = talk.came ++ piece }) new.is_lost new.connection lost, speaks_lost old new piece lost same own sent talk is.1)
taken_of own sent talk piece old new (inr (lost, whole, goes, speaks)) is = (
  subst (λ (b : Bool). IsKept b own (record talk { came = talk.came ++ piece }) new.connection) (sym lost) (kept_piece old.is_lost own talk piece old.connection new.connection goes is.0),
  speaks_taken old new piece whole speaks own sent talk is.1,
)

pub moves_taken : (place : ℕ) (line : Line) (piece : List ℕ) (old new : Link) (passed_old passed_new : List Passage) → TakesIn old new piece → line ≡ line_at place
    → passed_new ≡ passed_old ++ Came line piece ∷ [] → Moves place (Some old) (Some new) passed_old passed_new
moves_taken place line piece old new passed_old passed_new taken is_line_at put =
    let same : passed_new ≡ passed_old ++ Came (line_at place) piece ∷ [] = subst (λ (l : Line). passed_new ≡ passed_old ++ Came l piece ∷ []) is_line_at put in
    record {
      heard =
          λ own sent is. subst (λ (t : Talk). IsOf own sent t (Some new)) (sym (ap (λ (ps : List Passage). talk_over ps (line_at place)) same ∙ piece_came passed_old place piece)) (taken_of own sent (talk_over passed_old (line_at place)) piece old new taken is);
      elsewhere = λ other differ. ap (λ (ps : List Passage). talk_over ps (line_at other)) same ∙ piece_elsewhere passed_old place other piece differ;
    }

-- ---- at its place

at_place : (own : Own) (sent : List Passage) (talks : ℕ → Talk) (links : List (Option Link)) (place : ℕ) (link : Option Link) → link ≡ get_or links place None → FitsBy own sent talks links → IsOf own sent (talks place) link
at_place own sent talks links place link at fits = subst (λ (l : Option Link). IsOf own sent (talks place) l) (sym at) (fits place)

pub fits_kept : (links : List (Option Link)) (place : ℕ) (old new : Option Link) → place < length links → old ≡ get_or links place None → KeepsOn old new → FitsOn links (set links place new)
fits_kept links place old new within at keeps own sent talks fits =
    fits_set own sent talks talks links place new within fits (keeps own sent (talks place) (at_place own sent talks links place old at fits)) (λ other differ. refl)

pub fits_as : (links : List (Option Link)) (place : ℕ) (old new : Option Link) (mine : Hello) → place < length links → old ≡ get_or links place None → KeepsAs mine old new → FitsAs mine links (set links place new)
fits_as links place old new mine within at keeps own sent talks ours fits =
    fits_set own sent talks talks links place new within fits (keeps own sent (talks place) ours (at_place own sent talks links place old at fits)) (λ other differ. refl)

pub fits_saying : (links : List (Option Link)) (place : ℕ) (old new : Option Link) (frames : List Frame) → place < length links → old ≡ get_or links place None → KeepsSaying frames old new → FitsSaying frames place links (set links place new)
fits_saying links place old new frames within at keeps own sent talks are fits =
    fits_set own sent talks talks links place new within fits
    (keeps own sent (talks place) (subst (λ (l : Option Link). AreFor (peer_in l) sent frames) (sym at) are) (at_place own sent talks links place old at fits)) (λ other differ. refl)

pub fits_moved : (links : List (Option Link)) (place : ℕ) (old new : Option Link) (passed_old passed_new : List Passage) → place < length links → old ≡ get_or links place None
    → Moves place old new passed_old passed_new → FitsThrough passed_old passed_new links (set links place new)
fits_moved links place old new passed_old passed_new within at moves own sent fits =
    fits_set own sent (λ q. talk_over passed_old (line_at q)) (λ q. talk_over passed_new (line_at q)) links place new within fits
    (moves.heard own sent (at_place own sent (λ q. talk_over passed_old (line_at q)) links place old at fits)) moves.elsewhere

pub fresh_caller : (own : Own) (line : Line) (link : Link) (c : Connection) → link.connection ≡ c → Goes own (silence (dialled_over line)) c → Spoke [] own (silence (dialled_over line)) c → IsFresh own line (Some link)
fresh_caller own line link c e goes spoke = subst (λ (d : Connection). Goes own (silence (dialled_over line)) d × IsUnspoken own (silence (dialled_over line)) d) (sym e) (goes, ([], (λ sent. tt), spoke))

pub fresh_dialled : (own : Own) (line : Line) (link : Link) (c : Connection) (mine : Hello) → link.connection ≡ c → IsOurs own mine → Goes own (silence (dialled_over line)) c → Spoke (OwnHello mine ∷ []) own (silence (dialled_over line)) c
    → IsFresh own line (Some link)
fresh_dialled own line link c mine e ours goes spoke =
    subst (λ (d : Connection). Goes own (silence (dialled_over line)) d × IsUnspoken own (silence (dialled_over line)) d) (sym e) (goes, (OwnHello mine ∷ [], (λ sent. (ours, tt)), spoke))

kept_fresh : (lost : Bool) (own : Own) (talk : Talk) (c : Connection) → Goes own talk c → IsKept lost own talk c
kept_fresh true own talk c goes = tt
kept_fresh false own talk c goes = goes

fresh_is : (own : Own) (sent : List Passage) (line : Line) (link : Option Link) → IsFresh own line link → IsOf own sent (silence (dialled_over line)) link
fresh_is own sent line None fresh = (tt, ∣ (inl refl) ∣₁)
fresh_is own sent line (Some link) fresh = (kept_fresh link.is_lost own (silence (dialled_over line)) link.connection fresh.0, speaks_fresh own sent (silence (dialled_over line)) link fresh.1)

pub fits_begun : (own : Own) (sent : List Passage) (links : List (Option Link)) (place : ℕ) (link : Option Link) (passed_old passed_new : List Passage) → place < length links → IsFresh own (line_at place) link
    → passed_new ≡ passed_old ++ Began (line_at place) ∷ [] → Fits own sent passed_old links → Fits own sent passed_new (set links place link)
fits_begun own sent links place link passed_old passed_new within fresh same fits =
    fits_set own sent (λ q. talk_over passed_old (line_at q)) (λ q. talk_over passed_new (line_at q)) links place link within fits
    (subst (λ (t : Talk). IsOf own sent t link) (sym (ap (λ (ps : List Passage). talk_over ps (line_at place)) same ∙ began_anew passed_old place)) (fresh_is own sent (line_at place) link fresh))
    (λ other differ. ap (λ (ps : List Passage). talk_over ps (line_at other)) same ∙ began_elsewhere passed_old place other differ)

pub fits_settled : (own : Own) (dialled : Option ℕ) (links : List (Option Link)) (place : ℕ) (old new : Option Link) → place < length links → old ≡ get_or links place None
    → ((sent : List Passage) (talk : Talk) → talk.dialled ≡ dialled → IsOf own sent talk old → IsOf own sent talk new) → (sent : List Passage) (talks : ℕ → Talk) → (talks place).dialled ≡ dialled → FitsBy own sent talks links
    → FitsBy own sent talks (set links place new)
fits_settled own dialled links place old new within at keeps sent talks same fits =
    fits_set own sent talks talks links place new within fits (keeps sent (talks place) same (at_place own sent talks links place old at fits)) (λ other differ. refl)

pub opens_at : (own : Own) (links : List (Option Link)) (place : ℕ) (link : Option Link) (result : Option Hello) → place < length links → OpensIn own result link → OpensAt own result place (set links place link)
opens_at own links place link None within opens = tt
opens_at own links place link (Some hello) within opens = λ talks hears. opens (talks place) (subst (λ (l : Option Link). Hears own (talks place) l) (get_or-set_same links place link None within) (hears place))

pub opens_there : (links : List (Option Link)) (place : ℕ) (link : Option Link) (result : Option Hello) → link ≡ get_or links place None → ((own : Own) → OpensIn own result link) → (own : Own) → OpensAt own result place links
opens_there links place link None there opens own = tt
opens_there links place link (Some hello) there opens own = λ talks hears. opens own (talks place) (subst (λ (l : Option Link). Hears own (talks place) l) (sym there) (hears place))

-- what was written over a line stays what a connection spoke
closed_is : (own : Own) (sent : List Passage) (talk : Talk) (link : Option Link) → IsOf own sent talk link → IsOf own sent talk None
closed_is own sent talk None is = is
closed_is own sent talk (Some link) is = (tt, ∥∥₁_map is.1 (λ by. inr (link, by)))

pub fits_closed : (own : Own) (sent : List Passage) (talks : ℕ → Talk) (links : List (Option Link)) (place : ℕ) → place < length links → FitsBy own sent talks links → FitsBy own sent talks (set links place None)
fits_closed own sent talks links place within fits = fits_set own sent talks talks links place None within fits (closed_is own sent (talks place) (get_or links place None) (fits place)) (λ other differ. refl)

beside_at : (links : List (Option Link)) (place q : ℕ) (passed_old passed_new : List Passage) → length links ≤ place → passed_new ≡ passed_old ++ Began (line_at place) ∷ [] → (own : Own) (sent : List Passage) → Fits own sent passed_old links
    → ((eqb q place ≡ true) × (q ≡ place)) ⊎ ((eqb q place ≡ false) × (q ≢ place)) → IsOf own sent (talk_over passed_new (line_at q)) (get_or links q None)
beside_at links place q passed_old passed_new without same own sent fits (inl here) =
    let anew : talk_over passed_new (line_at q) ≡ silence (dialled_over (line_at q)) =
    ap (λ (n : ℕ). talk_over passed_new (line_at n)) here.1 ∙ (ap (λ (ps : List Passage). talk_over ps (line_at place)) same ∙ (began_anew passed_old place ∙ ap (λ (n : ℕ). silence (dialled_over (line_at n))) (sym here.1))) in
    subst (λ (l : Option Link). IsOf own sent (talk_over passed_new (line_at q)) l) (sym (get_or-eq_default links None (omega (arith, here.1, without)))) (tt, ∣ (inl (ap (λ (t : Talk). t.wrote) anew)) ∣₁)
beside_at links place q passed_old passed_new without same own sent fits (inr elsewhere) =
    subst (λ (t : Talk). IsOf own sent t (get_or links q None)) (sym (ap (λ (ps : List Passage). talk_over ps (line_at q)) same ∙ began_elsewhere passed_old place q (λ e. elsewhere.1 (sym e)))) (fits q)

-- a connection began where no place is
pub fits_beside : (own : Own) (sent : List Passage) (links : List (Option Link)) (place : ℕ) (passed_old passed_new : List Passage) → length links ≤ place → passed_new ≡ passed_old ++ Began (line_at place) ∷ [] → Fits own sent passed_old links → Fits own sent passed_new links
fits_beside own sent links place passed_old passed_new without same fits q = beside_at links place q passed_old passed_new without same own sent fits (eqb_tells q place)

pub no_links_fit : (own : Own) (sent : List Passage) (talks : ℕ → Talk) (links : List (Option Link)) → ((place : ℕ) → get_or links place None ≡ None) → ((place : ℕ) → (talks place).wrote ≡ []) → FitsBy own sent talks links
no_links_fit own sent talks links none silent place = subst (λ (l : Option Link). IsOf own sent (talks place) l) (sym (none place)) (tt, ∣ (inl (silent place)) ∣₁)

-- more was handed to the peers
pub fits_sent : (own : Own) (sent more passed : List Passage) (links : List (Option Link)) → Fits own sent passed links → Fits own (sent ++ more) passed links
fits_sent own sent more passed links fits place = ((fits place).0, speaks_more own sent more (talk_over passed (line_at place)) (get_or links place None) (fits place).1)

said_in : (saying : Saying) (frame : Frame) (links : List (Option Link)) (place : ℕ) (old : Option Link) → old ≡ get_or links place None → SaidBy saying frame old → SaidAt saying frame place links
said_in (sayings.Frame from) frame links place old at said = λ own talks hears. said own (talks place) (subst (λ (l : Option Link). Hears own (talks place) l) (sym at) (hears place))
said_in sayings.Waits frame links place old at said = tt
said_in sayings.Nothing frame links place old at said = tt
said_in (sayings.Hello hello) frame links place old at said = tt
said_in (sayings.Beat from beat) frame links place old at said = tt
said_in (sayings.Further from further) frame links place old at said = tt
said_in (sayings.Proved hello) frame links place old at said = tt
said_in (sayings.Fault fault) frame links place old at said = tt

pub said_at : (saying : Saying) (frame : Frame) (links : List (Option Link)) (place : ℕ) (old : Option Link) → old ≡ get_or links place None → SaidBy saying frame old → SaidAt saying frame place links
said_at saying frame links place old at said = said_in saying frame links place old at said

-- ---- over lines

pub are_told_behind : (own : Own) (old new more : List Passage) (told : List Notice) → new ≡ old ++ more → AreTold own old told → AreTold own new told
are_told_behind own old new more told same are = subst (λ (ps : List Passage). AreTold own ps told) (sym same) (are_told_on own old more told are)

pub are_aside_behind : (own : Own) (old new more : List Passage) (frames : List (Option Frame)) → new ≡ old ++ more → AreAside own old frames → AreAside own new frames
are_aside_behind own old new more frames same are = subst (λ (ps : List Passage). AreAside own ps frames) (sym same) (are_aside_on own old more frames are)

pub are_told_through : (own : Own) (old new wired_old wired_new : List Passage) (told : List Notice) → Adds old new wired_old wired_new → AreTold own old told → AreTold own new told
are_told_through own old new wired_old wired_new told adds are = subst (λ (ps : List Passage). AreTold own ps told) (sym adds.put_down) (are_told_on own old adds.more told are)

pub are_aside_through : (own : Own) (old new wired_old wired_new : List Passage) (frames : List (Option Frame)) → Adds old new wired_old wired_new → AreAside own old frames → AreAside own new frames
are_aside_through own old new wired_old wired_new frames adds are = subst (λ (ps : List Passage). AreAside own ps frames) (sym adds.put_down) (are_aside_on own old adds.more frames are)

by_place : (low : Bool) (place number : ℕ) → low ≡ false → number ≡ place - DIALLED → Caller number ≡ (if low then Peer place else Caller (place - DIALLED))
by_place true place number e f = absurd cc
by_place false place number e f = ap (λ (n : ℕ). Caller n) f

pub caller_line : (place number : ℕ) → place ≡ DIALLED + number → Caller number ≡ line_at place
caller_line place number e = by_place (nat_lt place DIALLED) place number (le-ltb place DIALLED (omega (arith, e))) (omega (arith, e))

by_peer : (low : Bool) (place : ℕ) → low ≡ true → Peer place ≡ (if low then Peer place else Caller (place - DIALLED))
by_peer true place e = refl
by_peer false place e = absurd cc

pub peer_line : (place : ℕ) → place < DIALLED → Peer place ≡ line_at place
peer_line place within = by_peer (nat_lt place DIALLED) place (lt-ltb place DIALLED within)
