-- What calls leave of what a connection without codes goes by.
use Rattle.std.proofs.Common.{◌≡◌, ℕ, ◌==◌, Bool, true, false, if◌then◌else◌, List, [], ◌∷◌, ◌++◌, length, append_assoc, append-nil, Option, Some, None, Result, Ok, Err, refl, sym, ap, subst, ◌∙◌}
use Rattle.std.proofs.Math.Logic.{∥∥₁_map}
use Rattle.peer_codes.specs.declared.fault.RecordFault.{RecordFault}
use Rattle.peer_codes.specs.declared.hello.Hello.{Hello}
use Rattle.peer_codes.specs.declared.key.Key.{Key}
use Rattle.peer_codes.specs.declared.version.Version.{Version}
use Rattle.peer_codes.specs.declared.records.Record.{Record}
use Rattle.peer_codes.specs.declared.records.Record.TheVariants as record_of
use Rattle.peer_codes.specs.Fits.{IsRecord}
use Rattle.peer_codes.specs.Spelling.{record_text}
use Rattle.node_links.specs.declared.further.Further.{Further}
use Rattle.node_links.specs.declared.heard.Heard.{Heard}
use Rattle.node_links.specs.declared.heard.Heard.TheVariants as heards
use Rattle.node_links.specs.declared.peer_fault.PeerFault.{PeerFault}
use Rattle.node_links.specs.declared.own.Own.{Own}
use Rattle.node_links.specs.declared.own.Met.{Met}
use Rattle.node_links.specs.declared.phase.Phase.{Phase}
use Rattle.node_links.specs.declared.phase.Phase.TheVariants as phases
use Rattle.node_links.specs.declared.plain_connection.PlainConnection.{PlainConnection}
use Rattle.node_links.specs.declared.connection.Connection.TheVariants.{Plain}
use Rattle.node_links.specs.Outgoings.{unwritten}
use Rattle.node_links.specs.Connections.{IsFront, Reads, Next, peer_in, said_next, begun_open, begun_by, begun_first, begun_next}
use Rattle.node_links.specs.Hearing.{IsSaid, AreSaid, texts}
use Rattle.node_links.specs.Judging.{judged}
use Rattle.node_links.specs.Steps.{is_version, on_further, stepped, step_by, opened, settled}
use Rattle.node_links.specs.Telling.{IsRead, read_behind}
use Rattle.node_links.specs.Waits.{Waits}
use Rattle.node_links.specs.Waiting.{next_of, has_next}
use Rattle.node_links.specs.Talks.{Talk, SaysPlain, HeardBy, SaysHeard}
use Rattle.node_links.specs.Going.{PlainAt, GoesOn, GoesOnWith, GoesOnWritten, Goes, silence, peer_of, Tells}
use Rattle.node_links.proofs.Stepping.{Told, greeted_phase, greeted_heard, further_phase, further_heard}

-- ---- texts

one_more : (said : List Record) (r : Record) (rest : List ℕ) → texts (said ++ r ∷ []) ++ rest ≡ texts said ++ (record_text r ++ rest)
one_more [] r rest = ap (λ (t : List ℕ). t ++ rest) (append-nil (record_text r))
one_more (s ∷ said) r rest =
    append_assoc (record_text s) (texts (said ++ r ∷ [])) rest ∙ (ap (λ (t : List ℕ). record_text s ++ t) (one_more said r rest) ∙ sym (append_assoc (record_text s) (texts said) (record_text r ++ rest)))

are_more : (other : Hello) (said : List Record) (r : Record) → AreSaid other said → IsSaid other r → AreSaid other (said ++ r ∷ [])
are_more other [] r are is = (is, tt)
are_more other (s ∷ said) r are is = (are.0, are_more other said r are.1 is)

-- ---- a piece more

piece_at : (own : Own) (dialled : Option ℕ) (came waiting piece : List ℕ) (phase : Phase) → PlainAt own dialled came waiting phase → PlainAt own dialled (came ++ piece) (waiting ++ piece) phase
piece_at own dialled came waiting piece (phases.Greeting mine) at = ap (λ (t : List ℕ). t ++ piece) at
piece_at own dialled came waiting piece (phases.Asked hello) at = record { is = at.is; text = ap (λ (t : List ℕ). t ++ piece) at.text ∙ append_assoc (record_text (record_of.Hello hello)) waiting piece }
piece_at own dialled came waiting piece (phases.Open hello) at = record {
  is = at.is;
  takes = at.takes;
  said = at.said;
  are = at.are;
  text =
      ap (λ (t : List ℕ). t ++ piece) at.text ∙ (append_assoc (record_text (record_of.Hello hello)) (texts at.said ++ waiting) piece ∙ ap (λ (t : List ℕ). record_text (record_of.Hello hello) ++ t) (append_assoc (texts at.said) waiting piece));
}
piece_at own dialled came waiting piece (phases.Closed fault) at = tt

-- ---- a record

said_at : (own : Own) (dialled : Option ℕ) (came waiting rest : List ℕ) (hello : Hello) (r : Record) → IsSaid hello r → waiting ≡ record_text r ++ rest → PlainAt own dialled came waiting (phases.Open hello) → PlainAt own dialled came rest (phases.Open hello)
said_at own dialled came waiting rest hello r is text at = record {
  is = at.is;
  takes = at.takes;
  said = at.said ++ r ∷ [];
  are = are_more hello at.said r at.are is;
  text = at.text ∙ ap (λ (t : List ℕ). record_text (record_of.Hello hello) ++ t) (ap (λ (t : List ℕ). texts at.said ++ t) text ∙ sym (one_more at.said r rest));
}

stepped_at : (own : Own) (dialled : Option ℕ) (came waiting rest : List ℕ) (phase : Phase) (said : Record) → IsRecord said → waiting ≡ record_text said ++ rest → PlainAt own dialled came waiting phase → PlainAt own dialled came rest (stepped phase said).phase
stepped_at own dialled came waiting rest (phases.Greeting mine) (record_of.Hello hello) is text at = greeted_phase (is_version mine hello.version) (λ (p : Phase). PlainAt own dialled came rest p) hello (λ same. record { is = is; text = at ∙ text }) (λ fault. tt)
stepped_at own dialled came waiting rest (phases.Greeting mine) (record_of.Proof proof) is text at = tt
stepped_at own dialled came waiting rest (phases.Greeting mine) (record_of.More more) is text at = tt
stepped_at own dialled came waiting rest (phases.Greeting mine) (record_of.Frame frame) is text at = tt
stepped_at own dialled came waiting rest (phases.Greeting mine) (record_of.Beat beat) is text at = tt
stepped_at own dialled came waiting rest (phases.Asked hello) said is text at = tt
stepped_at own dialled came waiting rest (phases.Open other) (record_of.Hello hello) is text at = tt
stepped_at own dialled came waiting rest (phases.Open other) (record_of.Proof proof) is text at = tt
stepped_at own dialled came waiting rest (phases.Open other) (record_of.More more) is text at =
    further_phase (read_behind other more) (λ (p : Phase). PlainAt own dialled came rest p) other (λ further read. said_at own dialled came waiting rest other (record_of.More more) (is, subst (λ (r : Result Further RecordFault). IsRead r) (sym read) tt) text at) (λ fault. tt)
stepped_at own dialled came waiting rest (phases.Open other) (record_of.Frame frame) is text at = said_at own dialled came waiting rest other (record_of.Frame frame) is text at
stepped_at own dialled came waiting rest (phases.Open other) (record_of.Beat beat) is text at = said_at own dialled came waiting rest other (record_of.Beat beat) is text at
stepped_at own dialled came waiting rest (phases.Closed fault) said is text at = tt

step_at : (own : Own) (dialled : Option ℕ) (came waiting rest : List ℕ) (phase : Phase) (read : Result Record RecordFault) → IsFront waiting read rest → PlainAt own dialled came waiting phase → PlainAt own dialled came rest (step_by phase read).phase
step_at own dialled came waiting rest phase (Err fault) front at = tt
step_at own dialled came waiting rest phase (Ok said) front at = stepped_at own dialled came waiting rest phase said front.0 front.1 at

-- ---- a call

abbrev AtOf : Own → Option ℕ → List ℕ → PlainConnection → Type 0
AtOf own dialled came c = PlainAt own dialled came c.came.waiting c.phase

reads_at : (own : Own) (dialled : Option ℕ) (came : List ℕ) (old new : PlainConnection) (told : Told) → Reads old new told → AtOf own dialled came old → AtOf own dialled came new
reads_at own dialled came old new told reads at =
    let next : new.phase ≡ (step_by old.phase reads.read).phase = ap (λ (c : PlainConnection). c.phase) reads.others in
    subst (λ (p : Phase). PlainAt own dialled came new.came.waiting p) (sym next) (step_at own dialled came old.came.waiting new.came.waiting old.phase reads.read reads.front at)

same_at : (own : Own) (dialled : Option ℕ) (came : List ℕ) (old new : PlainConnection) → new ≡ old → AtOf own dialled came old → AtOf own dialled came new
same_at own dialled came old new e at = subst (λ (c : PlainConnection). AtOf own dialled came c) (sym e) at

next_at : (own : Own) (dialled : Option ℕ) (came : List ℕ) (phase : Phase) (old new : PlainConnection) (result : Option Told) → Next phase old result new → AtOf own dialled came old → AtOf own dialled came new
next_at own dialled came (phases.Asked hello) old new result next at = same_at own dialled came old new next.1 at
next_at own dialled came (phases.Closed fault) old new result next at = same_at own dialled came old new next.1 at
next_at own dialled came (phases.Greeting mine) old new None next at = same_at own dialled came old new next.1 at
next_at own dialled came (phases.Greeting mine) old new (Some told) next at = reads_at own dialled came old new told next at
next_at own dialled came (phases.Open other) old new None next at = same_at own dialled came old new next.1 at
next_at own dialled came (phases.Open other) old new (Some told) next at = reads_at own dialled came old new told next at

-- ---- what is told

heard_is : (a b : Heard) → ◌≡◌ {A = Told} (Ok a) (Ok b) → a ≡ b
heard_is a b e = cc

from_of : (a b : ℕ) → Some a ≡ Some b → a ≡ b
from_of a b e = cc

abbrev record_said : (own : Own) (dialled : Option ℕ) (came waiting rest : List ℕ) (hello : Hello) (last : Record) (from : ℕ) → hello.ends.from ≡ from → IsRecord last → waiting ≡ record_text last ++ rest
    → PlainAt own dialled came waiting (phases.Open hello) → SaysPlain own from last dialled came
record_said own dialled came waiting rest hello last from from_is is text at = record {
  hello = hello;
  is = at.is;
  from_is = from_is;
  takes = at.takes;
  said = at.said;
  are = at.are;
  last_is = is;
  rest = rest;
  text = at.text ∙ ap (λ (t : List ℕ). record_text (record_of.Hello hello) ++ (texts at.said ++ t)) text;
}

abbrev PlainSays : Own → ℕ → Talk → Heard → Type 0
PlainSays own from talk heard = HeardBy None own from heard talk

says_as : (own : Own) (from : ℕ) (talk : Talk) (heard found : Heard) → ◌≡◌ {A = Told} (Ok heard) (Ok found) → PlainSays own from talk found → PlainSays own from talk heard
says_as own from talk heard found e says = subst (λ (h : Heard). PlainSays own from talk h) (sym (heard_is heard found e)) says

stepped_says : (own : Own) (talk : Talk) (waiting rest : List ℕ) (phase : Phase) (said : Record) (heard : Heard) (from : ℕ) → IsRecord said → waiting ≡ record_text said ++ rest → PlainAt own talk.dialled talk.came waiting phase
    → Ok heard ≡ (stepped phase said).heard → peer_in (stepped phase said).phase ≡ Some from → PlainSays own from talk heard
stepped_says own talk waiting rest (phases.Greeting mine) (record_of.Hello hello) heard from is text at e peer =
    greeted_heard (is_version mine hello.version) (λ (t : Told). Ok heard ≡ t → PlainSays own from talk heard) hello (λ f. says_as own from talk heard (heards.Hello hello) f tt) (λ fault f. absurd cc) e
stepped_says own talk waiting rest (phases.Greeting mine) (record_of.Proof proof) heard from is text at e peer = absurd cc
stepped_says own talk waiting rest (phases.Greeting mine) (record_of.More more) heard from is text at e peer = absurd cc
stepped_says own talk waiting rest (phases.Greeting mine) (record_of.Frame frame) heard from is text at e peer = absurd cc
stepped_says own talk waiting rest (phases.Greeting mine) (record_of.Beat beat) heard from is text at e peer = absurd cc
stepped_says own talk waiting rest (phases.Asked hello) said heard from is text at e peer = absurd cc
stepped_says own talk waiting rest (phases.Open other) (record_of.Hello hello) heard from is text at e peer = absurd cc
stepped_says own talk waiting rest (phases.Open other) (record_of.Proof proof) heard from is text at e peer = absurd cc
stepped_says own talk waiting rest (phases.Open other) (record_of.More more) heard from is text at e peer =
    further_heard (read_behind other more) (λ (t : Told). Ok heard ≡ t → PlainSays own from talk heard) other
    (λ further read f. says_as own from talk heard (heards.Further further) f (
      more,
      record_said own talk.dialled talk.came waiting rest other (record_of.More more) from (from_of other.ends.from from (subst (λ (r : Result Further RecordFault). peer_in (on_further other r).phase ≡ Some from) read peer)) is text at,
      read,
    )) (λ fault f. absurd cc) e
stepped_says own talk waiting rest (phases.Open other) (record_of.Frame frame) heard from is text at e peer =
    says_as own from talk heard (heards.Frame frame) e (record_said own talk.dialled talk.came waiting rest other (record_of.Frame frame) from (from_of other.ends.from from peer) is text at)
stepped_says own talk waiting rest (phases.Open other) (record_of.Beat beat) heard from is text at e peer =
    says_as own from talk heard (heards.Beat beat) e (record_said own talk.dialled talk.came waiting rest other (record_of.Beat beat) from (from_of other.ends.from from peer) is text at)
stepped_says own talk waiting rest (phases.Closed fault) said heard from is text at e peer = absurd cc

step_says : (own : Own) (talk : Talk) (waiting rest : List ℕ) (phase : Phase) (read : Result Record RecordFault) (heard : Heard) (from : ℕ) → IsFront waiting read rest → PlainAt own talk.dialled talk.came waiting phase
    → Ok heard ≡ (step_by phase read).heard → peer_in (step_by phase read).phase ≡ Some from → PlainSays own from talk heard
step_says own talk waiting rest phase (Err fault) heard from front at e peer = absurd cc
step_says own talk waiting rest phase (Ok said) heard from front at e peer = stepped_says own talk waiting rest phase said heard from front.0 front.1 at e peer

reads_says : (own : Own) (talk : Talk) (old new : PlainConnection) (heard : Heard) (from : ℕ) → Reads old new (Ok heard) → AtOf own talk.dialled talk.came old → peer_in new.phase ≡ Some from → PlainSays own from talk heard
reads_says own talk old new heard from reads at peer =
    let next : new.phase ≡ (step_by old.phase reads.read).phase = ap (λ (c : PlainConnection). c.phase) reads.others in
    step_says own talk old.came.waiting new.came.waiting old.phase reads.read heard from reads.front at reads.told_is (subst (λ (p : Phase). peer_in p ≡ Some from) next peer)

none_told : (told : Told) → Some told ≡ None → ⊥
none_told told e = absurd cc

fault_told : (heard : Heard) (fault : PeerFault) → ◌≡◌ {A = Option Told} (Some (Ok heard)) (Some (Err fault)) → ⊥
fault_told heard fault e = absurd cc

next_says : (own : Own) (talk : Talk) (phase : Phase) (old new : PlainConnection) (heard : Heard) (from : ℕ) → Next phase old (Some (Ok heard)) new → AtOf own talk.dialled talk.came old → peer_in new.phase ≡ Some from
    → PlainSays own from talk heard
next_says own talk (phases.Asked hello) old new heard from next at peer = absurd (none_told (Ok heard) next.0)
next_says own talk (phases.Closed fault) old new heard from next at peer = absurd (fault_told heard fault next.0)
next_says own talk (phases.Greeting mine) old new heard from next at peer = reads_says own talk old new heard from next at peer
next_says own talk (phases.Open other) old new heard from next at peer = reads_says own talk old new heard from next at peer

-- ---- a Hello that is judged

opened_at : (own : Own) (dialled : Option ℕ) (met : List Met) (came waiting : List ℕ) (hello : Hello) (verdict : Result (Unit {0}) PeerFault) → judged own dialled met hello ≡ verdict → PlainAt own dialled came waiting (phases.Asked hello)
    → PlainAt own dialled came waiting (opened verdict hello)
opened_at own dialled met came waiting hello (Ok done) is at = record { is = at.is; takes = (met, is); said = []; are = tt; text = at.text }
opened_at own dialled met came waiting hello (Err fault) is at = tt

settled_at : (own : Own) (dialled : Option ℕ) (met : List Met) (came waiting : List ℕ) (phase : Phase) → PlainAt own dialled came waiting phase → PlainAt own dialled came waiting (settled own dialled met phase)
settled_at own dialled met came waiting (phases.Greeting mine) at = at
settled_at own dialled met came waiting (phases.Asked hello) at = opened_at own dialled met came waiting hello (judged own dialled met hello) refl at
settled_at own dialled met came waiting (phases.Open hello) at = at
settled_at own dialled met came waiting (phases.Closed fault) at = tt

-- ---- a record that is begun

abbrev IsAlike : PlainConnection → PlainConnection → Type 0
IsAlike new old = (new.came.waiting ≡ old.came.waiting) × (new.phase ≡ old.phase)

said_alike : (c : PlainConnection) (said : Option Record) → IsAlike (said_next c said) c
said_alike c None = (refl, refl)
said_alike c (Some said) = (refl, refl)

either_alike : (b : Bool) (c : PlainConnection) (w : Waits) (p : PlainConnection × Waits) → IsAlike p.0 c → IsAlike (if b then p else (c, w)).0 c
either_alike true c w p is = is
either_alike false c w p is = (refl, refl)

by_alike : (phase : Phase) (c : PlainConnection) (w : Waits) → IsAlike (begun_by phase c w).0 c
by_alike (phases.Open other) c w = either_alike (has_next other.version w) c w (begun_open other.version c w) (said_alike c (next_of other.version w))
by_alike (phases.Greeting mine) c w = (refl, refl)
by_alike (phases.Asked hello) c w = (refl, refl)
by_alike (phases.Closed fault) c w = (refl, refl)

first_alike : (hello : Option Hello) (phase : Phase) (c : PlainConnection) (w : Waits) → IsAlike (begun_first hello phase c w).0 c
first_alike (Some hello) phase c w = (refl, refl)
first_alike None phase c w = by_alike phase c w

begun_alike : (c : PlainConnection) (w : Waits) → IsAlike (begun_next c w).0 c
unfolding begun_next
begun_alike c w = either_alike (length (unwritten c.out) == 0) c w (begun_first c.out.hello c.phase c w) (first_alike c.out.hello c.phase c w)

-- ---- what each call keeps

-- as far as it was, and with as much that isn't read
alike_at : (own : Own) (dialled : Option ℕ) (came : List ℕ) (old new : PlainConnection) → IsAlike new old → AtOf own dialled came old → AtOf own dialled came new
alike_at own dialled came old new alike at = subst (λ (p : Phase). PlainAt own dialled came new.came.waiting p) (sym alike.1) (subst (λ (w : List ℕ). PlainAt own dialled came w old.phase) (sym alike.0) at)

pub plain_begins : (own : Own) (dialled : Option ℕ) (mine : Option Version) (c : PlainConnection) → own.key ≡ None → c.came.waiting ≡ [] → c.phase ≡ phases.Greeting mine → Goes own (silence dialled) (Plain c)
plain_begins own dialled mine c key waiting phase = ∣ (key, subst (λ (p : Phase). PlainAt own dialled [] c.came.waiting p) (sym phase) (sym waiting)) ∣₁

pub plain_takes : (old new : PlainConnection) (piece : List ℕ) → new.came.waiting ≡ old.came.waiting ++ piece → new.phase ≡ old.phase → GoesOnWith (Plain old) (Plain new) piece
plain_takes old new piece waiting phase own talk goes =
    ∥∥₁_map goes (λ g. (
      g.0,
      subst (λ (p : Phase). PlainAt own talk.dialled (talk.came ++ piece) new.came.waiting p) (sym phase)
          (subst (λ (w : List ℕ). PlainAt own talk.dialled (talk.came ++ piece) w old.phase) (sym waiting) (piece_at own talk.dialled talk.came old.came.waiting piece old.phase g.1)),
    ))

pub plain_nexts : (old new : PlainConnection) (result : Option Told) → Next old.phase old result new → GoesOn (Plain old) (Plain new)
plain_nexts old new result next own talk goes = ∥∥₁_map goes (λ g. (g.0, next_at own talk.dialled talk.came old.phase old new result next g.1))

plain_told : (old new : PlainConnection) (heard : Heard) → Next old.phase old (Some (Ok heard)) new → (own : Own) (talk : Talk) (from : ℕ) → Goes own talk (Plain old) → peer_of (Plain new) ≡ Some from
    → ∥ SaysHeard own from heard talk ∥₁
plain_told old new heard next own talk from goes peer =
    ∥∥₁_map goes (λ g. subst (λ (k : Option Key). HeardBy k own from heard talk) (sym g.0) (next_says own talk old.phase old new heard from next g.1 peer))

pub plain_tells : (old new : PlainConnection) (result : Option Told) → Next old.phase old result new → Tells result (Plain old) (Plain new)
plain_tells old new None next = tt
plain_tells old new (Some (Err fault)) next = tt
plain_tells old new (Some (Ok heard)) next = plain_told old new heard next

pub plain_settles : (own : Own) (dialled : Option ℕ) (met : List Met) (old new : PlainConnection) → new.came.waiting ≡ old.came.waiting → new.phase ≡ settled own dialled met old.phase → (talk : Talk) → talk.dialled ≡ dialled
    → Goes own talk (Plain old) → Goes own talk (Plain new)
plain_settles own dialled met old new waiting phase talk same goes =
    ∥∥₁_map goes (λ g. (
      g.0,
      subst (λ (p : Phase). PlainAt own talk.dialled talk.came new.came.waiting p) (sym (phase ∙ ap (λ (d : Option ℕ). settled own d met old.phase) (sym same)))
          (subst (λ (w : List ℕ). PlainAt own talk.dialled talk.came w (settled own talk.dialled met old.phase)) (sym waiting) (settled_at own talk.dialled met talk.came old.came.waiting old.phase g.1)),
    ))

pub plain_stays : (old new : PlainConnection) → new.came.waiting ≡ old.came.waiting → new.phase ≡ old.phase → GoesOn (Plain old) (Plain new)
plain_stays old new waiting phase own talk goes = ∥∥₁_map goes (λ g. (g.0, alike_at own talk.dialled talk.came old new (waiting, phase) g.1))

pub plain_says : (old new : PlainConnection) (w : Waits) → new ≡ (begun_next old w).0 → GoesOn (Plain old) (Plain new)
plain_says old new w e =
    let alike = begun_alike old w in
    plain_stays old new (ap (λ (c : PlainConnection). c.came.waiting) e ∙ alike.0) (ap (λ (c : PlainConnection). c.phase) e ∙ alike.1)

pub plain_writes : (old new : PlainConnection) (count : ℕ) → new.came.waiting ≡ old.came.waiting → new.phase ≡ old.phase → GoesOnWritten (Plain old) (Plain new) count
plain_writes old new count waiting phase own talk goes = ∥∥₁_map goes (λ g. (g.0, alike_at own talk.dialled talk.came old new (waiting, phase) g.1))
