-- What one side says the other hears.
use Rattle.std.proofs.Common.{◌≡◌, ℕ, List, [], ◌∷◌, ◌++◌, append_assoc, Some, None, Result, Ok, Err, refl, sym, ap, subst, ◌∙◌, arith}
use Rattle.peer_codes.specs.declared.fault.RecordFault.{RecordFault}
use Rattle.peer_codes.specs.declared.hello.Hello.{Hello}
use Rattle.peer_codes.specs.declared.records.Record.{Record}
use Rattle.peer_codes.specs.declared.records.Record.TheVariants as record_of
use Rattle.peer_codes.specs.Fits.{IsRecord}
use Rattle.peer_codes.specs.Spelling.{record_text}
use Rattle.peer_codes.specs.Faults.{IsPartial}
use Rattle.node_links.specs.declared.peer_fault.PeerFault.{PeerFault}
use Rattle.node_links.specs.declared.heard.Heard.{Heard}
use Rattle.node_links.specs.declared.phase.Phase.{Phase}
use Rattle.node_links.specs.declared.phase.Phase.TheVariants as phases
use Rattle.node_links.specs.declared.plain_connection.PlainConnection.{PlainConnection}
use Rattle.node_links.specs.Steps.{on_further, on_open, step_by}
use Rattle.node_links.specs.Telling.{IsRead, read_behind}
use Rattle.node_links.specs.declared.further.Further.{Further}
use Rattle.node_links.specs.Connections.{IsFront, Reads, Next}
use Rattle.node_links.specs.Hearing.{IsSaid, texts, SaidIsHeard}

abbrev pub ToldApart : Type 0
ToldApart = (r s : Record) (a b : List ℕ) → IsRecord r → IsRecord s → record_text r ++ a ≡ record_text s ++ b → (r ≡ s) × (a ≡ b)

is_record : (other : Hello) (said : Record) → IsSaid other said → IsRecord said
is_record other (record_of.Frame frame) is = is
is_record other (record_of.Beat beat) is = is
is_record other (record_of.Hello hello) is = absurd is
is_record other (record_of.Proof proof) is = absurd is
is_record other (record_of.More more) is = is.0

read_open : (other : Hello) (read : Result Further RecordFault) → IsRead read → (on_further other read).phase ≡ phases.Open other
read_open other (Ok further) is = refl
read_open other (Err fault) is = absurd is

stays_open : (other : Hello) (said : Record) → IsSaid other said → (on_open other said).phase ≡ phases.Open other
stays_open other (record_of.Frame frame) is = refl
stays_open other (record_of.Beat beat) is = refl
stays_open other (record_of.Hello hello) is = absurd is
stays_open other (record_of.Proof proof) is = absurd is
stays_open other (record_of.More more) is = read_open other (read_behind other more) is.1

-- what is read in front of a record's text is that record
read_is : ToldApart → (bytes : List ℕ) (read : Result Record RecordFault) (left : List ℕ) (said : Record) (rest : List ℕ) → IsRecord said → bytes ≡ record_text said ++ rest → IsFront bytes read left
    → (read ≡ Ok said) × (left ≡ rest)
read_is apart bytes (Err fault) left said rest is text front = absurd (front.none said rest is text)
read_is apart bytes (Ok found) left said rest is text front =
    let same = apart found said left rest front.0 is (sym front.1 ∙ text) in
    (ap (λ (r : Record). let x : Result Record RecordFault = Ok r in x) same.0, same.1)

record One (old new : PlainConnection) (other : Hello) (told : Result Heard PeerFault) (said : Record) (rest : List ℕ) : Type 0 where
  pub told_is : told ≡ (on_open other said).heard
  pub phase : new.phase ≡ phases.Open other
  pub left : new.came.waiting ≡ rest

-- one call on an open connection
one_read : ToldApart → (old new : PlainConnection) (other : Hello) (told : Result Heard PeerFault) (said : Record) (rest : List ℕ) → IsSaid other said → old.phase ≡ phases.Open other
    → old.came.waiting ≡ record_text said ++ rest → Reads old new told → One old new other told said rest
one_read apart old new other told said rest is is_open text reads =
    let same = read_is apart old.came.waiting reads.read new.came.waiting said rest (is_record other said is) text reads.front in
    let step : step_by old.phase reads.read ≡ on_open other said = ap (λ (p : Phase). step_by p reads.read) is_open ∙ ap (λ (r : Result Record RecordFault). step_by (phases.Open other) r) same.0 in
    record {
      told_is = reads.told_is ∙ ap (λ s. s.heard) step;
      phase = ap (λ (c : PlainConnection). c.phase) reads.others ∙ (ap (λ s. s.phase) step ∙ stays_open other said is);
      left = same.1;
    }

next_reads : (phase : Phase) (other : Hello) (old new : PlainConnection) (told : Result Heard PeerFault) → phase ≡ phases.Open other → Next phase old (Some told) new → Reads old new told
next_reads phase other old new told e next = subst (λ (p : Phase). Next p old (Some told) new) e next

heard : ToldApart → SaidIsHeard
heard apart old new other [] rest [] are is_open text count hears = (refl, ap (λ (c : PlainConnection). c.phase) hears ∙ is_open, ap (λ (c : PlainConnection). c.came.waiting) hears ∙ text)
heard apart old new other [] rest (told ∷ more) are is_open text count hears = absurd (omega (arith, count))
heard apart old new other (said ∷ behind) rest [] are is_open text count hears = absurd (omega (arith, count))
heard apart old new other (said ∷ behind) rest (told ∷ more) are is_open text count hears =
    let between = hears.0 in
    let first : One old between other told said (texts behind ++ rest) =
    one_read apart old between other told said (texts behind ++ rest) are.0 is_open (text ∙ append_assoc (record_text said) (texts behind) rest) (next_reads old.phase other old between told is_open hears.1) in
    let others = heard apart between new other behind rest more are.1 first.phase first.left (omega (arith, count)) hears.2 in
    (ap (λ (t : Result Heard PeerFault). t ∷ more) first.told_is ∙ ap (λ (ts : List (Result Heard PeerFault)). (on_open other said).heard ∷ ts) others.0, others.1, others.2)

pub said_is_heard : ToldApart → SaidIsHeard
said_is_heard apart = heard apart

-- ---- and it doesn't wait for more

abbrev AreWhole : Type 0
AreWhole = (r : Record) (bytes rest : List ℕ) → IsRecord r → bytes ≡ record_text r ++ rest → IsPartial bytes → ⊥

next_waits : (phase : Phase) (other : Hello) (old new : PlainConnection) → phase ≡ phases.Open other → Next phase old None new → IsPartial old.came.waiting
next_waits phase other old new e next = (subst (λ (p : Phase). Next p old None new) e next).0

pub whole_is_told : AreWhole → (old new : PlainConnection) (other : Hello) (said : Record) (rest : List ℕ) → IsRecord said → old.phase ≡ phases.Open other → old.came.waiting ≡ record_text said ++ rest → Next old.phase old None new → ⊥
whole_is_told whole old new other said rest is is_open text next = whole said old.came.waiting rest is text (next_waits old.phase other old new is_open next)
