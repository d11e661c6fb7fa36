-- A frame that is coded as it lies is said as one that waited.
use Rattle.std.proofs.Common.{◌≡◌, ◌∙◌, ℕ, Bool, true, cond, ◌==◌, ◌&&◌, nat_lt, List, length, Option, Some, None, is_none, refl, sym, ap, subst}
use Rattle.std.proofs.lemmas.Bool.{and_parts}
use Rattle.byte_queue.specs.Queued.{Queued}
use Rattle.peer_codes.specs.declared.limits.TheConstants.{LAST_NUMBER}
use Rattle.peer_codes.specs.declared.beat.Beat.{Beat}
use Rattle.peer_codes.specs.declared.frame.Frame.{Frame}
use Rattle.peer_codes.specs.declared.hello.Hello.{Hello}
use Rattle.peer_codes.specs.declared.key.Key.{Key}
use Rattle.peer_codes.specs.declared.kind.Kind.TheVariants as kind_of
use Rattle.peer_codes.specs.declared.more.More.{More}
use Rattle.peer_codes.specs.declared.phase.Ways.{Ways}
use Rattle.peer_codes.specs.declared.phase.Phase.{Phase}
use Rattle.peer_codes.specs.declared.phase.Phase.TheVariants as phases
use Rattle.peer_codes.specs.declared.records.Proof.{Proof}
use Rattle.peer_codes.specs.declared.way.Way.{Way}
use Rattle.peer_codes.specs.declared.outgoing.Outgoing.{Outgoing}
use Rattle.peer_codes.specs.declared.connection.Connection.{Connection}
use Rattle.peer_codes.specs.Codes.{coded, after}
use Rattle.peer_codes.specs.Outgoings.{unwritten, with_begun, and_frame, is_idle}
use Rattle.peer_codes.specs.Connections.{said, is_free, with_frame, begun_on, begun_first, begun_next}

none_there : {A : Type 0} (x : Option A) → is_none x ≡ true → x ≡ None
none_there None e = refl
none_there (Some x) e = absurd cc

-- it goes next where nothing else waits
on_free : (ways : Ways) (key : Key) (came : Queued) (out : Outgoing) (bytes : List ℕ) (beat : Option Beat) (more : Option More) (frame : Option Frame)
    → beat ≡ None → more ≡ None → frame ≡ None → out.frame ≡ frame
    → begun_on ways beat more (and_frame frame (record { bytes = record { items = bytes } })) key came (record out { frame = and_frame frame (record { bytes = record { items = bytes } }) }) ≡ said ways kind_of.Frame bytes key came out
on_free ways key came out bytes None None None b m f is = ap (λ (x : Option Frame). said ways kind_of.Frame bytes key came (record out { frame = x })) (sym is)
on_free ways key came out bytes (Some beat) more frame b m f is = absurd cc
on_free ways key came out bytes None (Some more) frame b m f is = absurd cc
on_free ways key came out bytes None None (Some frame) b m f is = absurd cc

-- where no Hello and no proof waits, what an open connection has to say is begun
first_free : (c : Connection) (hello : Option Hello) (proof : Option Proof) → hello ≡ None → proof ≡ None → begun_first hello proof c ≡ begun_first None None c
first_free c None None h p = refl
first_free c (Some hello) proof h p = absurd cc
first_free c None (Some proof) h p = absurd cc

pub coded_at_once : (ways : Ways) (key : Key) (came : Queued) (out : Outgoing) (bytes : List ℕ) → (nat_lt ways.writing.number LAST_NUMBER && is_idle out) ≡ true
    → begun_next (with_frame bytes (record { key = key; phase = phases.Open ways; came = came; out = out })) ≡ said ways kind_of.Frame bytes key came out
unfolding begun_next
coded_at_once ways key came out bytes free =
    let idle = and_parts (nat_lt ways.writing.number LAST_NUMBER) (is_idle out) free in
    let whole = and_parts (length (unwritten out) == 0) (is_none out.hello && (is_none out.proof && (is_none out.beat && (is_none out.more && is_none out.frame)))) idle.1 in
    let unsaid = and_parts (is_none out.hello) (is_none out.proof && (is_none out.beat && (is_none out.more && is_none out.frame))) whole.1 in
    let unproved = and_parts (is_none out.proof) (is_none out.beat && (is_none out.more && is_none out.frame)) unsaid.1 in
    let unbeaten = and_parts (is_none out.beat) (is_none out.more && is_none out.frame) unproved.1 in
    let unframed = and_parts (is_none out.more) (is_none out.frame) unbeaten.1 in
    let c : Connection = with_frame bytes (record { key = key; phase = phases.Open ways; came = came; out = out }) in
    ap (λ (b : Bool). cond b (begun_first out.hello out.proof c) c) whole.0
    ∙ (first_free c out.hello out.proof (none_there out.hello unsaid.0) (none_there out.proof unproved.0)
    ∙ (ap (λ (b : Bool). cond b (begun_on ways c.out.beat c.out.more c.out.frame key came c.out) c) idle.0
    ∙ on_free ways key came out bytes out.beat out.more out.frame (none_there out.beat unbeaten.0) (none_there out.more unframed.0) (none_there out.frame unframed.1) refl))

-- the same of a connection that is open
pub coded_in : (c : Connection) (ways : Ways) (way : Way) (out : Outgoing) (bytes : List ℕ) → c.phase ≡ phases.Open ways → is_free c.phase c.out ≡ true
    → out ≡ with_begun (coded ways.writing kind_of.Frame bytes) c.out → way ≡ after ways.writing (length bytes)
    → (record c { phase = phases.Open (record { reading = ways.reading; writing = way }); out = out }) ≡ begun_next (with_frame bytes c)
coded_in c ways way out bytes is free out_is way_is =
    let is_open : (nat_lt ways.writing.number LAST_NUMBER && is_idle c.out) ≡ true = subst (λ (p : Phase). is_free p c.out ≡ true) is free in
    ap (λ (o : Outgoing). record c { phase = phases.Open (record { reading = ways.reading; writing = way }); out = o }) out_is
    ∙ (ap (λ (w : Way). record c { phase = phases.Open (record { reading = ways.reading; writing = w }); out = with_begun (coded ways.writing kind_of.Frame bytes) c.out }) way_is
    ∙ (sym (coded_at_once ways c.key c.came c.out bytes is_open)
    ∙ sym (ap (λ (p : Phase). begun_next (with_frame bytes (record c { phase = p }))) is)))
