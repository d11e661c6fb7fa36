-- A record of a frame that stands in front of a stream, and what it does on an open connection.
use Rattle.std.proofs.Common.{◌≡◌, ℕ, ◌≤◌, Bool, true, false, cond, List, length, take, drop, Result, Ok, Err, refl, sym, ap, subst, ◌∙◌, arith}
use Rattle.std.proofs.lemmas.List.{length-drop, length-take-le}
use Rattle.paxos_wire.proofs.Steps.{IsBytes}
use Rattle.peer_codes.specs.declared.fault.RecordFault.{RecordFault}
use Rattle.peer_codes.specs.declared.fault.RecordFault.TheVariants.{BadLength}
use Rattle.peer_codes.specs.declared.frame.Frame.{Frame}
use Rattle.peer_codes.specs.declared.hello.Hello.{Hello}
use Rattle.peer_codes.specs.declared.kind.Kind.{Kind}
use Rattle.peer_codes.specs.declared.kind.Kind.TheVariants as kind_of
use Rattle.peer_codes.specs.declared.records.Record.TheVariants as record_of
use Rattle.peer_codes.specs.Reading.{content_of, is_frame}
use Rattle.peer_codes.specs.Faults.{needed, kind_in, content_read, reading}
use Rattle.peer_codes.proofs.StreamLaws.{found_by}
use Rattle.node_links.specs.declared.heard.Heard.TheVariants as heards
use Rattle.node_links.specs.declared.phase.Phase.{Phase}
use Rattle.node_links.specs.declared.phase.Phase.TheVariants as phases
use Rattle.node_links.specs.declared.plain_connection.PlainConnection.{PlainConnection}
use Rattle.node_links.specs.Connections.{IsFront, Reads}
use Rattle.node_links.specs.Frames.{frame_of}
use Rattle.node_links.specs.Fronts.{HasFrame}
use Rattle.node_links.specs.Steps.{step_by}

by_test : {A : Type 0} (b : Bool) (x y : A) → b ≡ true → cond b x y ≡ x
by_test true x y is = refl
by_test false x y is = absurd cc

content_frame : (content : List ℕ) → is_frame content ≡ true → content_of kind_of.Frame content ≡ Ok (record_of.Frame (frame_of content))
unfolding content_of
content_frame content is = by_test (is_frame content) (Ok (record_of.Frame (frame_of content))) (Err BadLength) is

reading_frame : (front : List ℕ) → kind_in front ≡ Ok kind_of.Frame → is_frame (drop 5 front) ≡ true → reading front ≡ Ok (record_of.Frame (frame_of (drop 5 front)))
unfolding reading
reading_frame front kind is = ap (λ (k : Result Kind RecordFault). content_read k (drop 5 front)) kind ∙ content_frame (drop 5 front) is

pub has_frame : (bytes : List ℕ) (end : ℕ) → IsBytes bytes → end ≡ needed bytes → end ≤ length bytes → kind_in (take end bytes) ≡ Ok kind_of.Frame → is_frame (drop 5 (take end bytes)) ≡ true → HasFrame bytes end
has_frame bytes end fits is there kind frame =
    let found = found_by bytes end (Ok (record_of.Frame (frame_of (drop 5 (take end bytes))))) fits is there (sym (reading_frame (take end bytes) kind frame)) in
    record {
      least = omega (arith, found.0.least, length-drop 5 (take end bytes), length-take-le end bytes there);
      there = there;
      most = found.0.most;
      front = found;
    }

-- on an open connection it is told, and taken
pub reads_frame : (old new : PlainConnection) (end : ℕ) (frame : Frame) (other : Hello) → HasFrame old.came.waiting end → new.came.waiting ≡ drop end old.came.waiting → new ≡ record old { came = new.came } → frame ≡ frame_of (drop 5 (take end old.came.waiting))
    → old.phase ≡ phases.Open other → Reads old new (Ok (heards.Frame frame))
reads_frame old new end frame other has waiting others is at = record {
  read = Ok (record_of.Frame frame);
  front =
      subst (λ (w : List ℕ). IsFront old.came.waiting (Ok (record_of.Frame frame)) w) (sym waiting)
      (subst (λ (f : Frame). IsFront old.came.waiting (Ok (record_of.Frame f)) (drop end old.came.waiting)) (sym is) has.front);
  told_is = ap (λ (p : Phase). (step_by p (Ok (record_of.Frame frame))).heard) (sym at);
  others =
      others
      ∙ ap (λ (p : Phase). let c : PlainConnection = record { phase = p; came = new.came; out = old.out } in c) (at ∙ ap (λ (p : Phase). (step_by p (Ok (record_of.Frame frame))).phase) (sym at));
}
