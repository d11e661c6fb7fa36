-- What a reader of the program gave has its text in front, and the text in front is read.
use Rattle.std.proofs.Common.{◌≡◌, ◌<◌, ℕ, List, ◌++◌, Option, Some, None, Result, Ok, Err, IfOk, IfErr, IfSome, IsSomeAnd, sym, ap, ◌∙◌}
use Rattle.std.proofs.Common.{Bor}
use Rattle.std.proofs.lemmas.Option.{same_Some}
use Rattle.paxos_wire.specs.declared.fault.FrameFault.{FrameFault}
use Rattle.paxos_wire.specs.declared.message.Message.{Message}
use Rattle.paxos_wire.specs.declared.ballot.Ballot.{Ballot}
use Rattle.paxos_wire.specs.declared.version.Version.{Version}
use Rattle.paxos_wire.specs.Versions.{nodes_in}
use Rattle.paxos_wire.specs.Fits.{IsBallot, IsMessage}
use Rattle.paxos_wire.specs.Spelling.{ballot_text, IsText}
use Rattle.paxos_wire.specs.Faults.{fault_of, reading}
use Rattle.paxos_wire.specs.Reading.{Gives}
use Rattle.paxos_wire.proofs.Steps.{IsBytes, Takes}
use Rattle.paxos_wire.proofs.CommandLaws.{IsBallotIn}
use Rattle.paxos_wire.proofs.FrameLaws.{frame_is, fault_is}

module _ {X : Type 0} (text : X → List ℕ) (P : X → Type 0) (read : List ℕ → Option (X × List ℕ)) where
  pub front_found : (bytes : List ℕ) (r : Option (X × Bor (List ℕ))) → ((x : X × List ℕ) → read bytes ≡ Some x → Takes text P bytes x) → Gives (λ x. (x.0, x.1.now)) r (read bytes) → IfSome r (λ x. P x.0 × (bytes ≡ text x.0 ++ x.1.now))
  front_found bytes None takes given = tt
  front_found bytes (Some x) takes given = let t = takes (x.0, x.1.now) given in (t.fits, t.parts)

  pub front_only : (bytes : List ℕ) (r : Option (X × Bor (List ℕ))) → Gives (λ x. (x.0, x.1.now)) r (read bytes) → (x : X) (rest : List ℕ) → read (text x ++ rest) ≡ Some (x, rest) → bytes ≡ text x ++ rest → IsSomeAnd r (λ y. (y.0 ≡ x) × (y.1.now ≡ rest))
  front_only bytes None given x rest again is = absurd (cc (given, ap read is, again))
  front_only bytes (Some y) given x rest again is =
      let pair : X × List ℕ = (y.0, y.1.now) in
      let same : pair ≡ (x, rest) = same_Some pair (x, rest) (sym given ∙ ap read is ∙ again) in
      (ap (λ (p : X × List ℕ). p.0) same, ap (λ (p : X × List ℕ). p.1) same)

-- a ballot of the version has its numbers in their ranges
pub ballot_found : (version : Version) (bytes : List ℕ) (r : Option (Ballot × Bor (List ℕ))) → IfSome r (λ x. IsBallotIn version x.0 × (bytes ≡ ballot_text x.0 ++ x.1.now))
    → IfSome r (λ x. IsBallot x.0 × (x.0.node < nodes_in version) × (bytes ≡ ballot_text x.0 ++ x.1.now))
ballot_found version bytes None h = tt
ballot_found version bytes (Some x) h = (h.0.ballot, h.0.node, h.1)

pub frame_found : (bytes : List ℕ) (r : Result Message FrameFault) → IsBytes bytes → r ≡ reading bytes → IfOk r (λ m. IsMessage m × IsText m bytes)
frame_found bytes (Ok m) fits e = frame_is bytes m fits (sym e)
frame_found bytes (Err f) fits e = tt

pub frame_fault : (bytes : List ℕ) (r : Result Message FrameFault) → r ≡ reading bytes → IfErr r (λ f. f ≡ fault_of bytes)
frame_fault bytes (Ok m) e = tt
frame_fault bytes (Err f) e = fault_is bytes f (sym e)
