-- What a Hello and a record of a further kind do, by cases.
use Rattle.std.proofs.Common.{◌≡◌, Bool, true, false, if◌then◌else◌, Result, Ok, Err, refl}
use Rattle.peer_codes.specs.declared.fault.RecordFault.{RecordFault}
use Rattle.peer_codes.specs.declared.fault.RecordFault.TheVariants.{BadHello}
use Rattle.peer_codes.specs.declared.version.Version.{Version}
use Rattle.peer_codes.specs.declared.version.Version.TheVariants.{First, Second}
use Rattle.peer_codes.specs.declared.hello.Hello.{Hello}
use Rattle.peer_codes.specs.Versions.{same_version}
use Rattle.node_links.specs.declared.peer_fault.PeerFault.{PeerFault}
use Rattle.node_links.specs.declared.peer_fault.PeerFault.TheVariants as faults
use Rattle.node_links.specs.declared.further.Further.{Further}
use Rattle.node_links.specs.declared.heard.Heard.{Heard}
use Rattle.node_links.specs.declared.heard.Heard.TheVariants as heards
use Rattle.node_links.specs.declared.phase.Phase.{Phase}
use Rattle.node_links.specs.declared.phase.Phase.TheVariants as phases
use Rattle.node_links.specs.Steps.{closed, asked, on_further}

abbrev pub Told : Type 0
Told = Result Heard PeerFault

-- a Hello is asked about, or isn't taken
pub greeted_phase : (b : Bool) (P : Phase → Type 0) (hello : Hello) → (b ≡ true → P (phases.Asked hello)) → ((fault : PeerFault) → P (phases.Closed fault)) → P (if b then asked hello else closed (faults.Record BadHello)).phase
greeted_phase true P hello one other = one refl
greeted_phase false P hello one other = other (faults.Record BadHello)

pub greeted_heard : (b : Bool) (P : Told → Type 0) (hello : Hello) → P (Ok (heards.Hello hello)) → ((fault : PeerFault) → P (Err fault)) → P (if b then asked hello else closed (faults.Record BadHello)).heard
greeted_heard true P hello one other = one
greeted_heard false P hello one other = other (faults.Record BadHello)

-- a record of a further kind tells something, or closes the connection
pub further_phase : (read : Result Further RecordFault) (P : Phase → Type 0) (other : Hello) → ((further : Further) → read ≡ Ok further → P (phases.Open other)) → ((fault : PeerFault) → P (phases.Closed fault)) → P (on_further other read).phase
further_phase (Ok further) P other one two = one further refl
further_phase (Err fault) P other one two = two (faults.Record fault)

pub further_heard : (read : Result Further RecordFault) (P : Told → Type 0) (other : Hello) → ((further : Further) → read ≡ Ok further → P (Ok (heards.Further further))) → ((fault : PeerFault) → P (Err fault)) → P (on_further other read).heard
further_heard (Ok further) P other one two = one further refl
further_heard (Err fault) P other one two = two (faults.Record fault)

pub same_is : (mine version : Version) → same_version mine version ≡ true → version ≡ mine
same_is First First e = refl
same_is Second Second e = refl
same_is First Second e = absurd cc
same_is Second First e = absurd cc
