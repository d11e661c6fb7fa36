-- What both Hellos make of a connection.
use Rattle.std.proofs.Common.{◌≡◌, ℕ, Bool, true, cond, List, Option, Some, Ok, sym, ap, ◌∙◌}
use Rattle.peer_codes.specs.declared.role.Role.TheVariants.{Caller, Called}
use Rattle.peer_codes.specs.declared.hello.Hello.{Hello}
use Rattle.peer_codes.specs.declared.hellos.Hellos.{Hellos}
use Rattle.peer_codes.specs.declared.records.Proof.{Proof}
use Rattle.peer_codes.specs.declared.event.Event.TheVariants as events
use Rattle.peer_codes.specs.declared.phase.Ways.{Ways}
use Rattle.peer_codes.specs.declared.phase.Phase.{Phase}
use Rattle.peer_codes.specs.declared.phase.Phase.TheVariants as phases
use Rattle.peer_codes.specs.declared.step.Step.{Step}
use Rattle.peer_codes.specs.declared.connection.Connection.{Connection}
use Rattle.peer_codes.specs.Steps.{proof_of, ways_of, greeted}
use Rattle.peer_codes.specs.Versions.{same_version}
use Rattle.peer_codes.specs.Connections.{met, turned_away, answered}

abbrev both : Hello → Hello → Hellos
both caller called = record { caller = caller; called = called }

abbrev meeting : Hello → Proof → Ways → Proof → Step
meeting hello theirs ways proof = record { phase = phases.Proving theirs ways; proof = Some proof; event = Ok (events.Greeted hello) }

pub greeted_is : (key : List ℕ) (mine others : Option Hello) (own hello : Hello) (theirs proof : Proof) (ways : Ways)
    → mine ≡ Some own → others ≡ Some hello → theirs ≡ proof_of key Called (both own hello) → ways ≡ ways_of key Caller Called (both own hello) → proof ≡ proof_of key Caller (both own hello)
    → meeting hello theirs ways proof ≡ greeted key mine others
greeted_is key mine others own hello theirs proof ways a b c d e =
    ap (λ (x : Proof). meeting hello x ways proof) c
    ∙ ap (λ (x : Ways). meeting hello (proof_of key Called (both own hello)) x proof) d
    ∙ ap (λ (x : Proof). meeting hello (proof_of key Called (both own hello)) (ways_of key Caller Called (both own hello)) x) e
    ∙ sym (ap (λ (x : Option Hello). greeted key x others) a ∙ ap (λ (x : Option Hello). greeted key (Some own) x) b)

abbrev met_by : Connection → Hello → Proof → Ways → Proof → Connection
met_by old own theirs ways proof = record old { phase = phases.Proving theirs ways; out = record old.out { hello = Some own; proof = Some proof } }

pub met_is : (old : Connection) (caller own : Hello) (theirs proof : Proof) (ways : Ways)
    → theirs ≡ proof_of old.key.bytes Caller (both caller own) → ways ≡ ways_of old.key.bytes Called Caller (both caller own) → proof ≡ proof_of old.key.bytes Called (both caller own)
    → met_by old own theirs ways proof ≡ met caller own old
met_is old caller own theirs proof ways b c d =
    ap (λ (x : Proof). met_by old own x ways proof) b
    ∙ ap (λ (x : Ways). met_by old own (proof_of old.key.bytes Caller (both caller own)) x proof) c
    ∙ ap (λ (x : Proof). met_by old own (proof_of old.key.bytes Caller (both caller own)) (ways_of old.key.bytes Called Caller (both caller own)) x) d

-- who called in this version is met
pub met_where : (old new : Connection) (caller own : Hello) → old.phase ≡ phases.Asked caller → same_version caller.version own.version ≡ true → new ≡ met caller own old → new ≡ answered old.phase own old
met_where old new caller own asked same is = is ∙ sym (ap (λ (p : Phase). answered p own old) asked ∙ ap (λ (b : Bool). cond b (met caller own old) (turned_away own old)) same)
