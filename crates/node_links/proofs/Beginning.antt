-- What a call begins of what waits, and by what a Hello is taken in one.
use Rattle.std.proofs.Common.{◌≡◌, inl, inr, ℕ, ◌==◌, Bool, true, false, if◌then◌else◌, List, length, Option, Some, None, Result, Ok, Err, refl, sym, subst}
use Rattle.peer_codes.specs.declared.hello.Hello.{Hello}
use Rattle.peer_codes.specs.Connections as channels
use Rattle.peer_codes.specs.Outgoings as coded
use Rattle.node_links.specs.declared.own.Own.{Own}
use Rattle.node_links.specs.declared.own.Met.{Met}
use Rattle.node_links.specs.declared.peer_fault.PeerFault.{PeerFault}
use Rattle.node_links.specs.declared.phase.Phase.{Phase}
use Rattle.node_links.specs.declared.phase.Phase.TheVariants as phases
use Rattle.node_links.specs.declared.stage.Stage.{Stage}
use Rattle.node_links.specs.declared.stage.Stage.TheVariants as stages
use Rattle.node_links.specs.declared.plain_connection.PlainConnection.{PlainConnection}
use Rattle.node_links.specs.declared.coded_connection.CodedConnection.{CodedConnection}
use Rattle.node_links.specs.Outgoings as plain
use Rattle.node_links.specs.Waits.{Waits}
use Rattle.node_links.specs.Waiting.{has_next, IsBegun}
use Rattle.node_links.specs.Connections as plains
use Rattle.node_links.specs.Connections.{begun_next}
use Rattle.node_links.specs.Coding as codeds
use Rattle.node_links.specs.Coding.{matched, taken, settled_stage}
use Rattle.node_links.specs.Steps.{opened, settled}
use Rattle.node_links.specs.Judging.{is_coded, judged_match, judged_known, both, judged, IsKnown}
use Rattle.node_links.specs.Going.{taken_in, taken_at}

-- ---- what waits

either_begun : {A : Type 0} (w : Waits) (b : Bool) (one other : A × Waits) → IsBegun w one.1 → IsBegun w other.1 → IsBegun w (if b then one else other).1
either_begun w true one other is is_other = is
either_begun w false one other is is_other = is_other

by_phase : (phase : Phase) (c : PlainConnection) (w : Waits) → IsBegun w (plains.begun_by phase c w).1
by_phase (phases.Open hello) c w = either_begun w (has_next hello.version w) (plains.begun_open hello.version c w) (c, w) (inr (hello.version, refl)) (inl refl)
by_phase (phases.Greeting mine) c w = inl refl
by_phase (phases.Asked hello) c w = inl refl
by_phase (phases.Closed fault) c w = inl refl

first_begun : (hello : Option Hello) (phase : Phase) (c : PlainConnection) (w : Waits) → IsBegun w (plains.begun_first hello phase c w).1
first_begun (Some hello) phase c w = inl refl
first_begun None phase c w = by_phase phase c w

next_begun : (c : PlainConnection) (w : Waits) → IsBegun w (begun_next c w).1
unfolding begun_next
next_begun c w = either_begun w (length (plain.unwritten c.out) == 0) (plains.begun_first c.out.hello c.phase c w) (c, w) (first_begun c.out.hello c.phase c w) (inl refl)

pub plain_begun : (c : PlainConnection) (old new : Waits) → new ≡ (begun_next c old).1 → IsBegun old new
plain_begun c old new e = subst (λ (w : Waits). IsBegun old w) (sym e) (next_begun c old)

by_stage : (stage : Stage) (c : CodedConnection) (w : Waits) → IsBegun w (codeds.begun_by stage c w).1
by_stage (stages.Open hello) c w = either_begun w (has_next hello.version w) (codeds.begun_open hello.version c w) (c, w) (inr (hello.version, refl)) (inl refl)
by_stage stages.Greeting c w = inl refl
by_stage (stages.Asked hello) c w = inl refl
by_stage (stages.Matched hello) c w = inl refl
by_stage (stages.Proved hello) c w = inl refl
by_stage (stages.Closed fault) c w = inl refl

where_begun : (c : CodedConnection) (w : Waits) → IsBegun w (codeds.begun_where c w).1
where_begun c w = either_begun w (length (coded.unwritten c.channel.out) == 0) (codeds.begun_by c.stage c w) (c, w) (by_stage c.stage c w) (inl refl)

pub coded_begun : (c : CodedConnection) (old new : Waits) → new ≡ (codeds.begun_coded c old).1 → IsBegun old new
coded_begun c old new e = subst (λ (w : Waits). IsBegun old w) (sym e) (where_begun (record c { channel = channels.begun_next c.channel }) old)

-- ---- what is taken

known_of : (coded : Bool) (fault : PeerFault) (one two : Result (Unit {0}) PeerFault) → Ok tt ≡ (if coded then Err fault else both one two) → two ≡ Ok tt
known_of true fault one two e = absurd cc
known_of false fault (Err other) two e = absurd cc
known_of false fault (Ok done) two e = sym e

opened_known : (own : Own) (dialled : Option ℕ) (met : List Met) (hello : Hello) (verdict : Result (Unit {0}) PeerFault) → verdict ≡ judged own dialled met hello → IsKnown own met None (taken_in (opened verdict hello))
opened_known own dialled met hello (Ok done) e = known_of (is_coded hello.link) _ (judged_match own dialled hello) (judged_known own met hello) e
opened_known own dialled met hello (Err fault) e = tt

phase_known : (own : Own) (dialled : Option ℕ) (met : List Met) (phase : Phase) → IsKnown own met (taken_in phase) (taken_in (settled own dialled met phase))
phase_known own dialled met (phases.Asked hello) = opened_known own dialled met hello (judged own dialled met hello) refl
phase_known own dialled met (phases.Greeting mine) = tt
phase_known own dialled met (phases.Open hello) = tt
phase_known own dialled met (phases.Closed fault) = tt

pub plain_known : (own : Own) (dialled : Option ℕ) (met : List Met) (old new : PlainConnection) → new ≡ record old { phase = settled own dialled met old.phase } → IsKnown own met (taken_in old.phase) (taken_in new.phase)
plain_known own dialled met old new e = subst (λ (c : PlainConnection). IsKnown own met (taken_in old.phase) (taken_in c.phase)) (sym e) (phase_known own dialled met old.phase)

matched_known : (own : Own) (met : List Met) (hello : Hello) (verdict : Result (Unit {0}) PeerFault) → IsKnown own met None (taken_at (matched verdict hello))
matched_known own met hello (Ok done) = tt
matched_known own met hello (Err fault) = tt

taken_known : (own : Own) (met : List Met) (hello : Hello) (verdict : Result (Unit {0}) PeerFault) → verdict ≡ judged_known own met hello → IsKnown own met None (taken_at (taken verdict hello))
taken_known own met hello (Ok done) e = sym e
taken_known own met hello (Err fault) e = tt

stage_known : (own : Own) (dialled : Option ℕ) (met : List Met) (stage : Stage) → IsKnown own met (taken_at stage) (taken_at (settled_stage own dialled met stage))
stage_known own dialled met (stages.Asked hello) = matched_known own met hello (judged_match own dialled hello)
stage_known own dialled met (stages.Proved hello) = taken_known own met hello (judged_known own met hello) refl
stage_known own dialled met stages.Greeting = tt
stage_known own dialled met (stages.Matched hello) = tt
stage_known own dialled met (stages.Open hello) = tt
stage_known own dialled met (stages.Closed fault) = tt

pub coded_known : (own : Own) (dialled : Option ℕ) (met : List Met) (old new : CodedConnection) → new ≡ record old { stage = settled_stage own dialled met old.stage } → IsKnown own met (taken_at old.stage) (taken_at new.stage)
coded_known own dialled met old new e = subst (λ (c : CodedConnection). IsKnown own met (taken_at old.stage) (taken_at c.stage)) (sym e) (stage_known own dialled met old.stage)
