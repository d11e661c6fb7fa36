use Rattle.std.proofs.Common.{◌≡◌, ◌++◌, List, map, Some, None, Err, inl, inr, refl, ap, sym, subst, ◌∙◌, rules}
use Rattle.std.proofs.lemmas.List.{append-nil}
use Rattle.dealer_node.specs.Seeing.{begun_of}
use Rattle.dealer_world.specs.declared.cluster.Cluster.{Cluster}
use Rattle.dealer_world.specs.Promise.{HasNoForged}
use Rattle.dealer_world.specs.Viewing.{view_of}
use Rattle.match_links.specs.Passages.{Passage}
use Rattle.serving.specs.Dues.{TakesNext}
use Rattle.serving.specs.Giving.{taken}
use Rattle.serving.specs.Serving.{served_of}
use Rattle.serving.specs.Turned.{DidNothing}
use Rattle.serving.specs.declared.waiting.Taking.TheVariants.{Gives, Waits, Over}
use Rattle.serving.proofs.Serving.{promise_stays, unforged_after}
use Rattle.serving.proofs.Turns.{same_served, none_waits, gave_from, gives_the_next, over_is_next, sent_nothing, taken_nothing}
use Rattle.serving.proofs.server.Server.take_turn.Goals as goal

pub returns-in-Gives-clause-turned : goal.returns-in-Gives-clause-turned
returns-in-Gives-clause-turned g c =
    let w = c.in-Gives.waiting in
    let old = served_of c.args.self.now in
    let takes : TakesNext g.D.Disk old.view old.progress old.waiting (Gives w) = search rules in
    let took = taken c.args.self.now.waiting (Some w) in
    let passed : g.L.Links.passed c.take_waiting.new.self.desk.links ≡ g.L.Links.passed c.args.self.now.desk.links ++ took = search rules in
    let view = ap (λ (cluster : Cluster g.row.D.Denot g.D.Disk). view_of cluster) c.take_waiting.ensures.still.cluster in
    let piece : (served_of c.take_waiting.new.self).piece ≡ old.piece = search rules in
    inr (
      w,
      gives_the_next g.D.Disk old.view old.progress old.waiting w takes,
      gave_from g.D.Disk w took (served_of c.take_waiting.new.self) old c.give.result (served_of c.give.new.self) view
          c.take_waiting.ensures.progress c.take_waiting.ensures.shown piece passed c.give.ensures.gave,
    )

-- what is taken from the links leaves the cluster as it is
pub returns-in-Gives-clause-promise : goal.returns-in-Gives-clause-promise
returns-in-Gives-clause-promise g c =
    let w = c.in-Gives.waiting in
    let gave = c.give.ensures.gave in
    let same = c.take_waiting.ensures.still.cluster in
    record {
      promised = c.give.new.self.promised;
      unforged = λ unforged.
          let before = subst (λ (cluster : Cluster g.row.D.Denot g.D.Disk). HasNoForged (view_of cluster)) (sym same) unforged in
          unforged_after g.D.Disk (view_of c.take_waiting.new.self.cluster) (view_of c.give.new.self.cluster) w.event w.number gave.called gave.stepped gave.of_match.1 before;
      begun = c.give.ensures.begun ∙ ap (λ (cluster : Cluster g.row.D.Denot g.D.Disk). map (begun_of g.D.Disk) (view_of cluster).nodes) same;
    }

pub returns-in_err-waiting-clause-promise : goal.returns-in_err-waiting-clause-promise
returns-in_err-waiting-clause-promise g c = promise_stays g.D.Disk _ _ (ap (λ (cluster : Cluster g.row.D.Denot g.D.Disk). view_of cluster) c.take_waiting.ensures.still.cluster)
    c.take_waiting.new.self.promised

pub returns-in-Over-clause-promise : goal.returns-in-Over-clause-promise
returns-in-Over-clause-promise g c = promise_stays g.D.Disk _ _ (ap (λ (cluster : Cluster g.row.D.Denot g.D.Disk). view_of cluster) c.take_waiting.ensures.still.cluster)
    c.take_waiting.new.self.promised

pub returns-in-Waits-clause-promise : goal.returns-in-Waits-clause-promise
returns-in-Waits-clause-promise g c = promise_stays g.D.Disk _ _ (ap (λ (cluster : Cluster g.row.D.Denot g.D.Disk). view_of cluster) c.take_waiting.ensures.still.cluster)
    c.take_waiting.new.self.promised

pub returns-in_err-waiting-clause-turned : goal.returns-in_err-waiting-clause-turned
returns-in_err-waiting-clause-turned g c =
    let view = ap (λ (cluster : Cluster g.row.D.Denot g.D.Disk). view_of cluster) c.take_waiting.ensures.still.cluster in
    let took = c.take_waiting.ensures in
    let both = c.in_err-waiting.ensures.fault in
    let fails : DidNothing g.D.Disk (served_of c.args.self.now) (Err c.in_err-waiting.field-0.0) = inr both.1 in
    inl (
      same_served (served_of c.take_waiting.new.self) (served_of c.args.self.now) view took.progress (took.taken ∙ sym both.0) c.in_err-waiting.ensures.failed
          took.shown took.still.called took.still.refused (search rules),
      search rules,
    )

pub returns-in-Waits-clause-turned : goal.returns-in-Waits-clause-turned
returns-in-Waits-clause-turned g c =
    let old = served_of c.args.self.now in
    let took = c.take_waiting.ensures in
    let takes : TakesNext g.D.Disk old.view old.progress old.waiting (Waits c.in-Waits.seat c.in-Waits.node) = search rules in
    let nothing = sent_nothing g.D.Disk old.view old.progress old.waiting c.in-Waits.seat c.in-Waits.node takes in
    let view = ap (λ (cluster : Cluster g.row.D.Denot g.D.Disk). view_of cluster) took.still.cluster in
    let passed : g.L.Links.passed c.take_waiting.new.self.desk.links ≡ old.passed ++ taken c.args.self.now.waiting None = search rules in
    let empty = ap (λ (ps : List Passage). old.passed ++ ps) (taken_nothing c.args.self.now.waiting) ∙ append-nil old.passed in
    inl (
      same_served (served_of c.take_waiting.new.self) old view took.progress (took.taken ∙ sym nothing.free) (passed ∙ empty) took.shown took.still.called took.still.refused
          (search rules),
      inr nothing,
    )

pub returns-in-Over-clause-turned : goal.returns-in-Over-clause-turned
returns-in-Over-clause-turned g c =
    let old = served_of c.args.self.now in
    let took = c.take_waiting.ensures in
    let takes : TakesNext g.D.Disk old.view old.progress old.waiting Over = search rules in
    let next = over_is_next g.D.Disk old.view old.progress old.waiting takes in
    let view = ap (λ (cluster : Cluster g.row.D.Denot g.D.Disk). view_of cluster) took.still.cluster in
    let waited = none_waits g.D.Disk old.view old.progress old.waiting next in
    let passed : g.L.Links.passed c.take_waiting.new.self.desk.links ≡ old.passed ++ taken c.args.self.now.waiting None = search rules in
    let empty = ap (λ (ps : List Passage). old.passed ++ ps) (taken_nothing c.args.self.now.waiting) ∙ append-nil old.passed in
    inl (
      same_served _ old view took.progress (took.taken ∙ sym waited) (c.close_all.ensures ∙ passed ∙ empty) took.shown took.still.called took.still.refused (search rules),
      inl (refl, next),
    )
