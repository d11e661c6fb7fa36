use Rattle.std.proofs.Common.{◌≡◌, ◌+◌, ◌%◌, ◌<◌, ◌≤◌, ◌∷◌, ℕ, drop, length, set, length-set, sym, ap, ◌∙◌, arith, inl, inr}
use Rattle.std.proofs.lemmas.Bool.Decides.{eqb_tells}
use Rattle.learner.specs.Learning.{hearing}
use Rattle.learner.specs.Cells.{learned_by, spare_at}
use Rattle.learner.specs.CommandRuns.{hearing_each, chosen_each}
use Rattle.learner.proofs.HeardRuns.{heard_step, chosen_step, heard_end, chosen_end, rest_unmarked, mark_step, marks_end}
use Rattle.learner.proofs.hearing.hear_each.Goals as goal

pub hear_one-requires-clause-cell_room : goal.hear_one-requires-clause-cell_room
hear_one-requires-clause-cell_room c =
    let most = c.requires.most in
    let here = c.loop-place.invariant.kept ((c.args.slot + c.loop-place.place) % 64) (λ j below same. omega (arith, below, same, most)) in
    let room = c.requires.cell_room ((c.args.slot + c.loop-place.place) % 64) (omega arith) in
    omega (arith, here, room)

pub loop-place-preserved : goal.loop-place-preserved
loop-place-preserved c =
    let l = learned_by c.args.nodes c.loop-place.cells.items c.loop-place.log.log in
    let item = c.index-commands-place.result in
    let low : c.loop-place.place < length c.args.commands.now = omega arith in
    let at = c.args.slot + c.loop-place.place in
    let most = c.requires.most in
    let whole = chosen_step c.args.from c.args.ballot c.args.slot c.args.commands.now c.loop-place.place item low c.index-commands-place.is l
    ∙ ap (λ mark. mark ∷ chosen_each (hearing l c.args.from c.args.ballot at item) c.args.from c.args.ballot (c.args.slot + (c.loop-place.place + 1)) (drop (c.loop-place.place + 1) c.args.commands.now)) (sym c.hear_one.ensures.told)
    ∙ ap (λ x. c.hear_one.result ∷ chosen_each x c.args.from c.args.ballot (c.args.slot + (c.loop-place.place + 1)) (drop (c.loop-place.place + 1) c.args.commands.now)) (sym c.hear_one.ensures.learned) in
    record {
      learned =
          ap (λ x. hearing_each x c.args.from c.args.ballot (c.args.slot + (c.loop-place.place + 1)) (drop (c.loop-place.place + 1) c.args.commands.now)) c.hear_one.ensures.learned
          ∙ sym (heard_step c.args.from c.args.ballot c.args.slot c.args.commands.now c.loop-place.place item low c.index-commands-place.is l)
          ∙ c.loop-place.invariant.learned;
      told = mark_step c.loop-place.chosen c.loop-place.place c.hear_one.result _ _ _ (let places = c.loop-place.invariant.places in omega (arith, places, low, most)) whole c.loop-place.invariant.told;
      behind = rest_unmarked c.loop-place.chosen c.loop-place.place c.hear_one.result (omega (arith, low, most)) c.loop-place.invariant.behind;
      places = length-set c.loop-place.chosen c.loop-place.place c.hear_one.result ∙ c.loop-place.invariant.places;
      len = c.hear_one.ensures.len ∙ c.loop-place.invariant.len;
      kept = λ cell apart.
          let before = c.loop-place.invariant.kept cell (λ j below. apart j (omega (arith, below))) in
          let now = c.hear_one.ensures.others cell (apart c.loop-place.place (omega arith)) in
          omega (arith, before, now);
      taken = λ cell. elim (eqb_tells cell (at % 64)) [
        | inl here ↦
            let before = c.loop-place.invariant.kept cell (λ j below same. let cell_is = here.1 in omega (arith, cell_is, below, same, low, most)) in
            let now = c.hear_one.ensures.taken cell in omega (arith, before, now)
        | inr other ↦
            let before = c.loop-place.invariant.taken cell in
            let now = c.hear_one.ensures.others cell other.1 in omega (arith, before, now)
      ];
      log_room = omega (arith, c.loop-place.invariant.log_room, c.hear_one.ensures.log_room);
    }

pub returns-clause-chosen : goal.returns-clause-chosen
returns-clause-chosen c =
    let l = learned_by c.args.nodes c.loop-place.cells.items c.loop-place.log.log in
    marks_end c.loop-place.chosen c.loop-place.place (length c.args.commands.now) _ _ (omega arith)
    (chosen_end l c.args.from c.args.ballot (c.args.slot + c.loop-place.place) c.args.commands.now c.loop-place.place (omega arith)) c.loop-place.invariant.told c.loop-place.invariant.behind

pub returns-clause-learned : goal.returns-clause-learned
returns-clause-learned c =
    let l = learned_by c.args.nodes c.loop-place.cells.items c.loop-place.log.log in
    sym (heard_end l c.args.from c.args.ballot (c.args.slot + c.loop-place.place) c.args.commands.now c.loop-place.place (omega arith)) ∙ c.loop-place.invariant.learned
