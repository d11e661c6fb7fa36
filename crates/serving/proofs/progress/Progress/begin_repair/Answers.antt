use Rattle.std.proofs.Common.{◌≡◌, ℕ, ◌-◌, true, false, Some, min, set, get_or, refl, ap, sym, ◌∙◌}
use Rattle.match_links.specs.declared.limits.TheConstants.{NODES}
use Rattle.serving.specs.declared.known.Repair.TheVariants as repair
use Rattle.serving.specs.Going.{first, again}
use Rattle.serving.proofs.progress.Progress.begin_repair.Goals as goal

pub returns-then-self-place : goal.returns-then-self-place
returns-then-self-place c =
    let failed = c.args.self.now.failed in
    let place : c.min-place.result ≡ min c.args.node (NODES - 1) = c.min-place.ensures in
    again false c.args.self.now refl (ap (λ (k : ℕ). get_or failed k false) (sym place) ∙ c.if-self-place.true) refl

pub returns : goal.returns
returns c =
    let old = c.args.self.now in
    let place : c.min-place.result ≡ min c.args.node (NODES - 1) = c.min-place.ensures in
    first true _ refl (ap (λ (k : ℕ). get_or old.failed k false) (sym place) ∙ c.if-self-place.false)
    (ap (λ (k : ℕ). record old { failed = set old.failed k true; repair = Some (repair.Stop c.args.node) }) place)
