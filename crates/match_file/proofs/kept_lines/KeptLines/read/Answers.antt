use Rattle.std.proofs.Common.{List, ℕ, ◌++◌, ◌∷◌, ap, ◌∙◌, codes}
use Rattle.match_file.specs.Kept.{line}
use Rattle.match_file.proofs.kept_lines.KeptLines.read.Goals as goal

pub returns-clause-found : goal.returns-clause-found
returns-clause-found c =
    c.in_ok-text.ensures.found
    ∙ ap (λ (t : List ℕ). codes "# match.kept 1\n" ++ t) (c.in_ok-name.ensures.found
    ∙ ap (λ (t : List ℕ). line (codes "name ") c.in_ok-name.name.now t) (c.in_ok-game.ensures.found
    ∙ ap (λ (t : List ℕ). line (codes "game ") c.in_ok-game.game.now t) (c.in_ok-hands.ensures.found
    ∙ ap (λ (t : List ℕ). line (codes "hands ") c.in_ok-hands.hands.now t) (c.in_ok-names.ensures.found
    ∙ ap (λ (t : List ℕ). line (codes "names ") c.in_ok-names.names.now t) (c.in_ok-nodes.ensures.found
    ∙ ap (λ (t : List ℕ). line (codes "nodes ") c.in_ok-nodes.nodes.now t) c.in_ok-rest.ensures.found)))))

pub returns-in_err-text-clause-only : goal.returns-in_err-text-clause-only
returns-in_err-text-clause-only c =
    λ said each is.
    absurd (c.in_err-text.ensures.only (line (codes "name ") said.name (line (codes "game ") said.game (line (codes "hands ") said.hands (line (codes "names ") said.names (line (codes "nodes ") said.nodes (10 ∷ said.rest)))))) is)
