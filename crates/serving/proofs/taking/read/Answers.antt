use Rattle.std.proofs.Common.{◌≡◌, ◌<◌, ◌≤◌, ℕ, List, [], ◌∷◌, ◌++◌, length, take, drop, ap, sym, arith, rules, ◌∙◌}
use Rattle.std.proofs.lemmas.List.{append-nil, length-take-le}
use Rattle.match_links.specs.Passages.{Passage, Came}
use Rattle.serving.proofs.Giving.{came_some, came_none, front_of}
use Rattle.serving.proofs.taking.read.Goals as goal
use Rattle.serving.proofs.taking.read.Goals.{in_default-via-in-Ok+else-count-gt0, in_default-via-in-Err+in_default}

pub returns-in-Ok-clause-taken : goal.returns-in-Ok-clause-taken
returns-in-Ok-clause-taken g c =
    let piece = c.read.new.piece in
    let count = c.in-Ok.count in
    let before = g.L.Links.passed c.args.links.now in
    let long : length piece ≤ c.in_ok-bytes.bytes.len = search rules in
    let same = c.truncate.ensures.items ∙ front_of count c.in_ok-bytes.bytes.len piece (drop (length piece) c.in_ok-bytes.bytes.items) c.in-Ok.ensures.within long in
    let some : 0 < length (take count piece) = omega (arith, c.if-count-gt0.true, length-take-le count piece c.in-Ok.ensures.within) in
    c.in-Ok.ensures.came ∙ ap (λ (ps : List Passage). before ++ ps) (came_some c.args.node c.args.seat (take count piece) some)
    ∙ ap (λ (bytes : List ℕ). before ++ Came c.args.node c.args.seat bytes ∷ []) (sym same)

pub returns-in_default-clause-taken : goal.returns-in_default-clause-taken
returns-in_default-clause-taken g c =
    let before = g.L.Links.passed c.args.links.now in
    elim c.in_default.branch [
      | in_default-via-in-Ok+else-count-gt0 w ↦
          let none : w.in-Ok.count ≡ 0 = search rules in
          w.in-Ok.ensures.came ∙ ap (λ (ps : List Passage). before ++ ps) (came_none c.args.node c.args.seat w.in-Ok.count c.read.new.piece none)
      | in_default-via-in-Err+in_default w ↦ w.in_default.ensures.failed ∙ sym (append-nil before)
    ]

pub returns-in-Err-Slow-clause-taken : goal.returns-in-Err-Slow-clause-taken
returns-in-Err-Slow-clause-taken g c = c.in-Err-Slow.ensures.failed ∙ sym (append-nil (g.L.Links.passed c.args.links.now))
