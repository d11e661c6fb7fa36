use Rattle.std.proofs.Common.{sym, ap, ◌∙◌}
use Rattle.std.specs.Option.{option_copied}
use Rattle.match_file.proofs.UnusedKeys.{table_of, node_seen, got}
use Rattle.match_file.proofs.unused.table_at.Goals as goal

pub returns-in-Some : goal.returns-in-Some
returns-in-Some c =
    let values = c.args.values.now in
    let place = c.args.place in
    let here = got c.get.result values place c.get.ensures.lookup.3 c.get.ensures.lookup.1 in
    c.as_table.ensures ∙ (ap (λ found. table_of (option_copied found)) (sym c.in-Some.is) ∙ here ∙ sym (node_seen values place))

pub returns-in-None : goal.returns-in-None
returns-in-None c =
    let values = c.args.values.now in
    let place = c.args.place in
    let here = got c.get.result values place c.get.ensures.lookup.3 c.get.ensures.lookup.1 in
    ap (λ found. table_of (option_copied found)) (sym c.in-None.is) ∙ here ∙ sym (node_seen values place)
