use Rattle.match_log.proofs.numeral.+are_values.Given as goal

abbrev pub decreases-are_values : goal.decreases-are_values
decreases-are_values l = l.count
