use Rattle.std.proofs.Common.{◌≡◌, ◌++◌, take}
use Rattle.std.specs.List.{flat_map}
use Rattle.match_file.specs.SourceTexts.{deal_line}
use Rattle.match_file.proofs.digest.put_deals.Given as goal

abbrev pub invariant-loop-deal : goal.invariant-loop-deal
invariant-loop-deal l = l.text.items ≡ l.fn.text.items ++ flat_map deal_line (take l.deal-index l.deals)
