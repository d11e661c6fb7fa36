use Rattle.std.proofs.Common.{rules}
use Rattle.match_file.proofs.key.Key.text.Goals as goal

pub returns-in-Stores : goal.returns-in-Stores
returns-in-Stores c = search rules
