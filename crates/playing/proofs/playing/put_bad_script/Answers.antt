use Rattle.std.proofs.Common.{rules}
use Rattle.playing.proofs.playing.put_bad_script.Goals as goal

pub returns : goal.returns
returns c = search rules
