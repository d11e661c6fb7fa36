use Rattle.std.proofs.Common.{length}
use Rattle.match_file.proofs.kept.+put_further.Given as goal

abbrev pub decreases-put_further : goal.decreases-put_further
decreases-put_further l = length l.names.now
