use Rattle.std.proofs.Common.{rules}
use Rattle.match_runs.proofs.node_script.play_run.Goals as goal

pub returns-in-Err-play_match : goal.returns-in-Err-play_match
returns-in-Err-play_match g c = search rules
