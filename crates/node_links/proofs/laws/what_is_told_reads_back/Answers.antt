use Rattle.node_links.proofs.LivesLaws.{lives_read_back, settings_read_back, promised_reads_back}
use Rattle.node_links.proofs.laws.what_is_told_reads_back.Goals as goal

pub returns-clause-lives : goal.returns-clause-lives
returns-clause-lives c = lives_read_back

pub returns-clause-settings : goal.returns-clause-settings
returns-clause-settings c = settings_read_back

pub returns-clause-promised : goal.returns-clause-promised
returns-clause-promised c = promised_reads_back
