use Rattle.node_links.proofs.HistoryLaws.{frame_of_open, beat_of_open, hello_of_first, further_of_open}
use Rattle.node_links.proofs.laws.frames_come_from_open_connections.Goals as goal

pub returns-clause-frame : goal.returns-clause-frame
returns-clause-frame c = frame_of_open

pub returns-clause-beat : goal.returns-clause-beat
returns-clause-beat c = beat_of_open

pub returns-clause-hello : goal.returns-clause-hello
returns-clause-hello c = hello_of_first

pub returns-clause-further : goal.returns-clause-further
returns-clause-further c = further_of_open
