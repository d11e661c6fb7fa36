use Rattle.node_rules.proofs.Seated.{pieces_are_heard, others_are_passed_over, connect_begins_anew, drop_ends, sessions_stay, faults_are_of_pieces, lives_are_whole, unconnected_seats_show_so}
use Rattle.node_rules.proofs.laws.seats_are_heard.Goals as goal

pub returns-clause-pieces : goal.returns-clause-pieces
returns-clause-pieces c = pieces_are_heard c.layers_below.ensures

pub returns-clause-deaf : goal.returns-clause-deaf
returns-clause-deaf c = others_are_passed_over c.layers_below.ensures

pub returns-clause-connects : goal.returns-clause-connects
returns-clause-connects c = connect_begins_anew

pub returns-clause-drops : goal.returns-clause-drops
returns-clause-drops c = drop_ends

pub returns-clause-stays : goal.returns-clause-stays
returns-clause-stays c = sessions_stay c.layers_below.ensures

pub returns-clause-faults : goal.returns-clause-faults
returns-clause-faults c = faults_are_of_pieces c.layers_below.ensures

pub returns-clause-lives : goal.returns-clause-lives
returns-clause-lives c = lives_are_whole c.any_pieces.ensures

pub returns-clause-unconnected : goal.returns-clause-unconnected
returns-clause-unconnected c = unconnected_seats_show_so
