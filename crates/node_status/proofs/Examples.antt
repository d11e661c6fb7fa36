-- The line of a node's status, on values.
use Rattle.std.proofs.Common.{◌≡◌, ◌≢◌, refl, true, false, [], ◌∷◌, ◌++◌, Some, None}
use Rattle.std.specs.Prelude.{codes}
use Rattle.std.specs.Fmt.{digits}
use Rattle.node_status.specs.declared.status.PeerStatus.TheVariants.{Present, Gone}
use Rattle.node_status.specs.declared.status.SeatStatus.{SeatStatus}
use Rattle.node_status.specs.declared.status.Sits.TheVariants.{Here, Elsewhere, Nowhere}
use Rattle.node_status.specs.Texts.{peer_text, listed}
use Rattle.node_status.specs.Lines.{play_text, ballot_text, work_text}

abbrev alice : SeatStatus
alice = record { name = codes "alice"; sits = Here; backlog = 0 }

abbrev bob : SeatStatus
bob = record { name = codes "bob"; sits = Nowhere; backlog = 812 }

-- node 0 leads and is as far as node 1, node 2 is gone; bob's bot sits nowhere, and 812 bytes wait for it
in_the_middle :
    play_text 1 37 (Some 4) false false ++ ballot_text (Some (record { round = 4; node = 0 })) false true (Present 0 37 true ∷ Gone 2 ∷ []) ++ work_text (alice ∷ bob ∷ []) false 412
    ≡ codes "node 1 front 37 hand 4 over no replaying no promised 4.0 leads no quorum yes peers 0:37:campaigns,2:gone seats alice:seated,bob:away pending no backlog 0,812 commands 412/s" ++ 10 ∷ []
unfolding digits play_text ballot_text work_text
in_the_middle = refl

-- before the first hand, alone, with the bot of seat 0 at another node
before_all :
    play_text 0 0 None false true ++ ballot_text None false false (Gone 1 ∷ Gone 2 ∷ []) ++ work_text (record { name = codes "a.b"; sits = Elsewhere; backlog = 0 } ∷ []) true 0
    ≡ codes "node 0 front 0 hand - over no replaying yes promised - leads no quorum no peers 1:gone,2:gone seats a.b:elsewhere pending yes backlog 0 commands 0/s" ++ 10 ∷ []
unfolding digits play_text ballot_text work_text
before_all = refl

-- of a match with one node, behind its end
alone :
    play_text 0 4294967295 (Some 9999) true false ++ ballot_text (Some (record { round = 12; node = 6 })) true true [] ++ work_text [] false 0
    ≡ codes "node 0 front 4294967295 hand 9999 over yes replaying no promised 12.6 leads yes quorum yes peers - seats - pending no backlog - commands 0/s" ++ 10 ∷ []
unfolding digits play_text ballot_text work_text
alone = refl

-- a peer that is heard and doesn't campaign is neither gone nor campaigns
heard : listed peer_text (Present 0 37 false ∷ []) ≡ codes "0:37"
unfolding digits
heard = refl

not_gone : peer_text (Present 2 0 false) ≢ peer_text (Gone 2)
unfolding digits
not_gone = λ same. cc
