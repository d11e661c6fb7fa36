use Rattle.std.proofs.Common.{[], ◌∷◌, ◌++◌}
use Rattle.std.specs.Prelude.{codes}
use Rattle.node_runs.specs.KeptPeers.{ballot_text}
use Rattle.node_runs.proofs.KeptPeers.{no_feed, no_space, one_word, other_line, promised_found}
use Rattle.node_runs.proofs.kept_peer.read_promised.Goals as goal

pub returns-in_err-word-clause-only : goal.returns-in_err-word-clause-only
returns-in_err-word-clause-only c = λ ballot fits is. absurd (c.in_err-word.ensures.only (codes "promised") (ballot_text ballot ++ 32 ∷ (is.spaces ++ 10 ∷ [])) one_word is.form)

pub returns-in_err-ballot-clause-only : goal.returns-in_err-ballot-clause-only
returns-in_err-ballot-clause-only c = λ ballot fits is.
    let one = c.in_ok-word.ensures.only (codes "promised") (ballot_text ballot ++ 32 ∷ (is.spaces ++ 10 ∷ [])) one_word is.form in
    absurd (c.in_err-ballot.ensures.only (ballot_text ballot) (is.spaces ++ 10 ∷ []) (no_space ballot) one.1)

pub returns-in_err-spaces-clause-only : goal.returns-in_err-spaces-clause-only
returns-in_err-spaces-clause-only c = λ ballot fits is.
    let one = c.in_ok-word.ensures.only (codes "promised") (ballot_text ballot ++ 32 ∷ (is.spaces ++ 10 ∷ [])) one_word is.form in
    let two = c.in_ok-ballot.ensures.only (ballot_text ballot) (is.spaces ++ 10 ∷ []) (no_space ballot) one.1 in
    absurd (c.in_err-spaces.ensures.only is.spaces [] (no_feed is.spaces is.are) two.1)

pub returns-then-is_line-clause-found : goal.returns-then-is_line-clause-found
returns-then-is_line-clause-found c =
    promised_found c.args.line.now c.in_ok-word.word.now c.in_ok-word.said.now c.in_ok-ballot.ballot.now c.in_ok-ballot.behind.now c.in_ok-spaces.spaces.now c.in_ok-spaces.rest.now c.read_ballot.result
    c.in_ok-word.ensures.found.0 c.in_ok-ballot.ensures.found.0 c.in_ok-spaces.ensures.found.0 (c.is_line.ensures.0 c.if-is_line.true) c.read_ballot.ensures.found

pub returns-then-is_line-clause-only : goal.returns-then-is_line-clause-only
returns-then-is_line-clause-only c = λ ballot fits is.
    let one = c.in_ok-word.ensures.only (codes "promised") (ballot_text ballot ++ 32 ∷ (is.spaces ++ 10 ∷ [])) one_word is.form in
    let two = c.in_ok-ballot.ensures.only (ballot_text ballot) (is.spaces ++ 10 ∷ []) (no_space ballot) one.1 in
    c.read_ballot.ensures.only ballot fits two.0

pub returns-else-is_line-clause-only : goal.returns-else-is_line-clause-only
returns-else-is_line-clause-only c = λ ballot fits is.
    let one = c.in_ok-word.ensures.only (codes "promised") (ballot_text ballot ++ 32 ∷ (is.spaces ++ 10 ∷ [])) one_word is.form in
    let two = c.in_ok-ballot.ensures.only (ballot_text ballot) (is.spaces ++ 10 ∷ []) (no_space ballot) one.1 in
    let three = c.in_ok-spaces.ensures.only is.spaces [] (no_feed is.spaces is.are) two.1 in
    absurd (other_line c.in_ok-word.word.now c.in_ok-spaces.spaces.now c.in_ok-spaces.rest.now is.spaces c.is_line.result c.is_line.ensures c.if-is_line.false one.0 three.0 is.are three.1)
