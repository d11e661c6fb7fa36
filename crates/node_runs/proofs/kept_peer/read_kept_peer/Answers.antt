use Rattle.std.proofs.Common.{List, ℕ, sym, subst}
use Rattle.node_runs.specs.KeptPeers.{Says}
use Rattle.node_runs.proofs.KeptPeers.{first_is, second_is, long_enough, kept_is, some_is, whole}
use Rattle.node_runs.proofs.kept_peer.read_kept_peer.Goals as goal

pub returns-in_err-line-clause-only : goal.returns-in_err-line-clause-only
returns-in_err-line-clause-only c = λ kept fits is. absurd (long_enough c.args.text.now kept.life.bytes is.behind fits.life_length is.form c.in_err-line.ensures.cases)

pub returns-in_err-bytes-clause-only : goal.returns-in_err-bytes-clause-only
returns-in_err-bytes-clause-only c = λ kept fits is.
    let first = first_is c.args.text.now kept.life.bytes is.behind c.in_ok-line.line.now fits.life_length is.form c.in_ok-line.ensures.cases.1 in
    let never = c.in_err-bytes.ensures.only kept.life.bytes fits.life_bytes fits.life_length first in
    absurd (cc)

pub returns-in_err-promised-clause-only : goal.returns-in_err-promised-clause-only
returns-in_err-promised-clause-only c = λ kept fits is.
    let second = second_is c.args.text.now kept.life.bytes is.behind c.in_ok-line.behind.now fits.life_length is.form c.in_ok-line.ensures.cases.2 in
    let never = c.in_err-promised.ensures.only kept.promised fits.promised (subst (λ (b : List ℕ). Says b kept.promised) (sym second) is.says) in
    absurd (cc)

pub returns-clause-found : goal.returns-clause-found
returns-clause-found c = record {
  behind = c.in_ok-line.behind.now;
  form = whole c.args.text.now c.in_ok-line.line.now c.in_ok-line.behind.now c.in_ok-bytes.bytes c.in_ok-line.ensures.cases c.in_ok-bytes.ensures.found;
  says = c.in_ok-promised.ensures.found;
}

pub returns-clause-only : goal.returns-clause-only
returns-clause-only c = λ kept fits is.
    let first = first_is c.args.text.now kept.life.bytes is.behind c.in_ok-line.line.now fits.life_length is.form c.in_ok-line.ensures.cases.1 in
    let second = second_is c.args.text.now kept.life.bytes is.behind c.in_ok-line.behind.now fits.life_length is.form c.in_ok-line.ensures.cases.2 in
    kept_is c.in_ok-bytes.bytes c.in_ok-promised.promised kept (some_is _ _ (c.in_ok-bytes.ensures.only kept.life.bytes fits.life_bytes fits.life_length first))
    (some_is _ _ (c.in_ok-promised.ensures.only kept.promised fits.promised (subst (λ (b : List ℕ). Says b kept.promised) (sym second) is.says)))
