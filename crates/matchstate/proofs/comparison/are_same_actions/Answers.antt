use Rattle.std.proofs.Common.{refl}
use Rattle.matchstate.proofs.Actions.{same_actions, raises_decided}
use Rattle.matchstate.proofs.comparison.are_same_actions.Goals as goal

pub returns : goal.returns
returns c =
    same_actions _ c.eq.result c.args.first.now c.args.second.now c.eq.ensures (record {
      folds = (λ e. refl, λ e. refl);
      fold_call = (λ e. cc, λ e. cc);
      fold_raise = λ a. (λ e. cc, λ e. cc);
      call_fold = (λ e. cc, λ e. cc);
      calls = (λ e. refl, λ e. refl);
      call_raise = λ a. (λ e. cc, λ e. cc);
      raise_fold = λ a. (λ e. cc, λ e. cc);
      raise_call = λ a. (λ e. cc, λ e. cc);
      raises = raises_decided;
    })
