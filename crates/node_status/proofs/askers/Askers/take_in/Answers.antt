use Rattle.std.proofs.Common.{◌∙◌, sym, append-nil, true, false}
use Rattle.node_status.proofs.Asking.{one_accepted}
use Rattle.node_status.proofs.askers.Askers.take_in.Goals as goal

pub returns-then-come : goal.returns-then-come
returns-then-come g c =
    one_accepted c.args.now c.in-Some.place true _ _ _ (g.W.Wire.passed c.accept_asker.new.self) _ (sym c.if-come.true ∙ c.come.ensures.there) c.in-Some.ensures.began (sym (append-nil (g.W.Wire.passed c.accept_asker.new.self)))
    c.come.ensures.comes

pub returns : goal.returns
returns g c =
    one_accepted c.args.now c.in-Some.place false _ _ _ (g.W.Wire.passed c.accept_asker.new.self) _ (sym c.if-come.false ∙ c.come.ensures.there) c.in-Some.ensures.began c.close.ensures c.come.ensures.comes
