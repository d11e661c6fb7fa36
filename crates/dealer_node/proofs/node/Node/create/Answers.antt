use Rattle.std.proofs.Common.{ℕ, sym, subst}
use Rattle.promise_store.specs.Journals.{header}
use Rattle.promise_store.specs.Keeping.{Keeps, Leaves}
use Rattle.protocol_model.specs.Stores.{empty_store}
use Rattle.dealer_node.specs.Working.{head_of}
use Rattle.dealer_node.proofs.Settled.{created_at}
use Rattle.dealer_node.proofs.node.Node.create.Goals as goal

pub returns-in-Ok-clause-made : goal.returns-in-Ok-clause-made
returns-in-Ok-clause-made g c =
    let P : ℕ → Type 0 = λ n. Keeps g.D.Disk (header n c.nodes.result) empty_store c.in-Ok.store in
    let Q : ℕ → Type 0 = λ n. Keeps g.D.Disk (header c.self.inside.member.node n) empty_store c.in-Ok.store in
    let keeps = subst Q c.nodes.ensures.value (subst P c.node.ensures.value c.in-Ok.ensures.made) in
    let leaves = c.what_is_kept_is_left.ensures (head_of c.self.inside.member) empty_store c.in-Ok.store keeps in
    created_at g.D.Disk c.args.self.now c.self.inside c.close.result c.self.view_is c.requires c.self.invariant.blank
    (subst (λ (d : g.row.D.Denot). Leaves g.D.Disk (head_of c.self.inside.member) empty_store empty_store d) (sym c.close.ensures) leaves)
