use Rattle.std.proofs.Common.{◌≡◌, ◌∙◌, ap, sym, subst, Option, Some, None, refl}
use Rattle.std.specs.Prelude.{is_some}
use Rattle.slot_log.specs.Slots.{front}
use Rattle.learner.specs.Learning.{Learned}
use Rattle.protocol_model.specs.Messages.{Vote}
use Rattle.promise_store.specs.declared.placed.Placed.{Placed}
use Rattle.promise_store.specs.declared.store.Store.{Store as Kept}
use Rattle.promise_store.specs.Keeping.{Keeps}
use Rattle.promise_store.specs.Shown.{placed_ballot, vote_ballot}
use Rattle.dealer_node.specs.Working.{head_of}
use Rattle.dealer_node.proofs.up.Up.vote_waits.Goals as goal

-- one stands where the other does
both_stand : (placed : Option Placed) (vote : Option Vote) → placed_ballot placed ≡ vote_ballot vote → is_some placed ≡ is_some vote
both_stand None None same = refl
both_stand None (Some vote) same = cc
both_stand (Some placed) None same = cc
both_stand (Some placed) (Some vote) same = refl

pub returns : goal.returns
returns g c = λ member s honest up.
    let slot = c.front-front.ensures.value ∙ ap (λ (l : Learned). front l.log) up.running.learned in
    let keeps = subst (λ (store : Kept g.row.D.Denot). Keeps g.D.Disk (head_of member) s.store store) (sym c.store.ensures) up.keeps in
    let votes = c.held.ensures.votes (head_of member) s.store keeps honest c.front-front.result in
    c.is_some.ensures ∙ ap (λ (p : Option Placed). is_some p) c.find.ensures ∙ both_stand _ _ votes ∙ ap (λ slot. is_some (s.store.votes slot)) slot
