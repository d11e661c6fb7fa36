use Rattle.std.proofs.Common.{◌≡◌, ◌∙◌, ap, sym, subst, refl, rules, get_or, set, Err, length-set}
use Rattle.std.proofs.lemmas.List.{set-get_or}
use Rattle.dealer_node.specs.declared.fault.NodeFault.TheVariants as fault
use Rattle.dealer_node.specs.Outs.{nothing_told}
use Rattle.dealer_world.specs.Events.{node_of}
use Rattle.dealer_world.specs.Stepping.{nothing, call}
use Rattle.dealer_world.proofs.Giving.{not_given}
use Rattle.dealer_world.proofs.Advancing.{still_at_places, is_for_node, same_begun, behind_on, behind_still, record_gained, node_in, stepped_to}
use Rattle.dealer_node.specs.declared.most_shown.MostShown.{MostShown}
use Rattle.dealer_node.specs.Most.{ShowsWithin}
use Rattle.dealer_world.specs.Shows.{most_by, most_shown_for}
use Rattle.dealer_world.specs.Viewing.{view_of}
use Rattle.dealer_world.proofs.Showing.{same_shown, more_shown, most_at}
use Rattle.dealer_world.proofs.cluster.Cluster.advance.Goals as goal

pub returns-in_err-make_place-clause-stepped : goal.returns-in_err-make_place-clause-stepped
returns-in_err-make_place-clause-stepped g c =
    let nodes = c.args.self.now.nodes.items in
    let node = c.index.result.now in
    let number = c.node-number.result in
    let none : c.from_residual.result ≡ Err fault.OutOfMemory = search rules in
    stepped_to g.D.Disk _ _ c.args.event.now c.from_residual.result node node nothing_told number c.node-number.ensures refl refl c.args.self.now.count c.requires c.index.ensures
    (sym (ap (set nodes number) c.index.ensures ∙ set-get_or nodes number node)) (not_given g.D.Disk c.args.event.now node c.from_residual.result none)
    (nothing c.from_residual.result none c.make_place.ensures.all c.make_place.ensures.last)

pub give-answer-requires-clause-within : goal.give-answer-requires-clause-within
give-answer-requires-clause-within g c =
    let nodes = c.args.self.now.nodes.items in
    let node = c.index_mut.result.now in
    is_for_node c.args.self.now.config nodes c.args.event.now node c.args.self.now.count
    (subst (λ i. get_or nodes i node ≡ node) c.node-number.ensures (sym c.index_mut.ensures.value)) c.args.self.now.at_places c.requires

pub invariant_of-self-then-is_out_of_memory : goal.invariant_of-self-then-is_out_of_memory
invariant_of-self-then-is_out_of_memory g c =
    let now = c.args.self.now in let nodes = now.nodes.items in let e = c.args.event.now in
    let old = c.index_mut.result.now in let new = c.give-answer.new.node in
    let at : get_or nodes (node_of e) old ≡ old = subst (λ i. get_or nodes i old ≡ old) c.node-number.ensures (sym c.index_mut.ensures.value) in
    let less = node_in now.config nodes e now.count c.requires in
    let none : c.give-answer.result ≡ Err fault.OutOfMemory = search rules in
    rw (c.node-number.ensures, c.make_place.ensures.all) record {
      count = length-set nodes (node_of e) new ∙ now.count;
      at_places = still_at_places now.config nodes (node_of e) old new less at c.give-answer.ensures.given.stays.member now.at_places;
      behind = behind_still g.D.Disk now.opened now.config nodes e old new c.give-answer.new.made c.give-answer.result now.recording.all now.count c.requires at c.give-answer.ensures.given none now.behind;
    }

pub returns-then-is_out_of_memory-clause-stepped : goal.returns-then-is_out_of_memory-clause-stepped
returns-then-is_out_of_memory-clause-stepped g c =
    let none : c.give-answer.result ≡ Err fault.OutOfMemory = search rules in
    stepped_to g.D.Disk _ _ c.args.event.now c.give-answer.result c.index_mut.result.now c.give-answer.new.node c.give-answer.new.made c.node-number.result c.node-number.ensures refl refl
    c.args.self.now.count c.requires c.index_mut.ensures.value refl c.give-answer.ensures.given (nothing c.give-answer.result none c.make_place.ensures.all c.make_place.ensures.last)

pub returns-then-is_out_of_memory-clause-begun : goal.returns-then-is_out_of_memory-clause-begun
returns-then-is_out_of_memory-clause-begun g c =
    same_begun g.D.Disk c.args.self.now.nodes.items c.node-number.result c.index_mut.result.now c.give-answer.new.node (sym c.index_mut.ensures.value) c.give-answer.ensures.given.stays.begun

pub invariant_of-self-2 : goal.invariant_of-self-2
invariant_of-self-2 g c =
    let now = c.args.self.now in let nodes = now.nodes.items in let e = c.args.event.now in
    let old = c.index_mut.result.now in let new = c.give-answer.new.node in let answer = c.give-answer.result in
    let at : get_or nodes (node_of e) old ≡ old = subst (λ i. get_or nodes i old ≡ old) c.node-number.ensures (sym c.index_mut.ensures.value) in
    let less = node_in now.config nodes e now.count c.requires in
    let ample : answer ≡ Err fault.OutOfMemory → ⊥ = search rules in
    let all = record_gained nodes e c.node-number.result c.index.result.now c.index-2.result.now old c.running-is_up.result c.front-front.result c.make_place.new.self.all now.recording.all c.put_call.new.self.all c.give-answer.new.made
    c.begins-begins.result answer c.node-number.ensures less c.index.ensures c.index-2.ensures c.index_mut.ensures.value c.running-is_up.ensures.value c.front-front.ensures.value c.put_call.ensures.all c.begins-begins.ensures
    c.make_place.ensures.all in
    rw (c.node-number.ensures, all) record {
      count = length-set nodes (node_of e) new ∙ now.count;
      at_places = still_at_places now.config nodes (node_of e) old new less at c.give-answer.ensures.given.stays.member now.at_places;
      behind = behind_on g.D.Disk now.opened now.config nodes e old new c.give-answer.new.made answer now.recording.all now.count c.requires at now.at_places c.give-answer.ensures.up c.give-answer.ensures.given ample now.behind;
    }

pub returns-clause-stepped : goal.returns-clause-stepped
returns-clause-stepped g c =
    let now = c.args.self.now in let nodes = now.nodes.items in let e = c.args.event.now in
    let old = c.index_mut.result.now in let answer = c.give-answer.result in
    let ample : answer ≡ Err fault.OutOfMemory → ⊥ = search rules in
    let all = record_gained nodes e c.node-number.result c.index.result.now c.index-2.result.now old c.running-is_up.result c.front-front.result c.make_place.new.self.all now.recording.all c.put_call.new.self.all c.give-answer.new.made
    c.begins-begins.result answer c.node-number.ensures (node_in now.config nodes e now.count c.requires) c.index.ensures c.index-2.ensures c.index_mut.ensures.value c.running-is_up.ensures.value c.front-front.ensures.value
    c.put_call.ensures.all c.begins-begins.ensures c.make_place.ensures.all in
    stepped_to g.D.Disk _ _ e answer old c.give-answer.new.node c.give-answer.new.made c.node-number.result c.node-number.ensures refl refl now.count c.requires c.index_mut.ensures.value refl
    c.give-answer.ensures.given (call answer ample all c.put_call.ensures.last)

pub returns-clause-begun : goal.returns-clause-begun
returns-clause-begun g c =
    same_begun g.D.Disk c.args.self.now.nodes.items c.node-number.result c.index_mut.result.now c.give-answer.new.node (sym c.index_mut.ensures.value) c.give-answer.ensures.given.stays.begun

pub returns-in_err-make_place-clause-shows : goal.returns-in_err-make_place-clause-shows
returns-in_err-make_place-clause-shows g c =
    same_shown (most_shown_for (view_of c.args.self.now) c.args.event.now) c.args.self.now.recording.all c.make_place.new.self.all c.make_place.ensures.all

pub returns-then-is_out_of_memory-clause-shows : goal.returns-then-is_out_of_memory-clause-shows
returns-then-is_out_of_memory-clause-shows g c =
    same_shown (most_shown_for (view_of c.args.self.now) c.args.event.now) c.args.self.now.recording.all c.make_place.new.self.all c.make_place.ensures.all

pub returns-clause-shows : goal.returns-clause-shows
returns-clause-shows g c =
    let now = c.args.self.now in let nodes = now.nodes.items in let e = c.args.event.now in let node = c.index_mut.result.now in
    let at : get_or nodes (node_of e) node ≡ node = subst (λ i. get_or nodes i node ≡ node) c.node-number.ensures (sym c.index_mut.ensures.value) in
    let most = most_at (most_by e) (view_of now) (node_of e) node (node_in now.config nodes e now.count c.requires) at in
    more_shown (most_shown_for (view_of now) e) now.recording.all c.make_place.new.self.all c.put_call.new.self.all (node_of e) _ c.give-answer.new.made c.begins-begins.result
    c.put_call.ensures.all c.make_place.ensures.all (subst (λ (m : MostShown). ShowsWithin m nothing_told c.give-answer.new.made) most c.give-answer.ensures.shows)
