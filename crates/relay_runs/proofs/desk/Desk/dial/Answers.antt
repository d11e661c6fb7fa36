use Rattle.std.proofs.Common.{◌≡◌, ℕ, Bool, List, ◌++◌, ◌<◌, length, get_or, option_map, refl, ap, ◌∙◌, arith}
use Rattle.std.proofs.lemmas.List.{get_or_default}
use Rattle.byte_queue.specs.Queued.{Queued}
use Rattle.relay_runs.specs.Said.{nothing_waits, greeting, asked_for, asks}
use Rattle.relay_runs.proofs.Waiting.{set_back}
use Rattle.std.proofs.lemmas.Grind.{common_steps}
use Rattle.relay_runs.proofs.Hearing.{heard_dial}
use Rattle.relay_runs.proofs.Keeping.{kept_dial, kept_idle}
use Rattle.relay_runs.proofs.desk.Desk.dial.Goals as goal

pub returns : goal.returns
returns g c =
    let within : c.args.node < length c.args.self.now.to_nodes.items = grind (arith, common_steps) in
    let there : c.args.node < length c.args.self.now.from_nodes.items = grind (arith, common_steps) in
    let token : c.deref.result.now ≡ c.args.self.now.opening.token.items = c.deref.ensures.value in
    let asked : c.asked_of-asked.result.now ≡ asks c.args.self.now.relay.standing =
    c.asked_of-asked.ensures ∙ (ap (λ (n : Bool). asked_for n (option_map (λ line. line.now) c.last.result)) c.is_newest.ensures ∙ ap (asked_for c.args.self.now.relay.standing.mode.newest) c.last.ensures) in
    let lines : c.deref-2.result.now ≡ greeting c.args.self.now.opening.token.items (asks c.args.self.now.relay.standing) =
    c.deref-2.ensures.value ∙ (c.in-Ok.ensures ∙ (ap (λ (t : List ℕ). greeting t c.asked_of-asked.result.now) token ∙ ap (greeting c.args.self.now.opening.token.items) asked)) in
    kept_dial _ _ _ _ c.args.node c.push_reserved.new.self c.begins.ensures c.follows_events.ensures refl refl refl refl refl within
    (c.push_reserved.ensures.waiting ∙ (ap (λ (l : List ℕ). l ++ c.deref-2.result.now) c.clear-2.ensures.waiting ∙ lines)) c.in_ok-dial.ensures.began (grind (arith, common_steps))
    (heard_dial _ _ _ c.args.node c.clear.new.self refl c.begins.ensures refl there c.clear.ensures.waiting refl refl refl)

pub returns-in_default-get_mut : goal.returns-in_default-get_mut
returns-in_default-get_mut g c =
    let within : c.args.node < length c.args.self.now.to_nodes.items = grind (arith, common_steps) in
    let slot : c.in-Some.waiting.now ≡ get_or c.args.self.now.to_nodes.items c.args.node nothing_waits = c.in-Some.ensures.value ∙ get_or_default c.args.self.now.to_nodes.items c.args.node c.in-Some.waiting.now nothing_waits within in
    kept_idle _ _ _ _ refl refl refl refl refl (set_back _ _ _ within (ap (λ (q : Queued). q.waiting) slot)) (λ other. refl) refl refl refl refl

pub returns-then-is_err : goal.returns-then-is_err
returns-then-is_err g c =
    let within : c.args.node < length c.args.self.now.to_nodes.items = grind (arith, common_steps) in
    let slot : c.in-Some.waiting.now ≡ get_or c.args.self.now.to_nodes.items c.args.node nothing_waits = c.in-Some.ensures.value ∙ get_or_default c.args.self.now.to_nodes.items c.args.node c.in-Some.waiting.now nothing_waits within in
    let there : c.args.node < length c.args.self.now.from_nodes.items = grind (arith, common_steps) in
    let piece : c.in-Some-get_mut.came.now ≡ get_or c.args.self.now.from_nodes.items c.args.node nothing_waits = c.in-Some-get_mut.ensures.value ∙ get_or_default c.args.self.now.from_nodes.items c.args.node c.in-Some-get_mut.came.now nothing_waits there in
    kept_idle _ _ _ _ refl refl refl refl refl (set_back _ _ _ within (c.reserve.ensures.waiting ∙ ap (λ (q : Queued). q.waiting) slot)) (set_back _ _ _ there (ap (λ (q : Queued). q.waiting) piece)) refl refl refl refl

pub returns-in_default-greeting_of : goal.returns-in_default-greeting_of
returns-in_default-greeting_of g c =
    let within : c.args.node < length c.args.self.now.to_nodes.items = grind (arith, common_steps) in
    let slot : c.in-Some.waiting.now ≡ get_or c.args.self.now.to_nodes.items c.args.node nothing_waits = c.in-Some.ensures.value ∙ get_or_default c.args.self.now.to_nodes.items c.args.node c.in-Some.waiting.now nothing_waits within in
    let there : c.args.node < length c.args.self.now.from_nodes.items = grind (arith, common_steps) in
    let piece : c.in-Some-get_mut.came.now ≡ get_or c.args.self.now.from_nodes.items c.args.node nothing_waits = c.in-Some-get_mut.ensures.value ∙ get_or_default c.args.self.now.from_nodes.items c.args.node c.in-Some-get_mut.came.now nothing_waits there in
    kept_idle _ _ _ _ refl refl refl refl refl (set_back _ _ _ within (ap (λ (q : Queued). q.waiting) slot)) (set_back _ _ _ there (ap (λ (q : Queued). q.waiting) piece)) refl refl refl refl

pub returns-in_err-dial : goal.returns-in_err-dial
returns-in_err-dial g c =
    let within : c.args.node < length c.args.self.now.to_nodes.items = grind (arith, common_steps) in
    let slot : c.in-Some.waiting.now ≡ get_or c.args.self.now.to_nodes.items c.args.node nothing_waits = c.in-Some.ensures.value ∙ get_or_default c.args.self.now.to_nodes.items c.args.node c.in-Some.waiting.now nothing_waits within in
    let there : c.args.node < length c.args.self.now.from_nodes.items = grind (arith, common_steps) in
    let piece : c.in-Some-get_mut.came.now ≡ get_or c.args.self.now.from_nodes.items c.args.node nothing_waits = c.in-Some-get_mut.ensures.value ∙ get_or_default c.args.self.now.from_nodes.items c.args.node c.in-Some-get_mut.came.now nothing_waits there in
    kept_idle _ _ _ _ refl refl refl refl refl (set_back _ _ _ within (c.reserve.ensures.waiting ∙ ap (λ (q : Queued). q.waiting) slot)) (set_back _ _ _ there (ap (λ (q : Queued). q.waiting) piece)) refl refl refl c.in_err-dial.ensures.failed
