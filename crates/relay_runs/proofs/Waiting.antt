-- What waits at one node, and at the others.
use Rattle.std.proofs.Common.{◌≡◌, ◌≢◌, ℕ, zero, suc, List, [], ◌∷◌, ◌++◌, ◌<◌, length, set, inl, inr, refl, ap, sym, subst, ◌∙◌}
use Rattle.std.proofs.lemmas.Bool.{cases_eq}
use Rattle.std.proofs.lemmas.List.{get_or-set_same, get_or-set_other}
use Rattle.byte_queue.specs.Queued.{Queued}
use Rattle.relay_runs.specs.Said.{nothing_waits, waits_at, AreEmpty}

pub waits_here : (queues new : List Queued) (node : ℕ) (queue : Queued) → new ≡ set queues node queue → node < length queues → waits_at new node ≡ queue.waiting
waits_here queues new node queue is within = ap (λ (qs : List Queued). waits_at qs node) is ∙ ap (λ (q : Queued). q.waiting) (get_or-set_same queues node queue nothing_waits within)

pub waits_elsewhere : (queues new : List Queued) (node other : ℕ) (queue : Queued) → new ≡ set queues node queue → node ≢ other → waits_at new other ≡ waits_at queues other
waits_elsewhere queues new node other queue is differs =
    ap (λ (qs : List Queued). waits_at qs other) is ∙ ap (λ (q : Queued). q.waiting) (get_or-set_other queues node other queue nothing_waits (λ same. differs (sym same)))

-- what waits at a node is put back as it was
pub set_back : (queues : List Queued) (node : ℕ) (queue : Queued) → node < length queues → queue.waiting ≡ waits_at queues node → (other : ℕ) → waits_at (set queues node queue) other ≡ waits_at queues other
set_back queues node queue within same other =
    let P : ℕ → Type 0 = λ n. waits_at (set queues node queue) n ≡ waits_at queues n in
    elim (cases_eq node other) [
      | inl is_it ↦ subst P is_it (waits_here queues (set queues node queue) node queue refl within ∙ same)
      | inr differs ↦ waits_elsewhere queues (set queues node queue) node other queue refl differs
    ]

-- ---- nothing waits in new queues

pub none_empty : AreEmpty []
none_empty node = refl

pub more_empty : (queues : List Queued) (queue : Queued) → AreEmpty queues → queue.waiting ≡ [] → AreEmpty (queues ++ queue ∷ [])
more_empty [] queue empty none zero = none
more_empty [] queue empty none (suc node) = refl
more_empty (one ∷ queues) queue empty none zero = empty 0
more_empty (one ∷ queues) queue empty none (suc node) = more_empty queues queue (λ other. empty (suc other)) none node
