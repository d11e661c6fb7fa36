-- Few bytes wait to be written, call by call.
use Rattle.std.proofs.Common.{◌≡◌, ◌⊎◌, ℕ, ◌+◌, ◌<◌, ◌≤◌, Bool, true, false, List, [], ◌∷◌, ◌++◌, append_assoc, append-nil, length, inl, inr, None, refl, ap, sym, subst, ◌∙◌, arith}
use Rattle.seat_relay.specs.Relaying.{Standing, Event, Story, after, with_event}
use Rattle.seat_relay.specs.Laws.{fresh}
use Rattle.relay_runs.specs.declared.desk.Desk.{Desk}
use Rattle.relay_runs.specs.declared.opening.Opening.{Opening}
use Rattle.relay_runs.specs.Said.{ended, greeting, asks, asked_by, asked_over, first_of, said_over, begins_at, over_by, waits_at, AreEmpty, first_over}
use Rattle.relay_runs.specs.Few.{last_said, IsTail, IsFew}
use Rattle.relay_runs.proofs.Hearing.{joined_len}
use Rattle.relay_runs.proofs.Happening.{asked_more, asked_begins, asked_stays, more_over, over_more, over_is, over_begins}

-- ---- ends of what was said

tail_on : (t u v : List ℕ) → IsTail t u → IsTail u v → IsTail t v
tail_on t u v one two = (two.0 ++ one.0, two.1 ∙ (ap (λ (l : List ℕ). two.0 ++ l) one.1 ∙ sym (append_assoc two.0 one.0 t)))

pub tail_same : (t u : List ℕ) → t ≡ u → IsTail t u
tail_same t u same = ([], sym same)

tail_none : (t u : List ℕ) → t ≡ [] → IsTail t u
tail_none t u none = subst (λ (l : List ℕ). IsTail l u) (sym none) (u, sym (append-nil u))

pub tail_behind : (t u piece : List ℕ) → u ≡ piece ++ t → IsTail t u
tail_behind t u piece parts = (piece, parts)

last_more : (first : List ℕ) (before : List (List ℕ)) (answer : List ℕ) → last_said first (before ++ answer ∷ []) ≡ ended answer
last_more first [] answer = refl
last_more first (one ∷ before) answer = last_more (ended one) before answer

-- ---- nothing is said

shorter : (n m : ℕ) → m ≤ n → n < 65536 + 4098 → m < 65536 + 4098
shorter n m less few = omega arith

pub few_alike : (a b : Desk) → b.opening ≡ a.opening → b.relay ≡ a.relay → length b.to_bot.waiting ≤ length a.to_bot.waiting
    → ((node : ℕ) → IsTail (waits_at b.to_nodes.items node) (waits_at a.to_nodes.items node)) → IsFew a → IsFew b
few_alike a b hello relay bot tails f = record {
  bot = shorter (length a.to_bot.waiting) (length b.to_bot.waiting) bot f.bot;
  nodes = λ node.
      let same : last_said (first_over node a) (said_over node a.relay) ≡ last_said (first_over node b) (said_over node b.relay) =
      ap (λ (o : Opening). last_said (first_of o.token.items (asked_over node a.relay)) (said_over node a.relay)) (sym hello)
      ∙ ap (λ (r : Story). last_said (first_of b.opening.token.items (asked_over node r)) (said_over node r)) (sym relay) in
      subst (IsTail (waits_at b.to_nodes.items node)) same (tail_on _ _ _ (tails node) (f.nodes node));
}

pub as_long : (v w : List ℕ) → w ≡ v → length w ≤ length v
as_long v w same = subst (λ (l : List ℕ). length l ≤ length v) (sym same) (omega arith)

pub behind_piece : (v w piece : List ℕ) → v ≡ piece ++ w → length w ≤ length v
behind_piece v w [] same = as_long v w (sym same)
behind_piece v w (byte ∷ piece) same =
    let h : length w ≤ length (piece ++ w) = behind_piece (piece ++ w) w piece refl in
    subst (λ (l : List ℕ). length w ≤ length l) (sym same) (omega arith)

-- ---- an event

-- from where on a node is asked to tell over its connection, after one event more
asked_now : (a b : Desk) (node : ℕ) (e : Event) → b.relay ≡ with_event a.relay e → a.relay.standing ≡ after (fresh a.relay.mode a.relay.nodes) a.relay.events
    → asked_over node b.relay ≡ asked_by node a.relay.standing (asked_over node a.relay) e
asked_now a b node e story follows =
    ap (asked_over node) story
    ∙ (asked_more node (fresh a.relay.mode a.relay.nodes) None a.relay.events e ∙ ap (λ (n : Standing). asked_by node n (asked_over node a.relay) e) (sym follows))

-- the first lines that are said over it
pub first_then : (a b : Desk) (node : ℕ) (e : Event) → b.relay ≡ with_event a.relay e → a.relay.standing ≡ after (fresh a.relay.mode a.relay.nodes) a.relay.events → b.opening ≡ a.opening → begins_at node e ≡ false
    → first_over node b ≡ first_over node a
first_then a b node e story follows hello isnt =
    ap (λ (o : Opening). first_of o.token.items (asked_over node b.relay)) hello
    ∙ ap (first_of a.opening.token.items) (asked_now a b node e story follows ∙ asked_stays node a.relay.standing (asked_over node a.relay) e isnt)

pub first_now : (a b : Desk) (node : ℕ) (e : Event) → b.relay ≡ with_event a.relay e → a.relay.standing ≡ after (fresh a.relay.mode a.relay.nodes) a.relay.events → begins_at node e ≡ true
    → first_over node b ≡ greeting b.opening.token.items (asks a.relay.standing)
first_now a b node e story follows is =
    ap (first_of b.opening.token.items) (asked_now a b node e story follows ∙ asked_begins node a.relay.standing (asked_over node a.relay) e is)

pub said_now : (a b : Desk) (node : ℕ) (e : Event) → b.relay ≡ with_event a.relay e → a.relay.standing ≡ after (fresh a.relay.mode a.relay.nodes) a.relay.events
    → said_over node b.relay ≡ over_by node a.relay.standing (said_over node a.relay) e
said_now a b node e story follows =
    ap (said_over node) story
    ∙ (over_more node (fresh a.relay.mode a.relay.nodes) [] a.relay.events e ∙ ap (λ (n : Standing). over_by node n (said_over node a.relay) e) (sym follows))

-- nothing is said to the node, and what waits for it is what waited; or an answer is, and waits
abbrev pub SaysFew : Desk → Desk → ℕ → Event → Type 0
SaysFew a b node e =
    ((more_over node a.relay.standing e ≡ []) × (waits_at b.to_nodes.items node ≡ waits_at a.to_nodes.items node))
    ⊎ ((answer : List ℕ) × (more_over node a.relay.standing e ≡ answer ∷ []) × (waits_at b.to_nodes.items node ≡ ended answer))

pub few_event : (a b : Desk) (e : Event) → b.relay ≡ with_event a.relay e → a.relay.standing ≡ after (fresh a.relay.mode a.relay.nodes) a.relay.events → b.opening ≡ a.opening → length b.to_bot.waiting < 65536 + 4098
    → ((node : ℕ) → begins_at node e ≡ false → SaysFew a b node e) → ((node : ℕ) → begins_at node e ≡ true → waits_at b.to_nodes.items node ≡ greeting b.opening.token.items (asks a.relay.standing)) → IsFew a → IsFew b
few_event a b e story follows hello bot others first f = record {
  bot = bot;
  nodes = λ node.
      let before : List (List ℕ) = said_over node a.relay in
      let said : said_over node b.relay ≡ over_by node a.relay.standing before e = said_now a b node e story follows in
      let waits : List ℕ = waits_at b.to_nodes.items node in
      let P : Bool → Type 0 = λ t. begins_at node e ≡ t → IsTail waits (last_said (first_over node b) (said_over node b.relay)) in
      let step : P (begins_at node e) = elim (begins_at node e) as P [
        | true ↦ λ is.
            let none : said_over node b.relay ≡ [] = said ∙ over_begins node a.relay.standing before e is in
            tail_same waits _ (first node is ∙ (sym (first_now a b node e story follows is) ∙ ap (last_said (first_over node b)) (sym none)))
        | false ↦ λ isnt.
            let more : said_over node b.relay ≡ before ++ more_over node a.relay.standing e = said ∙ over_is node a.relay.standing before e isnt in
            let start : first_over node b ≡ first_over node a = first_then a b node e story follows hello isnt in
            elim (others node isnt) [
              | inl none ↦
                  let same : last_said (first_over node a) before ≡ last_said (first_over node b) (said_over node b.relay) =
                  ap (λ (h : List ℕ). last_said h before) (sym start)
                  ∙ ap (last_said (first_over node b)) (sym (more ∙ (ap (λ (l : List (List ℕ)). before ++ l) none.0 ∙ append-nil before))) in
                  subst (IsTail waits) same (tail_on _ _ _ (tail_same _ _ none.1) (f.nodes node))
              | inr one ↦ tail_same waits _ (one.2 ∙ (sym (last_more (first_over node b) before one.0)
                  ∙ ap (last_said (first_over node b)) (sym (more ∙ ap (λ (l : List (List ℕ)). before ++ l) one.1))))
            ]
      ] in
      step refl;
}

-- a line more waits for the bot
pub few_lines : (waited text waits : List ℕ) → waits ≡ waited ++ ended text → length waited < 65536 → length text ≤ 4096 → length waits < 65536 + 4098
few_lines waited text waits is few short =
    let one : length (waited ++ ended text) ≡ length waited + length (ended text) = joined_len waited (ended text) in
    let two : length (text ++ 13 ∷ 10 ∷ []) ≡ length text + 2 = joined_len text (13 ∷ 10 ∷ []) in
    subst (λ (l : List ℕ). length l < 65536 + 4098) (sym is) (omega arith)

-- a bot is taken in
pub few_fresh : (b : Desk) → b.to_bot.waiting ≡ [] → AreEmpty b.to_nodes.items → IsFew b
few_fresh b bot nodes = record {
  bot = subst (λ (l : List ℕ). length l < 65536 + 4098) (sym bot) (omega arith);
  nodes = λ node. tail_none _ _ (nodes node);
}
