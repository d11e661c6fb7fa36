-- A relay whose bot named the version: it dialled node 0, asked for the first line, and was told it.
use Rattle.std.proofs.Common.{◌≡◌, ℕ, zero, suc, ◌<◌, ◌==◌, Bool, true, false, List, [], ◌∷◌, ◌++◌, length, codes, Some, None, inl, inr, if◌then◌else◌, ◌∙◌, ◌⊎◌, get_or, refl, ap, sym, subst, arith, rules}
use Rattle.std.proofs.lemmas.Bool.Decides.{eqb_tells}
use Rattle.std.specs.Global.{Vec, Global}
use Rattle.std.specs.Ptr.{null_ptr}
use Rattle.byte_queue.specs.Queued.{Queued}
use Rattle.node_wires.specs.declared.line.Line.TheVariants.{Peer, Seat}
use Rattle.node_wires.specs.Passages.{Passage, Began, Came, came_over, wrote_over}
use Rattle.seat_relay.specs.declared.mode.Mode.{Mode}
use Rattle.seat_relay.specs.Relaying.{Line, Event, Begins, Tells, after, happens, all_given}
use Rattle.matchstate.proofs.Examples.{opened}
use Rattle.seat_relay.specs.Places.{IsPlaced}
use Rattle.seat_relay.specs.Laws.{fresh, Word, Shows, words_over}
use Rattle.relay_runs.specs.declared.desk.Desk.{Desk}
use Rattle.relay_runs.specs.Said.{asked_behind, over_behind, waits_at, first_of, first_over, said_over, bytes_of_answers, IsSaidTo, IsBeginning}
use Rattle.relay_runs.specs.Own.{was_dialled}
use Rattle.relay_runs.specs.Few.{IsTail, last_said}
use Rattle.relay_runs.specs.Since.{begun_over}
use Rattle.relay_runs.specs.Heard.{shows, greets, IsHeardOf, IsSaidOf}
use Rattle.relay_runs.specs.Course.{Explains, Course, begin, step}
use Rattle.joined_lines.proofs.WitnessRules.{said_by_bot, first_line}

abbrev pub ended_line : List ℕ
ended_line = first_line ++ 13 ∷ 10 ∷ []

abbrev pub version : List ℕ
version = codes "VERSION:2.0.0\r\n"

not_the_first : (node : ℕ) → (0 == suc node) ≡ false
not_the_first node = elim (eqb_tells 0 (suc node)) as (λ _. (0 == suc node) ≡ false) [
  | inl same ↦ absurd (let e = same.1 in omega (arith, e))
  | inr other ↦ other.0
]

abbrev pub mode : Mode
mode = record { newest = false; first_stands = false }

abbrev pub the_line : Line
the_line = record { text = first_line; place = record { hand = 0; len = 0 } }

abbrev pub empty : Queued
empty = record { waiting = []; room = 0 }

abbrev pub bytes_waiting : List ℕ → Queued
bytes_waiting bytes = record { waiting = bytes; room = 0 }

module _ (alloc : Global) where
  abbrev pub queues : List ℕ → Vec Queued
  queues first = record { ptr = null_ptr; len = 3; cap = 3; alloc = alloc; items = bytes_waiting first ∷ empty ∷ empty ∷ []; ok = (refl, omega arith); small = omega arith }

  abbrev pub desk_at : List Event → Bool → Bool → List ℕ → List ℕ → Desk
  desk_at events seated dialled for_bot for_node = record {
    alloc = alloc;
    relay = record { nodes = 3; mode = mode; standing = after (fresh mode 3) events; events = events };
    from_bot = empty;
    passes_over = false;
    from_nodes = queues [];
    to_bot = bytes_waiting for_bot;
    to_nodes = queues for_node;
    opening = record { token = record { ptr = null_ptr; len = 0; cap = 0; alloc = alloc; items = []; ok = (refl, omega arith); small = omega arith }; newest = false };
    mended = None;
    dialled = record { ptr = null_ptr; len = 3; cap = 3; alloc = alloc; items = dialled ∷ false ∷ false ∷ []; ok = (refl, omega arith); small = omega arith };
    has_bot = true;
    is_seated = seated;
  }

  -- the bot was taken in
  abbrev taken_in : Desk
  taken_in = desk_at [] false false [] []

  abbrev named : Desk
  named = desk_at [] true false [] []

  abbrev dialled : Desk
  dialled = desk_at (Begins 0 ∷ []) true true [] said_by_bot

  abbrev pub told : Desk
  told = desk_at (Begins 0 ∷ Tells 0 the_line ∷ []) true true ended_line said_by_bot

  abbrev passed_named : List Passage
  passed_named = Came (Seat 0) version ∷ []

  abbrev passed_dialled : List Passage
  passed_dialled = Came (Seat 0) version ∷ Began (Peer 0) ∷ []

  abbrev pub passed_told : List Passage
  passed_told = Came (Seat 0) version ∷ Began (Peer 0) ∷ Came (Peer 0) ended_line ∷ []

  -- ---- what waits, and who was dialled

  none_behind : (first : List ℕ) (node : ℕ) → waits_at (queues first).items (suc node) ≡ []
  none_behind first zero = refl
  none_behind first (suc zero) = refl
  none_behind first (suc (suc node)) = refl

  all_empty : (node : ℕ) → waits_at (queues []).items node ≡ []
  all_empty zero = refl
  all_empty (suc node) = none_behind [] node

  no_other_dialled : (first : Bool) (node : ℕ) → was_dialled (first ∷ false ∷ false ∷ []) (suc node) ≡ false
  no_other_dialled first zero = refl
  no_other_dialled first (suc zero) = refl
  no_other_dialled first (suc (suc node)) = refl

  none_dialled : (node : ℕ) → was_dialled (false ∷ false ∷ false ∷ []) node ≡ false
  none_dialled zero = refl
  none_dialled (suc node) = no_other_dialled false node

  not_dialled : (flag : Bool) → flag ≡ false → flag ≡ true → ⊥
  not_dialled flag off on = let e : false ≡ true = sym off ∙ on in cc

  -- ---- of nodes that weren't dialled

  nothing_heard : (came waiting : List ℕ) (words : List Word) → came ≡ [] → waiting ≡ [] → words ≡ [] → IsHeardOf came waiting words
  nothing_heard came waiting words came_is waits_is words_are =
      record { raws = []; whole = came_is ∙ sym waits_is; heard = words_are; few = let e = ap length waits_is in omega (arith, e) }

  no_tail : (tail text : List ℕ) → tail ≡ [] → text ≡ [] → IsTail tail text
  no_tail tail text tail_is text_is = ([], text_is ∙ sym tail_is)

  module _ (node : ℕ) where
    unasked_dialled : first_over (suc node) dialled ≡ []
    unfolding asked_behind
    unasked_dialled = ap (λ (b : Bool). first_of [] (if b then Some (codes "FIRST") else None)) (not_the_first node)

    unasked_told : first_over (suc node) told ≡ []
    unfolding asked_behind
    unasked_told = ap (λ (b : Bool). first_of [] (if b then Some (codes "FIRST") else None)) (not_the_first node)

    unsaid_dialled : said_over (suc node) dialled.relay ≡ []
    unfolding over_behind
    unsaid_dialled = ap (λ (b : Bool). if b then [] else []) (not_the_first node)

    unsaid_told : said_over (suc node) told.relay ≡ []
    unfolding over_behind
    unsaid_told = ap (λ (b : Bool). if b then [] else []) (not_the_first node)

    wordless_dialled : words_over (suc node) dialled.relay.events ≡ []
    wordless_dialled = ap (λ (b : Bool). if b then [] else []) (not_the_first node)

    wordless_told : words_over (suc node) told.relay.events ≡ []
    wordless_told = ap (λ (b : Bool). if b then (if b then [] else []) ++ Shows the_line ∷ [] else (if b then [] else [])) (not_the_first node)

    came_dialled : came_over passed_dialled (Peer (suc node)) ≡ []
    came_dialled = ap (λ (b : Bool). if b then [] else []) (not_the_first node)

    came_told : came_over passed_told (Peer (suc node)) ≡ []
    came_told = ap (λ (b : Bool). if b then (if b then [] else []) ++ ended_line else (if b then [] else [])) (not_the_first node)

    wrote_dialled : wrote_over passed_dialled (Peer (suc node)) ≡ []
    wrote_dialled = ap (λ (b : Bool). if b then [] else []) (not_the_first node)

    wrote_told : wrote_over passed_told (Peer (suc node)) ≡ []
    wrote_told = ap (λ (b : Bool). if b then [] else []) (not_the_first node)

  -- ---- what came

  its_version : IsSaidOf None version [] false true []
  its_version = record {
    raws = codes "VERSION:2.0.0\r" ∷ [];
    passed_over = [];
    whole = refl;
    free = tt;
    none = λ e. refl;
    long = λ e. absurd cc;
    texts = ([], [], true, refl, search rules, greets (codes "VERSION:2.0.0") (inl refl) (record { revision = codes "0"; whole = refl; some = omega arith; few = omega arith; digits = refl }), (refl, refl));
    few = omega arith;
  }

  its_place : IsPlaced first_line (record { hand = 0; len = 0 })
  unfolding opened
  its_place = record {
    fields = record { position = codes "0"; hand = codes "0"; betting = []; cards = codes "6d4h|" };
    has_fields = record { whole = refl; position_field = search rules; hand_field = search rules; betting_field = tt; cards_field = search rules };
    hand_text = refl;
    hand_below = omega arith;
    betting_len = refl;
  }

  its_line : IsHeardOf ended_line [] (Shows the_line ∷ [])
  its_line = record {
    raws = (first_line ++ 13 ∷ []) ∷ [];
    whole = refl;
    heard = (Shows the_line ∷ [], [], refl, search rules, shows the_line (record { text = inl refl; short = omega arith; placed = its_place }), refl);
    few = omega arith;
  }

  -- ---- stage by stage

  at_first : Explains taken_in []
  unfolding all_given asked_behind over_behind
  at_first = record {
    begun = λ node. refl;
    said = record { bot = refl; nodes = λ node. all_empty node };
    heard = record {
      nodes = λ node. nothing_heard [] (waits_at (queues []).items node) [] refl (all_empty node) refl;
      bot = record { raws = []; passed_over = []; whole = refl; free = tt; none = λ e. refl; long = λ e. absurd cc; texts = (refl, refl); few = omega arith };
    };
    own = record { dialled = λ node e. absurd (not_dialled _ (none_dialled node) e); nothing = λ node e. (refl, refl); greeted = λ e node. refl; lines = tt };
    few = record { bot = omega arith; nodes = λ node. ([], sym (all_empty node)) };
  }

  at_named : Explains named passed_named
  unfolding all_given asked_behind over_behind
  at_named = record {
    begun = λ node. refl;
    said = record { bot = refl; nodes = λ node. all_empty node };
    heard = record { nodes = λ node. nothing_heard [] (waits_at (queues []).items node) [] refl (all_empty node) refl; bot = its_version };
    own = record { dialled = λ node e. absurd (not_dialled _ (none_dialled node) e); nothing = λ node e. (refl, refl); greeted = λ e. absurd cc; lines = (refl, tt) };
    few = record { bot = omega arith; nodes = λ node. ([], sym (all_empty node)) };
  }

  said_dialled : (node : ℕ) → IsSaidTo node dialled passed_dialled
  unfolding asked_behind over_behind
  said_dialled zero = refl
  said_dialled (suc node) =
      ap (λ (w : List ℕ). w ++ waits_at (queues said_by_bot).items (suc node)) (wrote_dialled node) ∙ (none_behind said_by_bot node
      ∙ sym (ap (λ (first : List ℕ). first ++ bytes_of_answers (said_over (suc node) dialled.relay)) (unasked_dialled node) ∙ ap bytes_of_answers (unsaid_dialled node)))

  heard_dialled : (node : ℕ) → IsHeardOf (came_over passed_dialled (Peer node)) (waits_at dialled.from_nodes.items node) (words_over node dialled.relay.events)
  heard_dialled zero = nothing_heard [] [] [] refl refl refl
  heard_dialled (suc node) = nothing_heard _ _ _ (came_dialled node) (none_behind [] node) (wordless_dialled node)

  few_dialled : (node : ℕ) → IsTail (waits_at dialled.to_nodes.items node) (last_said (first_over node dialled) (said_over node dialled.relay))
  unfolding asked_behind over_behind
  few_dialled zero = ([], refl)
  few_dialled (suc node) = no_tail _ _ (none_behind said_by_bot node) (ap (λ (said : List (List ℕ)). last_said (first_over (suc node) dialled) said) (unsaid_dialled node) ∙ unasked_dialled node)

  at_dialled : Explains dialled passed_dialled
  unfolding all_given
  at_dialled = record {
    begun = λ node. omega arith;
    said = record { bot = refl; nodes = said_dialled };
    heard = record { nodes = heard_dialled; bot = its_version };
    own = record { dialled = was; nothing = nothing; greeted = λ e. absurd cc; lines = (refl, (refl, tt)) };
    few = record { bot = omega arith; nodes = few_dialled };
  }
    where
      was : (node : ℕ) → was_dialled (true ∷ false ∷ false ∷ []) node ≡ true → 0 < begun_over passed_dialled (Peer node)
      was zero e = omega arith
      was (suc node) e = absurd (not_dialled _ (no_other_dialled true node) e)

      nothing : (node : ℕ) → begun_over passed_dialled (Peer node) ≡ 0 → (came_over passed_dialled (Peer node) ≡ []) × (wrote_over passed_dialled (Peer node) ≡ [])
      nothing zero e = absurd (omega (arith, e))
      nothing (suc node) e = (came_dialled node, wrote_dialled node)

  said_told : (node : ℕ) → IsSaidTo node told passed_told
  unfolding asked_behind over_behind
  said_told zero = refl
  said_told (suc node) =
      ap (λ (w : List ℕ). w ++ waits_at (queues said_by_bot).items (suc node)) (wrote_told node) ∙ (none_behind said_by_bot node
      ∙ sym (ap (λ (first : List ℕ). first ++ bytes_of_answers (said_over (suc node) told.relay)) (unasked_told node) ∙ ap bytes_of_answers (unsaid_told node)))

  heard_told : (node : ℕ) → IsHeardOf (came_over passed_told (Peer node)) (waits_at told.from_nodes.items node) (words_over node told.relay.events)
  heard_told zero = its_line
  heard_told (suc node) = nothing_heard _ _ _ (came_told node) (none_behind [] node) (wordless_told node)

  few_told : (node : ℕ) → IsTail (waits_at told.to_nodes.items node) (last_said (first_over node told) (said_over node told.relay))
  unfolding asked_behind over_behind
  few_told zero = ([], refl)
  few_told (suc node) = no_tail _ _ (none_behind said_by_bot node) (ap (λ (said : List (List ℕ)). last_said (first_over (suc node) told) said) (unsaid_told node) ∙ unasked_told node)

  at_told : Explains told passed_told
  unfolding all_given happens
  at_told = record {
    begun = λ node. omega arith;
    said = record { bot = refl; nodes = said_told };
    heard = record { nodes = heard_told; bot = its_version };
    own = record { dialled = was; nothing = nothing; greeted = λ e. absurd cc; lines = (refl, (refl, (refl, tt))) };
    few = record { bot = omega arith; nodes = few_told };
  }
    where
      was : (node : ℕ) → was_dialled (true ∷ false ∷ false ∷ []) node ≡ true → 0 < begun_over passed_told (Peer node)
      was zero e = omega arith
      was (suc node) e = absurd (not_dialled _ (no_other_dialled true node) e)

      nothing : (node : ℕ) → begun_over passed_told (Peer node) ≡ 0 → (came_over passed_told (Peer node) ≡ []) × (wrote_over passed_told (Peer node) ≡ [])
      nothing zero e = absurd (omega (arith, e))
      nothing (suc node) e = (came_told node, wrote_told node)

  -- ---- its course

  nothing_begins : IsBeginning []
  nothing_begins = record { free = tt; short = omega arith }

  pub course : Course told passed_told
  course = step dialled told passed_dialled passed_told
      (step named dialled passed_named passed_dialled
      (step taken_in named [] passed_named (begin taken_in refl at_first)
      (record { hello = refl; mode = refl; nodes = refl; mended = refl; event = None; happened = refl; passage = Some (Came (Seat 0) version); passed = refl; behind = nothing_begins }) at_named)
      (record { hello = refl; mode = refl; nodes = refl; mended = refl; event = Some (Begins 0); happened = refl; passage = Some (Began (Peer 0)); passed = refl; behind = tt }) at_dialled)
      (record { hello = refl; mode = refl; nodes = refl; mended = refl; event = Some (Tells 0 the_line); happened = refl; passage = Some (Came (Peer 0) ended_line); passed = refl; behind = nothing_begins }) at_told

  -- ---- what came from each node by each moment

  one_came : (node : ℕ) (p : Passage) → Came (Seat 0) version ≡ p → came_over (p ∷ []) (Peer node) ≡ []
  one_came node p first = λ i. came_over (sym first i ∷ []) (Peer node)

  two_came : (node : ℕ) (p q : Passage) → Came (Seat 0) version ≡ p → Began (Peer 0) ≡ q → came_over (p ∷ q ∷ []) (Peer node) ≡ came_over passed_dialled (Peer node)
  two_came node p q first second = λ i. came_over (sym first i ∷ sym second i ∷ []) (Peer node)

  three_came : (node : ℕ) (p q r : Passage) → Came (Seat 0) version ≡ p → Began (Peer 0) ≡ q → Came (Peer 0) ended_line ≡ r → came_over (p ∷ q ∷ r ∷ []) (Peer node) ≡ came_over passed_told (Peer node)
  three_came node p q r first second third = λ i. came_over (sym first i ∷ sym second i ∷ sym third i ∷ []) (Peer node)

  dialled_alone : (node : ℕ) → came_over passed_dialled (Peer node) ≡ []
  dialled_alone zero = refl
  dialled_alone (suc node) = came_dialled node

  all_told : (node : ℕ) → (came_over passed_told (Peer node) ≡ []) ⊎ (came_over passed_told (Peer node) ≡ ended_line)
  all_told zero = inr refl
  all_told (suc node) = inl (came_told node)

  pub each_moment : (node : ℕ) (front behind : List Passage) → passed_told ≡ front ++ behind → (came_over front (Peer node) ≡ []) ⊎ (came_over front (Peer node) ≡ ended_line)
  each_moment node [] behind whole = inl refl
  each_moment node (p ∷ []) behind whole = inl (one_came node p (ap (λ (l : List Passage). get_or l 0 p) whole))
  each_moment node (p ∷ q ∷ []) behind whole = inl (two_came node p q (ap (λ (l : List Passage). get_or l 0 p) whole) (ap (λ (l : List Passage). get_or l 1 q) whole) ∙ dialled_alone node)
  each_moment node (p ∷ q ∷ r ∷ []) behind whole =
      subst (λ (came : List ℕ). (came ≡ []) ⊎ (came ≡ ended_line))
      (sym (three_came node p q r (ap (λ (l : List Passage). get_or l 0 p) whole) (ap (λ (l : List Passage). get_or l 1 q) whole) (ap (λ (l : List Passage). get_or l 2 r) whole))) (all_told node)
  each_moment node (p ∷ q ∷ r ∷ s ∷ front) behind whole = absurd cc
