-- How a cluster begins, and how it goes on from an earlier one.
use Rattle.std.proofs.Common.{◌≡◌, ◌≢◌, ℕ, zero, suc, ◌<◌, ◌≤◌, inl, inr, Bool, true, false, Some, List, [], ◌∷◌, ◌++◌, map, reverse, length, refl, ap, sym, ◌∙◌, subst, arith}
use Rattle.std.proofs.lemmas.List.{append-nil}
use Rattle.std.proofs.lemmas.Bool.{cases_eq, false≢true}
use Rattle.slot_log.specs.declared.command.Command.{Command}
use Rattle.protocol_model.specs.Sets.{In, IsBeginning}
use Rattle.protocol_model.specs.Messages.{Accepted}
use Rattle.protocol_model.specs.Arrivals as model
use Rattle.protocol_model.specs.Stores.{Store}
use Rattle.protocol_model.specs.Nodes.{Node as WorldNode}
use Rattle.protocol_model.specs.Dealers.{Dealer}
use Rattle.protocol_model.specs.Moves
use Rattle.protocol_model.specs.Moves.{Chain, nothing}
use Rattle.protocol_model.specs.Worlds.{World, Run, Reached, IsAfter, new_world, start}
use Rattle.protocol_model.specs.Laws.{IsLeft, OwnsMore, with_own}
use Rattle.dealer_kind.specs.declared.source.Source.{Source}
use Rattle.dealer_world.specs.Records.{Record, Arrived, no_record}
use Rattle.dealer_world.specs.Headline.{Era, said_in}
use Rattle.dealer_world.specs.Calls.{nothing_made}
use Rattle.dealer_world.specs.Views.{placed_at, grown}
use Rattle.dealer_world.specs.Behind.{Behind, EachNode, AreEras, ArePieces, no_era, one_more, AreHeard}
use Rattle.dealer_world.specs.Openings.{BehindEras, LeftInside}
use Rattle.protocol_model.proofs.Sets.{in_later, in_split}
use Rattle.dealer_world.specs.Given.{Reaches, KnownIsChosen, MayWiden}
use Rattle.dealer_world.proofs.Heard.{IsAt, hears, was_heard_on}
use Rattle.dealer_world.proofs.Ordering.{orders_later}

-- ---- the end of an era

abbrev pub era_of : List Source → Record → Era
era_of sources now = record { sources = sources; record_of = now }

-- the world behind a cluster is one behind its eras
abbrev pub behind_eras : {Node : Type 0} (IsOf : ℕ → Node → WorldNode → List ℕ → Type 0) (dealer : Dealer) (nodes : List Node) (now : Record) (sources : List Source) (before : List Era)
    → Behind IsOf dealer nodes now before → BehindEras dealer (length nodes) (era_of sources now ∷ before)
behind_eras IsOf dealer nodes now sources before b = record {
  world = b.world;
  reached = b.reached;
  carried = b.carried;
  accepted = b.accepted;
  shown = one_more b.base b.latest b.older b.world.shown (era_of sources now) before (era_of sources now ∷ before) b.shown refl b.pieces b.headers b.eras;
  heard = b.heard;
  ordered = b.ordered;
}

-- the world after a call of node i that was begun and broken off: that node is as the call left it, the others as they were
pub record BrokenOff (dealer : Dealer) (n i : ℕ) (first : World) (last : WorldNode) (eras : List Era) : Type 0 where
  pub behind : BehindEras dealer n eras
  pub moved : behind.world.nodes i ≡ last
  pub others : (j : ℕ) → j ≢ i → behind.world.nodes j ≡ first.nodes j

-- what came to it counts as delivered
pub broken_off : {Node : Type 0} (IsOf : ℕ → Node → WorldNode → List ℕ → Type 0) (dealer : Dealer) (nodes : List Node) (now : Record) (sources : List Source) (before : List Era)
    (i : ℕ) (arrived : List Arrived) (store : Store)
    → Reaches → KnownIsChosen → i < length nodes → ((what : Arrived) → In what arrived → IsAt i what)
    → (b : Behind IsOf dealer nodes now before)
    → (arrived ≢ [] → (b.world.nodes i).up ≡ true)
    → (inside : LeftInside dealer (length nodes) i b.world.ever (b.world.nodes i) arrived store)
    → BrokenOff dealer (length nodes) i b.world inside.last (era_of sources (grown now i arrived nothing_made) ∷ before)
broken_off IsOf dealer nodes now sources before i arrived store reach known within at b runs inside =
    let reached = reach dealer (length nodes) i new_world b.world inside.output inside.last b.reached within inside.chain in
    let later = reached.0 in
    let after : IsAfter b.world i inside.output inside.last later = reached.2 in
    let delivered = now.delivered ++ map (placed_at (length now.sent)) arrived in
    let heard : AreHeard later.came delivered before = elim inside.came [
      | inl brings ↦ subst (λ came. AreHeard came delivered before) (sym after.came)
          (hears i false arrived (length now.sent) inside.output.came b.world.came now.delivered before at brings (λ some seat bytes is. b.heard_now i seat bytes within (runs some) is) b.heard).0
      | inr none ↦ subst (λ came. AreHeard came delivered before) (sym (after.came ∙ ap (λ out. out ++ b.world.came) none))
          (λ earlier node seat bytes beginning is. elim (b.heard earlier node seat bytes beginning is) [
            | inl here ↦ inl (was_heard_on now.delivered (map (placed_at (length now.sent)) arrived) node seat bytes here)
            | inr there ↦ inr there
          ])
    ] in
    let same_sent : now.sent ++ [] ≡ now.sent = append-nil now.sent in
    let same_shown : now.shown ++ [] ≡ now.shown = append-nil now.shown in
    let same : said_in (era_of sources (grown now i arrived nothing_made) ∷ before) ≡ said_in (era_of sources now ∷ before) =
    ap (λ sent. said_in (era_of sources (record now { sent = sent }) ∷ before)) same_sent in
    record {
      behind = record {
        world = later;
        reached = reached.1;
        carried = λ message h. subst (In message) (sym after.ever) (in_later inside.output.sent b.world.ever message (b.carried message (subst (In message) same h)));
        accepted = λ sender ballot slot command h. subst (In (Accepted sender ballot slot command)) (sym same)
            (elim (in_split inside.output.sent b.world.ever (Accepted sender ballot slot command) (subst (In (Accepted sender ballot slot command)) after.ever h)) [
              | inl never ↦ absurd (inside.none_accepted sender ballot slot command never)
              | inr was ↦ b.accepted sender ballot slot command was
            ]);
        shown =
            let shown_same : later.shown ≡ b.latest ++ b.older = after.shown ∙ (ap (λ xs. xs ++ b.world.shown) inside.none_shown ∙ b.shown) in
            one_more b.base b.latest b.older later.shown (era_of sources (grown now i arrived nothing_made)) before (era_of sources (grown now i arrived nothing_made) ∷ before) shown_same refl
            (subst (λ shown. ArePieces b.base b.latest (reverse shown)) (sym same_shown) b.pieces)
            (λ begun there. let found = b.headers begun there in
            (found.0, subst (In found.0) (sym same_shown) found.1, found.2, found.3, found.4)) b.eras;
        heard = heard;
        ordered = orders_later known dealer (length nodes) i b.world later.came inside.output.came false arrived nothing_made now before b.reached b.accepted inside.came after.came inside.knew b.ordered;
      };
      moved = after.moved;
      others = after.others;
    }

-- ---- an end in which all nodes are down

-- what a node may leave begun: where it is down, what it had begun
pub record MayLeave (i : ℕ) (node : WorldNode) (store : Store) : Type 0 where
  pub left : IsLeft i node store
  pub same : node.up ≡ false → store ≡ node.begun

record SomeDown (dealer : Dealer) (n : ℕ) (first : World) (stores : ℕ → Store) (k : ℕ) : Type 0 where
  world : World
  run : Run dealer n new_world world
  ever : world.ever ≡ first.ever
  shown : world.shown ≡ first.shown
  came : world.came ≡ first.came
  down : (i : ℕ) → i < k → (world.nodes i).up ≡ false
  store : (i : ℕ) → i < k → (world.nodes i).store ≡ (first.nodes i).store
  begun : (i : ℕ) → i < k → (world.nodes i).begun ≡ stores i
  same : (i : ℕ) → k ≤ i → world.nodes i ≡ first.nodes i

one_down : (dealer : Dealer) (n : ℕ) (first : World) (stores : ℕ → Store) (k : ℕ) → Reaches → k < n → ((first.nodes k).up ≡ false → stores k ≡ (first.nodes k).begun)
    → IsLeft k (first.nodes k) (stores k) → SomeDown dealer n first stores k → SomeDown dealer n first stores (suc k)
one_down dealer n first stores k reach less begun (inr (down, holds)) some =
    let at : some.world.nodes k ≡ first.nodes k = some.same k (omega arith) in
    record {
      world = some.world;
      run = some.run;
      ever = some.ever;
      shown = some.shown;
      came = some.came;
      down = λ i below. elim (cases_eq i k) [
        | inl is ↦ subst (λ j. (some.world.nodes j).up ≡ false) (sym is) (ap (λ (node : WorldNode). node.up) at ∙ down)
        | inr other ↦ some.down i (omega arith)
      ];
      store = λ i below. elim (cases_eq i k) [
        | inl is ↦ subst (λ j. (some.world.nodes j).store ≡ (first.nodes j).store) (sym is) (ap (λ (node : WorldNode). node.store) at)
        | inr other ↦ some.store i (omega arith)
      ];
      begun = λ i below. elim (cases_eq i k) [
        | inl is ↦ subst (λ j. (some.world.nodes j).begun ≡ stores j) (sym is) (ap (λ (node : WorldNode). node.begun) at ∙ sym (begun down))
        | inr other ↦ some.begun i (omega arith)
      ];
      same = λ i above. some.same i (omega arith);
    }
one_down dealer n first stores k reach less begun (inl (up, append)) some =
    let at : some.world.nodes k ≡ first.nodes k = some.same k (omega arith) in
    let stopped : WorldNode = record (first.nodes k) { begun = stores k; up = false } in
    let stop : Chain dealer n k some.world.ever (first.nodes k) nothing stopped =
    Moves.more nothing (first.nodes k) nothing nothing stopped (Moves.none nothing (first.nodes k) refl refl) (Moves.stops (stores k) up append refl refl) refl in
    let reached = reach dealer n k new_world some.world nothing stopped some.run less (subst (λ node. Chain dealer n k some.world.ever node nothing stopped) (sym at) stop) in
    let later = reached.0 in
    let after : IsAfter some.world k nothing stopped later = reached.2 in
    record {
      world = later;
      run = reached.1;
      ever = after.ever ∙ some.ever;
      shown = after.shown ∙ some.shown;
      came = after.came ∙ some.came;
      down = λ i below. elim (cases_eq i k) [
        | inl is ↦ subst (λ j. (later.nodes j).up ≡ false) (sym is) (ap (λ (node : WorldNode). node.up) after.moved)
        | inr other ↦ ap (λ (node : WorldNode). node.up) (after.others i other) ∙ some.down i (omega arith)
      ];
      store = λ i below. elim (cases_eq i k) [
        | inl is ↦ subst (λ j. (later.nodes j).store ≡ (first.nodes j).store) (sym is) (ap (λ (node : WorldNode). node.store) after.moved)
        | inr other ↦ ap (λ (node : WorldNode). node.store) (after.others i other) ∙ some.store i (omega arith)
      ];
      begun = λ i below. elim (cases_eq i k) [
        | inl is ↦ subst (λ j. (later.nodes j).begun ≡ stores j) (sym is) (ap (λ (node : WorldNode). node.begun) after.moved)
        | inr other ↦ ap (λ (node : WorldNode). node.begun) (after.others i other) ∙ some.begun i (omega arith)
      ];
      same = λ i above. after.others i (λ is. omega arith) ∙ some.same i (omega arith);
    }

some_down : (dealer : Dealer) (n : ℕ) (first : World) (stores : ℕ → Store) → Reaches → Reached dealer n first
    → ((i : ℕ) → i < n → MayLeave i (first.nodes i) (stores i)) → (k : ℕ) → k ≤ n → SomeDown dealer n first stores k
some_down dealer n first stores reach reached may zero le = record {
  world = first;
  run = reached;
  ever = refl;
  shown = refl;
  came = refl;
  down = λ i less. absurd (omega arith);
  store = λ i less. absurd (omega arith);
  begun = λ i less. absurd (omega arith);
  same = λ i above. refl;
}
some_down dealer n first stores reach reached may (suc k) le =
    let here = may k (omega arith) in
    one_down dealer n first stores k reach (omega arith) here.same here.left (some_down dealer n first stores reach reached may k (omega arith))

-- behind the eras is a world whose nodes are all down, each with the store that it had, and with this begun
pub record Rests (dealer : Dealer) (n : ℕ) (first : World) (eras : List Era) (stores : ℕ → Store) : Type 0 where
  pub behind : BehindEras dealer n eras
  pub down : (i : ℕ) → i < n → (behind.world.nodes i).up ≡ false
  pub store : (i : ℕ) → i < n → (behind.world.nodes i).store ≡ (first.nodes i).store
  pub begun : (i : ℕ) → i < n → (behind.world.nodes i).begun ≡ stores i

pub all_rest : (dealer : Dealer) (n : ℕ) (eras : List Era) (stores : ℕ → Store) → Reaches → (b : BehindEras dealer n eras)
    → ((i : ℕ) → i < n → MayLeave i (b.world.nodes i) (stores i)) → Rests dealer n b.world eras stores
all_rest dealer n eras stores reach b may =
    let all = some_down dealer n b.world stores reach b.reached may n (omega arith) in
    record {
      behind = record {
        world = all.world;
        reached = all.run;
        carried = λ message h. subst (In message) (sym all.ever) (b.carried message h);
        accepted = λ sender ballot slot command h. b.accepted sender ballot slot command (subst (In (Accepted sender ballot slot command)) all.ever h);
        shown = subst (λ shown. AreEras shown eras) (sym all.shown) b.shown;
        heard = λ earlier node seat bytes beginning is. b.heard earlier node seat bytes (subst (IsBeginning earlier) all.came beginning) is;
        ordered = λ node front sent there. b.ordered node front sent (subst (In _) all.came there);
      };
      down = all.down;
      store = all.store;
      begun = all.begun;
    }

-- ---- the beginning of an era

-- nodes that are down, of a world that rests behind the eras before, and nothing recorded yet
pub begins : {Node : Type 0} (IsOf : ℕ → Node → WorldNode → List ℕ → Type 0) (dealer : Dealer) (nodes : List Node) (before : List Era)
    → (b : BehindEras dealer (length nodes) before) → ((i : ℕ) → i < length nodes → (b.world.nodes i).up ≡ false)
    → EachNode (λ i node. IsOf i node (b.world.nodes i) []) 0 nodes → Behind IsOf dealer nodes no_record before
begins IsOf dealer nodes before b down of = record {
  world = b.world;
  reached = b.reached;
  are_of = of;
  carried = λ message h. b.carried message (subst (In message) (append-nil (said_in before)) h);
  accepted = λ sender ballot slot command h. subst (In (Accepted sender ballot slot command)) (sym (append-nil (said_in before))) (b.accepted sender ballot slot command h);
  accepts = λ ballot slot command h. elim h [ ];
  own = λ frame h. elim h [ ];
  base = λ i. suc (b.world.nodes i).starts;
  latest = [];
  older = b.world.shown;
  shown = refl;
  pieces = tt;
  eras = b.shown;
  starts = λ i less. omega arith;
  started = λ i less up. absurd (false≢true (sym (down i less) ∙ up));
  begun = λ piece h. elim h [ ];
  headers = λ begun h. elim h [ ];
  heard = λ earlier node seat bytes beginning is. inr (b.heard earlier node seat bytes beginning is);
  heard_now = λ i seat bytes less up is. absurd (false≢true (sym (down i less) ∙ up));
  ordered = λ node front sent there. inr (b.ordered node front sent there);
}

-- before any era there is the new world
pub no_eras : (dealer : Dealer) (n : ℕ) → BehindEras dealer n []
no_eras dealer n = record {
  world = new_world;
  reached = start;
  carried = λ message h. elim h [ ];
  accepted = λ sender ballot slot command h. elim h [ ];
  shown = no_era [] [] refl refl;
  heard = λ earlier node seat bytes beginning is. absurd (none_heard earlier node seat bytes beginning is);
  ordered = λ node front sent there. elim there [ ];
}
  where
    none_heard : (earlier : List model.Arrival) (node seat : ℕ) (bytes : List ℕ) → IsBeginning earlier [] → model.heard_in earlier node seat ≡ Some bytes → ⊥
    none_heard [] node seat bytes beginning is = cc
    none_heard (arrival ∷ earlier) node seat bytes ([], is_all) is = cc
    none_heard (arrival ∷ earlier) node seat bytes (first ∷ later, is_all) is = cc

pub no_eras_world : (dealer : Dealer) (n : ℕ) → (no_eras dealer n).world ≡ new_world
unfolding no_eras
no_eras_world dealer n = refl

pub widened : (dealer : Dealer) (own : ℕ → Command → Bool) (n : ℕ) (eras : List Era) → MayWiden → OwnsMore dealer own
    → (b : BehindEras dealer n eras) → (wide : BehindEras (with_own dealer own) n eras) × (wide.world ≡ b.world)
widened dealer own n eras widen more b = (
  record {
    world = b.world;
    reached = widen dealer own n new_world b.world more b.reached;
    carried = b.carried;
    accepted = b.accepted;
    shown = b.shown;
    heard = b.heard;
    ordered = b.ordered;
  },
  refl,
)
