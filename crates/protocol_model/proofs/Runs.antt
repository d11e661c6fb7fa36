-- What holds in every world that a run reaches.
use Rattle.std.proofs.Common.{ℕ, ◌<◌, inl, inr, List, ◌++◌, refl, ap, sym, ◌∙◌, subst, subst₂, append_assoc}
use Rattle.std.proofs.lemmas.Bool.{cases_eq}
use Rattle.protocol_model.specs.Sets.{put}
use Rattle.protocol_model.specs.Messages.{Message}
use Rattle.protocol_model.specs.Dealers.{Dealer}
use Rattle.protocol_model.specs.Nodes.{Node}
use Rattle.protocol_model.specs.Moves
use Rattle.protocol_model.specs.Moves.{Output, both, Move, Chain}
use Rattle.protocol_model.specs.Worlds
use Rattle.protocol_model.specs.Worlds.{World, IsAfter, Run, Reached, new_world}
use Rattle.protocol_model.proofs.Sets.{put_same, put_other}
use Rattle.protocol_model.proofs.Facts.{Facts}
use Rattle.protocol_model.proofs.Stores.{empty_holds}
use Rattle.protocol_model.proofs.Sending.{NodeFacts}
use Rattle.protocol_model.proofs.Moving.{move_keeps}

pub record WorldFacts (dealer : Dealer) (n : ℕ) (world : World) : Type 0 where
  pub facts : Facts dealer n world.ever
  pub nodes : (i : ℕ) → NodeFacts n i world.ever (world.nodes i)

first_facts : (dealer : Dealer) (n : ℕ) → WorldFacts dealer n new_world
first_facts dealer n = record {
  facts = record {
    right = λ message here. absurd here;
    one = λ ballot slot c d here _. absurd here;
    told = λ sender ballot first told lower slot command here _ _ _. absurd here;
  };
  nodes = λ i. record {
    store = empty_holds i;
    begun = empty_holds i;
    same = λ up. refl;
    has = λ m here. absurd here;
    sent = λ m here. absurd here;
    fresh = λ ballot first slot command here _. absurd here;
    known = λ slot command here. absurd here;
  };
}

step_facts : (dealer : Dealer) (n : ℕ) (old : World) (i : ℕ) (out : Output) (node : Node) (new : World) → i < n
    → WorldFacts dealer n old → Move dealer n i old.ever (old.nodes i) out node → IsAfter old i out node new → WorldFacts dealer n new
step_facts dealer n old i out node new within facts move after =
    let kept = move_keeps dealer n i old.ever (old.nodes i) out node within facts.facts (facts.nodes i) move in
    record {
      facts = subst (Facts dealer n) (sym after.ever) kept.facts;
      nodes = λ j. elim (cases_eq j i) [
        | inl e ↦ subst₂ (NodeFacts n j) (sym after.ever) (sym (ap new.nodes e ∙ after.moved))
            (subst (λ k. NodeFacts n k (out.sent ++ old.ever) node) (sym e) kept.node)
        | inr other ↦ subst₂ (NodeFacts n j) (sym after.ever) (sym (after.others j other)) (kept.others j (old.nodes j) other (facts.nodes j))
      ];
    }

pub facts_go_on : (dealer : Dealer) (n : ℕ) (first last : World) → WorldFacts dealer n first → Run dealer n first last → WorldFacts dealer n last
facts_go_on dealer n first last facts Worlds.start = facts
facts_go_on dealer n first last facts (Worlds.more between i out node end run within move after) =
    step_facts dealer n between i out node end within (facts_go_on dealer n first between facts run) move after

pub world_facts : (dealer : Dealer) (n : ℕ) (world : World) → Reached dealer n world → WorldFacts dealer n world
world_facts dealer n world run = facts_go_on dealer n new_world world (first_facts dealer n) run

-- the world after a move
abbrev pub after_move : World → ℕ → Output → Node → World
after_move world i out node = record { nodes = put world.nodes i node; ever = out.sent ++ world.ever; shown = out.shown ++ world.shown; came = out.came ++ world.came }

pub is_after_move : (world : World) (i : ℕ) (out : Output) (node : Node) → IsAfter world i out node (after_move world i out node)
is_after_move world i out node = record { moved = put_same world.nodes i node; others = put_other world.nodes i node; ever = refl; shown = refl; came = refl }

pub both_after : (old between new : World) (i : ℕ) (earlier later : Output) (middle node : Node) → IsAfter old i earlier middle between
    → IsAfter between i later node new → IsAfter old i (both later earlier) node new
both_after old between new i earlier later middle node first second = record {
  moved = second.moved;
  others = λ j other. second.others j other ∙ first.others j other;
  ever = second.ever ∙ (ap (λ xs. later.sent ++ xs) first.ever ∙ sym (append_assoc later.sent earlier.sent old.ever));
  shown = second.shown ∙ (ap (λ xs. later.shown ++ xs) first.shown ∙ sym (append_assoc later.shown earlier.shown old.shown));
  came = second.came ∙ (ap (λ xs. later.came ++ xs) first.came ∙ sym (append_assoc later.came earlier.came old.came));
}

-- a chain of moves of one node reaches a world
pub chain_reaches : (dealer : Dealer) (n : ℕ) (first world : World) (i : ℕ) (out : Output) (node : Node) → Run dealer n first world → i < n
    → Chain dealer n i world.ever (world.nodes i) out node → (later : World) × Run dealer n first later × IsAfter world i out node later
chain_reaches dealer n first world i out node run within (Moves.none o v eo en) = (
  world,
  run,
  record {
    moved = sym en;
    others = λ j other. refl;
    ever = ap (λ (o : Output). o.sent ++ world.ever) (sym eo);
    shown = ap (λ (o : Output). o.shown ++ world.shown) (sym eo);
    came = ap (λ (o : Output). o.came ++ world.came) (sym eo);
  },
)
chain_reaches dealer n first world i out node run within (Moves.more earlier between later o v chain move eo) =
    let reached = chain_reaches dealer n first world i earlier between run within chain in
    let middle = reached.0 in
    let next = after_move middle i later node in
    let here : Move dealer n i middle.ever (middle.nodes i) later node =
    subst₂ (λ e v. Move dealer n i e v later node) (sym reached.2.ever) (sym reached.2.moved) move in
    let joined = both_after world middle next i earlier later between node reached.2 (is_after_move middle i later node) in
    (next, Worlds.more middle i later node next reached.1 within here (is_after_move middle i later node), subst (λ o. IsAfter world i o node next) (sym eo) joined)

-- runs go on
pub run_joins : (dealer : Dealer) (n : ℕ) (first between last : World) → Run dealer n first between → Run dealer n between last → Run dealer n first last
run_joins dealer n first between last run Worlds.start = run
run_joins dealer n first between last run (Worlds.more middle i out node end rest within move after) =
    Worlds.more middle i out node end (run_joins dealer n first between middle run rest) within move after

-- so chains of one node join
pub chain_joins : (dealer : Dealer) (n i : ℕ) (ever : List Message) (old : Node) (earlier : Output) (between : Node) (later : Output) (new : Node)
    → Chain dealer n i ever old earlier between → Chain dealer n i (earlier.sent ++ ever) between later new
    → Chain dealer n i ever old (both later earlier) new
chain_joins dealer n i ever old earlier between later new chain (Moves.none o v eo en) =
    subst₂ (λ o v. Chain dealer n i ever old (both o earlier) v) (sym eo) (sym en) chain
chain_joins dealer n i ever old earlier between later new chain (Moves.more first middle last o v rest move eo) =
    let joined = chain_joins dealer n i ever old earlier between first middle chain rest in
    let here : Move dealer n i ((first.sent ++ earlier.sent) ++ ever) middle last new =
    subst (λ e. Move dealer n i e middle last new) (sym (append_assoc first.sent earlier.sent ever)) move in
    Moves.more (both first earlier) middle last (both later earlier) new joined here
    (ap (λ o. both o earlier) eo
    ∙ (λ k. record { sent = append_assoc last.sent first.sent earlier.sent k; shown = append_assoc last.shown first.shown earlier.shown k; came = append_assoc last.came first.came earlier.came k }))
