-- What moves show, and that it never goes back.
use Rattle.std.proofs.Common.{◌≡◌, ℕ, suc, ◌<◌, ◌≤◌, ◌⊎◌, inl, inr, Some, List, [], ◌∷◌, ◌++◌, length, refl, ap, sym, ◌∙◌, subst, arith}
use Rattle.std.proofs.lemmas.Bool.{cases_eq}
use Rattle.slot_log.specs.declared.command.Command.{Command}
use Rattle.protocol_model.specs.Sets.{In}
use Rattle.protocol_model.specs.Messages.{Message}
use Rattle.protocol_model.specs.Quorums.{AreChosen}
use Rattle.protocol_model.specs.Dealers.{Dealer, Reader, text_of}
use Rattle.protocol_model.specs.Nodes.{Node, Knows}
use Rattle.protocol_model.specs.Moves
use Rattle.protocol_model.specs.Moves.{Shown, Output, Move}
use Rattle.protocol_model.specs.Worlds
use Rattle.protocol_model.specs.Worlds.{World, IsAfter, Run, Reached, new_world}
use Rattle.protocol_model.specs.Laws.{NeverGoesBack}
use Rattle.protocol_model.proofs.Sets.{in_later}
use Rattle.protocol_model.proofs.Quorums.{all_chosen_stay}
use Rattle.protocol_model.proofs.Moving.{knows_chosen}
use Rattle.protocol_model.proofs.Runs.{WorldFacts, world_facts}

-- the move shows nothing, and starts the node again or leaves what it showed last
abbrev IsQuiet : Node → Output → Node → Type 0
IsQuiet old out new =
    (out.shown ≡ []) × (((new.starts ≡ old.starts) × (new.shown ≡ old.shown)) ⊎ (new.starts ≡ suc old.starts))

-- the move shows the effect of these commands
record ShowsOne (dealer : Dealer) (i : ℕ) (old : Node) (out : Output) (new : Node) : Type 0 where
  commands : List Command
  reader : Reader
  text : List ℕ
  knows : Knows old.known commands
  further : old.shown ≤ length commands
  is : text_of dealer commands reader ≡ Some text
  shows : out.shown ≡ record { node = i; start = old.starts; reader = reader; count = length commands; text = text } ∷ []
  starts : new.starts ≡ old.starts
  shown : new.shown ≡ length commands

quiet : (dealer : Dealer) (i : ℕ) (old : Node) (out : Output) (new : Node) (o : Output) (v : Node) → out ≡ o → new ≡ v
    → o.shown ≡ [] → v.starts ≡ old.starts → v.shown ≡ old.shown → IsQuiet old out new ⊎ ShowsOne dealer i old out new
quiet dealer i old out new o v eo en nothing starts shown =
    inl (ap (λ x. x.shown) eo ∙ nothing, inl (ap (λ x. x.starts) en ∙ starts, ap (λ x. x.shown) en ∙ shown))

move_shows : (dealer : Dealer) (n i : ℕ) (ever : List Message) (old : Node) (out : Output) (new : Node) → Move dealer n i ever old out new
    → IsQuiet old out new ⊎ ShowsOne dealer i old out new
move_shows dealer n i ever old out new (Moves.gets message up here eo en) = quiet dealer i old out new _ _ eo en refl refl refl
move_shows dealer n i ever old out new (Moves.hears seat bytes up eo en) = quiet dealer i old out new _ _ eo en refl refl refl
move_shows dealer n i ever old out new (Moves.connects seat up eo en) = quiet dealer i old out new _ _ eo en refl refl refl
move_shows dealer n i ever old out new (Moves.drops seat up eo en) = quiet dealer i old out new _ _ eo en refl refl refl
move_shows dealer n i ever old out new (Moves.closes seat up eo en) = quiet dealer i old out new _ _ eo en refl refl refl
move_shows dealer n i ever old out new (Moves.notes seat bytes before line act up connected knows heard says eo en) = quiet dealer i old out new _ _ eo en refl refl refl
move_shows dealer n i ever old out new (Moves.ordered before act up knows hole orders eo en) = quiet dealer i old out new _ _ eo en refl refl refl
move_shows dealer n i ever old out new (Moves.begins ballot slot told up own below tells eo en) = quiet dealer i old out new _ _ eo en refl refl refl
move_shows dealer n i ever old out new (Moves.promises ballot slot told up here below tells eo en) = quiet dealer i old out new _ _ eo en refl refl refl
move_shows dealer n i ever old out new (Moves.proposes ballot first slot command up prepared none own may eo en) = quiet dealer i old out new _ _ eo en refl refl refl
move_shows dealer n i ever old out new (Moves.accepts ballot slot command up here at_most eo en) = quiet dealer i old out new _ _ eo en refl refl refl
move_shows dealer n i ever old out new (Moves.repeats ballot slot command up stored at_most eo en) = quiet dealer i old out new _ _ eo en refl refl refl
move_shows dealer n i ever old out new (Moves.refuses ballot slot greater up eo en) = quiet dealer i old out new _ _ eo en refl refl refl
move_shows dealer n i ever old out new (Moves.learns slot command up chosen eo en) = quiet dealer i old out new _ _ eo en refl refl refl
move_shows dealer n i ever old out new (Moves.believes sender slot command up here eo en) = quiet dealer i old out new _ _ eo en refl refl refl
move_shows dealer n i ever old out new (Moves.tells slot command up knows eo en) = quiet dealer i old out new _ _ eo en refl refl refl
move_shows dealer n i ever old out new (Moves.asks slot up eo en) = quiet dealer i old out new _ _ eo en refl refl refl
move_shows dealer n i ever old out new (Moves.forwards act up said eo en) = quiet dealer i old out new _ _ eo en refl refl refl
move_shows dealer n i ever old out new (Moves.shows commands reader text up knows further is eo en) =
    inr (record {
      commands = commands;
      reader = reader;
      text = text;
      knows = knows;
      further = further;
      is = is;
      shows = ap (λ o. o.shown) eo;
      starts = ap (λ v. v.starts) en;
      shown = ap (λ v. v.shown) en;
    })
move_shows dealer n i ever old out new (Moves.stops begun up append eo en) = quiet dealer i old out new _ _ eo en refl refl refl
move_shows dealer n i ever old out new (Moves.starts store down found eo en) = inl (ap (λ o. o.shown) eo, inr (ap (λ v. v.starts) en))

-- what stands behind all that was shown
pub record ShownFacts (dealer : Dealer) (n : ℕ) (world : World) : Type 0 where
  -- it shows the effect of chosen commands
  pub source : (shown : Shown) → In shown world.shown
      → (commands : List Command) × AreChosen n world.ever commands × (length commands ≡ shown.count) × (text_of dealer commands shown.reader ≡ Some shown.text)
  pub forward : NeverGoesBack world.shown
  -- of an earlier start, or no more than its node showed last
  pub past : (i : ℕ) (shown : Shown) → In shown world.shown → shown.node ≡ i
      → (shown.start < (world.nodes i).starts) ⊎ ((shown.start ≡ (world.nodes i).starts) × (shown.count ≤ (world.nodes i).shown))

source_stays : (dealer : Dealer) (n : ℕ) (old new : World) (sent : List Message) (shown : Shown) → new.ever ≡ sent ++ old.ever
    → ((commands : List Command) × AreChosen n old.ever commands × (length commands ≡ shown.count) × (text_of dealer commands shown.reader ≡ Some shown.text))
    → (commands : List Command) × AreChosen n new.ever commands × (length commands ≡ shown.count) × (text_of dealer commands shown.reader ≡ Some shown.text)
source_stays dealer n old new sent shown ever source =
    (source.0, all_chosen_stay n old.ever new.ever source.0 (λ m here. subst (In m) (sym ever) (in_later sent old.ever m here)) source.1, source.2, source.3)

-- a later state of the node leaves the past what it is
past_moves : (shown : Shown) (old new : Node) → (shown.start < old.starts) ⊎ ((shown.start ≡ old.starts) × (shown.count ≤ old.shown))
    → ((new.starts ≡ old.starts) × (new.shown ≡ old.shown)) ⊎ (new.starts ≡ suc old.starts)
    → (shown.start < new.starts) ⊎ ((shown.start ≡ new.starts) × (shown.count ≤ new.shown))
past_moves shown old new past moved = grind arith

past_shows : (shown : Shown) (old new : Node) → (shown.start < old.starts) ⊎ ((shown.start ≡ old.starts) × (shown.count ≤ old.shown))
    → new.starts ≡ old.starts → old.shown ≤ new.shown → (shown.start < new.starts) ⊎ ((shown.start ≡ new.starts) × (shown.count ≤ new.shown))
past_shows shown old new past starts more = grind arith

count_fits : (shown latest : Shown) (node : Node) → shown.count ≡ latest.count → node.shown ≡ latest.count → shown.count ≤ node.shown
count_fits shown latest node e f = omega arith

latest_last : (node : Node) (latest : Shown) (before : List Shown) → latest.start ≡ node.starts → node.shown ≤ latest.count
    → ((shown : Shown) → In shown before → shown.node ≡ latest.node → (shown.start < node.starts) ⊎ ((shown.start ≡ node.starts) × (shown.count ≤ node.shown)))
    → (shown : Shown) → In shown before → shown.node ≡ latest.node → shown.start ≡ latest.start → shown.count ≤ latest.count
latest_last node latest before start more past shown here same_node same_start =
    let is = past shown here same_node in grind arith

quiet_keeps : (dealer : Dealer) (n i : ℕ) (old : World) (out : Output) (node : Node) (new : World) → IsAfter old i out node new
    → IsQuiet (old.nodes i) out node → ShownFacts dealer n old → ShownFacts dealer n new
quiet_keeps dealer n i old out node new after calm facts =
    let same : new.shown ≡ old.shown = after.shown ∙ ap (λ xs. xs ++ old.shown) calm.0 in
    record {
      source = λ shown here. source_stays dealer n old new out.sent shown after.ever (facts.source shown (subst (In shown) same here));
      forward = subst NeverGoesBack (sym same) facts.forward;
      past = λ j shown here is.
          let before = facts.past j shown (subst (In shown) same here) is in
          elim (cases_eq j i) [
            | inl e ↦
                let starts : (new.nodes j).starts ≡ node.starts = ap (λ v. v.starts) (ap new.nodes e ∙ after.moved) in
                let count : (new.nodes j).shown ≡ node.shown = ap (λ v. v.shown) (ap new.nodes e ∙ after.moved) in
                let old_starts : (old.nodes j).starts ≡ (old.nodes i).starts = ap (λ k. (old.nodes k).starts) e in
                let old_count : (old.nodes j).shown ≡ (old.nodes i).shown = ap (λ k. (old.nodes k).shown) e in
                past_moves shown (old.nodes j) (new.nodes j) before (elim calm.1 [
                  | inl s ↦ inl (starts ∙ s.0 ∙ sym old_starts, count ∙ s.1 ∙ sym old_count)
                  | inr s ↦ inr (starts ∙ s ∙ ap suc (sym old_starts))
                ])
            | inr other ↦ subst (λ v. (shown.start < v.starts) ⊎ ((shown.start ≡ v.starts) × (shown.count ≤ v.shown))) (sym (after.others j other)) before
          ];
    }

shows_keeps : (dealer : Dealer) (n i : ℕ) (old : World) (out : Output) (node : Node) (new : World) → WorldFacts dealer n old → IsAfter old i out node new
    → ShowsOne dealer i (old.nodes i) out node → ShownFacts dealer n old → ShownFacts dealer n new
shows_keeps dealer n i old out node new world after one facts =
    let latest : Shown = record { node = i; start = (old.nodes i).starts; reader = one.reader; count = length one.commands; text = one.text } in
    let same : new.shown ≡ latest ∷ old.shown = after.shown ∙ ap (λ xs. xs ++ old.shown) one.shows in
    let now : (commands : List Command) × AreChosen n old.ever commands × (length commands ≡ latest.count) × (text_of dealer commands latest.reader ≡ Some latest.text)
    = (one.commands, knows_chosen n old.ever (old.nodes i).known one.commands (world.nodes i).known one.knows, refl, one.is) in
    record {
      source = λ shown here. source_stays dealer n old new out.sent shown after.ever (elim (let h : In shown (latest ∷ old.shown) = subst (In shown) same here in h) [
        | inl e ↦ subst (λ (s : Shown). (commands : List Command) × AreChosen n old.ever commands × (length commands ≡ s.count) × (text_of dealer commands s.reader ≡ Some s.text)) (sym e) now
        | inr before ↦ facts.source shown before
      ]);
      forward = subst NeverGoesBack (sym same) (latest_last (old.nodes i) latest old.shown refl one.further (facts.past i), facts.forward);
      past = λ j shown here is. elim (let h : In shown (latest ∷ old.shown) = subst (In shown) same here in h) [
        | inl e ↦
            let at : j ≡ i = sym is ∙ ap (λ s. s.node) e in
            let node_is : new.nodes j ≡ node = ap new.nodes at ∙ after.moved in
            inr (ap (λ s. s.start) e ∙ sym (ap (λ v. v.starts) node_is ∙ one.starts), count_fits shown latest (new.nodes j) (ap (λ s. s.count) e) (ap (λ v. v.shown) node_is ∙ one.shown))
        | inr before ↦
            let past = facts.past j shown before is in
            elim (cases_eq j i) [
              | inl e ↦
                  let node_is : new.nodes j ≡ node = ap new.nodes e ∙ after.moved in
                  past_shows shown (old.nodes j) (new.nodes j) past
                  (ap (λ v. v.starts) node_is ∙ one.starts ∙ ap (λ k. (old.nodes k).starts) (sym e))
                  (subst (λ k. (old.nodes k).shown ≤ (new.nodes j).shown) (sym e) (subst (λ k. (old.nodes i).shown ≤ k) (sym (ap (λ v. v.shown) node_is ∙ one.shown)) one.further))
              | inr other ↦ subst (λ v. (shown.start < v.starts) ⊎ ((shown.start ≡ v.starts) × (shown.count ≤ v.shown))) (sym (after.others j other)) past
            ]
      ];
    }

pub shown_facts : (dealer : Dealer) (n : ℕ) (world : World) → Reached dealer n world → ShownFacts dealer n world
shown_facts dealer n world Worlds.start = record { source = λ shown here. absurd here; forward = tt; past = λ i shown here is. absurd here }
shown_facts dealer n world (Worlds.more between i out node end run within move after) =
    let before = shown_facts dealer n between run in
    elim (move_shows dealer n i between.ever (between.nodes i) out node move) [
      | inl calm ↦ quiet_keeps dealer n i between out node end after calm before
      | inr one ↦ shows_keeps dealer n i between out node end (world_facts dealer n between run) after one before
    ]
