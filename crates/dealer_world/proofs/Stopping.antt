-- What a cluster leaves that stops inside a call.
use Rattle.std.proofs.Common.{◌≡◌, ◌≢◌, ℕ, ◌+◌, ◌<◌, ◌⊎◌, inl, inr, ◌==◌, Bool, true, false, if◌then◌else◌, eq-eqb, ne_eqb, List, [], ◌∷◌, map, length, get_or, IsTrue, Result, refl, ap, sym, ◌∙◌, subst, arith}
use Rattle.std.proofs.Math.Logic.{∥∥₁_map, ∥∥₁_elim}
use Rattle.std.proofs.lemmas.Bool.{cases_eq}
use Rattle.std.proofs.lemmas.List.{get_or_default}
use Rattle.promise_store.specs.declared.disk.Disk.{Ghosts}
use Rattle.promise_store.specs.Journals.{header}
use Rattle.promise_store.specs.Holding.{StandsFor}
use Rattle.protocol_model.specs.Stores.{Store, empty_store}
use Rattle.dealer_kind.specs.Kind.{Setting}
use Rattle.node_rules.specs.Standings.{Place, Standing, place_of, front_of, stopped}
use Rattle.node_rules.specs.Turns.{Turn, Refusal}
use Rattle.node_rules.specs.Calls.{Call}
use Rattle.node_rules.specs.Rules.{IsTurn, standing_after}
use Rattle.dealer_node.specs.Nodes.{Node}
use Rattle.dealer_node.specs.declared.fault.NodeFault.{NodeFault}
use Rattle.dealer_node.specs.Members.{place_at}
use Rattle.dealer_node.specs.Seeing.{member_in, front_in, IsSeen, begun_of, images_of, since_of, moment_of, head_of}
use Rattle.dealer_node.specs.Taking.{MayBegin}
use Rattle.dealer_world.specs.declared.event.Event.{Event}
use Rattle.dealer_world.specs.Records.{Arrived}
use Rattle.dealer_world.specs.Headline.{Era}
use Rattle.dealer_world.specs.Calls.{nothing_made}
use Rattle.dealer_world.specs.Views.{grown}
use Rattle.dealer_world.specs.RuleRuns.{in_a_call}
use Rattle.dealer_world.specs.Events.{node_of, call_of}
use Rattle.dealer_world.specs.Ruling.{AreAtPlaces, AreRuled, Leaves, a_run, GoesOn, IsBehind}
use Rattle.dealer_world.specs.Stepping.{View, Stepped}
use Rattle.dealer_world.specs.Promise.{IsForMatch, era_of, with_brought, HasNoForged, GoesOnFrom}
use Rattle.dealer_world.specs.Beginning.{AreImagesDuring}
use Rattle.dealer_world.proofs.Keeping.{each_from}
use Rattle.dealer_world.specs.Runs.{arrived_by}
use Rattle.dealer_world.proofs.Ruled.{front_seen, same_count, seen_at, brought, seated}
use Rattle.dealer_world.proofs.Advancing.{node_in}
use Rattle.dealer_world.proofs.Leaving.{ImagesAreSeen, IsLeftBy, left_from, left_at, all_left, rests}

-- what each node began, where node i began this
abbrev begun_with : List Standing → Standing → ℕ → Store → ℕ → Store
begun_with standings d node next i = if i == node then next else (get_or standings i d).begun

with_own : (standings : List Standing) (d : Standing) (node : ℕ) (next : Store) → begun_with standings d node next node ≡ next
with_own standings d node next = ap (λ b. if b then next else (get_or standings node d).begun) (eq-eqb node node refl)

with_other : (standings : List Standing) (d : Standing) (node : ℕ) (next : Store) (i : ℕ) → i ≢ node → begun_with standings d node next i ≡ (get_or standings i d).begun
with_other standings d node next i other = ap (λ b. if b then next else (get_or standings i d).begun) (ne_eqb i node other)

-- what a call may have begun: what was there before, or what a turn of a node that runs begins
by_begun : (up : Bool) (place : Place) (s : Standing) (called : Call) (next : Store) (A B : Type 0) → s.up ≡ up → MayBegin up place s called next → (next ≡ s.begun → A) → (next ≡ s.store → A)
    → (s.up ≡ true → (outcome : Result Turn Refusal) → IsTurn place s called outcome → next ≡ (standing_after place s outcome).begun → B) → A ⊎ B
by_begun false place s called next A B up is begun store turn = inl (begun is)
by_begun true place s called next A B up (inl is) begun store turn = inl (store is)
by_begun true place s called next A B up (inr (outcome, turned, is)) begun store turn = inr (turn up outcome turned is)

module _ {D : Type 0} (g : Ghosts D) where
  -- the law of nodes: after the moment now there is no other
  abbrev pub MomentsPass : Type 0
  MomentsPass = (node : Node D) (image : List ℕ) → since_of g node (moment_of g node) image → images_of g node image

  -- a call was broken off with its append begun
  breaks : (view : View (Node D)) (eras : List Era) (files : List (List ℕ)) (d : Standing) (front : ℕ) (e : Event) (found : Store) (outcome : Result Turn Refusal)
      → length files ≡ length view.nodes → length view.nodes ≡ length view.config.sources → IsForMatch view.config e → HasNoForged (with_brought view front e)
      → (ruled : AreRuled g view.config eras view.nodes view.all)
      → let s : Standing = get_or ruled.standings (node_of e) d in s.up ≡ true → front ≡ front_of s → IsTurn (place_of view.config (node_of e)) s (call_of found e) outcome
      → StandsFor (header (node_of e) (length view.config.sources)) (get_or files (node_of e) []) (standing_after (place_of view.config (node_of e)) s outcome).begun
      → ((i : ℕ) → i < length view.nodes → i ≢ node_of e
      → IsLeftBy (length view.config.sources) i (get_or ruled.standings i d).store (get_or ruled.standings i d).begun (get_or files i []))
      → Leaves view.config.setting (length view.config.sources) (era_of (with_brought view front e) ∷ eras) files
  breaks view eras files d front e found outcome count nodes_are is_for unforged ruled up same_front turn stands others =
      let i = node_of e in
      let n = length view.config.sources in
      let standings = ruled.standings in
      let s : Standing = get_or standings i d in
      let next = (standing_after (place_of view.config i) s outcome).begun in
      let begun = begun_with standings d i next in
      let size = same_count g view.nodes standings ruled.seen in
      let less : i < length standings = subst (λ m. i < m) size (node_in view.config view.nodes e nodes_are is_for) in
      a_run (record {
        before = eras;
        latest = era_of (with_brought view front e);
        are = refl;
        sources = view.config.sources;
        old = record { standings = standings; now = view.all };
        runs = ruled.runs;
        begun = begun;
        ends = in_a_call i s (call_of found e) outcome less (get_or_default standings i s d less) up (seated n view.config.setting.game.players e found is_for) turn
            (ap (λ (arrived : List Arrived). grown view.all i arrived nothing_made) (brought front e found ∙ ap (λ n. arrived_by i n (call_of found e)) same_front)) (with_own standings d i next)
            (each_from (λ j other. j ≢ i → begun j ≡ other.begun) 0 standings d (λ j within ne.
            let f : j ≡ 0 + j = omega arith in
            subst (λ k. k ≢ i → begun k ≡ (get_or standings j d).begun) f (λ ne'. with_other standings d i next j ne') ne));
        same = refl;
        unforged = unforged;
        held = left_from n begun d 0 files standings (count ∙ size) (λ j within.
            let f : j ≡ 0 + j = omega arith in
            subst (λ k. IsLeftBy n k (get_or standings j d).store (begun k) (get_or files j [])) f (elim (cases_eq j i) [
              | inl is ↦ inr (subst (λ k. StandsFor (header k n) (get_or files k []) (begun k)) (sym is)
                  (subst (λ (store : Store). StandsFor (header i n) (get_or files i []) store) (sym (with_own standings d i next)) stands))
              | inr ne ↦ subst (λ (store : Store). IsLeftBy n j (get_or standings j d).store store (get_or files j [])) (sym (with_other standings d i next j ne))
                  (others j (subst (λ m. j < m) (sym size) within) ne)
            ]));
      })

  -- inside a call: its record is that before the call, or that with what the call brought
  left_inside : (view after : View (Node D)) (e : Event) (answer : Result (Unit {0}) NodeFault) (eras : List Era) (files : List (List ℕ)) → ImagesAreSeen g → MomentsPass → AreAtPlaces view.config view.nodes
      → length view.nodes ≡ length view.config.sources → (stepped : Stepped g view e answer after) → IsForMatch view.config e
      → AreImagesDuring g (node_of e) stepped.before stepped.after view.nodes files → IsTrue g.is_honest → HasNoForged view → HasNoForged (with_brought view (front_in stepped.before) e)
      → AreRuled g view.config eras view.nodes view.all
      → Leaves view.config.setting (length view.config.sources) (era_of view ∷ eras) files ⊎ Leaves view.config.setting (length view.config.sources) (era_of (with_brought view (front_in stepped.before) e) ∷ eras) files
  left_inside view after e answer eras files law moments at_places nodes_are stepped is_for images honest unforged brought_unforged ruled =
      let i = node_of e in
      let n = length view.config.sources in
      let standings = ruled.standings in
      let node = stepped.before in
      let d : Standing = stopped (place_of view.config i) empty_store empty_store in
      let s : Standing = get_or standings i d in
      let file = get_or files i [] in
      let less = node_in view.config view.nodes e nodes_are is_for in
      let placed : place_at (member_in node) ≡ place_of view.config i = ap (λ (m : Node D). place_at (member_in m)) (sym stepped.at) ∙ at_places i node less in
      let seen : IsSeen g node s = subst (λ (m : Node D). IsSeen g m s) stepped.at (seen_at g view.nodes standings i node d less ruled.seen) in
      let t = stepped.given.taken s honest seen in
      let head : head_of (member_in node) ≡ header i n = ap (λ (p : Place). header p.node p.nodes) placed in
      let others : (j : ℕ) → j < length view.nodes → j ≢ i → IsLeftBy n j (get_or standings j d).store (get_or standings j d).begun (get_or files j []) =
      λ j within ne. all_left g view.config view.nodes standings files node d j law at_places ruled.seen within (images.others j node within ne) in
      let rest : IsLeftBy n i s.store s.begun file → Leaves view.config.setting n (era_of view ∷ eras) files =
      λ own. rests g view eras files d images.count unforged ruled (λ j within. elim (cases_eq j i) [
        | inl is ↦ subst (λ k. IsLeftBy n k (get_or standings k d).store (get_or standings k d).begun (get_or files k [])) (sym is) own
        | inr ne ↦ others j within ne
      ]) in
      elim (t.1.moments (moment_of g node) file images.own) [
        | inl was ↦ inl (rest (left_at g view.config i node s file law placed seen (moments node file was)))
        | inr stands ↦ elim stands [
          | inl old ↦ inl (rest (inl (subst (λ (h : List ℕ). StandsFor h file s.store) head old)))
          | inr new ↦
              let here : StandsFor (header i n) file t.1.next = subst (λ (h : List ℕ). StandsFor h file t.1.next) head new in
              by_begun s.up (place_of view.config i) s (call_of t.0 e) t.1.next (Leaves view.config.setting n (era_of view ∷ eras) files) (Leaves view.config.setting n (era_of (with_brought view (front_in stepped.before) e) ∷ eras) files)
              refl (subst (λ (p : Place). MayBegin s.up p s (call_of t.0 e) t.1.next) placed t.1.may_begin)
              (λ is. rest (inr (subst (λ (store : Store). StandsFor (header i n) file store) is here)))
              (λ is. rest (inl (subst (λ (store : Store). StandsFor (header i n) file store) is here)))
              (λ up outcome turn is. breaks view eras files d (front_in node) e t.0 outcome images.count nodes_are is_for brought_unforged ruled up (front_seen g node s seen) turn
              (subst (λ (store : Store). StandsFor (header i n) file store) is here) others)
        ]
      ]

  -- a cluster of the same match goes on from what this one leaves inside a call
  pub goes_on_inside : (view after now : View (Node D)) (e : Event) (answer : Result (Unit {0}) NodeFault) (eras : List Era) → ImagesAreSeen g → MomentsPass → ∥ AreAtPlaces view.config view.nodes ∥₁
      → IsBehind g view.opened view.config view.nodes view.all → length view.nodes ≡ length view.config.sources → now.opened ≡ true → view.config.setting ≡ now.config.setting
      → length view.config.sources ≡ length now.config.sources → (stepped : Stepped g view e answer after) → IsForMatch view.config e
      → AreImagesDuring g (node_of e) stepped.before stepped.after view.nodes (map (begun_of g) now.nodes) → GoesOnFrom g view eras → IsTrue g.is_honest → HasNoForged view → HasNoForged (with_brought view (front_in stepped.before) e)
      → ∥ GoesOnFrom g now (era_of view ∷ eras) ⊎ GoesOnFrom g now (era_of (with_brought view (front_in stepped.before) e) ∷ eras) ∥₁
  goes_on_inside view after now e answer eras law moments at_places behind nodes_are opened setting count stepped is_for images goes honest unforged brought_unforged =
      let files = map (begun_of g) now.nodes in
      let there : (found : List Era) → Leaves view.config.setting (length view.config.sources) found files → GoesOnFrom g now found = λ found left.
      subst (λ b. GoesOn b now.config.setting (length now.config.sources) found files) (sym opened)
      ∣ (subst (λ n. Leaves now.config.setting n found files) count (subst (λ (s : Setting). Leaves s (length view.config.sources) found files) setting left)) ∣₁ in
      ∥∥₁_elim at_places (hlevel) (λ each. ∥∥₁_map (behind eras goes honest) (λ ruled.
      elim (left_inside view after e answer eras files law moments each nodes_are stepped is_for images honest unforged brought_unforged ruled) [
        | inl left ↦ inl (there (era_of view ∷ eras) left)
        | inr left ↦ inr (there (era_of (with_brought view (front_in stepped.before) e) ∷ eras) left)
      ]))
