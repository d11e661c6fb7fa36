-- What a step keeps of a cluster.
use Rattle.std.proofs.Common.{◌≡◌, ℕ, zero, suc, ◌<◌, Bool, List, [], ◌∷◌, map, length, get_or, set, Result, Err, refl, ap, sym, ◌∙◌, subst, length-set}
use Rattle.std.proofs.Math.Logic.{∥∥₁_map, ∥∥₁_elim}
use Rattle.std.proofs.Math.Seq.{map-set_same}
use Rattle.std.proofs.lemmas.List.{get_or_default}
use Rattle.promise_store.specs.declared.disk.Disk.{Ghosts}
use Rattle.dealer_kind.specs.Plans.{Plan}
use Rattle.node_rules.specs.Standings.{Place, Standing, place_of}
use Rattle.dealer_node.specs.Nodes.{Node}
use Rattle.dealer_node.specs.declared.fault.NodeFault.{NodeFault}
use Rattle.dealer_node.specs.declared.fault.NodeFault.TheVariants as fault
use Rattle.dealer_node.specs.Outs.{Told}
use Rattle.dealer_node.specs.Members.{place_at}
use Rattle.dealer_node.specs.Seeing.{member_in, runs, front_in, IsSeen, begun_of}
use Rattle.dealer_world.specs.declared.event.Event.{Event}
use Rattle.dealer_world.specs.Records.{Record}
use Rattle.dealer_world.specs.Views.{grown}
use Rattle.dealer_world.specs.Recordings.{made_by}
use Rattle.dealer_world.specs.Events.{node_of}
use Rattle.dealer_world.specs.Stepping.{View, IsFor, for_prop, IsGiven, Gains, Stepped, arrived_by_event, begins_by_event}
use Rattle.dealer_world.specs.Promise.{IsForMatch}
use Rattle.dealer_world.specs.Ruling.{AreAtPlaces, GoesOn, IsBehind}
use Rattle.dealer_world.proofs.Ruled.{node_within, runs_on, runs_still}

module _ {D : Type 0} where
  pub same_place : (nodes : List (Node D)) (i j : ℕ) (new d : Node D) → place_at (member_in new) ≡ place_at (member_in (get_or nodes i d))
      → place_at (member_in (get_or (set nodes i new) j d)) ≡ place_at (member_in (get_or nodes j d))
  same_place [] i j new d is = refl
  same_place (node ∷ nodes) zero zero new d is = is
  same_place (node ∷ nodes) zero (suc j) new d is = refl
  same_place (node ∷ nodes) (suc i) zero new d is = refl
  same_place (node ∷ nodes) (suc i) (suc j) new d is = same_place nodes i j new d is

  -- who keeps its member leaves all at theirs
  pub still_at_places : (plan : Plan) (nodes : List (Node D)) (i : ℕ) (old new : Node D) → i < length nodes → get_or nodes i old ≡ old → member_in new ≡ member_in old
      → ∥ AreAtPlaces plan nodes ∥₁ → ∥ AreAtPlaces plan (set nodes i new) ∥₁
  still_at_places plan nodes i old new less at same at_places = ∥∥₁_map at_places (λ each j d within.
      let here : place_at (member_in new) ≡ place_at (member_in (get_or nodes i d)) =
      ap place_at same ∙ (ap (λ (node : Node D). place_at (member_in node)) (sym at) ∙ (each i old less ∙ sym (each i d less))) in
      same_place nodes i j new d here ∙ each j d (subst (λ n. j < n) (length-set nodes i new) within))

  -- the event is for its node
  pub is_for_node : (plan : Plan) (nodes : List (Node D)) (e : Event) (node : Node D) → length nodes ≡ length plan.sources → get_or nodes (node_of e) node ≡ node
      → ∥ AreAtPlaces plan nodes ∥₁ → IsForMatch plan e → IsFor (member_in node).nodes (member_in node).setting.game.players e
  is_for_node plan nodes e node count at at_places is_for_match =
      let is_for : IsFor (length nodes) plan.setting.game.players e = subst (λ n. IsFor n plan.setting.game.players e) (sym count) is_for_match in
      ∥∥₁_elim at_places (for_prop (member_in node).nodes (member_in node).setting.game.players e) (λ each.
      let here : place_at (member_in node) ≡ place_of plan (node_of e) =
      ap (λ (n : Node D). place_at (member_in n)) (sym at) ∙ each (node_of e) node (node_within (length nodes) plan.setting.game.players e is_for) in
      subst (λ n. IsFor n (member_in node).setting.game.players e) (count ∙ ap (λ (p : Place). p.nodes) (sym here))
      (subst (λ players. IsFor (length nodes) players e) (ap (λ (p : Place). p.setting.game.players) (sym here)) is_for))

module _ {D : Type 0} (g : Ghosts D) where
  -- what the disks held at their beginning stays
  pub same_begun : (nodes : List (Node D)) (i : ℕ) (old new : Node D) → get_or nodes i old ≡ old → begun_of g new ≡ begun_of g old
      → map (begun_of g) (set nodes i new) ≡ map (begun_of g) nodes
  same_begun nodes i old new at same = map-set_same (begun_of g) nodes i new old (same ∙ ap (begun_of g) (sym at))

  pub behind_on : (opened : Bool) (plan : Plan) (nodes : List (Node D)) (e : Event) (old new : Node D) (told : Told) (answer : Result (Unit {0}) NodeFault) (all : Record)
      → length nodes ≡ length plan.sources → IsForMatch plan e → get_or nodes (node_of e) old ≡ old → ∥ AreAtPlaces plan nodes ∥₁ → ((s : Standing) → IsSeen g old s → runs old ≡ s.up)
      → IsGiven g e old new told answer → (answer ≡ Err fault.OutOfMemory → ⊥) → IsBehind g opened plan nodes all
      → IsBehind g opened plan (set nodes (node_of e) new) (grown all (node_of e) (arrived_by_event (runs old) (front_in old) e) (made_by (node_of e) told (begins_by_event (runs old) e answer)))
  behind_on opened plan nodes e old new told answer all count is_for_match at at_places is_up given ample behind before goes honest =
      let is_for : IsFor (length nodes) plan.setting.game.players e = subst (λ n. IsFor n plan.setting.game.players e) (sym count) is_for_match in
      let less = node_within (length nodes) plan.setting.game.players e is_for in
      ∥∥₁_elim at_places (hlevel) (λ each.
      let here : place_at (member_in old) ≡ place_of plan (node_of e) = ap (λ (n : Node D). place_at (member_in n)) (sym at) ∙ each (node_of e) old less in
      ∥∥₁_map (behind before (subst (GoesOn opened plan.setting (length plan.sources) before) (same_begun nodes (node_of e) old new at given.stays.begun) goes) honest)
      (λ ruled. runs_on g plan before nodes e old new told answer all here less at is_for honest is_up given ample ruled))

  pub behind_still : (opened : Bool) (plan : Plan) (nodes : List (Node D)) (e : Event) (old new : Node D) (told : Told) (answer : Result (Unit {0}) NodeFault) (all : Record)
      → length nodes ≡ length plan.sources → IsForMatch plan e → get_or nodes (node_of e) old ≡ old
      → IsGiven g e old new told answer → answer ≡ Err fault.OutOfMemory → IsBehind g opened plan nodes all
      → IsBehind g opened plan (set nodes (node_of e) new) all
  behind_still opened plan nodes e old new told answer all count is_for_match at given none behind before goes honest =
      let is_for : IsFor (length nodes) plan.setting.game.players e = subst (λ n. IsFor n plan.setting.game.players e) (sym count) is_for_match in
      ∥∥₁_map (behind before (subst (GoesOn opened plan.setting (length plan.sources) before) (same_begun nodes (node_of e) old new at given.stays.begun) goes) honest)
      (λ ruled. runs_still g plan before nodes e old new told answer all (node_within (length nodes) plan.setting.game.players e is_for) at honest given none ruled)

-- two reads of one node
same_node : {A : Type 0} (xs : List A) (i : ℕ) (x y : A) → i < length xs → x ≡ get_or xs i x → y ≡ get_or xs i y → x ≡ y
same_node xs i x y less is also = is ∙ (get_or_default xs i x y less ∙ sym also)

-- what the record gained
recorded : (e : Event) (up is_up : Bool) (front is_front : ℕ) (between old new : Record) (told : Told) (begins : Bool) (answer : Result (Unit {0}) NodeFault)
    → new ≡ grown between (node_of e) (arrived_by_event up front e) (made_by (node_of e) told begins) → begins ≡ begins_by_event up e answer → up ≡ is_up → front ≡ is_front
    → between ≡ old
    → new ≡ grown old (node_of e) (arrived_by_event is_up is_front e) (made_by (node_of e) told (begins_by_event is_up e answer))
recorded e up is_up front is_front between old new told begins answer is begun runs fronts same =
    is ∙ (ap (λ b. grown between (node_of e) (arrived_by_event up front e) (made_by (node_of e) told b)) begun
    ∙ (ap (λ u. grown between (node_of e) (arrived_by_event u front e) (made_by (node_of e) told (begins_by_event u e answer))) runs
    ∙ (ap (λ n. grown between (node_of e) (arrived_by_event is_up n e) (made_by (node_of e) told (begins_by_event is_up e answer))) fronts
    ∙ ap (λ (all : Record). grown all (node_of e) (arrived_by_event is_up is_front e) (made_by (node_of e) told (begins_by_event is_up e answer))) same)))

-- the event's node is one of these
pub node_in : {N : Type 0} (plan : Plan) (nodes : List N) (e : Event) → length nodes ≡ length plan.sources → IsForMatch plan e → node_of e < length nodes
node_in plan nodes e count is_for = subst (λ n. node_of e < n) (sym count) (node_within (length plan.sources) plan.setting.game.players e is_for)

module _ {D : Type 0} where
  -- by a call of a node whose running and whose front were seen before it was given the event
  pub record_gained : (nodes : List (Node D)) (e : Event) (i : ℕ) (seen looked old : Node D) (up : Bool) (front : ℕ) (between before new : Record) (told : Told) (begins : Bool) (answer : Result (Unit {0}) NodeFault)
      → i ≡ node_of e → node_of e < length nodes → seen ≡ get_or nodes i seen → looked ≡ get_or nodes i looked → old ≡ get_or nodes i old → up ≡ runs seen → front ≡ front_in looked
      → new ≡ grown between (node_of e) (arrived_by_event up front e) (made_by (node_of e) told begins) → begins ≡ begins_by_event up e answer → between ≡ before
      → new ≡ grown before (node_of e) (arrived_by_event (runs old) (front_in old) e) (made_by (node_of e) told (begins_by_event (runs old) e answer))
  record_gained nodes e i seen looked old up front between before new told begins answer is less read looked_at again is_up is_front grew begun same =
      let within : i < length nodes = subst (λ k. k < length nodes) (sym is) less in
      recorded e up (runs old) front (front_in old) between before new told begins answer grew begun (is_up ∙ ap (runs {D = D}) (same_node nodes i seen old within read again))
      (is_front ∙ ap (front_in {D = D}) (same_node nodes i looked old within looked_at again)) same

module _ {D : Type 0} (g : Ghosts D) where
  -- one event, by the node that it was given to
  pub stepped_to : (old new : View (Node D)) (e : Event) (answer : Result (Unit {0}) NodeFault) (before after : Node D) (told : Told) (i : ℕ) → i ≡ node_of e
      → new.config ≡ old.config → new.opened ≡ old.opened → length old.nodes ≡ length old.config.sources → IsForMatch old.config e
      → before ≡ get_or old.nodes i before → new.nodes ≡ set old.nodes i after → IsGiven g e before after told answer → Gains e (runs before) (front_in before) told old new answer
      → Stepped g old e answer new
  stepped_to old new e answer before after told i is same_config same_opened count is_for read put given gains = record {
    same_config = same_config;
    same_opened = same_opened;
    before = before;
    after = after;
    within = node_in old.config old.nodes e count is_for;
    at = subst (λ k. get_or old.nodes k before ≡ before) is (sym read);
    others = put ∙ ap (λ k. set old.nodes k after) is;
    told = told;
    given = given;
    gains = gains;
  }
