-- What a process leaves that dies is what the next process of its node goes on from.
use Rattle.std.proofs.Common.{◌≡◌, ℕ, ◌⊎◌, ◌∙◌, inl, inr, Bool, true, false, Option, Some, None, List, [], ◌∷◌, Ok, refl, ap, sym, subst}
use Rattle.promise_store.specs.declared.disk.Disk.{Ghosts}
use Rattle.promise_store.specs.Journals.{header}
use Rattle.promise_store.specs.Holding.{StandsFor}
use Rattle.protocol_model.specs.Stores.{Store}
use Rattle.node_rules.specs.Standings.{Place, Standing, front_of, stopped}
use Rattle.node_rules.specs.Calls.{Stop}
use Rattle.node_rules.specs.Called.{took}
use Rattle.node_rules.specs.Turns.{still}
use Rattle.node_rules.specs.Rules.{IsTurnBy, stopping, standing_after}
use Rattle.dealer_node.specs.Nodes.{Node}
use Rattle.dealer_node.specs.declared.up.Up.{Up}
use Rattle.dealer_node.specs.Members.{Membership, place_at}
use Rattle.dealer_node.specs.Seeing.{member_in, runs, front_in, is_up, IsSeen, IsSeenBy, images_of, since_of, moment_of, head_of}
use Rattle.dealer_node.specs.Taking.{MayBegin}
use Rattle.dealer_world.specs.Calls.{nothing_made}
use Rattle.dealer_world.specs.Events.{call_of, brought_by}
use Rattle.dealer_world.specs.Runs.{Ruled, arrived_at}
use Rattle.dealer_world.specs.Calling.{BrokenEventsAreCalls, FrontsAreSeen}
use Rattle.stations.specs.Deeds.{Deed}
use Rattle.stations.specs.Stations.{HoldsAfter, LeavesFile, DeathsAtRestAreDeeds, DeathsInsideAreDeeds, died, broke_off}

-- ---- a stop, as a call by the rules

abbrev Dies : Place → Standing → Standing → Type 0
Dies place s after = Ruled place s Stop [] nothing_made after

none_arrives : (up : Bool) (i front : ℕ) → [] ≡ arrived_at up i front Stop
none_arrives true i front = refl
none_arrives false i front = refl

stops_up : (place : Place) (s : Standing) → s.up ≡ true → Dies place s (stopped place s.store s.store)
stops_up place s up = record {
  frames = [];
  shown = [];
  ends = took (stopping place s) (subst (λ b. IsTurnBy b place s Stop (Ok (stopping place s))) (sym up) refl) refl refl refl;
  seated = tt;
  written = tt;
  texts = refl;
  keeps = (none_arrives s.up place.node (front_of s), refl);
}

pub stops_down : (place : Place) (s : Standing) → s.up ≡ false → Dies place s s
stops_down place s down = record {
  frames = [];
  shown = [];
  ends = took (still s) (subst (λ b. IsTurnBy b place s Stop (Ok (still s))) (sym down) refl) refl refl refl;
  seated = tt;
  written = tt;
  texts = refl;
  keeps = (none_arrives s.up place.node (front_of s), refl);
}

-- ---- deaths

module _ {D : Type 0} (g : Ghosts D) where
  -- it runs, with nothing begun, or is down
  runs_or_not : (member : Membership) (up : Option (Up D)) (disk : Option D) (s : Standing) → IsSeenBy g member up disk s
      → ((is_up up ≡ true) × (s.begun ≡ s.store)) ⊎ ((is_up up ≡ false) × (s ≡ stopped (place_at member) s.store s.begun))
  runs_or_not member (Some up) disk s seen = inl (refl, seen.unbegun)
  runs_or_not member None (Some disk) s seen = inr (refl, seen.stopped)
  runs_or_not member None None s seen = absurd seen

  -- whatever of its store or of what was begun the file stands for
  dies_with : (place : Place) (node : Node D) (deeds : List Deed) (file : List ℕ) (at : HoldsAfter g place node deeds) → place_at (member_in node) ≡ place → runs node ≡ at.s.up
      → StandsFor (header place.node place.nodes) file at.s.store ⊎ StandsFor (header place.node place.nodes) file at.s.begun → LeavesFile place file (died ∷ deeds)
  dies_with place node deeds file at placed is held =
      let s = at.s in
      elim (runs_or_not (member_in node) node.up node.disk s at.seen.by) [
        | inl (up, unbegun) ↦
            record {
              s = stopped place s.store s.store;
              did = (s, at.did, (Stop, stops_up place s (sym is ∙ up)));
              down = refl;
              held = elim held [ inl old ↦ inl old | inr new ↦ inl (subst (StandsFor (header place.node place.nodes) file) unbegun new) ];
            }
        | inr (down, is_stopped) ↦
            record {
              s = s;
              did = (s, at.did, (Stop, stops_down place s (sym is ∙ down)));
              down = subst (λ (p : Place). s ≡ stopped p s.store s.begun) placed is_stopped;
              held = held;
            }
      ]

  abbrev pub ImagesAreSeen : Type 0
  ImagesAreSeen = (node : Node D) (s : Standing) (image : List ℕ) → IsSeen g node s → images_of g node image
      → StandsFor (head_of (member_in node)) image s.store ⊎ StandsFor (head_of (member_in node)) image s.begun

  abbrev pub MomentsPass : Type 0
  MomentsPass = (node : Node D) (image : List ℕ) → since_of g node (moment_of g node) image → images_of g node image

  abbrev pub TellsUp : Type 0
  TellsUp = (node : Node D) (s : Standing) → IsSeen g node s → runs node ≡ s.up

  pub dies_at_rest : ImagesAreSeen → TellsUp → DeathsAtRestAreDeeds g
  dies_at_rest law tells place node deeds file placed image at =
      dies_with place node deeds file at placed (tells node at.s at.seen)
      (subst (λ (head : List ℕ). StandsFor head file at.s.store ⊎ StandsFor head file at.s.begun) (ap (λ (p : Place). header p.node p.nodes) placed) (law node at.s file at.seen image))

  pub dies_inside : ImagesAreSeen → MomentsPass → TellsUp → BrokenEventsAreCalls → FrontsAreSeen g → DeathsInsideAreDeeds g
  dies_inside law moments tells broken fronts place e old new told answer deeds file placed here is_for given honest since at =
      let s = at.s in
      let is = tells old s at.seen in
      let t = given.taken s honest at.seen in
      let head : head_of (member_in old) ≡ header place.node place.nodes = ap (λ (p : Place). header p.node p.nodes) placed in
      let rest : StandsFor (header place.node place.nodes) file s.store ⊎ StandsFor (header place.node place.nodes) file s.begun → LeavesFile place file (died ∷ deeds) = dies_with place old deeds file at placed is in
      elim (t.1.moments (moment_of g old) file since) [
        | inl was ↦ inl (dies_at_rest law tells place old deeds file placed (moments old file was) at)
        | inr (inl kept) ↦ inl (rest (inl (subst (λ (h : List ℕ). StandsFor h file s.store) head kept)))
        | inr (inr later) ↦ by_begun s.up t.0 t.1.next refl (subst (λ (p : Place). MayBegin s.up p s (call_of t.0 e) t.1.next) placed t.1.may_begin)
            (subst (λ (h : List ℕ). StandsFor h file t.1.next) head later) rest
      ]
    where
      by_begun : (up : Bool) (found next : Store) → at.s.up ≡ up → MayBegin up place at.s (call_of found e) next
          → StandsFor (header place.node place.nodes) file next
          → (StandsFor (header place.node place.nodes) file at.s.store ⊎ StandsFor (header place.node place.nodes) file at.s.begun → LeavesFile place file (died ∷ deeds))
          → LeavesFile place file (died ∷ deeds) ⊎ LeavesFile place file (broke_off (front_in old) e ∷ deeds)
      by_begun false found next up begun stands rest = inl (rest (inr (subst (StandsFor (header place.node place.nodes) file) begun stands)))
      by_begun true found next up (inl kept) stands rest = inl (rest (inl (subst (StandsFor (header place.node place.nodes) file) kept stands)))
      by_begun true found next up (inr (outcome, turn, is)) stands rest = inr (record {
        s = stopped place at.s.store (standing_after place at.s outcome).begun;
        did = (
          at.s,
          at.did,
          (
            call_of found e,
            subst (λ (front : ℕ). Ruled place at.s (call_of found e) (brought_by front e) nothing_made (stopped place at.s.store (standing_after place at.s outcome).begun)) (sym (fronts old at.s at.seen))
                (broken place e at.s found outcome here is_for up turn),
          ),
        );
        down = refl;
        held = inr (subst (StandsFor (header place.node place.nodes) file) is stands);
      })
