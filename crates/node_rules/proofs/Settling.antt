-- Applying what the front has passed, on the path of a call.
use Rattle.std.proofs.Common.{◌≡◌, ℕ, zero, suc, ◌<◌, ◌≤◌, Bool, true, false, true≢false, if◌then◌else◌, List, [], ◌∷◌, ◌++◌, Option, Some, None, refl, sym, ap, subst, ◌∙◌, arith, length, drop, reverse, append_assoc}
use Rattle.std.specs.Prelude.{slice_get, nat_lt}
use Rattle.std.proofs.lemmas.List.{append-nil, length-reverse}
use Rattle.std.proofs.lemmas.Bool.{ltb-false}
use Rattle.slot_log.specs.Slots.{Log, front, find, known_at}
use Rattle.slot_log.specs.declared.command.Command.{Command}
use Rattle.protocol_model.specs.Dealers.{Dealer}
use Rattle.protocol_model.specs.Nodes.{Node, Knows as KnowsCommands}
use Rattle.protocol_model.specs.Arrivals.{Arrival}
use Rattle.protocol_model.specs.Moves.{Shown, Chain}
use Rattle.learner.specs.Learning.{Learned}
use Rattle.dealer_kind.specs.Kind.{Setting, fits, hands_after, log_of}
use Rattle.node_rules.specs.Standings.{applied}
use Rattle.node_rules.specs.Showing.{Piece, news}
use Rattle.node_rules.specs.Turns.{Turn, joined}
use Rattle.node_rules.specs.Applying.{Scene, kept, taking, taking_all, passed, scene_of, applying}
use Rattle.node_rules.specs.Being.{IsPending, Knows}
use Rattle.node_rules.specs.Called.{AreShown, log_after}
use Rattle.node_rules.proofs.Showing.{Shows, show_news, adds_nothing}
use Rattle.node_rules.specs.Proposing.{own_value}
use Rattle.node_rules.proofs.Proposed.{taken_proposed}
use Rattle.node_rules.proofs.Passing.{all_applied, passed_all}
use Rattle.node_rules.proofs.Keeping.{others_proposer}
use Rattle.node_rules.proofs.Steps.{unsent}
use Rattle.node_rules.proofs.Paths.{Hearing, Scope, dealer_in, first_in, Path}

-- ---- the node shows

abbrev pub with_shown : Node → ℕ → Node
with_shown node shown = record node { shown = shown }

-- what goes on shows these pieces, where the call ends, and nothing where it stops in its append
pub showing : (x : Scope) (came : List Arrival) (heard : Hearing) (upto further : List Command) (t u : Turn) (p : Path x came heard upto t)
    → u.after.sessions ≡ t.after.sessions → u.after.up ≡ t.after.up → u.after.begun ≡ u.after.store → u.frames ≡ t.frames → length upto ≤ length further → KnowsCommands p.node.known further
    → ((last : ℕ) → last ≤ length further → Knows (dealer_in x) x.place further u.after (with_shown p.node last))
    → (x.ends ≡ true → Shows x came p.node p.sent further (log_of x.place.setting further) u.shown)
    → Path x came heard further u
showing x came heard upto further t u p sessions up unbegun frames later commands knows shows = by_ends x.ends refl
  where
    path_with : (shown : List Shown) (last : ℕ) → last ≤ length further
        → Chain (dealer_in x) x.place.nodes x.place.node x.world.ever (first_in x) (record { sent = p.sent; shown = shown; came = came }) (with_shown p.node last)
        → (x.ends ≡ true → AreShown x.place.node x.start x.log u.shown shown) → (x.ends ≡ true → log_after x.log u.shown ≡ log_of x.place.setting further) → (x.ends ≡ false → shown ≡ [])
        → Path x came heard further u
    path_with shown last low chain = unsent x came heard upto further t u p p.node.known shown last sessions up unbegun frames chain (knows last low) commands

    by_ends : (ends : Bool) → x.ends ≡ ends → Path x came heard further u
    by_ends true e = let s = shows e in path_with s.shown s.last s.low s.chain (λ y. s.are) (λ y. s.logged) (λ q. absurd (true≢false (sym e ∙ q)))
    by_ends false e = path_with p.shown p.node.shown (let h = p.knows.shown in omega (arith, later)) p.chain (λ y. absurd (true≢false (sym y ∙ e))) (λ y. absurd (true≢false (sym y ∙ e))) p.unshown

-- ---- the act that waits

pending_by : (d : Dealer) (i : ℕ) (node : Node) (last : ℕ) (upto : List Command) (act : Command) (b : Bool) (setting : Setting) → fits setting upto act ≡ b
    → d.fits ≡ fits setting → (old : List Command) → IsPending d i node old (Some act) → IsPending d i (with_shown node last) upto (if b then Some act else None)
pending_by d i node last upto act true setting e same old h = (h.0, ap (λ f. f upto act) same ∙ e)
pending_by d i node last upto act false setting e same old h = tt

pending_kept : (x : Scope) (node : Node) (last : ℕ) (old upto : List Command) (c : Option Command) → IsPending (dealer_in x) x.place.node node old c
    → IsPending (dealer_in x) x.place.node (with_shown node last) upto (kept x.place.setting upto c)
pending_kept x node last old upto None h = tt
pending_kept x node last old upto (Some act) h = pending_by (dealer_in x) x.place.node node last upto act (fits x.place.setting upto act) x.place.setting refl refl old h

-- ---- one command

-- the turn, and behind it a scene of applying
abbrev pub at_scene : Turn → Learned → Scene → Turn
at_scene t learned scene = joined t (record { after = record t.after { learned = learned; pending = scene.pending }; frames = []; shown = scene.shown; faults = [] })

take_by : (x : Scope) (came : List Arrival) (heard : Hearing) (t : Turn) (learned : Learned) (scene : Scene) (command : Command) (b : Bool)
    → fits x.place.setting scene.applied command ≡ b → Path x came heard scene.applied (at_scene t learned scene)
    → known_at learned.log (length scene.applied) ≡ Some command → length scene.applied < front learned.log
    → Path x came heard (command ∷ scene.applied)
    (at_scene t learned (record {
      applied = command ∷ scene.applied;
      pending = kept x.place.setting (command ∷ scene.applied) scene.pending;
      shown = scene.shown ++ (if b then news x.place.setting t.after.sessions (hands_after x.place.setting (command ∷ scene.applied)) else []);
    }))
take_by x came heard t learned scene command b fit p at passed =
    showing x came heard scene.applied (command ∷ scene.applied) (at_scene t learned scene)
    (at_scene t learned (record { applied = command ∷ scene.applied; pending = kept x.place.setting (command ∷ scene.applied) scene.pending; shown = scene.shown ++ added }))
    p refl refl p.unbegun refl (omega arith) known knows shows
  where
    known : KnowsCommands p.node.known (command ∷ scene.applied)
    known = (p.knows.learner.knows (length scene.applied) command at, p.commands)

    added : List Piece
    added = if b then news x.place.setting t.after.sessions (hands_after x.place.setting (command ∷ scene.applied)) else []

    begun : x.ends ≡ true → Shows x came p.node p.sent (command ∷ scene.applied) (log_of x.place.setting scene.applied) (t.shown ++ scene.shown)
    begun ends = record {
      shown = p.shown;
      last = p.node.shown;
      low = (let h = p.knows.shown in omega arith);
      chain = p.chain;
      are = p.pieces ends;
      logged = p.logged ends;
    }

    shows_by : (y : Bool) → fits x.place.setting scene.applied command ≡ y → x.ends ≡ true
        → Shows x came p.node p.sent (command ∷ scene.applied) (log_of x.place.setting (command ∷ scene.applied))
        ((t.shown ++ scene.shown) ++ (if y then news x.place.setting t.after.sessions (hands_after x.place.setting (command ∷ scene.applied)) else []))
    shows_by true e ends = show_news x came p.node p.sent scene.applied command (t.shown ++ scene.shown) t.after.sessions p.knows.places e p.knows.up p.starts known (begun ends)
    shows_by false e ends =
        subst (λ (l : List ℕ). Shows x came p.node p.sent (command ∷ scene.applied) l ((t.shown ++ scene.shown) ++ [])) (sym (adds_nothing x.given x.place.setting scene.applied command e))
        (subst (Shows x came p.node p.sent (command ∷ scene.applied) (log_of x.place.setting scene.applied)) (sym (append-nil (t.shown ++ scene.shown))) (begun ends))

    shows : x.ends ≡ true → Shows x came p.node p.sent (command ∷ scene.applied) (log_of x.place.setting (command ∷ scene.applied)) (t.shown ++ (scene.shown ++ added))
    shows ends = subst (Shows x came p.node p.sent (command ∷ scene.applied) (log_of x.place.setting (command ∷ scene.applied)))
        (append_assoc t.shown scene.shown added) (shows_by b fit ends)

    knows : (last : ℕ) → last ≤ length (command ∷ scene.applied)
        → Knows (dealer_in x) x.place (command ∷ scene.applied) (record t.after { learned = learned; pending = kept x.place.setting (command ∷ scene.applied) scene.pending }) (with_shown p.node last)
    knows last low = record {
      up = p.knows.up;
      store = p.knows.store;
      within = p.knows.within;
      proposer = others_proposer x.place.nodes x.place.node p.node p.node.known p.node.heard last (front learned.log) (front learned.log) t.after.campaign (omega arith) p.knows.proposer;
      learner = p.knows.learner;
      pending = pending_kept x p.node last scene.applied (command ∷ scene.applied) scene.pending p.knows.pending;
      places = p.knows.places;
      shown = low;
      seen = p.knows.seen;
      proposals = taken_proposed x.place.nodes x.place.node scene.applied command (front learned.log) (own_value x.place (record t.after { learned = learned; pending = scene.pending }))
          (own_value x.place (record t.after { learned = learned; pending = kept x.place.setting (command ∷ scene.applied) scene.pending })) p.node.store p.node.has p.node.sent passed p.knows.proposals;
    }

take : (x : Scope) (came : List Arrival) (heard : Hearing) (t : Turn) (learned : Learned) (scene : Scene) (command : Command)
    → Path x came heard scene.applied (at_scene t learned scene) → known_at learned.log (length scene.applied) ≡ Some command → length scene.applied < front learned.log
    → Path x came heard (command ∷ scene.applied) (at_scene t learned (taking x.place.setting t.after.sessions command scene))
take x came heard t learned scene command p at passed = take_by x came heard t learned scene command (fits x.place.setting scene.applied command) refl p at passed

-- ---- all that the front has passed

dropped : {A : Type 0} (n : ℕ) (xs : List A) (y : A) (ys : List A) → drop n xs ≡ y ∷ ys → (n < length xs) × (slice_get xs n ≡ Some y) × (drop (suc n) xs ≡ ys)
dropped zero [] y ys e = absurd (cc)
dropped zero (z ∷ zs) y ys e = (omega arith, (let h : z ≡ y = cc in ap (λ a. Some a) h), (let h : zs ≡ ys = cc in h))
dropped (suc n) [] y ys e = absurd (cc)
dropped (suc n) (z ∷ zs) y ys e = let t = dropped n zs y ys e in (omega (arith, t.0), t.1, t.2)

below_if : (log : Log) (slot : ℕ) (b : Bool) → nat_lt slot (front log) ≡ b → slot < front log
    → (if b then slice_get (reverse log.below) slot else find log.beyond slot) ≡ slice_get (reverse log.below) slot
below_if log slot true e l = refl
below_if log slot false e l = absurd (let h = ltb-false slot (front log) e in omega arith)

pub below_front : (log : Log) (slot : ℕ) → slot < front log → known_at log slot ≡ slice_get (reverse log.below) slot
below_front log slot l = below_if log slot _ refl l

loop : (x : Scope) (came : List Arrival) (heard : Hearing) (t : Turn) (learned : Learned) (cs : List Command) (scene : Scene)
    → Path x came heard scene.applied (at_scene t learned scene) → drop (length scene.applied) (reverse learned.log.below) ≡ cs
    → Path x came heard (taking_all x.place.setting t.after.sessions cs scene).applied (at_scene t learned (taking_all x.place.setting t.after.sessions cs scene))
unfolding taking_all
loop x came heard t learned [] scene p e = p
loop x came heard t learned (c ∷ cs) scene p e =
    let d = dropped (length scene.applied) (reverse learned.log.below) c cs e in
    let l : length scene.applied < front learned.log = (let h = d.0 in let k = length-reverse learned.log.below in omega arith) in
    loop x came heard t learned cs (taking x.place.setting t.after.sessions c scene)
    (take x came heard t learned scene c p (below_front learned.log (length scene.applied) l ∙ d.1) l) d.2

-- once this is known, with nothing of it shown, it is applied
pub settle : (x : Scope) (came : List Arrival) (heard : Hearing) (t : Turn) (learned : Learned) (later : List Command)
    → learned.log.below ≡ later ++ applied t.after
    → Path x came heard (applied t.after) (at_scene t learned (scene_of t.after))
    → Path x came heard learned.log.below (joined t (applying x.place learned t.after))
settle x came heard t learned later e p =
    let cs : List Command = passed t.after.learned.log learned.log in
    subst (λ (l : List Command). Path x came heard l (joined t (applying x.place learned t.after)))
    (all_applied x.place.setting t.after.sessions cs (scene_of t.after) ∙ passed_all t.after.learned.log learned.log later e)
    (loop x came heard t learned cs (scene_of t.after) p refl)
