-- What the machine is told stays what came, call by call.
use Rattle.std.proofs.Common.{◌≡◌, ◌≢◌, ℕ, ◌+◌, ◌≤◌, ◌==◌, Bool, true, false, if◌then◌else◌, List, [], ◌∷◌, ◌++◌, append_assoc, append-nil, ◌<◌, length, set, Option, inl, inr, refl, ap, sym, subst, ◌∙◌, arith}
use Rattle.std.proofs.lemmas.Bool.{cases_eq, eq-eqb, ne_eqb, false≢true}
use Rattle.game_def.specs.Game.{Game}
use Rattle.byte_queue.specs.Queued.{Queued}
use Rattle.matchstate.specs.Free.{IsFreeOf}
use Rattle.node_wires.specs.declared.line.Line.{Line as Wire}
use Rattle.node_wires.specs.declared.line.Line.TheVariants.{Peer, Seat}
use Rattle.node_wires.specs.Passages.{Passage, Began, Came, came_over}
use Rattle.seat_relay.specs.Relaying.{Line, Event, Begins, Ends, Tells, Closes, Says, Pushes, Story, with_event}
use Rattle.seat_relay.specs.Laws.{Word, Shows, Over, words_by, words_behind, words_over}
use Rattle.relay_runs.specs.declared.desk.Desk.{Desk}
use Rattle.relay_runs.specs.Said.{waits_at, AreEmpty}
use Rattle.relay_runs.specs.Heard.{with_feeds, IsTextOf, IsLineOf, IsOverText, Adds, AreHeard, IsHeardOf, IsPassedOver, IsSaidFor, AddsSaid, AreSaid, IsSaidOf, sayings_in, IsHeard}
use Rattle.relay_runs.proofs.Writing.{came_more}
use Rattle.relay_runs.proofs.Waiting.{waits_here, waits_elsewhere}
use Rattle.relay_runs.proofs.Lines.{too_long_joined}

-- ---- lines

feeds_more : (raws : List (List ℕ)) (raw rest : List ℕ) → with_feeds raws ++ (raw ++ 10 ∷ rest) ≡ with_feeds (raws ++ raw ∷ []) ++ rest
feeds_more [] raw rest = sym (append_assoc raw (10 ∷ []) rest)
feeds_more (one ∷ raws) raw rest =
    append_assoc one (10 ∷ with_feeds raws) (raw ++ 10 ∷ rest)
    ∙ (ap (λ (l : List ℕ). one ++ 10 ∷ l) (feeds_more raws raw rest) ∙ sym (append_assoc one (10 ∷ with_feeds (raws ++ raw ∷ [])) rest))

heard_more : (raws : List (List ℕ)) (raw : List ℕ) (told own : List Word) → IsFreeOf 10 raw → Adds raw own → AreHeard raws told → AreHeard (raws ++ raw ∷ []) (told ++ own)
heard_more [] raw told own free adds none = (own, [], ap (λ (t : List Word). t ++ own) none ∙ sym (append-nil own), free, adds, refl)
heard_more (one ∷ raws) raw told own free adds h =
    (h.0, h.1 ++ own, ap (λ (t : List Word). t ++ own) h.2 ∙ append_assoc h.0 h.1 own, h.3, h.4, heard_more raws raw h.1 own free adds h.5)

said_more : (mended : Option Game) (old : Bool) (raws : List (List ℕ)) (middle : Bool) (raw : List ℕ) (new : Bool) (said own : List (List ℕ)) → IsFreeOf 10 raw → AddsSaid mended raw middle new own
    → AreSaid mended old raws middle said → AreSaid mended old (raws ++ raw ∷ []) new (said ++ own)
said_more mended old [] middle raw new said own free adds none =
    (own, [], new, ap (λ (t : List (List ℕ)). t ++ own) none.1 ∙ sym (append-nil own), free, subst (λ (m : Bool). AddsSaid mended raw m new own) none.0 adds, (refl, refl))
said_more mended old (one ∷ raws) middle raw new said own free adds h =
    (h.0, h.1 ++ own, h.2, ap (λ (t : List (List ℕ)). t ++ own) h.3 ∙ append_assoc h.0 h.1 own, h.4, h.5, said_more mended h.2 raws middle raw new h.1 own free adds h.6)

-- ---- how long

pub joined_len : (first second : List ℕ) → length (first ++ second) ≡ length first + length second
joined_len [] second = omega arith
joined_len (byte ∷ first) second = let h : length (first ++ second) ≡ length first + length second = joined_len first second in omega arith

few_as : (v w : List ℕ) → w ≡ v → length v ≤ 4097 + 512 → length w ≤ 4097 + 512
few_as v w same few = subst (λ (l : List ℕ). length l ≤ 4097 + 512) (sym same) few

few_none : (w : List ℕ) → w ≡ [] → length w ≤ 4097 + 512
few_none w none = few_as [] w none (omega arith)

few_piece : (w piece : List ℕ) → length w ≤ 4097 → length piece ≤ 512 → length (w ++ piece) ≤ 4097 + 512
few_piece w piece begins short = let h : length (w ++ piece) ≡ length w + length piece = joined_len w piece in omega arith

few_behind : (raw rest : List ℕ) → length (raw ++ 10 ∷ rest) ≤ 4097 + 512 → length rest ≤ 4097 + 512
few_behind raw rest few = let h : length (raw ++ 10 ∷ rest) ≡ length raw + length (10 ∷ rest) = joined_len raw (10 ∷ rest) in omega arith

-- ---- of one node

heard_as : (c d v w : List ℕ) (t u : List Word) → d ≡ c → w ≡ v → u ≡ t → IsHeardOf c v t → IsHeardOf d w u
heard_as c d v w t u e f g h = record { raws = h.raws; whole = e ∙ (h.whole ∙ ap (λ (l : List ℕ). with_feeds h.raws ++ l) (sym f)); heard = subst (AreHeard h.raws) (sym g) h.heard; few = few_as v w f h.few }

heard_first : (c w : List ℕ) (t : List Word) → c ≡ [] → w ≡ [] → t ≡ [] → IsHeardOf c w t
heard_first c w t e f g = record { raws = []; whole = e ∙ sym f; heard = g; few = few_none w f }

heard_next : (c raw rest : List ℕ) (told own : List Word) → IsFreeOf 10 raw → Adds raw own → IsHeardOf c (raw ++ 10 ∷ rest) told → IsHeardOf c rest (told ++ own)
heard_next c raw rest told own free adds h = record { raws = h.raws ++ raw ∷ []; whole = h.whole ∙ feeds_more h.raws raw rest; heard = heard_more h.raws raw told own free adds h.heard; few = few_behind raw rest h.few }

heard_piece : (c w piece : List ℕ) (t : List Word) → length w ≤ 4097 → length piece ≤ 512 → IsHeardOf c w t → IsHeardOf (c ++ piece) (w ++ piece) t
heard_piece c w piece t begins short h = record {
  raws = h.raws;
  whole = ap (λ (l : List ℕ). l ++ piece) h.whole ∙ append_assoc (with_feeds h.raws) w piece;
  heard = h.heard;
  few = few_piece w piece begins short;
}

-- ---- of the bot

said_as : (m n : Option Game) (c d v w : List ℕ) (p q t u : Bool) (s r : List (List ℕ)) → n ≡ m → d ≡ c → w ≡ v → q ≡ p → u ≡ t → r ≡ s → IsSaidOf m c v p t s → IsSaidOf n d w q u r
said_as m n c d v w p q t u s r game e f g seat k h = record {
  raws = h.raws;
  passed_over = h.passed_over;
  whole = e ∙ (h.whole ∙ ap (λ (l : List ℕ). with_feeds h.raws ++ (h.passed_over ++ l)) (sym f));
  free = h.free;
  none = λ o. h.none (sym g ∙ o);
  long = λ o. h.long (sym g ∙ o);
  texts = subst (λ (o : Option Game). AreSaid o false h.raws u r) (sym game) (subst (λ (o : Bool). AreSaid m false h.raws o r) (sym seat) (subst (AreSaid m false h.raws t) (sym k) h.texts));
  few = few_as v w f h.few;
}

said_piece : (m : Option Game) (c w piece : List ℕ) (p t : Bool) (s : List (List ℕ)) → length w ≤ 4097 → length piece ≤ 512 → IsSaidOf m c w p t s → IsSaidOf m (c ++ piece) (w ++ piece) p t s
said_piece m c w piece p t s begins short h = record {
  raws = h.raws;
  passed_over = h.passed_over;
  whole = ap (λ (l : List ℕ). l ++ piece) h.whole ∙ (append_assoc (with_feeds h.raws) (h.passed_over ++ w) piece ∙ ap (λ (l : List ℕ). with_feeds h.raws ++ l) (append_assoc h.passed_over w piece));
  free = h.free;
  none = h.none;
  long = h.long;
  texts = h.texts;
  few = few_piece w piece begins short;
}

-- ---- events

pub words_more : (node : ℕ) (before : List Word) (events : List Event) (e : Event) → words_behind node before (events ++ e ∷ []) ≡ words_by node (words_behind node before events) e
words_more node before [] e = refl
words_more node before (x ∷ more) e = words_more node (words_by node before x) more e

sayings_more : (events : List Event) (e : Event) → sayings_in (events ++ e ∷ []) ≡ sayings_in events ++ sayings_in (e ∷ [])
sayings_more [] e = refl
sayings_more (Begins other ∷ more) e = sayings_more more e
sayings_more (Ends other ∷ more) e = sayings_more more e
sayings_more (Tells other line ∷ more) e = sayings_more more e
sayings_more (Closes other ∷ more) e = sayings_more more e
sayings_more (Says text ∷ more) e = ap (λ (l : List (List ℕ)). text ∷ l) (sayings_more more e)
sayings_more (Pushes other ∷ more) e = sayings_more more e

-- ---- together

heard_by : (a b : Desk) (x y : List Passage) → b.mended ≡ a.mended → ((node : ℕ) → words_over node b.relay.events ≡ words_over node a.relay.events) → sayings_in b.relay.events ≡ sayings_in a.relay.events
    → ((at : Wire) → came_over y at ≡ came_over x at) → ((node : ℕ) → waits_at b.from_nodes.items node ≡ waits_at a.from_nodes.items node) → b.from_bot.waiting ≡ a.from_bot.waiting → b.passes_over ≡ a.passes_over → b.is_seated ≡ a.is_seated
    → IsHeard a x → IsHeard b y
heard_by a b x y mended told said came nodes bot over seat h = record {
  nodes = λ node. heard_as _ _ _ _ _ _ (came (Peer node)) (nodes node) (told node) (h.nodes node);
  bot = said_as _ _ _ _ _ _ _ _ _ _ _ _ mended (came (Seat 0)) bot over seat said h.bot;
}

-- nothing is told, and nothing came
pub heard_alike : (a b : Desk) (x y : List Passage) → b.mended ≡ a.mended → b.relay ≡ a.relay → ((at : Wire) → came_over y at ≡ came_over x at) → b.from_nodes.items ≡ a.from_nodes.items
    → b.from_bot.waiting ≡ a.from_bot.waiting → b.passes_over ≡ a.passes_over → b.is_seated ≡ a.is_seated → IsHeard a x → IsHeard b y
heard_alike a b x y mended relay came nodes bot over seat =
    heard_by a b x y mended (λ node. ap (λ (r : Story). words_over node r.events) relay) (ap (λ (r : Story). sayings_in r.events) relay) came (λ node. ap (λ (qs : List Queued). waits_at qs node) nodes) bot over seat

pub heard_still : (a b : Desk) (x : List Passage) → b.mended ≡ a.mended → b.relay ≡ a.relay → ((node : ℕ) → waits_at b.from_nodes.items node ≡ waits_at a.from_nodes.items node)
    → b.from_bot.waiting ≡ a.from_bot.waiting → b.passes_over ≡ a.passes_over → b.is_seated ≡ a.is_seated → IsHeard a x → IsHeard b x
heard_still a b x mended relay nodes bot over seat =
    heard_by a b x x mended (λ node. ap (λ (r : Story). words_over node r.events) relay) (ap (λ (r : Story). sayings_in r.events) relay) (λ at. refl) nodes bot over seat

-- an event by which nothing is told
heard_silent : (a b : Desk) (x : List Passage) (e : Event) → b.mended ≡ a.mended → b.relay ≡ with_event a.relay e → ((node : ℕ) (before : List Word) → words_by node before e ≡ before) → sayings_in (e ∷ []) ≡ []
    → b.from_nodes.items ≡ a.from_nodes.items → b.from_bot.waiting ≡ a.from_bot.waiting → b.passes_over ≡ a.passes_over → b.is_seated ≡ a.is_seated → IsHeard a x → IsHeard b x
heard_silent a b x e mended story quiet none nodes bot over seat =
    heard_by a b x x mended
    (λ node. ap (λ (r : Story). words_over node r.events) story ∙ (words_more node [] a.relay.events e ∙ quiet node (words_over node a.relay.events)))
    (ap (λ (r : Story). sayings_in r.events) story ∙ (sayings_more a.relay.events e ∙ (ap (λ (l : List (List ℕ)). sayings_in a.relay.events ++ l) none ∙ append-nil (sayings_in a.relay.events))))
    (λ at. refl) (λ node. ap (λ (qs : List Queued). waits_at qs node) nodes) bot over seat

pub heard_ends : (a b : Desk) (x : List Passage) (node : ℕ) → b.mended ≡ a.mended → b.relay ≡ with_event a.relay (Ends node) → b.from_nodes.items ≡ a.from_nodes.items → b.from_bot.waiting ≡ a.from_bot.waiting
    → b.passes_over ≡ a.passes_over → b.is_seated ≡ a.is_seated → IsHeard a x → IsHeard b x
heard_ends a b x node mended story = heard_silent a b x (Ends node) mended story (λ n before. refl) refl

pub heard_pushes : (a b : Desk) (x : List Passage) (node : ℕ) → b.mended ≡ a.mended → b.relay ≡ with_event a.relay (Pushes node) → b.from_nodes.items ≡ a.from_nodes.items → b.from_bot.waiting ≡ a.from_bot.waiting
    → b.passes_over ≡ a.passes_over → b.is_seated ≡ a.is_seated → IsHeard a x → IsHeard b x
heard_pushes a b x node mended story = heard_silent a b x (Pushes node) mended story (λ n before. refl) refl

-- ---- a connection begins

pub heard_dial : (a b : Desk) (x : List Passage) (node : ℕ) (queue : Queued) → b.mended ≡ a.mended → b.relay ≡ with_event a.relay (Begins node) → b.from_nodes.items ≡ set a.from_nodes.items node queue
    → node < length a.from_nodes.items → queue.waiting ≡ [] → b.from_bot.waiting ≡ a.from_bot.waiting → b.passes_over ≡ a.passes_over → b.is_seated ≡ a.is_seated → IsHeard a x → IsHeard b (x ++ Began (Peer node) ∷ [])
heard_dial a b x node queue mended story queues within none bot over seat h =
    let y : List Passage = x ++ Began (Peer node) ∷ [] in
    let began : (other : ℕ) → came_over y (Peer other) ≡ (if node == other then [] else came_over x (Peer other)) = λ other. came_more (Peer other) [] x (Began (Peer node)) in
    let told : (other : ℕ) → words_over other b.relay.events ≡ words_by other (words_over other a.relay.events) (Begins node) =
    λ other. ap (λ (r : Story). words_over other r.events) story ∙ words_more other [] a.relay.events (Begins node) in
    let P : ℕ → Type 0 = λ other. IsHeardOf (came_over y (Peer other)) (waits_at b.from_nodes.items other) (words_over other b.relay.events) in
    record {
      nodes = λ other. elim (cases_eq node other) [
        | inl same ↦ subst P same (heard_first _ _ _ (began node ∙ ap (λ (t : Bool). if t then [] else came_over x (Peer node)) (eq-eqb node node refl))
            (waits_here a.from_nodes.items b.from_nodes.items node queue queues within ∙ none)
            (told node ∙ ap (λ (t : Bool). if t then [] else words_over node a.relay.events) (eq-eqb node node refl)))
        | inr differs ↦ heard_as _ _ _ _ _ _ (began other ∙ ap (λ (t : Bool). if t then [] else came_over x (Peer other)) (ne_eqb node other differs))
            (waits_elsewhere a.from_nodes.items b.from_nodes.items node other queue queues differs)
            (told other ∙ ap (λ (t : Bool). if t then [] else words_over other a.relay.events) (ne_eqb node other differs)) (h.nodes other)
      ];
      bot = said_as _ _ _ _ _ _ _ _ _ _ _ _ mended (came_more (Seat 0) [] x (Began (Peer node))) bot over seat
          (ap (λ (r : Story). sayings_in r.events) story ∙ (sayings_more a.relay.events (Begins node) ∙ append-nil (sayings_in a.relay.events))) h.bot;
    }

-- nothing came of a bot yet, nor of a node
pub heard_fresh : (b : Desk) → b.relay.events ≡ [] → b.from_bot.waiting ≡ [] → b.passes_over ≡ false → b.is_seated ≡ false → AreEmpty b.from_nodes.items → IsHeard b []
heard_fresh b story bot over seat nodes = record {
  nodes = λ node. heard_first _ _ _ refl (nodes node) (ap (words_over node) story);
  bot = record {
    raws = [];
    passed_over = [];
    whole = sym bot;
    free = cc;
    none = λ n. refl;
    long = λ o. absurd (false≢true (sym over ∙ o));
    texts = (seat, ap sayings_in story);
    few = few_none b.from_bot.waiting bot;
  };
}

-- ---- pieces

pub heard_read_node : (a b : Desk) (x : List Passage) (node : ℕ) (queue : Queued) (piece : List ℕ) → b.mended ≡ a.mended → b.relay ≡ a.relay → b.from_nodes.items ≡ set a.from_nodes.items node queue
    → node < length a.from_nodes.items → b.from_bot.waiting ≡ a.from_bot.waiting → b.passes_over ≡ a.passes_over → b.is_seated ≡ a.is_seated → queue.waiting ≡ waits_at a.from_nodes.items node ++ piece
    → length (waits_at a.from_nodes.items node) ≤ 4097 → length piece ≤ 512 → IsHeard a x
    → IsHeard b (x ++ Came (Peer node) piece ∷ [])
heard_read_node a b x node queue piece mended relay queues within bot over seat behind begins short h =
    let y : List Passage = x ++ Came (Peer node) piece ∷ [] in
    let came : (other : ℕ) → came_over y (Peer other) ≡ (if node == other then came_over x (Peer other) ++ piece else came_over x (Peer other)) = λ other. came_more (Peer other) [] x (Came (Peer node) piece) in
    let told : (other : ℕ) → words_over other b.relay.events ≡ words_over other a.relay.events = λ other. ap (λ (s : Story). words_over other s.events) relay in
    let P : ℕ → Type 0 = λ other. IsHeardOf (came_over y (Peer other)) (waits_at b.from_nodes.items other) (words_over other b.relay.events) in
    record {
      nodes = λ other. elim (cases_eq node other) [
        | inl same ↦ subst P same (heard_as _ _ _ _ _ _ (came node ∙ ap (λ (t : Bool). if t then came_over x (Peer node) ++ piece else came_over x (Peer node)) (eq-eqb node node refl))
            (waits_here a.from_nodes.items b.from_nodes.items node queue queues within ∙ behind) (told node) (heard_piece _ _ piece _ begins short (h.nodes node)))
        | inr differs ↦ heard_as _ _ _ _ _ _ (came other ∙ ap (λ (t : Bool). if t then came_over x (Peer other) ++ piece else came_over x (Peer other)) (ne_eqb node other differs))
            (waits_elsewhere a.from_nodes.items b.from_nodes.items node other queue queues differs) (told other) (h.nodes other)
      ];
      bot = said_as _ _ _ _ _ _ _ _ _ _ _ _ mended (came_more (Seat 0) [] x (Came (Peer node) piece)) bot over seat (ap (λ (s : Story). sayings_in s.events) relay) h.bot;
    }

pub heard_read_bot : (a b : Desk) (x : List Passage) (piece : List ℕ) → b.mended ≡ a.mended → b.relay ≡ a.relay → b.from_nodes.items ≡ a.from_nodes.items → b.passes_over ≡ a.passes_over → b.is_seated ≡ a.is_seated
    → b.from_bot.waiting ≡ a.from_bot.waiting ++ piece → length a.from_bot.waiting ≤ 4097 → length piece ≤ 512 → IsHeard a x → IsHeard b (x ++ Came (Seat 0) piece ∷ [])
heard_read_bot a b x piece mended relay queues over seat behind begins short h = record {
  nodes = λ node. heard_as _ _ _ _ _ _ (came_more (Peer node) [] x (Came (Seat 0) piece)) (ap (λ (qs : List Queued). waits_at qs node) queues) (ap (λ (s : Story). words_over node s.events) relay) (h.nodes node);
  bot = said_as _ _ _ _ _ _ _ _ _ _ _ _ mended (came_more (Seat 0) [] x (Came (Seat 0) piece)) behind over seat (ap (λ (s : Story). sayings_in s.events) relay) (said_piece _ _ _ piece _ _ _ begins short h.bot);
}

-- ---- a line of a node

heard_one : (a b : Desk) (x : List Passage) (node : ℕ) (queue : Queued) (raw rest : List ℕ) (own : List Word) → b.mended ≡ a.mended → words_over node b.relay.events ≡ words_over node a.relay.events ++ own
    → ((other : ℕ) → node ≢ other → words_over other b.relay.events ≡ words_over other a.relay.events) → sayings_in b.relay.events ≡ sayings_in a.relay.events
    → b.from_nodes.items ≡ set a.from_nodes.items node queue → node < length a.from_nodes.items → waits_at a.from_nodes.items node ≡ raw ++ 10 ∷ rest → queue.waiting ≡ rest
    → IsFreeOf 10 raw → Adds raw own → b.from_bot.waiting ≡ a.from_bot.waiting → b.passes_over ≡ a.passes_over → b.is_seated ≡ a.is_seated → IsHeard a x → IsHeard b x
heard_one a b x node queue raw rest own mended told others said queues within front behind free adds bot over seat h =
    let P : ℕ → Type 0 = λ n. IsHeardOf (came_over x (Peer n)) (waits_at b.from_nodes.items n) (words_over n b.relay.events) in
    record {
      nodes = λ other. elim (cases_eq node other) [
        | inl same ↦ subst P same (heard_as _ _ _ _ _ _ refl (waits_here a.from_nodes.items b.from_nodes.items node queue queues within ∙ behind) told
            (heard_next _ raw rest _ own free adds (heard_as _ _ _ _ _ _ refl (sym front) refl (h.nodes node))))
        | inr differs ↦ heard_as _ _ _ _ _ _ refl (waits_elsewhere a.from_nodes.items b.from_nodes.items node other queue queues differs) (others other differs) (h.nodes other)
      ];
      bot = said_as _ _ _ _ _ _ _ _ _ _ _ _ mended refl bot over seat said h.bot;
    }

-- a dealer's line, which is told
pub heard_told : (a b : Desk) (x : List Passage) (node : ℕ) (queue : Queued) (raw rest : List ℕ) (line : Line) → b.mended ≡ a.mended → b.relay ≡ with_event a.relay (Tells node line)
    → b.from_nodes.items ≡ set a.from_nodes.items node queue → node < length a.from_nodes.items → waits_at a.from_nodes.items node ≡ raw ++ 10 ∷ rest → queue.waiting ≡ rest
    → IsFreeOf 10 raw → IsLineOf raw line → b.from_bot.waiting ≡ a.from_bot.waiting → b.passes_over ≡ a.passes_over → b.is_seated ≡ a.is_seated → IsHeard a x → IsHeard b x
heard_told a b x node queue raw rest line mended story queues within front behind free is_line bot over seat =
    let told : (other : ℕ) → words_over other b.relay.events ≡ words_by other (words_over other a.relay.events) (Tells node line) =
    λ other. ap (λ (r : Story). words_over other r.events) story ∙ words_more other [] a.relay.events (Tells node line) in
    heard_one a b x node queue raw rest (Shows line ∷ []) mended
    (told node ∙ ap (λ (t : Bool). if t then words_over node a.relay.events ++ Shows line ∷ [] else words_over node a.relay.events) (eq-eqb node node refl))
    (λ other differs. told other ∙ ap (λ (t : Bool). if t then words_over other a.relay.events ++ Shows line ∷ [] else words_over other a.relay.events) (ne_eqb node other differs))
    (ap (λ (r : Story). sayings_in r.events) story ∙ (sayings_more a.relay.events (Tells node line) ∙ append-nil (sayings_in a.relay.events)))
    queues within front behind free (Adds.shows line is_line) bot over seat

-- that the match is over
pub heard_closes : (a b : Desk) (x : List Passage) (node : ℕ) (queue : Queued) (raw rest text : List ℕ) → b.mended ≡ a.mended → b.relay ≡ with_event a.relay (Closes node)
    → b.from_nodes.items ≡ set a.from_nodes.items node queue → node < length a.from_nodes.items → waits_at a.from_nodes.items node ≡ raw ++ 10 ∷ rest → queue.waiting ≡ rest
    → IsFreeOf 10 raw → IsTextOf raw text → IsOverText text → b.from_bot.waiting ≡ a.from_bot.waiting → b.passes_over ≡ a.passes_over → b.is_seated ≡ a.is_seated → IsHeard a x → IsHeard b x
heard_closes a b x node queue raw rest text mended story queues within front behind free is_text is_over bot over seat =
    let told : (other : ℕ) → words_over other b.relay.events ≡ words_by other (words_over other a.relay.events) (Closes node) =
    λ other. ap (λ (r : Story). words_over other r.events) story ∙ words_more other [] a.relay.events (Closes node) in
    heard_one a b x node queue raw rest (Over ∷ []) mended
    (told node ∙ ap (λ (t : Bool). if t then words_over node a.relay.events ++ Over ∷ [] else words_over node a.relay.events) (eq-eqb node node refl))
    (λ other differs. told other ∙ ap (λ (t : Bool). if t then words_over other a.relay.events ++ Over ∷ [] else words_over other a.relay.events) (ne_eqb node other differs))
    (ap (λ (r : Story). sayings_in r.events) story ∙ (sayings_more a.relay.events (Closes node) ∙ append-nil (sayings_in a.relay.events)))
    queues within front behind free (Adds.closes text is_text is_over) bot over seat

-- what is neither, which is passed over
pub heard_passed : (a b : Desk) (x : List Passage) (node : ℕ) (queue : Queued) (raw rest text : List ℕ) → b.mended ≡ a.mended → b.relay ≡ a.relay
    → b.from_nodes.items ≡ set a.from_nodes.items node queue → node < length a.from_nodes.items → waits_at a.from_nodes.items node ≡ raw ++ 10 ∷ rest → queue.waiting ≡ rest
    → IsFreeOf 10 raw → IsTextOf raw text → ((line : Line) → ¬ IsLineOf raw line) → ¬ IsOverText text → b.from_bot.waiting ≡ a.from_bot.waiting → b.passes_over ≡ a.passes_over → b.is_seated ≡ a.is_seated → IsHeard a x → IsHeard b x
heard_passed a b x node queue raw rest text mended relay queues within front behind free is_text none not_over bot over seat =
    heard_one a b x node queue raw rest [] mended
    (ap (λ (r : Story). words_over node r.events) relay ∙ sym (append-nil (words_over node a.relay.events)))
    (λ other differs. ap (λ (r : Story). words_over other r.events) relay) (ap (λ (r : Story). sayings_in r.events) relay)
    queues within front behind free (Adds.nothing text is_text none not_over) bot over seat

-- ---- a line of the bot

-- what came is whole but for what waits: then no line of which something was passed over
said_next : (mended : Option Game) (c raw rest : List ℕ) (p old new : Bool) (said own : List (List ℕ)) → IsFreeOf 10 raw → p ≡ false → AddsSaid mended raw old new own
    → IsSaidOf mended c (raw ++ 10 ∷ rest) p old said → IsSaidOf mended c rest p new (said ++ own)
said_next mended c raw rest p old new said own free isnt adds h = record {
  raws = h.raws ++ raw ∷ [];
  passed_over = [];
  whole = h.whole ∙ (ap (λ (l : List ℕ). with_feeds h.raws ++ (l ++ (raw ++ 10 ∷ rest))) (h.none isnt) ∙ feeds_more h.raws raw rest);
  free = cc;
  none = λ n. refl;
  long = λ o. absurd (false≢true (sym isnt ∙ o));
  texts = said_more mended false h.raws old raw new said own free adds h.texts;
  few = few_behind raw rest h.few;
}

-- the rest of a line that is too long
free_joined : (one other : List ℕ) → IsFreeOf 10 one → IsFreeOf 10 other → IsFreeOf 10 (one ++ other)
free_joined [] other free more = more
free_joined (byte ∷ one) other free more = (free.0, free_joined one other free.1 more)

said_rest : (mended : Option Game) (c raw rest : List ℕ) (p seated : Bool) (said : List (List ℕ)) → p ≡ true → IsFreeOf 10 raw → IsSaidOf mended c (raw ++ 10 ∷ rest) p seated said
    → IsSaidOf mended c rest false seated said
said_rest mended c raw rest p seated said is free h = record {
  raws = h.raws ++ (h.passed_over ++ raw) ∷ [];
  passed_over = [];
  whole = h.whole ∙ (ap (λ (l : List ℕ). with_feeds h.raws ++ l) (sym (append_assoc h.passed_over raw (10 ∷ rest))) ∙ feeds_more h.raws (h.passed_over ++ raw) rest);
  free = cc;
  none = λ n. refl;
  long = λ o. absurd (false≢true o);
  texts = subst (AreSaid mended false (h.raws ++ (h.passed_over ++ raw) ∷ []) seated) (append-nil said)
      (said_more mended false h.raws seated (h.passed_over ++ raw) seated said [] (free_joined h.passed_over raw h.free free) (AddsSaid.passed seated (too_long_joined h.passed_over raw (h.long is))) h.texts);
  few = few_behind raw rest h.few;
}

-- the beginning of one
longer : (front w : List ℕ) → 4097 < length w → 4097 < length (front ++ w)
longer [] w less = less
longer (byte ∷ front) w less = let h : 4097 < length (front ++ w) = longer front w less in omega arith

said_begun : (mended : Option Game) (c w : List ℕ) (p seated : Bool) (said : List (List ℕ)) → 4097 < length w → IsFreeOf 10 w → IsSaidOf mended c w p seated said → IsSaidOf mended c [] true seated said
said_begun mended c w p seated said more free h = record {
  raws = h.raws;
  passed_over = h.passed_over ++ w;
  whole = h.whole ∙ ap (λ (l : List ℕ). with_feeds h.raws ++ l) (sym (append-nil (h.passed_over ++ w)));
  free = free_joined h.passed_over w h.free free;
  none = λ n. absurd cc;
  long = λ o. longer h.passed_over w more;
  texts = h.texts;
  few = few_none [] refl;
}

heard_bot : (a b : Desk) (x : List Passage) → ((node : ℕ) → words_over node b.relay.events ≡ words_over node a.relay.events) → b.from_nodes.items ≡ a.from_nodes.items
    → (IsSaidOf a.mended (came_over x (Seat 0)) a.from_bot.waiting a.passes_over a.is_seated (sayings_in a.relay.events)
    → IsSaidOf b.mended (came_over x (Seat 0)) b.from_bot.waiting b.passes_over b.is_seated (sayings_in b.relay.events)) → IsHeard a x → IsHeard b x
heard_bot a b x told nodes bot h = record {
  nodes = λ node. heard_as _ _ _ _ _ _ refl (ap (λ (qs : List Queued). waits_at qs node) nodes) (told node) (h.nodes node);
  bot = bot h.bot;
}

-- what isn't said to the machine: the rest of a line too long
pub heard_rest : (a b : Desk) (x : List Passage) (raw rest : List ℕ) → b.mended ≡ a.mended → b.relay ≡ a.relay → b.from_nodes.items ≡ a.from_nodes.items → a.from_bot.waiting ≡ raw ++ 10 ∷ rest
    → b.from_bot.waiting ≡ rest → a.passes_over ≡ true → b.passes_over ≡ false → b.is_seated ≡ a.is_seated → IsFreeOf 10 raw → IsHeard a x → IsHeard b x
heard_rest a b x raw rest mended relay nodes front behind is over seat free =
    heard_bot a b x (λ node. ap (λ (r : Story). words_over node r.events) relay) nodes
    (λ h. said_as _ _ _ _ _ _ _ _ _ _ _ _ mended refl behind over seat (ap (λ (r : Story). sayings_in r.events) relay)
    (said_rest _ _ raw rest a.passes_over a.is_seated _ is free (said_as _ _ _ _ _ _ _ _ _ _ _ _ refl refl (sym front) refl refl refl h)))

pub heard_begun : (a b : Desk) (x : List Passage) → b.mended ≡ a.mended → b.relay ≡ a.relay → b.from_nodes.items ≡ a.from_nodes.items → b.from_bot.waiting ≡ [] → b.passes_over ≡ true → b.is_seated ≡ a.is_seated
    → 4097 < length a.from_bot.waiting → IsFreeOf 10 a.from_bot.waiting → IsHeard a x → IsHeard b x
heard_begun a b x mended relay nodes behind over seat more free =
    heard_bot a b x (λ node. ap (λ (r : Story). words_over node r.events) relay) nodes
    (λ h. said_as _ _ _ _ _ _ _ _ _ _ _ _ mended refl behind over seat (ap (λ (r : Story). sayings_in r.events) relay) (said_begun _ _ a.from_bot.waiting a.passes_over a.is_seated _ more free h))

-- a whole line by which nothing is said: it is passed over, or names the version
pub heard_quiet : (a b : Desk) (x : List Passage) (raw rest : List ℕ) → b.mended ≡ a.mended → b.relay ≡ a.relay → b.from_nodes.items ≡ a.from_nodes.items → a.from_bot.waiting ≡ raw ++ 10 ∷ rest
    → b.from_bot.waiting ≡ rest → b.passes_over ≡ a.passes_over → a.passes_over ≡ false → IsFreeOf 10 raw → AddsSaid a.mended raw a.is_seated b.is_seated [] → IsHeard a x → IsHeard b x
heard_quiet a b x raw rest mended relay nodes front behind over isnt free adds =
    heard_bot a b x (λ node. ap (λ (r : Story). words_over node r.events) relay) nodes
    (λ h. said_as _ _ _ _ _ _ _ _ _ _ _ _ mended refl behind over refl
    (ap (λ (r : Story). sayings_in r.events) relay ∙ sym (append-nil (sayings_in a.relay.events)))
    (said_next _ _ raw rest a.passes_over a.is_seated b.is_seated _ [] free isnt adds (said_as _ _ _ _ _ _ _ _ _ _ _ _ refl refl (sym front) refl refl refl h)))

-- and one of which something is said to it
pub heard_says : (a b : Desk) (x : List Passage) (raw rest said : List ℕ) → b.mended ≡ a.mended → b.relay ≡ with_event a.relay (Says said) → b.from_nodes.items ≡ a.from_nodes.items
    → a.from_bot.waiting ≡ raw ++ 10 ∷ rest → b.from_bot.waiting ≡ rest → b.passes_over ≡ a.passes_over → a.passes_over ≡ false → b.is_seated ≡ a.is_seated → a.is_seated ≡ true → IsFreeOf 10 raw
    → ¬ IsPassedOver raw → IsSaidFor a.mended raw said → IsHeard a x → IsHeard b x
heard_says a b x raw rest said mended story nodes front behind over isnt seat is free heard meant =
    heard_bot a b x (λ node. ap (λ (r : Story). words_over node r.events) story ∙ words_more node [] a.relay.events (Says said)) nodes
    (λ h. said_as _ _ _ _ _ _ _ _ _ _ _ _ mended refl behind over (seat ∙ is) (ap (λ (r : Story). sayings_in r.events) story ∙ sayings_more a.relay.events (Says said))
    (said_next _ _ raw rest a.passes_over true true _ (said ∷ []) free isnt (AddsSaid.says said heard meant) (said_as _ _ _ _ _ _ _ _ _ _ _ _ refl refl (sym front) refl (sym is) refl h)))

-- what waits is what was looked at
pub long_of : (waiting seen : List ℕ) → seen ≡ waiting → 4097 < length seen → 4097 < length waiting
long_of waiting seen same more = subst (λ (l : List ℕ). 4097 < length l) same more
