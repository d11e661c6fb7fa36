-- Which lives are known, one peer after another.
use Rattle.std.proofs.Common.{◌≡◌, ℕ, suc, ◌+◌, ◌<◌, ◌≤◌, Bool, true, false, if◌then◌else◌, List, [], ◌∷◌, drop, get_or, set, length, Option, None, refl, ap, sym, subst, ◌∙◌, add-one, drop-cons}
use Rattle.std.proofs.lemmas.Bool.{lt-ltb, le-ltb}
use Rattle.std.specs.Prelude.{nat_lt}
use Rattle.peer_codes.specs.declared.hello.Life.{Life}
use Rattle.node_links.specs.declared.own.Known.{Known}
use Rattle.node_links.specs.declared.own.Own.{Own}
use Rattle.node_links.specs.Knowing.{and_life}
use Rattle.node_peers.specs.declared.peer.Peer.{Peer}
use Rattle.node_wires.specs.declared.passages.Passages.{Passages}
use Rattle.node_peers.specs.declared.lines.Lines.{Lines}
use Rattle.node_peers.specs.declared.notice.Notice.{Notice}
use Rattle.node_peers.specs.Growing.{Stays}
use Rattle.node_peers.specs.Hearing.{IsTold}
use Rattle.node_peers.specs.Knowing.{IsOfOne, told_by, or_life, first_told, life_told, lives_below}

-- the next of those that are left
next_left : (index : ℕ) (peers : List Peer) (nobody : Peer) → index < length peers → drop index peers ≡ get_or peers index nobody ∷ drop (index + 1) peers
next_left index peers nobody within = drop-cons peers index nobody within ∙ ap (λ (n : ℕ). get_or peers index nobody ∷ drop n peers) (sym (add-one index))

pub one_told : (number index : ℕ) (peers : List Peer) (peer : Peer) (known : Known) (all : Known) → index < length peers → peer ≡ get_or peers index peer → told_by number (drop index peers) known ≡ all
    → told_by number (drop (index + 1) peers) (and_life known (get_or peer.told number None)) ≡ all
one_told number index peers peer known all within is before =
    ap (λ (p : Peer). told_by number (drop (index + 1) peers) (and_life known (get_or p.told number None))) is ∙ (sym (ap (λ (ps : List Peer). told_by number ps known) (next_left index peers peer within)) ∙ before)

pub one_first : (number index : ℕ) (peers : List Peer) (peer : Peer) (life all : Option Life) → index < length peers → peer ≡ get_or peers index peer → first_told number (drop index peers) life ≡ all
    → first_told number (drop (index + 1) peers) (or_life life (get_or peer.told number None)) ≡ all
one_first number index peers peer life all within is before =
    ap (λ (p : Peer). first_told number (drop (index + 1) peers) (or_life life (get_or p.told number None))) is ∙ (sym (ap (λ (ps : List Peer). first_told number ps life) (next_left index peers peer within)) ∙ before)

-- none is left
all_told : (number : ℕ) (peers : List Peer) (known : Known) → told_by number (drop (length peers) peers) known ≡ known
all_told number [] known = refl
all_told number (peer ∷ more) known = all_told number more known

pub told_all : (number index : ℕ) (peers : List Peer) (known start : Known) → index ≡ length peers → told_by number (drop index peers) known ≡ told_by number peers start → known ≡ told_by number peers start
told_all number index peers known start all is = sym (all_told number peers known) ∙ (ap (λ (n : ℕ). told_by number (drop n peers) known) (sym all) ∙ is)

all_first : (number : ℕ) (peers : List Peer) (life : Option Life) → first_told number (drop (length peers) peers) life ≡ life
all_first number [] life = refl
all_first number (peer ∷ more) life = all_first number more life

pub first_all : (number index : ℕ) (peers : List Peer) (life start : Option Life) → index ≡ length peers → first_told number (drop index peers) life ≡ first_told number peers start → life ≡ first_told number peers start
first_all number index peers life start all is = sym (all_first number peers life) ∙ (ap (λ (n : ℕ). first_told number (drop n peers) life) (sym all) ∙ is)

-- ---- the lives of one node more

by_test : (b : Bool) (one other : List (Option Life)) (lives : List (Option Life)) → b ≡ true → lives ≡ one → lives ≡ (if b then one else other)
by_test true one other lives e is = is
by_test false one other lives e is = absurd cc

or_test : (b : Bool) (one other : List (Option Life)) (lives : List (Option Life)) → b ≡ false → lives ≡ other → lives ≡ (if b then one else other)
or_test true one other lives e is = absurd cc
or_test false one other lives e is = is

next_below : (count : ℕ) (own : Own) (peers : List Peer) → lives_below (count + 1) own peers ≡ lives_below (suc count) own peers
next_below count own peers = ap (λ (n : ℕ). lives_below n own peers) (add-one count)

-- it is one of the match
pub one_below : (count : ℕ) (own : Own) (peers : List Peer) (lives : List (Option Life)) (life : Option Life) → count < own.nodes → lives ≡ lives_below count own peers → life ≡ life_told own count peers → set lives count life ≡ lives_below (count + 1) own peers
one_below count own peers lives life within are is =
    by_test (nat_lt count own.nodes) (set (lives_below count own peers) count (life_told own count peers)) (lives_below count own peers) (set lives count life) (lt-ltb count own.nodes within)
    (ap (λ (ls : List (Option Life)). set ls count life) are ∙ ap (λ (l : Option Life). set (lives_below count own peers) count l) is)
    ∙ sym (next_below count own peers)

-- or there is no such node
pub none_below : (count : ℕ) (own : Own) (peers : List Peer) (lives : List (Option Life)) → own.nodes ≤ count → lives ≡ lives_below count own peers → lives ≡ lives_below (count + 1) own peers
none_below count own peers lives beyond are =
    or_test (nat_lt count own.nodes) (set (lives_below count own peers) count (life_told own count peers)) (lives_below count own peers) lives (le-ltb count own.nodes beyond) are ∙ sym (next_below count own peers)

-- ---- what is told

pub told_same : (old new : Lines) (notice : Notice) → Stays old new → IsTold new.own new.passed.items notice → IsTold old.own old.passed.items notice
told_same old new notice stays told = subst (λ (o : Own). IsTold o old.passed.items notice) stays.0 (subst (λ (p : Passages). IsTold new.own p.items notice) stays.1.0 told)

pub one_same : (own_old own_new : Own) (old new : List Peer) (notice : Notice) → own_new ≡ own_old → new ≡ old → IsOfOne own_new new notice → IsOfOne own_old old notice
one_same own_old own_new old new notice own same is = subst (λ (o : Own). IsOfOne o old notice) own (subst (λ (ps : List Peer). IsOfOne own_new ps notice) same is)
