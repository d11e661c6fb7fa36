-- What records of further kinds tell reads back as it was told.
use Rattle.std.proofs.Common.{◌≡◌, inl, inr, ℕ, zero, suc, ◌+◌, ◌*◌, ◌<◌, ◌≤◌, ◌==◌, Bool, true, false, cond, List, [], ◌∷◌, ◌++◌, length, take, drop, get_or, set, replicate, Option, Some, None, IfSome, Result, Ok, Err, refl, sym, ap, subst, ◌∙◌, add-one, length-append, arith}
use Rattle.std.proofs.lemmas.Bool.Decides.{eqb_tells, leb_tells}
use Rattle.std.proofs.lemmas.Bool.{le-leb, eq-eqb}
use Rattle.std.proofs.lemmas.List.{take_all, take-append-le, drop_at, drop-take, get_or-set_same, get_or-set_other, length-set, ext_get_or}
use Rattle.std.specs.Prelude.{min, nat_le, ◌&&◌}
use Rattle.paxos_wire.specs.declared.ballot.Ballot.{Ballot}
use Rattle.peer_codes.specs.declared.hello.Life.{Life}
use Rattle.peer_codes.specs.Fits.{IsLife, are_zeros}
use Rattle.peer_codes.specs.Reading.{kept_of}
use Rattle.byteorder.specs.Endian.{big_number, big_bytes}
use Rattle.byteorder.specs.Numbers.{big_number-reads_back}
use Rattle.peer_codes.specs.declared.fault.RecordFault.{RecordFault}
use Rattle.peer_codes.specs.declared.fault.RecordFault.TheVariants.{BadLength}
use Rattle.node_links.specs.declared.lives.Lives.{Lives}
use Rattle.node_links.specs.declared.settings.Settings.{Settings}
use Rattle.node_links.specs.Telling.{settings_of, settings_text, SettingsReadBack}
use Rattle.node_links.specs.Promising.{PromisedReadsBack}
use Rattle.node_links.specs.Lives.{life_at, lives_in, lives_of, life_text, text_of, lives_text, AreLives, LivesReadBack}

-- ---- one place more

pub one_read : (count : ℕ) (bytes : List ℕ) (lives : List (Option Life)) (life : Option Life) → lives ≡ lives_in count bytes → life ≡ life_at bytes count → set lives count life ≡ lives_in (count + 1) bytes
one_read count bytes lives life are is =
    ap (λ (ls : List (Option Life)). set ls count life) are ∙ (ap (λ (l : Option Life). set (lives_in count bytes) count l) is ∙ sym (ap (λ (n : ℕ). lives_in n bytes) (add-one count)))

pub one_written : (count : ℕ) (lives : List (Option Life)) (text : List ℕ) (bytes : List ℕ) → text ≡ text_of count lives → bytes ≡ life_text (get_or lives count None) → text ++ bytes ≡ text_of (count + 1) lives
one_written count lives text bytes is one =
    ap (λ (t : List ℕ). t ++ bytes) is ∙ (ap (λ (b : List ℕ). text_of count lives ++ b) one ∙ sym (ap (λ (n : ℕ). text_of n lives) (add-one count)))

-- ---- texts of lives

abbrev Each : List (Option Life) → Type 0
Each lives = (number : ℕ) → IfSome (get_or lives number None) IsLife

text_long : (life : Option Life) → IfSome life IsLife → length (life_text life) ≡ 16
text_long None is = refl
text_long (Some life) is = is.long

kept_by : (zeros : Bool) (life : Life) → zeros ≡ false → cond zeros None (Some life) ≡ Some life
kept_by true life e = absurd cc
kept_by false life e = refl

reads_one : (life : Option Life) → IfSome life IsLife → kept_of (life_text life) ≡ life
reads_one None is = refl
reads_one (Some life) is = kept_by (are_zeros life.bytes) life is.some

all_long : (count : ℕ) (lives : List (Option Life)) → Each lives → length (text_of count lives) ≡ 16 * count
all_long zero lives each = refl
all_long (suc count) lives each =
    let first = all_long count lives each in
    let one = text_long (get_or lives count None) (each count) in
    length-append (text_of count lives) (life_text (get_or lives count None)) ∙ omega (arith, first, one)

-- the texts of fewer stand in front
in_front : (most count : ℕ) (lives : List (Option Life)) → Each lives → count ≤ most → take (16 * count) (text_of most lives) ≡ text_of count lives
in_front zero count lives each below =
    let none : count ≡ 0 = omega (arith, below) in
    take_all (16 * count) [] (omega arith) ∙ sym (ap (λ (n : ℕ). text_of n lives) none)
in_front (suc most) count lives each below = elim (eqb_tells count (suc most)) as (λ _. take (16 * count) (text_of (suc most) lives) ≡ text_of count lives) [
  | inl here ↦
      let long = all_long (suc most) lives each in
      take_all (16 * count) (text_of (suc most) lives) (omega (arith, long, here.1)) ∙ sym (ap (λ (n : ℕ). text_of n lives) here.1)
  | inr differs ↦
      let long = all_long most lives each in
      take-append-le (16 * count) (text_of most lives) (life_text (get_or lives most None)) (omega (arith, long, below, differs.1)) ∙ in_front most count lives each (omega (arith, below, differs.1))
]

reads_at : (most number : ℕ) (lives : List (Option Life)) → Each lives → number < most → life_at (text_of most lives) number ≡ get_or lives number None
reads_at most number lives each below =
    let end : 16 * number + 16 ≡ 16 * suc number = omega arith in
    let front : take (16 * number + 16) (text_of most lives) ≡ text_of number lives ++ life_text (get_or lives number None) =
    ap (λ (n : ℕ). take n (text_of most lives)) end ∙ in_front most (suc number) lives each (omega (arith, below)) in
    ap (λ (t : List ℕ). kept_of t) (sym (drop-take (16 * number) 16 (text_of most lives)))
    ∙ (ap (λ (t : List ℕ). kept_of (drop (16 * number) t)) front
    ∙ (ap (λ (t : List ℕ). kept_of t) (drop_at (text_of number lives) (life_text (get_or lives number None)) (16 * number) (all_long number lives each)) ∙ reads_one (get_or lives number None) (each number)))

-- ---- all places

places : (count : ℕ) (bytes : List ℕ) → length (lives_in count bytes) ≡ 7
places zero bytes = refl
places (suc count) bytes = length-set (lives_in count bytes) count (life_at bytes count) ∙ places count bytes

-- where so many are read
at_place : (count : ℕ) (bytes : List ℕ) (number : ℕ) → count ≤ 7 → number < count → get_or (lives_in count bytes) number None ≡ life_at bytes number
at_place zero bytes number most below = absurd (omega (arith, below))
at_place (suc count) bytes number most below = elim (eqb_tells number count) as (λ _. get_or (set (lives_in count bytes) count (life_at bytes count)) number None ≡ life_at bytes number) [
  | inl here ↦
      subst (λ (n : ℕ). get_or (set (lives_in count bytes) count (life_at bytes count)) n None ≡ life_at bytes n) (sym here.1)
      (get_or-set_same (lives_in count bytes) count (life_at bytes count) None (let long = places count bytes in omega (arith, long, most)))
  | inr differs ↦ get_or-set_other (lives_in count bytes) count number (life_at bytes count) None differs.1 ∙ at_place count bytes number (omega (arith, most)) (omega (arith, below, differs.1))
]

none_at : (count number : ℕ) → get_or (replicate count (let none : Option Life = None in none)) number None ≡ None
none_at zero number = refl
none_at (suc count) zero = refl
none_at (suc count) (suc number) = none_at count number

beyond : (count : ℕ) (bytes : List ℕ) (number : ℕ) → count ≤ number → get_or (lives_in count bytes) number None ≡ None
beyond zero bytes number above = none_at 7 number
beyond (suc count) bytes number above = get_or-set_other (lives_in count bytes) count number (life_at bytes count) None (λ e. omega (arith, above, e)) ∙ beyond count bytes number (omega (arith, above))

each_read : (l : Lives) → AreLives l → (number : ℕ) → get_or (lives_in l.nodes (text_of l.nodes l.lives)) number None ≡ get_or l.lives number None
each_read l are number = elim (leb_tells l.nodes number) as (λ _. get_or (lives_in l.nodes (text_of l.nodes l.lives)) number None ≡ get_or l.lives number None) [
  | inl above ↦ beyond l.nodes (text_of l.nodes l.lives) number above.1 ∙ sym (are.beyond number above.1)
  | inr below ↦ at_place l.nodes (text_of l.nodes l.lives) number are.most below.1 ∙ reads_at l.nodes number l.lives are.each below.1
]

read_back : (l : Lives) → AreLives l → lives_in l.nodes (text_of l.nodes l.lives) ≡ l.lives
read_back l are = ext_get_or None (lives_in l.nodes (text_of l.nodes l.lives)) l.lives (places l.nodes (text_of l.nodes l.lives) ∙ sym are.places) (λ number within. each_read l are number)

-- no more nodes than there may be, and as many bytes as theirs
fits : (nodes long : ℕ) → nodes ≤ 7 → long ≡ 16 * nodes → (nat_le nodes 7 && long == 16 * nodes) ≡ true
fits nodes long most is = ap (λ (b : Bool). b && long == 16 * nodes) (le-leb nodes 7 most) ∙ eq-eqb long (16 * nodes) is

least_is : (nodes : ℕ) → nodes ≤ 7 → min nodes 7 ≡ nodes
least_is nodes most = omega (arith, most)

abbrev Read : Type 0
Read = Result Lives RecordFault

read_by_all : (l : Lives) → AreLives l → (text : List ℕ) → text ≡ text_of l.nodes l.lives → lives_of l.nodes text ≡ Ok l
read_by_all l are text is =
    ap (λ (b : Bool). let r : Read = cond b (Ok (record { nodes = l.nodes; lives = lives_in l.nodes text })) (Err BadLength) in r)
    (fits l.nodes (length text) are.most (ap (λ (t : List ℕ). length t) is ∙ all_long l.nodes l.lives are.each))
    ∙ ap (λ (ls : List (Option Life)). let r : Read = Ok (record { nodes = l.nodes; lives = ls }) in r) (ap (λ (t : List ℕ). lives_in l.nodes t) is ∙ read_back l are)

pub lives_read_back : LivesReadBack
lives_read_back l are = read_by_all l are (lives_text l) (ap (λ (n : ℕ). text_of n l.lives) (least_is l.nodes are.most))

-- ---- settings

abbrev ReadSettings : Type 0
ReadSettings = Result Settings RecordFault

abbrev made : ℕ → ℕ → ℕ → List ℕ → ReadSettings
made p s a tokens = Ok (record { patience = p; start = s; away = a; tokens = tokens })

same_settings : (p q s u a b : ℕ) (tokens others : List ℕ) → p ≡ q → s ≡ u → a ≡ b → tokens ≡ others → made p s a tokens ≡ made q u b others
same_settings p q s u a b tokens others is_p is_s is_a is_t =
    ap (λ (x : ℕ). made x s a tokens) is_p ∙ (ap (λ (x : ℕ). made q x a tokens) is_s ∙ (ap (λ (x : ℕ). made q u x tokens) is_a ∙ ap (λ (x : List ℕ). made q u b x) is_t))

settings_by : (p s a : ℕ) (tokens text : List ℕ) → big_number 4 text ≡ p → big_number 4 (drop 4 text) ≡ s → big_number 4 (drop 8 text) ≡ a → drop 12 text ≡ tokens → length text ≡ 20 → settings_of text ≡ Ok (record { patience = p; start = s; away = a; tokens = tokens })
settings_by p s a tokens text is_p is_s is_a is_t long =
    ap (λ (b : Bool). cond b (made (big_number 4 text) (big_number 4 (drop 4 text)) (big_number 4 (drop 8 text)) (drop 12 text)) (Err BadLength)) (eq-eqb (length text) 20 long)
    ∙ same_settings (big_number 4 text) p (big_number 4 (drop 4 text)) s (big_number 4 (drop 8 text)) a (drop 12 text) tokens is_p is_s is_a is_t

pub settings_read_back : SettingsReadBack
settings_read_back s are =
    settings_by s.patience s.start s.away s.tokens (settings_text s)
    (big_number-reads_back 4 s.patience (big_bytes 4 s.start ++ (big_bytes 4 s.away ++ s.tokens)) are.patience)
    (big_number-reads_back 4 s.start (big_bytes 4 s.away ++ s.tokens) are.start)
    (big_number-reads_back 4 s.away s.tokens are.away)
    refl
    (let long = are.tokens in omega (arith, long))

-- ---- ballots

abbrev ReadBallot : Type 0
ReadBallot = Result Ballot RecordFault

pub promised_reads_back : PromisedReadsBack
promised_reads_back ballot below =
    ap (λ (round : ℕ). let r : ReadBallot = Ok (record { round = round; node = ballot.node }) in r) (big_number-reads_back 4 ballot.round (ballot.node ∷ []) below)
