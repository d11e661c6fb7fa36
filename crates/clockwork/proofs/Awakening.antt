-- What a process has heard behind its last sleep.
use Rattle.std.proofs.Common.{ℕ, zero, suc, ◌≡◌, ◌+◌, ◌*◌, ◌<◌, ◌≤◌, Bool, true, false, List, [], ◌∷◌, inl, inr, refl, sym, ap, ◌∙◌, arith}
use Rattle.std.specs.Prelude.{◌&&◌, ◌==◌, cond, not, min, nat_lt, nat_le, length, replicate, count_by, slice_index_or, slice_set}
use Rattle.std.specs.List.{list_any}
use Rattle.std.proofs.lemmas.Bool.{cases_Bool, cases_eq, cases_lt, and_parts, and_from, and_right, and_cases, both_ways, ltb-true, ltb-false, le-leb, lt-leb, lt-ltb, le-ltb, eq-eqb, ne_eqb}
use Rattle.std.proofs.lemmas.List.{get_or-set_other, get_or-replicate, length-replicate, length-set}
use Rattle.std.proofs.lemmas.List.Sums.{sum_by-cons}
use Rattle.std.proofs.lemmas.Grind.{get_or-set_at}
use Rattle.clockwork.specs.declared.waking.Waking.{Waking}
use Rattle.clockwork.specs.declared.waking.Happening.{Happening}
use Rattle.clockwork.specs.declared.waking.Happening.TheVariants.{Passed, Stood, ReadAll, Beat}
use Rattle.clockwork.specs.declared.limits.TheConstants.{FURTHER, MOST_NODES}
use Rattle.clockwork.specs.Wakings.{one_more, is_enough, waking_after, waking_behind, is_sleep, is_read, behind_sleep, further, numbers, well_heard, WakesExactlyThen}

-- what is kept is what came, up to as many as are awaited
record Fits (waking : Waking) (happenings : List Happening) : Type 0 where
  read : waking.has_read ≡ list_any is_read happenings
  most : length waking.beats ≡ MOST_NODES
  came : (node : ℕ) → node < MOST_NODES → slice_index_or waking.beats node 0 ≡ min FURTHER (further node happenings)

as_long : (count none : ℕ) → length (replicate count none) ≡ count
as_long count none = length-replicate count none

no_beats : (count none : ℕ) (node : ℕ) → node < count → slice_index_or (replicate count none) node none ≡ none
no_beats count none node within = get_or-replicate count node none none within

none_fits : (stood slept : ℕ) → Fits (record { has_read = false; beats = replicate MOST_NODES 0; stood = stood; slept = slept }) []
none_fits stood slept = record { read = refl; most = as_long MOST_NODES 0; came = no_beats MOST_NODES 0 }

-- ---- a beat

at_most : (f beats : ℕ) → beats ≡ min FURTHER f → one_more beats ≡ min FURTHER (suc f)
at_most f beats is = elim (cases_Bool (nat_lt beats FURTHER)) [
  | inl few ↦ let less = ltb-true beats FURTHER few in rw few (omega (arith, is, less))
  | inr many ↦ let more = ltb-false beats FURTHER many in rw many (omega (arith, is, more))
]

one_counts : (node other : ℕ) (earlier : List Happening) → node ≡ other → list_any is_read earlier ≡ true → further node (Beat other ∷ earlier) ≡ suc (further other earlier)
one_counts node other earlier same read =
    let so = and_from (other == node) (list_any is_read earlier) (eq-eqb other node (sym same)) read in
    rw so (ap (λ n. suc (further n earlier)) same)

none_counts : (node other : ℕ) (earlier : List Happening) → (node ≡ other → ⊥) → further node (Beat other ∷ earlier) ≡ further node earlier
none_counts node other earlier differs =
    let not_so : ((other == node) && list_any is_read earlier) ≡ false = rw (ne_eqb other node (λ is. differs (sym is))) refl in
    rw not_so refl

unread_counts : (node other : ℕ) (earlier : List Happening) → list_any is_read earlier ≡ false → further node (Beat other ∷ earlier) ≡ further node earlier
unread_counts node other earlier none = let not_so = and_right (other == node) (list_any is_read earlier) none in rw not_so refl

counted : (waking : Waking) (other : ℕ) (earlier : List Happening) → Fits waking earlier → waking.has_read ≡ true → other < MOST_NODES
    → Fits (record waking { beats = slice_set waking.beats other (one_more (slice_index_or waking.beats other 0)) }) (Beat other ∷ earlier)
counted waking other earlier fits read within =
    let before = slice_index_or waking.beats other 0 in
    let most = fits.most in
    let inside : other < length waking.beats = omega (arith, within, most) in
    let was_read : list_any is_read earlier ≡ true = sym fits.read ∙ read in
    record {
      read = fits.read;
      most = length-set waking.beats other (one_more before) ∙ fits.most;
      came = λ node below. elim (cases_eq node other) [
        | inl same ↦
            get_or-set_at waking.beats other node (one_more before) 0 same inside
            ∙ (at_most (further other earlier) before (fits.came other within)
            ∙ ap (λ n. min FURTHER n) (sym (one_counts node other earlier same was_read)))
        | inr differs ↦
            get_or-set_other waking.beats other node (one_more before) 0 differs
            ∙ (fits.came node below ∙ ap (λ n. min FURTHER n) (sym (none_counts node other earlier differs)))
      ];
    }

unread : (waking : Waking) (other : ℕ) (earlier : List Happening) → Fits waking earlier → waking.has_read ≡ false → Fits waking (Beat other ∷ earlier)
unread waking other earlier fits none = record {
  read = fits.read;
  most = fits.most;
  came = λ node below. fits.came node below ∙ ap (λ n. min FURTHER n) (sym (unread_counts node other earlier (sym fits.read ∙ none)));
}

of_no_node : (waking : Waking) (other : ℕ) (earlier : List Happening) → Fits waking earlier → MOST_NODES ≤ other → Fits waking (Beat other ∷ earlier)
of_no_node waking other earlier fits past = record {
  read = fits.read;
  most = fits.most;
  came = λ node below. fits.came node below ∙ ap (λ n. min FURTHER n) (sym (none_counts node other earlier (λ same. absurd (omega (arith, same, below, past)))));
}

-- ---- all that happens

step : (waking : Waking) (happening : Happening) (earlier : List Happening) → is_sleep happening ≡ false → Fits waking earlier → Fits (waking_after waking happening) (happening ∷ earlier)
step waking (Passed lost) earlier short fits = rw short (record { read = fits.read; most = fits.most; came = fits.came })
step waking (Stood since) earlier short fits = elim (cases_Bool (since == waking.stood)) [
  | inl same ↦ rw same (record { read = fits.read; most = fits.most; came = fits.came })
  | inr differs ↦ rw differs (record { read = fits.read; most = fits.most; came = fits.came })
]
step waking ReadAll earlier short fits = record { read = refl; most = fits.most; came = fits.came }
step waking (Beat other) earlier short fits = elim (cases_Bool (waking.has_read && nat_lt other MOST_NODES)) [
  | inl so ↦
      let both = and_parts waking.has_read (nat_lt other MOST_NODES) so in
      rw so (counted waking other earlier fits both.0 (ltb-true other MOST_NODES both.1))
  | inr not_so ↦ rw not_so (elim (and_cases waking.has_read (nat_lt other MOST_NODES) not_so) [
    | inl none ↦ unread waking other earlier fits none
    | inr past ↦ of_no_node waking other earlier fits (ltb-false other MOST_NODES past)
  ])
]

slept : (waking : Waking) (happening : Happening) → is_sleep happening ≡ true → Fits (waking_after waking happening) []
slept waking (Passed lost) long = rw long (none_fits waking.stood _)
slept waking (Stood since) long = absurd (both_ways false refl long)
slept waking ReadAll long = absurd (both_ways false refl long)
slept waking (Beat other) long = absurd (both_ways false refl long)

behind : (happenings : List Happening) → Fits (waking_behind happenings) (behind_sleep happenings)
behind [] = none_fits 0 0
behind (happening ∷ earlier) = elim (cases_Bool (is_sleep happening)) [
  | inl long ↦ rw long (slept (waking_behind earlier) happening long)
  | inr short ↦ rw short (step (waking_behind earlier) happening (behind_sleep earlier) short (behind earlier))
]

-- ---- that it is enough

same_test : (f beats : ℕ) → beats ≡ min FURTHER f → not (nat_lt beats FURTHER) ≡ nat_le FURTHER f
same_test f beats is = elim (cases_lt f FURTHER) [
  | inl few ↦ rw (lt-ltb beats FURTHER (omega (arith, is, few)), lt-leb FURTHER f few) refl
  | inr many ↦ rw (le-ltb beats FURTHER (omega (arith, is, many)), le-leb FURTHER f many) refl
]

abbrev is_many : ℕ → Bool
is_many beats = not (nat_lt beats FURTHER)

same_count : (f : ℕ → ℕ) (beats : List ℕ) (first count : ℕ) → length beats ≡ count
    → ((node : ℕ) → node < count → slice_index_or beats node 0 ≡ min FURTHER (f (first + node)))
    → count_by is_many beats ≡ count_by (λ node. nat_le FURTHER (f node)) (numbers first count)
same_count f [] first zero is each = refl
same_count f [] first (suc count) is each = absurd (omega (arith, is))
same_count f (beat ∷ beats) first zero is each = absurd (omega (arith, is))
same_count f (beat ∷ beats) first (suc count) is each =
    let long : length beats ≡ count = omega (arith, is) in
    let here : beat ≡ min FURTHER (f first) = each 0 (omega arith) ∙ ap (λ n. min FURTHER (f n)) (omega arith) in
    let rest = same_count f beats (suc first) count long (λ node below. each (suc node) (omega (arith, below)) ∙ ap (λ n. min FURTHER (f n)) (omega arith)) in
    sum_by-cons (λ beat. cond (is_many beat) 1 0) beat beats
    ∙ (ap (λ test. cond test 1 0 + count_by is_many beats) (same_test (f first) beat here)
    ∙ (ap (λ n. cond (nat_le FURTHER (f first)) 1 0 + n) rest
    ∙ sym (sum_by-cons (λ node. cond (nat_le FURTHER (f node)) 1 0) first (numbers (suc first) count))))

enough_by : (beats : List ℕ) (happenings : List Happening) (nodes : ℕ) → length beats ≡ MOST_NODES
    → ((node : ℕ) → node < MOST_NODES → slice_index_or beats node 0 ≡ min FURTHER (further node happenings))
    → is_enough beats nodes ≡ nat_lt nodes (2 * (1 + well_heard happenings))
unfolding is_enough
enough_by beats happenings nodes long each =
    ap (λ n. nat_lt nodes (2 * (1 + n)))
    (same_count (λ node. further node happenings) beats 0 MOST_NODES long
    (λ node below. each node below ∙ ap (λ n. min FURTHER (further n happenings)) (omega arith)))

pub wakes_exactly_then : (nodes : ℕ) (happenings : List Happening) → WakesExactlyThen nodes happenings
wakes_exactly_then nodes happenings =
    let waking = waking_behind happenings in
    let since = behind_sleep happenings in
    let fits = behind happenings in
    let same = enough_by waking.beats since nodes fits.most fits.came in (
      (λ awake.
          let both = and_parts waking.has_read (is_enough waking.beats nodes) awake in
          (sym fits.read ∙ both.0, ltb-true nodes (2 * (1 + well_heard since)) (sym same ∙ both.1))),
      (λ heard. and_from waking.has_read (is_enough waking.beats nodes) (fits.read ∙ heard.0) (same ∙ lt-ltb nodes (2 * (1 + well_heard since)) heard.1)),
    )
