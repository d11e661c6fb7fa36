use Rattle.std.proofs.Common.{◌≡◌, ◌<◌, ◌+◌, ◌-◌, ◌++◌, ◌∷◌, [], ℕ, List, length, take, set, get_or, refl, sym, ap, ◌∙◌, subst, arith}
use Rattle.std.specs.List.{AllByRecursion}
use Rattle.std.proofs.lemmas.Bool.{false≢true}
use Rattle.std.proofs.lemmas.List.{take_more, take_more_set, take_all, length-set}
use Rattle.std.proofs.SliceLists.{all_by_recursion_push}
use Rattle.match_log.specs.Lines.{names_field}
use Rattle.match_log.specs.Names.{IsName}
use Rattle.match_log.proofs.Naming.{ended, next_name, last_name, ended_one, ended_more, ended_whole}
use Rattle.match_log.proofs.names_text.read_names.Goals as goal

pub returns-in_default-clause-only : goal.returns-in_default-clause-only
returns-in_default-clause-only c =
    λ names count all is.
    let next = next_name names 0 c.args.bytes.now (omega (arith, count, c.requires.least)) all is in
    c.in_default.ensures.only _ _ next.free next.is

pub returns-in_err-first-clause-only : goal.returns-in_err-first-clause-only
returns-in_err-first-clause-only c =
    λ names count all is.
    let next = next_name names 0 c.args.bytes.now (omega (arith, count, c.requires.least)) all is in
    let cut = c.in-Some.ensures.only _ _ next.free next.is in
    absurd (false≢true (c.in_err-first.ensures.found.1 (subst IsName (sym cut.0) next.is_name)))

pub loop-position-init : goal.loop-position-init
loop-position-init c =
    let same : c.in_ok-first.first ≡ c.in-Some.front.now = c.in_ok-first.ensures.value in
    record {
      places = refl;
      so_far = ended_one c.args.bytes.now c.in_ok-first.first c.in-Some.front.now c.in-Some.later.now same c.in-Some.ensures.found.0;
      each_name = (subst IsName (sym same) (c.in_ok-first.ensures.found.0 refl), tt);
      only = λ names count all is.
          let next = next_name names 0 c.args.bytes.now (omega (arith, count, c.requires.least)) all is in
          let some : 0 < length names = omega (arith, count, c.requires.least) in
          let cut = c.in-Some.ensures.only _ _ next.free next.is in
          (ap (λ (name : List ℕ). name ∷ []) (same ∙ cut.0) ∙ sym (take_more names 0 [] some), cut.1);
    }

pub returns-in_default-cut-clause-only : goal.returns-in_default-cut-clause-only
returns-in_default-cut-clause-only c =
    λ names count all is.
    let so_far = c.loop-position.invariant.only names count all is in
    let next = next_name names c.loop-position.position c.loop-position.rest.now (omega (arith, count, c.loop-position-test.true)) all so_far.1 in
    c.in_default-cut.ensures.only _ _ next.free next.is

pub returns-in_err-names-clause-only : goal.returns-in_err-names-clause-only
returns-in_err-names-clause-only c =
    λ names count all is.
    let so_far = c.loop-position.invariant.only names count all is in
    let next = next_name names c.loop-position.position c.loop-position.rest.now (omega (arith, count, c.loop-position-test.true)) all so_far.1 in
    let cut = c.in-Some-cut.ensures.only _ _ next.free next.is in
    absurd (false≢true (c.in_err-names.ensures.found.1 (subst IsName (sym cut.0) next.is_name)))

pub loop-position-preserved : goal.loop-position-preserved
loop-position-preserved c =
    let position : ℕ = c.loop-position.position in
    let old : List (List ℕ) = c.loop-position.names in
    let name : List ℕ = c.in_ok-names.field-0 in
    let same : name ≡ c.in-Some-cut.front.now = c.in_ok-names.ensures.value in
    let within : position < length old = omega (arith, c.loop-position.invariant.places, c.requires.most, c.loop-position-test.true) in
    let read : c.loop-position.rest.now ≡ name ++ 124 ∷ c.in-Some-cut.behind.now = c.in-Some-cut.ensures.found.0 ∙ ap (λ (t : List ℕ). t ++ 124 ∷ c.in-Some-cut.behind.now) (sym same) in
    record {
      places = length-set old position name ∙ c.loop-position.invariant.places;
      so_far = ended_more old position name c.args.bytes.now c.loop-position.rest.now c.in-Some-cut.behind.now within c.loop-position.invariant.so_far read;
      each_name =
          subst (AllByRecursion IsName) (sym (take_more_set old position name within))
          (all_by_recursion_push IsName (take position old) name c.loop-position.invariant.each_name (subst IsName (sym same) (c.in_ok-names.ensures.found.0 refl)));
      only = λ names count all is.
          let so_far = c.loop-position.invariant.only names count all is in
          let next = next_name names position c.loop-position.rest.now (omega (arith, count, c.loop-position-test.true)) all so_far.1 in
          let place : position < length names = omega (arith, count, c.loop-position-test.true) in
          let cut = c.in-Some-cut.ensures.only _ _ next.free next.is in (
            take_more_set old position name within
                ∙ ap (λ (front : List (List ℕ)). front ++ name ∷ []) so_far.0
                ∙ ap (λ (other : List ℕ). take position names ++ other ∷ []) (same ∙ cut.0)
                ∙ sym (take_more names position [] place),
            cut.1,
          );
    }

pub returns-in_err-names-2-clause-only : goal.returns-in_err-names-2-clause-only
returns-in_err-names-2-clause-only c =
    λ names count all is.
    let so_far = c.loop-position.invariant.only names count all is in
    let last = last_name names c.loop-position.position c.loop-position.rest.now (omega (arith, count, c.loop-position-test.false, c.loop-position.auto.position-end, c.requires.least)) all so_far.1 in
    absurd (false≢true (c.in_err-names-2.ensures.found.1 last.0))

pub returns-clause-found : goal.returns-clause-found
returns-clause-found c =
    let last : ℕ = c.args.players - 1 in
    let old : List (List ℕ) = c.loop-position.names in
    let name : List ℕ = c.in_ok-names-2.field-0 in
    let same : name ≡ c.loop-position.rest.now = c.in_ok-names-2.ensures.value in
    let at : c.loop-position.position ≡ last = omega (arith, c.loop-position-test.false, c.loop-position.auto.position-end) in
    let all : last + 1 ≡ c.args.players = omega (arith, c.requires.least) in
    let within : last < length old = omega (arith, c.loop-position.invariant.places, c.requires.most, c.requires.least) in
    c.loop-position.invariant.so_far
    ∙ ap (λ (p : ℕ). ended (take p old) ++ c.loop-position.rest.now) at
    ∙ ap (λ (t : List ℕ). ended (take last old) ++ t) (sym same)
    ∙ ended_whole (take last old) name
    ∙ ap names_field (sym (take_more_set old last name within))
    ∙ ap (λ (n : ℕ). names_field (take n (set old last name))) all

pub returns-clause-only : goal.returns-clause-only
returns-clause-only c =
    λ names count every is.
    let last : ℕ = c.args.players - 1 in
    let old : List (List ℕ) = c.loop-position.names in
    let name : List ℕ = c.in_ok-names-2.field-0 in
    let same : name ≡ c.loop-position.rest.now = c.in_ok-names-2.ensures.value in
    let at : c.loop-position.position ≡ last = omega (arith, c.loop-position-test.false, c.loop-position.auto.position-end) in
    let all : last + 1 ≡ c.args.players = omega (arith, c.requires.least) in
    let within : last < length old = omega (arith, c.loop-position.invariant.places, c.requires.most, c.requires.least) in
    let place : last < length names = omega (arith, count, c.requires.least) in
    let so_far = c.loop-position.invariant.only names count every is in
    let final = last_name names c.loop-position.position c.loop-position.rest.now (omega (arith, count, at, all)) every so_far.1 in
    ap (λ (n : ℕ). take n (set old last name)) (sym all)
    ∙ take_more_set old last name within
    ∙ ap (λ (front : List (List ℕ)). front ++ name ∷ []) (ap (λ (p : ℕ). take p old) (sym at) ∙ so_far.0 ∙ ap (λ (p : ℕ). take p names) at)
    ∙ ap (λ (other : List ℕ). take last names ++ other ∷ []) (same ∙ final.1 ∙ ap (λ (p : ℕ). get_or names p []) at)
    ∙ sym (take_more names last [] place)
    ∙ take_all (last + 1) names (omega (arith, count, all))
