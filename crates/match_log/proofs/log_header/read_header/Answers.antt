use Rattle.std.proofs.Common.{◌++◌, ◌∷◌, ℕ, List, codes, decimal, refl, sym, ap, ◌∙◌, subst}
use Rattle.std.proofs.lemmas.Bool.{false≢true}
use Rattle.match_log.specs.Log.{Title}
use Rattle.match_log.specs.Names.{IsName, IsGameWord}
use Rattle.match_log.specs.Check.{IsTitle}
use Rattle.match_log.proofs.Free.{name_free, word_free, decimal_text_free}
use Rattle.match_log.proofs.Wholes.{header_is}
use Rattle.match_log.proofs.log_header.read_header.Goals as goal

pub returns-in_err-words-clause-none : goal.returns-in_err-words-clause-none
returns-in_err-words-clause-none c = λ none title rest has. c.in_err-words.ensures.only _ (has.whole ∙ header_is title.name title.game title.hands rest)

pub returns-in_default-clause-none : goal.returns-in_default-clause-none
returns-in_default-clause-none c =
    λ none title rest has.
    let words = c.in_ok-words.ensures.only _ (has.whole ∙ header_is title.name title.game title.hands rest) in
    c.in_default.ensures.only title.name _ (name_free 32 refl title.name has.is_title.name) words

pub returns-in_default-cut-clause-none : goal.returns-in_default-cut-clause-none
returns-in_default-cut-clause-none c =
    λ none title rest has.
    let words = c.in_ok-words.ensures.only _ (has.whole ∙ header_is title.name title.game title.hands rest) in
    let name = c.in-Some.ensures.only title.name _ (name_free 32 refl title.name has.is_title.name) words in
    c.in_default-cut.ensures.only title.game _ (word_free title.game has.is_title.game) name.1

pub returns-in_default-cut-2-clause-none : goal.returns-in_default-cut-2-clause-none
returns-in_default-cut-2-clause-none c =
    λ none title rest has.
    let words = c.in_ok-words.ensures.only _ (has.whole ∙ header_is title.name title.game title.hands rest) in
    let name = c.in-Some.ensures.only title.name _ (name_free 32 refl title.name has.is_title.name) words in
    let game = c.in-Some-cut.ensures.only title.game _ (word_free title.game has.is_title.game) name.1 in
    c.in_default-cut-2.ensures.only (decimal title.hands) rest (decimal_text_free 10 refl title.hands) game.1

pub returns-then-not-is_name-clause-none : goal.returns-then-not-is_name-clause-none
returns-then-not-is_name-clause-none c =
    λ none title rest has.
    let words = c.in_ok-words.ensures.only _ (has.whole ∙ header_is title.name title.game title.hands rest) in
    let name = c.in-Some.ensures.only title.name _ (name_free 32 refl title.name has.is_title.name) words in
    let passed = c.is_name.ensures.1 (subst IsName (sym name.0) has.is_title.name) in
    let failed = c.if-not-is_name.true in
    false≢true (sym failed ∙ passed)

pub returns-then-not-is_game_word-clause-none : goal.returns-then-not-is_game_word-clause-none
returns-then-not-is_game_word-clause-none c =
    λ none title rest has.
    let words = c.in_ok-words.ensures.only _ (has.whole ∙ header_is title.name title.game title.hands rest) in
    let name = c.in-Some.ensures.only title.name _ (name_free 32 refl title.name has.is_title.name) words in
    let game = c.in-Some-cut.ensures.only title.game _ (word_free title.game has.is_title.game) name.1 in
    let passed = c.is_game_word.ensures.1 (subst IsGameWord (sym game.0) has.is_title.game) in
    let failed = c.if-not-is_game_word.true in
    false≢true (sym failed ∙ passed)

pub returns-in_err-hands-clause-none : goal.returns-in_err-hands-clause-none
returns-in_err-hands-clause-none c =
    λ none title rest has.
    let words = c.in_ok-words.ensures.only _ (has.whole ∙ header_is title.name title.game title.hands rest) in
    let name = c.in-Some.ensures.only title.name _ (name_free 32 refl title.name has.is_title.name) words in
    let game = c.in-Some-cut.ensures.only title.game _ (word_free title.game has.is_title.game) name.1 in
    let hands = c.in-Some-cut-2.ensures.only (decimal title.hands) rest (decimal_text_free 10 refl title.hands) game.1 in
    let read = c.in_err-hands.ensures.only title.hands has.is_title.least has.is_title.most hands.0 in
    cc

pub returns-clause-found : goal.returns-clause-found
returns-clause-found c =
    let name : List ℕ = c.in-Some.name.now in
    let game : List ℕ = c.in-Some-cut.game.now in
    let hands : ℕ = c.in_ok-hands.hands in
    let behind : List ℕ = c.in-Some-cut-2.behind.now in
    let title : Title = record { name = name; game = game; hands = hands } in
    let is_title : IsTitle title =
    record { name = c.is_name.ensures.0 c.if-not-is_name.false; game = c.is_game_word.ensures.0 c.if-not-is_game_word.false; least = c.in_ok-hands.ensures.least; most = c.in_ok-hands.ensures.most } in (
      title,
      refl,
      record {
        is_title = is_title;
        whole =
            c.in_ok-words.ensures.found
            ∙ ap (λ (t : List ℕ). codes "# name/game/hands " ++ t) (c.in-Some.ensures.found.0
            ∙ ap (λ (t : List ℕ). name ++ 32 ∷ t) (c.in-Some-cut.ensures.found.0
            ∙ ap (λ (t : List ℕ). game ++ 32 ∷ t) (c.in-Some-cut-2.ensures.found.0
            ∙ ap (λ (t : List ℕ). t ++ 10 ∷ behind) c.in_ok-hands.ensures.found)))
            ∙ sym (header_is name game hands behind);
      },
    )
