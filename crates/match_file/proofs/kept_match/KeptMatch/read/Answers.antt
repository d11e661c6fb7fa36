use Rattle.std.proofs.Common.{◌≡◌, ℕ, ◌∙◌, ap, sym, subst}
use Rattle.std.proofs.lemmas.Bool.{false≢true}
use Rattle.std.proofs.lemmas.Option.{same_Some}
use Rattle.game_def.specs.Game.{Game}
use Rattle.game_def.specs.WholeFile.{read_game}
use Rattle.match_log.specs.Names.{IsName, IsGameWord, AreNames}
use Rattle.match_file.specs.KeptLines.{Said}
use Rattle.match_file.proofs.Keeping.{said_of, one_each, title_same, setting_same, kept_same}
use Rattle.match_file.proofs.kept_match.KeptMatch.read.Goals as goal

pub returns-in_err-lines-clause-only : goal.returns-in_err-lines-clause-only
returns-in_err-lines-clause-only c = λ kept keeps. absurd (c.in_err-lines.ensures.only (said_of kept keeps.game) (one_each kept keeps.game keeps.within) keeps.form)

pub returns-in_err-name-clause-only : goal.returns-in_err-name-clause-only
returns-in_err-name-clause-only c =
    λ kept keeps.
    let lines = c.in_ok-lines.ensures.only (said_of kept keeps.game) (one_each kept keeps.game keeps.within) keeps.form in
    let name = ap (λ (s : Said). s.name) lines in
    absurd (false≢true (c.in_err-name.ensures.found.1 (subst IsName (sym name) keeps.within.match_name)))

pub returns-then-not-is_game_word-clause-only : goal.returns-then-not-is_game_word-clause-only
returns-then-not-is_game_word-clause-only c =
    λ kept keeps.
    let lines = c.in_ok-lines.ensures.only (said_of kept keeps.game) (one_each kept keeps.game keeps.within) keeps.form in
    let game = ap (λ (s : Said). s.game) lines in
    let passed = c.is_game_word.ensures.1 (subst IsGameWord (sym game) keeps.within.game_word) in
    let failed = c.if-not-is_game_word.true in
    false≢true (sym failed ∙ passed)

pub returns-in_err-hands-clause-only : goal.returns-in_err-hands-clause-only
returns-in_err-hands-clause-only c =
    λ kept keeps.
    let lines = c.in_ok-lines.ensures.only (said_of kept keeps.game) (one_each kept keeps.game keeps.within) keeps.form in
    let hands = ap (λ (s : Said). s.hands) lines in
    let read = c.in_err-hands.ensures.only kept.setting.title.hands keeps.within.least keeps.within.most hands in
    absurd (let e = read in cc)

pub returns-in_err-nodes-clause-only : goal.returns-in_err-nodes-clause-only
returns-in_err-nodes-clause-only c =
    λ kept keeps.
    let lines = c.in_ok-lines.ensures.only (said_of kept keeps.game) (one_each kept keeps.game keeps.within) keeps.form in
    let nodes = ap (λ (s : Said). s.nodes) lines in
    let read = c.in_err-nodes.ensures.only kept.nodes keeps.count nodes in
    absurd (let e = read in cc)

pub returns-in_default-clause-only : goal.returns-in_default-clause-only
returns-in_default-clause-only c =
    λ kept keeps.
    let lines = c.in_ok-lines.ensures.only (said_of kept keeps.game) (one_each kept keeps.game keeps.within) keeps.form in
    let read = c.in_default.ensures.exact ∙ ap (λ (s : Said). read_game s.rest) lines ∙ keeps.defines in
    cc

pub returns-in_err-names-clause-only : goal.returns-in_err-names-clause-only
returns-in_err-names-clause-only c =
    λ kept keeps.
    let lines = c.in_ok-lines.ensures.only (said_of kept keeps.game) (one_each kept keeps.game keeps.within) keeps.form in
    let read = c.in-Ok.ensures.exact ∙ ap (λ (s : Said). read_game s.rest) lines ∙ keeps.defines in
    let same : c.in-Ok.game ≡ kept.setting.game = cc in
    let players = c.players.ensures.value ∙ ap (λ (g : Game). g.players) same in
    let names = c.in_err-names.ensures.only kept.setting.names (subst (λ (n : ℕ). AreNames n kept.setting.names) (sym players) keeps.within.seat_names) (ap (λ (s : Said). s.names) lines) in
    absurd (let e = names in cc)

pub returns-clause-only : goal.returns-clause-only
returns-clause-only c =
    λ kept keeps.
    let lines = c.in_ok-lines.ensures.only (said_of kept keeps.game) (one_each kept keeps.game keeps.within) keeps.form in
    let name = c.in_ok-name.ensures.value ∙ ap (λ (s : Said). s.name) lines in
    let hands = same_Some _ _ (c.in_ok-hands.ensures.only kept.setting.title.hands keeps.within.least keeps.within.most (ap (λ (s : Said). s.hands) lines)) in
    let nodes = same_Some _ _ (c.in_ok-nodes.ensures.only kept.nodes keeps.count (ap (λ (s : Said). s.nodes) lines)) in
    let read = c.in-Ok.ensures.exact ∙ ap (λ (s : Said). read_game s.rest) lines ∙ keeps.defines in
    let same : c.in-Ok.game ≡ kept.setting.game = cc in
    let players = c.players.ensures.value ∙ ap (λ (g : Game). g.players) same in
    let names = same_Some _ _ (c.in_ok-names.ensures.only kept.setting.names (subst (λ (n : ℕ). AreNames n kept.setting.names) (sym players) keeps.within.seat_names) (ap (λ (s : Said). s.names) lines)) in
    kept_same _ kept (setting_same _ kept.setting same (title_same _ kept.setting.title name (ap (λ (s : Said). s.game) lines) hands) names) nodes
