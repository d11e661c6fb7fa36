use Rattle.std.proofs.Common.{◌≡◌, ◌++◌, ℕ, List, take, sym, ap, ◌∙◌}
use Rattle.std.proofs.lemmas.Bool.{false≢true}
use Rattle.match_log.specs.Lines.{score_text}
use Rattle.match_log.specs.Payoffs.{totals_of}
use Rattle.match_log.proofs.Known.{known_names, score_as}
use Rattle.match_log.proofs.Tallies.{totals_as}
use Rattle.match_log.proofs.checked.Checked.take_score.Goals as goal

pub returns-in-Some-after_score-clause-line : goal.returns-in-Some-after_score-clause-line
returns-in-Some-after_score-clause-line c =
    λ names hands said.
    let game = c.args.game.now in
    let behind : List ℕ = c.in-Some-after_score.behind.now in
    let totals : c.totals-totals.result.now ≡ totals_of game hands =
    totals_as game hands c.args.self.now.score c.totals-totals.result.now said.tally (c.totals-totals.ensures.value ∙ ap (λ n. take n c.args.self.now.score.totals) c.players.ensures.value) (c.totals-totals.ensures.count ∙ c.players.ensures.value) in
    let seats : take c.players-2.result c.in-Some.names ≡ names = ap (λ n. take n c.in-Some.names) c.players-2.ensures.value ∙ known_names game.players names hands c.args.self.now.names c.in-Some.names said.known c.in-Some.is in
    c.in-Some-after_score.ensures.found
    ∙ ap (λ values. score_text values (take c.players-2.result c.in-Some.names) ++ behind) totals
    ∙ ap (λ (others : List (List ℕ)). score_text (totals_of game hands) others ++ behind) seats
    ∙ ap (λ (t : List ℕ). t ++ behind) (sym (score_as game names hands))

pub returns-in-None-clause-fault : goal.returns-in-None-clause-fault
returns-in-None-clause-fault c =
    λ names hands said.
    let game = c.args.game.now in
    let totals : c.totals-totals.result.now ≡ totals_of game hands =
    totals_as game hands c.args.self.now.score c.totals-totals.result.now said.tally (c.totals-totals.ensures.value ∙ ap (λ n. take n c.args.self.now.score.totals) c.players.ensures.value) (c.totals-totals.ensures.count ∙ c.players.ensures.value) in
    let seats : take c.players-2.result c.in-Some.names ≡ names = ap (λ n. take n c.in-Some.names) c.players-2.ensures.value ∙ known_names game.players names hands c.args.self.now.names c.in-Some.names said.known c.in-Some.is in (
      λ begins. false≢true (sym c.if-begins_line.false ∙ c.begins_line.ensures.1 begins),
      λ behind is.
          c.in-None.ensures.only behind
          (is ∙ ap (λ (t : List ℕ). t ++ behind) (score_as game names hands)
          ∙ ap (λ values. score_text values names ++ behind) (sym totals)
          ∙ ap (λ (others : List (List ℕ)). score_text c.totals-totals.result.now others ++ behind) (sym seats)),
    )
