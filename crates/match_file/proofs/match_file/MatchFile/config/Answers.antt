use Rattle.std.proofs.Common.{◌≡◌, ℕ, sym, subst, rules}
use Rattle.std.proofs.lemmas.Result.{err_from_is_err_and}
use Rattle.std.specs.Option.{option_copied}
use Rattle.std.specs.List.{All}
use Rattle.match_log.specs.Names.{IsGameWord, AreNames}
use Rattle.dealer_kind.specs.Sources.{HasDeals}
use Rattle.match_file.specs.MatchFile.{members}
use Rattle.match_file.proofs.Told.{each_has_deals, refused_sources}
use Rattle.match_file.proofs.match_file.MatchFile.config.Goals as goal

pub returns-in_err-sources : goal.returns-in_err-sources
returns-in_err-sources c =
    let p = err_from_is_err_and c.from_residual-in_err-sources.result c.from_residual-in_err-sources.ensures.1 in
    rw (p.1, p.2) (
    refused_sources (option_copied c.args.game) (members c.args.self.now) c.in-Some.name c.in-Some-word.word.now c.in_ok-game.game c.players-players.result c.in-Some-hands.hands c.in_ok-names.names
    c.in_err-sources.field-0.0 c.in-Some.ensures c.in-Some-word.ensures c.in_ok-game.ensures c.players-players.ensures.value c.in-Some-hands.ensures c.in_ok-names.ensures c.in_err-sources.ensures
    )

pub unwrap-requires : goal.unwrap-requires
unwrap-requires c =
    let same = c.players-players.ensures.value in
    let word : c.in_ok-word.word.items ≡ c.in-Some-word.word.now = search (rules, c.in_ok-word.ensures.items_if_clones_equal, c.as_bytes.ensures.value) in
    let sources = c.in_ok-sources.ensures in
    c.new.ensures.found.1 (record {
      within = record {
        is_game = c.limits.ensures;
        match_name = c.in-Some.ensures.is_name;
        game_word = subst IsGameWord (sym word) c.in-Some-word.ensures.is_word;
        least = c.in-Some-hands.ensures.least;
        most = c.in-Some-hands.ensures.most;
        seat_names = subst (λ (players : ℕ). AreNames players c.in_ok-names.names) same c.in_ok-names.ensures.are_names;
      };
      nodes = sources.nodes;
      deals = subst (λ (players : ℕ). All (HasDeals players c.in-Some-hands.hands) c.in_ok-sources.sources.items) same
          (each_has_deals c.players-players.result c.in-Some-hands.hands sources.tables.0 c.in_ok-sources.sources.items sources.tables.2);
    })
