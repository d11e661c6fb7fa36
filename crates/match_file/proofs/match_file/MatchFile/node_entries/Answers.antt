use Rattle.std.specs.Option.{option_copied, option_map}
use Rattle.std.proofs.lemmas.Result.{err_from_is_err_and}
use Rattle.match_file.specs.MatchFile.{members}
use Rattle.match_file.specs.Said.{IsAbsent}
use Rattle.match_file.specs.Tokens.{SaysTokens}
use Rattle.match_file.specs.Times.{SaysTime}
use Rattle.match_file.specs.declared.key.Key.TheVariants.{Tokens, Patience, Start}
use Rattle.match_file.proofs.Entering.{unrun_by}
use Rattle.match_file.proofs.match_file.MatchFile.node_entries.Goals as goal

pub returns-in_default-clause-fault : goal.returns-in_default-clause-fault
returns-in_default-clause-fault c = ((c.in_ok-stores.stores.now, c.in_ok-stores.ensures.found), c.in_default.ensures)

pub returns-in_err-tokens-clause-fault : goal.returns-in_err-tokens-clause-fault
returns-in_err-tokens-clause-fault c =
    let table = members c.args.self.now in
    let all = c.in_ok-addresses.addresses in
    let told = c.in_ok-addresses.ensures in
    let p = err_from_is_err_and c.from_residual-in_err-tokens.result c.from_residual-in_err-tokens.ensures.1 in
    rw (p.1, p.2) (
    unrun_by Tokens (IsAbsent (SaysTokens c.args.players c.deref.result.now table)) c.args.players table c.in_err-tokens.field-0.0
    (λ none. (
      all.seats.items,
      record {
        folders = ((c.in_ok-stores.stores.now, c.in_ok-stores.ensures.found), (c.in-Some.logs.now, c.in-Some.ensures));
        away = (c.in_ok-away.away, c.in_ok-away.ensures);
        key = (option_copied c.in_ok-key.key, c.in_ok-key.ensures);
        peers = (all.peers.items, told.peers);
        seats_of = told.seats;
        status = (all.status.items, told.status);
        from = (all.from.items, told.from);
      },
      rw⁻¹ c.deref.ensures.value none,
    ))
    c.in_err-tokens.ensures
    )

pub returns-in_err-patience-clause-fault : goal.returns-in_err-patience-clause-fault
returns-in_err-patience-clause-fault c =
    let table = members c.args.self.now in
    let all = c.in_ok-addresses.addresses in
    let told = c.in_ok-addresses.ensures in
    let p = err_from_is_err_and c.from_residual-in_err-patience.result c.from_residual-in_err-patience.ensures.1 in
    rw (p.1, p.2) (
    unrun_by Patience (IsAbsent (SaysTime Patience table)) c.args.players table c.in_err-patience.field-0.0
    (λ none. (
      all.seats.items,
      record {
        folders = ((c.in_ok-stores.stores.now, c.in_ok-stores.ensures.found), (c.in-Some.logs.now, c.in-Some.ensures));
        away = (c.in_ok-away.away, c.in_ok-away.ensures);
        key = (option_copied c.in_ok-key.key, c.in_ok-key.ensures);
        peers = (all.peers.items, told.peers);
        seats_of = told.seats;
        status = (all.status.items, told.status);
        from = (all.from.items, told.from);
      },
      (option_map (λ digests. digests.items) c.in_ok-tokens.tokens, rw⁻¹ c.deref.ensures.value c.in_ok-tokens.ensures),
      none,
    ))
    c.in_err-patience.ensures
    )

pub returns-in_err-start-clause-fault : goal.returns-in_err-start-clause-fault
returns-in_err-start-clause-fault c =
    let table = members c.args.self.now in
    let all = c.in_ok-addresses.addresses in
    let told = c.in_ok-addresses.ensures in
    let p = err_from_is_err_and c.from_residual-in_err-start.result c.from_residual-in_err-start.ensures.1 in
    rw (p.1, p.2) (
    unrun_by Start (IsAbsent (SaysTime Start table)) c.args.players table c.in_err-start.field-0.0
    (λ none. (
      all.seats.items,
      record {
        folders = ((c.in_ok-stores.stores.now, c.in_ok-stores.ensures.found), (c.in-Some.logs.now, c.in-Some.ensures));
        away = (c.in_ok-away.away, c.in_ok-away.ensures);
        key = (option_copied c.in_ok-key.key, c.in_ok-key.ensures);
        peers = (all.peers.items, told.peers);
        seats_of = told.seats;
        status = (all.status.items, told.status);
        from = (all.from.items, told.from);
      },
      (option_map (λ digests. digests.items) c.in_ok-tokens.tokens, rw⁻¹ c.deref.ensures.value c.in_ok-tokens.ensures),
      (c.in_ok-patience.patience, c.in_ok-patience.ensures),
      none,
    ))
    c.in_err-start.ensures
    )
