use Rattle.std.proofs.Common.{rules, ◌≡◌, ◌∙◌, ap, sym, subst, replicate, inl, inr}
use Rattle.serving.specs.Placed.{places_in}
use Rattle.serving.specs.declared.place.Place.TheVariants.{Awaited}
use Rattle.serving.specs.declared.progress.Progress.{Progress}
use Rattle.serving.proofs.Leaving.{NoneSeated, none_seated, none_leaves}
use Rattle.serving.proofs.server.Server.new.Goals as goal

-- nobody has a connection yet, so what is shown moves nobody
pub returns-clause-places : goal.returns-clause-places
returns-clause-places g c =
    let seats : c.players-seats.result ≡ c.args.cluster.config.setting.game.players = search rules in
    let counted : places_in c.count_commands.new.self.places ≡ places_in c.new-desk.result.progress.places = ap (λ (p : Progress). places_in p.places) c.count_commands.ensures.kept in
    let awaited = counted ∙ (c.new-desk.ensures.places ∙ ap (λ n. replicate n (Awaited 0)) seats) in
    let none = subst NoneSeated (sym awaited) (none_seated c.args.cluster.config.setting.game.players 0) in
    let leave = c.show.ensures.given.leave in
    none_leaves (places_in c.count_commands.new.self.places) (places_in c.show.new.self.progress.places) none (λ seat. elim (leave seat) [
      | inl same ↦ inl same
      | inr (node, was, is, misses) ↦ inr (node, was)
    ]) ∙ awaited
