use Rattle.std.proofs.Common.{◌≡◌, Some, refl, ap, ◌∙◌, position, rules}
use Rattle.std.proofs.lemmas.Option.{get_or_from_slice_get}
use Rattle.match_links.specs.Callers.{can_be_opened}
use Rattle.match_links.proofs.callers.Callers.open_next.Goals as goal

pub returns-in-Some-clause-opened : goal.returns-in-Some-clause-opened
returns-in-Some-clause-opened c =
    let all = c.args.self.now.all.items in
    let place : position (can_be_opened c.args.node c.args.seat) all ≡ Some c.in-Some.at = search rules in
    rw place (
      _,
      refl,
      λ caller is.
          let same : c.index_mut.result.now ≡ caller = c.index_mut.ensures.value ∙ get_or_from_slice_get all c.in-Some.at caller c.index_mut.result.now is in
          record { state = refl; node = ap (λ k. k.node) same; seat = ap (λ k. k.seat) same; bytes = ap (λ k. k.bytes) same; read = ap (λ k. k.read) same },
    )
