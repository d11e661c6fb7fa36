use Rattle.std.proofs.Common.{◌≡◌, ℕ, List, ◌∷◌, ◌++◌, codes, ap, ◌∙◌}
use Rattle.peer_codes.specs.Hmac.{hmac}
use Rattle.peer_codes.specs.Codes.{role_byte, hellos_text}
use Rattle.peer_codes.proofs.hellos.Hellos.way_key.Goals as goal

pub returns : goal.returns
returns c =
    let text : c.as_slice.result.now ≡ hellos_text c.args.self.now = c.as_slice.ensures.value ∙ c.text.ensures in
    c.tag.ensures
    ∙ ap (λ (side : ℕ). hmac c.args.key.now.bytes (codes "HDN1 way" ++ (side ∷ c.as_slice.result.now))) c.byte-speaker.ensures
    ∙ ap (λ (both : List ℕ). hmac c.args.key.now.bytes (codes "HDN1 way" ++ (role_byte c.args.role ∷ both))) text
