use Rattle.std.proofs.Common.{◌≡◌}
use Rattle.sha2.specs.Sha256.{sha256}
use Rattle.node_seats.specs.Tokens.{IsForm, IsTokenLine}
use Rattle.node_seats.proofs.Tokens.{line_from_parts, parts_of_line}
use Rattle.node_seats.proofs.token_digest.shows_token.Goals as goal

pub returns-then-is_form : goal.returns-then-is_form
returns-then-is_form c =
    let from : IsForm c.split_at.result.0.now c.split_at-2.result.0.now c.split_at-2.result.1.now → (sha256 c.split_at-2.result.0.now ≡ c.args.digest.now.bytes) → IsTokenLine c.args.digest.now.bytes c.args.line.now =
    line_from_parts c.args.digest.now.bytes c.args.line.now c.split_at.result.0.now c.split_at.result.1.now c.split_at-2.result.0.now c.split_at-2.result.1.now c.split_at.ensures.by_index.0 c.split_at-2.ensures.by_index.0 c.split_at-2.ensures.front_len in
    let parts : IsTokenLine c.args.digest.now.bytes c.args.line.now → IsForm c.split_at.result.0.now c.split_at-2.result.0.now c.split_at-2.result.1.now × (sha256 c.split_at-2.result.0.now ≡ c.args.digest.now.bytes) =
    parts_of_line c.args.digest.now.bytes c.args.line.now c.split_at.result.0.now c.split_at.result.1.now c.split_at-2.result.0.now c.split_at-2.result.1.now c.split_at.ensures.by_index.0 c.split_at-2.ensures.by_index.0 c.split_at.ensures.front_len c.split_at-2.ensures.front_len in
    (λ is. from (c.is_form.ensures.0 c.if-is_form.true) (c.is_digest_of.ensures.0 is), λ token. c.is_digest_of.ensures.1 (parts token).1)

pub returns-else-is_form : goal.returns-else-is_form
returns-else-is_form c =
    let parts : IsTokenLine c.args.digest.now.bytes c.args.line.now → IsForm c.split_at.result.0.now c.split_at-2.result.0.now c.split_at-2.result.1.now × (sha256 c.split_at-2.result.0.now ≡ c.args.digest.now.bytes) =
    parts_of_line c.args.digest.now.bytes c.args.line.now c.split_at.result.0.now c.split_at.result.1.now c.split_at-2.result.0.now c.split_at-2.result.1.now c.split_at.ensures.by_index.0 c.split_at-2.ensures.by_index.0 c.split_at.ensures.front_len c.split_at-2.ensures.front_len in
    (λ is. absurd cc, λ token. c.is_form.ensures.1 (parts token).0)
