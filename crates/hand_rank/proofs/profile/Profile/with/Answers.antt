use Rattle.std.proofs.Common.{◌∙◌, ap, bit_and, bit_or}
use Rattle.hand_rank.proofs.Profiles.{once_more, again_more}
use Rattle.hand_rank.proofs.profile.Profile.with.Goals as goal

pub returns : goal.returns
returns c = λ cards card e so_far.
    let self = c.args.self in
    record {
      once = once_more self.once.bits c.either.result.bits card c.args.rank cards so_far.once e (c.either.ensures ∙ ap (bit_or c.args.self.once.bits) c.of-card.ensures);
      twice = again_more self.twice.bits self.once.bits c.either-2.result.bits c.both.result.bits card c.args.rank 1 cards so_far.twice so_far.once e (c.both.ensures ∙ ap (bit_and c.args.self.once.bits) c.of-card.ensures) c.either-2.ensures;
      thrice = again_more self.thrice.bits self.twice.bits c.either-3.result.bits c.both-2.result.bits card c.args.rank 2 cards so_far.thrice so_far.twice e (c.both-2.ensures ∙ ap (bit_and c.args.self.twice.bits) c.of-card.ensures) c.either-3.ensures;
      four = again_more self.four.bits self.thrice.bits c.either-4.result.bits c.both-3.result.bits card c.args.rank 3 cards so_far.four so_far.thrice e (c.both-3.ensures ∙ ap (bit_and c.args.self.thrice.bits) c.of-card.ensures) c.either-4.ensures;
    }
