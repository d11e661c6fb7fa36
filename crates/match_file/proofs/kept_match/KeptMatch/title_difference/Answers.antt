use Rattle.std.proofs.Common.{◌≡◌, rules}
use Rattle.match_file.specs.KeptMatch.{kept_in}
use Rattle.match_file.specs.Kept.{kept_of}
use Rattle.match_file.proofs.Keeping.{title_same}
use Rattle.match_file.proofs.kept_match.KeptMatch.title_difference.Goals as goal

pub returns : goal.returns
returns c =
    let old = kept_in c.args.self.now in
    let new = kept_of c.args.config.now in
    let name : old.setting.title.name ≡ new.setting.title.name = search (rules, c.as_bytes.ensures.value, c.name.ensures.value, c.as_bytes-2.ensures.value, c.ne.ensures, c.if-ne.false) in
    let game : old.setting.title.game ≡ new.setting.title.game = search (rules, c.game_word.ensures.value, c.ne-2.ensures, c.if-ne-2.false) in
    let hands : old.setting.title.hands ≡ new.setting.title.hands = search (rules, c.hands.ensures.value, c.if-self-hands.false) in
    title_same old.setting.title new.setting.title name game hands
