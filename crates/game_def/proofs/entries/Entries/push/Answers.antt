use Rattle.std.proofs.Common.{◌∙◌, ap, List, lit<}
use Rattle.game_def.specs.declared.entry.Entry.{Entry}
use Rattle.game_def.specs.Entries.{is_set}
use Rattle.game_def.proofs.Once.{more_entries, room_for}
use Rattle.game_def.proofs.entries.Entries.push.Goals as goal

pub push-requires : goal.push-requires
push-requires c =
    let new = ap (λ (es : List Entry). is_set es c.args.entry.key) c.self.view_is ∙ c.requires.new_key in
    let more = more_entries c.self.inside.list.items c.args.entry c.self.invariant new c.requires.fitting in
    (lit< tt, room_for c.self.inside.list.items c.args.entry more)

pub invariant_of-self : goal.invariant_of-self
invariant_of-self c =
    let new = ap (λ (es : List Entry). is_set es c.args.entry.key) c.self.view_is ∙ c.requires.new_key in
    rw c.push.ensures.items (more_entries c.self.inside.list.items c.args.entry c.self.invariant new c.requires.fitting)
