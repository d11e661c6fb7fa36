use Rattle.std.proofs.Common.{◌≡◌, ◌+◌, ◌∙◌, ap, drop}
use Rattle.byte_queue.specs.Queued.{Queued}
use Rattle.seat_session.specs.Lines.{HasNoFeed, Breaks}
use Rattle.seat_session.proofs.LineLemmas.{drop_line, not_clear, one_break}
use Rattle.seat_session.proofs.line_buffer.LineBuffer.take_line.Goals as goal

pub returns-in-Some-clause-taken : goal.returns-in-Some-clause-taken
returns-in-Some-clause-taken c line rest breaks =
    let found = c.in-Some.ensures in
    let waiting = c.args.self.now.waiting in
    let place = c.in-Some.place in
    let here : Breaks waiting found.0 found.1 = rw (← c.waiting.ensures) found.2 in
    let left : drop (place + 1) waiting ≡ rest = drop_line waiting found.0 found.1 place here found.3 ∙ (one_break waiting found.0 found.1 line rest here breaks).1 in
    let shown : c.self.inside.queue.waiting ≡ waiting = ap (λ (b : Queued). b.waiting) c.self.view_is in
    c.skip.ensures.waiting ∙ ap (drop (place + 1)) shown ∙ left

pub returns-in-Some-clause-none : goal.returns-in-Some-clause-none
returns-in-Some-clause-none c clear =
    let found = c.in-Some.ensures in
    let here : Breaks c.args.self.now.waiting found.0 found.1 = rw (← c.waiting.ensures) found.2 in
    absurd (not_clear c.args.self.now.waiting found.0 found.1 here clear)

pub returns-in_default-clause-taken : goal.returns-in_default-clause-taken
returns-in_default-clause-taken c line rest breaks =
    let clear : HasNoFeed c.args.self.now.waiting = rw c.waiting.ensures at c.in_default.ensures in
    absurd (not_clear c.args.self.now.waiting line rest breaks clear)
