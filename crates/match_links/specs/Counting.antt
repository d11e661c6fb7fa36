-- The call of links in memory that fails, the one that is slow, and what is counted.
use Rattle.std.specs.Prelude.{ℕ, ◌+◌, ◌-◌, ◌==◌, Bool, false, if◌then◌else◌, min, List, set, get_or, Option, Some, None, Result, Ok, Err}
use Rattle.match_links.specs.declared.links.LinkFault.{LinkFault}
use Rattle.match_links.specs.declared.links.LinkFault.TheVariants.{Failed, Slow}

-- of how many calls pass before it: it is the next one
abbrev pub is_due : Option ℕ → Bool
is_due None = false
is_due (Some count) = count == 0

-- how many pass after one call more: none is counted down to once it was made
abbrev pub one_less : Option ℕ → Option ℕ
one_less None = None
one_less (Some count) = if count == 0 then None else Some (count - 1)

-- what a call answers, of how many pass before the one that fails and before the one that is slow
abbrev pub passing : Option ℕ → Option ℕ → Result (Unit {0}) LinkFault
passing fails slow = if is_due fails then Err Failed else (if is_due slow then Err Slow else Ok tt)

-- of counts that go up to 255, the one at this place is one more; none where there is no such place
abbrev pub once_more : List ℕ → ℕ → List ℕ
once_more counts place = set counts place (min 255 (get_or counts place 0 + 1))
