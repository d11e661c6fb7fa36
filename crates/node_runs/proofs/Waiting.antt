-- What waits of the notes of turns, step by step.
use Rattle.std.proofs.Common.{◌≡◌, ℕ, ◌<◌, ◌≤◌, ◌==◌, ◌&&◌, ◌^◌, max, Bool, cond, get_or, List, [], ◌∷◌, ◌++◌, Some, None, sym, ap, ◌∙◌, subst, inl, inr, arith}
use Rattle.std.specs.Prelude.{Option, IfSome}
use Rattle.std.specs.List.{filter, count_by}
use Rattle.std.proofs.lemmas.Bool.{cases_eq, cond-true, cond-false, eq-eqb, ne_eqb}
use Rattle.std.proofs.lemmas.List.Sums.{fold_push}
use Rattle.node_service.specs.declared.server_notice.ServerNotice.{ServerNotice}
use Rattle.node_runs.specs.NoteGroups.{group_of, weight_of}
use Rattle.node_runs.specs.NoteLimits.{IsAccount, IsAtOnce, IsWhole, has_room, is_of, is_recent, sum_of, waiting_at, counted_at}
use Rattle.node_runs.specs.WaitingNotes.{Holds, IsNewest, TakesCount, TakesOne, newest_at, newest_of}
use Rattle.node_runs.specs.declared.note_limits.Count.{Count}
use Rattle.node_runs.specs.declared.note_limits.NoteLimits.{NoteLimits}
use Rattle.node_runs.specs.declared.waiting_notes.WaitingNotes.{WaitingNotes}

-- the newest behind one more
newest_pushed : (group : ℕ) (things : List ServerNotice) (thing : ServerNotice) → newest_of group (things ++ thing ∷ []) ≡ cond (group_of thing == group) (Some thing) (newest_of group things)
newest_pushed group things thing = fold_push (λ (newest : Option ServerNotice) (one : ServerNotice). cond (group_of one == group) (Some one) newest) None things thing

-- one more came: it is the newest of its group
pub still_newest : (things : List ServerNotice) (thing : ServerNotice) (old new : WaitingNotes) → IsNewest (group_of thing) thing old new → ((group : ℕ) → newest_at old group ≡ newest_of group things)
    → (group : ℕ) → newest_at new group ≡ newest_of group (things ++ thing ∷ [])
still_newest things thing old new is was group = elim (cases_eq (group_of thing) group) [
  | inl same ↦ subst (λ (g : ℕ). newest_at new g ≡ Some thing) same is.here ∙ sym (newest_pushed group things thing ∙ cond-true (group_of thing == group) (Some thing) (newest_of group things) (eq-eqb (group_of thing) group same))
  | inr not ↦ is.others group not ∙ (was group ∙ sym (newest_pushed group things thing ∙ cond-false (group_of thing == group) (Some thing) (newest_of group things) (ne_eqb (group_of thing) group not)))
]

-- nothing of a group waits exactly where all that came of it was told
pub none_waits : (group : ℕ) (came told : List Count) (limits : NoteLimits) → IsAccount came told limits → sum_of group came < 2 ^ 64 → (waiting_at limits group == 0) ≡ (sum_of group told == sum_of group came)
none_waits group came told limits account few =
    let all = account.exact group few in
    elim (cases_eq (waiting_at limits group) 0) [
      | inl none ↦ eq-eqb (waiting_at limits group) 0 none ∙ sym (eq-eqb (sum_of group told) (sum_of group came) (omega (arith, all, none)))
      | inr some ↦ ne_eqb (waiting_at limits group) 0 some ∙ sym (ne_eqb (sum_of group told) (sum_of group came) (λ same. some (omega (arith, all, same))))
    ]

pub at_once : (group time : ℕ) (came told : List Count) (limits : NoteLimits) (is_told : Bool) → IsAccount came told limits → is_told ≡ (waiting_at limits group == 0 && has_room (filter (is_recent time) told) group)
    → IsAtOnce came told time group is_told
at_once group time came told limits is_told account is = λ few. is ∙ ap (λ (b : Bool). b && has_room (filter (is_recent time) told) group) (none_waits group came told limits account few)

-- what comes at the time that it is leaves it so
pub same_clock : (before kept after : NoteLimits) (now : ℕ) → kept ≡ before → now ≡ kept.clock → after.clock ≡ max kept.clock now → after.clock ≡ before.clock
same_clock before kept after now same is most = let at = ap (λ (l : NoteLimits). l.clock) same in omega (arith, at, is, most)

-- a notice came, step by step
came_one : (thing : ServerNotice) (time : ℕ) (is_told : Bool) (old kept new : WaitingNotes) (group count : ℕ) → group ≡ group_of thing → count ≡ weight_of thing → kept.limits ≡ old.limits → IsNewest group thing old kept → new.newest ≡ kept.newest
    → ((came told : List Count) → IsAccount came told kept.limits → IsAccount (came ++ counted_at time group count ∷ []) (told ++ cond is_told (counted_at time group count ∷ []) []) new.limits)
    → ((came told : List Count) → IsAccount came told kept.limits → is_told ≡ (waiting_at kept.limits group == 0 && has_room (filter (is_recent time) told) group)) → TakesOne time thing is_told old new
came_one thing time is_told old kept new group count same many limits newest stays accounts onces = record {
  holds = λ things came lines holds.
      let before : IsAccount came lines kept.limits = subst (λ (l : NoteLimits). IsAccount came lines l) (sym limits) holds.account in
      record {
        account = subst (λ (n : ℕ). IsAccount (came ++ counted_at time (group_of thing) n ∷ []) (lines ++ cond is_told (counted_at time (group_of thing) n ∷ []) []) new.limits) many
            (subst (λ (g : ℕ). IsAccount (came ++ counted_at time g count ∷ []) (lines ++ cond is_told (counted_at time g count ∷ []) []) new.limits) same (accounts came lines before));
        newest = λ other. ap (λ (l : List (Option ServerNotice)). get_or l other None) stays ∙ still_newest things thing old kept (subst (λ (g : ℕ). IsNewest g thing old kept) same newest) holds.newest other;
      };
  at_once = λ things came lines holds.
      let before : IsAccount came lines kept.limits = subst (λ (l : NoteLimits). IsAccount came lines l) (sym limits) holds.account in
      subst (λ (g : ℕ). IsAtOnce came lines time g is_told) same (at_once group time came lines kept.limits is_told before (onces came lines before));
}

pub takes_one : (thing : ServerNotice) (time : ℕ) (is_told : Bool) (old kept new : WaitingNotes) (group count : ℕ) → time ≡ old.limits.clock → group ≡ group_of thing → count ≡ weight_of thing → kept.limits ≡ old.limits
    → IsNewest group thing old kept → new.newest ≡ kept.newest
    → ((came told : List Count) → IsAccount came told kept.limits → IsAccount (came ++ counted_at time group count ∷ []) (told ++ cond is_told (counted_at time group count ∷ []) []) new.limits)
    → ((came told : List Count) → IsAccount came told kept.limits → is_told ≡ (waiting_at kept.limits group == 0 && has_room (filter (is_recent time) told) group)) → TakesOne old.limits.clock thing is_told old new
takes_one thing time is_told old kept new group count at same many limits newest stays accounts onces =
    subst (λ (t : ℕ). TakesOne t thing is_told old new) at (came_one thing time is_told old kept new group count same many limits newest stays accounts onces)

-- so many came that no notice tells
pub takes_count : (time group count : ℕ) (is_told : Bool) (old new : WaitingNotes) → time ≡ old.limits.clock → new.newest ≡ old.newest
    → ((came told : List Count) → IsAccount came told old.limits → IsAccount (came ++ counted_at time group count ∷ []) (told ++ cond is_told (counted_at time group count ∷ []) []) new.limits)
    → ((came told : List Count) → IsAccount came told old.limits → is_told ≡ (waiting_at old.limits group == 0 && has_room (filter (is_recent time) told) group)) → TakesCount old.limits.clock group count is_told old new
takes_count time group count is_told old new at stays accounts onces = subst (λ (t : ℕ). TakesCount t group count is_told old new) at (record {
  holds = λ things came lines holds. record {
    account = accounts came lines holds.account;
    newest = λ other. ap (λ (l : List (Option ServerNotice)). get_or l other None) stays ∙ holds.newest other;
  };
  at_once = λ things came lines holds. at_once group time came lines old.limits is_told holds.account (onces came lines holds.account);
})

-- a line of what waited was told
pub due_some : (result : Option Count) (old new : WaitingNotes) → new.newest ≡ old.newest → IfSome result (λ one. (came told : List Count) → IsAccount came told old.limits → IsAccount came (told ++ one ∷ []) new.limits)
    → IfSome result (λ one. (things : List ServerNotice) → (came lines : List Count) → Holds things came lines old → Holds things came (lines ++ one ∷ []) new)
due_some (Some one) old new same all = λ things came lines holds. record { account = all came lines holds.account; newest = λ group. ap (λ (l : List (Option ServerNotice)). get_or l group None) same ∙ holds.newest group }
due_some None old new same all = tt

-- the account is whole once what waited was told
pub whole_account : (came told rest : List Count) (limits : NoteLimits) → IsAccount came told limits → ((group : ℕ) → sum_of group rest ≡ waiting_at limits group)
    → ((group : ℕ) → count_by (is_of group) rest ≤ 1) → IsWhole came told rest
whole_account came told rest limits account all few = record {
  all = account.all;
  low = account.low;
  each = account.each;
  exact = λ group less. let is = account.exact group less in let rest_is = all group in omega (arith, is, rest_is);
  few = few;
}
