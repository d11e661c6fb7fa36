-- What a process has to tell of its peers stays so.
use Rattle.std.proofs.Common.{◌≡◌, List, [], ◌∷◌, ◌++◌, sym, ap, subst, ◌∙◌, append_assoc, append-nil}
use Rattle.std.proofs.Math.Logic.{∥∥₁_map}
use Rattle.std.specs.Prelude.{Option, Some, None, IfSome}
use Rattle.node_wires.specs.Passages.{Passage}
use Rattle.node_wires.specs.declared.passages.Passages.{Passages}
use Rattle.node_links.specs.declared.own.Own.{Own}
use Rattle.node_peers.specs.declared.notice.Notice.{Notice}
use Rattle.node_peers.specs.declared.notice.Notice.TheVariants as notices
use Rattle.node_peers.specs.declared.peers.Peers.{Peers}
use Rattle.node_peers.specs.Hearing.{IsTold, AreTold}
use Rattle.node_peers.specs.Adding.{Adds}
use Rattle.node_peers.specs.Peering.{own_of, passed_of, Grew, Keeps, Stays}
use Rattle.node_service.specs.declared.server_notice.ServerNotice.{ServerNotice}
use Rattle.node_service.specs.Company.{joined_by, joined_in, IsShown, AreShown, Hears, HearsOn}

-- ---- lists of what was told

told_both : (own : Own) (lines : List Passage) (xs ys : List Notice) → AreTold own lines xs → AreTold own lines ys → AreTold own lines (xs ++ ys)
told_both own lines [] ys are others = others
told_both own lines (x ∷ xs) ys are others = (are.0, told_both own lines xs ys are.1 others)

told_front : (own : Own) (lines : List Passage) (xs ys : List Notice) → AreTold own lines (xs ++ ys) → AreTold own lines xs
told_front own lines [] ys are = tt
told_front own lines (x ∷ xs) ys are = (are.0, told_front own lines xs ys are.1)

told_rest : (own : Own) (lines : List Passage) (xs ys : List Notice) → AreTold own lines (xs ++ ys) → AreTold own lines ys
told_rest own lines [] ys are = are
told_rest own lines (x ∷ xs) ys are = told_rest own lines xs ys are.1

joined_more : (told : List ServerNotice) (thing : ServerNotice) → joined_in (told ++ thing ∷ []) ≡ joined_in told ++ joined_by thing
joined_more [] thing = append-nil (joined_by thing)
joined_more (x ∷ told) thing = ap (λ (m : List Notice). joined_by x ++ m) (joined_more told thing) ∙ sym (append_assoc (joined_by x) (joined_in told) (joined_by thing))

-- ---- what is to be told

pub one_shown : (own : Own) (lines : List Passage) (told : List ServerNotice) (thing : ServerNotice) → AreShown own lines told → IsShown own lines thing → AreShown own lines (told ++ thing ∷ [])
one_shown own lines told thing are is =
    subst (λ (m : List Notice). AreTold own lines m) (sym (joined_more told thing)) (told_both own lines (joined_in told) (joined_by thing) are is)

pub first_shown : (own : Own) (lines : List Passage) (thing : ServerNotice) (told all : List ServerNotice) → all ≡ thing ∷ told → AreShown own lines all → IsShown own lines thing
first_shown own lines thing told all is are =
    told_front own lines (joined_by thing) (joined_in told) (subst (λ (m : List ServerNotice). AreShown own lines m) is are)

pub rest_shown : (own : Own) (lines : List Passage) (thing : ServerNotice) (told all : List ServerNotice) → all ≡ thing ∷ told → AreShown own lines all → AreShown own lines told
rest_shown own lines thing told all is are =
    told_rest own lines (joined_by thing) (joined_in told) (subst (λ (m : List ServerNotice). AreShown own lines m) is are)

-- ---- once more has passed

opened_on : (own : Own) (lines more : List Passage) (notice : Notice) → IsTold own lines notice → IsTold own (lines ++ more) notice
opened_on own lines more (notices.Frame from frame) told =
    ∥∥₁_map told (λ t. record {
      place = t.place;
      before = t.before;
      since = t.since ++ more;
      passed_is = ap (λ (ps : List Passage). ps ++ more) t.passed_is ∙ append_assoc t.before t.since more;
      says = t.says;
    })
opened_on own lines more (notices.Joined peer life) told =
    ∥∥₁_map told (λ t. record {
      hello = t.hello;
      from_is = t.from_is;
      life_is = t.life_is;
      opened = record {
        place = t.opened.place;
        before = t.opened.before;
        since = t.opened.since ++ more;
        passed_is = ap (λ (ps : List Passage). ps ++ more) t.opened.passed_is ∙ append_assoc t.opened.before t.opened.since more;
        opens = t.opened.opens;
      };
    })
opened_on own lines more (notices.Gone peer) told = tt
opened_on own lines more (notices.Refused peer fault source) told = tt
opened_on own lines more (notices.Strangers peer count fault) told = tt
opened_on own lines more (notices.Settings peer settings) told = tt
opened_on own lines more (notices.Unreached peer refuses) told = tt

told_on : (own : Own) (lines more : List Passage) (told : List Notice) → AreTold own lines told → AreTold own (lines ++ more) told
told_on own lines more [] are = tt
told_on own lines more (notice ∷ told) are = (opened_on own lines more notice are.0, told_on own lines more told are.1)

pub shown_on : (own_old own_new : Own) (old new : List Passage) (told : List ServerNotice) → Hears own_old own_new old new → AreShown own_old old told → AreShown own_new new told
shown_on own_old own_new old new told hears are =
    subst (λ (o : Own). AreShown o new told) (sym hears.own)
    (subst (λ (m : List Passage). AreShown own_old m told) (sym hears.lines) (told_on own_old old hears.more (joined_in told) are))

-- ---- peers

pub hears_none : (own_old own_new : Own) (old new : List Passage) → own_new ≡ own_old → new ≡ old → Hears own_old own_new old new
hears_none own_old own_new old new own lines = record { own = own; more = []; lines = lines ∙ sym (append-nil old) }

pub hears_on : (own_a own_b own_c : Own) (a b c : List Passage) → Hears own_a own_b a b → Hears own_b own_c b c → Hears own_a own_c a c
hears_on own_a own_b own_c a b c one two = record {
  own = two.own ∙ one.own;
  more = one.more ++ two.more;
  lines = two.lines ∙ (ap (λ (m : List Passage). m ++ two.more) one.lines ∙ append_assoc a one.more two.more);
}

pub heard_on : (one two three : Peers) → HearsOn one two → HearsOn two three → HearsOn one three
heard_on one two three first then_on = hears_on (own_of one) (own_of two) (own_of three) (passed_of one) (passed_of two) (passed_of three) first then_on

pub heard_keeping : (old new : Peers) → Keeps old new → HearsOn old new
heard_keeping old new keeps = hears_none (own_of old) (own_of new) (passed_of old) (passed_of new) keeps.0 (ap (λ (p : Passages). p.items) keeps.1)

keeps_still : (old new : Peers) → Stays old new → Keeps old new
keeps_still old new stays = (stays.0, stays.1.0)

pub heard_still : (old new : Peers) → Stays old new → HearsOn old new
heard_still old new stays = heard_keeping old new (keeps_still old new stays)

pub heard_more : (old new : Peers) (wired_old wired_new : List Passage) → Grew old new wired_old wired_new → HearsOn old new
heard_more old new wired_old wired_new grew = record { own = grew.0; more = grew.1.0.more; lines = grew.1.0.put_down }

pub heard_later : (old then_is new : Peers) (wired_old wired_new : List Passage) → Stays old then_is → Grew then_is new wired_old wired_new → HearsOn old new
heard_later old then_is new wired_old wired_new stays grew =
    heard_on old then_is new (heard_still old then_is stays) (heard_more then_is new wired_old wired_new grew)

-- ---- what is to be told of them then

pub shown_keeping : (old new : Peers) (told : List ServerNotice) → Keeps old new → AreShown (own_of old) (passed_of old) told → AreShown (own_of new) (passed_of new) told
shown_keeping old new told keeps are = shown_on (own_of old) (own_of new) (passed_of old) (passed_of new) told (heard_keeping old new keeps) are

pub shown_still : (old new : Peers) (told : List ServerNotice) → Stays old new → AreShown (own_of old) (passed_of old) told → AreShown (own_of new) (passed_of new) told
shown_still old new told stays are = shown_keeping old new told (keeps_still old new stays) are

pub shown_more : (old new : Peers) (wired_old wired_new : List Passage) (told : List ServerNotice) → Grew old new wired_old wired_new → AreShown (own_of old) (passed_of old) told
    → AreShown (own_of new) (passed_of new) told
shown_more old new wired_old wired_new told grew are =
    shown_on (own_of old) (own_of new) (passed_of old) (passed_of new) told (heard_more old new wired_old wired_new grew) are

pub shown_later : (old then_is new : Peers) (wired_old wired_new : List Passage) (told : List ServerNotice) → Stays old then_is → Grew then_is new wired_old wired_new
    → AreShown (own_of old) (passed_of old) told → AreShown (own_of new) (passed_of new) told
shown_later old then_is new wired_old wired_new told stays grew are =
    shown_on (own_of old) (own_of new) (passed_of old) (passed_of new) told (heard_later old then_is new wired_old wired_new stays grew) are

one_keeping : (old new : Peers) (notice : Notice) → Keeps old new → IsTold (own_of old) (passed_of old) notice → IsTold (own_of new) (passed_of new) notice
one_keeping old new notice keeps is =
    subst (λ (o : Own). IsTold o (passed_of new) notice) (sym keeps.0)
    (subst (λ (p : Passages). IsTold (own_of old) p.items notice) (sym keeps.1) is)

pub told_keeping : (old new : Peers) (notice : Option Notice) → Keeps old new → IfSome notice (λ n. IsTold (own_of old) (passed_of old) n) → IfSome notice (λ n. IsTold (own_of new) (passed_of new) n)
told_keeping old new None keeps is = tt
told_keeping old new (Some notice) keeps is = one_keeping old new notice keeps is

-- ---- what passes over their lines

pub grew_later : (old then_is new : Peers) (wired_old wired_new : List Passage) → Stays old then_is → Grew then_is new wired_old wired_new → Grew old new wired_old wired_new
grew_later old then_is new wired_old wired_new stays grew = (
  grew.0 ∙ stays.0,
  (
    subst (λ (p : Passages). Adds p.items (passed_of new) wired_old wired_new) stays.1.0 grew.1.0,
    (grew.1.1.0 ∙ stays.1.1.0, grew.1.1.1 ∙ stays.1.1.1),
  ),
)
