-- Ballots, actions, deals and commands: what is read is what is written, and what is written is read again.
use Rattle.std.proofs.Common.{◌≡◌, ℕ, zero, suc, ◌+◌, ◌*◌, ◌%◌, ◌^◌, ◌<◌, ◌≤◌, lit≤, true, false, cond, ◌&&◌, ltb, leb, eqb, List, [], ◌∷◌, ◌++◌, length, take, drop, Some, None, refl, sym, ap, subst, ◌∙◌, append_assoc, arith, inl, inr, length-append, length-take}
use Rattle.std.specs.List.{AllByRecursion}
use Rattle.std.proofs.lemmas.Bool.{ltb-false, le-ltb, ltb-true, lt-ltb, leb-true, le-leb, eqb-true, eq-eqb, and_from, and_parts}
use Rattle.std.proofs.lemmas.List.{take-append-drop, take_at, drop_at}
use Rattle.std.proofs.lemmas.Option.{same_Some}
use Rattle.std.proofs.NetLemmas.Options.{cond_none}
use Rattle.card_core.specs.Deal.{player_count}
use Rattle.betting.specs.declared.action.Action.{Action}
use Rattle.betting.specs.declared.action.Action.TheVariants.{Fold, Call, Raise}
use Rattle.slot_log.specs.declared.command.Command.{Command}
use Rattle.slot_log.specs.declared.command.Command.TheVariants.{Deal, Act, Away}
use Rattle.slot_log.specs.Range.{IsAmount}
use Rattle.paxos_wire.specs.declared.limits.TheConstants.{NODES, HANDS, ACTIONS, MOST_CHIPS}
use Rattle.paxos_wire.specs.declared.ballot.Ballot.{Ballot}
use Rattle.paxos_wire.specs.declared.version.Version.{Version}
use Rattle.paxos_wire.specs.declared.version.Version.TheVariants.{Old, New}
use Rattle.paxos_wire.specs.Versions.{nodes_in}
use Rattle.byteorder.specs.Endian.{big_bytes}
use Rattle.paxos_wire.specs.Fits.{IsBallot, AreDealt, IsCommand}
use Rattle.paxos_wire.specs.Spelling.{ballot_text, action_text, deal_text, command_text}
use Rattle.paxos_wire.specs.Reading.{◌>>=◌, when, byte_at, number_at, below_at, ballot_at, action_of, action_at, are_cards, are_distinct, is_count, deal_of, bytes_at, deal_at, dealt_at, acted_at, away_at, command_at}
use Rattle.paxos_wire.proofs.Steps.{IsBytes, IsBytes-drop, bind_some, when_some, then_some, either, Takes, both}
use Rattle.paxos_wire.proofs.Numbers.{byte_text, byte_takes, wide2, wide4, number_takes, number_again, below_takes, below_again}
use Rattle.paxos_wire.proofs.Distinct.{is_distinct, are_distinct-from}
use Rattle.paxos_wire.proofs.Counts.{of_players}

-- ---- ballots

-- a ballot of a node that the version has
pub record IsBallotIn (version : Version) (b : Ballot) : Type 0 where
  pub ballot : IsBallot b
  pub node : b.node < nodes_in version

nodes_most : (version : Version) → nodes_in version ≤ NODES
nodes_most Old = lit≤ tt
nodes_most New = lit≤ tt

pub ballot_takes : (version : Version) (bytes : List ℕ) (x : Ballot × List ℕ) → IsBytes bytes → ballot_at version bytes ≡ Some x → Takes ballot_text (IsBallotIn version) bytes x
unfolding ballot_at
ballot_takes version bytes x fits e =
    let a = bind_some (number_at 4 bytes) (λ round. byte_at round.1 >>= λ node. when (ltb 0 round.0 && ltb node.0 (nodes_in version)) (record { round = round.0; node = node.0 }, node.1)) x e in
    let b = bind_some (byte_at a.0.1) (λ node. when (ltb 0 a.0.0 && ltb node.0 (nodes_in version)) (record { round = a.0.0; node = node.0 }, node.1)) x a.2 in
    let made : Ballot × List ℕ = (record { round = a.0.0; node = b.0.0 }, b.0.1) in
    let g = when_some (ltb 0 a.0.0 && ltb b.0.0 (nodes_in version)) made x b.2 in
    let tests = and_parts (ltb 0 a.0.0) (ltb b.0.0 (nodes_in version)) g.0 in
    let t0 = number_takes 4 wide4 bytes a.0 fits a.1 in
    let t1 = byte_takes a.0.1 b.0 t0.rest b.1 in
    let first : 0 < a.0.0 = ltb-true _ _ tests.0 in
    let last : a.0.0 < 2 ^ 32 = t0.fits in
    let node : b.0.0 < nodes_in version = ltb-true _ _ tests.1 in
    let is : IsBallot made.0 = record { first = omega arith; last = last; node = omega (arith, node, nodes_most version) } in
    subst (λ (y : Ballot × List ℕ). Takes ballot_text (IsBallotIn version) bytes y) g.1
    (record { parts = both bytes (big_bytes 4 a.0.0) a.0.1 (byte_text b.0.0) b.0.1 t0.parts t1.parts; rest = t1.rest; fits = record { ballot = is; node = node } })

pub ballot_again : (version : Version) (b : Ballot) (rest : List ℕ) → IsBallot b → b.node < nodes_in version → ballot_at version (ballot_text b ++ rest) ≡ Some (b, rest)
unfolding ballot_at
ballot_again version b rest fits node =
    let regrouped : ballot_text b ++ rest ≡ big_bytes 4 b.round ++ (b.node ∷ rest) = append_assoc (big_bytes 4 b.round) (b.node ∷ []) rest in
    let above : 0 < b.round = omega (arith, fits.first) in
    ap (ballot_at version) regrouped ∙ rw (number_again 4 b.round (b.node ∷ rest) fits.last, lt-ltb 0 b.round above, lt-ltb b.node (nodes_in version) node) refl

-- ---- actions

pub action_of_is : (kind amount : ℕ) (a : Action) → action_of kind amount ≡ Some a → (kind ∷ big_bytes 4 amount ≡ action_text a) × IsAmount a
unfolding action_of
action_of_is zero amount a e =
    let g = when_some (eqb amount 0) Fold a e in
    let none : amount ≡ 0 = eqb-true _ _ g.0 in
    subst (λ (b : Action). (0 ∷ big_bytes 4 amount ≡ action_text b) × IsAmount b) g.1 (ap (λ (n : ℕ). 0 ∷ big_bytes 4 n) none, tt)
action_of_is (suc zero) amount a e =
    let g = when_some (eqb amount 0) Call a e in
    let none : amount ≡ 0 = eqb-true _ _ g.0 in
    subst (λ (b : Action). (1 ∷ big_bytes 4 amount ≡ action_text b) × IsAmount b) g.1 (ap (λ (n : ℕ). 1 ∷ big_bytes 4 n) none, tt)
action_of_is (suc (suc zero)) amount a e =
    let g = when_some (leb amount MOST_CHIPS) (Raise amount) a e in
    subst (λ (b : Action). (2 ∷ big_bytes 4 amount ≡ action_text b) × IsAmount b) g.1 (refl, leb-true _ _ g.0)
action_of_is (suc (suc (suc kind))) amount a e = absurd cc

pub action_takes : (bytes : List ℕ) (x : Action × List ℕ) → IsBytes bytes → action_at bytes ≡ Some x → Takes action_text IsAmount bytes x
unfolding action_at
action_takes bytes x fits e =
    let a = bind_some (byte_at bytes) (λ kind. number_at 4 kind.1 >>= λ amount. action_of kind.0 amount.0 >>= λ action. Some (action, amount.1)) x e in
    let b = bind_some (number_at 4 a.0.1) (λ amount. action_of a.0.0 amount.0 >>= λ action. Some (action, amount.1)) x a.2 in
    let c = bind_some (action_of a.0.0 b.0.0) (λ action. Some (action, b.0.1)) x b.2 in
    let t0 = byte_takes bytes a.0 fits a.1 in
    let t1 = number_takes 4 wide4 a.0.1 b.0 t0.rest b.1 in
    let is = action_of_is a.0.0 b.0.0 c.0 c.1 in
    subst (λ (y : Action × List ℕ). Takes action_text IsAmount bytes y) (same_Some (c.0, b.0.1) x c.2)
    (record { parts = both bytes (byte_text a.0.0) a.0.1 (big_bytes 4 b.0.0) b.0.1 t0.parts t1.parts ∙ ap (λ (t : List ℕ). t ++ b.0.1) is.0; rest = t1.rest; fits = is.1 })

pub action_again : (a : Action) (rest : List ℕ) → IsAmount a → action_at (action_text a ++ rest) ≡ Some (a, rest)
unfolding action_at action_of
action_again Fold rest fits = rw (number_again 4 0 rest (omega arith)) refl
action_again Call rest fits = rw (number_again 4 0 rest (omega arith)) refl
action_again (Raise amount) rest fits = rw (number_again 4 amount rest (omega arith), le-leb amount MOST_CHIPS fits) refl

-- ---- deals

pub each_card : (cards : List ℕ) → are_cards cards ≡ true → AllByRecursion (λ card. card < 52) cards
each_card [] h = tt
each_card (card ∷ cards) h = let tests = and_parts (ltb card 52) (are_cards cards) h in (ltb-true _ _ tests.0, each_card cards tests.1)

pub cards_pass : (cards : List ℕ) → AllByRecursion (λ card. card < 52) cards → are_cards cards ≡ true
cards_pass [] h = refl
cards_pass (card ∷ cards) h = and_from (ltb card 52) (are_cards cards) (lt-ltb card 52 h.0) (cards_pass cards h.1)

are_dealt : (cards : List ℕ) → is_count (length cards) ≡ true → are_cards cards ≡ true → are_distinct cards ≡ true → AreDealt cards
are_dealt cards count pack distinct =
    let n = of_players (length cards) count in
    record { least = omega (arith, n.least); most = omega (arith, n.most); deal = record { count = n.odd; cards_of_the_pack = each_card cards pack; distinct = is_distinct cards distinct } }

count_passes : (cards : List ℕ) → AreDealt cards → is_count (length cards) ≡ true
count_passes cards dealt =
    let count : length cards ≡ 2 * player_count cards + 5 = dealt.deal.count in
    let least : 9 ≤ length cards = omega (arith, dealt.least, count) in
    let most : length cards ≤ 25 = omega (arith, dealt.most, count) in
    let odd : length cards % 2 ≡ 1 = omega (arith, count) in
    rw (le-leb 9 (length cards) least, le-leb (length cards) 25 most, eq-eqb (length cards % 2) 1 odd) refl

pub deal_takes : (bytes : List ℕ) (x : List ℕ × List ℕ) → IsBytes bytes → deal_at bytes ≡ Some x → Takes deal_text AreDealt bytes x
unfolding deal_at deal_of
deal_takes bytes x fits e =
    let a = bind_some (byte_at bytes) (λ count. cond (is_count count.0) (bytes_at count.0 count.1) None >>= λ cards. deal_of cards.0 >>= λ deal. Some (deal, cards.1)) x e in
    let b = bind_some (cond (is_count a.0.0) (bytes_at a.0.0 a.0.1) None) (λ cards. deal_of cards.0 >>= λ deal. Some (deal, cards.1)) x a.2 in
    let c = bind_some (deal_of b.0.0) (λ deal. Some (deal, b.0.1)) x b.2 in
    let t0 = byte_takes bytes a.0 fits a.1 in
    let counted = then_some (is_count a.0.0) (bytes_at a.0.0 a.0.1) b.0 b.1 in
    let cut = cond_none (ltb (length a.0.1) a.0.0) (Some (take a.0.0 a.0.1, drop a.0.0 a.0.1)) b.0 counted.1 in
    let long : a.0.0 ≤ length a.0.1 = ltb-false _ _ cut.0 in
    let pieces = same_Some (take a.0.0 a.0.1, drop a.0.0 a.0.1) b.0 cut.1 in
    let len : length b.0.0 ≡ a.0.0 = ap (λ (p : List ℕ × List ℕ). length p.0) (sym pieces) ∙ (omega (arith, length-take a.0.0 a.0.1)) in
    let parts : a.0.1 ≡ b.0.0 ++ b.0.1 = sym (take-append-drop a.0.0 a.0.1) ∙ ap (λ (p : List ℕ × List ℕ). p.0 ++ p.1) pieces in
    let rest : IsBytes b.0.1 = subst (λ (p : List ℕ × List ℕ). IsBytes p.1) pieces (IsBytes-drop a.0.0 a.0.1 t0.rest) in
    let g = when_some (are_cards b.0.0 && are_distinct b.0.0) b.0.0 c.0 c.1 in
    let tests = and_parts (are_cards b.0.0) (are_distinct b.0.0) g.0 in
    let count : is_count (length b.0.0) ≡ true = ap is_count len ∙ counted.0 in
    let made : Takes deal_text AreDealt bytes (b.0.0, b.0.1) = record {
      parts = both bytes (byte_text a.0.0) a.0.1 b.0.0 b.0.1 t0.parts parts ∙ ap (λ (n : ℕ). n ∷ (b.0.0 ++ b.0.1)) (sym len);
      rest = rest;
      fits = are_dealt b.0.0 count tests.0 tests.1;
    } in
    subst (λ (y : List ℕ × List ℕ). Takes deal_text AreDealt bytes y) (ap (λ (d : List ℕ). (d, b.0.1)) g.1 ∙ same_Some (c.0, b.0.1) x c.2) made

pub deal_again : (cards rest : List ℕ) → AreDealt cards → deal_at (deal_text cards ++ rest) ≡ Some (cards, rest)
unfolding deal_at deal_of
deal_again cards rest dealt =
    let long : ltb (length (cards ++ rest)) (length cards) ≡ false = le-ltb _ _ (omega (arith, length-append cards rest)) in
    rw (count_passes cards dealt, long, take_at cards rest (length cards) refl, drop_at cards rest (length cards) refl, cards_pass cards dealt.deal.cards_of_the_pack, are_distinct-from cards dealt.deal.distinct) refl

-- ---- commands

pub dealt_takes : (hand : ℕ) (bytes : List ℕ) (x : Command × List ℕ) → IsBytes bytes → dealt_at hand bytes ≡ Some x
    → (cards : List ℕ) × (x.0 ≡ Deal hand cards) × (bytes ≡ deal_text cards ++ x.1) × IsBytes x.1 × AreDealt cards
unfolding dealt_at
dealt_takes hand bytes x fits e =
    let a = bind_some (deal_at bytes) (λ deal. Some (Deal hand deal.0, deal.1)) x e in
    let t = deal_takes bytes a.0 fits a.1 in
    let is = same_Some (Deal hand a.0.0, a.0.1) x a.2 in
    subst (λ (y : Command × List ℕ). (cards : List ℕ) × (y.0 ≡ Deal hand cards) × (bytes ≡ deal_text cards ++ y.1) × IsBytes y.1 × AreDealt cards) is (a.0.0, refl, t.parts, t.rest, t.fits)

pub acted_takes : (hand : ℕ) (bytes : List ℕ) (x : Command × List ℕ) → IsBytes bytes → acted_at hand bytes ≡ Some x
    → (index : ℕ) × (action : Action) × (x.0 ≡ Act hand index action) × (bytes ≡ (big_bytes 2 index ++ action_text action) ++ x.1) × IsBytes x.1 × (index < ACTIONS) × IsAmount action
unfolding acted_at
acted_takes hand bytes x fits e =
    let a = bind_some (below_at 2 ACTIONS bytes) (λ index. action_at index.1 >>= λ action. Some (Act hand index.0 action.0, action.1)) x e in
    let b = bind_some (action_at a.0.1) (λ action. Some (Act hand a.0.0 action.0, action.1)) x a.2 in
    let t0 = below_takes 2 ACTIONS wide2 bytes a.0 fits a.1 in
    let t1 = action_takes a.0.1 b.0 t0.rest b.1 in
    let is = same_Some (Act hand a.0.0 b.0.0, b.0.1) x b.2 in
    subst (λ (y : Command × List ℕ). (index : ℕ) × (action : Action) × (y.0 ≡ Act hand index action) × (bytes ≡ (big_bytes 2 index ++ action_text action) ++ y.1) × IsBytes y.1 × (index < ACTIONS) × IsAmount action) is
    (a.0.0, b.0.0, refl, both bytes (big_bytes 2 a.0.0) a.0.1 (action_text b.0.0) b.0.1 t0.parts t1.parts, t1.rest, t0.fits, t1.fits)

pub away_takes : (hand : ℕ) (bytes : List ℕ) (x : Command × List ℕ) → IsBytes bytes → away_at hand bytes ≡ Some x
    → (index : ℕ) × (x.0 ≡ Away hand index) × (bytes ≡ big_bytes 2 index ++ x.1) × IsBytes x.1 × (index < ACTIONS)
unfolding away_at
away_takes hand bytes x fits e =
    let a = bind_some (below_at 2 ACTIONS bytes) (λ index. Some (Away hand index.0, index.1)) x e in
    let t = below_takes 2 ACTIONS wide2 bytes a.0 fits a.1 in
    let is = same_Some (Away hand a.0.0, a.0.1) x a.2 in
    subst (λ (y : Command × List ℕ). (index : ℕ) × (y.0 ≡ Away hand index) × (bytes ≡ big_bytes 2 index ++ y.1) × IsBytes y.1 × (index < ACTIONS)) is
    (a.0.0, refl, t.parts, t.rest, t.fits)

pub command_takes : (bytes : List ℕ) (x : Command × List ℕ) → IsBytes bytes → command_at bytes ≡ Some x → Takes command_text IsCommand bytes x
unfolding command_at
command_takes bytes x fits e =
    let a = bind_some (byte_at bytes) (λ kind. below_at 4 HANDS kind.1 >>= λ hand. cond (eqb kind.0 1) (dealt_at hand.0 hand.1) (cond (eqb kind.0 2) (acted_at hand.0 hand.1) (cond (eqb kind.0 3) (away_at hand.0 hand.1) None))) x e in
    let b = bind_some (below_at 4 HANDS a.0.1) (λ hand. cond (eqb a.0.0 1) (dealt_at hand.0 hand.1) (cond (eqb a.0.0 2) (acted_at hand.0 hand.1) (cond (eqb a.0.0 3) (away_at hand.0 hand.1) None))) x a.2 in
    let t0 = byte_takes bytes a.0 fits a.1 in
    let t1 = below_takes 4 HANDS wide4 a.0.1 b.0 t0.rest b.1 in
    let front = both bytes (byte_text a.0.0) a.0.1 (big_bytes 4 b.0.0) b.0.1 t0.parts t1.parts in
    elim (either (eqb a.0.0 1) (dealt_at b.0.0 b.0.1) (cond (eqb a.0.0 2) (acted_at b.0.0 b.0.1) (cond (eqb a.0.0 3) (away_at b.0.0 b.0.1) None)) x b.2) [
      | inl (one, read) ↦
          let d = dealt_takes b.0.0 b.0.1 x t1.rest read in
          let k : a.0.0 ≡ 1 = eqb-true _ _ one in
          let whole : bytes ≡ command_text (Deal b.0.0 d.0) ++ x.1 = both bytes (byte_text a.0.0 ++ big_bytes 4 b.0.0) b.0.1 (deal_text d.0) x.1 front d.2 ∙ ap (λ (n : ℕ). n ∷ ((big_bytes 4 b.0.0 ++ deal_text d.0) ++ x.1)) k in
          record { parts = whole ∙ ap (λ (c : Command). command_text c ++ x.1) (sym d.1); rest = d.3; fits = subst IsCommand (sym d.1) (record { numbers = t1.fits; cards = d.4 }) }
      | inr (not_dealt, others) ↦
          elim (either (eqb a.0.0 2) (acted_at b.0.0 b.0.1) (cond (eqb a.0.0 3) (away_at b.0.0 b.0.1) None) x others) [
            | inl (two, read) ↦
                let d = acted_takes b.0.0 b.0.1 x t1.rest read in
                let k : a.0.0 ≡ 2 = eqb-true _ _ two in
                let whole : bytes ≡ command_text (Act b.0.0 d.0 d.1) ++ x.1 = both bytes (byte_text a.0.0 ++ big_bytes 4 b.0.0) b.0.1 (big_bytes 2 d.0 ++ action_text d.1) x.1 front d.3 ∙ ap (λ (n : ℕ). n ∷ ((big_bytes 4 b.0.0 ++ (big_bytes 2 d.0 ++ action_text d.1)) ++ x.1)) k in
                record { parts = whole ∙ ap (λ (c : Command). command_text c ++ x.1) (sym d.2); rest = d.4; fits = subst IsCommand (sym d.2) (record { numbers = (t1.fits, d.5, d.6); cards = tt }) }
            | inr (not_acted, read) ↦
                let s = then_some (eqb a.0.0 3) (away_at b.0.0 b.0.1) x read in
                let d = away_takes b.0.0 b.0.1 x t1.rest s.1 in
                let k : a.0.0 ≡ 3 = eqb-true _ _ s.0 in
                let whole : bytes ≡ command_text (Away b.0.0 d.0) ++ x.1 = both bytes (byte_text a.0.0 ++ big_bytes 4 b.0.0) b.0.1 (big_bytes 2 d.0) x.1 front d.2 ∙ ap (λ (n : ℕ). n ∷ ((big_bytes 4 b.0.0 ++ big_bytes 2 d.0) ++ x.1)) k in
                record { parts = whole ∙ ap (λ (c : Command). command_text c ++ x.1) (sym d.1); rest = d.3; fits = subst IsCommand (sym d.1) (record { numbers = (t1.fits, d.4); cards = tt }) }
          ]
    ]

pub command_again : (c : Command) (rest : List ℕ) → IsCommand c → command_at (command_text c ++ rest) ≡ Some (c, rest)
unfolding command_at dealt_at acted_at away_at
command_again (Deal hand cards) rest fits =
    let regrouped : command_text (Deal hand cards) ++ rest ≡ 1 ∷ (big_bytes 4 hand ++ (deal_text cards ++ rest)) = ap (λ (t : List ℕ). 1 ∷ t) (append_assoc (big_bytes 4 hand) (deal_text cards) rest) in
    ap command_at regrouped ∙ rw (below_again 4 HANDS hand (deal_text cards ++ rest) fits.numbers (omega arith), deal_again cards rest fits.cards) refl
command_again (Act hand index action) rest fits =
    let regrouped : command_text (Act hand index action) ++ rest ≡ 2 ∷ (big_bytes 4 hand ++ (big_bytes 2 index ++ (action_text action ++ rest))) =
    ap (λ (t : List ℕ). 2 ∷ t) (append_assoc (big_bytes 4 hand) (big_bytes 2 index ++ action_text action) rest ∙ ap (λ (t : List ℕ). big_bytes 4 hand ++ t) (append_assoc (big_bytes 2 index) (action_text action) rest)) in
    ap command_at regrouped ∙ rw (below_again 4 HANDS hand (big_bytes 2 index ++ (action_text action ++ rest)) fits.numbers.0 (omega arith), below_again 2 ACTIONS index (action_text action ++ rest) fits.numbers.1 (omega arith), action_again action rest fits.numbers.2) refl
command_again (Away hand index) rest fits =
    let regrouped : command_text (Away hand index) ++ rest ≡ 3 ∷ (big_bytes 4 hand ++ (big_bytes 2 index ++ rest)) = ap (λ (t : List ℕ). 3 ∷ t) (append_assoc (big_bytes 4 hand) (big_bytes 2 index) rest) in
    ap command_at regrouped ∙ rw (below_again 4 HANDS hand (big_bytes 2 index ++ rest) fits.numbers.0 (omega arith), below_again 2 ACTIONS index rest fits.numbers.1 (omega arith)) refl
