-- When a command was said.
use Rattle.std.proofs.Common.{◌≡◌, ℕ, ◌<◌, ◌≤◌, ◌⊎◌, inl, inr, true, refl, Some, List, [], ◌∷◌, ◌++◌, length, ap, sym, ◌∙◌, subst, append_assoc, arith, length-append}
use Rattle.slot_log.specs.declared.command.Command.{Command}
use Rattle.protocol_model.specs.Sets.{In}
use Rattle.paxos_wire.specs.declared.ballot.Ballot.{Ballot}
use Rattle.paxos_wire.specs.declared.entry.Entry.{Entry}
use Rattle.protocol_model.specs.Messages.{Message, Prepare, Promise, Refuse, Accept, Accepted, Chosen, Ask, Forward, Said}
use Rattle.protocol_model.specs.Dealers.{Dealer, HasLine}
use Rattle.protocol_model.specs.Nodes.{Node, Knows}
use Rattle.protocol_model.specs.Arrivals.{Arrival, Ordered}
use Rattle.protocol_model.specs.Moves
use Rattle.protocol_model.specs.Moves.{Output, Move}
use Rattle.protocol_model.specs.Worlds
use Rattle.protocol_model.specs.Worlds.{World, IsAfter, Run, Reached}
use Rattle.protocol_model.specs.Laws.{IsMoment, WasSaid, WasOrdered}
use Rattle.protocol_model.proofs.Sets.{in_split}
use Rattle.protocol_model.proofs.Hearing.{world_hears, world_in_order, none_later, taken_now}
use Rattle.protocol_model.proofs.Moving.{knows_chosen}
use Rattle.protocol_model.proofs.Runs.{world_facts}

-- the node's bytes of a seat hold a line that says the command
record Heard (dealer : Dealer) (node : Node) (act : Command) : Type 0 where
  seat : ℕ
  before : List Command
  knows : Knows node.known before
  bytes : List ℕ
  connected : node.heard seat ≡ Some bytes
  line : List ℕ
  heard : HasLine bytes line
  says : dealer.says before seat line act ≡ true

-- an order comes that means the command
record IsOrdered (dealer : Dealer) (i : ℕ) (ever : List Message) (node : Node) (out : Output) (act : Command) : Type 0 where
  before : List Command
  knows : Knows node.known before
  orders : dealer.orders before act ≡ true
  comes : out.came ≡ (record { event = Ordered i (length before); sent = length ever }) ∷ []

-- of one message that is no note, none is a note
no_note : (sender : ℕ) (act : Command) (message : Message) (out : Output) → out.sent ≡ message ∷ [] → (Said sender act ≡ message → ⊥)
    → In (Said sender act) out.sent → ⊥
no_note sender act message out is other here =
    elim (let h : In (Said sender act) (message ∷ []) = subst (In (Said sender act)) is here in h) [ inl e ↦ other e | inr none ↦ none ]

none_sent : (message : Message) (out : Output) → out.sent ≡ [] → In message out.sent → ⊥
none_sent message out is here = subst (In message) is here

same_act : (sender i : ℕ) (act said : Command) → Said sender act ≡ Said i said → act ≡ said
same_act sender i act said e = cc

not_promise : (sender : ℕ) (act : Command) (i : ℕ) (ballot : Ballot) (slot : ℕ) (told : List Entry) → Said sender act ≡ Promise i ballot slot told → ⊥
not_promise sender act i ballot slot told e = cc

not_prepare : (sender : ℕ) (act : Command) (ballot : Ballot) (slot : ℕ) → Said sender act ≡ Prepare ballot slot → ⊥
not_prepare sender act ballot slot e = cc

not_accept : (sender : ℕ) (act : Command) (ballot : Ballot) (slot : ℕ) (command : Command) → Said sender act ≡ Accept ballot slot command → ⊥
not_accept sender act ballot slot command e = cc

not_accepted : (sender : ℕ) (act : Command) (i : ℕ) (ballot : Ballot) (slot : ℕ) (command : Command) → Said sender act ≡ Accepted i ballot slot command → ⊥
not_accepted sender act i ballot slot command e = cc

not_refuse : (sender : ℕ) (act : Command) (i : ℕ) (ballot : Ballot) (slot : ℕ) (greater : Ballot) → Said sender act ≡ Refuse i ballot slot greater → ⊥
not_refuse sender act i ballot slot greater e = cc

not_chosen : (sender : ℕ) (act : Command) (i slot : ℕ) (command : Command) → Said sender act ≡ Chosen i slot command → ⊥
not_chosen sender act i slot command e = cc

not_ask : (sender : ℕ) (act : Command) (i slot : ℕ) → Said sender act ≡ Ask i slot → ⊥
not_ask sender act i slot e = cc

not_forward : (sender : ℕ) (act : Command) (i : ℕ) (said : Command) → Said sender act ≡ Forward i said → ⊥
not_forward sender act i said e = cc

move_says : (dealer : Dealer) (n i : ℕ) (ever : List Message) (old : Node) (out : Output) (new : Node) (sender : ℕ) (act : Command)
    → Move dealer n i ever old out new → In (Said sender act) out.sent → Heard dealer old act ⊎ IsOrdered dealer i ever old out act
move_says dealer n i ever old out new sender act (Moves.gets message up there eo en) here =
    absurd (none_sent _ out (ap (λ o. o.sent) eo) here)
move_says dealer n i ever old out new sender act (Moves.hears s bytes up eo en) here =
    absurd (none_sent _ out (ap (λ o. o.sent) eo) here)
move_says dealer n i ever old out new sender act (Moves.connects s up eo en) here =
    absurd (none_sent _ out (ap (λ o. o.sent) eo) here)
move_says dealer n i ever old out new sender act (Moves.drops s up eo en) here =
    absurd (none_sent _ out (ap (λ o. o.sent) eo) here)
move_says dealer n i ever old out new sender act (Moves.closes s up eo en) here =
    absurd (none_sent _ out (ap (λ o. o.sent) eo) here)
move_says dealer n i ever old out new sender act (Moves.notes s bytes before line said up connected knows heard says eo en) here =
    elim (let h : In (Said sender act) (Said i said ∷ []) = subst (In (Said sender act)) (ap (λ o. o.sent) eo) here in h) [
      | inl e ↦ inl (record {
        seat = s;
        before = before;
        knows = knows;
        bytes = bytes;
        connected = connected;
        line = line;
        heard = heard;
        says = subst (λ c. dealer.says before s line c ≡ true) (sym (same_act sender i act said e)) says;
      })
      | inr none ↦ absurd none
    ]
move_says dealer n i ever old out new sender act (Moves.ordered before said up knows hole orders eo en) here =
    elim (let h : In (Said sender act) (Said i said ∷ []) = subst (In (Said sender act)) (ap (λ o. o.sent) eo) here in h) [
      | inl e ↦ inr (record {
        before = before;
        knows = knows;
        orders = subst (λ c. dealer.orders before c ≡ true) (sym (same_act sender i act said e)) orders;
        comes = ap (λ o. o.came) eo;
      })
      | inr none ↦ absurd none
    ]
move_says dealer n i ever old out new sender act (Moves.begins ballot slot told up own below tells eo en) here =
    elim (let h : In (Said sender act) (Promise i ballot slot told ∷ Prepare ballot slot ∷ []) = subst (In (Said sender act)) (ap (λ o. o.sent) eo) here in h) [
      | inl e ↦ absurd (not_promise sender act i ballot slot told e)
      | inr (inl e) ↦ absurd (not_prepare sender act ballot slot e)
      | inr (inr none) ↦ absurd none
    ]
move_says dealer n i ever old out new sender act (Moves.promises ballot slot told up there below tells eo en) here =
    absurd (no_note sender act _ out (ap (λ o. o.sent) eo) (not_promise sender act i ballot slot told) here)
move_says dealer n i ever old out new sender act (Moves.proposes ballot first slot command up prepared none own may eo en) here =
    absurd (no_note sender act _ out (ap (λ o. o.sent) eo) (not_accept sender act ballot slot command) here)
move_says dealer n i ever old out new sender act (Moves.accepts ballot slot command up there at_most eo en) here =
    absurd (no_note sender act _ out (ap (λ o. o.sent) eo) (not_accepted sender act i ballot slot command) here)
move_says dealer n i ever old out new sender act (Moves.repeats ballot slot command up stored at_most eo en) here =
    absurd (no_note sender act _ out (ap (λ o. o.sent) eo) (not_accepted sender act i ballot slot command) here)
move_says dealer n i ever old out new sender act (Moves.refuses ballot slot greater up eo en) here =
    absurd (no_note sender act _ out (ap (λ o. o.sent) eo) (not_refuse sender act i ballot slot greater) here)
move_says dealer n i ever old out new sender act (Moves.learns slot command up chosen eo en) here =
    absurd (none_sent _ out (ap (λ o. o.sent) eo) here)
move_says dealer n i ever old out new sender act (Moves.believes from slot command up there eo en) here =
    absurd (none_sent _ out (ap (λ o. o.sent) eo) here)
move_says dealer n i ever old out new sender act (Moves.tells slot command up knows eo en) here =
    absurd (no_note sender act _ out (ap (λ o. o.sent) eo) (not_chosen sender act i slot command) here)
move_says dealer n i ever old out new sender act (Moves.asks slot up eo en) here =
    absurd (no_note sender act _ out (ap (λ o. o.sent) eo) (not_ask sender act i slot) here)
move_says dealer n i ever old out new sender act (Moves.forwards said up noted eo en) here =
    absurd (no_note sender act _ out (ap (λ o. o.sent) eo) (not_forward sender act i said) here)
move_says dealer n i ever old out new sender act (Moves.shows commands reader text up knows further is eo en) here =
    absurd (none_sent _ out (ap (λ o. o.sent) eo) here)
move_says dealer n i ever old out new sender act (Moves.stops begun up append eo en) here =
    absurd (none_sent _ out (ap (λ o. o.sent) eo) here)
move_says dealer n i ever old out new sender act (Moves.starts store down found eo en) here =
    absurd (none_sent _ out (ap (λ o. o.sent) eo) here)

-- the moment of a world of the run before its last move
now : (dealer : Dealer) (n : ℕ) (world : World) (i : ℕ) (out : Output) (node : Node) (next : World) → Reached dealer n world
    → Move dealer n i world.ever (world.nodes i) out node → IsAfter world i out node next → IsMoment next.ever next.came world.ever world.came
now dealer n world i out node next run move after = record {
  sent_later = out.sent;
  all_sent = after.ever;
  came_later = out.came;
  all_came = after.came;
  no_sooner = none_later world.came (length world.ever) (world_in_order dealer n world run);
  no_later = λ arrival here. let is = taken_now dealer n i world.ever (world.nodes i) out node arrival move here in omega (arith, is);
}

-- a moment stays one when more is sent and comes
stays : (dealer : Dealer) (n : ℕ) (world : World) (i : ℕ) (out : Output) (node : Node) (next : World) (sent : List Message) (earlier : List Arrival)
    → Move dealer n i world.ever (world.nodes i) out node → IsAfter world i out node next
    → IsMoment world.ever world.came sent earlier → IsMoment next.ever next.came sent earlier
stays dealer n world i out node next sent earlier move after moment = record {
  sent_later = out.sent ++ moment.sent_later;
  all_sent = after.ever ∙ (ap (λ xs. out.sent ++ xs) moment.all_sent ∙ sym (append_assoc out.sent moment.sent_later sent));
  came_later = out.came ++ moment.came_later;
  all_came = after.came ∙ (ap (λ xs. out.came ++ xs) moment.all_came ∙ sym (append_assoc out.came moment.came_later earlier));
  no_sooner = moment.no_sooner;
  no_later = λ arrival here. elim (in_split out.came moment.came_later arrival here) [
    | inl new ↦
        let is = taken_now dealer n i world.ever (world.nodes i) out node arrival move new in
        let all = ap length moment.all_sent in
        omega (arith, is, all, length-append moment.sent_later sent)
    | inr old ↦ moment.no_later arrival old
  ];
}

-- none of an order and what came before it came when more had been sent
not_sooner : (i front sent : ℕ) (came : List Arrival) → ((arrival : Arrival) → In arrival came → arrival.sent ≤ sent)
    → (arrival : Arrival) → In arrival ((record { event = Ordered i front; sent = sent }) ∷ came) → arrival.sent ≤ sent
not_sooner i front sent came before arrival (inl e) = let is : arrival.sent ≡ sent = ap (λ (a : Arrival). a.sent) e in omega (arith, is)
not_sooner i front sent came before arrival (inr here) = before arrival here

-- the moment of a world of the run, at which the order comes of its last move
at_order : (dealer : Dealer) (n : ℕ) (world : World) (i front : ℕ) (out : Output) (node : Node) (next : World) → Reached dealer n world
    → IsAfter world i out node next → out.came ≡ (record { event = Ordered i front; sent = length world.ever }) ∷ []
    → IsMoment next.ever next.came world.ever ((record { event = Ordered i front; sent = length world.ever }) ∷ world.came)
at_order dealer n world i front out node next run after comes = record {
  sent_later = out.sent;
  all_sent = after.ever;
  came_later = [];
  all_came = after.came ∙ ap (λ xs. xs ++ world.came) comes;
  no_sooner = not_sooner i front (length world.ever) world.came (none_later world.came (length world.ever) (world_in_order dealer n world run));
  no_later = λ arrival here. absurd here;
}

-- a command that was said, or ordered
abbrev WasGiven : Dealer → ℕ → List Message → List Arrival → Command → Type 0
WasGiven dealer n ever came act = WasSaid dealer n ever came act ⊎ WasOrdered dealer n ever came act

given_now : (dealer : Dealer) (n : ℕ) (between : World) (i : ℕ) (out : Output) (node : Node) (end : World) (act : Command) → Reached dealer n between → i < n
    → Move dealer n i between.ever (between.nodes i) out node → IsAfter between i out node end
    → Heard dealer (between.nodes i) act ⊎ IsOrdered dealer i between.ever (between.nodes i) out act → WasGiven dealer n end.ever end.came act
given_now dealer n between i out node end act run within move after (inl heard) = inl (record {
  sent = between.ever;
  earlier = between.came;
  moment = now dealer n between i out node end run move after;
  node = i;
  is_node = within;
  seat = heard.seat;
  bytes = heard.bytes;
  connected = sym (world_hears dealer n between i heard.seat run) ∙ heard.connected;
  line = heard.line;
  heard = heard.heard;
  before = heard.before;
  chosen = knows_chosen n between.ever (between.nodes i).known heard.before
      (let facts = world_facts dealer n between run in let mine = facts.nodes i in mine.known) heard.knows;
  says = heard.says;
})
given_now dealer n between i out node end act run within move after (inr order) = inr (record {
  sent = between.ever;
  earlier = (record { event = Ordered i (length order.before); sent = length between.ever }) ∷ between.came;
  moment = at_order dealer n between i (length order.before) out node end run after order.comes;
  node = i;
  is_node = within;
  older = between.came;
  newest = refl;
  before = order.before;
  chosen = knows_chosen n between.ever (between.nodes i).known order.before
      (let facts = world_facts dealer n between run in let mine = facts.nodes i in mine.known) order.knows;
  orders = order.orders;
})

given_before : (dealer : Dealer) (n : ℕ) (between : World) (i : ℕ) (out : Output) (node : Node) (end : World) (act : Command)
    → Move dealer n i between.ever (between.nodes i) out node → IsAfter between i out node end
    → WasGiven dealer n between.ever between.came act → WasGiven dealer n end.ever end.came act
given_before dealer n between i out node end act move after (inl said) = inl (record {
  sent = said.sent;
  earlier = said.earlier;
  moment = stays dealer n between i out node end said.sent said.earlier move after said.moment;
  node = said.node;
  is_node = said.is_node;
  seat = said.seat;
  bytes = said.bytes;
  connected = said.connected;
  line = said.line;
  heard = said.heard;
  before = said.before;
  chosen = said.chosen;
  says = said.says;
})
given_before dealer n between i out node end act move after (inr order) = inr (record {
  sent = order.sent;
  earlier = order.earlier;
  moment = stays dealer n between i out node end order.sent order.earlier move after order.moment;
  node = order.node;
  is_node = order.is_node;
  older = order.older;
  newest = order.newest;
  before = order.before;
  chosen = order.chosen;
  orders = order.orders;
})

-- each noted command was said or ordered at some moment of the run
pub was_given : (dealer : Dealer) (n : ℕ) (world : World) (sender : ℕ) (act : Command) → Reached dealer n world
    → In (Said sender act) world.ever → WasGiven dealer n world.ever world.came act
was_given dealer n world sender act Worlds.start here = absurd here
was_given dealer n world sender act (Worlds.more between i out node end run within move after) here =
    elim (in_split out.sent between.ever (Said sender act) (subst (In (Said sender act)) after.ever here)) [
      | inl noted ↦ given_now dealer n between i out node end act run within move after (move_says dealer n i between.ever (between.nodes i) out node sender act move noted)
      | inr before ↦ given_before dealer n between i out node end act move after (was_given dealer n between sender act run before)
    ]
