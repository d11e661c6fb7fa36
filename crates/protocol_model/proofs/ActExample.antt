-- A run in which a seat says an act, and definitions that the run of three nodes doesn't show.
use Rattle.std.proofs.Common.{◌≡◌, ℕ, ◌≤◌, inl, inr, Bool, true, false, true≢false, ◌==◌, None, Some, List, [], ◌∷◌, refl, ap, sym, ◌∙◌, arith}
use Rattle.paxos_wire.specs.declared.message.Message.TheVariants as frame
use Rattle.slot_log.specs.declared.command.Command.{Command}
use Rattle.slot_log.specs.declared.command.Command.TheVariants.{Deal, Act}
use Rattle.protocol_model.specs.Sets.{In, put}
use Rattle.protocol_model.specs.Messages.{Vote, sender_of, Prepare, Accept, Chosen, Forward, Said}
use Rattle.protocol_model.specs.Frames.{carried}
use Rattle.protocol_model.specs.Stores.{Store, empty_store, promised, voted, Tells, Append}
use Rattle.protocol_model.specs.Stores
use Rattle.protocol_model.specs.Dealers.{Dealer, HasLine}
use Rattle.protocol_model.specs.Nodes.{Node, Knows}
use Rattle.protocol_model.specs.Arrivals.{Arrival, Started, Connected, Came}
use Rattle.protocol_model.specs.Moves
use Rattle.protocol_model.specs.Moves.{Output, nothing, sending, taking, with_store, with_sent, IsAtHand, Move, Chain}
use Rattle.protocol_model.specs.Worlds
use Rattle.protocol_model.specs.Worlds.{World, Run, Reached, new_world}
use Rattle.protocol_model.specs.Laws.{HasOrigin, WasSaid, IsLeft}
use Rattle.protocol_model.proofs.Runs.{after_move, is_after_move}
use Rattle.protocol_model.proofs.Sets.{put_cases}
use Rattle.protocol_model.proofs.Examples.{fresh, no_vote, toy}

abbrev pub is_c : List ℕ → Bool
is_c [] = false
is_c (byte ∷ []) = byte == 99
is_c (byte ∷ next ∷ more) = false

abbrev pub talk : Dealer
talk = record {
  fits = λ before command. true;
  own = λ node command. false;
  line = λ before seat. None;
  log = λ before. [];
  says = λ before seat line command. is_c line;
  orders = λ before command. false;
}

step : (world : World) (out : Output) (node : Node) → Reached talk 1 world → Move talk 1 0 world.ever (world.nodes 0) out node
    → Reached talk 1 (after_move world 0 out node)
step world out node run move = Worlds.more world 0 out node (after_move world 0 out node) run (omega arith) move (is_after_move world 0 out node)

-- the only node starts, seat 1 connects to it and says `c` and a line feed
abbrev connected : World
connected =
    let started = after_move new_world 0 (taking [] (Started 0)) (fresh empty_store 1) in
    after_move started 0 (taking [] (Connected 0 1)) (record (started.nodes 0) { heard = put (started.nodes 0).heard 1 (Some []) })

abbrev hearing : World
hearing = after_move connected 0 (taking [] (Came 0 1 (99 ∷ 10 ∷ []))) (record (connected.nodes 0) { heard = put (connected.nodes 0).heard 1 (Some (99 ∷ 10 ∷ [])) })

run_hearing : Reached talk 1 hearing
run_hearing =
    let started = after_move new_world 0 (taking [] (Started 0)) (fresh empty_store 1) in
    let run : Reached talk 1 started = step new_world (taking [] (Started 0)) (fresh empty_store 1) Worlds.start (Moves.starts empty_store refl (inl refl) refl refl) in
    let connecting : Reached talk 1 connected = step started _ _ run (Moves.connects 1 refl refl refl) in
    step connected _ _ connecting (Moves.hears 1 (99 ∷ 10 ∷ []) refl refl refl)

says_c : HasLine (99 ∷ 10 ∷ []) (99 ∷ [])
says_c = record { before = []; after = []; whole = refl; starts = inl refl; one_line = (λ e. omega (arith, e), tt) }

-- it notes an act, and passes it on
abbrev noted : Command → World
noted act = after_move hearing 0 (sending (Said 0 act)) (with_sent (hearing.nodes 0) (Said 0 act ∷ []))

abbrev forwarded : Command → World
forwarded act = after_move (noted act) 0 (sending (Forward 0 act)) (with_sent ((noted act).nodes 0) (Forward 0 act ∷ []))

pub act_is_said : (action : _)
    → Reached talk 1 (forwarded (Act 0 0 action))
    × HasOrigin talk 1 (forwarded (Act 0 0 action)).ever (forwarded (Act 0 0 action)).came (Act 0 0 action)
    × ((forwarded (Act 0 0 action)).ever ≡ Forward 0 (Act 0 0 action) ∷ Said 0 (Act 0 0 action) ∷ [])
act_is_said action =
    let act : Command = Act 0 0 action in
    let after_note = noted act in
    let after_pass = forwarded act in
    let note : Move talk 1 0 hearing.ever (hearing.nodes 0) (sending (Said 0 act)) (with_sent (hearing.nodes 0) (Said 0 act ∷ []))
    = Moves.notes 1 (99 ∷ 10 ∷ []) [] (99 ∷ []) act refl refl tt says_c refl refl refl in
    let pass : Move talk 1 0 after_note.ever (after_note.nodes 0) (sending (Forward 0 act)) (with_sent (after_note.nodes 0) (Forward 0 act ∷ []))
    = Moves.forwards act refl (inl refl) refl refl in (
      step after_note _ _ (step hearing _ _ run_hearing note) pass,
      inr (inl (let said : WasSaid talk 1 after_pass.ever after_pass.came act = record {
        sent = [];
        earlier = hearing.came;
        moment = record {
          sent_later = after_pass.ever;
          all_sent = refl;
          came_later = [];
          all_came = refl;
          no_sooner = λ arrival here. at_once arrival here;
          no_later = λ arrival here. absurd here;
        };
        node = 0;
        is_node = omega arith;
        seat = 1;
        bytes = 99 ∷ 10 ∷ [];
        connected = refl;
        line = 99 ∷ [];
        heard = says_c;
        before = [];
        chosen = tt;
        says = refl;
      } in said)),
      refl,
    )
  where
    -- all that came came before anything was sent
    at_once : (arrival : Arrival) → In arrival hearing.came → arrival.sent ≤ 0
    at_once arrival (inl e) = omega (arith, ap (λ (a : Arrival). a.sent) e)
    at_once arrival (inr (inl e)) = omega (arith, ap (λ (a : Arrival). a.sent) e)
    at_once arrival (inr (inr (inl e))) = omega (arith, ap (λ (a : Arrival). a.sent) e)
    at_once arrival (inr (inr (inr none))) = absurd none

-- a frame says what its sender says; a Prepare and an Accept are their ballot's node's
abbrev deal : Command
deal = Deal 1 []

carries : carried 2 (frame.Chosen 5 deal) ≡ Chosen 2 5 deal ∷ []
carries = refl

carries_own : carried 2 (frame.Accept (record { round = 1; node = 2 }) 5 (deal ∷ [])) ≡ Accept (record { round = 1; node = 2 }) 5 deal ∷ []
carries_own = refl

sends : sender_of (Chosen 2 5 deal) ≡ 2
sends = refl

begins : sender_of (Prepare (record { round = 7; node = 1 }) 5) ≡ 1
begins = refl

-- a command is at hand that was passed on to the node, that it noted itself, or that it owns
passed_on : IsAtHand talk 1 (record (fresh empty_store 1) { has = Forward 0 deal ∷ [] }) deal
passed_on = inr (inr (0, inl refl))

noted_here : IsAtHand talk 1 (with_sent (fresh empty_store 1) (Said 1 deal ∷ [])) deal
noted_here = inr (inl (inl refl))

its_own : IsAtHand toy 0 (fresh empty_store 1) deal
its_own = inl refl

-- what another node noted or owns isn't, nor is anything of a node to which nothing was said
noted_elsewhere : IsAtHand talk 1 (with_sent (fresh empty_store 1) (Said 0 deal ∷ [])) deal → ⊥
noted_elsewhere (inl e) = true≢false (sym e)
noted_elsewhere (inr (inl (inl e))) = omega (arith, ap sender_of e)
noted_elsewhere (inr (inl (inr none))) = none
noted_elsewhere (inr (inr passed)) = passed.1

owned_elsewhere : IsAtHand toy 1 (fresh empty_store 1) deal → ⊥
owned_elsewhere (inl e) = true≢false (sym e)
owned_elsewhere (inr (inl none)) = none
owned_elsewhere (inr (inr passed)) = passed.1

nothing_at_hand : IsAtHand talk 1 (fresh empty_store 1) deal → ⊥
nothing_at_hand (inl e) = true≢false (sym e)
nothing_at_hand (inr (inl none)) = none
nothing_at_hand (inr (inr passed)) = passed.1

-- the command at slot 0 is the last of the list
knows : Knows ((1, deal) ∷ (0, Deal 0 []) ∷ []) (deal ∷ Deal 0 [] ∷ [])
knows = (inl refl, (inr (inl refl), tt))

not_with_a_gap : Knows ((1, deal) ∷ []) (deal ∷ Deal 0 [] ∷ []) → ⊥
not_with_a_gap knows = elim knows.1.0 [ inl e ↦ omega (arith, ap (λ p. p.0) e) | inr none ↦ none ]

-- what was accepted is to be told
abbrev vote : Vote
vote = record { ballot = record { round = 1; node = 0 }; command = deal }

not_silent : Tells (voted empty_store 3 vote) 0 [] → ⊥
not_silent tells = tells.all 3 vote (omega arith, omega arith) refl

-- outside of the 64 slots nothing is
silent_past : Tells (voted empty_store 64 vote) 0 []
silent_past = record { all = λ slot v covers is. absurd (not_there slot v covers.1 is); only = λ entry here. absurd here }
  where
    not_there : (slot : ℕ) (v : Vote) → slot ≤ 63 → put empty_store.votes 64 (Some vote) slot ≡ Some v → ⊥
    not_there slot v le is = elim (put_cases empty_store.votes 64 (Some vote) slot) [
      | inl here ↦ omega (arith, here.0)
      | inr none ↦ no_vote v (sym none ∙ is)
    ]

-- an append that was begun may store a vote only for a proposal that the node has
begun_vote : Append 1 (Accept (record { round = 1; node = 0 }) 3 deal ∷ []) empty_store (voted empty_store 3 vote)
begun_vote =
    Stores.moved empty_store _ (Stores.unchanged _ refl) (Stores.vote (record { round = 1; node = 0 }) 3 deal (inl refl) (inl (omega arith)) refl)

-- so a node that stops may leave its store as it was, or with that vote
left_without : IsLeft 1 (record (fresh empty_store 1) { has = Accept (record { round = 1; node = 0 }) 3 deal ∷ [] }) empty_store
left_without = inl (refl, Stores.unchanged _ refl)

left_with : IsLeft 1 (record (fresh empty_store 1) { has = Accept (record { round = 1; node = 0 }) 3 deal ∷ [] }) (voted empty_store 3 vote)
left_with = inl (refl, begun_vote)
