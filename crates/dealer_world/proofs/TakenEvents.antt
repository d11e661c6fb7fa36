-- Events of a way that met no want and no failed disk are calls by the rules, of their kind.
use Rattle.std.proofs.Common.{sym, subst}
use Rattle.promise_store.specs.declared.disk.Disk.{Ghosts}
use Rattle.node_rules.specs.Calls.{Call}
use Rattle.dealer_node.specs.Outs.{nothing_told}
use Rattle.dealer_node.specs.Seeing.{runs, front_in}
use Rattle.dealer_world.specs.Events.{node_of, call_of}
use Rattle.dealer_world.specs.Recordings.{made_by}
use Rattle.dealer_world.specs.Runs.{Ruled}
use Rattle.dealer_world.specs.Stepping.{arrived_by_event, begins_by_event}
use Rattle.dealer_world.specs.CalmRun.{IsUntroubled}
use Rattle.dealer_world.specs.TakenEvents.{SoundEventsAreTaken}
use Rattle.dealer_world.proofs.Ruled.{ruled_by, front_seen}
use Rattle.dealer_world.proofs.Calling.{ended_at}
use Rattle.dealer_world.proofs.Answering.{TellsUp}
use Rattle.dealer_world.proofs.CalmCluster.{untroubled, same_call, is_seated}

module _ {D : Type 0} (g : Ghosts D) where
  pub sound_events_are_taken : TellsUp g → SoundEventsAreTaken g
  sound_events_are_taken tells place e y s old new told answer placed here is honest seen given ample sound =
      let t = given.taken s honest seen in
      let takes = t.1 in
      let called : Call = call_of t.0 e in
      let ended = ended_at g place called s old new nothing_told told answer takes placed in
      let ruled = ruled_by place s e t.0 takes.after takes.frames takes.shown takes.faults answer told (runs old) (front_in old) (sym here) (tells old s seen) (front_seen g old s seen) ample
      (is_seated place.setting.game.players e y t.0 is) ended.0 ended.1 takes.told takes.fits in
      let both = subst (λ (c : Call). (r : Ruled place s c (arrived_by_event (runs old) (front_in old) e) (made_by (node_of e) told (begins_by_event (runs old) e answer)) takes.after)
      × IsUntroubled place s c takes.after r.frames r.shown r.ends) (same_call e y t.0 is)
      (ruled, untroubled place s called takes.after takes.frames takes.shown takes.faults answer ample sound ended.0 ended.1) in
      record { after = takes.after; now = takes.now; ruled = both.0; untroubled = both.1 }
