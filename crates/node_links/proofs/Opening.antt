-- By what a connection is open.
use Rattle.std.proofs.Common.{◌≡◌, ℕ, List, ◌++◌, Option, Some, None, sym, subst}
use Rattle.std.proofs.Math.Logic.{∥∥₁_map}
use Rattle.peer_codes.specs.declared.hello.Hello.{Hello}
use Rattle.peer_codes.specs.declared.key.Key.{Key}
use Rattle.peer_codes.specs.declared.phase.Phase.{Phase as ChannelPhase}
use Rattle.peer_codes.specs.declared.outgoing.Outgoing.{Outgoing}
use Rattle.peer_codes.specs.declared.connection.Connection.{Connection as Channel}
use Rattle.node_links.specs.declared.own.Own.{Own}
use Rattle.node_links.specs.declared.phase.Phase.{Phase}
use Rattle.node_links.specs.declared.phase.Phase.TheVariants as phases
use Rattle.node_links.specs.declared.stage.Stage.{Stage}
use Rattle.node_links.specs.declared.stage.Stage.TheVariants as stages
use Rattle.node_links.specs.declared.connection.Connection.{Connection}
use Rattle.node_links.specs.declared.connection.Connection.TheVariants.{Plain, Coded}
use Rattle.node_links.specs.Hearing.{texts}
use Rattle.node_links.specs.Talks.{Talk, TakesCoded, bytes_of, OpensPlain, OpensCoded, OpensBy, Opens}
use Rattle.node_links.specs.Going.{Begins, PlainAt, ProvedBy, CodedGoes, taken_in, taken_at, taken_of, OpensAs}

hello_is : (a b : Hello) → Some a ≡ Some b → a ≡ b
hello_is a b e = cc

plain_opens : (own : Own) (dialled : Option ℕ) (came waiting : List ℕ) (phase : Phase) (hello : Hello) → Some hello ≡ taken_in phase → PlainAt own dialled came waiting phase → OpensPlain own hello dialled came
plain_opens own dialled came waiting (phases.Greeting mine) hello e at = absurd cc
plain_opens own dialled came waiting (phases.Asked theirs) hello e at = absurd cc
plain_opens own dialled came waiting (phases.Closed fault) hello e at = absurd cc
plain_opens own dialled came waiting (phases.Open theirs) hello e at =
    subst (λ (h : Hello). OpensPlain own h dialled came) (sym (hello_is hello theirs e)) (record { is = at.is; takes = at.takes; rest = texts at.said ++ waiting; text = at.text })

proved_opens : (key : Key) (own : Own) (talk : Talk) (out : Outgoing) (mine : Option Hello) (theirs : Hello) (waiting : List ℕ) (phase : ChannelPhase) → Begins mine talk.wrote out → TakesCoded own talk.dialled theirs
    → ProvedBy key mine theirs talk waiting phase → OpensCoded key own theirs talk
proved_opens key own talk out None theirs waiting phase begins takes at = absurd at
proved_opens key own talk out (Some mine) theirs waiting phase begins takes at = record {
  mine = mine;
  nonce = begins.0;
  first = at.first;
  version = at.version;
  takes = takes;
  hello = at.hello;
  hello_is = at.hello_is;
  proof = at.proof;
  proof_is = at.proof_is;
  rest = bytes_of at.said ++ waiting;
  text = at.text;
}

opens_by : (own : Own) (key : Option Key) (hello : Hello) (talk : Talk) → own.key ≡ key → OpensBy key own hello talk → Opens own hello talk
opens_by own key hello talk e opens = subst (λ (k : Option Key). OpensBy k own hello talk) (sym e) opens

coded_opens : (own : Own) (talk : Talk) (c : Channel) (stage : Stage) (hello : Hello) → Some hello ≡ taken_at stage → CodedGoes own talk c stage → Opens own hello talk
coded_opens own talk c stages.Greeting hello e goes = absurd cc
coded_opens own talk c (stages.Asked theirs) hello e goes = absurd cc
coded_opens own talk c (stages.Matched theirs) hello e goes = absurd cc
coded_opens own talk c (stages.Proved theirs) hello e goes = absurd cc
coded_opens own talk c (stages.Closed fault) hello e goes = absurd cc
coded_opens own talk c (stages.Open theirs) hello e goes =
    opens_by own (Some c.key) hello talk goes.key (subst (λ (h : Hello). OpensCoded c.key own h talk) (sym (hello_is hello theirs e)) (proved_opens c.key own talk c.out goes.mine theirs c.came.waiting c.phase goes.begins goes.at.0 goes.at.1))

opened : (c : Connection) (hello : Hello) → Some hello ≡ taken_of c → OpensAs (Some hello) c
opened (Plain c) hello e own talk goes = ∥∥₁_map goes (λ g. opens_by own None hello talk g.0 (plain_opens own talk.dialled talk.came c.came.waiting c.phase hello e g.1))
opened (Coded c) hello e own talk goes = ∥∥₁_map goes (λ g. coded_opens own talk c.channel c.stage hello e g)

pub opens_as : (c : Connection) (result : Option Hello) → result ≡ taken_of c → OpensAs result c
opens_as c None e = tt
opens_as c (Some hello) e = opened c hello e
