use Rattle.std.proofs.Common.{◌≡◌, length, vec_len, arith, ◌∙◌, ap, sym}
use Rattle.dealer_node.specs.Texts.{run_total, Written}
use Rattle.dealer_node.proofs.Cutting.{length_of, size_of, run_total-append, both}
use Rattle.dealer_node.proofs.texts.Texts.append.Goals as goal

pub append_reserved-requires : goal.append_reserved-requires
append_reserved-requires g c =
    let count = length_of c.other.inside.runs.items c.other.inside.bytes.items c.args.other.now.texts (ap (λ (w : Written g.row.T.Denot). w.texts) c.other.view_is) in
    let room = ap (λ (w : Written g.row.T.Denot). w.text_room) c.self.view_is in
    omega (arith, count, room, c.other.inside.runs.ok.0, c.self.inside.runs.ok.0, c.requires.texts)

pub append_reserved-requires-2 : goal.append_reserved-requires-2
append_reserved-requires-2 g c =
    let kept : run_total c.other.inside.runs.items ≡ vec_len c.other.inside.bytes = c.other.invariant in
    let all : run_total c.other.inside.runs.items ≡ length c.other.inside.bytes.items = omega (arith, kept, c.other.inside.bytes.ok.0) in
    let size = size_of c.other.inside.runs.items c.other.inside.bytes.items c.args.other.now.texts all (ap (λ (w : Written g.row.T.Denot). w.texts) c.other.view_is) in
    let room = ap (λ (w : Written g.row.T.Denot). w.byte_room) c.self.view_is in
    omega (arith, size, room, c.other.inside.bytes.ok.0, c.self.inside.bytes.ok.0, c.requires.bytes)

pub invariant_of-self : goal.invariant_of-self
invariant_of-self g c =
    let here : run_total c.self.inside.runs.items ≡ vec_len c.self.inside.bytes = c.self.invariant in
    let there : run_total c.other.inside.runs.items ≡ vec_len c.other.inside.bytes = c.other.invariant in
    let sum = ap run_total c.append_reserved.ensures.items ∙ run_total-append c.self.inside.runs.items c.other.inside.runs.items in
    let now : run_total c.append_reserved.new.items.items ≡ vec_len c.append_reserved-2.new.items = omega (arith, here, there, sum, c.append_reserved-2.ensures.len) in
    now

pub returns : goal.returns
returns g c =
    let here : run_total c.self.inside.runs.items ≡ vec_len c.self.inside.bytes = c.self.invariant in
    let all : run_total c.self.inside.runs.items ≡ length c.self.inside.bytes.items = omega (arith, here, c.self.inside.bytes.ok.0) in
    record {
      texts = both c.self.inside.runs.items c.other.inside.runs.items c.append_reserved.new.items.items c.self.inside.bytes.items c.other.inside.bytes.items c.append_reserved-2.new.items.items
          c.args.self.now.texts c.args.other.now.texts all c.append_reserved.ensures.items c.append_reserved-2.ensures.items
          (ap (λ (w : Written g.row.T.Denot). w.texts) c.self.view_is) (ap (λ (w : Written g.row.T.Denot). w.texts) c.other.view_is);
    }

-- nothing is left of the other
pub invariant_of-other : goal.invariant_of-other
invariant_of-other g c = ap run_total c.append_reserved.ensures.none ∙ sym c.append_reserved-2.ensures.none_len
