use Rattle.peer_codes.proofs.CoverLaws.{coded_is}
use Rattle.peer_codes.proofs.way.Way.cover.Goals as goal

pub returns-clause-text : goal.returns-clause-text
returns-clause-text c =
    coded_is c.args.self.now c.mask.new.seal c.args.kind c.begin_envelope.new.out.items c.args.body.now c.push_all.new.out.items c.as_mut_slice.result.now c.mask.new.bytes c.as_slice.result.now c.record_tag-tag.result c.push_all-2.new.out.items
    c.begin_envelope.ensures.items c.begin_envelope.ensures.len c.push_all.ensures.items c.as_mut_slice.ensures.value c.mask.ensures.bytes c.as_slice.ensures.value c.record_tag-tag.ensures c.push_all-2.ensures.items
