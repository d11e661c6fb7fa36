use Rattle.std.proofs.Common.{◌∙◌}
use Rattle.peer_codes.specs.declared.records.Record.TheVariants as record_of
use Rattle.node_links.proofs.Headings.{is_all}
use Rattle.node_links.proofs.heading.Heading.version.Goals as goal

pub returns-clause-all : goal.returns-clause-all
returns-clause-all c = λ hello rest fits text.
    c.said_by.ensures ∙ is_all c.as_slice.result.now rest hello c.read_record.result (c.read_record.ensures.only (record_of.Hello hello) rest fits (c.as_slice.ensures.value ∙ text))
