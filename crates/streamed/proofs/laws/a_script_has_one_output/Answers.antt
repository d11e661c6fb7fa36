use Rattle.streamed.proofs.OneOutput.{one_output}
use Rattle.streamed.proofs.laws.a_script_has_one_output.Goals as goal

pub returns : goal.returns
returns c = one_output c.a_text_reads_one_way.ensures.action c.deal_texts_are_one_to_one.ensures.whole
