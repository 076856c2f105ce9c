use Rattle.key_lines.specs.Lines.{answer_of}
use Rattle.text.proofs.Laws as text
use Rattle.key_lines.proofs.put_answer.Goals as goal

pub returns : goal.returns
unfolding answer_of
returns c = text.then c.put_text.ensures c.put_byte.ensures
