use mathlib.Core.List.{[]}
use Rattle.std.proofs.lemmas.List.{length-replicate}
use Rattle.line_reader.proofs.Laws as law
use Rattle.line_reader.proofs.LineReader.numbers.Goals as goal

pub returns-in_err-next_numbers : goal.returns-in_err-next_numbers
returns-in_err-next_numbers g c = rw c.from_residual.ensures (law.too_few c.args.self _ [] [] _ (length-replicate _ _) _ c.in_err-next_numbers.ensures.0.0)

pub returns : goal.returns
returns g c = rw c.then_some.ensures (law.all_read c.args.self _ _ _ _ (length-replicate _ _) _ c.in_ok-next_numbers.ensures _ c.is_ended.ensures)
