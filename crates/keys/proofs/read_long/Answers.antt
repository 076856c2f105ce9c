use Rattle.std.proofs.Common.{rules}
use Rattle.keys.proofs.Laws as law
use Rattle.keys.proofs.read_long.Goals as goal

pub returns-in_err-x : goal.returns-in_err-x
returns-in_err-x c = search (rules, law.digit_over)
