use Rattle.decimal.proofs.Laws as law
use borrow.Author.Rules.{rules}
use Rattle.decimal.proofs.+digit_count.Goals as goal

pub overflow_add-result : goal.overflow_add-result
overflow_add-result t c = search (rules, law.count_fits)

pub returns-then-is_zero : goal.returns-then-is_zero
returns-then-is_zero t c = search (rules, law.count_one)

pub returns-else-is_zero : goal.returns-else-is_zero
returns-else-is_zero t c = search (rules, law.count_more)
