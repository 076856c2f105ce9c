use Rattle.stream_events.proofs.Laws as law
use borrow.Author.Rules.{rules}
use Rattle.stream_events.proofs.last_line.Goals as goal

pub returns-then-is_line : goal.returns-then-is_line
returns-then-is_line c = search (rules, law.last_some)

pub returns-else-is_line : goal.returns-else-is_line
returns-else-is_line c = search (rules, law.last_none)
