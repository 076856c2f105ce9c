use Rattle.std.proofs.Common.{rules}
use Rattle.accept_notice_at.proofs.Laws as law
use Rattle.accept_notice_at.proofs.put_notice.Goals as goal

pub returns-clause-sets : goal.returns-clause-sets
returns-clause-sets c = let e = rw c.as_ref.ensures at c.load-cell.ensures in search (rules, law.notice_put, e)
