use Rattle.table.proofs.Laws as law
use Rattle.table.proofs.TableMut.push.Goals as goal

pub returns-then-n-clause-pushes : goal.returns-then-n-clause-pushes
returns-then-n-clause-pushes g c =
    let r = g.met.R.Row in
    law.push_no _ _ _ _ r.width r.near r.back _ _ _ _ (rw c.as_ref.ensures at c.count-n.ensures.0) c.if-n.true

pub returns-clause-pushes : goal.returns-clause-pushes
returns-clause-pushes g c =
    let r = g.met.R.Row in
    law.push_yes _ _ _ _ r.width r.near r.back _ _ _ _ _ c.args.self.now.whole (rw c.as_ref.ensures at c.count-n.ensures.0) c.if-n.false (rw c.WORDS.ensures at c.put.ensures)
