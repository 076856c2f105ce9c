use borrow.Author.Rules.{rules}
use Rattle.call_notice.proofs.Laws as law
use Rattle.call_notice.proofs.filtered.Goals as goal

pub returns : goal.returns
returns c =
    let a = c.args in
    law.filtered_is a.conf a.rows.now a.population a.id.0 c.requires _ _ c.into_filtered.ensures _ (search rules) c.unwrap_or.ensures
