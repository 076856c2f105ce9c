use Rattle.std.proofs.Common.{ap, ◌∙◌, rules, tests}
use Rattle.advance_commit_bar.proofs.Laws as law
use Rattle.advance_commit_bar.proofs.change_open.Goals as goal

pub returns-then-is_open-clause-changes : goal.returns-then-is_open-clause-changes
returns-then-is_open-clause-changes g c =
    let a = c.args in
    law.changes g.changed _ _ _ c.is_open.result (rw c.as_ref.ensures at c.is_open.ensures) _ _ (search (rules, tests)) c.requires.1.1 _ _ _ _ _
    (c.requires.1.0.1 _ _ c.change-cell.ensures ∙ ap g.changed (rw c.as_ref-then-is_open.ensures at c.load.ensures)) c.store.ensures.puts c.push.ensures.put c.push.ensures.counted

pub returns-clause-changes : goal.returns-clause-changes
returns-clause-changes g c = law.stays g.changed _ _ _ c.is_open.result (rw c.as_ref.ensures at c.is_open.ensures) _ _ (search (rules, tests))
