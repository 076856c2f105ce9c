use Rattle.roster_compare.proofs.Laws as law
use borrow.Author.Rules.{rules}
use mathlib.Core.Path.{◌≡◌, sym, ◌∙◌}
use Rattle.ids.specs.Leader.{leader_of}
use Rattle.roster_conf.specs.Conf.{same_leader}
use Rattle.roster_compare.proofs.same.Goals.{then-eq, else-eq}
use Rattle.roster_compare.proofs.same.Goals as goal

pub returns-then-same_rows : goal.returns-then-same_rows
returns-then-same_rows c = let e : c.eq.result ≡ same_leader (leader_of c.args.c.leader) (leader_of c.args.d.leader) = search rules in
    elim c.if-eq.branch
    [ then-eq w ↦ law.same_default _ _ _ _ _ e w.if-eq.true _ w.same_rows.ensures (sym w.value-is ∙ c.if-same_rows.true) | else-eq w ↦ cc ]

pub returns-else-same_rows : goal.returns-else-same_rows
returns-else-same_rows c = let e : c.eq.result ≡ same_leader (leader_of c.args.c.leader) (leader_of c.args.d.leader) = search rules in
    elim c.if-eq.branch
    [ then-eq w ↦ c.if-same_rows.false ∙ law.other_rows _ _ _ _ _ e w.if-eq.true _ w.same_rows.ensures (sym w.value-is ∙ c.if-same_rows.false) | else-eq w ↦ c.if-same_rows.false ∙ law.other_leader _ _ _ _ _ e w.if-eq.false ]
