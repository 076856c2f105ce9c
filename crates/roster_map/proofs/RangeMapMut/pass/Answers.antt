use Rattle.roster_map.proofs.Laws as law
use borrow.Author.Rules.{rules}
use native.Mathlib.Omega.{arith}
use mathlib.Core.Path.{◌≡◌, ap, ◌∙◌}
use Rattle.std.specs.Prelude.{Some, None}
use Rattle.roster_ranges.specs.Range.{push_all}
use Rattle.roster_map.specs.Rows.{range_of, range_list}
use Rattle.roster_map.proofs.RangeMapMut.pass.Goals as goal
use Rattle.roster_map.proofs.RangeMapMut.pass.Goals.{in-Some, in_default}

pub loop-i-preserved : goal.loop-i-preserved
loop-i-preserved g c =
    elim c.match-keep.branch [
      | in-Some w ↦
          let h : range_list (Some w.in-Some.row) ≡ g.kept (range_of c.get_row.result) = c.requires.1.1.1 c.get_row.result (Some w.in-Some.row) w.in-Some.ensures in
          rw w.self-is (record {
            words = search rules;
            few = omega arith;
            rest = law.pass_on _ _ _ _ _ _ _ _ (omega arith) c.get_row.ensures (w.push.ensures.pushed ∙ ap (push_all _) h) c.loop-i.invariant.rest;
          })
      | in_default w ↦
          let h : range_list None ≡ g.kept (range_of c.get_row.result) = c.requires.1.1.1 c.get_row.result None w.in_default.ensures in
          rw w.self-is (record {
            words = search rules;
            few = omega arith;
            rest = law.pass_on _ _ _ _ _ _ _ _ (omega arith) c.get_row.ensures (ap (push_all _) h) c.loop-i.invariant.rest;
          })
    ]
