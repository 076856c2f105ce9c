use Rattle.std.specs.Prelude.{◌≡◌, Result, Err, ℕ}
use borrow.Author.Rules.{rules}
use mathlib.Core.Path.{◌∙◌}
use Rattle.std.proofs.lemmas.List.{set-get_or}
use Rattle.std.proofs.lemmas.Result.{err_from_is_err_and}
use Rattle.line_fields.specs.declared.NumberAt.{NumberAt}
use Rattle.line_fields.proofs.Laws as law
use Rattle.line_fields.proofs.numbers_at.Goals as goal

pub returns-in_err-number : goal.returns-in_err-number
returns-in_err-number c =
    let p = err_from_is_err_and c.from_residual.result c.from_residual.ensures.1 in
    let e : ◌≡◌ {A = Result NumberAt ℕ} (Err c.in_err-number.field-0.0) (Err c.loop-word.next) = rw c.in_err-number.ensures.ok_part at c.in_err-number.ensures.value in
    let q : c.in_err-number.field-0.0 ≡ c.loop-word.next = cc in
    rw (p.1, p.2 ∙ q, set-get_or)
    (law.took_bad _ _ _ _ _ _ _ c.loop-word.invariant c.loop-word-test.true (rw c.in_err-number.ensures.ok_part at c.number_at.ensures))

pub loop-word-preserved : goal.loop-word-preserved
loop-word-preserved c =
    law.took_more _ _ _ _ _ _ _ c.loop-word.invariant _ c.loop-word-test.true (search rules) (rw c.in_ok-number.ensures.ok_part at c.number_at.ensures)

pub returns : goal.returns
returns c = law.took_all _ _ _ _ _ _ _ c.loop-word.invariant c.loop-word-test.false
