use Rattle.std.proofs.Common.{◌≡◌, ◌+◌, List, ℕ, take, arith, refl, sym, ap, ◌∙◌, set, get_or}
use Rattle.words.specs.Writes.{writes, writes_take}
use Rattle.words.proofs.copy_words.Goals as goal

pub loop-i-init : goal.loop-i-init
loop-i-init c = refl

pub loop-i-preserved : goal.loop-i-preserved
loop-i-preserved c =
    let l = c.loop-i in
    let s = c.args.to.now in
    let f = c.args.from.now in
    let z : 0 + l.i ≡ l.i = omega arith in
    ap (λ (x : List ℕ). set x l.i (get_or f l.i 0)) l.invariant
    ∙ ap (λ (j : ℕ). set (writes s 0 (take l.i f)) j (get_or f l.i 0)) (sym z)
    ∙ writes_take s 0 f l.i (omega arith)

pub returns : goal.returns
returns c = let e : c.loop-i.i ≡ c.args.n = omega arith in rw e at c.loop-i.invariant
