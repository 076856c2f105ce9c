use Rattle.std.proofs.Common.{rules, refl}
use Rattle.inty.specs.Value.{value_of}
use Rattle.decimal.proofs.Laws as law
use Rattle.decimal.proofs.Laws.{Heads}
use Rattle.decimal.proofs.+put.Goals as goal
use Rattle.decimal.proofs.+put.Goals.{then-is_zero, else-is_zero}

pub put-last-requires : goal.put-last-requires
put-last-requires t c = search (rules, law.tenth_less, law.more_room)

pub bounds-out-last : goal.bounds-out-last
bounds-out-last t c =
    let h : Heads c.args.out.now (value_of c.args.x) c.if-is_zero.last c.if-is_zero.out =
    elim c.if-is_zero.branch [ then-is_zero w ↦ search (rules, law.no_heads) | else-is_zero w ↦ search (rules, law.more_heads) ] in
    law.last_room h _ c.requires c.if-is_zero.auto.out

pub overflow_add-result : goal.overflow_add-result
overflow_add-result t c =
    let h : Heads c.args.out.now (value_of c.args.x) c.if-is_zero.last c.if-is_zero.out =
    elim c.if-is_zero.branch [ then-is_zero w ↦ search (rules, law.no_heads) | else-is_zero w ↦ search (rules, law.more_heads) ] in
    law.last_fits h c.requires (search rules)

pub returns : goal.returns
returns t c =
    let h : Heads c.args.out.now (value_of c.args.x) c.if-is_zero.last c.if-is_zero.out =
    elim c.if-is_zero.branch [ then-is_zero w ↦ search (rules, law.no_heads) | else-is_zero w ↦ search (rules, law.more_heads) ] in
    (law.last_end h, law.last_put h _ _ refl c.div_ten-remainder.ensures.1)
