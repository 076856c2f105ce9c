use Rattle.std.proofs.Common.{◌*◌, rules, arith}
use Rattle.words.proofs.Laws.{mid_writes}
use Rattle.items.specs.Item.{item_words, item_of, length_item}
use Rattle.items.proofs.Laws as law
use Rattle.items.proofs.put_item.Goals as goal

pub returns-clause-answers : goal.returns-clause-answers
returns-clause-answers c =
    rw (law.put_true c.args.area.now c.args.place (item_of c.args.item) (omega (arith, c.places.ensures, c.if-places-place.false)))

pub returns-clause-put : goal.returns-clause-put
returns-clause-put c =
    let x = item_of c.args.item in
    rw (law.put_area c.args.area.now c.args.place x (omega (arith, c.places.ensures, c.if-places-place.false)))
    (mid_writes c.args.area.now (c.args.place * 6) _ _ (item_words x) (omega (arith, length_item x)) (omega (arith, length_item x)) (search rules))
