use Rattle.std.proofs.Common.{◌≡◌, arith, length, take, length-take-le}
use Rattle.line_answer.proofs.Items as items
use Rattle.line_answer.proofs.put_items.Goals as goal

pub loop-words-init : goal.loop-words-init
loop-words-init c = items.listed_none _ _

pub loop-words-preserved : goal.loop-words-preserved
loop-words-preserved c =
    let chunks = c.as_chunks.result.0.now in
    let long : length (take c.args.count chunks) ≡ c.args.count = length-take-le c.args.count chunks (omega (arith, c.as_chunks.ensures.front_len)) in
    let words = items.place_words c.args.area.now chunks c.args.count c.loop-words.words-index c.as_chunks.ensures.front c.requires.1 (omega (arith, long)) in
    items.listed_more _ _ (omega (arith, long)) words c.loop-words.invariant c.put_six.ensures
