use Rattle.std.proofs.Common.{rules}
use Rattle.items.proofs.Laws as law
use Rattle.items.proofs.get_item.Goals as goal

pub returns : goal.returns
returns c =
    law.place_item c.args.area.now c.args.place _ c.in_ok-get.field-0.now _ c.as_chunks.ensures.front c.as_chunks.ensures.front_len (search rules) (search rules) c.decoded.ensures
