use Rattle.std.proofs.Common.{◌≡◌, ◌∙◌, rules}
use Rattle.inst_cell.specs.Cell.{cell_of}
use Rattle.insts.specs.Slots.{null_short}
use Rattle.insts.proofs.Laws as law
use Rattle.insts.proofs.InstsMut.null_slot.Goals as goal

pub returns : goal.returns
returns c =
    let e : cell_of c.default.result ≡ null_short = search rules in record {
      same_reference = c.clear_batch.ensures.same_reference ∙ c.store.ensures.same_reference;
      puts = law.batch_after (rw e at c.store.ensures.puts) c.clear_batch.ensures.puts;
    }
