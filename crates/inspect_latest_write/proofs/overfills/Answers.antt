use Rattle.std.proofs.Common.{sym, refl}
use Rattle.inspect_latest_write.proofs.Laws as law
use Rattle.inspect_latest_write.proofs.overfills.Goals as goal

pub insts-requires : goal.insts-requires
insts-requires c = law.words_long c.args.node c.args.mem.now c.requires

pub returns-in-HeldBy : goal.returns-in-HeldBy
returns-in-HeldBy c =
    let a = c.args in
    rw c.in-HeldBy.is (law.full_counted a.node a.mem.now c.insts.result.words.now (sym c.insts.ensures) c.in-HeldBy.slot _ c.is_held.ensures c.if-is_held.true _ c.holding.ensures)

pub returns-in_default : goal.returns-in_default
returns-in_default c =
    let a = c.args in
    rw c.in-HeldBy.is (law.full_none a.node a.mem.now _ refl c.in-HeldBy.slot _ c.is_held.ensures c.if-is_held.false)
