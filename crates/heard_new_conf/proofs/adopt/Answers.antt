use native.Mathlib.Omega.{arith}
use Rattle.heard_new_conf.proofs.Laws as law
use Rattle.heard_new_conf.proofs.adopt.Goals as goal

pub slice_bounds-copy-end : goal.slice_bounds-copy-end
slice_bounds-copy-end c = omega (arith, law.readied c.args.node c.args.mem.now c.requires.0)

pub copy-requires : goal.copy-requires
copy-requires c =
    let a = c.args in
    let w = law.few_ranges a.conf.count a.rows.now c.requires.1 in
    (w.0, w.1, omega (arith, law.rows_long a.mem.now (law.readied a.node a.mem.now c.requires.0).long))

pub slice_bounds-guard_itself-end : goal.slice_bounds-guard_itself-end
slice_bounds-guard_itself-end c =
    let a = c.args in
    omega (arith, law.roster_there a.node a.mem.now c.requires.0 a.ballot a.conf a.rows.now c.requires.1 _ c.copy.ensures)

pub guard_itself-peer_accept_max-requires : goal.guard_itself-peer_accept_max-requires
guard_itself-peer_accept_max-requires c =
    let a = c.args in
    let r = law.readied a.node a.mem.now c.requires.0 in
    (r.quorate, r.enough, r.few, r.own, omega (arith, law.pairs_there a.node a.mem.now c.requires.0 a.ballot a.conf a.rows.now c.requires.1 _ c.copy.ensures))

pub returns : goal.returns
returns c =
    let a = c.args in
    law.adopts a.node a.mem.now c.requires.0 a.ballot a.conf a.rows.now c.requires.1 _ c.copy.ensures _ _ c.guard_itself-peer_accept_max.ensures
