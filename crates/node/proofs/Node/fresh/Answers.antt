use Rattle.std.proofs.Common.{◌≡◌, refl, rules}
use Rattle.node.proofs.Laws as law
use Rattle.node.proofs.Node.fresh.Goals as goal

pub returns-then-not-begins : goal.returns-then-not-begins
returns-then-not-begins c = search (rules, law.not_begun)

pub reset-requires : goal.reset-requires
reset-requires c = search (rules, law.long_enough)

pub returns : goal.returns
returns c =
    let r = c.reset in
    let a = c.args in
    let e : c.default.result ≡ law.node_with (record { 0 = 0 }) 0 0 (record { 0 = 0 }) = search rules in
    rw e (law.begun a.id.0 a.population a.quorum _ _ c.begins.ensures c.if-not-begins.false _ r.ensures r.auto.mem a.id refl)
