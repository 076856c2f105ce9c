use Rattle.std.proofs.Common.{rules, refl, arith}
use Rattle.text.proofs.Laws as law
use Rattle.text.proofs.TextMut.put_wide.Goals as goal

pub unwrap-self-requires : goal.unwrap-self-requires
unwrap-self-requires c = search (rules, law.wide_some)

pub returns : goal.returns
returns c = record { held = refl; size = omega arith; wrote = search (rules, law.wide_put) }
