use Rattle.std.proofs.Common.{rules, arith, refl}
use Rattle.text.proofs.Laws as law
use Rattle.text.proofs.TextMut.put_bytes.Goals as goal

pub returns : goal.returns
returns c = record { held = refl; size = omega arith; wrote = law.copied _ _ _ _ _ c.requires (omega arith) (search rules) }
