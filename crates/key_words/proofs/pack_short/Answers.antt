use Rattle.std.proofs.Common.{arith, ap, ◌∙◌}
use Rattle.key_words.specs.Key.{bytes_of}
use Rattle.key_words.proofs.Laws as law
use Rattle.key_words.proofs.pack_short.Goals as goal

pub returns : goal.returns
returns c =
    ap bytes_of c.key_of.ensures ∙ law.bytes_pack_of _ (λ i. omega (arith, c.type_inv.bytes i)) c.requires
