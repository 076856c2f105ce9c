-- Items after items in an answer area.
use mathlib.Core.Path.{◌≡◌, sym, ap, ◌∙◌}
use mathlib.Core.List.{List, ◌++◌}
use Prim.Native.Nat.{ℕ, ◌+◌, ◌*◌}
use native.Mathlib.Omega.{arith}
use lib.ListN.{length}
use Rattle.words.specs.Writes.{writes, writes_append}
use Rattle.items.specs.Item.{Item, encode, length_encode, encode_append}

-- the items m from the place on that the items l end at
pub items_then : (area : List ℕ) (place at : ℕ) (l m : List Item) → at ≡ place + length l
    → writes (writes area (place * 6) (encode l)) (at * 6) (encode m) ≡ writes area (place * 6) (encode (l ++ m))
items_then area place at l m e =
    let q : at * 6 ≡ place * 6 + length (encode l) = omega (arith, length_encode l) in
    rw q (writes_append area (place * 6) (encode l) (encode m) ∙ ap (writes area (place * 6)) (sym (encode_append l m)))
