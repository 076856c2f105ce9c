-- The node before the first line; what the lines' laws share.
use mathlib.Core.Path.{◌≡◌, sym, ◌∙◌}
use mathlib.Core.Bool.{Bool, true, false, and-false, true≢false}
use mathlib.Core.List.{List}
use Prim.Native.Nat.{ℕ}
use lib.Dec.{leb}
use lib.ListN.{length}
use Rattle.node.specs.declared.Node.{Node}
use Rattle.node.specs.View.{size, ready}

pub unready : (n : Node) (mem : List ℕ) → n.quorum ≡ 0 → ready n mem ≡ false
unfolding ready
unready n mem e = rw e (and-false (leb size (length mem)))

-- ---- for the lines: a test is not both

pub not_both : {t : Bool} {A : Type 0} → t ≡ false → t ≡ true → A
not_both f g = absurd (true≢false (sym g ∙ f))
