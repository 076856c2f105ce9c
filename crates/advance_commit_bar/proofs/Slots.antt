-- The slots that a chain over a range of a window's numbers goes over.
use mathlib.Core.Path.{◌≡◌, sym, ap, ◌∙◌}
use mathlib.Core.List.{List, map}
use Prim.Native.Nat.{ℕ, ◌+◌, ◌-◌, ◌%◌, ◌≤◌}
use native.Mathlib.Nat.{zero-add}
use native.Mathlib.Omega.{arith}
use lib.ListN.{take, drop}
use Rattle.std.specs.List.{range_with_len}
use Rattle.words.specs.Tab.{tab, take_tab, drop_tab}
use Rattle.layout.specs.Layout.{slot_places}
use Rattle.insts.specs.Slots.{inst_in, insts_of}
use Rattle.insts.proofs.Rest.{map_range}

pub slots_from : (start n from m : ℕ) (s : List ℕ) → from + m ≤ n → map (λ k. inst_in s ((start + k) % slot_places)) (range_with_len from m) ≡ take m (drop from (insts_of start n s))
unfolding insts_of
slots_from start n from m s h =
    map_range (λ k. inst_in s ((start + k) % slot_places)) from m
    ∙ sym
    (ap (take m) (drop_tab (λ k. inst_in s ((start + k) % slot_places)) 0 n from (omega arith) ∙ ap (λ (i : ℕ). tab (λ k. inst_in s ((start + k) % slot_places)) i (n - from)) (zero-add from))
    ∙ take_tab (λ k. inst_in s ((start + k) % slot_places)) from (n - from) m (omega arith))
