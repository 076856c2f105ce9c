-- The slots from the k-th on, as a loop comes to them one by one.
use mathlib.Core.Path.{◌≡◌, refl, ap, ◌∙◌}
use mathlib.Core.List.{List, [], ◌∷◌, ◌++◌, map}
use Prim.Native.Nat.{ℕ, zero, suc, ◌+◌, ◌-◌, ◌%◌, ◌≤◌, ◌<◌}
use native.Mathlib.Nat.{zero-add}
use native.Mathlib.Omega.{arith}
use lib.ListN.{drop}
use Rattle.words.specs.Tab.{tab, tab_ext, tab_snoc, drop_tab}
use Rattle.layout.specs.Layout.{slot_places}
use Rattle.bodega.specs.Replica as machine
use Rattle.inst_cell.specs.Cell.{Short}
use Rattle.insts.specs.Slots.{short_at, batch_at, reads_at, inst_in, insts_of, Puts}
use Rattle.std.specs.Prelude.{Option, Some, Bool, true, false, ◌||◌, cond}
use Rattle.std.specs.List.{position_from, range_with_len}
use Rattle.std.specs.Option.{is_some}
use Rattle.bodega.specs.Grounds.{any}
use Rattle.insts.proofs.Laws.{there_is, apart, place}

-- those from the k-th of n on
unfoldable pub rest_of : ℕ → ℕ → ℕ → List ℕ → List machine.Instance
rest_of start n k s = tab (λ j. inst_in s ((start + j) % slot_places)) k (n - k)

pub rest_all : (start n : ℕ) (s : List ℕ) → rest_of start n 0 s ≡ insts_of start n s
unfolding rest_of insts_of
rest_all start n s = let e : n - 0 ≡ n = omega arith in ap (tab (λ j. inst_in s ((start + j) % slot_places)) 0) e

pub rest_drop : (start n k : ℕ) (s : List ℕ) → k ≤ n → drop k (insts_of start n s) ≡ rest_of start n k s
unfolding rest_of insts_of
rest_drop start n k s h = drop_tab (λ j. inst_in s ((start + j) % slot_places)) 0 n k h ∙ ap (λ (i : ℕ). tab (λ j. inst_in s ((start + j) % slot_places)) i (n - k)) (zero-add k)

pub rest_none : (start n k : ℕ) (s : List ℕ) → n ≤ k → rest_of start n k s ≡ []
unfolding rest_of
rest_none start n k s h = let e : n - k ≡ 0 = omega arith in rw e

pub rest_more : (start n k : ℕ) (s : List ℕ) → k < n → rest_of start n k s ≡ inst_in s ((start + k) % slot_places) ∷ rest_of start n (k + 1) s
unfolding rest_of
rest_more start n k s h = let e : n - k ≡ suc (n - (k + 1)) = omega arith in rw e

-- those before it, and one more
pub one_more : (start k : ℕ) (s : List ℕ) → insts_of start (k + 1) s ≡ insts_of start k s ++ (inst_in s ((start + k) % slot_places) ∷ [])
unfolding insts_of
one_more start k s = tab_snoc (λ j. inst_in s ((start + j) % slot_places)) 0 k ∙ ap (λ (i : ℕ). tab (λ j. inst_in s ((start + j) % slot_places)) 0 k ++ (inst_in s ((start + i) % slot_places) ∷ [])) (zero-add k)

-- a change of the k-th leaves those after it
pub rest_after : {s t : List ℕ} {x : Short} {a : List machine.Request} {l : List machine.ReadReq} (start n k : ℕ) → Puts s ((start + k) % slot_places) x a l t → k < n → n ≤ slot_places
    → rest_of start n (k + 1) t ≡ rest_of start n (k + 1) s
unfolding rest_of
rest_after {s = s} {t = t} start n k p h g =
    tab_ext (λ j. inst_in t ((start + j) % slot_places)) (λ j. inst_in s ((start + j) % slot_places)) (k + 1) (n - (k + 1))
    (λ j y z. there_is (p.others ((start + j) % slot_places) (place (start + j)) (apart start j k (omega arith) (omega arith) (omega arith))))

-- no change at all
pub puts_same : (s : List ℕ) (c : ℕ) → Puts s c (short_at s c) (batch_at s c) (reads_at s c) s
puts_same s c = record { short = refl; batch = refl; held = refl; others = λ d g f. record { short = refl; batch = refl; reads = refl }; size = refl }

-- ---- the first that passes

any_from : {A : Type 0} (f : A → Bool) (k : ℕ) (l : List A) → is_some (position_from f k l) ≡ any f l
any_from f k [] = refl
any_from f k (x ∷ l) = go (f x) (any_from f (k + 1) l)
  where
    go : (b : Bool) → is_some (position_from f (k + 1) l) ≡ any f l → is_some (cond b (Some k) (position_from f (k + 1) l)) ≡ b || any f l
    go true e = refl
    go false e = e

pub any_is : {A : Type 0} (f : A → Bool) (l : List A) (r : Option ℕ) → r ≡ position_from f 0 l → is_some r ≡ any f l
any_is f l r e = ap is_some e ∙ any_from f 0 l

pub map_range : {A : Type 0} (f : ℕ → A) (i n : ℕ) → map f (range_with_len i n) ≡ tab f i n
map_range f i zero = refl
map_range f i (suc n) = ap (λ l. f i ∷ l) (map_range f (i + 1) n)

-- as a chain goes over them
pub slots_all : (start n : ℕ) (s : List ℕ) → map (λ k. inst_in s ((start + k) % slot_places)) (range_with_len 0 n) ≡ insts_of start n s
unfolding insts_of
slots_all start n s = map_range (λ k. inst_in s ((start + k) % slot_places)) 0 n
