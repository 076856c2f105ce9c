-- Slots passed one after the other, up to the first where the pass stops: what is left of the pass, done onto what is
-- built.
use Rattle.std.specs.Prelude.{if◌then◌else◌}
use mathlib.Core.Path.{◌≡◌, refl, sym, ap, ◌∙◌}
use mathlib.Core.Bool.{Bool, true, false}
use mathlib.Core.List.{List, [], ◌∷◌, ◌++◌, append_assoc}
use Prim.Native.Nat.{ℕ, zero, suc, ◌+◌, ◌-◌, ◌*◌, ◌%◌, ◌≤◌, ◌<◌, min}
use native.Mathlib.Omega.{arith}
use native.Mathlib.Decide.{dec_lt}
use lib.ListN.{length, drop, length-append, take-append-drop}
use Rattle.words.specs.Writes.{writes, length_writes}
use Rattle.layout.specs.Layout.{slot_places}
use Rattle.items.specs.Item.{Item, encode, places}
use Rattle.bodega.specs.Replica.{Instance, Request, ReadReq}
use Rattle.bodega.specs.Heartbeat.{Walk}
use Rattle.inst_cell.specs.Cell.{Short}
use Rattle.insts.specs.Slots.{inst_of, inst_in, insts_of, Puts}
use Rattle.insts.proofs.Laws.{appended, first}
use Rattle.insts.proofs.Rest.{rest_of, rest_drop, rest_none, rest_more, rest_after}
use Rattle.advance_commit_bar.proofs.Items.{items_then}

-- slots as they are, without items
abbrev pub still : List Instance → Walk
still l = record { insts = l; items = [] }

-- a slot that the pass does not stop at becomes f of it, with the items g; so up to m of them, the first one being
-- `slot`
module _ (stop : Instance → Bool) (f : Instance → Instance) (g : ℕ → Instance → List Item) where
  unfoldable pub pass : ℕ → ℕ → List Instance → Walk
  pass slot zero l = still l
  pass slot (suc m) [] = still []
  pass slot (suc m) (i ∷ l) =
      let w = pass (slot + 1) m l in
      if stop i then still (i ∷ l) else record { insts = f i ∷ w.insts; items = g slot i ++ w.items }

  pub pass_none : (slot m : ℕ) → pass slot m [] ≡ still []
  unfolding pass
  pass_none slot zero = refl
  pass_none slot (suc m) = refl

  -- the pass over n slots from start on ends before the slot of number `end`
  module _ (start n end : ℕ) where
    unfoldable pub left : ℕ → List ℕ → Walk
    left k s = pass (start + k) (end - k) (rest_of start n k s)

    pub left_is : (k : ℕ) (s : List ℕ) → k ≤ n → left k s ≡ pass (start + k) (end - k) (drop k (insts_of start n s))
    unfolding left
    left_is k s h = ap (pass (start + k) (end - k)) (sym (rest_drop start n k s h))

    left_end : (k : ℕ) (s : List ℕ) → min n end ≤ k → left k s ≡ still (rest_of start n k s)
    unfolding left pass
    left_end k s h = elim (dec_lt k n) [
      | yes y ↦ (let e : end - k ≡ 0 = omega arith in rw e)
      | no y ↦ rw (rest_none start n k s (omega arith)) (pass_none (start + k) (end - k))
    ]

    module _ (k : ℕ) (s : List ℕ) (h : k < min n end) where
      abbrev here : Instance
      here = inst_in s ((start + k) % slot_places)

      one_less : end - k ≡ suc (end - (k + 1))
      one_less = omega arith

      left_stop : stop here ≡ true → left k s ≡ still (rest_of start n k s)
      unfolding left pass
      left_stop e = rw (rest_more start n k s (omega arith), one_less, e)

      left_pass : stop here ≡ false → left k s ≡ record { insts = f here ∷ (left (k + 1) s).insts; items = g (start + k) here ++ (left (k + 1) s).items }
      unfolding left pass
      left_pass e =
          let q : start + k + 1 ≡ start + (k + 1) = omega arith in
          rw (rest_more start n k s (omega arith), one_less, e, q)

      left_items : stop here ≡ false → length (left k s).items ≡ length (g (start + k) here) + length (left (k + 1) s).items
      left_items e = ap (λ (w : Walk). length w.items) (left_pass e) ∙ length-append (g (start + k) here) (left (k + 1) s).items

    -- ---- the pass done, from the slot of number `from` and from a place of the area on

    module _ (from place : ℕ) (s₀ area₀ : List ℕ) where
      pub record Passed (r : ℕ) (t area' : List ℕ) : Type 0 where
        pub next : r ≡ place + length (left from s₀).items
        pub items : area' ≡ writes area₀ (place * 6) (encode (left from s₀).items)
        pub insts : insts_of start n t ≡ insts_of start from s₀ ++ (left from s₀).insts
        pub size : length t ≡ length s₀

      -- s and area are the words, k the slot and at the place that the loop has come to
      pub record Going (k at : ℕ) (s area : List ℕ) : Type 0 where
        pub insts : insts_of start k s ++ (left k s).insts ≡ insts_of start from s₀ ++ (left from s₀).insts
        pub items : writes area (at * 6) (encode (left k s).items) ≡ writes area₀ (place * 6) (encode (left from s₀).items)
        pub next : at + length (left k s).items ≡ place + length (left from s₀).items
        pub size : length s ≡ length s₀
        pub room : length area ≡ length area₀

      pub going_start : Going from place s₀ area₀
      going_start = record { insts = refl; items = refl; next = refl; size = refl; room = refl }

      module _ (k at : ℕ) (s area : List ℕ) (y : Going k at s area) where
        done : k ≤ n → left k s ≡ still (rest_of start n k s) → Passed at s area
        unfolding encode
        done h e =
            record {
              next = (let z : at + 0 ≡ at = omega arith in sym z) ∙ sym (ap (λ (w : Walk). at + length w.items) e) ∙ y.next;
              items = sym (ap (λ (w : Walk). writes area (at * 6) (encode w.items)) e) ∙ y.items;
              insts = all ∙ sym (ap (λ (w : Walk). insts_of start k s ++ w.insts) e) ∙ y.insts;
              size = y.size;
            }
          where
            all : insts_of start n s ≡ insts_of start k s ++ rest_of start n k s
            all = sym (rw (← (first start n k s h), ← (rest_drop start n k s h)) (take-append-drop k (insts_of start n s)))

        pub going_end : k ≤ n → min n end ≤ k → Passed at s area
        going_end h e = done h (left_end k s e)

        module _ (h : k < min n end) (t : Bool) (e : t ≡ stop (inst_in s ((start + k) % slot_places))) where
          pub going_stop : t ≡ true → Passed at s area
          going_stop z = done (omega arith) (left_stop k s h (sym e ∙ z))

          module _ (z : t ≡ false) where
            abbrev new : List Item
            new = g (start + k) (inst_in s ((start + k) % slot_places))

            more : length (left k s).items ≡ length new + length (left (k + 1) s).items
            more = left_items k s h (sym e ∙ z)

            -- the area has the places that this slot's items need
            pub fits : place + length (left from s₀).items ≤ places area₀ → at + length new ≤ places area
            fits r = let q = y.next in rw y.room (omega (arith, more))

            module _ {x : Short} {a : List Request} {b : List ReadReq} (w : n ≤ slot_places) (r : ℕ) (u area' : List ℕ) (p : Puts s ((start + k) % slot_places) x a b u)
                (i : inst_of x a b ≡ f (inst_in s ((start + k) % slot_places))) (o : area' ≡ writes area (at * 6) (encode new)) (q : r ≡ at + length new) where
              left_same : left (k + 1) u ≡ left (k + 1) s
              unfolding left
              left_same = rw (rest_after start n k p (omega arith) w)

              insts_are : insts_of start (k + 1) u ++ (left (k + 1) u).insts ≡ insts_of start from s₀ ++ (left from s₀).insts
              insts_are =
                  rw (left_same, appended start k p (omega arith), i)
                  (append_assoc (insts_of start k s) (f (inst_in s ((start + k) % slot_places)) ∷ []) (left (k + 1) s).insts
                  ∙ sym (ap (λ (v : Walk). insts_of start k s ++ v.insts) (left_pass k s h (sym e ∙ z))) ∙ y.insts)

              items_are : writes area' (r * 6) (encode (left (k + 1) u).items) ≡ writes area₀ (place * 6) (encode (left from s₀).items)
              items_are =
                  rw (left_same, o)
                  (items_then area at r new (left (k + 1) s).items q
                  ∙ sym (ap (λ (v : Walk). writes area (at * 6) (encode v.items)) (left_pass k s h (sym e ∙ z))) ∙ y.items)

              pub going_step : Going (k + 1) r u area'
              going_step =
                  record {
                    insts = insts_are;
                    items = items_are;
                    next = rw left_same (let v = y.next in omega (arith, more));
                    size = p.size ∙ y.size;
                    room = ap length o ∙ length_writes area (at * 6) (encode new) ∙ y.room;
                  }
