-- What holds of every roster that edits make: one list for what it stores, at most 64 ranges.
use mathlib.Core.Path.{◌≡◌, refl, sym, ◌∙◌}
use mathlib.Core.Bool.{true, false}
use mathlib.Core.List.{List, ◌∷◌, []}
use Rattle.std.specs.Prelude.{Option, None, Some}
use Prim.Native.Nat.{ℕ, ◌≤◌, ◌<◌}
use native.Mathlib.Nat.{le_trans}
use native.Mathlib.Omega.{arith}
use lib.Dec.{ltb, leb, lit≤}
use lib.ListN.{length}
use borrow.Author.Tests.{lt-ltb, ltb-true, ltb-false, le-leb, leb-true}
use Rattle.bitmap.specs.Bitmap.{set_to}
use Rattle.keys.specs.Read.{read_key}
use Rattle.roster_ranges.specs.Range.{Range, at, overwrite}
use Rattle.words.proofs.Tests.{and_both}
use Rattle.roster_ranges.specs.Canon.{Canon, is_canon, StoredOver, Sorted, mapped}
use Rattle.roster_ranges.proofs.Meaning.{overwrite_canon, overwrite_at, remasked_canon, remasked_at, remasked_length, canon_sorted, canon_true, true_canon, too_many_lem, not_too_many}
use Rattle.roster_conf.proofs.Grounds.{zero_one, none_apply}
use Rattle.roster_conf.specs.Conf.{Conf, empty, set_responders, set_full, into_filtered}
use Rattle.roster_conf.specs.Ground.{refusal, Ascends}
use Rattle.roster_conf.specs.Edit.{Edit, SetLeader, SetResponders, SetFull, IntoFiltered, ResetFull, edit, grounds, crossed, too_many, EditResult, refused, taken, edit_result}
use Rattle.roster_conf.specs.EditList.{left, edit_all, Good, is_good, EditsMakeGood}

-- ---- the grounds ascend, so that the first that applies is the lowest

pub ascends : (p : ℕ) (c : Conf) (e : Edit) → Ascends (grounds p c e)
unfolding grounds
ascends p c (SetLeader r) = (tt, tt)
ascends p c (SetResponders start end mask) = (omega arith, (omega arith, (omega arith, (omega arith, (tt, tt)))))
ascends p c (SetFull mask) = (omega arith, (tt, tt))
ascends p c (IntoFiltered r) = (tt, tt)
ascends p c ResetFull = tt

-- ---- an edit that is taken

answer_taken : (p : ℕ) (c d : Conf) (e : Edit) → edit_result p c e ≡ taken d → (refusal (grounds p c e) ≡ None) × (edit c e ≡ d)
unfolding edit_result
answer_taken p c d e h = go (refusal (grounds p c e)) refl
  where
    go : (o : Option ℕ) → refusal (grounds p c e) ≡ o → (refusal (grounds p c e) ≡ None) × (edit c e ≡ d)
    go None f = let q : taken (edit c e) ≡ taken d = sym (simp f) ∙ h in (f, cc)
    go (Some n) f = let q : refused n ≡ taken d = sym (simp f) ∙ h in let z : ◌≡◌ {A = ℕ} 0 1 = cc in absurd (zero_one z)

abbrev range : ℕ → ℕ → ℕ → Range
range a b mask = record { from = a; to = b; mask = mask }

-- of the grounds of a range edit, 7 and 17
range_clear : (p mask : ℕ) (c : Conf) (start end : List ℕ) → refusal (grounds p c (SetResponders start end mask)) ≡ None
    → (crossed (read_key start) (read_key end) ≡ false) × (too_many (edit c (SetResponders start end mask)) ≡ false)
unfolding grounds
range_clear p mask c start end e =
    let k = none_apply (grounds p c (SetResponders start end mask)) e in
    (k.1.1.1.0, k.1.1.1.1.0)

full_clear : (p mask : ℕ) (c : Conf) → refusal (grounds p c (SetFull mask)) ≡ None → too_many (edit c (SetFull mask)) ≡ false
unfolding grounds
full_clear p mask c e = (none_apply (grounds p c (SetFull mask)) e).1.0

-- the keys that a range edit covers
module _ (c : Conf) (start end : List ℕ) (mask a b : ℕ) (f : read_key start ≡ Some a) (g : read_key end ≡ Some b) where
  range_is : (edit c (SetResponders start end mask)).ranges ≡ overwrite c.ranges (range a b mask)
  unfolding edit set_responders
  range_is = simp (f, g)

  module _ (h : Canon c.ranges) (l : a ≤ b) where
    range_canon : Canon (edit c (SetResponders start end mask)).ranges
    range_canon = rw range_is (overwrite_canon c.ranges (range a b mask) h l)

    -- the new mask inside the range, outside what was stored there
    pub range_means : StoredOver c.ranges (range a b mask) (edit c (SetResponders start end mask)).ranges
    range_means = rw range_is (overwrite_at c.ranges (range a b mask) h l)

    -- 17 is exactly: no list of 64 or fewer disjoint ranges stores the same masks at the same keys
    pub range_17 : too_many (edit c (SetResponders start end mask)) ≡ true → (m : List Range) → Sorted m → StoredOver c.ranges (range a b mask) m → 64 < length m
    range_17 e m s q =
        too_many_lem 64 c.ranges (range a b mask) h l (ltb-true 64 (length (overwrite c.ranges (range a b mask))) (rw range_is at e)) m s q

    pub range_17_only : ((m : List Range) → Sorted m → StoredOver c.ranges (range a b mask) m → 64 < length m) → too_many (edit c (SetResponders start end mask)) ≡ true
    range_17_only q = rw range_is (lt-ltb 64 (length (overwrite c.ranges (range a b mask))) (not_too_many 64 c.ranges (range a b mask) h l q))

pub filter_means : (c : Conf) (r n : ℕ) → Canon c.ranges → at (edit c (IntoFiltered r)).ranges n ≡ mapped (λ m. set_to m r false) (at c.ranges n)
unfolding edit into_filtered
filter_means c r n h = remasked_at (λ m. set_to m r false) c.ranges n (canon_sorted c.ranges h)

-- ---- every roster that edits make

pub good_filtered : (r : ℕ) (c : Conf) → Good c → Good (into_filtered r c)
unfolding into_filtered
good_filtered r c h =
    (remasked_canon (λ m. set_to m r false) c.ranges (canon_sorted c.ranges h.0), le_trans (remasked_length (λ m. set_to m r false) c.ranges) h.1)

good_range : (p mask : ℕ) (c : Conf) (start end : List ℕ) → Good c → refusal (grounds p c (SetResponders start end mask)) ≡ None → Good (edit c (SetResponders start end mask))
unfolding edit
good_range p mask c start end h e =
    let k = range_clear p mask c start end e in
    (go (read_key start) (read_key end) refl refl k.0, ltb-false 64 (length (edit c (SetResponders start end mask)).ranges) k.1)
  where
    unread_start : read_key start ≡ None → c ≡ edit c (SetResponders start end mask)
    unread_start f = sym (simp f)

    unread_end : (a : ℕ) → read_key start ≡ Some a → read_key end ≡ None → c ≡ edit c (SetResponders start end mask)
    unread_end a f g = sym (simp (f, g))

    go : (ka kb : Option ℕ) → read_key start ≡ ka → read_key end ≡ kb → crossed (read_key start) (read_key end) ≡ false → Canon (edit c (SetResponders start end mask)).ranges
    go None kb f g x = rw (← unread_start f) h.0
    go (Some a) None f g x = rw (← unread_end a f g) h.0
    go (Some a) (Some b) f g x =
        let q : ltb b a ≡ false = sym (simp (f, g)) ∙ x in
        range_canon c start end mask a b f g h.0 (ltb-false b a q)

good_edit : (p : ℕ) (c : Conf) (e : Edit) → Good c → refusal (grounds p c e) ≡ None → Good (edit c e)
unfolding edit set_responders
good_edit p c (SetLeader r) h e = h
good_edit p c (SetResponders start end mask) h e = good_range p mask c start end h e
good_edit p c (SetFull mask) h e =
    (overwrite_canon c.ranges (range 0 340282366920938463463374607431768211455 mask) h.0 (lit≤ tt), ltb-false 64 (length (set_full mask c).ranges) (full_clear p mask c e))
good_edit p c (IntoFiltered r) h e = good_filtered r c h
good_edit p c ResetFull h e = (tt, omega arith)

good_left : (p : ℕ) (c : Conf) (e : Edit) → Good c → Good (left c (edit_result p c e))
good_left p c e h = go (edit_result p c e) refl
  where
    go : (x : EditResult) → edit_result p c e ≡ x → Good (left c x)
    go (refused n) f = h
    go (taken d) f = let k = answer_taken p c d e f in rw (← k.1) (good_edit p c e h k.0)

pub good_run : (p : ℕ) (c : Conf) (es : List Edit) → Good c → Good (edit_all p c es)
good_run p c [] h = h
good_run p c (e ∷ es) h = good_run p (left c (edit_result p c e)) es (good_left p c e h)

-- whatever the edits from the fresh node's roster
pub reachable : (p : ℕ) (es : List Edit) → Good (edit_all p empty es)
reachable p es = good_run p empty es (tt, omega arith)

pub good_true : (c : Conf) → is_good c ≡ true → Good c
good_true c e =
    let b = and_both (is_canon c.ranges) (leb (length c.ranges) 64) e in
    (canon_true c.ranges b.0, leb-true (length c.ranges) 64 b.1)

pub true_good : (c : Conf) → Good c → is_good c ≡ true
true_good c g = rw (true_canon c.ranges g.0, le-leb (length c.ranges) 64 g.1)

pub edits_make_good : EditsMakeGood
edits_make_good p es = true_good (edit_all p empty es) (reachable p es)
