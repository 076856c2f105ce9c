-- The pair that a guard alters, and the bars counted one by one.
use mathlib.Core.Path.{◌≡◌, refl, sym, ap, ◌∙◌}
use mathlib.Core.Logic.{◌≢◌}
use mathlib.Core.Bool.{Bool, true, false}
use mathlib.Core.List.{List, map}
use Prim.Native.Nat.{ℕ, ◌+◌, ◌≤◌, ◌<◌}
use native.Mathlib.Nat.{zero-add}
use native.Mathlib.Numerals.{add-one}
use native.Mathlib.Omega.{arith}
use lib.ListN.{length, get_or, set, take, length-set}
use lib.Seq.{get_or-set_same, get_or-set_other, take-suc, take-suc-set}
use Rattle.words.specs.Tab.{get_or_tab, tab_set, length_tab}
use Rattle.std.proofs.lemmas.List.{take_all, length-map, get_or-map}
use Rattle.ids.specs.Limits.{replicas}
use Rattle.layout.specs.Layout.{bars_at, pair_words}
use Rattle.bodega.specs.Replica.{Replica, Pair, pair, fresh_pair, with_peer_accept}
use Rattle.bodega.specs.Conflease.{newer, counted, guard_accept_bar, update_peer_accept_max}
use Rattle.peer_accept_bar.specs.Pairs.{pairs_of, guarded}

-- ---- a pair as it stands

pub pair_at : (p : List ℕ) (n i : ℕ) → i < n → pair (get_or p i 0) (get_or p (bars_at + i) 0) ≡ get_or (pairs_of n p) i fresh_pair
unfolding pairs_of
pair_at p n i h = sym (get_or_tab (λ j. pair (get_or p j 0) (get_or p (bars_at + j) 0)) 0 n i fresh_pair h ∙ rw (zero-add i))

pub length_pairs : (p : List ℕ) (n : ℕ) → length (pairs_of n p) ≡ n
unfolding pairs_of
length_pairs p n = length_tab (λ j. pair (get_or p j 0) (get_or p (bars_at + j) 0)) 0 n

-- ---- the bars counted, one by one

abbrev pub bars_of : ℕ → ℕ → List ℕ → List ℕ
bars_of ballot n p = map (counted ballot) (pairs_of n p)

length_bars : (p : List ℕ) (ballot n : ℕ) → length (bars_of ballot n p) ≡ n
length_bars p ballot n = length-map (pairs_of n p) (counted ballot) ∙ length_pairs p n

pub fill : (p b : List ℕ) (ballot n i v : ℕ) (x : Pair) → i < length b → i < n → x ≡ get_or (pairs_of n p) i fresh_pair → v ≡ counted ballot x
    → take i b ≡ take i (bars_of ballot n p) → take (i + 1) (set b i v) ≡ take (i + 1) (bars_of ballot n p)
fill p b ballot n i v x h l e f g =
    let at : v ≡ get_or (bars_of ballot n p) i 0 =
    f ∙ ap (counted ballot) e ∙ sym (get_or-map (counted ballot) (pairs_of n p) i fresh_pair 0 (omega (arith, length_pairs p n))) in
    rw add-one (take-suc-set b i v h ∙ rw (g, at) (sym (take-suc (bars_of ballot n p) i 0 (omega (arith, length_bars p ballot n)))))

pub filled : (p b : List ℕ) (ballot n i : ℕ) → i ≡ n → take i b ≡ take i (bars_of ballot n p) → take n b ≡ bars_of ballot n p
filled p b ballot n i e g = (rw e at g) ∙ take_all n (bars_of ballot n p) (omega (arith, length_bars p ballot n))

-- ---- the pair altered

module _ (p : List ℕ) (n i number bar : ℕ) (h : i < n) (k : n ≤ replicas) (l : pair_words ≤ length p) where
  abbrev moved : List ℕ
  moved = set (set p i number) (bars_at + i) bar

  here : pair (get_or moved i 0) (get_or moved (bars_at + i) 0) ≡ pair number bar
  here =
      rw (get_or-set_other (set p i number) (bars_at + i) i bar 0 (omega arith), get_or-set_same p i number 0 (omega arith), get_or-set_same (set p i number) (bars_at + i) bar 0 (rw (length-set p i number) (omega arith)))

  there : (j : ℕ) → j < replicas → j ≢ i → pair (get_or moved j 0) (get_or moved (bars_at + j) 0) ≡ pair (get_or p j 0) (get_or p (bars_at + j) 0)
  there j f g =
      rw (get_or-set_other (set p i number) (bars_at + i) j bar 0 (omega arith), get_or-set_other p i j number 0 g, get_or-set_other (set p i number) (bars_at + i) (bars_at + j) bar 0 (omega arith), get_or-set_other p i (bars_at + j) number 0 (omega arith))

  pub pairs_moved : pairs_of n moved ≡ set (pairs_of n p) i (pair number bar)
  unfolding pairs_of
  pairs_moved =
      tab_set (λ j. pair (get_or p j 0) (get_or p (bars_at + j) 0)) (λ j. pair (get_or moved j 0) (get_or moved (bars_at + j) 0)) 0 n i (pair number bar) h (rw (zero-add i) here)
      (λ j x y z. there j (omega arith) (omega arith))

-- ---- a guard, of a replica

pub guards : (r : Replica) (peer number bar : ℕ) → guard_accept_bar r peer number bar ≡ with_peer_accept (guarded r.me.quorum r.bal.max_seen peer number bar r.peer_accept) r
unfolding guard_accept_bar update_peer_accept_max
guards r peer number bar = go (newer (get_or r.peer_accept.bar peer fresh_pair) number bar) refl
  where
    go : (b : Bool) → newer (get_or r.peer_accept.bar peer fresh_pair) number bar ≡ b → guard_accept_bar r peer number bar ≡ with_peer_accept (guarded r.me.quorum r.bal.max_seen peer number bar r.peer_accept) r
    go true e = rw e
    go false e = rw e
