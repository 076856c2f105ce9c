-- What the proofs of this crate share, and that the lists say what the machine says of a whole replica. Assumes
-- nothing.
use Rattle.std.specs.Prelude.{if◌then◌else◌}
use mathlib.Core.Path.{◌≡◌, refl, sym, ap, ◌∙◌}
use mathlib.Core.Bool.{Bool, true, false, ◌||◌, ◌&&◌, and-true}
use mathlib.Core.List.{List, [], ◌∷◌, ◌++◌}
use Prim.Native.Nat.{ℕ, zero, suc, ◌+◌, ◌≤◌, ◌<◌, max}
use native.Mathlib.Nat.{zero-add, add-zero}
use native.Mathlib.Omega.{arith}
use lib.Dec.{ltb, leb, eqb}
use lib.ListN.{length, get_or, set}
use Rattle.std.specs.List.{list_all, range_with_len}
use Rattle.std.proofs.lemmas.List.Folds.{list_all-append}
use lib.Seq.{get_or-set_same, get_or-set_other}
use borrow.Author.Tests.{lt-ltb, le-ltb}
use Rattle.words.specs.Tab.{words_from, get_or_tab, tab_set}
use Rattle.bitmap.specs.Bitmap.{every}
use Rattle.bodega.specs.Replica.{Replica, with_snap, with_peer_exec_bar}
use Rattle.bodega.specs.Heartbeat.{heard_exec_bar, heard_snap_bar}
use Rattle.peer_exec_bar.specs.Execs.{all_passed, execs_heard, snap_heard, Hears, execs_left, snap_left}

-- ---- whether all have passed

range_snoc : (a n : ℕ) → range_with_len a (suc n) ≡ range_with_len a n ++ ((a + n) ∷ [])
range_snoc a zero = simp add-zero
range_snoc a (suc n) = let e : a + suc n ≡ a + 1 + n = omega arith in rw e (ap (λ (l : List ℕ). a ∷ l) (range_snoc (a + 1) n))

every_range : (f : ℕ → Bool) (n : ℕ) → list_all f (range_with_len 0 n) ≡ every n f
unfolding every
every_range f zero = refl
every_range f (suc n) =
    ap (list_all f) (range_snoc 0 n) ∙ list_all-append f (range_with_len 0 n) ((0 + n) ∷ []) ∙ rw (every_range f n, zero-add) (ap (λ (b : Bool). every n f && b) (and-true (f n)))

every_same : (n : ℕ) (f g : ℕ → Bool) → ((i : ℕ) → i < n → f i ≡ g i) → every n f ≡ every n g
unfolding every
every_same zero f g h = refl
every_same (suc n) f g h = rw (every_same n f g (λ i l. h i (omega arith)), h n (omega arith)) refl

bar_at_lem : (s : List ℕ) (n i : ℕ) → i < n → get_or (words_from n s 0) i 0 ≡ get_or s i 0
bar_at_lem s n i h = get_or_tab (λ j. get_or s j 0) 0 n i 0 h ∙ rw zero-add

pub passed_by : (s : List ℕ) (n id exec : ℕ) → list_all (λ p. eqb p id || leb exec (get_or s p 0)) (range_with_len 0 n) ≡ all_passed n id exec (words_from n s 0)
passed_by s n id exec =
    every_range (λ p. eqb p id || leb exec (get_or s p 0)) n
    ∙ every_same n _ _ (λ i l. ap (λ (x : ℕ). eqb i id || leb exec x) (sym (bar_at_lem s n i l)))

-- ---- a peer's exec bar

module _ (n id peer exec snap : ℕ) (s : List ℕ) (long : n ≤ length s) (h : peer < n) where
  set_bar : words_from n (set s peer exec) 0 ≡ set (words_from n s 0) peer exec
  set_bar =
      tab_set (λ j. get_or s j 0) (λ j. get_or (set s peer exec) j 0) 0 n peer exec h (rw zero-add (get_or-set_same s peer exec 0 (omega arith)))
      (λ j a b ne. get_or-set_other s peer j exec 0 (omega arith))

  pub not_larger : exec ≤ get_or s peer 0 → Hears n id peer exec snap s snap s
  unfolding snap_heard
  not_larger f =
      let e : ltb (get_or s peer 0) exec ≡ false = le-ltb (get_or s peer 0) exec f in
      let g : ltb (get_or (words_from n s 0) peer 0) exec ≡ false = rw (bar_at_lem s n peer h) e in
      record { execs = sym (simp g); answer = sym (simp g); words = sym (simp e) }

  module _ (f : get_or s peer 0 < exec) where
    larger : ltb (get_or s peer 0) exec ≡ true
    larger = lt-ltb (get_or s peer 0) exec f

    larger_bar : ltb (get_or (words_from n s 0) peer 0) exec ≡ true
    larger_bar = rw (bar_at_lem s n peer h) larger

    module _ (t : Bool) (e : t ≡ all_passed n id exec (words_from n (set s peer exec) 0)) where
      passed_is : all_passed n id exec (set (words_from n s 0) peer exec) ≡ t
      passed_is = ap (all_passed n id exec) (sym set_bar) ∙ sym e

      pub all_have : t ≡ true → Hears n id peer exec snap s exec (set s peer exec)
      unfolding snap_heard
      all_have g = record { execs = set_bar ∙ sym (simp larger_bar); answer = sym (simp (larger_bar, passed_is ∙ g)); words = sym (simp larger) }

      pub not_all : t ≡ false → Hears n id peer exec snap s snap (set s peer exec)
      unfolding snap_heard
      not_all g = record { execs = set_bar ∙ sym (simp larger_bar); answer = sym (simp (larger_bar, passed_is ∙ g)); words = sym (simp larger) }

-- ---- the machine

pub heard_exec_bar_lem : (peer exec : ℕ) (r : Replica) → heard_exec_bar peer exec r
    ≡ with_snap (snap_heard r.me.population r.me.id peer exec r.peer_exec_bar r.bar.snap) (with_peer_exec_bar (execs_heard peer exec r.peer_exec_bar) r)
unfolding heard_exec_bar snap_heard
heard_exec_bar_lem peer exec r = go (ltb (get_or r.peer_exec_bar peer 0) exec) (all_passed r.me.population r.me.id exec (set r.peer_exec_bar peer exec))
  where
    s : Replica
    s = with_peer_exec_bar (set r.peer_exec_bar peer exec) r

    go : (t p : Bool) → (if t then (if p then with_snap exec s else s) else r)
        ≡ with_snap (if t then (if p then exec else r.bar.snap) else r.bar.snap) (with_peer_exec_bar (if t then set r.peer_exec_bar peer exec else r.peer_exec_bar) r)
    go true true = refl
    go true false = refl
    go false p = refl

pub heard_peer : (peer exec snap : ℕ) (r : Replica) → (if eqb peer r.me.id then r else heard_snap_bar snap (heard_exec_bar peer exec r))
    ≡ with_snap (snap_left r.me.population r.me.id peer exec snap r.peer_exec_bar r.bar.snap) (with_peer_exec_bar (execs_left r.me.id peer exec r.peer_exec_bar) r)
heard_peer peer exec snap r = go (eqb peer r.me.id)
  where
    x : ℕ
    x = snap_heard r.me.population r.me.id peer exec r.peer_exec_bar r.bar.snap

    go : (t : Bool) → (if t then r else heard_snap_bar snap (heard_exec_bar peer exec r))
        ≡ with_snap (if t then r.bar.snap else max x snap) (with_peer_exec_bar (if t then r.peer_exec_bar else execs_heard peer exec r.peer_exec_bar) r)
    go true = refl
    go false = ap (heard_snap_bar snap) (heard_exec_bar_lem peer exec r)
