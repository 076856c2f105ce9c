-- What every call shares: whether a node is ready, and what is due from the grounds that apply.
use Rattle.std.specs.Prelude.{if◌then◌else◌}
use mathlib.Core.Path.{◌≡◌, refl, sym, ap, ◌∙◌}
use mathlib.Core.Bool.{Bool, true, false}
use mathlib.Core.List.{List, [], ◌∷◌, ◌++◌}
use Rattle.std.specs.Prelude.{None, Some, Result, Ok, Err, IsErrAnd}
use Prim.Native.Nat.{ℕ, ◌+◌, ◌≤◌, ◌<◌}
use native.Mathlib.Omega.{arith}
use lib.Dec.{ltb, leb}
use lib.ListN.{length}
use borrow.Author.Tests.{lt-ltb, le-ltb, le-leb, ltb-true, leb-true}
use Rattle.items.specs.Item.{Item, places, encode}
use Rattle.items.specs.Area.{HasRoom}
use Rattle.words.specs.Writes.{writes}
use Rattle.words.specs.Part.{Untouched}
use Rattle.roster_conf.specs.Ground.{Ground, ◌when◌or◌, refusal}
use Rattle.roster_conf.proofs.Grounds.{NoneApply, Positive}
use Rattle.bodega.specs.Replica as machine
use Rattle.bodega.specs.Grounds.{grounds}
use Rattle.bodega.specs.Step.{step, effect, refusal_of}
use Rattle.bodega.specs.Answers.{due, Answers}
use Rattle.bodega.proofs.Taken.{positive}
use Rattle.words.proofs.Tests.{and_both}
use Rattle.ids.specs.Limits.{replicas, window}
use Rattle.layout.specs.Layout.{node_words}
use Rattle.node.specs.declared.Node.{Node}
use Rattle.node.specs.declared.Taken.{Taken}
use Rattle.node.specs.View.{size, view, in_range, ready, lowest, given_of}
use Rattle.ids.specs.Refusal.{number_of}
use Rattle.ids.specs.declared.Refusal.{Refusal}
use Rattle.ids.specs.declared.Refusal.TheVariants.{Malformed, NotReady, NoSuchReplica, MaskTooWide, KeyTooLong, UnreadBound, RangeReversed, SlotTooLarge, BatchTooLarge, OwnGuard, BarsBroken, RosterMissing, BallotNotCurrent, SlotEnded, WindowFull, SlotNotHeld, TooManyRanges, TooManyKeys, TooManyReads, AreaTooSmall}

-- ---- what is known of a ready node

pub record Ready (n : Node) (m : List ℕ) : Type 0 where
  pub long : node_words ≤ length m
  pub quorate : 0 < n.quorum
  pub enough : n.quorum ≤ n.population
  pub few : n.population ≤ replicas
  pub own : n.id.0 < n.population
  pub ranges : n.bodega_conf.count ≤ 64
  pub start_low_lem : n.start_slot.0 ≤ 281474976710655
  pub start_exec_lem : n.start_slot.0 ≤ n.exec_bar.0
  pub exec_commit_lem : n.exec_bar.0 ≤ n.commit_bar.0
  pub window : n.slots ≤ window
  pub commit_end_lem : n.commit_bar.0 ≤ n.start_slot.0 + n.slots

pub is_ready : (n : Node) (m : List ℕ) (t : Bool) → t ≡ ready n m → t ≡ true → Ready n m
unfolding ready
is_ready n m t e f =
    let r = and_both (leb size (length m)) _ (sym e ∙ f) in
    let s = and_both (in_range n.id.0 n.population n.quorum) _ r.1 in
    let a = and_both (ltb 0 n.quorum) _ s.0 in
    let b = and_both (leb n.quorum n.population) _ a.1 in
    let c = and_both (leb n.population replicas) _ b.1 in
    let u = and_both (leb n.bodega_conf.count 64) _ s.1 in
    let v = and_both (leb n.start_slot.0 281474976710655) _ u.1 in
    let w = and_both (leb n.start_slot.0 n.exec_bar.0) _ v.1 in
    let x = and_both (leb n.exec_bar.0 n.commit_bar.0) _ w.1 in
    let y = and_both (leb n.slots window) _ x.1 in
    record {
      long = leb-true node_words (length m) r.0;
      quorate = ltb-true 0 n.quorum a.0;
      enough = leb-true n.quorum n.population b.0;
      few = leb-true n.population replicas c.0;
      own = ltb-true n.id.0 n.population c.1;
      ranges = leb-true n.bodega_conf.count 64 u.0;
      start_low_lem = leb-true n.start_slot.0 281474976710655 v.0;
      start_exec_lem = leb-true n.start_slot.0 n.exec_bar.0 w.0;
      exec_commit_lem = leb-true n.exec_bar.0 n.commit_bar.0 x.0;
      window = leb-true n.slots window y.0;
      commit_end_lem = leb-true n.commit_bar.0 (n.start_slot.0 + n.slots) y.1;
    }

-- and the other way
pub made_ready : (n : Node) (m : List ℕ) → Ready n m → ready n m ≡ true
unfolding ready
made_ready n m r =
    simp (
      le-leb node_words (length m) r.long,
      lt-ltb 0 n.quorum r.quorate,
      le-leb n.quorum n.population r.enough,
      le-leb n.population replicas r.few,
      lt-ltb n.id.0 n.population r.own,
      le-leb n.bodega_conf.count 64 r.ranges,
      le-leb n.start_slot.0 281474976710655 r.start_low_lem,
      le-leb n.start_slot.0 n.exec_bar.0 r.start_exec_lem,
      le-leb n.exec_bar.0 n.commit_bar.0 r.exec_commit_lem,
      le-leb n.slots window r.window,
      le-leb n.commit_bar.0 (n.start_slot.0 + n.slots) r.commit_end_lem,
    )

-- ---- what is due

module _ (c : machine.Call) (n : Node) (m area : List ℕ) (t : Bool) (e : t ≡ ready n m) where
  pub not_ready : t ≡ false → Answers ready view c n m area (given_of n (Err NotReady)) m area
  unfolding due
  not_ready f = rw (sym e ∙ f) (record { number = refl; count = refl; same_node = refl; same_mem = refl; same_area = refl })

  refused : t ≡ true → (x : Refusal) → refusal_of (view n m) c (places area) ≡ Some (number_of x) → Answers ready view c n m area (given_of n (Err x)) m area
  unfolding due step
  refused f x g = rw (sym e ∙ f, g) (record { number = refl; count = refl; same_node = refl; same_mem = refl; same_area = refl })

-- ---- grounds by number

some_lowest : (gs hs : List Ground) → (lowest gs ≡ 0 → ⊥) → refusal (gs ++ hs) ≡ Some (lowest gs)
some_lowest [] hs h = absurd (h refl)
some_lowest (g ∷ gs) hs h = go g.applies refl (some_lowest gs hs)
  where
    go : (b : Bool) → g.applies ≡ b → ((lowest gs ≡ 0 → ⊥) → refusal (gs ++ hs) ≡ Some (lowest gs)) → refusal (g ∷ (gs ++ hs)) ≡ Some (lowest (g ∷ gs))
    go true f ih = rw f
    go false f ih = rw f (ih (λ z. h (rw f z)))

no_lowest : (gs : List Ground) → Positive gs → lowest gs ≡ 0 → NoneApply gs
no_lowest [] p h = tt
no_lowest (g ∷ gs) p h = go g.applies refl (no_lowest gs p.1)
  where
    go : (b : Bool) → g.applies ≡ b → (lowest gs ≡ 0 → NoneApply gs) → (g.applies ≡ false) × NoneApply gs
    go true f ih = let z : g.number ≡ 0 = rw f at h in absurd (omega (arith, z, p.0))
    go false f ih = (f, ih (rw f at h))

none_refuse : (gs hs : List Ground) → NoneApply gs → refusal (gs ++ hs) ≡ refusal hs
none_refuse [] hs n = refl
none_refuse (g ∷ gs) hs n = rw n.0 (none_refuse gs hs n.1)

-- a refusal has a number
pub number-not-0 : (x : Refusal) → number_of x ≡ 0 → ⊥
number-not-0 Malformed e = omega arith
number-not-0 NotReady e = omega arith
number-not-0 NoSuchReplica e = omega arith
number-not-0 MaskTooWide e = omega arith
number-not-0 KeyTooLong e = omega arith
number-not-0 UnreadBound e = omega arith
number-not-0 RangeReversed e = omega arith
number-not-0 SlotTooLarge e = omega arith
number-not-0 BatchTooLarge e = omega arith
number-not-0 OwnGuard e = omega arith
number-not-0 BarsBroken e = omega arith
number-not-0 RosterMissing e = omega arith
number-not-0 BallotNotCurrent e = omega arith
number-not-0 SlotEnded e = omega arith
number-not-0 WindowFull e = omega arith
number-not-0 SlotNotHeld e = omega arith
number-not-0 TooManyRanges e = omega arith
number-not-0 TooManyKeys e = omega arith
number-not-0 TooManyReads e = omega arith
number-not-0 AreaTooSmall e = omega arith

module _ (c : machine.Call) (n : Node) (m area : List ℕ) (t : Bool) (e : t ≡ ready n m) (f : t ≡ true) where
  -- where the test of the grounds refused with x, at the exit by `?`
  pub refused_by : (x : Refusal) (r : Result Taken Refusal) → number_of x ≡ lowest (grounds (view n m) c) → IsErrAnd r (λ y. y ≡ x) → Answers ready view c n m area (given_of n r) m area
  unfolding refusal_of
  refused_by x (Ok y) g w = absurd w
  refused_by x (Err y) g w =
      let l : lowest (grounds (view n m) c) ≡ number_of x = sym g in
      rw w
      (refused c n m area t e f x
      (some_lowest (grounds (view n m) c) (20 when ltb (places area) (length (effect (view n m) c).items) or []) (λ z. number-not-0 x (g ∙ z)) ∙ ap Some l))

-- where it found no ground
module _ (c : machine.Call) (n : Node) (m : List ℕ) (g : 0 ≡ lowest (grounds (view n m) c)) where
  pub none_applies : NoneApply (grounds (view n m) c)
  none_applies = no_lowest (grounds (view n m) c) (positive (view n m) c) (sym g)

  module _ (area : List ℕ) (t : Bool) (e : t ≡ ready n m) (f : t ≡ true) where
    last_ground : refusal_of (view n m) c (places area) ≡ (if ltb (places area) (length (effect (view n m) c).items) then Some 20 else None)
    unfolding refusal_of
    last_ground = none_refuse (grounds (view n m) c) (20 when ltb (places area) (length (effect (view n m) c).items) or []) none_applies

    pub few_places : (x : Refusal) (r : Result Taken Refusal) → HasRoom area (length (effect (view n m) c).items) (Err x) → IsErrAnd r (λ y. y ≡ x)
        → Answers ready view c n m area (given_of n r) m area
    few_places x (Ok y) h w = absurd w
    few_places x (Err y) h w =
        rw (w, h.0)
        (refused c n m area t e f AreaTooSmall (last_ground ∙ ap (λ (b : Bool). if b then Some 20 else None) (lt-ltb (places area) (length (effect (view n m) c).items) h.1)))

    pub taken_with : (r : machine.Replica) (l : List Item) (d : Node) (m' area' : List ℕ) → effect (view n m) c ≡ machine.done r l → length l ≤ places area → view d m' ≡ r
        → area' ≡ writes area 0 (encode l) → length m' ≡ length m → Untouched node_words m m' → ready d m' ≡ true
        → Answers ready view c n m area (given_of n (Ok (record { node = d; count = length l }))) m' area'
    unfolding due step
    taken_with r l d m' area' y p v w s u b =
        rw (sym e ∙ f, last_ground, y, le-ltb (places area) (length l) p) (record { number = refl; count = refl; next = v; items = w; size = s; beyond = u; ready_again = b })

    -- a call without items
    pub taken_by : (r : machine.Replica) (d : Node) (m' : List ℕ) → effect (view n m) c ≡ machine.done r [] → view d m' ≡ r → length m' ≡ length m → Untouched node_words m m' → ready d m' ≡ true
        → Answers ready view c n m area (given_of n (Ok (record { node = d; count = 0 }))) m' area
    unfolding encode
    taken_by r d m' x v s u y = taken_with r [] d m' area x (omega arith) v refl s u y
