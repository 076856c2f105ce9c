-- The first and the last open slot of a list.
use Rattle.std.specs.Prelude.{if◌then◌else◌}
use mathlib.Core.Path.{◌≡◌, refl, sym, ap, ◌∙◌}
use mathlib.Core.Bool.{Bool, true, false, ◌&&◌, ◌||◌, not, true≢false}
use mathlib.Core.List.{List, [], ◌∷◌, ◌++◌}
use Prim.Native.Nat.{suc, ◌≤◌, ◌<◌}
use native.Mathlib.Omega.{arith}
use lib.ListN.{length}
use Rattle.bodega.specs.Replica.{Instance, is_open, null_instance}
use Rattle.bodega.specs.Conflease.{first_open, last_open, any_open}
use Rattle.bodega.specs.Grounds.{any}
use Rattle.become_a_leader.specs.StepUp.{opened}

pub any_is : (l : List Instance) → any (λ (i : Instance). is_open i.status) l ≡ any_open l
unfolding any_open
any_is [] = refl
any_is (i ∷ l) = ap (λ (b : Bool). is_open i.status || b) (any_is l)

-- ---- none is open

pub first_none : (l : List Instance) → any_open l ≡ false → first_open l ≡ length l
unfolding any_open first_open
first_none [] e = refl
first_none (i ∷ l) e = go (is_open i.status) (any_open l) e (first_none l)
  where
    go : (a b : Bool) → (a || b) ≡ false → (b ≡ false → first_open l ≡ length l) → (if a then 0 else suc (first_open l)) ≡ suc (length l)
    go true b e h = absurd (true≢false e)
    go false b e h = ap suc (h e)

pub last_none : (l : List Instance) → any_open l ≡ false → last_open l ≡ length l
unfolding any_open last_open
last_none [] e = refl
last_none (i ∷ l) e = go (is_open i.status) (any_open l) e (last_none l)
  where
    go : (a b : Bool) → (a || b) ≡ false → (b ≡ false → last_open l ≡ length l) → (if a && not b then 0 else suc (last_open l)) ≡ suc (length l)
    go true b e h = absurd (true≢false e)
    go false b e h = ap suc (h e)

pub none_cons : (i : Instance) (l : List Instance) → is_open i.status ≡ false → any_open l ≡ false → any_open (i ∷ l) ≡ false
unfolding any_open
none_cons i l e f = rw (e, f)

-- ---- one is open

module _ (i : Instance) (m : List Instance) (o : is_open i.status ≡ true) where
  pub any_at : (l : List Instance) → any_open (l ++ i ∷ m) ≡ true
  unfolding any_open
  any_at [] = rw o
  any_at (x ∷ l) = go (is_open x.status) (any_open (l ++ i ∷ m)) (any_at l)
    where
      go : (a b : Bool) → b ≡ true → (a || b) ≡ true
      go true b e = refl
      go false b e = e

  -- none before it
  pub first_at : (l : List Instance) → any_open l ≡ false → first_open (l ++ i ∷ m) ≡ length l
  unfolding any_open first_open
  first_at [] e = rw o
  first_at (x ∷ l) e = go (is_open x.status) (any_open l) e (first_at l)
    where
      go : (a b : Bool) → (a || b) ≡ false → (b ≡ false → first_open (l ++ i ∷ m) ≡ length l) → (if a then 0 else suc (first_open (l ++ i ∷ m))) ≡ suc (length l)
      go true b e h = absurd (true≢false e)
      go false b e h = ap suc (h e)

  -- none after it
  pub last_at : (l : List Instance) → any_open m ≡ false → last_open (l ++ i ∷ m) ≡ length l
  unfolding last_open
  last_at [] e = rw (o, e)
  last_at (x ∷ l) e = go (is_open x.status) (any_open (l ++ i ∷ m)) (any_at l) (last_at l e)
    where
      go : (a b : Bool) → b ≡ true → last_open (l ++ i ∷ m) ≡ length l → (if a && not b then 0 else suc (last_open (l ++ i ∷ m))) ≡ suc (length l)
      go true true e h = ap suc h
      go true false e h = absurd (true≢false (sym e))
      go false b e h = ap suc h

pub first_last : (l : List Instance) → first_open l ≤ last_open l
unfolding first_open last_open
first_last [] = omega arith
first_last (i ∷ l) = go (is_open i.status) (any_open l) (first_last l)
  where
    go : (a b : Bool) → first_open l ≤ last_open l → (if a then 0 else suc (first_open l)) ≤ (if a && not b then 0 else suc (last_open l))
    go true true h = omega arith
    go true false h = omega arith
    go false b h = omega arith

pub last_within : (l : List Instance) → any_open l ≡ true → last_open l < length l
unfolding any_open last_open
last_within [] e = absurd (true≢false (sym e))
last_within (i ∷ l) e = go (is_open i.status) (any_open l) e (last_within l)
  where
    go : (a b : Bool) → (a || b) ≡ true → (b ≡ true → last_open l < length l) → (if a && not b then 0 else suc (last_open l)) < suc (length l)
    go true true e h = let z = h refl in omega arith
    go true false e h = omega arith
    go false b e h = let z = h e in omega arith

-- ---- a null slot appended where none is

module _ (l : List Instance) where
  opened_none : any_open l ≡ false → opened l ≡ l ++ (null_instance ∷ [])
  opened_none e = rw e

  pub opened_some : any_open l ≡ true → opened l ≡ l
  opened_some e = rw e

  pub any_opened : any_open (opened l) ≡ true
  any_opened = go (any_open l) refl
    where
      go : (b : Bool) → any_open l ≡ b → any_open (opened l) ≡ true
      go true e = ap any_open (opened_some e) ∙ e
      go false e = ap any_open (opened_none e) ∙ any_at null_instance [] refl l

  pub first_opened : first_open (opened l) ≡ first_open l
  first_opened = go (any_open l) refl
    where
      go : (b : Bool) → any_open l ≡ b → first_open (opened l) ≡ first_open l
      go true e = ap first_open (opened_some e)
      go false e = ap first_open (opened_none e) ∙ first_at null_instance [] refl l e ∙ sym (first_none l e)

  pub last_opened : last_open (opened l) ≡ last_open l
  unfolding any_open
  last_opened = go (any_open l) refl
    where
      go : (b : Bool) → any_open l ≡ b → last_open (opened l) ≡ last_open l
      go true e = ap last_open (opened_some e)
      go false e = ap last_open (opened_none e) ∙ last_at null_instance [] refl l refl ∙ sym (last_none l e)
