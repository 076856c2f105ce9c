-- The two passes of a step-up as functions on lists, and how many items it has.
use Rattle.std.specs.Prelude.{if◌then◌else◌}
use mathlib.Core.Path.{◌≡◌, refl, sym, ap, ◌∙◌}
use mathlib.Core.Bool.{Bool, true, false, ◌||◌, true≢false, cond}
use mathlib.Core.List.{List, [], ◌∷◌, ◌++◌, map}
use Rattle.std.specs.Prelude.{Option, None, Some}
use Prim.Native.Nat.{ℕ, zero, suc, ◌+◌, ◌-◌, ◌*◌, ◌≤◌}
use native.Mathlib.Nat.{not-suc-le-zero}
use native.Mathlib.Omega.{arith}
use lib.ListN.{length, take, drop, length-append}
use lib.Seq.{drop-append_seam}
use Rattle.items.specs.Item.{Item, Lead, Prelog, Prepare}
use Rattle.bodega.specs.Replica.{Instance, Preparing, is_open, null_instance}
use Rattle.bodega.specs.Conflease.{first_open, last_open, any_open, prelogs, reprepared}
use Rattle.bodega.specs.Heartbeat.{Walk}
use Rattle.release_held_reads.specs.Release.{holding_of, answers_of, emptied}
use Rattle.release_held_reads.proofs.Laws.{length_answers}
use Rattle.advance_commit_bar.proofs.Pass.{pass}
use Rattle.advance_commit_bar.proofs.Laws.{is_open_at}
use Rattle.std.specs.List.{filter, position_from, fold}
use Rattle.std.specs.Option.{unwrap_or}
use Rattle.become_a_leader.specs.StepUp.{opened, prepared_anew, released_from, step_up, prelog_of}
use Rattle.become_a_leader.proofs.Open.{first_none, first_last, any_opened, first_opened, last_opened, opened_some}

-- a pass that does not stop
abbrev pub never : Instance → Bool
never i = false

abbrev pub answers_at : ℕ → Option ℕ → ℕ → Instance → List Item
answers_at quorum leader slot i = answers_of quorum leader i

pub prelog_pass : (ballot slot m : ℕ) (l : List Instance) → length l ≤ m → pass never (reprepared ballot) prelog_of slot m l ≡ prepared_anew slot ballot l
unfolding pass prelogs
prelog_pass ballot slot zero [] h = refl
prelog_pass ballot slot zero (i ∷ l) h = absurd (not-suc-le-zero h)
prelog_pass ballot slot (suc m) [] h = refl
prelog_pass ballot slot (suc m) (i ∷ l) h =
    rw (prelog_pass ballot (slot + 1) m l (omega arith)) (go (is_open i.status))
  where
    go : (b : Bool) → ◌≡◌ {A = Walk}
        (record { insts = reprepared ballot i ∷ map (reprepared ballot) l; items = (if b then Prelog slot ∷ [] else []) ++ prelogs (slot + 1) l })
        (record { insts = reprepared ballot i ∷ map (reprepared ballot) l; items = if b then Prelog slot ∷ prelogs (slot + 1) l else prelogs (slot + 1) l })
    go true = refl
    go false = refl

pub release_pass : (quorum : ℕ) (leader : Option ℕ) (slot m : ℕ) (l : List Instance) → pass never emptied (answers_at quorum leader) slot m l ≡ released_from quorum leader m l
unfolding pass released_from
release_pass quorum leader slot zero l = refl
release_pass quorum leader slot (suc m) [] = refl
release_pass quorum leader slot (suc m) (i ∷ l) = rw (release_pass quorum leader (slot + 1) m l)

-- ---- how many items

drop_map : (f : Instance → Instance) (k : ℕ) (l : List Instance) → drop k (map f l) ≡ map f (drop k l)
drop_map f zero l = refl
drop_map f (suc k) [] = refl
drop_map f (suc k) (i ∷ l) = drop_map f k l

same_holding : (ballot : ℕ) (i : Instance) → holding_of (reprepared ballot i) ≡ holding_of i
same_holding ballot i = go (is_open i.status)
  where
    go : (b : Bool) → holding_of (if b then record { bal = ballot; status = Preparing; reqs = i.reqs; leader_bk = Some 0; replica_bk = i.replica_bk } else i) ≡ holding_of i
    go true = refl
    go false = refl

-- whoever answers them, and after the slots are prepared anew
pub same_count : (quorum quorum' : ℕ) (leader leader' : Option ℕ) (ballot m : ℕ) (l : List Instance)
    → length (released_from quorum leader m (map (reprepared ballot) l)).items ≡ length (released_from quorum' leader' m l).items
unfolding released_from
same_count quorum quorum' leader leader' ballot zero l = refl
same_count quorum quorum' leader leader' ballot (suc m) [] = refl
same_count quorum quorum' leader leader' ballot (suc m) (i ∷ l) =
    let p = length-append (answers_of quorum leader (reprepared ballot i)) (released_from quorum leader m (map (reprepared ballot) l)).items in
    let q = length-append (answers_of quorum' leader' i) (released_from quorum' leader' m l).items in
    p ∙ (rw (one, same_count quorum quorum' leader leader' ballot m l) (sym q))
  where
    one : length (answers_of quorum leader (reprepared ballot i)) ≡ length (answers_of quorum' leader' i)
    one = length_answers quorum leader (reprepared ballot i) ∙ ap length (same_holding ballot i) ∙ sym (length_answers quorum' leader' i)

pub ends : (x y : Item) (a b : List Item) → length (x ∷ a ++ b ++ (y ∷ [])) ≡ 2 + length a + length b
ends x y a b = omega (arith, length-append (a ++ b) (y ∷ []), length-append a b)

module _ (start quorum : ℕ) (leader : Option ℕ) (ballot : ℕ) (l : List Instance) where
  pub count_is : length (step_up start quorum leader ballot l).items
      ≡ 2 + length (prelogs start (opened l)) + length (released_from 0 None (suc (last_open l - first_open l)) (drop (first_open l) (opened l))).items
  unfolding step_up
  count_is =
      let w : List Item = (released_from quorum leader (suc (last_open l - first_open l)) (drop (first_open l) (map (reprepared ballot) (opened l)))).items in
      let e : length w ≡ length (released_from 0 None (suc (last_open l - first_open l)) (drop (first_open l) (opened l))).items =
      ap (λ (x : List Instance). length (released_from quorum leader (suc (last_open l - first_open l)) x).items) (drop_map (reprepared ballot) (first_open l) (opened l))
      ∙ same_count quorum 0 leader None ballot (suc (last_open l - first_open l)) (drop (first_open l) (opened l)) in
      ends (Lead true) (Prepare (start + first_open l) ballot) (prelogs start (opened l)) w ∙ ap (λ (j : ℕ). 2 + length (prelogs start (opened l)) + j) e

  -- a step-up of the slots with the null one
  pub step_opened : step_up start quorum leader ballot (opened l) ≡ step_up start quorum leader ballot l
  unfolding step_up
  step_opened = rw (opened_some (opened l) (any_opened l), first_opened l, last_opened l)

-- where a slot is open, by the numbers of the first and of the one after the last
pub step_some : (start quorum : ℕ) (leader : Option ℕ) (ballot : ℕ) (l : List Instance) → any_open l ≡ true → (from to : ℕ) → from ≡ first_open l → to ≡ last_open l + 1
    → step_up start quorum leader ballot l
    ≡ (let p = prepared_anew start ballot l in let w = released_from quorum leader (to - from) (drop from p.insts) in
    record { insts = take from p.insts ++ w.insts; items = Lead true ∷ p.items ++ w.items ++ (Prepare (start + from) ballot ∷ []) })
unfolding step_up
step_some start quorum leader ballot l e from to f g =
    let z : to - from ≡ suc (last_open l - first_open l) = omega (arith, first_last l) in
    rw (opened_some l e, z, f)

-- ---- as the code searches and counts

pub first_is : (l : List Instance) (k : ℕ) → unwrap_or (position_from is_open_at k l) (k + length l) ≡ k + first_open l
unfolding first_open
first_is [] k = refl
first_is (i ∷ l) k = go (is_open i.status) (first_is l (k + 1))
  where
    go : (b : Bool) → unwrap_or (position_from is_open_at (k + 1) l) (k + 1 + length l) ≡ k + 1 + first_open l
        → unwrap_or (cond b (Some k) (position_from is_open_at (k + 1) l)) (k + suc (length l)) ≡ k + (if b then 0 else suc (first_open l))
    go true e = omega arith
    go false e = let z : k + suc (length l) ≡ k + 1 + length l = omega arith in rw (z, e) (omega arith)

pub count_prelogs : (slot : ℕ) (l : List Instance) → length (filter is_open_at l) ≡ length (prelogs slot l)
unfolding prelogs
count_prelogs slot [] = refl
count_prelogs slot (i ∷ l) = go (is_open i.status) (count_prelogs (slot + 1) l)
  where
    go : (b : Bool) → length (filter is_open_at l) ≡ length (prelogs (slot + 1) l)
        → length (cond b (i ∷ filter is_open_at l) (filter is_open_at l)) ≡ length (if b then Prelog slot ∷ prelogs (slot + 1) l else prelogs (slot + 1) l)
    go true e = ap suc e
    go false e = e

pub prelogs_few : (slot : ℕ) (l : List Instance) → length (prelogs slot l) ≤ length l
unfolding prelogs
prelogs_few slot [] = omega arith
prelogs_few slot (i ∷ l) = go (is_open i.status) (prelogs_few (slot + 1) l)
  where
    go : (b : Bool) → length (prelogs (slot + 1) l) ≤ length l → length (if b then Prelog slot ∷ prelogs (slot + 1) l else prelogs (slot + 1) l) ≤ suc (length l)
    go true e = omega arith
    go false e = omega arith

pub sum_map : {A B : Type 0} (g : B → ℕ) (f : A → B) (n : ℕ) (l : List A) → fold (λ a x. a + g (f x)) n l ≡ fold (λ a x. a + g x) n (map f l)
sum_map g f n [] = refl
sum_map g f n (x ∷ l) = sum_map g f (n + g (f x)) l

pub sum_few : {A : Type 0} (h : A → ℕ) (b : ℕ) → ((x : A) → h x ≤ b) → (n : ℕ) (l : List A) → fold (λ a x. a + h x) n l ≤ n + length l * b
sum_few h b f n [] = omega arith
sum_few h b f n (x ∷ l) = omega (arith, sum_few h b f (n + h x) l, f x)

pub held_sum : (n m : ℕ) (l : List Instance) → fold (λ a i. a + length (holding_of i)) n (take m l) ≡ n + length (released_from 0 None m l).items
unfolding released_from
held_sum n zero l = omega arith
held_sum n (suc m) [] = omega arith
held_sum n (suc m) (i ∷ l) =
    omega (arith, held_sum (n + length (holding_of i)) m l, length_answers 0 None i, length-append (answers_of 0 None i) (released_from 0 None m l).items)

one_prelog : (start : ℕ) (l : List Instance) → any_open l ≡ false → length (prelogs start (l ++ (null_instance ∷ []))) ≡ 1
unfolding any_open prelogs
one_prelog start [] e = refl
one_prelog start (i ∷ l) e = go (is_open i.status) (any_open l) e (one_prelog (start + 1) l)
  where
    go : (a b : Bool) → (a || b) ≡ false → (b ≡ false → length (prelogs (start + 1) (l ++ (null_instance ∷ []))) ≡ 1)
        → length (if a then Prelog start ∷ prelogs (start + 1) (l ++ (null_instance ∷ [])) else prelogs (start + 1) (l ++ (null_instance ∷ []))) ≡ 1
    go true b e h = absurd (true≢false e)
    go false b e h = h e

no_reads : (m : ℕ) → length (released_from 0 None m (null_instance ∷ [])).items ≡ 0
unfolding released_from
no_reads zero = refl
no_reads (suc zero) = refl
no_reads (suc (suc m)) = refl

module _ (start quorum : ℕ) (leader : Option ℕ) (ballot : ℕ) (l : List Instance) where
  -- lead, the null slot's prelog, prepare
  pub count_none : any_open l ≡ false → 3 ≡ length (step_up start quorum leader ballot l).items
  count_none e =
      let o : opened l ≡ l ++ (null_instance ∷ []) = rw e in
      let d : drop (first_open l) (l ++ (null_instance ∷ [])) ≡ null_instance ∷ [] = rw (first_none l e) (drop-append_seam l (null_instance ∷ [])) in
      sym (count_is start quorum leader ballot l ∙ rw (o, d, one_prelog start l e, no_reads (suc (last_open l - first_open l))))

  pub count_some : any_open l ≡ true → (from to opens held : ℕ) → from ≡ first_open l → to ≡ last_open l + 1 → opens ≡ length (prelogs start l)
      → held ≡ length (released_from 0 None (to - from) (drop from l)).items → 2 + opens + held ≡ length (step_up start quorum leader ballot l).items
  count_some e from to opens held f t o h =
      let z : to - from ≡ suc (last_open l - first_open l) = omega (arith, first_last l) in
      rw (o, h, z, f) (sym (count_is start quorum leader ballot l ∙ rw (opened_some l e)))
