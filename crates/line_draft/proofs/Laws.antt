-- A line's fields as the arguments of an edit.
use Rattle.std.specs.Prelude.{if◌then◌else◌, Result}
use mathlib.Core.Path.{◌≡◌, refl, sym, subst, ◌∙◌}
use mathlib.Core.Bool.{Bool, true, false, ◌&&◌}
use mathlib.Core.List.{List}
use Prim.Native.Nat.{ℕ, ◌≤◌}
use native.Mathlib.Omega.{arith}
use lib.Dec.{leb, ltb}
use lib.ListN.{length}
use borrow.Author.Tests.{le-leb, leb-true, ltb-true}
use Rattle.words.proofs.Tests.{and_both}
use Rattle.ids.specs.declared.Refusal.{Refusal}
use Rattle.roster_conf.specs.declared.RespondersConf.{RespondersConf}
use Rattle.roster_conf.specs.Edit.{Edit, SetLeader, IntoFiltered, EditResult, grounds, edit_result, refused}
use Rattle.roster_conf.specs.Edits.{Edits, Gives, due, view, holds_rows, in_range}
use Rattle.line_host.specs.Follows.{as_byte}

-- ---- a replica number that no byte has

module _ (population : ℕ) (c : RespondersConf) (rows : List ℕ) where
  far : (i : ℕ) → 255 ≤ i → holds_rows (length rows) c.count && in_range population ≡ true → leb population i ≡ true
  far i l e = le-leb population i (omega (arith, leb-true population 64 (and_both (leb 1 population) (leb population 64) (and_both (holds_rows (length rows) c.count) (in_range population) e).1).1))

  -- any edit that is refused 3 from the population on
  as_byte_lem : (e : ℕ → Edit) → ((i : ℕ) → leb population i ≡ true → edit_result population (view c rows) (e i) ≡ refused 3) → (b id : ℕ) (r : Result RespondersConf Refusal) (rows' : List ℕ) → b ≡ as_byte id
      → Edits (e b) population c rows r rows' → Edits (e id) population c rows r rows'
  unfolding due
  as_byte_lem e f b id r rows' q x = go (ltb 255 id) refl (rw q at x)
    where
      due_3 : (i : ℕ) → 255 ≤ i → (t : Bool) → holds_rows (length rows) c.count && in_range population ≡ t → (if t then edit_result population (view c rows) (e i) else refused 2) ≡ (if t then refused 3 else refused 2)
      due_3 i l true g = f i (far i l g)
      due_3 i l false g = refl

      go : (t : Bool) → ltb 255 id ≡ t → Edits (e (if t then 255 else id)) population c rows r rows' → Edits (e id) population c rows r rows'
      go true g y =
          let k = due_3 255 (omega arith) (holds_rows (length rows) c.count && in_range population) refl ∙ sym (due_3 id (omega (arith, ltb-true 255 id g)) (holds_rows (length rows) c.count && in_range population) refl) in
          subst (λ (z : EditResult). Gives z r rows rows') k y
      go false g y = y

  pub to_leader : (b id : ℕ) (r : Result RespondersConf Refusal) (rows' : List ℕ) → b ≡ as_byte id → Edits (SetLeader b) population c rows r rows' → Edits (SetLeader id) population c rows r rows'
  unfolding edit_result grounds
  to_leader = as_byte_lem SetLeader (λ i g. rw g)

  pub to_dropped : (b id : ℕ) (r : Result RespondersConf Refusal) (rows' : List ℕ) → b ≡ as_byte id → Edits (IntoFiltered b) population c rows r rows' → Edits (IntoFiltered id) population c rows r rows'
  unfolding edit_result grounds
  to_dropped = as_byte_lem IntoFiltered (λ i g. rw g)
