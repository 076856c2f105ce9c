-- What the proofs of this crate share: the answers as numbers, and that an edit of a roster with no leader and default
-- 0 makes another.
use Rattle.std.specs.Prelude.{if◌then◌else◌, option_map}
use mathlib.Core.Path.{◌≡◌, refl, sym, ap, ◌∙◌}
use mathlib.Core.Bool.{Bool, true, false, ◌&&◌}
use mathlib.Core.List.{List}
use Rattle.std.specs.Prelude.{Option, None, Some}
use Prim.Native.Nat.{ℕ, ◌-◌, ◌^◌, ◌<◌}
use native.Mathlib.Omega.{arith}
use lib.Dec.{ltb}
use lib.ListN.{length}
use lib.Arith.{digits_div, digits_mod}
use Rattle.words.specs.Choice.{if_none◌then◌else◌}
use Rattle.inty.specs.declared.Inty.{Inty}
use Rattle.inty.specs.Value.{value_of}
use Rattle.bitmap.specs.Bitmap.{get, set_to, unmark}
use Rattle.keys.specs.Read.{read_key}
use Rattle.roster_conf.specs.declared.RespondersConf.{RespondersConf}
use Rattle.roster_conf.specs.Conf.{Conf, set_responders, into_filtered}
use Rattle.roster_conf.specs.Ground.{refusal}
use Rattle.roster_conf.specs.Edit.{Edit, SetResponders, SetFull, IntoFiltered, between, edit, grounds, EditResult, refused, taken, edit_result}
use Rattle.roster_conf.specs.Edits.{view, holds_rows, in_range, due, Gives, Edits}
use Rattle.export_roster.specs.declared.Key.{Key}
use Rattle.export_roster.specs.declared.Count.{Count}
use Rattle.export_roster.specs.Numbers.{key_of, plain, count_of, Answers, Counts}
use Rattle.std.specs.Prelude.{Result, Ok, Err}
use Rattle.ids.specs.declared.Refusal.{Refusal}

-- ---- a key

module _ (key : List ℕ) (k : Option Inty) (e : option_map value_of k ≡ read_key key) where
  pub key_unread : k ≡ None → ◌≡◌ {A = Key} (record { read = 0; hi = 0; lo = 0 }) (key_of (read_key key))
  unfolding key_of
  key_unread f = let q : read_key key ≡ None = sym e ∙ ap (option_map value_of) f in sym (simp q)

  pub key_read : (n : Inty) → k ≡ Some n → n.lo < 2 ^ 64 → ◌≡◌ {A = Key} (record { read = 1; hi = n.hi; lo = n.lo }) (key_of (read_key key))
  unfolding key_of
  key_read n f h =
      let q : read_key key ≡ Some (value_of n) = sym e ∙ ap (option_map value_of) f in
      sym (simp (q, digits_div n.hi h, digits_mod n.hi h))

-- ---- an edit

abbrev Bare : Conf → Type 0
Bare c = (c.leader ≡ None) × (c.default ≡ 0)

-- where it is taken, a roster with no leader and default 0
abbrev Fine : EditResult → Type 0
Fine (refused k) = Unit {0}
Fine (taken c) = Bare c

due_fine : (p n : ℕ) (s : List ℕ) (e : Edit) → Bare (edit (view (plain n 0) s) e) → Fine (due p (plain n 0) s e)
unfolding due edit_result
due_fine p n s e b = go (holds_rows (length s) n && in_range p)
  where
    by : (o : Option ℕ) → Fine (if_none o then taken (edit (view (plain n 0) s) e) else refused)
    by None = b
    by (Some k) = tt

    go : (t : Bool) → Fine (if t then edit_result p (view (plain n 0) s) e else refused 2)
    go true = by (refusal (grounds p (view (plain n 0) s) e))
    go false = tt

-- what the number and the count say is what the answer says
gives : (a : EditResult) (n : ℕ) (s after : List ℕ) (d : Result RespondersConf Refusal) → Fine a → Gives a d s after → Answers a n s (count_of d n) after
unfolding view
gives (refused k) n s after (Err j) f g = (g.0, refl, g.1)
gives (refused k) n s after (Ok d) f g = absurd g
gives (taken c) n s after (Err j) f g = absurd g
gives (taken c) n s after (Ok d) f g = (
  refl,
  record {
    roster = λ i. record { leader = sym f.0 i; ranges = (g.roster i).ranges; default = sym f.1 i };
    few = g.few;
    beyond = g.beyond;
  },
)

counts : (e : Edit) (p n : ℕ) (s after : List ℕ) (c : RespondersConf) (d : Result RespondersConf Refusal) (r : Count) → Bare (edit (view (plain n 0) s) e)
    → c ≡ plain n 0 → Edits e p c s d after → r ≡ count_of d n → Counts e p n s r after
counts e p n s after c d r b f g h = rw h (gives (due p (plain n 0) s e) n s after d (due_fine p n s e b) (rw f at g))

bare_between : (start end : Option ℕ) (mask : ℕ) (c : Conf) → Bare c → Bare (between start end mask c)
unfolding set_responders
bare_between None end mask c b = b
bare_between (Some x) None mask c b = b
bare_between (Some x) (Some y) mask c b = b

module _ (p n : ℕ) (s after : List ℕ) (c : RespondersConf) (d : Result RespondersConf Refusal) (r : Count) (f : c ≡ plain n 0) (h : r ≡ count_of d n) where
  pub range_counts : (start end : List ℕ) (mask : ℕ) → Edits (SetResponders start end mask) p c s d after → Counts (SetResponders start end mask) p n s r after
  unfolding edit view
  range_counts start end mask g = counts (SetResponders start end mask) p n s after c d r (bare_between (read_key start) (read_key end) mask (view (plain n 0) s) (refl, refl)) f g h

  pub whole_counts : (mask : ℕ) → Edits (SetFull mask) p c s d after → Counts (SetFull mask) p n s r after
  unfolding edit view set_responders
  whole_counts mask g = counts (SetFull mask) p n s after c d r (refl, refl) f g h

  pub drop_counts : (id : ℕ) → Edits (IntoFiltered id) p c s d after → Counts (IntoFiltered id) p n s r after
  unfolding edit view into_filtered set_to unmark
  drop_counts id g = counts (IntoFiltered id) p n s after c d r (refl, unmarked (ltb id 64 && get 0 id)) f g h
    where
      unmarked : (b : Bool) → (if b then 0 - 2 ^ id else 0) ≡ 0
      unmarked true = omega arith
      unmarked false = refl
