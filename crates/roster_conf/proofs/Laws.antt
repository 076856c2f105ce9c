-- What the proofs of the edits share: from the code's tests to the ground that applies, and from what is stored to the
-- roster.
use Rattle.std.specs.Prelude.{if◌then◌else◌, option_map}
use mathlib.Core.Path.{◌≡◌, refl, sym, ap, ◌∙◌}
use mathlib.Core.Bool.{Bool, true, false, not, ◌&&◌}
use mathlib.Core.List.{List}
use Rattle.std.specs.Prelude.{Option, None, Some}
use Prim.Native.Nat.{ℕ, ◌*◌, ◌≤◌, ◌<◌}
use native.Mathlib.Omega.{arith}
use lib.Dec.{ltb, leb}
use lib.ListN.{length}
use borrow.Author.Tests.{lt-ltb, le-ltb, le-leb, lt-leb, leb-true, not-true, not-false}
use Rattle.words.specs.Choice.{if_none◌then◌else◌}
use Rattle.words.proofs.Tests.{and_both}
use Rattle.ids.specs.declared.Replica.{Replica}
use Rattle.ids.specs.Leader.{leader_of}
use Rattle.words.specs.Part.{Untouched}
use Rattle.layout.specs.Layout.{roster_row, roster_words}
use Rattle.inty.specs.declared.Inty.{Inty}
use Rattle.inty.specs.Value.{value_of}
use Rattle.bitmap.specs.Bitmap.{fits, set_to}
use Rattle.keys.specs.Read.{read_key}
use Rattle.roster_ranges.specs.Range.{Range, mask_at, overwrite, remasked}
use Rattle.roster_map.specs.declared.Row.{Row}
use Rattle.roster_map.specs.Rows.{range_of, ranges_of, Stores}
use Rattle.roster_map.proofs.Laws.{length_ranges}
use Rattle.roster_conf.specs.declared.RespondersConf.{RespondersConf}
use Rattle.roster_conf.specs.Conf.{Conf, empty, get_responders_by_key, leader_without, set_responders, into_filtered}
use Rattle.roster_conf.specs.Ground.{refusal}
use Rattle.roster_conf.specs.Edit.{Edit, SetLeader, SetResponders, SetFull, IntoFiltered, ResetFull, edit, grounds, too_many, refused, taken, edit_result}
use Rattle.roster_conf.specs.Edits.{view, holds_rows, in_range, due, Leaves, Gives, lookup}
use Rattle.roster_conf.specs.Asks.{ready, stored, storing, Asks}
use Rattle.std.specs.Prelude.{Result, Ok, Err, ok_or}
use Rattle.ids.specs.declared.Refusal.{Refusal}
use Rattle.ids.specs.declared.Refusal.TheVariants.{NotReady, NoSuchReplica, MaskTooWide, KeyTooLong, UnreadBound, RangeReversed}
use Rattle.ids.specs.Refusal.{number_of}

-- the default roster
pub default_is : (rows : List ℕ) → view (record { leader = None; count = 0; default = 0 }) rows ≡ empty
unfolding view ranges_of
default_is rows = refl

-- ---- whether the edit can begin

zero_one : ◌≡◌ {A = ℕ} 0 1 → ⊥
zero_one e = omega arith

module _ (len count p : ℕ) where
  was_ready : (v : Unit {0}) → Ok v ≡ ready count len p → holds_rows len count && in_range p ≡ true
  was_ready v e = go (holds_rows len count && in_range p) refl
    where
      go : (b : Bool) → holds_rows len count && in_range p ≡ b → holds_rows len count && in_range p ≡ true
      go true f = f
      go false f = let k : Ok v ≡ Err NotReady = e ∙ simp f in let z : ◌≡◌ {A = ℕ} 0 1 = cc in absurd (zero_one z)

  was_unready : (x : Refusal) → Err x ≡ ready count len p → (holds_rows len count && in_range p ≡ false) × (x ≡ NotReady)
  was_unready x e = go (holds_rows len count && in_range p) refl
    where
      go : (b : Bool) → holds_rows len count && in_range p ≡ b → (holds_rows len count && in_range p ≡ false) × (x ≡ NotReady)
      go true f = let k : Err x ≡ Ok tt = e ∙ simp f in let z : ◌≡◌ {A = ℕ} 0 1 = cc in absurd (zero_one z)
      go false f = let k : Err x ≡ Err NotReady = e ∙ simp f in (f, cc)

  pub ready_rows : (v : Unit {0}) → Ok v ≡ ready count len p → (count ≤ 64) × (roster_words ≤ len)
  ready_rows v e =
      let w = and_both (leb roster_words len) (leb count 64) (and_both (holds_rows len count) (in_range p) (was_ready v e)).0 in
      (leb-true count 64 w.1, leb-true roster_words len w.0)

-- what `ok_or` was given, where it is a refusal
module _ {A : Type 0} where
  none_or : (o : Option A) (e x : Refusal) → Err x ≡ ok_or o e → (o ≡ None) × (x ≡ e)
  none_or None e x h = (refl, cc)
  none_or (Some y) e x h = let z : ◌≡◌ {A = ℕ} 0 1 = cc in absurd (zero_one z)

-- ---- what is due

module _ (p : ℕ) (c : RespondersConf) (s : List ℕ) (e : Edit) where
  pub unready : (x : Refusal) → Err x ≡ ready c.count (length s) p → Gives (due p c s e) (Err x) s s
  unfolding due
  unready x r = let k = was_unready (length s) c.count p x r in rw (k.0, k.1) (refl, refl)

  module _ (v : Unit {0}) (r : Ok v ≡ ready c.count (length s) p) where
    due_answer : due p c s e ≡ edit_result p (view c s) e
    unfolding due
    due_answer = ap (λ (b : Bool). if b then edit_result p (view c s) e else refused 2) (was_ready (length s) c.count p v r)

    refuses : (n : Refusal) → refusal (grounds p (view c s) e) ≡ Some (number_of n) → Gives (due p c s e) (Err n) s s
    unfolding edit_result
    refuses n g = rw (due_answer ∙ ap (λ (o : Option ℕ). if_none o then taken (edit (view c s) e) else refused) g) (refl, refl)

    takes : (d : RespondersConf) (after : List ℕ) → refusal (grounds p (view c s) e) ≡ None → Leaves (edit (view c s) e) s d after → Gives (due p c s e) (Ok d) s after
    unfolding edit_result
    takes d after g l = rw (due_answer ∙ ap (λ (o : Option ℕ). if_none o then taken (edit (view c s) e) else refused) g) l

-- the words are the same, and so is the number of rows or there is none
module _ (p : ℕ) (c : RespondersConf) (s : List ℕ) (v : Unit {0}) (r : Ok v ≡ ready c.count (length s) p) where
  pub leader_3 : (l : ℕ) → p ≤ l → Gives (due p c s (SetLeader l)) (Err NoSuchReplica) s s
  unfolding grounds
  leader_3 l h = refuses p c s (SetLeader l) v r NoSuchReplica (simp (le-leb p l h))

  pub leader_set : (l : Replica) → l.0 < p → Gives (due p c s (SetLeader l.0)) (Ok (record { leader = Some l; count = c.count; default = c.default })) s s
  unfolding grounds edit view
  leader_set l h =
      takes p c s (SetLeader l.0) v r _ s (simp (lt-leb p l.0 h)) (record { roster = refl; few = (ready_rows (length s) c.count p v r).0; beyond = λ j k. refl })

  pub reset : Gives (due p c s ResetFull) (Ok (record { leader = None; count = 0; default = c.default })) s s
  unfolding grounds edit view ranges_of
  reset = takes p c s ResetFull v r _ s refl (record { roster = refl; few = omega arith; beyond = λ j k. refl })

-- ---- a range: what is asked for, and what is stored

module _ (c : RespondersConf) (s : List ℕ) (w : Row) (after : List ℕ) (n : ℕ) where
  abbrev over : List Range
  over = overwrite (ranges_of s c.count) (range_of w)

  pub store_17 : (o : Result (Unit {0}) Refusal) (y : Refusal) → Stores over s o after n → o ≡ Err y → Gives (storing (stored (view c s) w)) (Err y) s after
  unfolding set_responders view
  store_17 o y x e =
      let k : Stores over s (Err y) after n = rw e at x in
      rw (lt-ltb 64 (length over) k.0, k.1) (refl, k.2)

  pub store_taken : (o : Result (Unit {0}) Refusal) (u : Unit {0}) → Stores over s o after n → o ≡ Ok u → Gives (storing (stored (view c s) w)) (Ok (record { leader = c.leader; count = n; default = c.default })) s after
  unfolding set_responders view
  store_taken o u x e =
      let k : Stores over s (Ok u) after n = rw e at x in
      rw (le-ltb 64 (length over) k.0)
      (record { roster = ap (λ (l : List Range). record { leader = leader_of c.leader; ranges = l; default = c.default }) k.1; few = omega (arith, length_ranges after n, ap length k.1); beyond = k.2 })

-- an answer that no roster changes, or the row stored
module _ (p : ℕ) (c : RespondersConf) (s : List ℕ) (e : Edit) (v : Unit {0}) (r : Ok v ≡ ready c.count (length s) p) where
  pub asked_refused : (n : Refusal) → ((d : Conf) → edit_result p d e ≡ refused (number_of n)) → Gives (due p c s e) (Err n) s s
  asked_refused n h = rw (due_answer p c s e v r ∙ h (view c s)) (refl, refl)

  pub asked_stored : (w : Row) (d : Result RespondersConf Refusal) (after : List ℕ) → ((x : Conf) → edit_result p x e ≡ storing (stored x w)) → Gives (storing (stored (view c s) w)) d s after
      → Gives (due p c s e) d s after
  asked_stored w d after h g = rw (due_answer p c s e v r ∙ h (view c s)) g

module _ (p : ℕ) (c : RespondersConf) (s start end : List ℕ) (mask : ℕ) (v : Unit {0}) (r : Ok v ≡ ready c.count (length s) p) where
  pub range_refused : (n : Refusal) → Asks p start end mask (Err n) → Gives (due p c s (SetResponders start end mask)) (Err n) s s
  range_refused n a = asked_refused p c s (SetResponders start end mask) v r n a

  pub range_stored : (w : Row) → Asks p start end mask (Ok w) → (d : Result RespondersConf Refusal) (after : List ℕ) → Gives (storing (stored (view c s) w)) d s after → Gives (due p c s (SetResponders start end mask)) d s after
  range_stored w a d after g = asked_stored p c s (SetResponders start end mask) v r w d after a g

-- the grounds up to 17 do not apply
only_17 : (p : ℕ) (c : Conf) (e : Edit) → refusal (grounds p c e) ≡ (if too_many (edit c e) then Some 17 else None) → edit_result p c e ≡ storing (edit c e)
unfolding edit_result
only_17 p c e h = ap (λ (o : Option ℕ). if_none o then taken (edit c e) else refused) h ∙ go (too_many (edit c e))
  where
    go : (b : Bool) → (if_none (if b then Some 17 else None) then taken (edit c e) else refused) ≡ (if b then refused 17 else taken (edit c e))
    go true = refl
    go false = refl

turned_away : (p : ℕ) (c : Conf) (e : Edit) (n : ℕ) → refusal (grounds p c e) ≡ Some n → edit_result p c e ≡ refused n
unfolding edit_result
turned_away p c e n h = ap (λ (o : Option ℕ). if_none o then taken (edit c e) else refused) h

module _ (p mask : ℕ) (t4 : Bool) (e4 : t4 ≡ fits mask p) where
  pub full_4 : (c : RespondersConf) (s : List ℕ) (v : Unit {0}) → Ok v ≡ ready c.count (length s) p → t4 ≡ false
      → Gives (due p c s (SetFull mask)) (Err MaskTooWide) s s
  unfolding grounds
  full_4 c s v r g = refuses p c s (SetFull mask) v r MaskTooWide (simp (sym e4 ∙ g))

  pub range_4 : (start end : List ℕ) → t4 ≡ false → Asks p start end mask (Err MaskTooWide)
  unfolding grounds
  range_4 start end g c = turned_away p c (SetResponders start end mask) 4 (simp (sym e4 ∙ g))

  module _ (f4 : t4 ≡ true) where
    ok4 : fits mask p ≡ true
    ok4 = sym e4 ∙ f4

    pub full_stored : (c : RespondersConf) (s : List ℕ) (v : Unit {0}) → Ok v ≡ ready c.count (length s) p → (d : Result RespondersConf Refusal) (after : List ℕ)
        → Gives (storing (stored (view c s) (record { start = record { hi = 0; lo = 0 }; end = record { hi = 18446744073709551615; lo = 18446744073709551615 }; mask = mask }))) d s after
        → Gives (due p c s (SetFull mask)) d s after
    unfolding grounds edit
    full_stored c s v r d after g =
        asked_stored p c s (SetFull mask) v r (record { start = record { hi = 0; lo = 0 }; end = record { hi = 18446744073709551615; lo = 18446744073709551615 }; mask = mask }) d after
        (λ x. only_17 p x (SetFull mask) (simp ok4)) g

    module _ (start end : List ℕ) where
      pub range_5 : 48 < length start → Asks p start end mask (Err KeyTooLong)
      unfolding grounds
      range_5 g c = turned_away p c (SetResponders start end mask) 5 (simp (ok4, lt-ltb 48 (length start) g))

      module _ (g : length start ≤ 48) where
        pub range_5_end : 48 < length end → Asks p start end mask (Err KeyTooLong)
        unfolding grounds
        range_5_end h c = turned_away p c (SetResponders start end mask) 5 (simp (ok4, le-ltb 48 (length start) g, lt-ltb 48 (length end) h))

        module _ (h : length end ≤ 48) (ka : Option Inty) (ea : option_map value_of ka ≡ read_key start) where
          pub range_6 : (x : Refusal) → Err x ≡ ok_or ka UnreadBound → Asks p start end mask (Err x)
          unfolding grounds
          range_6 x k c =
              let n = none_or ka UnreadBound x k in
              let q : read_key start ≡ None = sym ea ∙ ap (option_map value_of) n.0 in
              rw n.1 (turned_away p c (SetResponders start end mask) 6 (simp (ok4, le-ltb 48 (length start) g, le-ltb 48 (length end) h, q)))

          module _ (a : Inty) (fa : ka ≡ Some a) (kb : Option Inty) (eb : option_map value_of kb ≡ read_key end) where
            start_is : read_key start ≡ Some (value_of a)
            start_is = sym ea ∙ ap (option_map value_of) fa

            pub range_6_end : (x : Refusal) → Err x ≡ ok_or kb UnreadBound → Asks p start end mask (Err x)
            unfolding grounds
            range_6_end x k c =
                let n = none_or kb UnreadBound x k in
                let q : read_key end ≡ None = sym eb ∙ ap (option_map value_of) n.0 in
                rw n.1 (turned_away p c (SetResponders start end mask) 6 (simp (ok4, le-ltb 48 (length start) g, le-ltb 48 (length end) h, start_is, q)))

            module _ (b : Inty) (fb : kb ≡ Some b) (t7 : Bool) (e7 : t7 ≡ ltb (value_of b) (value_of a)) where
              end_is : read_key end ≡ Some (value_of b)
              end_is = sym eb ∙ ap (option_map value_of) fb

              pub range_7 : t7 ≡ true → Asks p start end mask (Err RangeReversed)
              unfolding grounds
              range_7 k c = turned_away p c (SetResponders start end mask) 7 (simp (ok4, le-ltb 48 (length start) g, le-ltb 48 (length end) h, start_is, end_is, sym e7 ∙ k))

              pub range_asked : t7 ≡ false → Asks p start end mask (Ok (record { start = a; end = b; mask = mask }))
              unfolding grounds edit
              range_asked k c =
                  let q : edit c (SetResponders start end mask) ≡ stored c (record { start = a; end = b; mask = mask }) = simp (start_is, end_is) in
                  only_17 p c (SetResponders start end mask) (simp (ok4, le-ltb 48 (length start) g, le-ltb 48 (length end) h, start_is, end_is, sym e7 ∙ k)) ∙ ap storing q

-- ---- the filter

module _ (p : ℕ) (c : RespondersConf) (s : List ℕ) (v : Unit {0}) (r : Ok v ≡ ready c.count (length s) p) (id : Replica) where
  pub filter_3 : p ≤ id.0 → Gives (due p c s (IntoFiltered id.0)) (Err NoSuchReplica) s s
  unfolding grounds
  filter_3 h = refuses p c s (IntoFiltered id.0) v r NoSuchReplica (simp (le-leb p id.0 h))

  pub filter_set : (n m : ℕ) (d : Option Replica) (after : List ℕ) → id.0 < p → ranges_of after n ≡ remasked (λ k. set_to k id.0 false) (ranges_of s c.count) → n ≤ c.count
      → Untouched (c.count * roster_row) s after → leader_of d ≡ leader_without id.0 (leader_of c.leader) → m ≡ set_to c.default id.0 false
      → Gives (due p c s (IntoFiltered id.0)) (Ok (record { leader = d; count = n; default = m })) s after
  unfolding grounds edit into_filtered view
  filter_set n m d after h w k u e g =
      let few : c.count ≤ 64 = (ready_rows (length s) c.count p v r).0 in
      takes p c s (IntoFiltered id.0) v r _ after (simp (lt-leb p id.0 h))
      (record { roster = λ i. record { leader = e i; ranges = w i; default = g i }; few = omega arith; beyond = λ j b. u j (omega arith) })

-- ---- lookup

module _ (c : RespondersConf) (s key : List ℕ) (t : Bool) (e : t ≡ holds_rows (length s) c.count) where
  pub lookup_2 : not t ≡ true → Err NotReady ≡ lookup c s key
  unfolding lookup
  lookup_2 f = sym (simp (sym e ∙ not-true t f))

  module _ (f : not t ≡ false) (k : Option Inty) (g : option_map value_of k ≡ read_key key) where
    pub lookup_none : k ≡ None → Ok None ≡ lookup c s key
    unfolding lookup get_responders_by_key
    lookup_none h = let q : read_key key ≡ None = sym g ∙ ap (option_map value_of) h in sym (simp (sym e ∙ not-false t f, q))

    pub lookup_mask : (n : Inty) (m : ℕ) → k ≡ Some n → m ≡ mask_at c.default (ranges_of s c.count) (value_of n) → Ok (Some m) ≡ lookup c s key
    unfolding lookup get_responders_by_key view
    lookup_mask n m h w =
        let q : read_key key ≡ Some (value_of n) = sym g ∙ ap (option_map value_of) h in
        ap (λ (x : ℕ). Ok (Some x)) w ∙ sym (simp (sym e ∙ not-false t f, q))
