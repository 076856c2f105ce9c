-- A group, the rows of the groups and the record line, with premises as the code has them.
use Rattle.std.specs.Prelude.{if◌then◌else◌, Option, None, Some}
use mathlib.Core.Path.{◌≡◌, refl, sym, ap, ◌∙◌}
use mathlib.Core.Bool.{Bool, true, false, ◌||◌, not, true≢false, and-false}
use mathlib.Core.List.{List, [], ◌∷◌, ◌++◌, append_assoc, append-nil}
use mathlib.Core.Logic.{inl}
use Prim.Native.Nat.{ℕ, ◌+◌, ◌-◌, ◌*◌, ◌/◌, ◌≤◌, ◌<◌}
use native.Mathlib.Nat.{add-zero, zero-add}
use native.Mathlib.Decide.{dec_lt}
use native.Mathlib.Omega.{arith}
use lib.ListN.{length, get_or, take}
use lib.Seq.{get_or-take, length-take-le}
use denote.Bor.{Bor}
use Rattle.words.specs.Text.{Bytes}
use Rattle.words.specs.Choice.{if_none◌then◌else◌}
use Rattle.words.specs.Part.{part}
use Rattle.words.specs.Tab.{tab, tab_ext, tab_snoc}
use Rattle.words.specs.Writes.{writes, Agrees, writes_other, writes_same, length_writes}
use Rattle.line_fields.specs.declared.Field.{Field}
use Rattle.line_fields.specs.Split.{fields_from}
use Rattle.line_fields.specs.Number.{value_of, has_byte, is_number}
use Rattle.line_fields.specs.Reads.{none_left, between, ReadsField, FirstNumber, is_optional, FirstOptional}
use borrow.Author.Tests.{ltb-false}
use Rattle.line_fields.proofs.Laws.{from_past, some_left, all_read, none_left_lem}
use Rattle.line_reader.specs.declared.LineReader.{LineReader}
use Rattle.line_reader.specs.Takes.{moved_to, TakesField, TakesNumber, TakesOptional}
use Rattle.bodega.specs.Replica.{Request, Put, Get}
use Rattle.inst_reqs.specs.Batch.{command_at}
use Rattle.req_batch.specs.Given.{given_from, given_at, given}
use Rattle.line_host.specs.Line.{are_groups, command_of, batch_of}
use Rattle.line_record.specs.declared.Group.{Group}
use Rattle.line_record.specs.Groups.{request_in, row_of, FirstGroup, TakesGroup, AllGroups}

-- ---- a group

-- no group: the first field is no number, the second one, the fourth one is none
no_client : (fs : List Bytes) → none_left fs ≡ false → is_number (get_or fs 0 []) ≡ false → are_groups fs ≡ false
unfolding are_groups
no_client [] l e = absurd (true≢false l)
no_client (a ∷ []) l e = refl
no_client (a ∷ b ∷ []) l e = refl
no_client (a ∷ b ∷ c ∷ []) l e = refl
no_client (a ∷ b ∷ c ∷ d ∷ fs) l e = rw e

no_request : (a : Bytes) (fs : List Bytes) → is_number (get_or fs 0 []) ≡ false → are_groups (a ∷ fs) ≡ false
unfolding are_groups
no_request a [] e = refl
no_request a (b ∷ []) e = refl
no_request a (b ∷ c ∷ []) e = refl
no_request a (b ∷ c ∷ d ∷ fs) e = rw (e, and-false)

no_command : (a b c : Bytes) (fs : List Bytes) → is_optional fs ≡ false → are_groups (a ∷ b ∷ c ∷ fs) ≡ false
unfolding are_groups
no_command a b c [] e = refl
no_command a b c (d ∷ fs) e = rw (e, and-false)

two_alone : (a b : Bytes) → are_groups (a ∷ b ∷ []) ≡ false
unfolding are_groups
two_alone a b = refl

one_group : (a b c d : Bytes) (fs : List Bytes) → is_number a ≡ true → is_number b ≡ true → not (has_byte d) || is_number d ≡ true → are_groups (a ∷ b ∷ c ∷ d ∷ fs) ≡ are_groups fs
unfolding are_groups
one_group a b c d fs e f g = rw (e, f, g)

one_request : (a b c d : Bytes) (fs : List Bytes) → batch_of (a ∷ b ∷ c ∷ d ∷ fs) ≡ record { client = value_of a; request = value_of b; key = c; command = command_of d } ∷ batch_of fs
unfolding batch_of
one_request a b c d fs = refl

-- "empty VALUE meaning a Get"
command_is : (b : Bool) (o : Option ℕ) (w : ℕ) → o ≡ (if b then Some w else None) → (if_none o then Get else Put) ≡ (if b then Put w else Get)
command_is true o w e = rw e
command_is false o w e = rw e

module _ (s : Bytes) (at : ℕ) where
  group_client : is_number (get_or (fields_from s at) 0 []) ≡ false → at ≤ length s → are_groups (fields_from s at) ≡ false
  group_client e h = no_client (fields_from s at) (ap none_left (some_left s at h)) e

  module _ (v n : ℕ) (a : FirstNumber s at (record { value = v; next = n })) where
    group_request : is_number (get_or (fields_from s n) 0 []) ≡ false → are_groups (fields_from s at) ≡ false
    group_request e = rw a.here (no_request (get_or (fields_from s at) 0 []) (fields_from s n) e)

    module _ (w m : ℕ) (b : FirstNumber s n (record { value = w; next = m })) (key : Field) (c : ReadsField s m key) where
      two : fields_from s at ≡ get_or (fields_from s at) 0 [] ∷ get_or (fields_from s n) 0 [] ∷ fields_from s m
      two = a.here ∙ ap {B = List Bytes} (λ l. get_or (fields_from s at) 0 [] ∷ l) b.here

      three : m ≤ length s → fields_from s at ≡ get_or (fields_from s at) 0 [] ∷ get_or (fields_from s n) 0 [] ∷ between s key.start key.end ∷ fields_from s key.next
      three h = two ∙ ap {B = List Bytes} (λ l. get_or (fields_from s at) 0 [] ∷ get_or (fields_from s n) 0 [] ∷ l) (c.first h).here

      group_value : is_optional (fields_from s key.next) ≡ false → are_groups (fields_from s at) ≡ false
      group_value e =
          elim (dec_lt (length s) m) [
            | yes h ↦ ap are_groups (two ∙ ap {B = List Bytes} (λ l. get_or (fields_from s at) 0 [] ∷ get_or (fields_from s n) 0 [] ∷ l) (c.past h).none) ∙ two_alone (get_or (fields_from s at) 0 []) (get_or (fields_from s n) 0 [])
            | no h ↦ ap are_groups (three (omega arith)) ∙ no_command (get_or (fields_from s at) 0 []) (get_or (fields_from s n) 0 []) (between s key.start key.end) (fields_from s key.next) e
          ]

      module _ (o : Option ℕ) (k : ℕ) (d : FirstOptional s key.next (record { value = o; next = k })) where
        -- past the end there is no field
        key_in : m ≤ length s
        key_in =
            elim (dec_lt (length s) m) [
              | yes h ↦
                  (let p = c.past h in
                  let e : fields_from s key.next ≡ [] = ap (λ (x : Field). fields_from s x.next) p.stands ∙ p.none in
                  absurd (true≢false (sym (ap none_left e) ∙ ap none_left d.here)))
              | no h ↦ omega arith
            ]

        four : fields_from s at ≡ get_or (fields_from s at) 0 [] ∷ get_or (fields_from s n) 0 [] ∷ between s key.start key.end ∷ get_or (fields_from s key.next) 0 [] ∷ fields_from s k
        four = three key_in ∙ ap {B = List Bytes} (λ l. get_or (fields_from s at) 0 [] ∷ get_or (fields_from s n) 0 [] ∷ between s key.start key.end ∷ l) d.here

        group_whole : FirstGroup s at (record { client = v; request = w; value = o; start = key.start; length = key.end - key.start }) k
        unfolding part
        group_whole =
            let z = c.first key_in in
            let t : not (has_byte (get_or (fields_from s key.next) 0 [])) || is_number (get_or (fields_from s key.next) 0 []) ≡ true =
            (let l : none_left (fields_from s key.next) ≡ false = ap none_left d.here in rw l at d.good) in
            record {
              low = omega (arith, a.low, b.low, z.low, z.next, d.low);
              good =
                  ap are_groups four
                  ∙ one_group (get_or (fields_from s at) 0 []) (get_or (fields_from s n) 0 []) (between s key.start key.end) (get_or (fields_from s key.next) 0 []) (fields_from s k) a.good b.good t;
              batch =
                  ap batch_of four
                  ∙ one_request (get_or (fields_from s at) 0 []) (get_or (fields_from s n) 0 []) (between s key.start key.end) (get_or (fields_from s key.next) 0 []) (fields_from s k)
                  ∙ rw (a.value, b.value, command_is (has_byte (get_or (fields_from s key.next) 0 [])) o (value_of (get_or (fields_from s key.next) 0 [])) d.value);
            }

-- by what a reader took
module _ (r₀ : LineReader) where
  pub other_client : is_number (get_or (fields_from r₀.line.now r₀.at) 0 []) ≡ false → r₀.at ≤ length r₀.line.now → are_groups (fields_from r₀.line.now r₀.at) ≡ false
  other_client n = group_client r₀.line.now r₀.at n

  module _ (v : ℕ) (r₁ : LineReader) (a : TakesNumber r₀ (Some v) r₁) where
    line_is : r₁.line ≡ r₀.line
    line_is = ap (λ (r : LineReader). r.line) a.1

    pub other_request : is_number (get_or (fields_from r₁.line.now r₁.at) 0 []) ≡ false → r₀.at ≤ length r₀.line.now → are_groups (fields_from r₀.line.now r₀.at) ≡ false
    other_request n = λ _. group_request r₀.line.now r₀.at v r₁.at a.0 (rw line_is at n)

    module _ (w : ℕ) (r₂ : LineReader) (b : TakesNumber r₁ (Some w) r₂) where
      second : FirstNumber r₀.line.now r₁.at (record { value = w; next = r₂.at })
      second = rw line_is at b.0

      line_is_2 : r₂.line ≡ r₀.line
      line_is_2 = ap (λ (r : LineReader). r.line) b.1 ∙ line_is

      module _ (key : Field) (r₃ : LineReader) (c : TakesField r₂ key r₃) where
        third : ReadsField r₀.line.now r₂.at key
        third = rw line_is_2 at c.0

        line_is_3 : r₃.line ≡ r₀.line
        line_is_3 = ap (λ (r : LineReader). r.line) c.1 ∙ line_is_2

        at_is_3 : r₃.at ≡ key.next
        at_is_3 = ap (λ (r : LineReader). r.at) c.1

        pub other_value : is_optional (fields_from r₃.line.now r₃.at) ≡ false → r₀.at ≤ length r₀.line.now → are_groups (fields_from r₀.line.now r₀.at) ≡ false
        other_value n = λ _. group_value r₀.line.now r₀.at v r₁.at a.0 w r₂.at second key third (rw (line_is_3, at_is_3) at n)

        pub whole_group : (o : Option ℕ) (r₄ : LineReader) → TakesOptional r₃ (Some o) r₄ → TakesGroup r₀ (Some (record { client = v; request = w; value = o; start = key.start; length = key.end - key.start })) r₄
        whole_group o r₄ d = (
          group_whole r₀.line.now r₀.at v r₁.at a.0 w r₂.at second key third o r₄.at (rw (line_is_3, at_is_3) at d.0),
          d.1 ∙ ap (λ (l : Bor (List ℕ)). moved_to (record { line = l; at = r₄.at }) r₄.at) line_is_3,
        )

-- ---- the rows of the groups

given_near : (s' s text : List ℕ) (p : ℕ) → Agrees s' s p (p + 6) → given_from s' text p ≡ given_from s text p
unfolding given_from
given_near s' s text p h =
    let e : get_or s' p 0 ≡ get_or s p 0 = h p (omega arith) (omega arith) in
    rw (
      e,
      h (p + 1) (omega arith) (omega arith),
      h (p + 2) (omega arith) (omega arith),
      h (p + 3) (omega arith) (omega arith),
      h (p + 4) (omega arith) (omega arith),
      h (p + 5) (omega arith) (omega arith),
    )

row_command : (o : Option ℕ) → command_at (if_none o then 0 else λ v. 1) (if_none o then 0 else λ v. v) ≡ (if_none o then Get else Put)
row_command None = refl
row_command (Some v) = refl

-- a row that was written is read back
given_row : (rows text : List ℕ) (p : ℕ) (g : Group) → p + 6 ≤ length rows → given_from (writes rows p (row_of g)) text p ≡ request_in text g
unfolding given_from
given_row rows text p g h =
    let w = writes_same rows p (row_of g) in
    let e : get_or (writes rows p (row_of g)) p 0 ≡ g.client = rw add-zero at (w 0 h (omega arith)) in
    rw (e, w 1 h (omega arith), w 2 h (omega arith), w 3 h (omega arith), w 4 h (omega arith), w 5 h (omega arith), row_command g.value)

pub given_take : (rows text : List ℕ) (n : ℕ) → n * 6 ≤ length rows → given (take (n * 6) rows) text ≡ tab (given_at rows text) 0 n
unfolding given
given_take rows text n h =
    let l : length (take (n * 6) rows) / 6 ≡ n = rw (length-take-le (n * 6) rows h) (omega arith) in
    rw l
    (tab_ext (given_at (take (n * 6) rows) text) (given_at rows text) 0 n
    (λ i a b. given_near (take (n * 6) rows) rows text (i * 6) (λ j x y. get_or-take (n * 6) rows j 0 (omega arith))))

-- n groups are read, and the others begin at next
pub record Grouped (s : Bytes) (at : ℕ) (rows₀ rows : List ℕ) (next n : ℕ) : Type 0 where
  pub size : length rows ≡ length rows₀
  pub few : n ≤ 257
  pub low : n * 4 ≤ next
  pub good : are_groups (fields_from s next) ≡ are_groups (fields_from s at)
  pub batch : tab (given_at rows s) 0 n ++ batch_of (fields_from s next) ≡ batch_of (fields_from s at)

pub grouped_none : (s : Bytes) (at : ℕ) (rows : List ℕ) → Grouped s at rows rows at 0
grouped_none s at rows = record { size = refl; few = omega arith; low = omega arith; good = refl; batch = refl }

some_at : (s : Bytes) (at : ℕ) → false ≡ none_left (fields_from s at) → at ≤ length s
some_at s at e = ltb-false (length s) at (none_left_lem s at ∙ sym e)

-- by where a reader of the line stands
module _ (line : Bor (List ℕ)) (at : ℕ) (rows₀ rows : List ℕ) (r : LineReader) (n : ℕ) (p : Grouped line.now at rows₀ rows r.at n) (q : r.line ≡ line) where
  line_now : r.line.now ≡ line.now
  line_now = ap (λ (b : Bor (List ℕ)). b.now) q

  pub grouped_more : (g : Group) (next : ℕ) (rows' : List ℕ) → n < 257 → 1542 ≤ length rows₀ → FirstGroup r.line.now r.at g next → rows' ≡ writes rows (n * 6) (row_of g) → Grouped line.now at rows₀ rows' next (n + 1)
  grouped_more g next rows' m l h w =
      let f : FirstGroup line.now r.at g next = rw line_now at h in
      let room : n * 6 + 6 ≤ length rows = omega (arith, p.size) in
      let old : tab (given_at rows' line.now) 0 n ≡ tab (given_at rows line.now) 0 n =
      tab_ext (given_at rows' line.now) (given_at rows line.now) 0 n
      (λ i x y. given_near rows' rows line.now (i * 6) (λ j b c. rw w (writes_other rows (n * 6) (row_of g) j (inl (omega arith))))) in
      let new : given_at rows' line.now n ≡ request_in line.now g = rw w (given_row rows line.now (n * 6) g room) in
      record {
        size = ap length w ∙ length_writes rows (n * 6) (row_of g) ∙ p.size;
        few = omega arith;
        low = omega (arith, p.low, f.low);
        good = sym f.good ∙ p.good;
        batch = rw (tab_snoc (given_at rows' line.now) 0 n, zero-add n, old, new, append_assoc, ← f.batch) p.batch;
      }

  pub grouped_bad : false ≡ none_left (fields_from r.line.now r.at) → (r.at ≤ length r.line.now → are_groups (fields_from r.line.now r.at) ≡ false) → are_groups (fields_from line.now at) ≡ false
  grouped_bad e h = sym p.good ∙ (rw line_now at (h (some_at r.line.now r.at e)))

  all_groups : fields_from line.now r.at ≡ [] → 1542 ≤ length rows₀ → AllGroups line.now at n rows
  unfolding are_groups batch_of
  all_groups z l =
      let k : n * 6 ≤ length rows = omega (arith, p.few, p.size) in
      record {
        good = sym p.good ∙ ap are_groups z;
        few = p.few;
        batch =
            given_take rows line.now n k
            ∙ sym (append-nil (tab (given_at rows line.now) 0 n))
            ∙ ap {B = List Request} (λ (l : List Bytes). tab (given_at rows line.now) 0 n ++ batch_of l) (sym z)
            ∙ p.batch;
      }

  pub grouped_all : true ≡ none_left (fields_from r.line.now r.at) → 1542 ≤ length rows₀ → AllGroups line.now at n rows
  grouped_all e l = all_groups (rw line_now at (all_read (fields_from r.line.now r.at) (sym e))) l

  -- a line of at most 1,024 bytes has no more of them
  pub grouped_full : n ≡ 257 → length line.now ≤ 1024 → 1542 ≤ length rows₀ → AllGroups line.now at 257 rows
  grouped_full m h l = rw m at (all_groups (from_past line.now r.at (omega (arith, p.low))) l)
