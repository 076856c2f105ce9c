-- Trusted: a lent answer area, and what putting an item at a place of it and reading it there leave.
use Rattle.std.specs.Prelude.{Bool, true, false, ◌&&◌, List, [], ◌∷◌, ℕ, ◌+◌, ◌*◌, ◌%◌, ◌^◌, eqb, ltb, get_or, if◌then◌else◌}
use Rattle.std.specs.Prelude.{Option, None, Some, Result, Ok, Err, ◌≡◌, ◌≤◌, ◌<◌}
use Rattle.ids.specs.declared.Refusal.{Refusal}
use Rattle.ids.specs.declared.Refusal.TheVariants.{AreaTooSmall}
use Rattle.words.specs.Tab.{words_from}
use Rattle.words.specs.Writes.{writes}
use Rattle.items.specs.Item.{Item, Value, Absent, Store, Pass, Hold, Retry, Resend, Commit, Lead, Prelog, Prepare, Span, Rest, item_words, places}

-- the answer, and the area after it
pub record Put : Type 0 where
  pub taken : Bool
  pub area : List ℕ

-- six words are written where the area has the place; else nothing
unfoldable pub put_item : List ℕ → ℕ → Item → Put
put_item area place x =
    if ltb place (places area) then record { taken = true; area = writes area (place * 6) (item_words x) } else record { taken = false; area = area }

-- 20 where nothing is written
abbrev pub put_answer : Put → Result (Unit {0}) Refusal
put_answer p = if p.taken then Ok tt else Err AreaTooSmall

-- 20, "the answer area is too small", exactly where there are fewer places
abbrev pub HasRoom : List ℕ → ℕ → Result (Unit {0}) Refusal → Type 0
HasRoom area n (Ok u) = n ≤ places area
HasRoom area n (Err x) = (x ≡ AreaTooSmall) × (places area < n)

-- the only item that the words can be: its kind says which fields they are
unfoldable pub named : ℕ → ℕ → ℕ → ℕ → ℕ → ℕ → Item
named k a b c d e =
    if eqb k 1 then Value a b c
    else if eqb k 2 then Absent a b
    else if eqb k 3 then Store a b
    else if eqb k 4 then Pass a b
    else if eqb k 5 then Hold a b c
    else if eqb k 6 then Retry a b (if eqb c 0 then None else Some (d % 256))
    else if eqb k 7 then Resend a (b % 256)
    else if eqb k 8 then Commit a
    else if eqb k 9 then Lead (eqb a 1)
    else if eqb k 10 then Prelog a
    else if eqb k 11 then Prepare a b
    else if eqb k 12 then Span (a * 2 ^ 64 + b) (c * 2 ^ 64 + d) e
    else Rest a

-- the same words, one by one
unfoldable pub same_words : List ℕ → List ℕ → Bool
same_words [] [] = true
same_words [] (y ∷ ys) = false
same_words (x ∷ xs) [] = false
same_words (x ∷ xs) (y ∷ ys) = eqb x y && same_words xs ys

-- that item, if these are its words
unfoldable pub decode : List ℕ → Option Item
decode ws =
    let x = named (get_or ws 0 0) (get_or ws 1 0) (get_or ws 2 0) (get_or ws 3 0) (get_or ws 4 0) (get_or ws 5 0) in
    if same_words (item_words x) ws then Some x else None

-- what stands at a place: nothing where there is no such place, or its words are no item's
unfoldable pub item_at : List ℕ → ℕ → Option Item
item_at area place = if ltb place (places area) then decode (words_from 6 area (place * 6)) else None
