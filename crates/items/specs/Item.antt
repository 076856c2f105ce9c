-- Trusted: document 01, "The event program": the items that a call sends, and each in six words, its kind first.
use Rattle.std.specs.Prelude.{◌≡◌, refl, Bool, List, [], ◌∷◌, ◌++◌, ℕ, ◌*◌, ◌/◌, ◌%◌, ◌^◌, ◌<◌, length, if◌then◌else◌}
use Rattle.std.proofs.Common.{sym, ap, ◌∙◌, append_assoc, arith, length-append}
use Rattle.std.specs.Prelude.{Option, None, Some}
use Rattle.ids.specs.Leader.{leader_of}
use Rattle.inty.specs.Value.{value_of}
use Rattle.items.specs.declared.Item as declared
use Rattle.items.specs.declared.Item.TheVariants as code

pub data Item : Type 0 where
  -- `value,CLIENT,REQUEST,VALUE`
  Value : ℕ → ℕ → ℕ → Item
  -- `absent,CLIENT,REQUEST`, and so `store` and `pass`
  Absent : ℕ → ℕ → Item
  Store : ℕ → ℕ → Item
  Pass : ℕ → ℕ → Item
  -- `hold,CLIENT,REQUEST,SLOT`
  Hold : ℕ → ℕ → ℕ → Item
  -- `retry,CLIENT,REQUEST,LEADER`
  Retry : ℕ → ℕ → Option ℕ → Item
  -- `resend,SLOT,PEER`
  Resend : ℕ → ℕ → Item
  -- `commit,SLOT`
  Commit : ℕ → Item
  -- `lead,1` or `lead,0`
  Lead : Bool → Item
  -- `prelog,SLOT`
  Prelog : ℕ → Item
  -- `prepare,SLOT,BALLOT`
  Prepare : ℕ → ℕ → Item
  -- `span,START,END,MASK`
  Span : ℕ → ℕ → ℕ → Item
  -- `rest,MASK`
  Rest : ℕ → Item

-- what the code's item stands for
abbrev pub item_of : declared.Item → Item
item_of (code.Value c r v) = Value c r v
item_of (code.Absent c r) = Absent c r
item_of (code.Store c r) = Store c r
item_of (code.Pass c r) = Pass c r
item_of (code.Hold c r s) = Hold c r s.0
item_of (code.Retry c r l) = Retry c r (leader_of l)
item_of (code.Resend s p) = Resend s.0 p.0
item_of (code.Commit s) = Commit s.0
item_of (code.Lead b) = Lead b
item_of (code.Prelog s) = Prelog s.0
item_of (code.Prepare s b) = Prepare s.0 b.0
item_of (code.Span f t m) = Span (value_of f) (value_of t) m
item_of (code.Rest m) = Rest m

abbrev pub six : ℕ → ℕ → ℕ → ℕ → ℕ → ℕ → List ℕ
six k a b c d e = k ∷ a ∷ b ∷ c ∷ d ∷ e ∷ []

abbrev pub leader_words : ℕ → ℕ → Option ℕ → List ℕ
leader_words c r None = six 6 c r 0 0 0
leader_words c r (Some l) = six 6 c r 1 l 0

-- an item in six words; a number of 128 bits is two of them
abbrev pub item_words : Item → List ℕ
item_words (Value c r v) = six 1 c r v 0 0
item_words (Absent c r) = six 2 c r 0 0 0
item_words (Store c r) = six 3 c r 0 0 0
item_words (Pass c r) = six 4 c r 0 0 0
item_words (Hold c r s) = six 5 c r s 0 0
item_words (Retry c r l) = leader_words c r l
item_words (Resend s p) = six 7 s p 0 0 0
item_words (Commit s) = six 8 s 0 0 0 0
item_words (Lead b) = six 9 (if b then 1 else 0) 0 0 0 0
item_words (Prelog s) = six 10 s 0 0 0 0
item_words (Prepare s b) = six 11 s b 0 0 0
item_words (Span f t m) = six 12 (f / 2 ^ 64) (f % 2 ^ 64) (t / 2 ^ 64) (t % 2 ^ 64) m
item_words (Rest m) = six 13 m 0 0 0 0

-- a replica number is a byte
abbrev pub Fits : Item → Type 0
Fits (Value c r v) = Unit
Fits (Absent c r) = Unit
Fits (Store c r) = Unit
Fits (Pass c r) = Unit
Fits (Hold c r s) = Unit
Fits (Retry c r None) = Unit
Fits (Retry c r (Some l)) = l < 256
Fits (Resend s p) = p < 256
Fits (Commit s) = Unit
Fits (Lead b) = Unit
Fits (Prelog s) = Unit
Fits (Prepare s b) = Unit
Fits (Span f t m) = Unit
Fits (Rest m) = Unit

-- items one after the other
unfoldable pub encode : List Item → List ℕ
encode [] = []
encode (x ∷ xs) = item_words x ++ encode xs

-- the places of an area
abbrev pub places : List ℕ → ℕ
places area = length area / 6

pub length_item : (x : Item) → length (item_words x) ≡ 6
length_item (Value c r v) = refl
length_item (Absent c r) = refl
length_item (Store c r) = refl
length_item (Pass c r) = refl
length_item (Hold c r s) = refl
length_item (Retry c r None) = refl
length_item (Retry c r (Some l)) = refl
length_item (Resend s p) = refl
length_item (Commit s) = refl
length_item (Lead b) = refl
length_item (Prelog s) = refl
length_item (Prepare s b) = refl
length_item (Span f t m) = refl
length_item (Rest m) = refl

pub length_encode : (l : List Item) → length (encode l) ≡ length l * 6
unfolding encode
length_encode [] = refl
length_encode (x ∷ xs) = length-append (item_words x) (encode xs) ∙ omega (arith, length_item x, length_encode xs)

pub encode_append : (l m : List Item) → encode (l ++ m) ≡ encode l ++ encode m
unfolding encode
encode_append [] m = refl
encode_append (x ∷ l) m = ap (λ (w : List ℕ). item_words x ++ w) (encode_append l m) ∙ sym (append_assoc (item_words x) (encode l) (encode m))

append_nil : (l : List ℕ) → l ++ [] ≡ l
append_nil [] = refl
append_nil (y ∷ ys) = ap (λ (z : List ℕ). y ∷ z) (append_nil ys)

pub encode_snoc : (l : List Item) (x : Item) → encode (l ++ (x ∷ [])) ≡ encode l ++ item_words x
unfolding encode
encode_snoc [] x = append_nil (item_words x)
encode_snoc (y ∷ ys) x =
    ap (λ (z : List ℕ). item_words y ++ z) (encode_snoc ys x) ∙ sym (append_assoc (item_words y) (encode ys) (item_words x))
