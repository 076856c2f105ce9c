-- Bridge: what the writers of items and answers leave; tied to `refused_text` and `taken_text` by
-- line_event/proofs/Laws.
use Rattle.std.specs.Prelude.{◌≡◌, List, ℕ, ◌+◌, ◌*◌, ◌≤◌, length, take, Result, Ok, Err}
use Rattle.words.specs.Text.{Bytes}
use Rattle.ids.specs.declared.Refusal.{Refusal}
use Rattle.ids.specs.Refusal.{number_of}
use Rattle.text.specs.Wrote.{Wrote}
use Rattle.text.specs.Puts.{Puts}
use Rattle.text.specs.declared.TextMut.{TextMut}
use Rattle.items.specs.Item.{Item, encode}
use Rattle.line_answer.specs.Text.{items_text, refused_text, taken_text}

-- the items of the first places of an area
abbrev pub Holds : List ℕ → ℕ → List Item → Type 0
Holds area count l = (count ≡ length l) × (take (count * 6) area ≡ encode l)

-- the lines of those items
pub record Listed (t : TextMut) (area : List ℕ) (count : ℕ) (t' : TextMut) : Type 0 where
  pub held : t'.out.ghost_name ≡ t.out.ghost_name
  pub size : length t'.out.now ≡ length t.out.now
  pub within : t'.at ≤ t.at + count * 106
  pub items : (l : List Item) → Holds area count l → Puts t (items_text l) (count * 106) t'

-- a number other than 0 is a refusal's; else the line is taken, with the items that the area holds
pub record Numbered (out : Bytes) (n number count : ℕ) (area : List ℕ) (r : ℕ) (out' : Bytes) : Type 0 where
  pub within : r ≤ length out
  pub refused : (number ≡ 0 → ⊥) → Wrote out 0 (refused_text n number) 64 r out'
  pub taken : (l : List Item) → number ≡ 0 → Holds area count l → Wrote out 0 (taken_text n l) (64 + count * 106) r out'

-- the text of a refusal, or of a line that is taken, with the items that the area holds
abbrev pub Says : Bytes → ℕ → Result ℕ Refusal → List ℕ → ℕ → Bytes → Type 0
Says out n (Err refusal) area r out' = Wrote out 0 (refused_text n (number_of refusal)) 64 r out'
Says out n (Ok count) area r out' = (l : List Item) → Holds area count l → Wrote out 0 (taken_text n l) (64 + count * 106) r out'

pub record Answered (out : Bytes) (n : ℕ) (acted : Result ℕ Refusal) (area : List ℕ) (r : ℕ) (out' : Bytes) : Type 0 where
  pub within : r ≤ length out
  pub text : Says out n acted area r out'
