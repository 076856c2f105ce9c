-- The lines of items: fields one after the other.
use Rattle.std.proofs.Common.{◌≡◌, ℕ, ◌+◌, ◌*◌, ◌≤◌, ◌<◌, List, [], ◌∷◌, ◌++◌, length, get_or, take, map, sym, ap, ◌∙◌, arith, append_assoc}
use Rattle.std.proofs.lemmas.List.{append-nil, take_more, take_all}
use Rattle.words.specs.Text.{Bytes}
use Rattle.decimal.specs.Digits.{decimal}
use Rattle.text.specs.Puts.{Puts}
use Rattle.text.specs.declared.TextMut.{TextMut}
use Rattle.text.proofs.Laws.{then, at_most, same_text}
use Rattle.line_answer.specs.Text.{line}

-- numbers, each behind a comma
abbrev pub fields : List ℕ → Bytes
fields [] = []
fields (n ∷ ns) = 44 ∷ (decimal n ++ fields ns)

fields_snoc : (ns : List ℕ) (n : ℕ) → fields (ns ++ (n ∷ [])) ≡ fields ns ++ (44 ∷ decimal n)
fields_snoc [] n = ap (λ (l : Bytes). 44 ∷ l) (append-nil (decimal n))
fields_snoc (m ∷ ns) n = ap (λ (l : Bytes). 44 ∷ l) (ap (λ (l : Bytes). decimal m ++ l) (fields_snoc ns n) ∙ sym (append_assoc (decimal m) (fields ns) (44 ∷ decimal n)))

line_fields : (f : Bytes) (ns : List ℕ) → (f ++ fields ns) ++ (10 ∷ []) ≡ line (f ∷ map decimal ns)
unfolding line
line_fields f [] = ap (λ (l : Bytes). l ++ (10 ∷ [])) (append-nil f)
line_fields f (n ∷ ns) = append_assoc f (44 ∷ (decimal n ++ fields ns)) (10 ∷ []) ∙ ap (λ (l : Bytes). f ++ (44 ∷ l)) (line_fields (decimal n) ns)

-- a name, and the first numbers behind it
module _ {t u v : TextMut} (name : Bytes) (ns : List ℕ) where
  pub named_more : (i : ℕ) → Puts t (name ++ fields (take i ns)) (8 + i * 21) u → i < length ns → Puts u (44 ∷ decimal (get_or ns i 0)) 21 v
      → Puts t (name ++ fields (take (i + 1) ns)) (8 + (i + 1) * 21) v
  named_more i w h p =
      let e : name ++ fields (take (i + 1) ns) ≡ (name ++ fields (take i ns)) ++ (44 ∷ decimal (get_or ns i 0)) =
      ap (λ (l : List ℕ). name ++ fields l) (take_more ns i 0 h) ∙ ap (λ (l : Bytes). name ++ l) (fields_snoc (take i ns) (get_or ns i 0))
      ∙ sym (append_assoc name (fields (take i ns)) (44 ∷ decimal (get_or ns i 0))) in
      at_most (same_text (then w p) (sym e)) (omega arith)

  pub named_line : (i : ℕ) → Puts t (name ++ fields (take i ns)) (8 + i * 21) u → length ns ≤ i → i ≤ 3 → Puts u (10 ∷ []) 1 v
      → Puts t (line (name ∷ map decimal ns)) 106 v
  named_line i w h k p =
      let e : take i ns ≡ ns = take_all i ns h in
      at_most (same_text (then w p) (ap (λ (l : List ℕ). (name ++ fields l) ++ (10 ∷ [])) e ∙ line_fields name ns)) (omega arith)

module _ {t t₁ t₂ t₃ t₄ : TextMut} {f g h : Bytes} {m k l : ℕ} where
  pub line_3 : Puts t f m t₁ → Puts t₁ (44 ∷ g) k t₂ → Puts t₂ (44 ∷ h) l t₃ → Puts t₃ (10 ∷ []) 1 t₄ → (most : ℕ) → m + (k + (l + 1)) ≤ most
      → Puts t (line (f ∷ g ∷ h ∷ [])) most t₄
  unfolding line
  line_3 a b c d most h = at_most (then a (then b (then c d))) h

module _ {t t₁ t₂ t₃ t₄ t₅ : TextMut} {f g h x : Bytes} {m k l n : ℕ} where
  pub line_4 : Puts t f m t₁ → Puts t₁ (44 ∷ g) k t₂ → Puts t₂ (44 ∷ h) l t₃ → Puts t₃ (44 ∷ x) n t₄ → Puts t₄ (10 ∷ []) 1 t₅ → (most : ℕ) → m + (k + (l + (n + 1))) ≤ most
      → Puts t (line (f ∷ g ∷ h ∷ x ∷ [])) most t₅
  unfolding line
  line_4 a b c d e most h = at_most (then a (then b (then c (then d e)))) h
