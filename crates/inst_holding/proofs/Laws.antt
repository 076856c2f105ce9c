-- A held read as it is stored.
use mathlib.Core.Path.{◌≡◌, ◌∙◌}
use mathlib.Core.List.{List, [], ◌∷◌}
use Prim.Native.Nat.{ℕ, ◌+◌}
use lib.ListN.{set}
use Rattle.words.specs.Writes.{writes, writes_append}
use Rattle.key_words.specs.Key.{words_of}
use Rattle.inst_holding.specs.Held.{read_words}
use Rattle.inst_holding.specs.declared.ReadReq.{ReadReq}

-- a row stored: its first words, then the key
pub stored : (s t : List ℕ) (p : ℕ) (x : ReadReq) → t ≡ writes (set (set s p x.client) (p + 1) x.request) (p + 2) (words_of x.key) → t ≡ writes s p (read_words x)
stored s t p x e = e ∙ writes_append s p (x.client ∷ x.request ∷ []) (words_of x.key)
