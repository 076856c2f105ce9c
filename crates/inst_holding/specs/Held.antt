-- Trusted: the reads held by a slot that lent words stand for.
use Rattle.std.specs.Prelude.{Bool, List, ◌∷◌, ℕ, ◌+◌, get_or}
use Rattle.std.specs.Prelude.{Option}
use Rattle.words.specs.Counted.{counted}
use Rattle.key_words.specs.Key.{key_at, words_of, bytes_of}
use Rattle.layout.specs.Layout.{held_row, held_places}
use Rattle.table.specs.Table as table
use Rattle.bodega.specs.Replica as machine
use Rattle.inst_holding.specs.declared.ReadReq.{ReadReq}

-- a read of the code, and its words
abbrev pub read_of : ReadReq → machine.ReadReq
read_of x = record { client = x.client; request = x.request; key = bytes_of x.key }

abbrev pub read_words : ReadReq → List ℕ
read_words x = x.client ∷ x.request ∷ words_of x.key

-- the read at word p
unfoldable pub read_from : List ℕ → ℕ → machine.ReadReq
read_from s p = record { client = get_or s p 0; request = get_or s (p + 1) 0; key = bytes_of (key_at s (p + 2)) }

-- the reads held, on any words
abbrev pub reads_of : List ℕ → List machine.ReadReq
reads_of s = counted read_from held_row held_places s

abbrev pub capped : List machine.ReadReq → Option (List machine.ReadReq)
capped l = table.capped held_places l

-- what a push leaves on the words s: the answer, and the words t
abbrev pub Pushes : List ℕ → machine.ReadReq → Bool → List ℕ → Type 0
Pushes s x r t = table.Pushes read_from held_row held_places s x r t
