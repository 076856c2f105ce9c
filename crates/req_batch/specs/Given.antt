-- Trusted: the batch as *record* is lent it: rows of six words, and the text that the keys are parts of.
use Rattle.std.specs.Prelude.{◌≡◌, Bool, List, ℕ, ◌+◌, ◌*◌, ◌/◌, ◌≤◌, length, get_or}
use Rattle.words.specs.Part.{part}
use Rattle.words.specs.Tab.{tab}
use Rattle.layout.specs.Layout.{batch_words}
use Rattle.bodega.specs.Replica as machine
use Rattle.bodega.specs.Grounds.{any}
use Rattle.roster_conf.specs.Edit.{long_key}
use Rattle.inst_reqs.specs.Batch.{command_at, requests_of}

-- the request at word p: client, request, kind, value, start and length of its key; what lies past the end of the text
-- is not there
unfoldable pub given_from : List ℕ → List ℕ → ℕ → machine.Request
given_from rows text p = record {
  client = get_or rows p 0;
  request = get_or rows (p + 1) 0;
  key = part text (get_or rows (p + 4) 0) (get_or rows (p + 5) 0);
  command = command_at (get_or rows (p + 2) 0) (get_or rows (p + 3) 0);
}

abbrev pub given_at : List ℕ → List ℕ → ℕ → machine.Request
given_at rows text i = given_from rows text (i * 6)

-- a request for each whole row
unfoldable pub given : List ℕ → List ℕ → List machine.Request
given rows text = tab (given_at rows text) 0 (length rows / 6)

-- ground 5 of *record*
abbrev pub any_long : List machine.Request → Bool
any_long qs = any (λ (q : machine.Request). long_key q.key) qs

-- the words t are those of s with the batch loaded
pub record Loads (rows text s t : List ℕ) : Type 0 where
  pub requests : requests_of t ≡ given rows text
  pub beyond : (j : ℕ) → batch_words ≤ j → get_or t j 0 ≡ get_or s j 0
