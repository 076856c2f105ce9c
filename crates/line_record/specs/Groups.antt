-- Bridge: what is read of a record line's fields: SLOT,BALLOT and groups CLIENT,REQUEST,KEY,VALUE; tied to `record_of`
-- by proofs/Laws.
use Rattle.std.specs.Prelude.{◌≡◌, true, false, List, [], ◌∷◌, ℕ, ◌+◌, ◌*◌, ◌≤◌, Option, None, Some, length, take}
use Rattle.words.specs.Text.{Bytes}
use Rattle.words.specs.Part.{part}
use Rattle.words.specs.Choice.{if_none◌then◌else◌}
use Rattle.line_fields.specs.Split.{fields_from}
use Rattle.line_reader.specs.declared.LineReader.{LineReader}
use Rattle.line_reader.specs.Takes.{moved_to}
use Rattle.bodega.specs.Replica.{Request, Get, Put}
use Rattle.req_batch.specs.Given.{given}
use Rattle.line_host.specs.Line.{are_groups, batch_of}
use Rattle.line_record.specs.declared.Group.{Group}

-- ---- one group, and the fields that are left after it

abbrev pub request_in : Bytes → Group → Request
request_in s g = record { client = g.client; request = g.request; key = part s g.start g.length; command = if_none g.value then Get else Put }

-- its row as *record* is lent it
abbrev pub row_of : Group → List ℕ
row_of g = g.client ∷ g.request ∷ (if_none g.value then 0 else λ v. 1) ∷ (if_none g.value then 0 else λ v. v) ∷ g.start ∷ g.length ∷ []

pub record FirstGroup (s : Bytes) (at : ℕ) (g : Group) (next : ℕ) : Type 0 where
  pub low : at + 4 ≤ next
  pub good : are_groups (fields_from s at) ≡ are_groups (fields_from s next)
  pub batch : batch_of (fields_from s at) ≡ request_in s g ∷ batch_of (fields_from s next)

-- the first group that is left, and the reader then: at the group after it
abbrev pub TakesGroup : LineReader → Option Group → LineReader → Type 0
TakesGroup r None r' = r.at ≤ length r.line.now → are_groups (fields_from r.line.now r.at) ≡ false
TakesGroup r (Some g) r' = FirstGroup r.line.now r.at g r'.at × (r' ≡ moved_to r r'.at)

-- ---- all of them: whether the fields that are left are whole groups, and their rows; each group takes at least four
-- positions of a line of at most 1,024 bytes

pub record AllGroups (s : Bytes) (at count : ℕ) (rows : List ℕ) : Type 0 where
  pub good : are_groups (fields_from s at) ≡ true
  pub few : count ≤ 257
  pub batch : given (take (count * 6) rows) s ≡ batch_of (fields_from s at)

abbrev pub ReadsGroups : Bytes → ℕ → Option ℕ → List ℕ → Type 0
ReadsGroups s at None rows = are_groups (fields_from s at) ≡ false
ReadsGroups s at (Some count) rows = AllGroups s at count rows
