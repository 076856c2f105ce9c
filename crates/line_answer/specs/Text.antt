-- Trusted: document 01, "The event program": what is written for a line.
use Rattle.std.specs.Prelude.{ℕ, Bool, List, [], ◌∷◌, ◌++◌, length, if◌then◌else◌}
use Rattle.std.specs.Prelude.{Option}
use Rattle.words.specs.Text.{Bytes, bytes}
use Rattle.words.specs.Choice.{if_none◌then◌else◌}
use Rattle.decimal.specs.Digits.{decimal}
use Rattle.items.specs.Item.{Item, Value, Absent, Store, Pass, Hold, Retry, Resend, Commit, Lead, Prelog, Prepare, Span, Rest}

-- fields parted by commas, and a newline
unfoldable pub line : List Bytes → Bytes
line [] = 10 ∷ []
line (f ∷ []) = f ++ (10 ∷ [])
line (f ∷ g ∷ fs) = f ++ (44 ∷ line (g ∷ fs))

-- `-` if there is none
abbrev pub leader_text : Option ℕ → Bytes
leader_text l = if_none l then bytes "-" else decimal

abbrev pub lead_text : Bool → Bytes
lead_text b = if b then bytes "1" else bytes "0"

abbrev pub item_fields : Item → List Bytes
item_fields (Value client request value) = bytes "value" ∷ decimal client ∷ decimal request ∷ decimal value ∷ []
item_fields (Absent client request) = bytes "absent" ∷ decimal client ∷ decimal request ∷ []
item_fields (Store client request) = bytes "store" ∷ decimal client ∷ decimal request ∷ []
item_fields (Pass client request) = bytes "pass" ∷ decimal client ∷ decimal request ∷ []
item_fields (Hold client request slot) = bytes "hold" ∷ decimal client ∷ decimal request ∷ decimal slot ∷ []
item_fields (Retry client request leader) = bytes "retry" ∷ decimal client ∷ decimal request ∷ leader_text leader ∷ []
item_fields (Resend slot peer) = bytes "resend" ∷ decimal slot ∷ decimal peer ∷ []
item_fields (Commit slot) = bytes "commit" ∷ decimal slot ∷ []
item_fields (Lead b) = bytes "lead" ∷ lead_text b ∷ []
item_fields (Prelog slot) = bytes "prelog" ∷ decimal slot ∷ []
item_fields (Prepare slot ballot) = bytes "prepare" ∷ decimal slot ∷ decimal ballot ∷ []
item_fields (Span start end mask) = bytes "span" ∷ decimal start ∷ decimal end ∷ decimal mask ∷ []
item_fields (Rest mask) = bytes "rest" ∷ decimal mask ∷ []

unfoldable pub item_text : Item → Bytes
item_text x = line (item_fields x)

unfoldable pub items_text : List Item → Bytes
items_text [] = []
items_text (x ∷ l) = item_text x ++ items_text l

-- `LINE,refused,NUMBER`; `LINE,taken,ITEMS`, and a line for each item
unfoldable pub refused_text : ℕ → ℕ → Bytes
refused_text n number = line (decimal n ∷ bytes "refused" ∷ decimal number ∷ [])

unfoldable pub taken_text : ℕ → List Item → Bytes
taken_text n l = line (decimal n ∷ bytes "taken" ∷ decimal (length l) ∷ []) ++ items_text l
