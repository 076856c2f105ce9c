-- Trusted: document 01, "For `show`, spans ascend, `rest` is last".
use Rattle.std.specs.Prelude.{ℕ, List, ◌∷◌, ◌++◌, map, [], ltb, length, if◌then◌else◌, Result, Ok, Err}
use Rattle.words.specs.Writes.{writes}
use Rattle.items.specs.Item.{Item, Span, Rest, encode, places}
use Rattle.roster_ranges.specs.Range.{Range}
use Rattle.roster_conf.specs.declared.RespondersConf.{RespondersConf}
use Rattle.ids.specs.declared.Refusal.{Refusal}
use Rattle.ids.specs.declared.Refusal.TheVariants.{NotReady, AreaTooSmall}
use Rattle.roster_conf.specs.Conf.{Conf}
use Rattle.roster_conf.specs.Edits.{view, holds_rows}

abbrev pub span_of : Range → Item
span_of r = Span r.from r.to r.mask

unfoldable pub spans_of : List Range → List Item
spans_of l = map span_of l

unfoldable pub show : Conf → List Item
show c = spans_of c.ranges ++ (Rest c.default ∷ [])

-- the answer, and the area after it
pub record Listing : Type 0 where
  pub answer : Result ℕ Refusal
  pub area : List ℕ

-- refusals 2 and 20 leave the area as it was
unfoldable pub listing : RespondersConf → List ℕ → List ℕ → Listing
listing c rows area =
    let items = show (view c rows) in
    if holds_rows (length rows) c.count then
    if ltb (places area) (length items) then record { answer = Err AreaTooSmall; area = area }
    else record { answer = Ok (length items); area = writes area 0 (encode items) }
    else record { answer = Err NotReady; area = area }
