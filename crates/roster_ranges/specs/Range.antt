-- Trusted: tables of key ranges, each with a mask: what the crate rangemap's documentation says of
-- `RangeInclusiveMap`.
use Rattle.std.specs.Prelude.{ℕ, ◌+◌, ◌-◌, Bool, ◌&&◌, List, [], ◌∷◌, ◌++◌, ltb, leb, eqb, if◌then◌else◌}
use Rattle.std.specs.Prelude.{Option, None, Some}
use Rattle.words.specs.Choice.{if_none◌then◌else◌}

-- the keys from `from` to `to`, both among them
pub record Range : Type 0 where
  pub from : ℕ
  pub to : ℕ
  pub mask : ℕ

abbrev pub inside : Range → ℕ → Bool
inside r n = leb r.from n && leb n r.to

-- `get`: the mask that is stored at n, if one is
abbrev pub at : List Range → ℕ → Option ℕ
at [] n = None
at (r ∷ l) n = if inside r n then Some r.mask else at l n

-- document 01: "Outside stored ranges the default holds"
abbrev pub mask_at : ℕ → List Range → ℕ → ℕ
mask_at d l n = if_none at l n then d else λ m. m

-- `r` after the last range of a table. "Touching ranges with equal masks are one": joined where it goes on at the next
-- key with the same mask
abbrev pub goes_on : Range → Range → Bool
goes_on x r = eqb x.mask r.mask && eqb (x.to + 1) r.from

abbrev pub joined : Range → Range → Range
joined x r = record { from = x.from; to = r.to; mask = x.mask }

abbrev pub after : Range → Range → List Range
after x r = if goes_on x r then joined x r ∷ [] else (x ∷ r ∷ [])

abbrev pub push : List Range → Range → List Range
push [] r = r ∷ []
push (x ∷ []) r = after x r
push (x ∷ y ∷ l) r = x ∷ push (y ∷ l) r

abbrev pub push_all : List Range → List Range → List Range
push_all l [] = l
push_all l (r ∷ rs) = push_all (push l r) rs

-- the part of a range below a, where it begins below a, and the part above b, where it ends above b
abbrev pub cut_below : ℕ → Range → Range
cut_below a r = record { from = r.from; to = if ltb r.to a then r.to else (a - 1); mask = r.mask }

abbrev pub cut_above : ℕ → Range → Range
cut_above b r = record { from = if ltb b r.from then r.from else (b + 1); to = r.to; mask = r.mask }

abbrev pub below : ℕ → Range → List Range
below a r = if ltb r.from a then cut_below a r ∷ [] else []

abbrev pub above : ℕ → Range → List Range
above b r = if ltb b r.to then cut_above b r ∷ [] else []

-- what f makes of each range, one after the other
abbrev pub each : (Range → List Range) → List Range → List Range
each f [] = []
each f (r ∷ l) = f r ++ each f l

-- `insert`: "A set overwrites its inclusive range". The parts below it, itself, and the parts above it
abbrev pub pieces : List Range → Range → List Range
pieces l w = each (below w.from) l ++ (w ∷ each (above w.to) l)

unfoldable pub overwrite : List Range → Range → List Range
overwrite l w = push_all [] (pieces l w)

-- each mask changed by g, and inserted anew: ranges that became equal join
abbrev pub remask : (ℕ → ℕ) → Range → Range
remask g r = record { from = r.from; to = r.to; mask = g r.mask }

unfoldable pub remasked : (ℕ → ℕ) → List Range → List Range
remasked g l = push_all [] (each (λ r. remask g r ∷ []) l)
