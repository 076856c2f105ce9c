-- Trusted: document 01, "Marked P": one list.
use Rattle.std.specs.Prelude.{ℕ, true, false, ◌≡◌, List, [], ◌∷◌}
use Prim.Native.String.{String}
use Rattle.std.specs.Prelude.{Option, None, Some}
use Rattle.words.specs.Text.{bytes}
use Rattle.keys.specs.Read.{read_key}
use Rattle.roster_ranges.specs.Range.{Range}
use Rattle.roster_conf.specs.Conf.{Conf, empty, set_responders, set_full, into_filtered}
use Rattle.bodega.specs.Replica.{Request, Put}
use Rattle.bodega.specs.Localread.{commit_condition}

abbrev pub reads : String → Option ℕ
reads s = read_key (bytes s)

-- each of a list of statements
abbrev pub Each : List (Type 0) → Type 0
Each [] = Unit {0}
Each (P ∷ l) = P × Each l

abbrev pub span : ℕ → ℕ → ℕ → Range
span a b mask = record { from = a; to = b; mask = mask }

abbrev pub p8 : Conf
p8 = set_responders 20 29 6 (set_responders 10 19 6 empty)

abbrev pub p9 : Conf
p9 = set_responders 15 16 1 p8

abbrev pub p10 : Conf
p10 = into_filtered 2 (into_filtered 1 (into_filtered 0 p9))

-- a batch that writes k1, whose roster is {2}; acks {0, 1}
abbrev pub writes : List Request
writes = record { client = 7; request = 1; key = bytes "k1"; command = Put 500 } ∷ []

abbrev pub two : Conf
two = set_full 4 empty

unfoldable pub marked : List (Type 0)
marked =
    (reads "" ≡ None) ∷
    (reads "kK007" ≡ Some 7) ∷
    (reads "k+7" ≡ Some 7) ∷
    (reads "+k7" ≡ None) ∷
    (reads "k-0" ≡ None) ∷
    (reads "340282366920938463463374607431768211455" ≡ Some 340282366920938463463374607431768211455) ∷
    (reads "340282366920938463463374607431768211456" ≡ None) ∷
    (p8.ranges ≡ span 10 29 6 ∷ []) ∷
    (p9.ranges ≡ span 10 14 6 ∷ span 15 16 1 ∷ span 17 29 6 ∷ []) ∷
    (p10.ranges ≡ span 10 29 0 ∷ []) ∷
    (commit_condition 3 writes 2 two ≡ false) ∷
    (commit_condition 3 [] 2 two ≡ true) ∷
    []
