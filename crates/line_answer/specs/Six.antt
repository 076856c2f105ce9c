-- Bridge: an item's line from its six words; tied to `item_text` by proofs/Items.
use Rattle.std.specs.Prelude.{ℕ, ◌+◌, ◌*◌, ◌^◌, [], ◌∷◌, eqb, if◌then◌else◌}
use Rattle.words.specs.Text.{Bytes, bytes}
use Rattle.decimal.specs.Digits.{decimal}
use Rattle.line_answer.specs.Text.{line}

abbrev pub leader_field : ℕ → ℕ → Bytes
leader_field c d = if eqb c 0 then bytes "-" else decimal d

-- words that are no item's are shown as the last kind's
unfoldable pub six_text : ℕ → ℕ → ℕ → ℕ → ℕ → ℕ → Bytes
six_text k a b c d e =
    if eqb k 1 then line (bytes "value" ∷ decimal a ∷ decimal b ∷ decimal c ∷ [])
    else if eqb k 2 then line (bytes "absent" ∷ decimal a ∷ decimal b ∷ [])
    else if eqb k 3 then line (bytes "store" ∷ decimal a ∷ decimal b ∷ [])
    else if eqb k 4 then line (bytes "pass" ∷ decimal a ∷ decimal b ∷ [])
    else if eqb k 5 then line (bytes "hold" ∷ decimal a ∷ decimal b ∷ decimal c ∷ [])
    else if eqb k 6 then line (bytes "retry" ∷ decimal a ∷ decimal b ∷ leader_field c d ∷ [])
    else if eqb k 7 then line (bytes "resend" ∷ decimal a ∷ decimal b ∷ [])
    else if eqb k 8 then line (bytes "commit" ∷ decimal a ∷ [])
    else if eqb k 9 then line (bytes "lead" ∷ decimal a ∷ [])
    else if eqb k 10 then line (bytes "prelog" ∷ decimal a ∷ [])
    else if eqb k 11 then line (bytes "prepare" ∷ decimal a ∷ decimal b ∷ [])
    else if eqb k 12 then line (bytes "span" ∷ decimal (a * 2 ^ 64 + b) ∷ decimal (c * 2 ^ 64 + d) ∷ decimal e ∷ [])
    else line (bytes "rest" ∷ decimal a ∷ [])
