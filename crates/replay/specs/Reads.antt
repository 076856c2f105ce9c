-- Trusted: what a read of the input brought.
use Rattle.std.specs.Prelude.{Bool, ℕ, zero, suc, ℤ, pos, negsuc, Option, None, Some, Result, Ok, Err, if◌then◌else◌}
use Rattle.words.specs.Text.{Bytes}
use Rattle.stream_turns.specs.TurnList.{Fills}
use Rattle.replay.specs.declared.Failure.{Failure}
use Rattle.replay.specs.declared.Failure.TheVariants.{Read}

-- the number that a read answers: how many bytes came, or one below 0 where it failed
abbrev pub answered : {E : Type 0} → Result ℕ E → ℤ
answered (Ok n) = pos n
answered (Err e) = negsuc 0

-- A read that answers 0 has met the end of the input, which is None. One that fails has not: it is read again if a
-- signal interrupted it.
unfoldable pub filled_as : ℤ → Bool → ℕ → ℕ → Result (Option ℕ) Failure
filled_as (pos zero) interrupted have end = Ok None
filled_as (pos (suc k)) interrupted have end = Ok (Some end)
filled_as (negsuc k) interrupted have end = if interrupted then Ok (Some have) else Err Read

-- a piece stands behind the bytes that were kept
abbrev pub Filling : Bytes → ℕ → Result (Option ℕ) Failure → Bytes → Type 0
Filling buf have (Ok (Some end)) buf' = Fills buf have end buf'
Filling buf have (Ok None) buf' = Fills buf have have buf'
Filling buf have (Err e) buf' = Fills buf have have buf'
