-- Trusted: document 01, "`u128` becomes two 64-bit halves": the number that two halves are.
use Rattle.std.specs.Prelude.{ℕ, ◌+◌, ◌*◌, ◌^◌, ltb, if◌then◌else◌}
use Rattle.std.specs.Prelude.{Option, None, Some}
use Rattle.inty.specs.declared.Inty.{Inty}

-- the number that the two halves stand for
abbrev pub value_of : Inty → ℕ
value_of x = x.hi * 2 ^ 64 + x.lo

-- the number where 128 bits hold it
abbrev pub bounded : ℕ → Option ℕ
bounded n = if ltb n (2 ^ 128) then Some n else None
