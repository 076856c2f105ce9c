-- Trusted: bitmap.rs, sets of replicas as numbers (document 01, port order 2).
use Rattle.std.specs.Prelude.{ℕ, zero, suc, ◌+◌, ◌-◌, ◌/◌, ◌%◌, ◌^◌, Bool, true, ◌&&◌, ◌||◌, not, eqb, ltb, if◌then◌else◌}
use Rattle.ids.specs.Limits.{replicas}

-- how many of 0 .. n - 1 pass a test, and whether each of them does
unfoldable pub tally : ℕ → (ℕ → Bool) → ℕ
tally zero f = 0
tally (suc n) f = tally n f + (if f n then 1 else 0)

unfoldable pub every : ℕ → (ℕ → Bool) → Bool
every zero f = true
every (suc n) f = every n f && f n

-- `get(r)`
unfoldable pub get : ℕ → ℕ → Bool
get m r = eqb (m / 2 ^ r % 2) 1

-- `set(r, true)`, `set(r, false)` and `set(r, flag)`; an r that is out of bound changes nothing
unfoldable pub mark : ℕ → ℕ → ℕ
mark m r = if ltb r replicas && not (get m r) then m + 2 ^ r else m

unfoldable pub unmark : ℕ → ℕ → ℕ
unmark m r = if ltb r replicas && get m r then m - 2 ^ r else m

unfoldable pub set_to : ℕ → ℕ → Bool → ℕ
set_to m r flag = if flag then mark m r else unmark m r

-- `count()`
unfoldable pub count : ℕ → ℕ
count m = tally replicas (get m)

-- `is_superset(other)`: each member of other is one of m
unfoldable pub is_superset : ℕ → ℕ → Bool
is_superset m other = every replicas (λ r. not (get other r) || get m r)

-- membership below the population: no bit at or above it
unfoldable pub fits : ℕ → ℕ → Bool
fits m population = ltb m (2 ^ population)
