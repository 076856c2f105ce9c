-- Document 01's marked rules, by computing.
use mathlib.Core.Path.{refl}
use Rattle.bodega.specs.Marked.{Each, marked}
use Rattle.bodega.proofs.Computes.{computes}

-- P1 to P12
pub marked_hold : Each marked
unfolding marked computes
marked_hold = (refl, (refl, (refl, (refl, (refl, (refl, (refl, (refl, (refl, (refl, (refl, (refl, tt))))))))))))
