-- *prepared*: its ground and its effect.
use Rattle.std.specs.Prelude.{if◌then◌else◌, Ok, Err}
use mathlib.Core.Path.{◌≡◌, refl, sym, ap, ◌∙◌}
use mathlib.Core.Bool.{Bool, true, false, not, ◌&&◌, ◌||◌}
use mathlib.Core.List.{List, []}
use Prim.Native.Nat.{ℕ}
use lib.Dec.{eqb}
use Rattle.ids.specs.Leader.{leader_of}
use Rattle.roster_conf.specs.Edits.{view as roster_of}
use Rattle.roster_conf.specs.Ground.{◌when◌or◌}
use Rattle.bodega.specs.Replica as machine
use Rattle.bodega.specs.Events.{prepared}
use Rattle.bodega.specs.Grounds.{grounds}
use Rattle.bodega.specs.Step.{effect}
use Rattle.bodega.specs.Answers.{Answers}
use Rattle.ids.specs.declared.Refusal.TheVariants.{BallotNotCurrent}
use Rattle.node.specs.declared.Node.{Node}
use Rattle.node.specs.View.{view, ready, given_of, lowest, leads_it}
use Rattle.node.proofs.Calls.{refused_by, taken_by}
use Rattle.call_prepared.specs.Prepared.{may_prepare}

pub leads_is : (n : Node) (t : Bool) → t ≡ machine.is_leader (view n []) → t ≡ leads_it (leader_of n.bodega_conf.leader) n.id.0
unfolding view roster_of
leads_is n t e = e

may_or_13 : (l z s : Bool) → (if l && (not z && s) then 0 else 13) ≡ lowest (13 when not l || z || not s or [])
may_or_13 true true s = refl
may_or_13 true false true = refl
may_or_13 true false false = refl
may_or_13 false z s = refl

module _ (n : Node) (m area : List ℕ) (b : ℕ) (y : ready n m ≡ true) (p : Bool) (g : p ≡ may_prepare (leader_of n.bodega_conf.leader) n.id.0 n.bal_prep_sent.0 b) where
  number_is : (if p then 0 else 13) ≡ lowest (grounds (view n m) (machine.Prepared b))
  unfolding grounds view roster_of
  number_is =
      ap (λ (x : Bool). if x then 0 else 13) g ∙ may_or_13 (leads_it (leader_of n.bodega_conf.leader) n.id.0) (eqb b 0) (eqb b n.bal_prep_sent.0)

  pub prepared_13 : p ≡ false → Answers ready view (machine.Prepared b) n m area (given_of n (Err BallotNotCurrent)) m area
  prepared_13 h = refused_by (machine.Prepared b) n m area true (sym y) refl BallotNotCurrent (Err BallotNotCurrent) (sym (rw h) ∙ number_is) refl

  pub prepared_taken : (d : Node) → p ≡ true → view d m ≡ prepared (view n m) b → ready d m ≡ ready n m
      → Answers ready view (machine.Prepared b) n m area (given_of n (Ok (record { node = d; count = 0 }))) m area
  unfolding effect
  prepared_taken d h v w =
      taken_by (machine.Prepared b) n m (sym (rw h) ∙ number_is) area true (sym y) refl (prepared (view n m) b) d m
      refl v refl (λ j l. refl) (w ∙ y)
