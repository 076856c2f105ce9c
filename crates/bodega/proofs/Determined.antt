-- `Answers` determines what a call gives.
use mathlib.Core.Path.{sym, ◌∙◌}
use mathlib.Core.Bool.{Bool}
use mathlib.Core.List.{List}
use Prim.Native.Nat.{ℕ}
use Rattle.bodega.specs.Replica.{Replica}
use Rattle.bodega.specs.Step.{Step, Refused, Taken}
use Rattle.bodega.specs.Answers.{Given, due, Follows, Same, Determined}

module _ {Node : Type 0} (ready : Node → List ℕ → Bool) (view : Node → List ℕ → Replica) where
  same : (x : Step) (node : Node) (mem area : List ℕ) (g h : Given Node) (mem₁ mem₂ area₁ area₂ : List ℕ) → Follows ready view x node mem area g mem₁ area₁
      → Follows ready view x node mem area h mem₂ area₂ → Same ready view g h mem₁ mem₂ area₁ area₂
  same (Refused n) node mem area g h mem₁ mem₂ area₁ area₂ a b =
      record {
        number = a.number ∙ sym b.number;
        count = a.count ∙ sym b.count;
        next = rw (a.same_node, a.same_mem, b.same_node, b.same_mem);
        size = rw (a.same_mem, b.same_mem);
        beyond = λ j l. rw (a.same_mem, b.same_mem);
        area = a.same_area ∙ sym b.same_area;
      }
  same (Taken s l) node mem area g h mem₁ mem₂ area₁ area₂ a b =
      record {
        number = a.number ∙ sym b.number;
        count = a.count ∙ sym b.count;
        next = a.next ∙ sym b.next;
        size = a.size ∙ sym b.size;
        beyond = λ j l. b.beyond j l ∙ sym (a.beyond j l);
        area = a.items ∙ sym b.items;
      }

  pub determined : Determined ready view
  determined c node mem area g h mem₁ mem₂ area₁ area₂ a b = same (due ready view c node mem area) node mem area g h mem₁ mem₂ area₁ area₂ a b
