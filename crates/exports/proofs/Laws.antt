-- That a call's answer says the same of a node and of its plain struct.
use mathlib.Core.Path.{◌≡◌, refl, sym, ap, ◌∙◌}
use mathlib.Core.Bool.{Bool, true, false, ◌&&◌}
use mathlib.Core.List.{List}
use Prim.Native.Nat.{ℕ}
use lib.Dec.{leb}
use lib.ListN.{length}
use borrow.Author.Tests.{ne_eqb}
use Rattle.node.specs.declared.Node.{Node}
use Rattle.node.specs.View.{size, view, in_range, ready, given_of}
use Rattle.node.specs.Begins as node
use Rattle.node.proofs.Calls.{number-not-0}
use Rattle.bodega.specs.Replica.{Call, Heartbeat}
use Rattle.bodega.specs.Answers.{Answers}
use Rattle.roster_conf.specs.declared.RespondersConf.{RespondersConf}
use Rattle.call_heartbeat.specs.Heartbeat.{fitting, carried}
use Rattle.export_plain.specs.declared.Plain.{Plain}
use Rattle.export_plain.specs.declared.PlainAnswered.{PlainAnswered}
use Rattle.export_plain.specs.declared.Roster.{Roster}
use Rattle.export_plain.specs.Plain.{conf_of, node_of, plain_of, no_node, answered_of, begun_of, given, BeginsIf, Begins, GivesBack}
use Rattle.export_plain.proofs.Laws.{back}
use Rattle.std.specs.Prelude.{Option, Result, Ok, Err}
use Rattle.std.specs.Bool.{then_some}
use Rattle.ids.specs.declared.Refusal.{Refusal}
use Rattle.ids.specs.Refusal.{number_of}
use Rattle.node.specs.declared.Taken.{Taken}

pub gives_back : (p : Plain) (a : Result Taken Refusal) (r : PlainAnswered) → r ≡ answered_of p a → GivesBack p r
unfolding GivesBack
gives_back p (Ok t) r f = rw f (ap plain_of (sym (back t.node)))
gives_back p (Err x) r f = rw (f, ne_eqb (number_of x) 0 (number-not-0 x)) refl

-- the callee's answer, said of the plain node
pub answers : (ok : Node → List ℕ → Bool) (c : Call) (p : Plain) (n : Node) (mem area mem' area' : List ℕ) (a : Result Taken Refusal) (r : PlainAnswered) → n ≡ node_of p
    → Answers ok view c n mem area (given_of n a) mem' area' → r ≡ answered_of p a → Answers ok view c (node_of p) mem area (given r) mem' area'
answers ok c p n mem area mem' area' a r e h f = rw (f, same a) (rw e at h)
  where
    same : (x : Result Taken Refusal) → given (answered_of p x) ≡ given_of (node_of p) x
    same (Ok t) = λ i. record { number = 0; count = t.count; node = back t.node i }
    same (Err x) = refl

-- and of a plain roster
pub heard : (p : Plain) (n : Node) (mem area mem' area' rows : List ℕ) (peer ballot : ℕ) (attached : Bool) (x : Roster) (c : RespondersConf) (o : Option RespondersConf) (commit exec snap : ℕ)
    (a : Result Taken Refusal) (r : PlainAnswered) → n ≡ node_of p → c ≡ conf_of x → o ≡ then_some attached c
    → Answers (λ (k : Node) (m : List ℕ). ready k m && fitting o rows) view (Heartbeat peer ballot (carried o rows) commit exec snap) n mem area (given_of n a) mem' area'
    → r ≡ answered_of p a
    → Answers (λ (k : Node) (m : List ℕ). ready k m && fitting (then_some attached (conf_of x)) rows) view (Heartbeat peer ballot (carried (then_some attached (conf_of x)) rows) commit exec snap)
    (node_of p) mem area (given r) mem' area'
heard p n mem area mem' area' rows peer ballot attached x c o commit exec snap a r e f w h g =
    answers _ _ p n mem area mem' area' a r e (rw (w ∙ ap (then_some attached) f) at h) g

-- ---- a fresh node

module _ (f : Result Node Refusal) (r : PlainAnswered) (e : r ≡ begun_of f) where
  pub fresh_begins : (id population quorum : ℕ) (before after : List ℕ) → node.Begins id population quorum before f after → Begins id population quorum before r after
  unfolding begun_of
  fresh_begins id population quorum before after b = rw e (go (leb size (length before) && in_range id population quorum) f b)
    where
      go : (t : Bool) (f : Result Node Refusal) → node.Gives t id population quorum before f after → BeginsIf t id population quorum before (begun_of f) after
      go true (Ok n) b = (refl, rw (back n) b)
      go true (Err x) b = absurd b
      go false (Ok n) b = absurd b
      go false (Err x) b = b

  pub fresh_back : GivesBack no_node r
  unfolding GivesBack begun_of
  fresh_back = rw e (go f)
    where
      go : (f : Result Node Refusal) → GivesBack no_node (begun_of f)
      go (Ok n) = ap plain_of (sym (back n))
      go (Err x) = rw (ne_eqb (number_of x) 0 (number-not-0 x)) refl

  pub fresh_count : r.count ≡ 0
  unfolding begun_of
  fresh_count = rw e (go f)
    where
      go : (f : Result Node Refusal) → (begun_of f).count ≡ 0
      go (Ok n) = refl
      go (Err x) = refl
