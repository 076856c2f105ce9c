use Rattle.std.proofs.Common.{◌≡◌, ◌≤◌, length}
use Rattle.layout.specs.Layout.{request_places}
use Rattle.req_batch.proofs.Laws as law
use Rattle.req_batch.proofs.load.Given as goal

abbrev pub invariant-loop-i : goal.invariant-loop-i
invariant-loop-i l = record {
  few : l.i-end ≤ request_places;
  same : l.out.words.ghost_name ≡ l.fn.out.words.ghost_name;
  long : length l.out.words.now ≡ length l.fn.out.words.now;
  loaded : law.Loaded l.rows l.text l.initial.out.words.now l.out.words.now l.i;
}
