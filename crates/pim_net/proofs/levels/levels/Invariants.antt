use Rattle.std.proofs.Common.{◌≡◌, ◌<◌, [], ℕ, false}
use Rattle.pim_net.specs.inner.DepthFirst.{mark, is_new, IsMarked}
use Rattle.pim_net.specs.Tables.{values}
use Rattle.pim_net.proofs.levels.levels.Given as goal

abbrev pub invariant-roots : goal.invariant-roots
invariant-roots l = record {
  marked : IsMarked l.equations (values l.table) l.marks.items [];
  fresh : l.path.items ≡ [];
  came : (k : ℕ) → k < l.root → is_new (mark l.marks.items k) ≡ false;
}
