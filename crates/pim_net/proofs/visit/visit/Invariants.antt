use Rattle.std.proofs.Common.{◌≡◌, ◌+◌, ◌*◌, ◌-◌, ◌^◌, ◌∷◌, ℕ, false, length}
use Rattle.std.specs.Prelude.{reverse, count_by}
use Rattle.pim_net.specs.inner.DepthFirst.{ins, mark, is_new, IsTrail, IsMarked}
use Rattle.pim_net.specs.Tables.{values}
use Rattle.pim_net.proofs.visit.visit.Given as goal

abbrev pub invariant-walk : goal.invariant-walk
invariant-walk l = record {
  trail : IsTrail l.equations (values l.table) l.root (l.at ∷ reverse l.path.items);
  marked : IsMarked l.equations (values l.table) l.marks.items (l.at ∷ reverse l.path.items);
  kept : (k : ℕ) → is_new (mark l.fn.marks.items k) ≡ false → is_new (mark l.marks.items k) ≡ false;
  came : is_new (mark l.marks.items l.root) ≡ false;
}

abbrev pub decreases-walk : goal.decreases-walk
decreases-walk l = count_by is_new l.marks.items * 2 ^ 60 + length l.path.items * 2 ^ 30 + (length (ins l.equations l.at.equation) - l.at.column)
