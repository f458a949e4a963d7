-- Inner: a list of words of which a part is lent for writing.
use Rattle.std.specs.Prelude.{ℕ, List}
use Rattle.std.specs.Borrow.{Fml, MutBor, RattleType, Lends, Array, u64}
use Rattle.std.specs.Vec.{with_items, with_items_from}
use Rattle.std.specs.declared.vec.Vec.{Vec}
use Rattle.std.specs.declared.alloc.Global.{Global}
use Rattle.std.specs.contracts.alloc.Global as global
use Rattle.std.specs.contracts.vec.Vec as vec
use Rattle.std.specs.contracts.impls.GlobalAllocator.TheImpl.{ghosts}

-- a list of words, as the logic holds it
abbrev pub words_row : RattleType
words_row = vec.the_row u64 global.the_row ghosts

-- the list ends with the words that were written last
abbrev pub LendsWords : MutBor (Vec ℕ Global) → MutBor (List ℕ) → Fml
LendsWords v r = Lends words_row (Array u64 0) v r (with_items v.now)

-- the list ends as it was, with what was written last from a place on
abbrev pub LendsPart : MutBor (Vec ℕ Global) → ℕ → MutBor (List ℕ) → Fml
LendsPart v start r = Lends words_row (Array u64 0) v r (with_items_from v.now start)
