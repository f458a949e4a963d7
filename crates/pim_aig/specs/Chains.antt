-- How covers become AND nodes. No node is shared and none is folded.
use Rattle.std.specs.Prelude.{ℕ, ◌+◌, if◌then◌else◌, List, [], ◌∷◌, ◌++◌, length, Option, Some, None}
use Rattle.pim_net.specs.Covers.{CoverView}
use Rattle.pim_net.specs.declared.cover.Bit3.{Bit3}
use Rattle.pim_net.specs.declared.cover.Bit3.TheVariants.{Zero, One, Any}
use Rattle.pim_aig.specs.Literals.{plain, complement}
use Rattle.pim_aig.specs.declared.literal.Lit.{Lit}
use Rattle.pim_aig.specs.declared.graph.And.{And}

-- the AND nodes of a graph so far, and a literal
pub record Built : Type 0 where
  pub ands : List And
  pub lit : Lit

-- the AND nodes of a graph so far, and some literals
pub record Listed : Type 0 where
  pub ands : List And
  pub lits : List Lit

-- the chain so far, with each of the literals joined to it in turn: the first one of all stays as it is, and each further
-- one makes a new AND node of the chain so far and itself. The chain of no literal is true
abbrev pub chain_from : ℕ → List And → Option Lit → List Lit → Built
chain_from inputs ands None [] = record { ands = ands; lit = record { 0 = 1 } }
chain_from inputs ands (Some last) [] = record { ands = ands; lit = last }
chain_from inputs ands None (l ∷ ls) = chain_from inputs ands (Some l) ls
chain_from inputs ands (Some last) (l ∷ ls) =
    chain_from inputs (ands ++ record { x = last; y = l } ∷ []) (Some (plain (1 + inputs + length ands))) ls

-- the chain of some literals
abbrev pub chain : ℕ → List And → List Lit → Built
chain inputs ands lits = chain_from inputs ands None lits

-- what a cell of a row asks of its column's literal: nothing, the literal or its complement
abbrev pub asked : Bit3 → Lit → List Lit
asked Zero l = complement l ∷ []
asked One l = l ∷ []
asked Any l = []

-- the literals that a row asks, where its columns' signals have these literals
abbrev pub row_literals : (ℕ → Lit) → List ℕ → List Bit3 → List Lit
row_literals lits [] row = []
row_literals lits (s ∷ ss) [] = []
row_literals lits (s ∷ ss) (cell ∷ row) = asked cell (lits s) ++ row_literals lits ss row

-- the rows' chains, one after another, and their complements
abbrev pub rows_from : ℕ → (ℕ → Lit) → List ℕ → List And → List Lit → List (List Bit3) → Listed
rows_from inputs lits ins ands done [] = record { ands = ands; lits = done }
rows_from inputs lits ins ands done (row ∷ rows) =
    let built = chain inputs ands (row_literals lits ins row) in
    rows_from inputs lits ins built.ands (done ++ complement built.lit ∷ []) rows

-- a cover is the complement of the chain of its rows' complements; with phase 0 it is complemented once more
abbrev pub cover_from : ℕ → (ℕ → Lit) → List And → CoverView → Built
cover_from inputs lits ands cover =
    let rows = rows_from inputs lits cover.ins ands [] cover.rows in
    let joined = chain inputs rows.ands rows.lits in
    record {
      ands = joined.ands;
      lit = if cover.phase then complement joined.lit else complement (complement joined.lit);
    }
