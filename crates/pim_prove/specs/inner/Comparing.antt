-- Inner: programs and graphs compared vector by vector, 64 in a word.
use Rattle.std.specs.Prelude.{◌≡◌, ◌≢◌, ℕ, ◌+◌, ◌*◌, ◌/◌, ◌%◌, ◌<◌, ◌≤◌, ◌||◌, not, if◌then◌else◌, Bool, true, false, List, [], ◌∷◌, length, map, slice_index, Option, Some, None}
use Rattle.pim_aig.specs.Graph.{AigView}
use Rattle.pim_aig.specs.Values.{aval, node_values}
use Rattle.pim_aig.specs.declared.literal.Lit.{Lit}
use Rattle.pim_io.specs.Lanes.{is_set}
use Rattle.pim_isa.specs.declared.port.Port.{Port}
use Rattle.pim_isa.specs.declared.target.Fill.TheVariants.{Zeros}
use Rattle.pim_isa.specs.Programs.{ProgramView}
use Rattle.pim_isa.specs.Results.{load}
use Rattle.pim_isa.specs.Steps.{bit, exec}
use Rattle.pim_prove.specs.declared.blocks.TheConstants.{BLOCK}
use Rattle.pim_prove.specs.declared.comparing.Difference.{Difference}
use Rattle.pim_prove.specs.declared.verdict.Verdict.{Verdict}
use Rattle.pim_prove.specs.declared.verdict.Verdict.TheVariants.{Equal, Differs}
use Rattle.pim_prove.specs.Vectors.{digits}

-- lane r of each word
abbrev pub lanes_of : List ℕ → ℕ → List Bool
lanes_of words r = map (λ w. is_set w r) words

-- word j of each block of words
abbrev pub words_at : List (List ℕ) → ℕ → List ℕ
words_at blocks j = map (λ words. slice_index words j) blocks

-- the blocks have the values of a graph's nodes for the vectors from 64 times a word's number on
abbrev pub HasBlock : AigView → List (List ℕ) → ℕ → Type 0
HasBlock g blocks word = (j r : ℕ) → j < BLOCK → r < 64 → lanes_of (words_at blocks j) r ≡ node_values g (digits g.inputs (64 * (word + j) + r))

-- the number of the first word of the block that has this one, where blocks are counted from the front of a tile
abbrev pub block_start : ℕ → ℕ → ℕ
block_start start place = start + BLOCK * (place / BLOCK)

-- the blocks are those of the word at this place of a tile, unless that is the first word of a block
abbrev pub HoldsBlock : AigView → List (List ℕ) → ℕ → ℕ → Type 0
HoldsBlock g blocks start place = place % BLOCK ≢ 0 → HasBlock g blocks (block_start start place)

-- two bits that are not the same
abbrev pub are_unlike : Bool → Bool → Bool
are_unlike true b = not b
are_unlike false b = b

-- an output of the one isn't that of the other
abbrev pub differ : (ℕ → Bool) → (Lit → Bool) → List Port → List Lit → Bool
differ f g [] ls = false
differ f g (p ∷ ps) [] = false
differ f g (p ∷ ps) (l ∷ ls) = are_unlike (f p.cell) (g l) || differ f g ps ls

-- the number of the first such output, where these are the outputs from number k on
abbrev pub first_unlike : (ℕ → Bool) → (Lit → Bool) → ℕ → List Port → List Lit → Option ℕ
first_unlike f g k [] ls = None
first_unlike f g k (p ∷ ps) [] = None
first_unlike f g k (p ∷ ps) (l ∷ ls) = if are_unlike (f p.cell) (g l) then Some k else first_unlike f g (k + 1) ps ls

-- the row that the program ends with for vector x, where all other cells held zero
abbrev pub row_at : ProgramView → ℕ → List Bool
row_at p x = exec p.instrs (load p Zeros (digits (length p.inputs) x))

-- the first output for vector x that isn't the graph's
abbrev pub first_at : ProgramView → AigView → ℕ → Option ℕ
first_at p g x = first_unlike (bit (row_at p x)) (aval g (digits g.inputs x)) 0 p.outputs g.outputs

-- no output isn't
abbrev pub Agrees : ProgramView → AigView → ℕ → Type 0
Agrees p g x = differ (bit (row_at p x)) (aval g (digits g.inputs x)) p.outputs g.outputs ≡ false

-- of the vectors from number `from` on and below `to` this is the first for which an output isn't the graph's, with that output; or there
-- is none
abbrev pub IsFound : ProgramView → AigView → ℕ → ℕ → Option Difference → Type 0
IsFound p g from to None = (x : ℕ) → from ≤ x → x < to → Agrees p g x
IsFound p g from to (Some d) = ((x : ℕ) → from ≤ x → x < d.vector → Agrees p g x) × (first_at p g d.vector ≡ Some d.output)

-- what is told of what was found where all vectors were compared
abbrev pub verdict_of : Option Difference → Verdict
verdict_of None = Equal
verdict_of (Some d) = Differs d.vector d.output
