-- The cases of a distribution pass: majorities that share two operands.
use Rattle.std.specs.Prelude.{ℕ, suc, ◌+◌, ◌-◌, ◌%◌, ◌==◌, ◌&&◌, ◌||◌, Bool, false, if◌then◌else◌, List, [], ◌∷◌, Option, Some, None, is_some, slice_index_or}
use Rattle.pim_aig.specs.Literals.{node}
use Rattle.pim_aig.specs.declared.literal.Lit.{Lit}
use Rattle.pim_mig.specs.Graph.{MigView}
use Rattle.pim_mig.specs.Majs.{Making}
use Rattle.pim_aig.specs.Moving.{moved}
use Rattle.pim_mig.specs.Needs.{is_needed, is_single}
use Rattle.pim_mig.specs.Nodes.{made, Made}
use Rattle.pim_mig.specs.declared.node.Maj.{Maj}
use Rattle.pim_rewrite.specs.Passes.{passed, plainly, Step}
use Rattle.pim_rewrite.specs.declared.cases.Case.{Case}

-- the node reads the literal
abbrev pub has : Maj → Lit → Bool
has m l = (m.x.0 == l.0) || ((m.y.0 == l.0) || (m.z.0 == l.0))

-- the operand of a node that is neither of two of its operands
abbrev pub other : Maj → Lit → Lit → Lit
other m s t =
    if (m.x.0 == s.0) || (m.x.0 == t.0) then (if (m.y.0 == s.0) || (m.y.0 == t.0) then m.z else m.y)
    else m.x

-- the first two operands of a node, in its order, that are operands of the other one, and the remaining operands, beside a third
-- literal w
abbrev pub match_nodes : Maj → Maj → Lit → Option Case
match_nodes a b w =
    if has b a.x && has b a.y then Some (record { s = a.x; t = a.y; u = a.z; v = other b a.x a.y; w = w })
    else (if has b a.x && has b a.z then Some (record { s = a.x; t = a.z; u = a.y; v = other b a.x a.z; w = w })
    else (if has b a.y && has b a.z then Some (record { s = a.y; t = a.z; u = a.x; v = other b a.y a.z; w = w })
    else None))

-- the node of a literal
abbrev pub node_at : MigView → Lit → Maj
node_at g l = slice_index_or g.nodes (node l - (1 + g.inputs)) (record { x = record { 0 = 0 }; y = record { 0 = 0 }; z = record { 0 = 0 } })

-- a plain literal of a node that is read once in all
abbrev pub is_spreadable : MigView → Lit → Bool
is_spreadable g l = (l.0 % 2 == 0) && is_single g (node l)

-- the case of two operands, beside the third: both are plain literals of nodes that nobody else reads, and these share two literals
abbrev pub match_pair : MigView → Lit → Lit → Lit → Option Case
match_pair g e f w = if is_spreadable g e && is_spreadable g f then match_nodes (node_at g e) (node_at g f) w else None

-- the first of two that there is
abbrev pub first_of_two : Option Case → Option Case → Option Case
first_of_two (Some c) later = Some c
first_of_two None later = later

-- the case of a needed node: the first of its pairs of operands that has one
abbrev pub case_of : MigView → Maj → Option Case
case_of g m = first_of_two (match_pair g m.x m.y m.z) (first_of_two (match_pair g m.x m.z m.y) (match_pair g m.y m.z m.x))

-- some needed node of these has a case, where the first one has number n
abbrev pub has_case_from : MigView → ℕ → List Maj → Bool
has_case_from g n [] = false
has_case_from g n (m ∷ rest) = (is_needed g n && is_some (case_of g m)) || has_case_from g (suc n) rest

abbrev pub has_case : MigView → Bool
has_case g = has_case_from g (1 + g.inputs) g.nodes

-- ---- the distribution pass
-- the remaining operands and the third one as a node
abbrev pub inner : List Lit → Case → Maj
inner lits c = record { x = moved lits c.u; y = moved lits c.v; z = moved lits c.w }

-- the shared operands and a literal as a node
abbrev pub outer : List Lit → Case → Lit → Maj
outer lits c l = record { x = moved lits c.s; y = moved lits c.t; z = l }

-- the majority of majorities that share two operands: the majority of these two and the majority of the rest
abbrev pub spread_case : ℕ → Making → Case → Made
spread_case inputs st c =
    let d = made inputs st.nodes (inner st.lits c) in
    made inputs d.nodes (outer st.lits c d.lit)

abbrev pub spread : Option Case → ℕ → Step
spread None inputs st m = plainly inputs st m
spread (Some c) inputs st m = spread_case inputs st c

abbrev pub distribute : MigView → MigView
distribute g = passed (λ st m. spread (case_of g m) g.inputs st m) g
