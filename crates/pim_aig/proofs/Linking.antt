-- One link of a chain.
use Rattle.std.proofs.Common.{◌≡◌, ℕ, ◌+◌, ◌<◌, ◌≤◌, List, [], ◌∷◌, ◌++◌, length, Option, Some, None, sym, ◌∙◌, ap, subst, arith}
use Rattle.std.proofs.lemmas.List.{length_push}
use Rattle.pim_aig.specs.Chains.{chain_from}
use Rattle.pim_aig.specs.Faults.{Says}
use Rattle.pim_aig.specs.declared.fault.FlatFault.{FlatFault}
use Rattle.pim_aig.specs.declared.fault.FlatFault.TheVariants.{TooLarge, NoMemory}
use Rattle.pim_aig.specs.Graph.{AigView, nodes}
use Rattle.pim_aig.specs.Literals.{plain}
use Rattle.pim_aig.specs.declared.literal.Lit.{Lit}
use Rattle.pim_aig.specs.declared.graph.And.{And}
use Rattle.pim_aig.specs.declared.graph.TheConstants.{MAX_ANDS}

-- no AND node is lost
pub chain_from-le : (inputs : ℕ) (ands : List And) (last : Option Lit) (ls : List Lit) → length ands ≤ length (chain_from inputs ands last ls).ands
chain_from-le inputs ands None [] = omega arith
chain_from-le inputs ands (Some c) [] = omega arith
chain_from-le inputs ands None (l ∷ ls) = chain_from-le inputs ands (Some l) ls
chain_from-le inputs ands (Some c) (l ∷ ls) =
    let more : List And = ands ++ record { x = c; y = l } ∷ [] in
    let len : length more ≡ length ands + 1 = length_push ands (record { x = c; y = l }) in
    let rest : length more ≤ length (chain_from inputs more (Some (plain (1 + inputs + length ands))) ls).ands = chain_from-le inputs more (Some (plain (1 + inputs + length ands))) ls in
    omega arith

-- where there is no room for the next AND node, the chain is too large
pub link_large : (inputs : ℕ) (ands : List And) (last : Option Lit) (c l : Lit) (rest : List Lit) → last ≡ Some c → length ands ≡ MAX_ANDS → MAX_ANDS < length (chain_from inputs ands last (l ∷ rest)).ands
link_large inputs ands last c l rest e full =
    let P : Option Lit → Type 0 = λ o. MAX_ANDS < length (chain_from inputs ands o (l ∷ rest)).ands in
    let more : List And = ands ++ record { x = c; y = l } ∷ [] in
    let len : length more ≡ length ands + 1 = length_push ands (record { x = c; y = l }) in
    let grown : length more ≤ length (chain_from inputs more (Some (plain (1 + inputs + length ands))) rest).ands = chain_from-le inputs more (Some (plain (1 + inputs + length ands))) rest in
    let here : MAX_ANDS < length (chain_from inputs more (Some (plain (1 + inputs + length ands))) rest).ands = omega arith in
    subst P (sym e) here

-- the next AND node goes on with the chain
pub link_made : (g h : AigView) (last : Option Lit) (c l f : Lit) → last ≡ Some c → h ≡ record g { ands = g.ands ++ record { x = c; y = l } ∷ [] } → f ≡ plain (nodes g) → (rest : List Lit) → chain_from h.inputs h.ands (Some f) rest ≡ chain_from g.inputs g.ands last (l ∷ rest)
link_made g h last c l f e grown is rest =
    ap (λ (k : AigView). chain_from k.inputs k.ands (Some f) rest) grown ∙ (ap (λ (x : Lit). chain_from g.inputs (g.ands ++ record { x = c; y = l } ∷ []) (Some x) rest) is ∙ sym (ap (λ (o : Option Lit). chain_from g.inputs g.ands o (l ∷ rest)) e))

-- what a fault says of a number, it says of each greater one
pub Says-le : (fault : FlatFault) (m n : ℕ) → m ≤ n → Says fault m → Says fault n
Says-le TooLarge m n l h = omega arith
Says-le NoMemory m n l h = tt
