-- The names that a map holds, as a list of names and cells.
use Rattle.std.proofs.Common.{◌≡◌, ℕ, Bool, true, false, cond, List, [], ◌∷◌, ◌++◌, Option, Some, None, refl, ap}
use Rattle.std.specs.Borrow.{Bor}
use Rattle.std.specs.Map.{lookup}
use Rattle.std.specs.Str.{bytes_eq}
use Rattle.indexmap.specs.IndexMap.{insert_entry}
use Rattle.pim_asm.specs.Names.{cell_named}
use Rattle.pim_asm.specs.inner.Defined.{defined}

-- the cell of a name is what the map finds
pub cell_found : (entries : List (Bor (List ℕ) × ℕ)) (name : List ℕ) → lookup (λ (key : Bor (List ℕ)). bytes_eq name key.now) entries ≡ cell_named (defined entries) name
cell_found [] name = refl
cell_found (entry ∷ entries) name = ap (λ (o : Option ℕ). cond (bytes_eq name entry.0.now) (Some entry.1) o) (cell_found entries name)

-- a name that isn't there goes last
pub name_added : (entries : List (Bor (List ℕ) × ℕ)) (name : Bor (List ℕ)) (cell : ℕ) → cell_named (defined entries) name.now ≡ None → defined (insert_entry (λ (x y : Bor (List ℕ)). bytes_eq x.now y.now) entries name cell) ≡ defined entries ++ (name.now, cell) ∷ []
name_added [] name cell none = refl
name_added (entry ∷ entries) name cell none = by (bytes_eq name.now entry.0.now) none (name_added entries name cell)
  where
    by : (t : Bool) → cond t (Some entry.1) (cell_named (defined entries) name.now) ≡ None
        → (cell_named (defined entries) name.now ≡ None → defined (insert_entry (λ (x y : Bor (List ℕ)). bytes_eq x.now y.now) entries name cell) ≡ defined entries ++ (name.now, cell) ∷ [])
        → defined (cond t ((entry.0, cell) ∷ entries) (entry ∷ insert_entry (λ (x y : Bor (List ℕ)). bytes_eq x.now y.now) entries name cell)) ≡ defined (entry ∷ entries) ++ (name.now, cell) ∷ []
    by true h others = absurd cc
    by false h others = ap (λ (ns : List (List ℕ × ℕ)). (entry.0.now, entry.1) ∷ ns) (others h)
