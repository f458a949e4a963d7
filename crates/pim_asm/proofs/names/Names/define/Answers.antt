use Rattle.std.proofs.Common.{◌≡◌, ap, sym, ◌∙◌, ℕ, List, ◌∷◌, [], ◌++◌, Option, Some, None, false, refl}
use Rattle.std.specs.Option.{is_some}
use Rattle.pim_asm.specs.Names.{cell_named}
use Rattle.pim_asm.specs.inner.Defined.{defined}
use Rattle.pim_asm.proofs.NameLemmas.{name_added}
use Rattle.pim_asm.proofs.names.Names.define.Goals as goal

-- an option in which nothing is
none_is : {A : Type 0} (o : Option A) → is_some o ≡ false → o ≡ None
none_is None h = refl
none_is (Some x) h = absurd cc

pub returns : goal.returns
returns c =
    let names = c.args.self.now in
    let name = c.args.name.now in
    let entries = c.self.inside.cells.entries in
    let missing : is_some (cell_named names name) ≡ false = ap is_some (sym c.cell.ensures) ∙ sym c.is_some.ensures ∙ c.if-is_some.false in
    let none : cell_named (defined entries) name ≡ None = ap (λ (ns : List (List ℕ × ℕ)). cell_named ns name) c.self.view_is ∙ none_is (cell_named names name) missing in
    let added : defined c.insert.new.self.entries ≡ defined entries ++ (name, c.args.cell) ∷ [] = ap defined c.in_ok-insert.ensures.entries ∙ name_added entries c.args.name c.args.cell none in
    let whole : defined c.insert.new.self.entries ≡ names ++ (name, c.args.cell) ∷ [] = added ∙ ap (λ (ns : List (List ℕ × ℕ)). ns ++ (name, c.args.cell) ∷ []) c.self.view_is in
    rw missing (ap (λ (ns : List (List ℕ × ℕ)). let o : Option (List (List ℕ × ℕ)) = Some ns in o) (sym whole))
