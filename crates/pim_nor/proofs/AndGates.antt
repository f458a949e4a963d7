-- The gate of an AND node's value at each width.
use Rattle.std.proofs.Common.{◌≡◌, ℕ, List, [], ◌∷◌, ◌∙◌, sym, ap}
use Rattle.pim_aig.specs.Graph.{AigView}
use Rattle.pim_aig.specs.declared.literal.Lit.{Lit}
use Rattle.pim_aig.specs.declared.graph.And.{And}
use Rattle.pim_nor.specs.Leaves.{leaves, and_at, widened, distinct}
use Rattle.pim_nor.specs.Named.{nor_of_leaves}
use Rattle.pim_nor.specs.declared.lowering.Width.{Width}
use Rattle.pim_nor.specs.declared.lowering.Width.TheVariants.{Two, Four}
use Rattle.pim_nor.specs.declared.network.Gate.{Gate}

pub two_gate : (g : AigView) (w : Width) (n i : ℕ) (a : And) (x : Gate) → w ≡ Two → i ≡ g.inputs → a ≡ and_at g n → x ≡ nor_of_leaves i (distinct (a.x ∷ a.y ∷ [])) → x ≡ nor_of_leaves g.inputs (leaves g w n)
unfolding leaves
two_gate g w n i a x is inputs and made =
    made ∙ (ap (λ (j : ℕ). nor_of_leaves j (distinct (a.x ∷ a.y ∷ []))) inputs ∙ (ap (λ (b : And). nor_of_leaves g.inputs (distinct (b.x ∷ b.y ∷ []))) and ∙ ap (λ (v : Width). nor_of_leaves g.inputs (leaves g v n)) (sym is)))

pub four_gate : (g : AigView) (w : Width) (n i : ℕ) (a : And) (once twice : List Lit) (x : Gate) → w ≡ Four → i ≡ g.inputs → a ≡ and_at g n → once ≡ widened g (a.x ∷ a.y ∷ []) → twice ≡ widened g once → x ≡ nor_of_leaves i (distinct twice) → x ≡ nor_of_leaves g.inputs (leaves g w n)
unfolding leaves
four_gate g w n i a once twice x is inputs and first second made =
    made ∙ (ap (λ (j : ℕ). nor_of_leaves j (distinct twice)) inputs ∙ (ap (λ (ls : List Lit). nor_of_leaves g.inputs (distinct ls)) (second ∙ ap (widened g) (first ∙ ap (λ (b : And). widened g (b.x ∷ b.y ∷ [])) and)) ∙ ap (λ (v : Width). nor_of_leaves g.inputs (leaves g v n)) (sym is)))
