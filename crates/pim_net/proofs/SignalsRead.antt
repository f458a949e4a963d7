-- The first signal that is read without a driver, by equations and columns.
use Rattle.std.proofs.Common.{◌≡◌, ℕ, ◌+◌, ◌<◌, Bool, List, ◌∷◌, length, get_or, drop, map, ap, sym, ◌∙◌}
use Rattle.std.specs.Prelude.{find}
use Rattle.std.specs.Option.{option_or}
use Rattle.std.specs.List.{flat_map}
use Rattle.std.proofs.lemmas.List.{drop_more, append_assoc}
use Rattle.std.proofs.lemmas.List.Folds.{find-append}
use Rattle.pim_net.specs.Drivers.{read}
use Rattle.pim_net.specs.declared.parts.Equation.{Equation}
use Rattle.pim_net.specs.declared.parts.OutRef.{OutRef}

-- the reads from equation i on are those of equation i, and then the later ones
pub read-drop : (p : ℕ → Bool) (equations : List Equation) (outputs : List OutRef) (i : ℕ) (e : Equation) → i < length equations → e ≡ get_or equations i e
    → find p (read (drop i equations) outputs) ≡ option_or (find p e.cover.ins) (find p (read (drop (i + 1) equations) outputs))
read-drop p equations outputs i e within is =
    let next : drop i equations ≡ e ∷ drop (i + 1) equations = drop_more equations i e within ∙ ap (λ x. x ∷ drop (i + 1) equations) (sym is) in
    ap (λ l. find p (read l outputs)) next
    ∙ ap (find p) (append_assoc e.cover.ins (flat_map (λ (x : Equation). x.cover.ins) (drop (i + 1) equations)) (map (λ (o : OutRef). o.sig) outputs))
    ∙ find-append p e.cover.ins (read (drop (i + 1) equations) outputs)
