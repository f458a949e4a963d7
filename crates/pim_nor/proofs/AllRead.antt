-- Each gate of a network is read.
use Rattle.std.proofs.Common.{◌≡◌, ℕ, zero, suc, ◌+◌, ◌<◌, Bool, true, false, List, [], ◌∷◌, length, get_or, map, Contains, inl, inr, sym, ◌∙◌, ap, subst, arith}
use Rattle.std.proofs.lemmas.Bool.{false≢true}
use Rattle.std.proofs.lemmas.List.{length-map}
use Rattle.pim_aig.specs.Graph.{AigView, IsAig}
use Rattle.pim_nor.specs.Leaves.{leaves}
use Rattle.pim_nor.specs.Lowered.{marks_of, nors, roots}
use Rattle.pim_nor.specs.Named.{gate_at}
use Rattle.pim_nor.specs.Network.{pins}
use Rattle.pim_nor.specs.Reached.{kept, number, numbered, numbered_gate}
use Rattle.pim_nor.specs.Reaching.{IsSlotReached, by_output, by_gate}
use Rattle.pim_nor.specs.Network.{IsRead}
use Rattle.pim_nor.specs.declared.lowering.Width.{Width}
use Rattle.pim_nor.specs.declared.network.Gate.{Gate}
use Rattle.pim_nor.specs.declared.network.Gate.TheVariants.{One}
use Rattle.pim_nor.specs.declared.network.Pin.{Pin}
use Rattle.pim_nor.specs.declared.network.Pin.TheVariants.{Gate as Place}
use Rattle.pim_nor.proofs.Numbering.{number-suc, number-lt_all, length-kept, get_or-kept, pins-numbered_gate}
use Rattle.pim_nor.proofs.Reachable.{reached-kept, kept-reached}

-- the gate of a marked slot stands at its number
kept-number : (f : ℕ → Gate) (from : ℕ) (ms : List Bool) (t : ℕ) (d : Gate) → get_or ms t false ≡ true → get_or (kept f from ms) (number ms t) d ≡ f (from + t)
kept-number f from [] t d h = absurd (false≢true h)
kept-number f from (true ∷ ms) zero d h = ap f (omega arith)
kept-number f from (false ∷ ms) zero d h = absurd (false≢true h)
kept-number f from (true ∷ ms) (suc t) d h =
    let e : number (true ∷ ms) (suc t) ≡ suc (number ms t) = omega (arith, number-suc true ms t) in
    ap (λ (n : ℕ). get_or (kept f from (true ∷ ms)) n d) e ∙ (kept-number f (suc from) ms t d h ∙ ap f (omega arith))
kept-number f from (false ∷ ms) (suc t) d h =
    let e : number (false ∷ ms) (suc t) ≡ number ms t = omega (arith, number-suc false ms t) in
    ap (λ (n : ℕ). get_or (kept f from (false ∷ ms)) n d) e ∙ (kept-number f (suc from) ms t d h ∙ ap f (omega arith))

-- a numbered list holds the numbers of what the list holds
get_or-numbered : (ms : List Bool) (ps : List Pin) (k : ℕ) (p d : Pin) → k < length ps → get_or ps k p ≡ p → get_or (map (numbered ms) ps) k d ≡ numbered ms p
get_or-numbered ms [] k p d l e = absurd (omega arith)
get_or-numbered ms (q ∷ ps) zero p d l e = ap (numbered ms) e
get_or-numbered ms (q ∷ ps) (suc k) p d l e = get_or-numbered ms ps k p d (omega arith) e

Contains-numbered : (ms : List Bool) (ps : List Pin) (s : ℕ) → Contains ps (Place s) → Contains (map (numbered ms) ps) (Place (number ms s))
Contains-numbered ms ps s c =
    (c.0, (let l = c.1 in omega (arith, length-map ps (numbered ms))), get_or-numbered ms ps c.0 (Place s) (Place (number ms s)) c.1 c.2)

-- the gate of a slot that the outputs reach is read in the network
read_by_number : (g : AigView) → IsAig g → (width : Width) → {slot : ℕ} → IsSlotReached g width slot → IsRead (nors g width) (number (marks_of g (leaves g width)) slot)
read_by_number g sound width {slot} (by_output c) = inl (Contains-numbered (marks_of g (leaves g width)) (roots g) slot c)
read_by_number g sound width {slot} (by_gate {reader} r c) =
    let lists = leaves g width in
    let ms = marks_of g lists in
    let gate : ℕ → Gate = λ s. numbered_gate ms (gate_at g lists s) in
    let marked : get_or ms reader false ≡ true = reached-kept g sound width r in
    let j = number ms reader in
    let there : j < length (nors g width).gates = omega (arith, number-lt_all ms reader marked, length-kept gate 0 ms) in
    let from_zero : 0 + reader ≡ reader = omega arith in
    let here : get_or (nors g width).gates j One ≡ gate reader = kept-number gate 0 ms reader One marked ∙ ap gate from_zero in
    let reads : pins (get_or (nors g width).gates j One) ≡ map (numbered ms) (pins (gate_at g lists reader)) = ap (λ (x : Gate). pins x) here ∙ pins-numbered_gate ms (gate_at g lists reader) in
    let P : List Pin → Type 0 = λ ps. Contains ps (Place (number ms slot)) in
    inr (j, there, subst P (sym reads) (Contains-numbered ms (pins (gate_at g lists reader)) slot c))

-- each gate of the network is read by an output or by one of its gates
pub nors-IsRead : (g : AigView) → IsAig g → (width : Width) → (k : ℕ) → k < length (nors g width).gates → IsRead (nors g width) k
nors-IsRead g sound width k l =
    let lists = leaves g width in
    let ms = marks_of g lists in
    let at = get_or-kept (λ s. numbered_gate ms (gate_at g lists s)) 0 ms k One l in
    let P : ℕ → Type 0 = λ n. IsRead (nors g width) n in
    subst P at.number_is (read_by_number g sound width (kept-reached g width at.slot at.marked))
