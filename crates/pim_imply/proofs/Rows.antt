-- What the instructions of a gate leave in a row.
use Rattle.std.proofs.Common.{◌≡◌, ◌≢◌, ℕ, ◌<◌, Bool, true, false, not, ◌&&◌, ◌||◌, List, [], ◌∷◌, ◌++◌, length, map, set, refl, sym, ◌∙◌, ap, get_or-set_same, get_or-set_other}
use Rattle.std.specs.List.{list_all, AllByRecursion}
use Rattle.std.proofs.Math.ListN.{length-set}
use Rattle.pim_isa.specs.Steps.{bit}
use Rattle.pim_imply.specs.declared.instr.ImplyInstr.{ImplyInstr}
use Rattle.pim_imply.specs.declared.instr.ImplyInstr.TheVariants.{False, Imp}
use Rattle.pim_imply.specs.Machines.{istep, iexec}
use Rattle.pim_imply.specs.Realizes.{written}
use Rattle.pim_imply.specs.inner.Schedules.{nand_instrs}

written_same : (m : List Bool) (z : ℕ) (b : Bool) → z < length m → bit (set m z b) z ≡ b
written_same m z b h = rw get_or-set_same refl

written_other : (m : List Bool) (z c : ℕ) (b : Bool) → c ≢ z → bit (set m z b) c ≡ bit m c
written_other m z c b h = rw get_or-set_other refl

pub step_length : (i : ImplyInstr) (m : List Bool) → length (istep m i) ≡ length m
step_length (False q) m = simp length-set
step_length (Imp p q) m = simp length-set

pub iexec_length : (is : List ImplyInstr) (m : List Bool) → length (iexec is m) ≡ length m
iexec_length [] m = refl
iexec_length (i ∷ is) m = iexec_length is (istep m i) ∙ step_length i m

pub iexec_append : (is js : List ImplyInstr) (m : List Bool) → iexec (is ++ js) m ≡ iexec js (iexec is m)
iexec_append [] js m = refl
iexec_append (i ∷ is) js m = iexec_append is js (istep m i)

step_other : (i : ImplyInstr) (m : List Bool) (c : ℕ) → (c ≡ written i → ⊥) → bit (istep m i) c ≡ bit m c
step_other (False q) m c h = written_other m q c false h
step_other (Imp p q) m c h = written_other m q c (not (bit m p) || bit m q) h

pub iexec_other : (is : List ImplyInstr) (m : List Bool) (c : ℕ) → AllByRecursion (λ i. written i ≢ c) is → bit (iexec is m) c ≡ bit m c
iexec_other [] m c h = refl
iexec_other (i ∷ is) m c h = iexec_other is (istep m i) c h.1 ∙ step_other i m c (λ e. h.0 (sym e))

implied : (a b r : Bool) → ((not a || b) || not r) ≡ (b || not (a && r))
implied true true r = refl
implied true false r = refl
implied false true r = refl
implied false false r = refl

or_none : (b : Bool) → b ≡ (b || false)
or_none true = refl
or_none false = refl

-- cells that are not z have the same bits once z is written
all_same : (m : List Bool) (z : ℕ) (b : Bool) (sources : List ℕ) → AllByRecursion (λ c. c ≢ z) sources → list_all (bit (set m z b)) sources ≡ list_all (bit m) sources
all_same m z b [] h = refl
all_same m z b (c ∷ cs) h = let first = written_other m z c b h.0 in let rest = all_same m z b cs h.1 in rw (first, rest) refl

imps_give : (z : ℕ) (sources : List ℕ) (m : List Bool) → z < length m → AllByRecursion (λ c. c ≢ z) sources → bit (iexec (map (λ c. Imp c z) sources) m) z ≡ (bit m z || not (list_all (bit m) sources))
imps_give z [] m fits h = or_none (bit m z)
imps_give z (c ∷ cs) m fits h =
    let b = not (bit m c) || bit m z in
    let wide : z < length (set m z b) = simp length-set fits in
    let rest = imps_give z cs (set m z b) wide h.1 in
    let here = written_same m z b fits in
    let same = all_same m z b cs h.1 in
    rest ∙ ap (λ (x : Bool). x || not (list_all (bit (set m z b)) cs)) here ∙ ap (λ (x : Bool). b || not x) same ∙ implied (bit m c) (bit m z) (list_all (bit m) cs)

imps_off : (z c : ℕ) (sources : List ℕ) → c ≢ z → AllByRecursion (λ i. written i ≢ c) (map (λ s. Imp s z) sources)
imps_off z c [] h = tt
imps_off z c (s ∷ ss) h = ((λ e. h (sym e)), imps_off z c ss h)

-- the cell of a gate holds whether not all of its sources are true
pub nand_gives : (z : ℕ) (sources : List ℕ) (m : List Bool) → z < length m → AllByRecursion (λ c. c ≢ z) sources → bit (iexec (nand_instrs z sources) m) z ≡ not (list_all (bit m) sources)
nand_gives z sources m fits h =
    let wide : z < length (set m z false) = simp length-set fits in
    let here = written_same m z false fits in
    let same = all_same m z false sources h in
    imps_give z sources (set m z false) wide h ∙ ap (λ (x : Bool). x || not (list_all (bit (set m z false)) sources)) here ∙ ap (λ (x : Bool). not x) same

-- and every other cell stays
pub nand_off : (z c : ℕ) (sources : List ℕ) (m : List Bool) → c ≢ z → bit (iexec (nand_instrs z sources) m) c ≡ bit m c
nand_off z c sources m h = iexec_other (nand_instrs z sources) m c ((λ e. h (sym e)), imps_off z c sources h)
