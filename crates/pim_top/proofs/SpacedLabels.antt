-- Labels, each after a space, one after another, and how they are written.
use Rattle.std.proofs.Common.{◌≡◌, ℕ, zero, suc, ◌+◌, ◌<◌, ◌≤◌, List, [], ◌∷◌, ◌++◌, Option, Ok, codes, length, take, drop, get_or, refl, sym, ap, ◌∙◌, subst, arith, append_assoc, append-nil}
use Rattle.std.proofs.lemmas.List.{take-append-drop, take_all}
use Rattle.pim_io.specs.Outside.{Wrote}
use Rattle.pim_io.specs.Writes.{WritesAddUp, Written}
use Rattle.pim_io.specs.declared.sink.SinkFault.{SinkFault}
use Rattle.pim_top.specs.Notes.{spaced}

spaced-append : (xs ys : List (List ℕ)) → spaced (xs ++ ys) ≡ spaced xs ++ spaced ys
spaced-append [] ys = refl
spaced-append (x ∷ xs) ys =
    ap (λ (t : List ℕ). (codes " " ++ x) ++ t) (spaced-append xs ys) ∙ sym (append_assoc (codes " " ++ x) (spaced xs) (spaced ys))

-- one label more
pub spaced-more : (labels : List (List ℕ)) (k : ℕ) (d : List ℕ) → k < length labels → spaced (take (k + 1) labels) ≡ spaced (take k labels) ++ (codes " " ++ get_or labels k d)
spaced-more [] k d h = absurd (omega arith)
spaced-more (x ∷ xs) zero d h = append-nil (codes " " ++ x)
spaced-more (x ∷ xs) (suc k) d h =
    let next : suc k + 1 ≡ suc (k + 1) = omega arith in
    ap (λ (n : ℕ). spaced (take n (x ∷ xs))) next
    ∙ ap (λ (t : List ℕ). (codes " " ++ x) ++ t) (spaced-more xs k d (omega arith))
    ∙ sym (append_assoc (codes " " ++ x) (spaced (take k xs)) (codes " " ++ get_or xs k d))

-- all of them, by those so far
pub spaced-rest : (labels : List (List ℕ)) (k : ℕ) → spaced labels ≡ spaced (take k labels) ++ spaced (drop k labels)
spaced-rest labels k = ap spaced (sym (take-append-drop k labels)) ∙ spaced-append (take k labels) (drop k labels)

pub spaced-all : (labels : List (List ℕ)) (k : ℕ) → length labels ≤ k → spaced (take k labels) ≡ spaced labels
spaced-all labels k h = ap spaced (take_all k labels h)

-- behind those so far one label more was written, or a front of it
pub wrote-more : WritesAddUp → (labels : List (List ℕ)) (k : ℕ) (d space label : List ℕ) (start now next : Option (List ℕ)) (count faults more : ℕ) (result : Written) →
    k < length labels → space ≡ codes " " → label ≡ get_or labels k d →
    Wrote {E = SinkFault} (Ok (tt {0})) start now count faults (spaced (take k labels)) → Wrote result now next faults more (space ++ label) →
    Wrote result start next count more (spaced (take (k + 1) labels))
wrote-more laws labels k d space label start now next count faults more result there is_space is_label wrote piece =
    let same : spaced (take k labels) ++ (space ++ label) ≡ spaced (take (k + 1) labels) =
    ap (λ (s : List ℕ). spaced (take k labels) ++ (s ++ label)) is_space
    ∙ ap (λ (l : List ℕ). spaced (take k labels) ++ (codes " " ++ l)) is_label
    ∙ sym (spaced-more labels k d there) in
    subst (λ (t : List ℕ). Wrote result start next count more t) same
    (laws.both start now next count faults more result (spaced (take k labels)) (space ++ label) wrote piece)

-- behind the front of a note its labels were written, or a front of them
pub wrote-labels : WritesAddUp → (head text labels : List ℕ) (start now next : Option (List ℕ)) (count faults more : ℕ) (result : Written) → head ≡ codes "pim: " →
    Wrote {E = SinkFault} (Ok (tt {0})) start now count faults ((head ++ codes "bad input: ") ++ text) → Wrote result now next faults more labels →
    Wrote result start next count more ((codes "pim: bad input: " ++ text) ++ labels)
wrote-labels laws head text labels start now next count faults more result is_head wrote rest =
    let first = subst (λ (p : List ℕ). Wrote {A = Unit {0}} {E = SinkFault} (Ok tt) start now count faults ((p ++ codes "bad input: ") ++ text)) is_head wrote in
    laws.both start now next count faults more result (codes "pim: bad input: " ++ text) labels first rest
