-- The peak of an order bounds what each place holds.
use Rattle.std.proofs.Common.{ℕ, ◌+◌, ◌<◌, ◌≤◌, zero, suc, List, [], ◌∷◌, ◌++◌, length, take, drop, count_by, append_assoc, ap, arith}
use Rattle.std.proofs.lemmas.List.{append-nil, length_push}
use Rattle.std.proofs.lemmas.List.Sums.{count_by-le-length}
use Rattle.pim_graph.specs.Graphs.{GraphView}
use Rattle.pim_graph.specs.Peaks.{needed, peak_from}

pub peak_bounds : (g : GraphView) (earlier later : List ℕ) (p : ℕ) → p < length later → count_by (needed g (drop p later)) (earlier ++ take p later) + 1 ≤ peak_from g earlier later
peak_bounds g earlier [] p h = absurd (omega arith)
peak_bounds g earlier (x ∷ later) zero h =
    let e = ap (count_by (needed g (x ∷ later))) (append-nil earlier) in
    omega arith
peak_bounds g earlier (x ∷ later) (suc p) h =
    let rest = peak_bounds g (earlier ++ x ∷ []) later p (omega arith) in
    let e = ap (count_by (needed g (drop p later))) (append_assoc earlier (x ∷ []) (take p later)) in
    omega arith

pub peak_within : (g : GraphView) (earlier later : List ℕ) → peak_from g earlier later ≤ length earlier + length later
peak_within g earlier [] = omega arith
peak_within g earlier (x ∷ later) =
    let rest = peak_within g (earlier ++ x ∷ []) later in
    let here = count_by-le-length (needed g (x ∷ later)) earlier in
    omega (arith, length_push earlier x)
