use Rattle.std.proofs.Common.{◌≡◌, ◌+◌, ◌<◌, ◌≤◌, ◌++◌, ◌-◌, ◌∷◌, [], suc, List, length, set, refl, ap, sym, ◌∙◌, subst, arith, ◌^◌}
use Rattle.std.specs.Prelude.{reverse, count_by}
use Rattle.std.proofs.lemmas.List.{reverse-append, nil_from_length, length-reverse, length_push}
use Rattle.pim_net.specs.inner.DepthFirst.{ins, mark, is_new, column_of, marked_depth, IsTrail, IsMarked}
use Rattle.pim_net.specs.Cycles.{IsCycle}
use Rattle.pim_net.specs.declared.search.Mark.TheVariants.{New, Open, Deep}
use Rattle.pim_net.specs.declared.search.Frame.{Frame}
use Rattle.pim_net.proofs.Rounds.{round_is_cycle}
use Rattle.pim_net.proofs.Trails.{known_all, walk_round}
use Rattle.pim_net.proofs.Marking.{marks_into, trail_into, marks_done, marked_is, trail_past, marks_past, stays_old, fewer_new, smaller_into}
use Rattle.pim_net.specs.Tables.{values}
use Rattle.pim_net.proofs.visit.visit.Goals as goal

-- the last of a path comes first of its trail
reverse_push : (xs : List Frame) (x : Frame) → reverse (xs ++ x ∷ []) ≡ x ∷ reverse xs
reverse_push xs x = reverse-append xs (x ∷ [])

pub walk-preserved-in-Some : goal.walk-preserved-in-Some
walk-preserved-in-Some c =
    let es = c.args.equations.now in
    let table = values c.args.table.now in
    let root = c.args.root in
    let marks = c.walk.marks.items in
    let at = c.walk.at in
    let y = Deep (at.depth + 1) in
    let rest = reverse c.pop.new.self.items in
    let rev : reverse c.walk.path.items ≡ c.in-Some.parent ∷ rest = ap reverse c.in-Some.ensures.items ∙ reverse_push c.pop.new.self.items c.in-Some.parent in
    let t : IsTrail es table root (at ∷ c.in-Some.parent ∷ rest) = subst (λ l. IsTrail es table root (at ∷ l)) rev c.walk.invariant.trail in
    let m : IsMarked es table marks (at ∷ c.in-Some.parent ∷ rest) = subst (λ l. IsMarked es table marks (at ∷ l)) rev c.walk.invariant.marked in
    let inside : at.equation < length marks = omega (arith, m.sized, t.0.known) in
    record {
      trail = t.4;
      marked = marks_done es table root marks at (c.in-Some.parent ∷ rest) c.requires.wired m t c.in-Done.ensures;
      kept = λ k h. stays_old marks at.equation y k refl inside (c.walk.invariant.kept k h);
      came = stays_old marks at.equation y root refl inside c.walk.invariant.came;
    }

pub returns-in-None-clause-visited : goal.returns-in-None-clause-visited
returns-in-None-clause-visited c =
    let es = c.args.equations.now in
    let table = values c.args.table.now in
    let root = c.args.root in
    let marks = c.walk.marks.items in
    let at = c.walk.at in
    let y = Deep (at.depth + 1) in
    let empty : c.walk.path.items ≡ [] = nil_from_length c.walk.path.items (omega (arith, c.in-None.ensures.cases)) in
    let rev : reverse c.walk.path.items ≡ [] = ap reverse empty in
    let t : IsTrail es table root (at ∷ []) = subst (λ l. IsTrail es table root (at ∷ l)) rev c.walk.invariant.trail in
    let m : IsMarked es table marks (at ∷ []) = subst (λ l. IsMarked es table marks (at ∷ l)) rev c.walk.invariant.marked in
    let inside : at.equation < length marks = omega (arith, m.sized, t.0.known) in
    record {
      marked = marks_done es table root marks at [] c.requires.wired m t c.in-Done.ensures;
      kept = λ k h. stays_old marks at.equation y k refl inside (c.walk.invariant.kept k h);
      came = stays_old marks at.equation y root refl inside c.walk.invariant.came;
    }

pub walk-preserved-in-Past : goal.walk-preserved-in-Past
walk-preserved-in-Past c =
    let es = c.args.equations.now in
    let table = values c.args.table.now in
    let root = c.args.root in
    let marks = c.walk.marks.items in
    let at = c.walk.at in
    let rest = reverse c.walk.path.items in
    let told = ap (λ ms. marked_depth ms (table (column_of es at))) (sym c.as_slice.ensures.value) ∙ (c.in-Past.ensures).1 in
    let w = marked_is es table marks (at ∷ rest) (column_of es at) c.in-Past.depth c.requires.wired c.walk.invariant.marked told in
    let g : Frame = record { equation = at.equation; column = at.column + 1; depth = c.max.result } in
    record {
      trail = trail_past es table root at g rest c.in-Past.depth c.walk.invariant.trail (c.in-Past.ensures).0 w.0 refl refl c.max.ensures;
      marked = marks_past es table marks at g rest c.in-Past.depth c.walk.invariant.marked w.1 refl c.max.ensures;
      kept = c.walk.invariant.kept;
      came = c.walk.invariant.came;
    }

pub index_mut-requires-in-Into : goal.index_mut-requires-in-Into
index_mut-requires-in-Into c =
    let w = c.requires.wired.covers (column_of c.args.equations.now c.walk.at) c.in-Into.k (c.in-Into.ensures).1 in
    omega (arith, w.0, c.walk.invariant.marked.sized)

pub walk-smaller : goal.walk-smaller
walk-smaller c =
    let es = c.args.equations.now in
    let marks = c.walk.marks.items in
    let k = c.in-Into.k in
    let w = c.requires.wired.covers (column_of es c.walk.at) k (c.in-Into.ensures).1 in
    let inside : k < length marks = omega (arith, w.0, c.walk.invariant.marked.sized) in
    let fresh : mark marks k ≡ New = ap (λ ms. mark ms k) (sym c.as_slice.ensures.value) ∙ (c.in-Into.ensures).2 in
    let longer : length c.push.new.self.items ≡ length c.walk.path.items + 1 = ap length c.in_ok-push-in-Into.ensures.items ∙ length_push c.walk.path.items c.walk.at in
    let short : length c.walk.path.items < 2 ^ 28 = omega (arith, c.walk.invariant.marked.counted, length-reverse c.walk.path.items, c.requires.wired.few) in
    smaller_into (count_by is_new marks) (count_by is_new (set marks k Open)) (length c.walk.path.items) (length c.push.new.self.items) (length (ins es c.walk.at.equation) - c.walk.at.column) (length (ins es k) - 0)
    (fewer_new marks k inside fresh) longer short (omega (arith, c.requires.wired.narrow k))

pub walk-preserved : goal.walk-preserved
walk-preserved c =
    let es = c.args.equations.now in
    let table = values c.args.table.now in
    let root = c.args.root in
    let marks = c.walk.marks.items in
    let at = c.walk.at in
    let k = c.in-Into.k in
    let old = reverse c.walk.path.items in
    let w = c.requires.wired.covers (column_of es at) k (c.in-Into.ensures).1 in
    let inside : k < length marks = omega (arith, w.0, c.walk.invariant.marked.sized) in
    let fresh : mark marks k ≡ New = ap (λ ms. mark ms k) (sym c.as_slice.ensures.value) ∙ (c.in-Into.ensures).2 in
    let f : Frame = record { equation = k; column = 0; depth = 0 } in
    let rev : at ∷ old ≡ reverse c.push.new.self.items = sym (ap reverse c.in_ok-push-in-Into.ensures.items ∙ reverse_push c.walk.path.items at) in
    record {
      trail = subst (λ l. IsTrail es table root (f ∷ l)) rev (trail_into es table root marks f at old c.walk.invariant.trail c.walk.invariant.marked.opened w.0 fresh (c.in-Into.ensures).0 (sym w.1) refl refl);
      marked = subst (λ l. IsMarked es table (set marks k Open) (f ∷ l)) rev (marks_into es table marks (at ∷ old) k f c.walk.invariant.marked w.0 fresh refl refl);
      kept = λ j h. stays_old marks k Open j refl inside (c.walk.invariant.kept j h);
      came = stays_old marks k Open root refl inside c.walk.invariant.came;
    }

pub trail_back-requires-clause-known : goal.trail_back-requires-clause-known
trail_back-requires-clause-known c = known_all c.args.equations.now (values c.args.table.now) c.args.root (c.walk.at ∷ reverse c.walk.path.items) c.walk.invariant.trail

pub returns-in-Round-clause-round : goal.returns-in-Round-clause-round
returns-in-Round-clause-round c =
    let es = c.args.equations.now in
    let k = c.in-Round.k in
    let opened : mark c.walk.marks.items k ≡ Open = ap (λ ms. mark ms k) (sym c.as_slice.ensures.value) ∙ (c.in-Round.ensures).2 in
    let among = c.walk.invariant.marked.opens k opened in
    let w = c.requires.wired.covers (column_of es c.walk.at) k (c.in-Round.ensures).1 in
    let short : suc (length (reverse c.walk.path.items)) ≤ length es = omega (arith, c.walk.invariant.marked.counted) in
    let r = walk_round es (values c.args.table.now) c.args.root k c.walk.at (reverse c.walk.path.items) c.requires.wired c.walk.invariant.trail among (c.in-Round.ensures).0 (sym w.1) short in
    let cycle = round_is_cycle es (values c.args.table.now) c.args.root k c.walk.at (reverse c.walk.path.items) c.walk.invariant.trail among (c.in-Round.ensures).0 (sym w.1) in
    (r.0, r.1 ∙ sym c.in_ok-cycle-in-Round.ensures, subst (IsCycle es) (sym c.in_ok-cycle-in-Round.ensures) cycle)
