-- How the marks and the trail change at each step of a walk.
use Rattle.std.proofs.Common.{◌≡◌, ℕ, zero, suc, ◌+◌, ◌*◌, ◌^◌, ◌<◌, ◌≤◌, ◌++◌, max, Bool, true, false, cond, List, [], ◌∷◌, Option, Some, None, map, take, length, get_or, set, refl, ap, sym, ◌∙◌, subst, inl, inr, ⊎_elim, arith}
use Rattle.std.specs.Prelude.{option_map, count_by, find, is_none, replicate}
use Rattle.std.proofs.lemmas.List.{get_or-set_same, get_or-set_other, length-set, length-replicate, take_all, map_more}
use Rattle.std.proofs.lemmas.List.Sums.{sum_by-set}
use Rattle.std.proofs.lemmas.List.Folds.{sum_by-replicate}
use Rattle.std.proofs.lemmas.Bool.{cases_eq}
use Rattle.pim_net.specs.Depths.{deepest}
use Rattle.pim_net.specs.inner.Drivers.{driver_depth, depth_by, next_by, cycle_by}
use Rattle.pim_net.specs.inner.DepthFirst.{ins, sig, IsWired, deep, mark, is_new, is_deep, IsOnTrail, IsOffTrail, EachOpen, EachBelow, IsFrame, IsTrail, IsMarked, marked_depth, depth_mark, column_of, IsLevelled, IsRound, IsCycleFault}
use Rattle.pim_net.specs.Drivers.{sigs}
use Rattle.pim_net.specs.Faults.{walk}
use Rattle.pim_net.specs.declared.fault.NetFault.{NetFault}
use Rattle.pim_net.specs.declared.fault.NetFault.TheVariants.{Twice, Undriven, Cycle, NoMemory}
use Rattle.pim_net.specs.declared.parts.Equation.{Equation}
use Rattle.pim_net.specs.declared.driver.Driver.{Driver}
use Rattle.pim_net.specs.declared.driver.Driver.TheVariants.{Nobody, Input, Cover}
use Rattle.pim_net.specs.declared.search.Mark.{Mark}
use Rattle.pim_net.specs.declared.search.Mark.TheVariants.{New, Open, Deep}
use Rattle.pim_net.specs.declared.search.Frame.{Frame}
use Rattle.pim_net.proofs.DepthLemmas.{deepest_cons}
use Rattle.pim_net.proofs.Trails.{step_up, head_frame}

-- a count after a mark was set
count_set : (p : Mark → Bool) (marks : List Mark) (k : ℕ) (y : Mark) → k < length marks → count_by p (set marks k y) + cond (p (mark marks k)) 1 0 ≡ count_by p marks + cond (p y) 1 0
count_set p marks k y within = sum_by-set (λ x. cond (p x) 1 0) marks k y New within

each_open : (marks : List Mark) (trail : List Frame) (k : ℕ) (y : Mark) → EachOpen marks trail → IsOffTrail k trail → EachOpen (set marks k y) trail
each_open marks [] k y opened apart = tt
each_open marks (f ∷ trail) k y opened apart =
    (get_or-set_other marks k f.equation y New apart.0 ∙ opened.0, each_open marks trail k y opened.1 apart.1)

-- what is new is apart from all that is open
new_apart : (marks : List Mark) (trail : List Frame) (k : ℕ) → EachOpen marks trail → mark marks k ≡ New → IsOffTrail k trail
new_apart marks [] k opened fresh = tt
new_apart marks (f ∷ trail) k opened fresh =
    ((λ (e : f.equation ≡ k). let both : Open ≡ New = sym opened.0 ∙ ap (mark marks) e ∙ fresh in let no : ⊥ = cc in no), new_apart marks trail k opened.1 fresh)

each_below : (m n : ℕ) (trail : List Frame) → m ≤ n → EachBelow m trail → EachBelow n trail
each_below m n [] low below = tt
each_below m n (f ∷ trail) low below = ((let h : f.depth ≤ m = below.0 in omega arith), each_below m n trail low below.1)

-- the walk goes into an equation that was not come to
pub marks_into : (es : List Equation) (table : ℕ → Driver) (marks : List Mark) (trail : List Frame) (k : ℕ) (f : Frame) → IsMarked es table marks trail → k < length es → mark marks k ≡ New → f.equation ≡ k → f.depth ≡ 0 → IsMarked es table (set marks k Open) (f ∷ trail)
marks_into es table marks trail k f old within fresh named shallow =
    let inside : k < length marks = omega (arith, old.sized) in
    let apart = new_apart marks trail k old.opened fresh in
    let deeps : count_by is_deep (set marks k Open) ≡ count_by is_deep marks = let e = count_set is_deep marks k Open inside in let z = ap {B = ℕ} (λ m. cond (is_deep m) 1 0) fresh in omega (arith, e, z) in
    let news : count_by is_new (set marks k Open) + 1 ≡ count_by is_new marks = let e = count_set is_new marks k Open inside in let z = ap {B = ℕ} (λ m. cond (is_new m) 1 0) fresh in omega (arith, e, z) in
    record {
      sized = length-set marks k Open ∙ old.sized;
      depths = λ j l h. ⊎_elim
          (λ (e : j ≡ k). let both : Open ≡ Deep l = sym (get_or-set_same marks k Open New inside) ∙ ap (mark (set marks k Open)) (sym e) ∙ h in absurd (let no : ⊥ = cc in no))
          (λ (ne : j ≡ k → ⊥). let was = old.depths j l (sym (get_or-set_other marks k j Open New ne) ∙ h) in (was.0, omega (arith, was.1, deeps)))
          (cases_eq j k);
      opens = λ j h. ⊎_elim
          (λ (e : j ≡ k). inl (named ∙ sym e))
          (λ (ne : j ≡ k → ⊥). inr (old.opens j (sym (get_or-set_other marks k j Open New ne) ∙ h)))
          (cases_eq j k);
      opened = (ap (mark (set marks k Open)) named ∙ get_or-set_same marks k Open New inside, each_open marks trail k Open old.opened apart);
      below = ((omega arith), subst (λ n. EachBelow n trail) (sym deeps) old.below);
      counted = omega (arith, old.counted, deeps, news);
    }

-- and its frame goes on the trail
pub trail_into : (es : List Equation) (table : ℕ → Driver) (root : ℕ) (marks : List Mark) (f g : Frame) (trail : List Frame) → IsTrail es table root (g ∷ trail) → EachOpen marks (g ∷ trail) → f.equation < length es → mark marks f.equation ≡ New
    → g.column < length (ins es g.equation) → column_of es g ≡ sig es f.equation → f.column ≡ 0 → f.depth ≡ 0 → IsTrail es table root (f ∷ g ∷ trail)
trail_into es table root marks f g trail t opened within fresh inside reads start shallow = (
  record {
    known = within;
    within = omega arith;
    depth = ap (λ n. deepest (map (deep es table) (take n (ins es f.equation)))) start ∙ ap Some (sym shallow);
  },
  inside,
  reads,
  new_apart marks (g ∷ trail) f.equation opened fresh,
  t,
)

apart_top : (es : List Equation) (table : ℕ → Driver) (root : ℕ) (f : Frame) (trail : List Frame) → IsTrail es table root (f ∷ trail) → IsOffTrail f.equation trail
apart_top es table root f [] t = tt
apart_top es table root f (g ∷ trail) t = t.3

-- an equation whose columns all have a depth has one, and leaves the trail
pub marks_done : (es : List Equation) (table : ℕ → Driver) (root : ℕ) (marks : List Mark) (f : Frame) (trail : List Frame) → IsWired es table → IsMarked es table marks (f ∷ trail) → IsTrail es table root (f ∷ trail) → f.column ≡ length (ins es f.equation) → IsMarked es table (set marks f.equation (Deep (f.depth + 1))) trail
marks_done es table root marks f trail wired old t all =
    let frame = head_frame es table root f trail t in
    let k = f.equation in
    let y = Deep (f.depth + 1) in
    let inside : k < length marks = omega (arith, old.sized, frame.known) in
    let opened : mark marks k ≡ Open = old.opened.0 in
    let shallow : f.depth ≤ count_by is_deep marks = old.below.0 in
    let deeps : count_by is_deep (set marks k y) ≡ count_by is_deep marks + 1 = let e = count_set is_deep marks k y inside in let z = ap {B = ℕ} (λ m. cond (is_deep m) 1 0) opened in omega (arith, e, z) in
    let news : count_by is_new (set marks k y) ≡ count_by is_new marks = let e = count_set is_new marks k y inside in let z = ap {B = ℕ} (λ m. cond (is_new m) 1 0) opened in omega (arith, e, z) in
    let whole : deepest (map (deep es table) (ins es k)) ≡ Some f.depth = ap (λ cs. deepest (map (deep es table) cs)) (sym (take_all f.column (ins es k) (omega (arith, all)))) ∙ frame.depth in
    let low : suc f.depth ≤ length es = omega (arith, old.counted, shallow) in
    let here : deep es table (sig es k) ≡ Some (f.depth + 1) = step_up es table k f.depth wired frame.known whole low ∙ ap Some (let e : suc f.depth ≡ f.depth + 1 = omega arith in e) in
    record {
      sized = length-set marks k y ∙ old.sized;
      depths = λ j l h. ⊎_elim
          (λ (e : j ≡ k).
          let both : Deep (f.depth + 1) ≡ Deep l = sym (get_or-set_same marks k y New inside) ∙ ap (mark (set marks k y)) (sym e) ∙ h in
          let same : f.depth + 1 ≡ l = cc in
          (ap (λ n. deep es table (sig es n)) e ∙ here ∙ ap Some same, omega (arith, same, deeps, shallow)))
          (λ (ne : j ≡ k → ⊥). let was = old.depths j l (sym (get_or-set_other marks k j y New ne) ∙ h) in (was.0, omega (arith, was.1, deeps)))
          (cases_eq j k);
      opens = λ j h. ⊎_elim
          (λ (e : j ≡ k). let both : Deep (f.depth + 1) ≡ Open = sym (get_or-set_same marks k y New inside) ∙ ap (mark (set marks k y)) (sym e) ∙ h in absurd (let no : ⊥ = cc in no))
          (λ (ne : j ≡ k → ⊥). ⊎_elim (λ (e : f.equation ≡ j). absurd (ne (sym e))) (λ (a : IsOnTrail j trail). a) (old.opens j (sym (get_or-set_other marks k j y New ne) ∙ h)))
          (cases_eq j k);
      opened = each_open marks trail k y old.opened.1 (apart_top es table root f trail t);
      below = each_below (count_by is_deep marks) (count_by is_deep (set marks k y)) trail (omega (arith, deeps)) old.below.1;
      counted = omega (arith, old.counted, deeps, news);
    }

-- a depth that the marks tell is the depth
pub marked_is : (es : List Equation) (table : ℕ → Driver) (marks : List Mark) (trail : List Frame) (c d : ℕ) → IsWired es table → IsMarked es table marks trail → marked_depth marks (table c) ≡ Some d → (deep es table c ≡ Some d) × (d ≤ count_by is_deep marks)
marked_is es table marks trail c d wired old h = by (table c) refl h
  where
    of_mark : (m : Mark) (k : ℕ) → mark marks k ≡ m → table c ≡ Cover k → depth_mark m ≡ Some d → (deep es table c ≡ Some d) × (d ≤ count_by is_deep marks)
    of_mark New k is named h = cc
    of_mark Open k is named h = cc
    of_mark (Deep l) k is named h =
        let same : l ≡ d = cc in
        let was = old.depths k l is in
        (ap (deep es table) (sym (wired.covers c k named).1) ∙ was.0 ∙ ap Some same, omega (arith, was.1, same))

    by : (x : Driver) → table c ≡ x → marked_depth marks x ≡ Some d → (deep es table c ≡ Some d) × (d ≤ count_by is_deep marks)
    by Nobody named h = cc
    by (Input j) named h =
        let same : 0 ≡ d = cc in
        (ap (driver_depth (λ s. depth_by table es (length es) s) es) named ∙ h, omega (arith, same))
    by (Cover k) named h = of_mark (mark marks k) k refl named h

deepest_push : (ds : List (Option ℕ)) (m d : ℕ) → deepest ds ≡ Some m → deepest (ds ++ Some d ∷ []) ≡ Some (max m d)
deepest_push [] m d h =
    let same : 0 ≡ m = cc in
    let e : max d 0 ≡ max m d = omega arith in
    ap Some e
deepest_push (first ∷ ds) m d h =
    let w = deepest_cons first ds m h in
    let e : max w.0 (max w.1 d) ≡ max m d = omega (arith, w.4) in
    ap (λ o. deepest (o ∷ (ds ++ Some d ∷ []))) w.2 ∙ ap (option_map (max w.0)) (deepest_push ds w.1 d w.3) ∙ ap Some e

-- a frame passes a column that has a depth
frame_past : (es : List Equation) (table : ℕ → Driver) (f g : Frame) (d : ℕ) → IsFrame es table f → f.column < length (ins es f.equation) → deep es table (column_of es f) ≡ Some d → g.equation ≡ f.equation → g.column ≡ f.column + 1 → g.depth ≡ max f.depth d → IsFrame es table g
frame_past es table f g d frame inside has named on greatest =
    let more = map_more (deep es table) (ins es f.equation) f.column 0 inside ∙ ap (λ o. map (deep es table) (take f.column (ins es f.equation)) ++ o ∷ []) has in
    record {
      known = subst (λ n. n < length es) (sym named) frame.known;
      within = omega (arith, ap (λ n. length (ins es n)) named, on, inside);
      depth = ap (λ n. deepest (map (deep es table) (take g.column (ins es n)))) named ∙ ap (λ n. deepest (map (deep es table) (take n (ins es f.equation)))) on ∙ ap deepest more ∙ deepest_push (map (deep es table) (take f.column (ins es f.equation))) f.depth d frame.depth ∙ ap Some (sym greatest);
    }

pub trail_past : (es : List Equation) (table : ℕ → Driver) (root : ℕ) (f g : Frame) (trail : List Frame) (d : ℕ) → IsTrail es table root (f ∷ trail) → f.column < length (ins es f.equation) → deep es table (column_of es f) ≡ Some d → g.equation ≡ f.equation → g.column ≡ f.column + 1 → g.depth ≡ max f.depth d → IsTrail es table root (g ∷ trail)
trail_past es table root f g [] d t inside has named on greatest = (frame_past es table f g d t.0 inside has named on greatest, named ∙ t.1)
trail_past es table root f g (h ∷ trail) d t inside has named on greatest =
    (frame_past es table f g d t.0 inside has named on greatest, t.1, t.2 ∙ ap (sig es) (sym named), subst (λ n. IsOffTrail n (h ∷ trail)) (sym named) t.3, t.4)

pub marks_past : (es : List Equation) (table : ℕ → Driver) (marks : List Mark) (f g : Frame) (trail : List Frame) (d : ℕ) → IsMarked es table marks (f ∷ trail) → d ≤ count_by is_deep marks → g.equation ≡ f.equation → g.depth ≡ max f.depth d → IsMarked es table marks (g ∷ trail)
marks_past es table marks f g trail d old low named greatest = record {
  sized = old.sized;
  depths = old.depths;
  opens = λ j h. ⊎_elim (λ (e : f.equation ≡ j). inl (named ∙ e)) (λ (a : IsOnTrail j trail). inr a) (old.opens j h);
  opened = (ap (mark marks) named ∙ old.opened.0, old.opened.1);
  below = ((let h : f.depth ≤ count_by is_deep marks = old.below.0 in omega arith), old.below.1);
  counted = old.counted;
}

-- a mark that was set to other than new leaves nothing new
pub stays_old : (marks : List Mark) (k : ℕ) (y : Mark) (j : ℕ) → is_new y ≡ false → k < length marks → is_new (mark marks j) ≡ false → is_new (mark (set marks k y) j) ≡ false
stays_old marks k y j old within was = ⊎_elim
    (λ (e : j ≡ k). ap (λ n. is_new (mark (set marks k y) n)) e ∙ ap is_new (get_or-set_same marks k y New within) ∙ old)
    (λ (ne : j ≡ k → ⊥). ap is_new (get_or-set_other marks k j y New ne) ∙ was)
    (cases_eq j k)

-- one equation less is new
pub fewer_new : (marks : List Mark) (k : ℕ) → k < length marks → mark marks k ≡ New → count_by is_new (set marks k Open) + 1 ≡ count_by is_new marks
fewer_new marks k within fresh =
    let e = count_set is_new marks k Open within in
    let z = ap {B = ℕ} (λ m. cond (is_new m) 1 0) fresh in
    omega (arith, e, z)

pub smaller_into : (c c' p p' r r' : ℕ) → c' + 1 ≡ c → p' ≡ p + 1 → p < 2 ^ 28 → r' < 2 ^ 28 → c' * 2 ^ 60 + p' * 2 ^ 30 + r' < c * 2 ^ 60 + p * 2 ^ 30 + r
smaller_into c c' p p' r r' fewer more short narrow = omega arith

new_at : (n k : ℕ) → mark (replicate n New) k ≡ New
new_at zero k = refl
new_at (suc n) zero = refl
new_at (suc n) (suc k) = new_at n k

-- marks that are all new
pub marks_new : (es : List Equation) (table : ℕ → Driver) (marks : List Mark) → marks ≡ replicate (length es) New → IsMarked es table marks []
marks_new es table marks is = record {
  sized = ap length is ∙ length-replicate (length es) New;
  depths = λ k l h. let both : New ≡ Deep l = sym (new_at (length es) k) ∙ ap (λ ms. mark ms k) (sym is) ∙ h in absurd (let no : ⊥ = cc in no);
  opens = λ k h. let both : New ≡ Open = sym (new_at (length es) k) ∙ ap (λ ms. mark ms k) (sym is) ∙ h in let no : ⊥ = cc in no;
  opened = tt;
  below = tt;
  counted =
      let news : count_by is_new marks ≡ length es * 1 = ap (count_by is_new) is ∙ sum_by-replicate (λ m. cond (is_new m) 1 0) (length es) New in
      let deeps : count_by is_deep marks ≡ length es * 0 = ap (count_by is_deep) is ∙ sum_by-replicate (λ m. cond (is_deep m) 1 0) (length es) New in
      omega (arith, news, deeps);
}

-- with no trail, what was come to has its depth
pub deep_of : (es : List Equation) (table : ℕ → Driver) (marks : List Mark) (k : ℕ) → IsMarked es table marks [] → is_new (mark marks k) ≡ false → (is_deep (mark marks k) ≡ true) × (deep es table (sig es k) ≡ depth_mark (mark marks k))
deep_of es table marks k marked came = by (mark marks k) refl
  where
    by : (m : Mark) → mark marks k ≡ m → (is_deep (mark marks k) ≡ true) × (deep es table (sig es k) ≡ depth_mark (mark marks k))
    by New is = let both : true ≡ false = ap is_new (sym is) ∙ came in absurd (let no : ⊥ = cc in no)
    by Open is = absurd (marked.opens k is)
    by (Deep l) is = (ap is_deep is, (marked.depths k l is).0 ∙ ap depth_mark (sym is))

-- the first equation without a depth, where all before it have one
first_without : (f : ℕ → Option ℕ) (es : List Equation) (root : ℕ) → root < length es → ((k : ℕ) → k < root → is_none (f (get_or (sigs es) k 0)) ≡ false) → f (get_or (sigs es) root 0) ≡ None
    → (e : Equation) × (find (λ (x : Equation). is_none (f x.sig)) es ≡ Some e) × (e.sig ≡ get_or (sigs es) root 0)
first_without f [] root within before none = absurd (omega arith)
first_without f (e ∷ es) zero within before none = (e, ap (λ o. cond (is_none o) (Some e) (find (λ (x : Equation). is_none (f x.sig)) es)) none, refl)
first_without f (e ∷ es) (suc root) within before none =
    let w = first_without f es root (omega arith) (λ k h. before (suc k) (omega arith)) none in
    (w.0, ap (λ b. cond b (Some e) (find (λ (x : Equation). is_none (f x.sig)) es)) (before 0 (omega arith)) ∙ w.1, w.2)

all_with : (f : ℕ → Option ℕ) (es : List Equation) → ((k : ℕ) → k < length es → is_none (f (get_or (sigs es) k 0)) ≡ false) → find (λ (x : Equation). is_none (f x.sig)) es ≡ None
all_with f [] have = refl
all_with f (e ∷ es) have = ap (λ b. cond b (Some e) (find (λ (x : Equation). is_none (f x.sig)) es)) (have 0 (omega arith)) ∙ all_with f es (λ k h. have (suc k) (omega arith))

has_depth : (m : Mark) (o : Option ℕ) → is_deep m ≡ true → o ≡ depth_mark m → is_none o ≡ false
has_depth New o h e = cc
has_depth Open o h e = cc
has_depth (Deep l) o h e = ap is_none e

-- the cycle from a root whose walk came round
pub cycle_from : (es : List Equation) (table : ℕ → Driver) (marks : List Mark) (root : ℕ) (fault : NetFault) → root < length es → IsMarked es table marks [] → ((k : ℕ) → k < root → is_new (mark marks k) ≡ false) → IsRound es table root fault → IsCycleFault es table fault
cycle_from es table marks root (Twice s) within marked came round = round
cycle_from es table marks root (Undriven s) within marked came round = round
cycle_from es table marks root NoMemory within marked came round = tt
cycle_from es table marks root (Cycle cycle) within marked came round =
    let w = first_without (deep es table) es root within (λ k h. let d = deep_of es table marks k marked (came k h) in has_depth (mark marks k) (deep es table (sig es k)) d.0 d.1) round.0 in (
      ap (option_map (λ (e : Equation). walk (next_by table (deep es table) es) (suc (length es)) [] (Some e.sig))) w.1
          ∙ ap (λ s. Some (walk (next_by table (deep es table) es) (suc (length es)) [] (Some s))) w.2
          ∙ ap Some round.1,
      round.2,
    )

-- without a cycle each equation has its depth
pub levelled_is : (es : List Equation) (table : ℕ → Driver) (marks : List Mark) → IsLevelled es table marks → cycle_by table (deep es table) es ≡ None
levelled_is es table marks l =
    ap (option_map (λ (e : Equation). walk (next_by table (deep es table) es) (suc (length es)) [] (Some e.sig)))
    (all_with (deep es table) es (λ k h. has_depth (mark marks k) (deep es table (sig es k)) (l.all k h) (l.depths k h)))
