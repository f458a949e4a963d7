-- The state of a walk by a stack.
use Rattle.std.proofs.Common.{◌≡◌, ℕ, ◌<◌, suc, Bool, true, false, List, [], ◌∷◌, ◌++◌, length, get_or, set, fold, map, reverse, All, sym, ◌∙◌, ap, subst, arith, inl, inr}
use Rattle.std.proofs.lemmas.Bool.{cases_eq, cases_lt}
use Rattle.std.proofs.lemmas.List.{get_or-set_same, get_or-set_other, length-set, get_or_past, get_or_read}
use Rattle.pim_graph.specs.Graphs.{GraphView, IsGraph, has, kids_of}
use Rattle.pim_graph.specs.Orders.{visited}
use Rattle.pim_graph.specs.Usages.{falling}
use Rattle.pim_graph.specs.declared.walk.Step.{Step}
use Rattle.pim_graph.specs.declared.walk.Step.TheVariants.{Visit, Emit}
use Rattle.pim_graph.proofs.Stacks.{finish, work, AreStepsBelow, IsStepBelow, AreStepsBelow-front, AreStepsBelow-append, AreStepsBelow-push_visits, finish-push, work-push, finish-skip, work-skip, finish-into, work-into, finish-visits}
use Rattle.pim_graph.proofs.UsageSteps.{All-falling}
use Rattle.pim_graph.proofs.Visits.{AreBelow, ReadBelow}
use Rattle.pim_graph.proofs.Wholes.{has-push_same, has-push_other}

pub AreBelow-All : (n : ℕ) (xs : List ℕ) → All (λ x. x < n) xs → AreBelow n xs
AreBelow-All n [] h = tt
AreBelow-All n (x ∷ xs) h = (h 0 x (omega arith), AreBelow-All n xs (λ k d l. h (suc k) d (omega arith)))

-- the children of each gate by falling key are below it
pub ReadBelow-falling : (g : GraphView) → IsGraph g → (key : ℕ → ℕ) → ReadBelow (λ x. falling key (kids_of g x))
ReadBelow-falling g s key = λ x. elim (cases_lt x (length g.kids)) [
  | inl l ↦ AreBelow-All x (falling key (kids_of g x)) (All-falling (λ c. c < x) key (kids_of g x) (s.before x l))
  | inr l ↦
      let none : kids_of g x ≡ [] = get_or_past g.kids x [] l in
      subst (AreBelow x) (sym (ap (falling key) none)) tt
]

-- what is left to do gives the whole, the marks say what was emitted, and all steps are of gates that are there
pub record IsWalk (n : ℕ) (kids : ℕ → List ℕ) (whole : List ℕ) (stack : List Step) (out : List ℕ) (seen : List Bool) : Type 0 where
  pub rest : finish kids stack out ≡ whole
  pub marks : (x : ℕ) → x < n → get_or seen x false ≡ has out x
  pub len : length seen ≡ n
  pub there : AreStepsBelow n stack

pub walk_starts : (n : ℕ) (kids : ℕ → List ℕ) (gates : List ℕ) (stack : List Step) (out : List ℕ) (seen : List Bool) → out ≡ [] → stack ≡ map Visit (reverse gates) → All (λ x. x < n) gates → length seen ≡ n → ((x : ℕ) → x < n → get_or seen x false ≡ false) → IsWalk n kids (fold (visited kids) [] gates) stack out seen
walk_starts n kids gates stack out seen o e there len none =
    let P : List ℕ → Type 0 = λ xs. IsWalk n kids (fold (visited kids) [] gates) stack xs seen in
    subst P (sym o) (record {
      rest = ap (λ (s : List Step). finish kids s []) e ∙ finish-visits kids [] gates [];
      marks = none;
      len = len;
      there = AreStepsBelow-push_visits n [] stack gates tt there e;
    })

-- the gate of the step on top is there
pub step_there : (n : ℕ) (kids : ℕ → List ℕ) (whole : List ℕ) (old ts : List Step) (out : List ℕ) (seen : List Bool) (t u : Step) → IsWalk n kids whole old out seen → old ≡ ts ++ t ∷ [] → t ≡ u → IsStepBelow n u
step_there n kids whole old ts out seen t u w e is =
    subst (IsStepBelow n) is (AreStepsBelow-front n ts (t ∷ []) (subst (AreStepsBelow n) e w.there)).1.0

stays : (n : ℕ) (kids : ℕ → List ℕ) (whole : List ℕ) (old ts : List Step) (out : List ℕ) (seen : List Bool) (t : Step) → IsWalk n kids whole old out seen → old ≡ ts ++ t ∷ [] → AreStepsBelow n ts
stays n kids whole old ts out seen t w e = (AreStepsBelow-front n ts (t ∷ []) (subst (AreStepsBelow n) e w.there)).0

popped : (old ts : List Step) (t u : Step) → old ≡ ts ++ t ∷ [] → t ≡ u → old ≡ ts ++ u ∷ []
popped old ts t u e is = e ∙ ap (λ (s : Step). ts ++ s ∷ []) is

-- a gate is emitted
pub walk_emits : (n : ℕ) (kids : ℕ → List ℕ) (whole : List ℕ) (old ts : List Step) (out after : List ℕ) (seen : List Bool) (t : Step) (x : ℕ) → IsWalk n kids whole old out seen → old ≡ ts ++ t ∷ [] → t ≡ Emit x → after ≡ out ++ x ∷ [] → IsWalk n kids whole ts after (set seen x true)
walk_emits n kids whole old ts out after seen t x w e is o =
    let there : x < n = step_there n kids whole old ts out seen t (Emit x) w e is in
    let fits : x < length seen = omega (arith, w.len) in
    let P : List ℕ → Type 0 = λ xs. IsWalk n kids whole ts xs (set seen x true) in
    subst P (sym o) (record {
      rest = sym (finish-push kids ts (Emit x) out) ∙ (ap (λ (s : List Step). finish kids s out) (sym (popped old ts t (Emit x) e is)) ∙ w.rest);
      marks = λ y h. elim (cases_eq y x) [
        | inl q ↦ let Q : ℕ → Type 0 = λ k. get_or (set seen x true) k false ≡ has (out ++ x ∷ []) k in subst Q (sym q) (get_or-set_same seen x true false fits ∙ sym (has-push_same out x))
        | inr ne ↦ get_or-set_other seen x y true false ne ∙ (w.marks y h ∙ sym (has-push_other out x y ne))
      ];
      len = length-set seen x true ∙ w.len;
      there = stays n kids whole old ts out seen t w e;
    })

pub emits_less : (kids : ℕ → List ℕ) (old ts : List Step) (out after : List ℕ) (t : Step) (x : ℕ) → old ≡ ts ++ t ∷ [] → t ≡ Emit x → after ≡ out ++ x ∷ [] → work kids ts after < work kids old out
emits_less kids old ts out after t x e is o =
    let a = ap (λ (s : List Step). work kids s out) (popped old ts t (Emit x) e is) in
    let b = work-push kids ts (Emit x) out in
    let d = ap (work kids ts) o in
    omega arith

seen_is : (n : ℕ) (kids : ℕ → List ℕ) (whole : List ℕ) (old : List Step) (out : List ℕ) (seen : List Bool) (x : ℕ) (b v : Bool) → IsWalk n kids whole old out seen → x < n → b ≡ get_or seen x b → b ≡ v → has out x ≡ v
seen_is n kids whole old out seen x b v w there read is =
    let fits : x < length seen = omega (arith, w.len) in
    sym (w.marks x there) ∙ (sym (get_or_read seen x b fits read false) ∙ is)

-- a gate that was emitted is passed over
pub walk_skips : (n : ℕ) (kids : ℕ → List ℕ) → ReadBelow kids → (whole : List ℕ) (old ts : List Step) (out : List ℕ) (seen : List Bool) (t : Step) (x : ℕ) (b : Bool) → IsWalk n kids whole old out seen → old ≡ ts ++ t ∷ [] → t ≡ Visit x → b ≡ get_or seen x b → b ≡ true → IsWalk n kids whole ts out seen
walk_skips n kids below whole old ts out seen t x b w e is read held =
    let there : x < n = step_there n kids whole old ts out seen t (Visit x) w e is in
    let h = seen_is n kids whole old out seen x b true w there read held in
    record {
      rest = sym (finish-skip kids below ts x out h) ∙ (ap (λ (s : List Step). finish kids s out) (sym (popped old ts t (Visit x) e is)) ∙ w.rest);
      marks = w.marks;
      len = w.len;
      there = stays n kids whole old ts out seen t w e;
    }

pub skips_less : (n : ℕ) (kids : ℕ → List ℕ) → ReadBelow kids → (whole : List ℕ) (old ts : List Step) (out : List ℕ) (seen : List Bool) (t : Step) (x : ℕ) (b : Bool) → IsWalk n kids whole old out seen → old ≡ ts ++ t ∷ [] → t ≡ Visit x → b ≡ get_or seen x b → b ≡ true → work kids ts out < work kids old out
skips_less n kids below whole old ts out seen t x b w e is read held =
    let there : x < n = step_there n kids whole old ts out seen t (Visit x) w e is in
    let h = seen_is n kids whole old out seen x b true w there read held in
    let a = ap (λ (s : List Step). work kids s out) (popped old ts t (Visit x) e is) in
    let d = work-skip kids below ts x out h in
    omega arith

-- any other gate goes below its children
pub walk_enters : (n : ℕ) (kids : ℕ → List ℕ) → ReadBelow kids → (whole : List ℕ) (old ts mid new : List Step) (out : List ℕ) (seen : List Bool) (t : Step) (x : ℕ) (b : Bool) (ks : List ℕ) → IsWalk n kids whole old out seen → old ≡ ts ++ t ∷ [] → t ≡ Visit x → b ≡ get_or seen x b → b ≡ false → mid ≡ ts ++ Emit x ∷ [] → ks ≡ kids x → All (λ c. c < n) ks → new ≡ mid ++ map Visit (reverse ks) → IsWalk n kids whole new out seen
walk_enters n kids below whole old ts mid new out seen t x b ks w e is read lacks m k all pushed =
    let there : x < n = step_there n kids whole old ts out seen t (Visit x) w e is in
    let h = seen_is n kids whole old out seen x b false w there read lacks in
    let grown : new ≡ (ts ++ Emit x ∷ []) ++ map Visit (reverse (kids x)) = pushed ∙ (ap (λ (s : List Step). s ++ map Visit (reverse ks)) m ∙ ap (λ (xs : List ℕ). (ts ++ Emit x ∷ []) ++ map Visit (reverse xs)) k) in
    let mids : AreStepsBelow n mid = subst (AreStepsBelow n) (sym m) (AreStepsBelow-append n ts (Emit x ∷ []) (stays n kids whole old ts out seen t w e) (there, tt)) in
    record {
      rest = ap (λ (s : List Step). finish kids s out) grown ∙ (finish-into kids below ts x out h ∙ (ap (λ (s : List Step). finish kids s out) (sym (popped old ts t (Visit x) e is)) ∙ w.rest));
      marks = w.marks;
      len = w.len;
      there = AreStepsBelow-push_visits n mid new ks mids all pushed;
    }

pub enters_less : (n : ℕ) (kids : ℕ → List ℕ) → ReadBelow kids → (whole : List ℕ) (old ts mid new : List Step) (out : List ℕ) (seen : List Bool) (t : Step) (x : ℕ) (b : Bool) (ks : List ℕ) → IsWalk n kids whole old out seen → old ≡ ts ++ t ∷ [] → t ≡ Visit x → b ≡ get_or seen x b → b ≡ false → mid ≡ ts ++ Emit x ∷ [] → ks ≡ kids x → new ≡ mid ++ map Visit (reverse ks) → work kids new out < work kids old out
enters_less n kids below whole old ts mid new out seen t x b ks w e is read lacks m k pushed =
    let there : x < n = step_there n kids whole old ts out seen t (Visit x) w e is in
    let h = seen_is n kids whole old out seen x b false w there read lacks in
    let grown : new ≡ (ts ++ Emit x ∷ []) ++ map Visit (reverse (kids x)) = pushed ∙ (ap (λ (s : List Step). s ++ map Visit (reverse ks)) m ∙ ap (λ (xs : List ℕ). (ts ++ Emit x ∷ []) ++ map Visit (reverse xs)) k) in
    let a = ap (λ (s : List Step). work kids s out) grown in
    let d = work-into kids below ts x out h in
    let f = ap (λ (s : List Step). work kids s out) (popped old ts t (Visit x) e is) in
    omega arith
