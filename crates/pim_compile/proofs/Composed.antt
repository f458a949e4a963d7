-- What the parts of a compilation say of one another gives what the whole says.
use Rattle.std.proofs.Common.{◌≡◌, ◌⊎◌, ℕ, ◌+◌, ◌-◌, ◌≤◌, min, Bool, true, false, if◌then◌else◌, List, [], ◌∷◌, ◌++◌, length, map, Option, Some, None, Result, Ok, Err, inl, inr, sym, ◌∙◌, ap, subst, arith}
use Rattle.std.specs.Prelude.{All, IfOk, nat_le}
use Rattle.std.proofs.lemmas.Bool.{le-leb}
use Rattle.std.proofs.lemmas.List.Elements.{All-append, All-cons, All-head, All-nil, All-tail}
use Rattle.pim_aig.specs.Flat.{ands, flat}
use Rattle.pim_aig.specs.Graph.{AigView}
use Rattle.pim_aig.specs.Values.{aval}
use Rattle.pim_aig.specs.declared.graph.TheConstants.{MAX_ANDS}
use Rattle.pim_isa.specs.Primed.{IsPrimed}
use Rattle.pim_isa.specs.Programs.{PortsView, ProgramView}
use Rattle.pim_isa.specs.Realizes.{Realizes}
use Rattle.pim_isa.specs.Writes.{nor_places}
use Rattle.pim_isa.specs.declared.target.Target.{Target}
use Rattle.pim_isa.specs.declared.target.Target.TheVariants.{Magic, Plim}
use Rattle.pim_net.specs.Netlist.{NetView}
use Rattle.pim_net.specs.Values.{outs}
use Rattle.pim_nor.specs.Lowered.{nors}
use Rattle.pim_nor.specs.Network.{NorView, nor_count}
use Rattle.pim_nor.specs.Values.{out_values}
use Rattle.pim_nor.specs.declared.lowering.Width.{Width}
use Rattle.pim_nor.specs.declared.lowering.Width.TheVariants.{Two, Four}
use Rattle.pim_rm3.specs.Costs.{made_outputs}
use Rattle.pim_simpler.specs.Batching.{Batched}
use Rattle.pim_simpler.specs.Needs.{needed_of}
use Rattle.pim_tidy.specs.Tidied.{tidied}
use Rattle.pim_compile.specs.Choices.{IsCandidate, IsChosen, IsFirst}
use Rattle.pim_compile.specs.Computes.{Computes}
use Rattle.pim_compile.specs.Cycles.{IsQuick, IsQuickBy, IsQuickTidy, TakesAt, TakesCycles}
use Rattle.pim_compile.specs.Networks.{FollowsGraph, FollowsNetwork, FollowsSome, coarse_need, coarse_of, if_few, most_nors, need, need_of, networks_at, networks_of, nors_of_two, tidy_networks}
use Rattle.pim_compile.specs.Refusals.{IsAccepted, IsEnough}
use Rattle.pim_compile.specs.Targets.{OnMagic, OnPlim}
use Rattle.pim_compile.specs.inner.Candidates.{IsBestOf, IsMagic, IsOfNetwork, IsPlaced, IsProgramOf, IsScheduleOf, shorter}
use Rattle.pim_compile.specs.inner.Fits.{program_of}
use Rattle.pim_compile.specs.inner.Scheduled.{IsScheduled}
use Rattle.pim_compile.specs.inner.Smart.{IsPlim}
use Rattle.pim_compile.specs.declared.compiling.Level.{Level}
use Rattle.pim_compile.specs.declared.compiling.Level.TheVariants as level
use Rattle.pim_compile.specs.declared.fit.Fit.{Fit}
use Rattle.pim_compile.proofs.Best.{best_too, both_best, first_of, first_too, one_best, one_wide, quick_each}
use Rattle.pim_compile.proofs.Realized.{Realizes-same}

-- neither width has more NORs than width two
by_width : (g : AigView) (width : Width) → nor_count (nors g Four).gates ≤ most_nors g → nor_count (nors g width).gates ≤ most_nors g
by_width g Two fewer = omega arith
by_width g Four fewer = fewer

within_budget : (cells inputs peak gates budget : ℕ) → cells ≡ inputs + min (budget - inputs) gates → inputs + peak ≤ budget → cells ≤ budget
within_budget cells inputs peak gates budget is enough = omega arith

-- ---- a network of a graph

-- what a network's outputs are
abbrev HasOuts : AigView → NorView → Type 0
HasOuts g w = (bits : List Bool) → length bits ≡ g.inputs → out_values w bits ≡ map (aval g bits) g.outputs

of_network : (g : AigView) (ports : PortsView) (width : Width) (most budget : ℕ) (p : ProgramView) → HasOuts g (nors g width) → nor_count (nors g width).gates ≤ most → length ports.inputs ≡ g.inputs →
    IsPlaced (nors g width) ports budget p → IsOfNetwork g ports most budget (nors g width) p
of_network g ports width most budget p values few inputs placed = record {
  program = record {
    realizes = Realizes-same p ports.inputs (out_values (nors g width)) (λ bits. map (aval g bits) g.outputs) (λ bits len. values bits (len ∙ inputs)) placed.realizes;
    labels = placed.labels;
    is_target = placed.is_target;
    cells = within_budget p.cells g.inputs _ (length (nors g width).gates) budget placed.cells placed.enough;
    primed = placed.primed;
  };
  follows = placed.follows;
  batched = placed.batched;
  wide = placed.cells;
  few_nors = omega (arith, placed.nors);
  enough = placed.enough;
  quick = placed.quick;
}

one_of : (g : AigView) (ports : PortsView) (width : Width) (most budget : ℕ) (r : Option ProgramView) → HasOuts g (nors g width) → nor_count (nors g width).gates ≤ most → length ports.inputs ≡ g.inputs →
    IsScheduleOf (nors g width) ports budget r → IsBestOf g ports most budget (nors g width ∷ []) r
one_of g ports width most budget None values few inputs wide = one_wide (IsOfNetwork g ports most budget) budget (nors g width) wide
one_of g ports width most budget (Some p) values few inputs placed =
    one_best (IsOfNetwork g ports most budget) budget (nors g width) p (of_network g ports width most budget p values few inputs placed) placed.enough

pub candidate_best : {E : Type 0} (g : AigView) (w : NorView) (ports : PortsView) (width : Width) (budget : ℕ) (r : Result Fit E) → w ≡ nors g width → HasOuts g w → nor_count (nors g Four).gates ≤ most_nors g → length ports.inputs ≡ g.inputs →
    IfOk r (λ f. IsScheduleOf w ports budget (program_of f)) → IfOk r (λ f. IsBestOf g ports (most_nors g) budget (nors g width ∷ []) (program_of f))
candidate_best g w ports width budget (Ok f) network values fewer inputs scheduled =
    let S : NorView → Type 0 = λ x. IsScheduleOf x ports budget (program_of f) in
    one_of g ports width (most_nors g) budget (program_of f) (subst (HasOuts g) network values) (by_width g width fewer) inputs (subst S network scheduled)
candidate_best g w ports width budget (Err e) network values fewer inputs scheduled = tt

-- ---- of the tidied form those that have no more NORs

pub few_enough : (g : AigView) (w : NorView) (ports : PortsView) (width : Width) (most budget : ℕ) (r : Option ProgramView) → w ≡ nors g width → HasOuts g w → nor_count w.gates ≤ most → length ports.inputs ≡ g.inputs →
    IsScheduleOf w ports budget r → IsBestOf g ports most budget (if_few most (nors g width)) r
few_enough g w ports width most budget r network values fewer inputs scheduled =
    let F : NorView → Type 0 = λ x. nor_count x.gates ≤ most in
    let S : NorView → Type 0 = λ x. IsScheduleOf x ports budget r in
    let few = subst F network fewer in
    let is : nat_le (nor_count (nors g width).gates) most ≡ true = le-leb (nor_count (nors g width).gates) most few in
    let B : Bool → Type 0 = λ b. IsBestOf g ports most budget (if b then nors g width ∷ [] else []) r in
    subst B (sym is) (one_of g ports width most budget r (subst (HasOuts g) network values) few inputs (subst S network scheduled))

-- what computes the tidied graph computes the graph
from_tidy : (g : AigView) (ports : PortsView) (most budget : ℕ) → length ports.inputs ≡ g.inputs →
    ((bits : List Bool) → length bits ≡ g.inputs → map (aval (tidied g) bits) (tidied g).outputs ≡ map (aval g bits) g.outputs) →
    (w : NorView) (p : ProgramView) → IsOfNetwork (tidied g) ports most budget w p → IsOfNetwork g ports most budget w p
from_tidy g ports most budget inputs values w p c = record {
  program = record {
    realizes =
        Realizes-same p ports.inputs (λ bits. map (aval (tidied g) bits) (tidied g).outputs) (λ bits. map (aval g bits) g.outputs) (λ bits len. values bits (len ∙ inputs)) c.program.realizes;
    labels = c.program.labels;
    is_target = c.program.is_target;
    cells = c.program.cells;
    primed = c.program.primed;
  };
  follows = c.follows;
  batched = c.batched;
  wide = c.wide;
  few_nors = c.few_nors;
  enough = c.enough;
  quick = c.quick;
}

pub tidy_best : (g t : AigView) (ports : PortsView) (most budget : ℕ) (r s : Option ProgramView) → t ≡ tidied g → most ≡ most_nors g → length ports.inputs ≡ g.inputs →
    ((bits : List Bool) → length bits ≡ g.inputs → map (aval t bits) t.outputs ≡ map (aval g bits) g.outputs) →
    IsBestOf t ports most budget (if_few most (nors t Four)) r → IsBestOf t ports most budget (if_few most (nors t Two)) s →
    IsBestOf g ports (most_nors g) budget (tidy_networks g) (shorter r s)
tidy_best g t ports most budget r s tidy same inputs values four two =
    let V : AigView → Type 0 = λ x. (bits : List Bool) → length bits ≡ g.inputs → map (aval x bits) x.outputs ≡ map (aval g bits) g.outputs in
    let F : AigView → ℕ → Type 0 = λ x m. IsBestOf x ports m budget (if_few m (nors x Four)) r in
    let T : AigView → ℕ → Type 0 = λ x m. IsBestOf x ports m budget (if_few m (nors x Two)) s in
    let m = most_nors g in
    let four_tidy : F (tidied g) m = subst (λ (x : AigView). F x m) tidy (subst (λ (k : ℕ). F t k) same four) in
    let two_tidy : T (tidied g) m = subst (λ (x : AigView). T x m) tidy (subst (λ (k : ℕ). T t k) same two) in
    best_too (IsOfNetwork (tidied g) ports m budget) (IsOfNetwork g ports m budget) (from_tidy g ports m budget inputs (subst V tidy values)) budget (tidy_networks g) (shorter r s)
    (both_best (IsOfNetwork (tidied g) ports m budget) budget (if_few m (nors (tidied g) Four)) (if_few m (nors (tidied g) Two)) r s four_tidy two_tidy)

-- ---- the lists of networks

All-before : {X : Type 0} (P : X → Type 0) (xs ys : List X) → All P (xs ++ ys) → All P xs
All-before P [] ys all = All-nil P
All-before P (x ∷ xs) ys all = All-cons P x xs (All-head P x (xs ++ ys) all) (All-before P xs ys (All-tail P x (xs ++ ys) all))

All-behind : {X : Type 0} (P : X → Type 0) (xs ys : List X) → All P (xs ++ ys) → All P ys
All-behind P [] ys all = all
All-behind P (x ∷ xs) ys all = All-behind P xs ys (All-tail P x (xs ++ ys) all)

all_flat : (Q : NorView → Type 0) (g : AigView) → Q (nors g Four) → Q (nors g Two) → All Q (networks_of g)
all_flat Q g four two = All-cons Q (nors g Four) (nors g Two ∷ []) four (All-cons Q (nors g Two) [] two (All-nil Q))

of_flat : (Q : NorView → Type 0) (g : AigView) → All Q (networks_of g) → Q (nors g Four) × Q (nors g Two)
of_flat Q g all = (All-head Q (nors g Four) (nors g Two ∷ []) all, All-head Q (nors g Two) [] (All-tail Q (nors g Four) (nors g Two ∷ []) all))

if_at : (Q : NorView → Type 0) (b : Bool) (w : NorView) → Q w → All Q (if b then w ∷ [] else [])
if_at Q true w q = All-cons Q w [] q (All-nil Q)
if_at Q false w q = All-nil Q

all_tidy : (Q : NorView → Type 0) (g : AigView) → Q (nors (tidied g) Four) → Q (nors (tidied g) Two) → All Q (tidy_networks g)
all_tidy Q g four two =
    All-append Q (if_few (most_nors g) (nors (tidied g) Four)) (if_few (most_nors g) (nors (tidied g) Two))
    (if_at Q (nat_le (nor_count (nors (tidied g) Four).gates) (most_nors g)) (nors (tidied g) Four) four)
    (if_at Q (nat_le (nor_count (nors (tidied g) Two).gates) (most_nors g)) (nors (tidied g) Two) two)

-- of the tidied form's network of up to two operands, where it has no more NORs
of_tidy_two : (Q : NorView → Type 0) (g : AigView) → All Q (tidy_networks g) → nor_count (nors (tidied g) Two).gates ≤ most_nors g → Q (nors (tidied g) Two)
of_tidy_two Q g all few =
    let w = nors (tidied g) Two in
    let there : All Q (if_few (most_nors g) w) = All-behind Q (if_few (most_nors g) (nors (tidied g) Four)) (if_few (most_nors g) w) all in
    let is : nat_le (nor_count w.gates) (most_nors g) ≡ true = le-leb (nor_count w.gates) (most_nors g) few in
    let L : Bool → Type 0 = λ b. All Q (if b then w ∷ [] else []) in
    All-head Q w [] (subst L is there)

-- above level 0 the networks of the tidied form come first
pub above_zero : (effort : Level) (g : AigView) → (effort ≡ level.One) ⊎ (effort ≡ level.Two) → networks_at effort g ≡ tidy_networks g ++ networks_of g
above_zero effort g above =
    let N : Level → List NorView = λ e. networks_at e g in
    elim above [ inl one ↦ ap N one | inr two ↦ ap N two ]

-- ---- from the flat graph to the netlist
-- what is known of a netlist's flat graph and its labels
pub record IsFlat (n : NetView) (g : AigView) (ports : PortsView) : Type 0 where
  pub graph : g ≡ flat n
  pub values : (bits : List Bool) → length bits ≡ length n.inputs → map (aval g bits) g.outputs ≡ outs n bits
  pub counted : length (flat n).ands ≡ ands n
  pub few : ands n ≤ MAX_ANDS
  pub inputs : ports.inputs ≡ n.input_labels
  pub outputs : ports.outputs ≡ n.output_labels
  pub size : length ports.inputs ≡ length n.inputs

-- what is known of the program that a netlist is compiled to
pub record IsCompiled (n : NetView) (target : Target) (level : Level) (budget : ℕ) (p : ProgramView) : Type 0 where
  pub computes : Computes p n
  pub is_target : p.target ≡ target
  pub cells : p.cells ≤ budget
  pub primed : IsPrimed p.instrs
  pub follows : OnMagic target (FollowsSome level p n)
  pub batched : OnMagic target (Batched p)
  pub nors : OnMagic target (length (nor_places p.instrs) ≤ nors_of_two n)
  pub chosen : OnMagic target (IsChosen level n budget p)
  pub quick : OnMagic target (IsQuick level n budget p)
  pub cycles : OnPlim target (TakesCycles level n budget p)
  pub accepted : IsAccepted n target level budget

computes_net : (n : NetView) (g : AigView) (ports : PortsView) (target : Target) (budget : ℕ) (p : ProgramView) → IsFlat n g ports → IsProgramOf g ports target budget p → Computes p n
computes_net n g ports target budget p f c =
    let R : List (List ℕ) → Type 0 = λ labels. Realizes p labels (outs n) in
    record {
      realizes = subst R f.inputs (Realizes-same p ports.inputs (λ bits. map (aval g bits) g.outputs) (outs n) (λ bits len. f.values bits (len ∙ f.size)) c.realizes);
      labels = c.labels ∙ f.outputs;
    }

-- the program of a network of the flat graph, or of its tidied form, is one of the netlist's
candidate_net : (n : NetView) (g : AigView) (ports : PortsView) (most budget : ℕ) → IsFlat n g ports → (w : NorView) (p : ProgramView) → IsOfNetwork g ports most budget w p → IsCandidate n budget w p
candidate_net n g ports most budget f w p c =
    let C : AigView → Type 0 = λ x. p.cells ≡ x.inputs + min (budget - x.inputs) (length w.gates) in
    record {
      computes = computes_net n g ports Magic budget p f c.program;
      primed = c.program.primed;
      follows = c.follows;
      batched = c.batched;
      cells = subst C f.graph c.wide;
    }

-- what follows one of a level's networks
abbrev FollowsAt : Level → ProgramView → AigView → Type 0
FollowsAt level.Zero p g = FollowsGraph p g
FollowsAt level.One p g = FollowsGraph p (tidied g) ⊎ FollowsGraph p g
FollowsAt level.Two p g = FollowsGraph p (tidied g) ⊎ FollowsGraph p g

all_follow : (effort : Level) (p : ProgramView) (g : AigView) → All (λ w. FollowsNetwork p w → FollowsAt effort p g) (networks_at effort g)
all_follow level.Zero p g = all_flat (λ w. FollowsNetwork p w → FollowsGraph p g) g (λ h. inl h) (λ h. inr h)
all_follow level.One p g =
    let Q : NorView → Type 0 = λ w. FollowsNetwork p w → FollowsGraph p (tidied g) ⊎ FollowsGraph p g in
    All-append Q (tidy_networks g) (networks_of g) (all_tidy Q g (λ h. inl (inl h)) (λ h. inl (inr h))) (all_flat Q g (λ h. inr (inl h)) (λ h. inr (inr h)))
all_follow level.Two p g =
    let Q : NorView → Type 0 = λ w. FollowsNetwork p w → FollowsGraph p (tidied g) ⊎ FollowsGraph p g in
    All-append Q (tidy_networks g) (networks_of g) (all_tidy Q g (λ h. inl (inl h)) (λ h. inl (inr h))) (all_flat Q g (λ h. inr (inl h)) (λ h. inr (inr h)))

follows_net : (effort : Level) (n : NetView) (g : AigView) (p : ProgramView) → g ≡ flat n → FollowsAt effort p g → FollowsSome effort p n
follows_net level.Zero n g p graph h = subst (FollowsAt level.Zero p) graph h
follows_net level.One n g p graph h = subst (FollowsAt level.One p) graph h
follows_net level.Two n g p graph h = subst (FollowsAt level.Two p) graph h

-- how quick it is
quick_net : (effort : Level) (n : NetView) (g : AigView) (budget : ℕ) (p : ProgramView) → g ≡ flat n → All (IsQuickBy budget p) (networks_at effort g) → IsQuick effort n budget p
quick_net level.Zero n g budget p graph all = subst (λ (x : AigView). IsQuickBy budget p (nors x Two)) graph (of_flat (IsQuickBy budget p) g all).1
quick_net level.One n g budget p graph all =
    subst (λ (x : AigView). IsQuickTidy x budget p) graph (of_tidy_two (IsQuickBy budget p) g (All-before (IsQuickBy budget p) (tidy_networks g) (networks_of g) all))
quick_net level.Two n g budget p graph all =
    subst (λ (x : AigView). IsQuickTidy x budget p) graph (of_tidy_two (IsQuickBy budget p) g (All-before (IsQuickBy budget p) (tidy_networks g) (networks_of g) all))

-- at level 0 the budget is no less than the need
enough_net : (effort : Level) (n : NetView) (g : AigView) (ports : PortsView) (budget : ℕ) (p : ProgramView) → g ≡ flat n → IsMagic effort g ports budget p → IsEnough Magic effort n budget
enough_net level.Zero n g ports budget p graph c =
    let Q : NorView → Type 0 = λ w. needed_of w ≤ budget → need_of g Magic ≤ budget in
    let enough : need_of g Magic ≤ budget =
    first_of (IsOfNetwork g ports (most_nors g) budget) budget Q p (need_of g Magic ≤ budget) (networks_of g) (λ w is fits. fits is.enough)
    (all_flat Q g (λ h. omega arith) (λ h. omega arith)) c.0 in
    subst (λ (x : AigView). need_of x Magic ≤ budget) graph enough
enough_net level.One n g ports budget p graph c = tt
enough_net level.Two n g ports budget p graph c = tt

-- of what network it is
record IsOfSome (g : AigView) (ports : PortsView) (budget : ℕ) (effort : Level) (p : ProgramView) : Type 0 where
  pub program : IsProgramOf g ports Magic budget p
  pub follows : FollowsAt effort p g
  pub batched : Batched p
  pub few_nors : length (nor_places p.instrs) ≤ most_nors g

of_some : (effort : Level) (g : AigView) (ports : PortsView) (budget : ℕ) (p : ProgramView) → IsMagic effort g ports budget p → IsOfSome g ports budget effort p
of_some effort g ports budget p c =
    first_of (IsOfNetwork g ports (most_nors g) budget) budget (λ w. FollowsNetwork p w → FollowsAt effort p g) p (IsOfSome g ports budget effort p) (networks_at effort g)
    (λ w is follows. record { program = is.program; follows = follows is.follows; batched = is.batched; few_nors = is.few_nors }) (all_follow effort p g) c.0

compiled_magic : (n : NetView) (g : AigView) (ports : PortsView) (effort : Level) (budget : ℕ) (p : ProgramView) → IsFlat n g ports → IsMagic effort g ports budget p → IsCompiled n Magic effort budget p
compiled_magic n g ports effort budget p f c =
    let some = of_some effort g ports budget p c in
    let IsOf : NorView → ProgramView → Type 0 = IsOfNetwork g ports (most_nors g) budget in
    let N : AigView → Type 0 = λ x. length (nor_places p.instrs) ≤ most_nors x in
    let C : AigView → Type 0 = λ x. IsFirst (IsCandidate n budget) budget (networks_at effort x) p in
    record {
      computes = computes_net n g ports Magic budget p f some.program;
      is_target = some.program.is_target;
      cells = some.program.cells;
      primed = some.program.primed;
      follows = follows_net effort n g p f.graph some.follows;
      batched = some.batched;
      nors = subst N f.graph some.few_nors;
      chosen = subst C f.graph (first_too IsOf (IsCandidate n budget) (candidate_net n g ports (most_nors g) budget f) budget (networks_at effort g) p c.0);
      quick = quick_net effort n g budget p f.graph (quick_each IsOf budget (λ w q is. is.quick) (networks_at effort g) p c);
      cycles = tt;
      accepted = record { few = f.few; enough = enough_net effort n g ports budget p f.graph c };
    }

compiled_plim : (n : NetView) (g : AigView) (ports : PortsView) (effort : Level) (budget : ℕ) (p : ProgramView) → IsFlat n g ports → IsPlim effort g ports budget p → IsCompiled n Plim effort budget p
compiled_plim n g ports effort budget p f c = record {
  computes = computes_net n g ports Plim budget p f c.program;
  is_target = c.program.is_target;
  cells = c.program.cells;
  primed = c.program.primed;
  follows = tt;
  batched = tt;
  nors = tt;
  chosen = tt;
  quick = tt;
  cycles = subst (λ (x : AigView). TakesAt effort x budget p) f.graph c.cycles;
  accepted = record { few = f.few; enough = tt };
}

pub compiled : (n : NetView) (g : AigView) (ports : PortsView) (target : Target) (effort : Level) (budget : ℕ) (p : ProgramView) → IsFlat n g ports → IsScheduled g ports target effort budget p → IsCompiled n target effort budget p
compiled n g ports Magic effort budget p f c = compiled_magic n g ports effort budget p f c
compiled n g ports Plim effort budget p f c = compiled_plim n g ports effort budget p f c

-- the bounds of a netlist are those of its flat graph
coarse_same : (n : NetView) (g : AigView) (target : Target) → g ≡ flat n → length (flat n).ands ≡ ands n → coarse_of g target ≡ coarse_need n target
coarse_same n g Magic graph counted = ap (λ (x : AigView). coarse_of x Magic) graph
coarse_same n g Plim graph counted =
    ap (λ (x : AigView). coarse_of x Plim) graph ∙ ap (λ (k : ℕ). length n.inputs + k + made_outputs (flat n)) counted

pub need_net : (n : NetView) (g : AigView) (target : Target) (cells : ℕ) → g ≡ flat n → cells ≡ need_of g target → cells ≡ need n target
need_net n g target cells graph is = is ∙ ap (λ (x : AigView). need_of x target) graph

pub coarse_net : (n : NetView) (g : AigView) (target : Target) (cells : ℕ) → g ≡ flat n → length (flat n).ands ≡ ands n → cells ≤ coarse_of g target → cells ≤ coarse_need n target
coarse_net n g target cells graph counted few = let same = coarse_same n g target graph counted in omega arith
