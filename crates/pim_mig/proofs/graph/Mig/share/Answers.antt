use Rattle.std.proofs.Common.{◌≡◌, ◌+◌, ◌<◌, ◌∷◌, ◌++◌, [], Bool, true, false, cond, eqb, List, length, map, ℕ, sym, ◌∙◌, ap, subst, arith}
use Rattle.std.proofs.lemmas.Bool.Decides.{nat_tests}
use Rattle.pim_aig.specs.Literals.{plain}
use Rattle.pim_aig.specs.declared.literal.Lit.{Lit}
use Rattle.pim_mig.specs.Graph.{IsMig, MigView}
use Rattle.pim_mig.specs.Nodes.{place_of}
use Rattle.pim_mig.specs.declared.node.Maj.{Maj}
use Rattle.pim_mig.specs.inner.Keys.{key_of}
use Rattle.pim_mig.proofs.Answers.{mig_push}
use Rattle.pim_mig.proofs.Keys.{Entered, entered, key_tests}
use Rattle.pim_mig.proofs.graph.Mig.share.Goals as goal
use Rattle.pim_mig.proofs.graph.Mig.share.Goals.{In_ok-place}

eqb_yes : (m n : ℕ) → m ≡ n → eqb m n ≡ true
eqb_yes m n e = grind (arith, nat_tests)

eqb_no : (m n : ℕ) → m < n → eqb m n ≡ false
eqb_no m n e = grind (arith, nat_tests)

-- the nodes after sharing, and the graph of them
found_nodes : (now nodes grown : List Maj) (m : Maj) (place : ℕ) → now ≡ nodes → place ≡ place_of nodes m → place < length nodes → grown ≡ nodes → grown ≡ cond (eqb (place_of now m) (length now)) (now ++ m ∷ []) now
found_nodes now nodes grown m place same at some is =
    let e : eqb (place_of nodes m) (length nodes) ≡ false = eqb_no (place_of nodes m) (length nodes) (omega arith) in
    is ∙ sym (ap (λ (xs : List Maj). cond (eqb (place_of xs m) (length xs)) (xs ++ m ∷ []) xs) same ∙ ap (λ (b : Bool). cond b (nodes ++ m ∷ []) nodes) e)

new_nodes : (now nodes grown : List Maj) (m : Maj) (place : ℕ) → now ≡ nodes → place ≡ place_of nodes m → place ≡ length nodes → grown ≡ nodes ++ m ∷ [] → grown ≡ cond (eqb (place_of now m) (length now)) (now ++ m ∷ []) now
new_nodes now nodes grown m place same at none is =
    let e : eqb (place_of nodes m) (length nodes) ≡ true = eqb_yes (place_of nodes m) (length nodes) (omega arith) in
    is ∙ sym (ap (λ (xs : List Maj). cond (eqb (place_of xs m) (length xs)) (xs ++ m ∷ []) xs) same ∙ ap (λ (b : Bool). cond b (nodes ++ m ∷ []) nodes) e)

graph_is : (before : MigView) (inputs : ℕ) (nodes grown : List Maj) (outputs : List Lit) → (let g : MigView = record { inputs = inputs; nodes = nodes; outputs = outputs } in g) ≡ before → (after : List Maj) → after ≡ grown → (let g : MigView = record { inputs = inputs; nodes = after; outputs = outputs } in g) ≡ record before { nodes = grown }
graph_is before inputs nodes grown outputs is after e =
    ap (λ (xs : List Maj). let g : MigView = record { inputs = inputs; nodes = xs; outputs = outputs } in g) e
    ∙ ap (λ (g : MigView). let h : MigView = record g { nodes = grown } in h) is

-- the nodes of the view are those that are kept
now : (c : In_ok-place) → c.args.self.now.nodes ≡ c.self.inside.nodes.items
now c = ap (λ (g : MigView). g.nodes) (sym c.self.view_is)

-- what entering the node's key gives
key_entered : (c : In_ok-place) → Entered c.self.inside.keys.keys c.insert_full.new.self.keys c.self.inside.nodes.items c.args.node c.in_ok-place.place c.in_ok-place.is_new
key_entered c =
    entered _ c.self.inside.keys.keys c.insert_full.new.self.keys c.self.inside.nodes.items c.args.node c.key.result c.in_ok-place.place c.in_ok-place.is_new (key_tests c.key.result c.args.node c.key.ensures) c.self.invariant.1
    c.in_ok-place.ensures.index c.in_ok-place.ensures.keys c.in_ok-place.ensures.added c.key.ensures

literal : (c : In_ok-place) → plain (1 + c.args.self.now.inputs + c.in_ok-place.place) ≡ plain (1 + c.args.self.now.inputs + place_of c.args.self.now.nodes c.args.node)
literal c = ap (λ (k : ℕ). plain (1 + c.args.self.now.inputs + k)) ((key_entered c).at ∙ ap (λ (xs : List Maj). place_of xs c.args.node) (sym (now c)))

pub returns-then-not-is_new-clause-literal : goal.returns-then-not-is_new-clause-literal
returns-then-not-is_new-clause-literal c = literal (goal.at.returns-then-not-is_new-clause-literal c).In_ok-place

pub returns-then-not-is_new-clause-grown : goal.returns-then-not-is_new-clause-grown
returns-then-not-is_new-clause-grown c =
    let inside = c.self.inside in
    let at = (goal.at.returns-then-not-is_new-clause-grown c).In_ok-place in
    let e = key_entered at in
    let found = e.found c.if-not-is_new.true in
    graph_is c.args.self.now inside.inputs inside.nodes.items _ inside.outputs.items c.self.view_is c.reserve.new.self.items
    (found_nodes c.args.self.now.nodes inside.nodes.items c.reserve.new.self.items c.args.node c.in_ok-place.place (now at) e.at found.0 c.in_ok-reserve.ensures.items)

pub invariant_of-self-2 : goal.invariant_of-self-2
invariant_of-self-2 c =
    let inside = c.self.inside in
    let m = c.args.node in
    let at = (goal.at.invariant_of-self-2 c).In_ok-place in
    let e = key_entered at in
    let new = e.new c.if-not-is_new.false in
    let items : c.push.new.self.items ≡ inside.nodes.items ++ m ∷ [] = c.in_ok-push.ensures.items ∙ ap (λ (xs : List Maj). xs ++ m ∷ []) c.in_ok-reserve.ensures.items in
    let before : MigView = record { inputs = inside.inputs; nodes = inside.nodes.items; outputs = inside.outputs.items } in
    let inputs = ap (λ (g : MigView). g.inputs) c.self.view_is in
    let count = ap (λ (xs : List Maj). length xs) (now at) in
    let P : List Maj → Type 0 = λ xs. IsMig (record { inputs = inside.inputs; nodes = xs; outputs = inside.outputs.items }) in (
      subst P (sym items) (mig_push before m c.self.invariant.0 (omega (arith, c.requires.x_there)) (omega (arith, c.requires.y_there)) (omega (arith, c.requires.z_there)) (omega (arith, c.requires.room)) c.requires.apart (sym e.at ∙ new.0)),
      new.1 ∙ ap (map key_of) (sym items),
    )

pub returns-clause-literal : goal.returns-clause-literal
returns-clause-literal c = literal (goal.at.returns-clause-literal c).In_ok-place

pub returns-clause-grown : goal.returns-clause-grown
returns-clause-grown c =
    let inside = c.self.inside in
    let m = c.args.node in
    let at = (goal.at.returns-clause-grown c).In_ok-place in
    let e = key_entered at in
    let new = e.new c.if-not-is_new.false in
    graph_is c.args.self.now inside.inputs inside.nodes.items _ inside.outputs.items c.self.view_is c.push.new.self.items
    (new_nodes c.args.self.now.nodes inside.nodes.items c.push.new.self.items m c.in_ok-place.place (now at) e.at new.0 (c.in_ok-push.ensures.items ∙ ap (λ (xs : List Maj). xs ++ m ∷ []) c.in_ok-reserve.ensures.items))
