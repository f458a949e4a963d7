-- The order of a depth-first visit.
use Rattle.std.specs.Prelude.{◌≡◌, ℕ, true, zero, suc, if◌then◌else◌, List, [], ◌∷◌, ◌++◌, fold, slice_index}
use Rattle.pim_graph.specs.Graphs.{GraphView, has, kids_of}
use Rattle.pim_graph.specs.Usages.{falling, usages}

-- the visit of a gate, where these gates were emitted before: one that was emitted stays where it is, and each other one
-- comes after its children. The first number bounds how deep the visit goes
abbrev pub visit : (ℕ → List ℕ) → ℕ → List ℕ → ℕ → List ℕ
visit kids zero out x = out
visit kids (suc depth) out x = if has out x then out else fold (visit kids depth) out (kids x) ++ x ∷ []

-- the visit of a gate, which reads gates of lower numbers alone
abbrev pub visited : (ℕ → List ℕ) → List ℕ → ℕ → List ℕ
visited kids out x = visit kids (suc x) out x

-- the children of a gate by falling usage
abbrev pub falling_kids : GraphView → ℕ → List ℕ
falling_kids g x = falling (slice_index (usages g)) (kids_of g x)

-- the order of a graph: its roots are visited by falling usage, and at each gate its children
abbrev pub order : GraphView → List ℕ
order g = fold (visited (falling_kids g)) [] (falling (slice_index (usages g)) g.roots)

-- the roots reach a gate where it is one of them, or where a gate that they reach reads it
pub data IsReached (g : GraphView) : ℕ → Type 0 where
  as_root : {gate : ℕ} → has g.roots gate ≡ true → IsReached g gate
  as_child : {reader gate : ℕ} → IsReached g reader → has (kids_of g reader) gate ≡ true → IsReached g gate
