-- What a netlist is scheduled from, and how many cells and instructions that asks for.
use Rattle.std.specs.Prelude.{ℕ, ◌+◌, ◌⊎◌, List, [], ◌∷◌, ◌++◌, if◌then◌else◌, min, nat_le, length}
use Rattle.pim_aig.specs.Flat.{ands, flat}
use Rattle.pim_aig.specs.Graph.{AigView}
use Rattle.pim_isa.specs.Programs.{ProgramView}
use Rattle.pim_isa.specs.declared.target.Target.{Target}
use Rattle.pim_isa.specs.declared.target.Target.TheVariants.{Magic, Plim}
use Rattle.pim_net.specs.Netlist.{NetView}
use Rattle.pim_nor.specs.Lowered.{nors}
use Rattle.pim_nor.specs.Network.{NorView, nor_count}
use Rattle.pim_nor.specs.declared.lowering.Width.TheVariants.{Two, Four}
use Rattle.pim_rm3.specs.Costs.{made_outputs, needed_of as plim_needed_of}
use Rattle.pim_simpler.specs.Following.{Follows}
use Rattle.pim_simpler.specs.Needs.{needed_of, order_of}
use Rattle.pim_tidy.specs.Tidied.{tidied}
use Rattle.pim_compile.specs.declared.compiling.Level.{Level}
use Rattle.pim_compile.specs.declared.compiling.Level.TheVariants as level

-- the two networks of a graph: of gates with up to four operands, and with up to two
abbrev pub networks_of : AigView → List NorView
networks_of g = nors g Four ∷ nors g Two ∷ []

-- how many NORs and NOTs the network of a graph with gates of one or two operands has
abbrev pub most_nors : AigView → ℕ
most_nors g = nor_count (nors g Two).gates

-- a network, if it has at most so many NORs
abbrev pub if_few : ℕ → NorView → List NorView
if_few most w = if nat_le (nor_count w.gates) most then w ∷ [] else []

-- the networks of a graph's tidied form, as far as they have no more NORs than the graph's own of up to two operands
abbrev pub tidy_networks : AigView → List NorView
tidy_networks g = if_few (most_nors g) (nors (tidied g) Four) ++ if_few (most_nors g) (nors (tidied g) Two)

-- the networks that a level tries for MAGIC, in their order
abbrev pub networks_at : Level → AigView → List NorView
networks_at level.Zero g = networks_of g
networks_at level.One g = tidy_networks g ++ networks_of g
networks_at level.Two g = tidy_networks g ++ networks_of g

-- the same for a netlist: those of its flat graph
abbrev pub networks : Level → NetView → List NorView
networks effort n = networks_at effort (flat n)

-- how many cells a graph needs: for MAGIC the lesser of what its networks of the two widths need, for PLiM its inputs and the peak
-- of its own gates
abbrev pub need_of : AigView → Target → ℕ
need_of g Magic = min (needed_of (nors g Four)) (needed_of (nors g Two))
need_of g Plim = plim_needed_of g

-- how many cells a netlist needs: those of its flat graph
abbrev pub need : NetView → Target → ℕ
need n target = need_of (flat n) target

-- how many NORs and NOTs the network of a netlist's flat graph with gates of one or two operands has
abbrev pub nors_of_two : NetView → ℕ
nors_of_two n = most_nors (flat n)

-- so many cells are enough for a graph. For MAGIC: one for each input and each NOR of up to two operands, and two more. For PLiM:
-- one for each input, each AND node and each distinct output that is a complement or a constant
abbrev pub coarse_of : AigView → Target → ℕ
coarse_of g Magic = g.inputs + most_nors g + 2
coarse_of g Plim = g.inputs + length g.ands + made_outputs g

-- the same for a netlist, with the AND nodes counted by its covers
abbrev pub coarse_need : NetView → Target → ℕ
coarse_need n Magic = length n.inputs + nors_of_two n + 2
coarse_need n Plim = length n.inputs + ands n + made_outputs (flat n)

-- the program executes the gates of a network in the network's order
abbrev pub FollowsNetwork : ProgramView → NorView → Type 0
FollowsNetwork p network = Follows p network (order_of network)

-- the program follows one of the networks of a graph
abbrev pub FollowsGraph : ProgramView → AigView → Type 0
FollowsGraph p g = FollowsNetwork p (nors g Four) ⊎ FollowsNetwork p (nors g Two)

-- the program follows one of the networks that a level takes: at level 0 those of the flat graph, above it also those of its
-- tidied form
abbrev pub FollowsSome : Level → ProgramView → NetView → Type 0
FollowsSome level.Zero p n = FollowsGraph p (flat n)
FollowsSome level.One p n = FollowsGraph p (tidied (flat n)) ⊎ FollowsGraph p (flat n)
FollowsSome level.Two p n = FollowsGraph p (tidied (flat n)) ⊎ FollowsGraph p (flat n)
