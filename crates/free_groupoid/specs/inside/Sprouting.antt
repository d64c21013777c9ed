-- The sides of a node's triangle, tried one after another.
use Rattle.std.specs.Prelude.{◌++◌, ◌&&◌, ℤ, List, [], ◌∷◌, nat_eq, not, if◌then◌else◌}
use Rattle.ideal_tri.specs.Labels.{inverse}
use Rattle.ideal_tri.specs.Triangulations.{triangle_of}
use Rattle.free_groupoid.specs.TestWalks.{Node, has_node, node_beyond}

-- the nodes, and one beyond x where it is a side of the node's triangle and the triangle there is
-- new
abbrev pub tried : List (List ℤ) → Node → ℤ → List Node → List Node
tried triples n x nodes =
    if nat_eq (triangle_of triples x) n.triangle && not (has_node nodes (triangle_of triples
    (inverse x)))
    then nodes ++ (node_beyond triples n x ∷ []) else nodes

-- so for each of the labels
abbrev pub tried_each : List (List ℤ) → Node → List ℤ → List Node → List Node
tried_each triples n [] nodes = nodes
tried_each triples n (x ∷ labels) nodes = tried_each triples n labels (tried triples n x nodes)
