-- Worked examples on the once-punctured torus, and on two of them: the definitions give what the field expects.
use Rattle.std.specs.Prelude.{◌≡◌, ℕ, ℤ, pos, negsuc, List, [], ◌∷◌, refl, true}
use Rattle.ideal_tri.specs.Words.{reduce, cyclic_reduce, strip}
use Rattle.ideal_tri.specs.Curves.{is_rotation, is_same_curve, crossings}
use Rattle.ideal_tri.specs.Triangulations.{next, triangle_of, side_of, edge_count}
use Rattle.ideal_tri.specs.Components.{component_of, component_count}
use Rattle.ideal_tri.specs.Vectors.{corner_count}
use Rattle.ideal_tri.specs.Vertices.{vertex_count, genus}
use Rattle.ideal_tri.specs.Flips.{flipped}
use Rattle.ideal_tri.specs.Strands.{State, state_at, strand_step}

abbrev torus : List (List ℤ)
torus = (pos 0 ∷ pos 1 ∷ pos 2 ∷ []) ∷ (negsuc 0 ∷ negsuc 1 ∷ negsuc 2 ∷ []) ∷ []

edges : edge_count torus ≡ 3
edges = refl

next_2 : next torus (pos 2) ≡ pos 0
next_2 = refl

next_back : next torus (negsuc 0) ≡ negsuc 1
next_back = refl

tri : triangle_of torus (negsuc 2) ≡ 1
tri = refl

side : side_of torus (negsuc 2) ≡ 2
side = refl

abbrev w110 : List ℕ
w110 = 1 ∷ 1 ∷ 0 ∷ []

-- the curve of (1,1,0) crosses 0 and then -2
step_one : strand_step torus w110 (state_at (pos 0) 0) ≡ state_at (negsuc 1) 0
step_one = refl

step_two : strand_step torus w110 (state_at (negsuc 1) 0) ≡ state_at (pos 0) 0
step_two = refl

abbrev w222 : List ℕ
w222 = 2 ∷ 2 ∷ 2 ∷ []

-- the peripheral curve of (2,2,2): 0 -2 2 -1 1 -3
abbrev p0 : State
p0 = state_at (pos 0) 0

per1 : (strand_step torus w222 p0).label ≡ negsuc 1
per1 = refl

per2 : (strand_step torus w222 (strand_step torus w222 p0)).label ≡ pos 2
per2 = refl

corner : corner_count torus w222 (pos 1) ≡ 1
corner = refl

red : reduce (pos 0 ∷ pos 1 ∷ negsuc 1 ∷ negsuc 2 ∷ []) ≡ pos 0 ∷ negsuc 2 ∷ []
red = refl

cred : cyclic_reduce (pos 1 ∷ pos 0 ∷ pos 2 ∷ negsuc 2 ∷ negsuc 1 ∷ []) ≡ pos 0 ∷ []
unfolding cyclic_reduce strip
cred = refl

rot : is_rotation (pos 0 ∷ pos 1 ∷ pos 2 ∷ []) (pos 2 ∷ pos 0 ∷ pos 1 ∷ []) ≡ true
rot = refl

same : is_same_curve (pos 0 ∷ negsuc 1 ∷ []) (negsuc 0 ∷ pos 1 ∷ []) ≡ true
same = refl

cross : crossings 1 ((pos 0 ∷ negsuc 1 ∷ []) ∷ (pos 1 ∷ []) ∷ []) ≡ 2
cross = refl

one_vertex : vertex_count torus ≡ 1
one_vertex = refl

torus_genus : genus torus ≡ 1
torus_genus = refl

-- two triangles glued along all three edges: the sphere with three punctures
abbrev sphere3 : List (List ℤ)
sphere3 = (pos 0 ∷ pos 1 ∷ pos 2 ∷ []) ∷ (negsuc 0 ∷ negsuc 2 ∷ negsuc 1 ∷ []) ∷ []

three_vertices : vertex_count sphere3 ≡ 3
three_vertices = refl

sphere_genus : genus sphere3 ≡ 0
sphere_genus = refl

flip_of_0 : flipped torus (pos 0) ≡ (pos 0 ∷ negsuc 2 ∷ pos 1 ∷ []) ∷ (negsuc 0 ∷ pos 2 ∷ negsuc 1 ∷ []) ∷ []
flip_of_0 = refl

-- two once-punctured tori
abbrev tori : List (List ℤ)
tori =
    (pos 0 ∷ pos 1 ∷ pos 2 ∷ []) ∷ (negsuc 0 ∷ negsuc 1 ∷ negsuc 2 ∷ []) ∷ (pos 3 ∷ pos 4 ∷ pos 5 ∷ [])
    ∷ (negsuc 3 ∷ negsuc 4 ∷ negsuc 5 ∷ []) ∷ []

two_components : component_count tori ≡ 2
two_components = refl

second_component : component_of tori 3 ≡ 1
second_component = refl

genera : genus tori ≡ 2
genera = refl
