-- A map that takes the triangulation of a track to itself.
use Rattle.std.proofs.Common.{ℕ, ℤ, List, [], ◌≡◌, ◌<◌, ap, sym, ◌∙◌, subst, length, get_or}
use Rattle.std.proofs.lemmas.List.{get_or-map, length-map}
use Rattle.std.specs.List.{All}
use Rattle.ideal_tri.specs.LabelLaws.{LabelLaws}
use Rattle.ideal_tri.specs.SurfaceLaws.{SurfaceLaws}
use Rattle.ideal_tri.specs.Triangulations.{IsLabel, IsTriangulation, triangle_of}
use Rattle.ideal_tri.specs.Labels.{inverse}
use Rattle.tri_atlas.specs.Arena.{Arena, IsArena, triangulation}
use Rattle.tri_atlas.specs.MapLaws.{MapLaws}
use Rattle.tri_atlas.specs.Maps.{IsMap}
use Rattle.free_groupoid.specs.GroupoidMaps.{GroupoidMap, substitution, vertex_image}
use Rattle.free_groupoid.specs.Walks.{DualWalk, IsWalkOn}
use Rattle.train_track.specs.Branches.{TrainTrack, IsBranch, letter_at, words_of}
use Rattle.train_track.specs.Tracks.{switches_of}
use Rattle.carry_map.specs.Anchors.{Place}
use Rattle.carry_map.specs.AnchorAnswers.{IsMapOnTrack, carrying_by, walk_by, walks_by}
use Rattle.carry_map.specs.AnchorLaws.{AreConnected}
use Rattle.carry_map.specs.CarriedMaps.{goes_to, final}
use Rattle.carry_map.proofs.SwitchWalks.{reached, path_walk, first_switch}

module _ (arena : Arena) (track : TrainTrack) (psi : GroupoidMap) (on : IsMapOnTrack arena track psi) where
  abbrev pub here : List (List ℤ)
  here = triangulation arena track.tri

  pub map_here : IsMap here here (substitution psi.images) (vertex_image psi)
  map_here =
      subst (λ (t : ℕ). IsMap here (triangulation arena t) (substitution psi.images) (vertex_image psi)) on.target
      (subst (λ (t : ℕ). IsMap (triangulation arena t) (triangulation arena psi.target) (substitution psi.images)
      (vertex_image psi)) on.source on.maps.maps)

  module _ (labels : LabelLaws) (surface : SurfaceLaws) (maps : MapLaws) (sound : IsArena arena) (anchors : List Place)
      (connected : AreConnected here track.left_out (vertex_image psi) (carrying_by anchors)) (b : List ℤ)
      (is : IsBranch here track.left_out b) where
    tri : IsTriangulation here
    tri = sound.sound track.tri on.here.tri

    pub first_label : (y : ℤ) → y ≡ goes_to track.switches (carrying_by anchors) (letter_at b 0) → IsLabel here y
    first_label y e =
        subst (IsLabel here)
        (sym (e ∙ ap (λ (xs : List ℤ). goes_to xs (carrying_by anchors) (letter_at b 0)) on.here.on.switches))
        (reached labels here (surface.walks here tri) track.left_out (substitution psi.images) (vertex_image psi)
        (carrying_by anchors) map_here connected (letter_at b 0) (first_switch here track.left_out b is)).label

    pub path_on : IsWalkOn here (walk_by here track.left_out (substitution psi.images) anchors b)
    path_on = record {
      start_in =
          (surface.triangles here tri).triangle
          (goes_to (switches_of here track.left_out) (carrying_by anchors) (letter_at b 0))
          (reached labels here (surface.walks here tri) track.left_out (substitution psi.images) (vertex_image psi)
          (carrying_by anchors) map_here connected (letter_at b 0) (first_switch here track.left_out b is)).label;
      end = triangle_of here
          (inverse (goes_to (switches_of here track.left_out) (carrying_by anchors) (final b)));
      leads =
          path_walk labels here (surface.walks here tri) track.left_out (substitution psi.images) (vertex_image psi)
          (carrying_by anchors) map_here connected maps.walks tri b is;
    }

  -- the train paths of all branches are walks
  pub walks_on : LabelLaws → SurfaceLaws → MapLaws → IsArena arena → (anchors : List Place)
      → AreConnected here track.left_out (vertex_image psi) (carrying_by anchors)
      → All (IsWalkOn here) (walks_by here track psi anchors)
  walks_on labels surface maps sound anchors connected k d within =
      let less : k < length (words_of track.branches) =
      subst (λ (n : ℕ). k < n) (length-map (words_of track.branches) make) within in
      subst (IsWalkOn here) (sym (get_or-map make (words_of track.branches) k [] d less))
      (path_on labels surface maps sound anchors connected (get_or (words_of track.branches) k [])
      (on.here.on.branches.branch k [] less))
    where
      make : List ℤ → DualWalk
      make = walk_by here track.left_out (substitution psi.images) anchors
