-- Powers of a path that is carried along another: back along the flips, the path, and the flips again.
--
-- On the labels, the n-th power of the carried path has the map of the carried n-th power: between two of the n times
-- stand the flips and the way back, which do nothing. And where a path is inner, the carried one is.
use Rattle.std.proofs.Common.{◌≡◌, ◌++◌, ℕ, zero, suc, ℤ, List, [], ◌∷◌, sym, ◌∙◌, ap, subst, append_assoc, append-nil}
use Rattle.std.specs.List.{All, flat_map, repeat}
use Rattle.std.proofs.Math.Path.{fun_ext}
use Rattle.std.proofs.lemmas.List.Elements.{All-weaker}
use Rattle.ideal_tri.specs.Triangulations.{IsTriangulation, IsLabel, triangle_of}
use Rattle.ideal_tri.specs.Labels.{inverse}
use Rattle.ideal_tri.specs.Words.{reduce}
use Rattle.tri_atlas.specs.Maps.{IsMap, after, path_map}
use Rattle.tri_atlas.specs.Moves.{Move, ArePath, back_along}
use Rattle.free_groupoid.specs.Inner.{IsInner}
use Rattle.free_groupoid.specs.Periodic.{IsInnerPath}
use Rattle.cert_checker.proofs.Known.{Known}

-- lists in five parts
regrouped : {A : Type 0} (b q f r : List A)
    → (b ++ (q ++ f)) ++ (b ++ (r ++ f)) ≡ (b ++ q) ++ ((f ++ b) ++ (r ++ f))
regrouped {A} b q f r =
    ap (λ (xs : List A). xs ++ (b ++ (r ++ f))) (sym (append_assoc b q f))
    ∙ append_assoc (b ++ q) f (b ++ (r ++ f))
    ∙ ap (λ (xs : List A). (b ++ q) ++ xs) (sym (append_assoc f b (r ++ f)))

joined_inside : {A : Type 0} (b q f r : List A) → (b ++ q) ++ (r ++ f) ≡ b ++ ((q ++ r) ++ f)
joined_inside {A} b q f r =
    append_assoc b q (r ++ f) ∙ ap (λ (xs : List A). b ++ xs) (sym (append_assoc q r f))

module _ (known : Known) where
  -- ---- maps that agree on labels

  -- the letters of the images of labels are labels
  image_labels : (source target : List (List ℤ)) (moves : List Move) (x : ℤ) → IsTriangulation source
      → ArePath source moves target → IsLabel source x → All (IsLabel target) (path_map moves x)
  image_labels source target moves x sound path label =
      let (triangles, map) = known.maps.paths.maps source target moves sound path in
      known.surfaces.letters target (triangles (triangle_of source x)) (triangles (triangle_of source (inverse x)))
      (path_map moves x) (map.walks x label)

  -- so do words whose letters are labels
  pub words_agree : (triples : List (List ℤ)) (f g : ℤ → List ℤ) (w : List ℤ)
      → ((x : ℤ) → IsLabel triples x → f x ≡ g x) → All (IsLabel triples) w → flat_map f w ≡ flat_map g w
  words_agree triples f g w same labels =
      known.maps.substitutions.agree f g w (All-weaker (IsLabel triples) (λ x. f x ≡ g x) same w labels)

  -- the same path before two paths whose maps agree
  agree_behind : (source between : List (List ℤ)) (first second other : List Move) (x : ℤ) → IsTriangulation source
      → ArePath source first between → IsLabel source x
      → ((y : ℤ) → IsLabel between y → path_map second y ≡ path_map other y)
      → path_map (first ++ second) x ≡ path_map (first ++ other) x
  agree_behind source between first second other x sound path label same =
      known.maps.paths.join first second x
      ∙ ap reduce
      (words_agree between (path_map second) (path_map other) (path_map first x) same
      (image_labels source between first x sound path label))
      ∙ sym (known.maps.paths.join first other x)

  -- there and back before a path
  undone_before : (source between : List (List ℤ)) (first rest : List Move) (x : ℤ) → IsTriangulation source
      → ArePath source first between → IsLabel source x
      → path_map ((first ++ back_along first) ++ rest) x ≡ path_map rest x
  undone_before source between first rest x sound path label =
      known.maps.paths.join (first ++ back_along first) rest x
      ∙ ap (λ (w : List ℤ). reduce (flat_map (path_map rest) w))
      (known.maps.paths.undo source between first x sound path label)
      ∙ ap reduce (append-nil (path_map rest x))
      ∙ known.maps.paths.reduced rest x

  -- ---- a path carried along flips

  module _ (base target : List (List ℤ)) (flips : List Move) (sound : IsTriangulation base)
      (to_target : ArePath base flips target) where
    abbrev pub back : List Move
    back = back_along flips

    abbrev pub carried : List Move → List Move
    carried path = back ++ (path ++ flips)

    pub sound_target : IsTriangulation target
    sound_target = known.maps.paths.end base target flips sound to_target

    to_base : ArePath target back base
    to_base = known.maps.paths.back base target flips sound to_target

    back_and_there : (x : ℤ) → IsLabel target x → path_map (back ++ flips) x ≡ x ∷ []
    back_and_there x label =
        ap (λ (moves : List Move). path_map (back ++ moves) x)
        (sym (known.maps.paths.back_twice base target flips to_target))
        ∙ known.maps.paths.undo target base back x sound_target to_base label

    pub carried_path : (path : List Move) → ArePath base path base → ArePath target (carried path) target
    carried_path path closed =
        known.maps.paths.append target base target back (path ++ flips) to_base
        (known.maps.paths.append base base target path flips closed to_target)

    -- two of the times
    carried_twice : (path rest : List Move) (x : ℤ) → ArePath base path base → IsLabel target x
        → path_map (carried path ++ carried rest) x ≡ path_map (carried (path ++ rest)) x
    carried_twice path rest x closed label =
        ap (λ (moves : List Move). path_map moves x) (regrouped back path flips rest)
        ∙ agree_behind target base (back ++ path) ((flips ++ back) ++ (rest ++ flips)) (rest ++ flips) x sound_target
        (known.maps.paths.append target base base back path to_base closed) label
        (λ y inside. undone_before base target flips (rest ++ flips) y sound to_target inside)
        ∙ ap (λ (moves : List Move). path_map moves x) (joined_inside back path flips rest)

    pub carried_often : (path : List Move) (n : ℕ) (x : ℤ) → ArePath base path base → IsLabel target x
        → path_map (repeat n (carried path)) x ≡ path_map (carried (repeat n path)) x
    carried_often path zero x closed label = sym (back_and_there x label)
    carried_often path (suc n) x closed label =
        agree_behind target target (carried path) (repeat n (carried path)) (carried (repeat n path)) x sound_target
        (carried_path path closed) label (λ y inside. carried_often path n y closed inside)
        ∙ carried_twice path (repeat n path) x closed label

    carried_map : (path : List Move)
        → after (path_map flips) (after (path_map path) (path_map back)) ≡ path_map (carried path)
    carried_map path =
        fun_ext (λ x. ap (λ (w : List ℤ). reduce (flat_map (path_map flips) w))
        (sym (known.maps.paths.join back path x))
        ∙ sym (known.maps.paths.join (back ++ path) flips x)
        ∙ ap (λ (moves : List Move). path_map moves x) (append_assoc back path flips))

    pub carried_inner : (path : List Move) → IsInnerPath base path → IsInnerPath target (carried path)
    carried_inner path (p, h) =
        let (there, there_map) = known.maps.paths.maps base target flips sound to_target in
        let (home, home_map) = known.maps.paths.maps target base back sound_target to_base in
        let triangles : ℕ → ℕ = λ t. there (h.triangles (home t)) in
        let paths : ℕ → List ℤ = λ t. flat_map (path_map flips) (p (home t)) in (
          paths,
          record {
            triangles = triangles;
            map =
                subst (λ (f : ℤ → List ℤ). IsMap target target f triangles) (carried_map path)
                (known.maps.walks.compose target base target (after (path_map path) (path_map back)) (path_map flips)
                (λ t. h.triangles (home t)) there sound_target
                (known.maps.walks.compose target base base (path_map back) (path_map path) home h.triangles sound
                home_map h.map) there_map);
            inner =
                subst (λ (f : ℤ → List ℤ). IsInner target f triangles paths) (carried_map path)
                (known.inner.transport base target (path_map path) (path_map flips) (path_map back) h.triangles there
                home p sound sound_target h.map there_map home_map
                (λ x label. sym (known.maps.paths.join back flips x) ∙ back_and_there x label) h.inner);
          },
        )
