-- The connecting walks of the labels of switches, in both directions, and the computed train paths are walks.
--
-- The walk at the label s of a switch that isn't negative is given. That at ~s is f(~s) c_s σ(s), reduced: f(~s) runs
-- from the image of where ~s starts to the image of where s starts, c_s on to where σ(s) starts, and the letter σ(s)
-- ends where ~σ(s) starts. The train path of a branch is made of such walks and of the image of a part of the branch.
use Rattle.std.proofs.Common.{ℕ, ℤ, pos, negsuc, List, [], ◌∷◌, ◌++◌, ◌≡◌, ◌<◌, refl, sym, ◌∙◌, ap, subst, arith}
use Rattle.std.proofs.Common.{length, get_or}
use Rattle.std.specs.List.{flat_map}
use Rattle.ideal_tri.specs.Labels.{inverse}
use Rattle.ideal_tri.specs.LabelLaws.{LabelLaws}
use Rattle.ideal_tri.specs.SurfaceLaws.{WalkLaws}
use Rattle.ideal_tri.specs.Words.{inverse_word, but_last}
use Rattle.ideal_tri.specs.Triangulations.{IsLabel, IsWalk, IsTriangulation, triangle_of}
use Rattle.tri_atlas.specs.Maps.{IsMap}
use Rattle.tri_atlas.specs.MapLaws.{WalkMapLaws}
use Rattle.train_track.specs.Tracks.{switches_of}
use Rattle.train_track.specs.Branches.{IsBranch, letter_at}
use Rattle.carry_map.specs.CarriedMaps.{Carrying, beside, goes_to, connection, final}
use Rattle.carry_map.specs.AnchorAnswers.{train_path}
use Rattle.carry_map.specs.AnchorLaws.{AreConnected}
use Rattle.carry_map.specs.inside.Switches.{IsSwitchLabel, walk_from_to}
use Rattle.carry_map.proofs.SwitchPlaces.{switch_forwards, switch_listed, first_at, beside_first}
use Rattle.carry_map.proofs.WordEnds.{front_is}
use Rattle.carry_map.proofs.WordParts.{last_of-append}

-- a walk without its last letter
pub before_last : (ts : List (List ℤ)) (s t : ℕ) (u : List ℤ) (z : ℤ) → IsWalk ts s (u ++ (z ∷ [])) t
    → IsWalk ts s u (triangle_of ts z) × IsLabel ts z
before_last ts s t [] z walk = (sym walk.1, walk.0)
before_last ts s t (x ∷ u) z walk =
    let rest = before_last ts (triangle_of ts (inverse x)) t u z walk.2 in
    ((walk.0, walk.1, rest.0), rest.1)

-- ---- branches

module _ (ts : List (List ℤ)) (out : List ℤ) (b : List ℤ) (is : IsBranch ts out b) where
  pub branch_first : letter_at b 0 ≡ is.first
  branch_first = ap (λ (w : List ℤ). letter_at w 0) is.letters

  pub branch_last : final b ≡ is.last
  branch_last = ap final is.letters ∙ last_of-append is.first is.between (is.last ∷ [])

  pub branch_front : but_last b ≡ is.first ∷ is.between
  branch_front = front_is b (is.first ∷ is.between) is.last is.letters

  branch_walk : IsWalk ts (triangle_of ts is.first) ((is.first ∷ is.between) ++ (is.last ∷ []))
      (triangle_of ts (inverse is.last))
  branch_walk =
      subst (λ (w : List ℤ). IsWalk ts (triangle_of ts is.first) w (triangle_of ts (inverse is.last))) is.letters
      is.walk

  pub front_walk : IsWalk ts (triangle_of ts (letter_at b 0)) (but_last b) (triangle_of ts (final b))
  front_walk =
      subst (λ (x : ℤ). IsWalk ts (triangle_of ts x) (but_last b) (triangle_of ts (final b))) (sym branch_first)
      (subst (λ (w : List ℤ). IsWalk ts (triangle_of ts is.first) w (triangle_of ts (final b))) (sym branch_front)
      (subst (λ (x : ℤ). IsWalk ts (triangle_of ts is.first) (is.first ∷ is.between) (triangle_of ts x))
      (sym branch_last)
      (before_last ts (triangle_of ts is.first) (triangle_of ts (inverse is.last)) (is.first ∷ is.between) is.last
      branch_walk).0))

  pub first_switch : IsSwitchLabel ts out (letter_at b 0)
  first_switch =
      subst (IsSwitchLabel ts out) (sym branch_first) (record { label = branch_walk.0; switch = is.begins })

  pub last_switch : IsSwitchLabel ts out (final b)
  last_switch =
      subst (IsSwitchLabel ts out) (sym branch_last)
      (record {
        label = (before_last ts (triangle_of ts is.first) (triangle_of ts (inverse is.last)) (is.first ∷ is.between)
            is.last branch_walk).1;
        switch = is.ends;
      })

-- ---- the walks at switches

module _ (labels : LabelLaws) (ts : List (List ℤ)) (walks : WalkLaws ts) (out : List ℤ) (f : ℤ → List ℤ)
    (triangles : ℕ → ℕ) (c : Carrying) (map : IsMap ts ts f triangles) (connected : AreConnected ts out triangles c)
  where
    abbrev pub switches : List ℤ
    switches = switches_of ts out

    -- the label x of a switch goes to a label, and its walk leads there
    pub record IsReached (x : ℤ) : Type 0 where
      pub label : IsLabel ts (goes_to switches c x)
      pub walk : IsWalk ts (triangles (triangle_of ts x)) (connection f switches c x)
          (triangle_of ts (goes_to switches c x))

    reached_forwards : (n : ℕ) → IsSwitchLabel ts out (pos n) → IsReached (pos n)
    reached_forwards n is =
        let (i, at) = first_at labels switches (pos n) (switch_listed ts out (pos n) is.label is.switch) in
        let to : beside (pos 0) switches c.to (pos n) ≡ letter_at c.to i =
        beside_first labels (pos 0) switches c.to (pos n) i at connected.one_label_each in
        let by : beside [] switches c.connect (pos n) ≡ get_or c.connect i [] =
        beside_first labels [] switches c.connect (pos n) i at connected.one_walk_each in
        let within : i < length c.to = (let w = at.within in omega (arith, connected.one_label_each)) in
        record {
          label = subst (IsLabel ts) (sym to) (connected.labels i within);
          walk =
              subst (λ (x : ℤ). IsWalk ts (triangles (triangle_of ts x)) (beside [] switches c.connect (pos n))
              (triangle_of ts (beside (pos 0) switches c.to (pos n)))) at.here
              (subst (λ (y : ℤ). IsWalk ts (triangles (triangle_of ts (letter_at switches i)))
              (beside [] switches c.connect (pos n)) (triangle_of ts y)) (sym to)
              (subst (λ (w : List ℤ). IsWalk ts (triangles (triangle_of ts (letter_at switches i))) w
              (triangle_of ts (letter_at c.to i))) (sym by) (connected.walks i within)));
        }

    pub reached : (x : ℤ) → IsSwitchLabel ts out x → IsReached x
    reached (pos n) is = reached_forwards n is
    reached (negsuc n) is =
        let on : IsReached (pos n) =
        reached_forwards n (record { label = is.label; switch = switch_forwards ts out (negsuc n) is.switch }) in
        record {
          label = labels.label ts (beside (pos 0) switches c.to (pos n)) on.label;
          walk =
              walks.reduced (triangles (triangle_of ts (negsuc n)))
              (triangle_of ts (inverse (beside (pos 0) switches c.to (pos n)))) _
              (walks.join (triangles (triangle_of ts (negsuc n))) (triangles (triangle_of ts (pos n)))
              (triangle_of ts (inverse (beside (pos 0) switches c.to (pos n)))) (f (negsuc n)) _
              (map.walks (negsuc n) is.label)
              (walks.join (triangles (triangle_of ts (pos n))) (triangle_of ts (beside (pos 0) switches c.to (pos n)))
              (triangle_of ts (inverse (beside (pos 0) switches c.to (pos n)))) (beside [] switches c.connect (pos n))
              (beside (pos 0) switches c.to (pos n) ∷ []) on.walk (on.label, refl, refl)));
        }

-- ---- the walk along the image of a branch, between where two carryings take its ends

module _ (labels : LabelLaws) (ts : List (List ℤ)) (walks : WalkLaws ts) (out : List ℤ) (f : ℤ → List ℤ)
    (triangles : ℕ → ℕ) (c d : Carrying) (map : IsMap ts ts f triangles) (here : AreConnected ts out triangles c)
    (there : AreConnected ts out triangles d) where
  abbrev listed : List ℤ
  listed = switches_of ts out

  pub walk_leads : WalkMapLaws → IsTriangulation ts → (b : List ℤ) → IsBranch ts out b
      → IsWalk ts (triangle_of ts (goes_to (switches_of ts out) c (letter_at b 0)))
      (walk_from_to (switches_of ts out) f c d b)
      (triangle_of ts (inverse (goes_to (switches_of ts out) d (final b))))
  walk_leads maps tri b is =
      walks.reduced begin end _
      (walks.join begin from end (inverse_word (connection f listed c (letter_at b 0))) _
      (walks.back from begin (connection f listed c (letter_at b 0)) first.walk)
      (walks.join from to end (flat_map f (but_last b)) _
      (maps.walks ts ts f triangles (triangle_of ts (letter_at b 0)) (triangle_of ts (final b)) (but_last b) tri map
      (front_walk ts out b is))
      (walks.join to (triangle_of ts (goes_to listed d (final b))) end (connection f listed d (final b))
      (goes_to listed d (final b) ∷ []) last.walk (last.label, refl, refl))))
    where
      begin : ℕ
      begin = triangle_of ts (goes_to listed c (letter_at b 0))

      end : ℕ
      end = triangle_of ts (inverse (goes_to listed d (final b)))

      from : ℕ
      from = triangles (triangle_of ts (letter_at b 0))

      to : ℕ
      to = triangles (triangle_of ts (final b))

      first : IsReached labels ts walks out f triangles c map here (letter_at b 0)
      first = reached labels ts walks out f triangles c map here (letter_at b 0) (first_switch ts out b is)

      last : IsReached labels ts walks out f triangles d map there (final b)
      last = reached labels ts walks out f triangles d map there (final b) (last_switch ts out b is)

-- the computed train path
pub path_walk : (labels : LabelLaws) (ts : List (List ℤ)) → WalkLaws ts → (out : List ℤ) (f : ℤ → List ℤ)
    (triangles : ℕ → ℕ) (c : Carrying) → IsMap ts ts f triangles → AreConnected ts out triangles c → WalkMapLaws
    → IsTriangulation ts → (b : List ℤ) → IsBranch ts out b
    → IsWalk ts (triangle_of ts (goes_to (switches_of ts out) c (letter_at b 0)))
    (train_path (switches_of ts out) f c b) (triangle_of ts (inverse (goes_to (switches_of ts out) c (final b))))
path_walk labels ts walks out f triangles c map connected =
    walk_leads labels ts walks out f triangles c c map connected connected
