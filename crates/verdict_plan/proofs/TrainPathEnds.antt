-- The train paths of a carried track run from switches to switches, so that they can be cut into branches.
--
-- A train path begins and ends with the letters that the ends of its branch go to. The ends of a branch are labels of
-- switches. The label of a switch that isn't negative is listed, and beside it stands the label of a switch; its
-- inverse goes to the inverse of that, which is a label of the same edge.
use Rattle.std.proofs.Common.{◌≡◌, ◌<◌, ◌≤◌, ◌++◌, ℕ, zero, suc, ℤ, pos, negsuc, Bool, true, false, List, [], inl, inr}
use Rattle.std.proofs.Common.{◌∷◌, length, map, refl, sym, ◌∙◌, ap, subst, arith, get_or, if◌then◌else◌}
use Rattle.std.specs.List.{Contains, filter, range_with_len}
use Rattle.std.proofs.Math.Bool.{or_comm}
use Rattle.std.proofs.lemmas.Bool.{cases_Bool, cond-true, cond-false}
use Rattle.std.proofs.lemmas.List.{get_or-map, length-map}
use Rattle.std.proofs.lemmas.List.FromFn.{get_or-map-range_with_len, length-map-range_with_len}
use Rattle.ideal_tri.specs.Labels.{inverse}
use Rattle.ideal_tri.specs.LabelLaws.{LabelLaws}
use Rattle.ideal_tri.specs.Triangulations.{IsLabel, IsTriangulation, IsWalk, edge_count, triangle_of}
use Rattle.ideal_tri.specs.Words.{last_of}
use Rattle.tri_atlas.specs.Maps.{path_map}
use Rattle.tri_atlas.specs.Moves.{Move}
use Rattle.free_groupoid.specs.Walks.{DualWalk, IsWalkOn}
use Rattle.train_track.specs.Branches.{TrainTrack, IsBranch, letter_at, words_of}
use Rattle.train_track.specs.Passes.{IsFromSwitchToSwitch}
use Rattle.train_track.specs.Tracks.{is_fork, is_switch, switches_of}
use Rattle.carry_map.specs.CarriedMaps.{Carrying, IsTrainPath, beside, final, goes_to}
use Rattle.carry_map.specs.CarryingWalks.{CarryingWalks, carrying_of}
use Rattle.verdict_plan.specs.declared.series.Series.{Series}
use Rattle.verdict_plan.specs.inside.Trials.{CanBeCounted, IsCarriedAlong}

-- ---- the ends of a branch

-- the label of a switch
record IsSwitchLabel (ts : List (List ℤ)) (out : List ℤ) (x : ℤ) : Type 0 where
  label : IsLabel ts x
  switch : is_switch ts out x ≡ true

-- a walk that ends across a switch has its label last
last_label : (ts : List (List ℤ)) (out : List ℤ) (s t : ℕ) (x : ℤ) (w : List ℤ) (z : ℤ) → is_switch ts out z ≡ true
    → IsWalk ts s (x ∷ (w ++ (z ∷ []))) t → IsSwitchLabel ts out (last_of x (w ++ (z ∷ [])))
last_label ts out s t x [] z switch walk = record { label = walk.2.0; switch = switch }
last_label ts out s t x (y ∷ w) z switch walk =
    last_label ts out (triangle_of ts (inverse x)) t y w z switch walk.2

module _ (ts : List (List ℤ)) (out : List ℤ) (b : List ℤ) (is : IsBranch ts out b) where
  walk_is : IsWalk ts (triangle_of ts is.first) ((is.first ∷ is.between) ++ (is.last ∷ []))
      (triangle_of ts (inverse is.last))
  walk_is =
      subst (λ (w : List ℤ). IsWalk ts (triangle_of ts is.first) w (triangle_of ts (inverse is.last))) is.letters
      is.walk

  begins_at : IsSwitchLabel ts out (letter_at b 0)
  begins_at =
      subst (IsSwitchLabel ts out) (sym (ap (λ (w : List ℤ). letter_at w 0) is.letters))
      (record { label = walk_is.0; switch = is.begins })

  ends_at : IsSwitchLabel ts out (final b)
  ends_at =
      subst (IsSwitchLabel ts out) (sym (ap final is.letters))
      (last_label ts out (triangle_of ts is.first) (triangle_of ts (inverse is.last)) is.first is.between is.last is.ends
      walk_is)

-- ---- where the label of a switch goes

switch_inverse : (ts : List (List ℤ)) (out : List ℤ) (x : ℤ) → is_switch ts out (inverse x) ≡ is_switch ts out x
unfolding is_switch
switch_inverse ts out (pos n) = or_comm (is_fork ts out (negsuc n)) (is_fork ts out (pos n))
switch_inverse ts out (negsuc n) = or_comm (is_fork ts out (pos n)) (is_fork ts out (negsuc n))

kept : (p : ℤ → Bool) (xs : List ℤ) (x : ℤ) → Contains xs x → p x ≡ true → Contains (filter p xs) x
kept p [] x (k, less, e) h = absurd (omega arith)
kept p (y ∷ xs) x (zero, less, e) h =
    subst (λ (ys : List ℤ). Contains ys x) (sym (cond-true (p y) (y ∷ filter p xs) (filter p xs) (ap p e ∙ h)))
    (zero, omega arith, e)
kept p (y ∷ xs) x (suc k, less, e) h =
    let (i, within, is) = kept p xs x (k, omega arith, e) h in
    elim (cases_Bool (p y)) [
      | inl so ↦
          subst (λ (ys : List ℤ). Contains ys x) (sym (cond-true (p y) (y ∷ filter p xs) (filter p xs) so))
          (suc i, omega arith, is)
      | inr not_so ↦
          subst (λ (ys : List ℤ). Contains ys x) (sym (cond-false (p y) (y ∷ filter p xs) (filter p xs) not_so))
          (i, within, is)
    ]

listed : (ts : List (List ℤ)) (out : List ℤ) (n : ℕ) → n < edge_count ts → is_switch ts out (pos n) ≡ true
    → Contains (switches_of ts out) (pos n)
listed ts out n below h =
    let long : length (map pos (range_with_len 0 (edge_count ts))) ≡ edge_count ts =
    length-map-range_with_len pos 0 (edge_count ts) in
    kept (is_switch ts out) (map pos (range_with_len 0 (edge_count ts))) (pos n)
    (n, omega (arith, long), get_or-map-range_with_len pos 0 (edge_count ts) n n (pos n) below (omega arith)) h

module _ (labels : LabelLaws) (P : ℤ → Type 0) where
  beside_one : (xs ys : List ℤ) (x : ℤ) → Contains xs x → length ys ≡ length xs
      → ((i : ℕ) → i < length ys → P (letter_at ys i)) → P (beside (pos 0) xs ys x)
  beside_one [] ys x (k, less, e) as_many h = absurd (omega arith)
  beside_one (s ∷ xs) [] x in_it as_many h = absurd (omega (arith, as_many))
  beside_one (s ∷ xs) (y ∷ ys) x in_it as_many h =
      elim (labels.same_or_not s x) [
        | inl same ↦
            subst (λ (b : Bool). P (if b then y else beside (pos 0) xs ys x)) (sym (labels.test_same s x same))
            (h 0 (omega arith))
        | inr other ↦
            subst (λ (b : Bool). P (if b then y else beside (pos 0) xs ys x)) (sym (labels.test_other s x other))
            (beside_one xs ys x (further in_it other) (omega (arith, as_many)) (λ i below. h (suc i) (omega arith)))
      ]
    where
      further : Contains (s ∷ xs) x → ¬ (s ≡ x) → Contains xs x
      further (zero, less, e) other = absurd (other e)
      further (suc k, less, e) other = (k, omega arith, e)

module _ (labels : LabelLaws) (ts : List (List ℤ)) (out : List ℤ) (c : Carrying)
    (as_many : length c.to ≡ length (switches_of ts out))
    (are : (i : ℕ) → i < length c.to → is_switch ts out (letter_at c.to i) ≡ true) where
  goes_forwards : (n : ℕ) → IsSwitchLabel ts out (pos n)
      → is_switch ts out (goes_to (switches_of ts out) c (pos n)) ≡ true
  goes_forwards n h =
      beside_one labels (λ (x : ℤ). is_switch ts out x ≡ true) (switches_of ts out) c.to (pos n)
      (listed ts out n h.label h.switch) as_many are

  goes_to_switch : (x : ℤ) → IsSwitchLabel ts out x → is_switch ts out (goes_to (switches_of ts out) c x) ≡ true
  goes_to_switch (pos n) h = goes_forwards n h
  goes_to_switch (negsuc n) h =
      switch_inverse ts out (beside (pos 0) (switches_of ts out) c.to (pos n))
      ∙ goes_forwards n
      (record { label = h.label; switch = sym (switch_inverse ts out (pos n)) ∙ h.switch })

-- ---- train paths

record HasSwitchEnds (ts : List (List ℤ)) (out : List ℤ) (w : List ℤ) : Type 0 where
  first : ℤ
  second : ℤ
  rest : List ℤ
  letters : w ≡ first ∷ (second ∷ rest)
  begins : is_switch ts out first ≡ true
  ends : is_switch ts out (last_of second rest) ≡ true

has_ends : (ts : List (List ℤ)) (out w : List ℤ) → 2 ≤ length w → is_switch ts out (letter_at w 0) ≡ true
    → is_switch ts out (final w) ≡ true → HasSwitchEnds ts out w
has_ends ts out [] long begins ends = absurd (omega arith)
has_ends ts out (x ∷ []) long begins ends = absurd (omega arith)
has_ends ts out (x ∷ (y ∷ w)) long begins ends =
    record { first = x; second = y; rest = w; letters = refl; begins = begins; ends = ends }

module _ (labels : LabelLaws) (series : Series) (ts : List (List ℤ)) (path : List Move) (track : TrainTrack)
    (c : CarryingWalks) (h : IsCarriedAlong series ts path track c) where
  one_each : length c.images ≡ length track.branches
  one_each =
      sym (length-map c.images (λ (w : DualWalk). w.letters)) ∙ h.carried.one_path_each
      ∙ length-map track.branches (λ (w : DualWalk). w.letters)

  from_switch : (f : ℤ → List ℤ) (b : List ℤ) (w : DualWalk) → IsBranch ts track.left_out b → IsWalkOn ts w
      → IsTrainPath ts track.left_out f (carrying_of c) b w.letters → IsFromSwitchToSwitch ts track.left_out w
  from_switch f b w branch on t =
      let to_switch = goes_to_switch labels ts track.left_out (carrying_of c) h.carried.one_label_each
      h.carried.switches in
      let ends = has_ends ts track.left_out w.letters t.long
      (ap (is_switch ts track.left_out) t.begins ∙ to_switch (letter_at b 0) (begins_at ts track.left_out b branch))
      (ap (is_switch ts track.left_out) t.ends ∙ to_switch (final b) (ends_at ts track.left_out b branch)) in record {
        walk = on;
        legal = t.legal;
        first = ends.first;
        second = ends.second;
        rest = ends.rest;
        letters = ends.letters;
        begins = ends.begins;
        ends = ends.ends;
      }

  pub can_be_counted : IsTriangulation ts → CanBeCounted track c
  can_be_counted sound = record {
    triples = ts;
    sound = sound;
    on = h.on;
    one_each = one_each;
    paths = λ j d below.
        let long : length (words_of track.branches) ≡ length track.branches =
        length-map track.branches (λ (w : DualWalk). w.letters) in
        let within : j < length (words_of track.branches) = omega (arith, one_each, long) in
        from_switch (path_map path) (get_or (words_of track.branches) j []) (get_or c.images j d)
        (h.on.branches.branch j [] within) (h.walks j d below)
        (subst (λ (u : List ℤ). IsTrainPath ts track.left_out (path_map path) (carrying_of c)
        (get_or (words_of track.branches) j []) u)
        (get_or-map (λ (w : DualWalk). w.letters) c.images j d [] below) (h.carried.paths j within));
    few = h.few_along;
  }
