-- The ends of a branch, and the walk before its last letter.
use Rattle.std.proofs.Common.{ℕ, ℤ, pos, List, [], ◌∷◌, ◌++◌, ◌≡◌, ◌-◌, refl, sym, ◌∙◌, ap, subst, arith}
use Rattle.std.proofs.Common.{length, suc, take}
use Rattle.std.specs.List.{Contains}
use Rattle.ideal_tri.specs.Labels.{edge_of, inverse}
use Rattle.ideal_tri.specs.Triangulations.{IsLabel, IsWalk, triangle_of}
use Rattle.ideal_tri.specs.Words.{but_last, last_of}
use Rattle.train_track.specs.Branches.{IsBranch, IsTrackOn, TrainTrack, letter_at}
use Rattle.train_track.specs.Tracks.{is_switch, switches_of}
use Rattle.carry_map.specs.CarriedMaps.{final}
use Rattle.cert_checker.proofs.SwitchLabels.{switch_listed}

-- ---- words with a last letter

pub taken_front : (w : List ℤ) → take (length w - 1) w ≡ but_last w
taken_front [] = refl
taken_front (x ∷ w) =
    ap (λ (n : ℕ). take n (x ∷ w)) (let one : suc (length w) - 1 ≡ length w = omega arith in one) ∙ taken x w
  where
    taken : (x : ℤ) (w : List ℤ) → take (length w) (x ∷ w) ≡ but_last (x ∷ w)
    taken x [] = refl
    taken x (y ∷ w) = ap (λ (u : List ℤ). x ∷ u) (taken y w)

pub last_of-ended : (x : ℤ) (u : List ℤ) (z : ℤ) → last_of x (u ++ (z ∷ [])) ≡ z
last_of-ended x [] z = refl
last_of-ended x (y ∷ u) z = last_of-ended y u z

but_last-ended : (x : ℤ) (u : List ℤ) (z : ℤ) → but_last (x ∷ (u ++ (z ∷ []))) ≡ x ∷ u
but_last-ended x [] z = refl
but_last-ended x (y ∷ u) z = ap (λ (w : List ℤ). x ∷ w) (but_last-ended y u z)

-- a walk without its last letter
before_end : (ts : List (List ℤ)) (s t : ℕ) (u : List ℤ) (z : ℤ) → IsWalk ts s (u ++ (z ∷ [])) t
    → IsWalk ts s u (triangle_of ts z) × IsLabel ts z
before_end ts s t [] z walk = (sym walk.1, walk.0)
before_end ts s t (x ∷ u) z walk =
    let rest = before_end ts (triangle_of ts (inverse x)) t u z walk.2 in
    ((walk.0, walk.1, rest.0), rest.1)

-- ---- branches

module _ (ts : List (List ℤ)) (out b : List ℤ) (is : IsBranch ts out b) where
  first_is : letter_at b 0 ≡ is.first
  first_is = ap (λ (w : List ℤ). letter_at w 0) is.letters

  last_is : final b ≡ is.last
  last_is = ap final is.letters ∙ last_of-ended is.first is.between is.last

  front_is : but_last b ≡ is.first ∷ is.between
  front_is = ap but_last is.letters ∙ but_last-ended is.first is.between is.last

  parts : IsWalk ts (triangle_of ts is.first) (is.first ∷ is.between) (triangle_of ts is.last) × IsLabel ts is.last
  parts =
      before_end ts (triangle_of ts is.first) (triangle_of ts (inverse is.last)) (is.first ∷ is.between) is.last
      (subst (λ (w : List ℤ). IsWalk ts (triangle_of ts is.first) w (triangle_of ts (inverse is.last))) is.letters
      is.walk)

  pub front_walk : (t : ℕ) × IsWalk ts (triangle_of ts (letter_at (but_last b) 0)) (but_last b) t
  front_walk = (
    triangle_of ts is.last,
    subst (λ (w : List ℤ). IsWalk ts (triangle_of ts (letter_at w 0)) w (triangle_of ts is.last)) (sym front_is)
        parts.0,
  )

  pub first_label : IsLabel ts (letter_at b 0)
  first_label = subst (IsLabel ts) (sym first_is) parts.0.0

  pub last_label : IsLabel ts (final b)
  last_label = subst (IsLabel ts) (sym last_is) parts.1

  pub first_listed : Contains (switches_of ts out) (pos (edge_of (letter_at b 0)))
  first_listed =
      switch_listed ts out (letter_at b 0) first_label
      (ap (is_switch ts out) first_is ∙ is.begins)

  pub last_listed : Contains (switches_of ts out) (pos (edge_of (final b)))
  last_listed = switch_listed ts out (final b) last_label (ap (is_switch ts out) last_is ∙ is.ends)

-- the ends, among the switches that a track keeps
module _ (ts : List (List ℤ)) (track : TrainTrack) (b : List ℤ) (y : ℤ) (on : IsTrackOn ts track)
    (is : IsBranch ts track.left_out b) where
  pub listed_first : y ≡ letter_at b 0 → Contains track.switches (pos (edge_of y))
  listed_first e =
      subst (λ (xs : List ℤ). Contains xs (pos (edge_of y))) (sym on.switches)
      (subst (λ (x : ℤ). Contains (switches_of ts track.left_out) (pos (edge_of x))) (sym e)
      (first_listed ts track.left_out b is))

  pub listed_last : y ≡ final b → Contains track.switches (pos (edge_of y))
  listed_last e =
      subst (λ (xs : List ℤ). Contains xs (pos (edge_of y))) (sym on.switches)
      (subst (λ (x : ℤ). Contains (switches_of ts track.left_out) (pos (edge_of x))) (sym e)
      (last_listed ts track.left_out b is))
