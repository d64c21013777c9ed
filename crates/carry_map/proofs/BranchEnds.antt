-- The first and the last letter of a branch, and the walk before its last letter.
use Rattle.std.proofs.Common.{ℕ, suc, ℤ, pos, List, [], ◌∷◌, ◌≡◌, ◌≢◌, ◌-◌, refl, sym, ◌∙◌, ap, subst, arith}
use Rattle.std.proofs.Common.{length, take}
use Rattle.std.specs.List.{Contains}
use Rattle.ideal_tri.specs.Labels.{edge_of}
use Rattle.ideal_tri.specs.Words.{but_last}
use Rattle.ideal_tri.specs.Triangulations.{IsWalk, triangle_of}
use Rattle.train_track.specs.Branches.{TrainTrack, IsBranch, IsTrackOn, letter_at}
use Rattle.carry_map.specs.CarriedMaps.{final}
use Rattle.carry_map.specs.inside.Switches.{IsSwitchLabel, IsSwitchOf, IsFrontOf}
use Rattle.carry_map.proofs.SwitchPlaces.{switch_listed}
use Rattle.carry_map.proofs.SwitchWalks.{branch_first, branch_front, front_walk, first_switch, last_switch}

listed : (ts : List (List ℤ)) (track : TrainTrack) (x : ℤ) → IsTrackOn ts track → IsSwitchLabel ts track.left_out x
    → Contains track.switches (pos (edge_of x))
listed ts track x on is =
    subst (λ (xs : List ℤ). Contains xs (pos (edge_of x))) (sym on.switches)
    (switch_listed ts track.left_out x is.label is.switch)

pub first_of_branch : (b : List ℤ) (x : ℤ) → x ≡ letter_at b 0 → IsSwitchOf b x
first_of_branch b x e = record {
  switch = λ ts out is. subst (IsSwitchLabel ts out) (sym e) (first_switch ts out b is);
  listed = λ ts track on is. listed ts track x on
      (subst (IsSwitchLabel ts track.left_out) (sym e) (first_switch ts track.left_out b is));
}

pub last_of_branch : (b : List ℤ) (x : ℤ) → x ≡ final b → IsSwitchOf b x
last_of_branch b x e = record {
  switch = λ ts out is. subst (IsSwitchLabel ts out) (sym e) (last_switch ts out b is);
  listed = λ ts track on is. listed ts track x on
      (subst (IsSwitchLabel ts track.left_out) (sym e) (last_switch ts track.left_out b is));
}

pub front_of_branch : (b w : List ℤ) → w ≡ but_last b → IsFrontOf b w
front_of_branch b w e = record {
  some = λ ts out is empty. some ts out is empty;
  walk = λ ts out is. (
    triangle_of ts (final b),
    subst (λ (u : List ℤ). IsWalk ts (triangle_of ts (letter_at u 0)) u (triangle_of ts (final b))) (sym e)
        (subst (λ (x : ℤ). IsWalk ts (triangle_of ts x) (but_last b) (triangle_of ts (final b)))
        (branch_first ts out b is ∙ sym (ap (λ (u : List ℤ). letter_at u 0) (branch_front ts out b is)))
        (front_walk ts out b is)),
  );
}
  where
    some : (ts : List (List ℤ)) (out : List ℤ) → IsBranch ts out b → w ≢ []
    some ts out is empty =
        let same : length (is.first ∷ is.between) ≡ 0 =
        ap length (sym (branch_front ts out b is) ∙ sym e ∙ empty) in
        omega arith

pub taken_front : (w : List ℤ) → take (length w - 1) w ≡ but_last w
taken_front [] = refl
taken_front (x ∷ w) =
    ap (λ (n : ℕ). take n (x ∷ w)) (let one : suc (length w) - 1 ≡ length w = omega arith in one) ∙ taken x w
  where
    taken : (x : ℤ) (w : List ℤ) → take (length w) (x ∷ w) ≡ but_last (x ∷ w)
    taken x [] = refl
    taken x (y ∷ w) = ap (λ (u : List ℤ). x ∷ u) (taken y w)
