-- The laws of tracks, from the lemmas on turns, branches and passes.
use Rattle.std.proofs.Common.{ℕ, ℤ, pos, false, List, [], ◌∷◌, ◌++◌, ◌≡◌, ◌≢◌, ◌<◌, ◌⊎◌}
use Rattle.std.proofs.Common.{inl, inr, refl, sym, ◌∙◌, ap, subst, arith, length, get_or, append_assoc}
use Rattle.std.specs.List.{All}
use Rattle.std.proofs.lemmas.Bool.{cases_Bool, false_from_ne_true}
use Rattle.ideal_tri.specs.Labels.{inverse}
use Rattle.ideal_tri.specs.Words.{last_of}
use Rattle.ideal_tri.specs.LabelLaws.{LabelLaws}
use Rattle.ideal_tri.specs.SurfaceLaws.{SurfaceLaws, TriangleLaws}
use Rattle.ideal_tri.specs.Triangulations.{IsTriangulation, IsLabel, triangle_of}
use Rattle.train_track.specs.Tracks.{IsSingleInTriangles, IsLegal, IsLegalPair, is_switch}
use Rattle.train_track.specs.Branches.{IsBranchList}
use Rattle.train_track.specs.Passes.{Pass, AreGlued, ArePassesOf}
use Rattle.train_track.specs.TrackLaws.{TurnLaws, BranchLaws, ListLaws, TrackLaws}
use Rattle.train_track.specs.inside.Growing.{continuation, grow}
use Rattle.train_track.proofs.Turns.{IsTurn, turn, turn_label, legal_inverse, continues, only_continuation}
use Rattle.train_track.proofs.Turns.{one_is_switch, fork_in_triangle}
use Rattle.train_track.proofs.Grown.{Begun, begun, grown, grown_cases, grow-first, settled, inverse_branch, legal_turn}
use Rattle.train_track.proofs.Grown.{turn_apart}
use Rattle.train_track.proofs.Listed.{one_listed, not_two_listed}
use Rattle.train_track.proofs.CutLegal.{pass_of, cut}
use Rattle.train_track.proofs.LegalWalks.{walk_labels}
use Rattle.train_track.proofs.SettledPasses.{only_passes}

-- passes glued to the front part, and to the rest from its last letter on
glued_joined : (bs : List (List ℤ)) (x : ℤ) (first second : List Pass) (u v : List ℤ) → AreGlued bs x first u
    → AreGlued bs (last_of x u) second v → AreGlued bs x (first ++ second) (u ++ v)
glued_joined bs x [] second u v h k =
    subst (λ (w : List ℤ). AreGlued bs x second (w ++ v)) (sym h)
    (subst (λ (w : List ℤ). AreGlued bs (last_of x w) second v) h k)
glued_joined bs x (p ∷ first) second u v (a, b, within, is, split, rest) k = (
  a,
  b ++ v,
  within,
  is,
  ap (λ (w : List ℤ). w ++ v) split ∙ append_assoc a b v,
  glued_joined bs (last_of x a) first second b v rest
      (subst (λ (y : ℤ). AreGlued bs y second v) (ap (last_of x) split ∙ last_joined x a b) k),
)
  where
    last_joined : (x : ℤ) (a b : List ℤ) → last_of x (a ++ b) ≡ last_of (last_of x a) b
    last_joined x [] b = refl
    last_joined x (y ∷ a) b = last_joined y a b

module _ (labels : LabelLaws) (surface : SurfaceLaws) (ts : List (List ℤ)) (out : List ℤ) (sound : IsTriangulation ts)
    (single : IsSingleInTriangles ts out) where
  laws_of : TriangleLaws ts
  laws_of = surface.triangles ts sound

  side_in : (t : ℕ) → t < length ts → (x : ℤ) × IsLabel ts x × (triangle_of ts x ≡ t)
  side_in t within =
      let triple : List ℤ = get_or ts t [] in
      let three : length triple ≡ 3 = sound.three_sides t [] within in
      let (l, at) = laws_of.listed t (get_or triple 0 (pos 0)) within (first_of_three triple three) in
      (get_or triple 0 (pos 0), l, at)
    where
      first_of_three : (triple : List ℤ) → length triple ≡ 3
          → (k : ℕ) × (k < length triple) × (get_or triple k (get_or triple 0 (pos 0)) ≡ get_or triple 0 (pos 0))
      first_of_three [] e = absurd (omega arith)
      first_of_three (x ∷ xs) e = (0, omega arith, refl)

  pub turn_laws : TurnLaws ts out
  turn_laws = record {
    apart = λ u v l h. not_back u v l h;
    back = legal_inverse labels ts out;
    continues = λ u l.
        (let h : IsTurn ts out u (continuation ts out u) = continues ts out labels laws_of single u l in (
          continuation ts out u,
          turn_label ts out labels laws_of u (continuation ts out u) l h,
          legal_turn ts out labels laws_of u (continuation ts out u) l h,
        ));
    only = λ u v v' l m m' other h h'.
        (let plain : is_switch ts out u ≡ false = false_from_ne_true _ other in
        only_continuation ts out labels laws_of single u v l plain (turn ts out labels laws_of u v m h)
        ∙ sym (only_continuation ts out labels laws_of single u v' l plain (turn ts out labels laws_of u v' m' h')));
    switch = λ u v l m h. elim (cases_Bool (is_switch ts out u)) [
      | inl e ↦ inl e
      | inr e ↦ inr (one_is_switch ts out labels laws_of single u v l (turn ts out labels laws_of u v m h) e)
    ];
    in_triangle = λ t within.
        (let (x, l, at) = side_in t within in
        let (y, m, there, fork) = fork_in_triangle ts out labels laws_of single x l in
        (y, m, there ∙ at, fork));
  }
    where
      not_back : (u v : ℤ) → IsLabel ts u → IsLegalPair ts out u v → v ≢ inverse u
      not_back u v l h e =
          let m : IsLabel ts v = subst (IsLabel ts) (sym e) (labels.label ts u l) in
          turn_apart ts out labels laws_of single u v l (turn ts out labels laws_of u v m h) e

  pub branch_laws : BranchLaws ts out
  branch_laws = record {
    lengths = λ b h.
        (let g : Begun ts out b = begun ts out labels laws_of single b h in
        subst (λ (w : List ℤ). (length w ≡ 2) ⊎ (length w ≡ 3)) (sym g.is)
        (grown_cases ts out g.first g.second (λ w. (length w ≡ 2) ⊎ (length w ≡ 3)) (λ e. inl refl) (λ e. inr refl)));
    settled = settled ts out labels laws_of single;
    back = inverse_branch ts out labels laws_of single;
    begins = λ x l s. (
      grow ts out x (continuation ts out x),
      grown ts out labels laws_of single x (continuation ts out x) l s (continues ts out labels laws_of single x l),
      grow-first ts out x (continuation ts out x),
    );
  }

  pub list_laws : (bs : List (List ℤ)) → IsBranchList ts out bs → ListLaws ts out bs
  list_laws bs list = record {
    one = one_listed ts out labels laws_of single bs list;
    not_both = not_two_listed ts out labels laws_of single bs list;
    pass = pass_of ts out labels laws_of single bs list;
    passes = λ w h.
        subst (λ (z : List ℤ). (ps : List Pass) × ArePassesOf bs ps z) (sym h.letters)
        (cut ts out labels laws_of single bs list (length (h.second ∷ h.rest)) h.first (h.second ∷ h.rest) (omega arith)
        (subst (All (IsLabel ts)) h.letters (walk_labels ts w.start w.letters h.walk.end h.walk.leads)) h.begins
        (subst (IsLegal ts out) h.letters h.legal) h.ends);
    only = only_passes ts out labels laws_of single bs list;
    join = glued_joined bs;
  }

pub track_laws : LabelLaws → SurfaceLaws → TrackLaws
track_laws labels surface = record {
  turns = turn_laws labels surface;
  branches = branch_laws labels surface;
  lists = λ ts out bs sound single. list_laws labels surface ts out sound single bs;
}
