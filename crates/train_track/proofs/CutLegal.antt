-- A legal walk from a switch to a switch is cut into branches.
--
-- After a switch comes a switch, which ends a branch of two letters, or a letter that is none; then, of the next two
-- neighbours, the last one is a switch, and it ends a branch of three letters. The branch or its inverse is listed, and
-- the first two letters of a pass settle it.
use Rattle.std.proofs.Common.{ℕ, zero, suc, ℤ, Bool, true, false, List, [], ◌∷◌, ◌≡◌, ◌<◌, ◌≤◌, inl}
use Rattle.std.proofs.Common.{inr, refl, sym, ◌∙◌, ap, subst, arith, length, get_or, if◌then◌else◌}
use Rattle.std.specs.List.{All}
use Rattle.std.proofs.lemmas.Bool.{cases_Bool}
use Rattle.std.proofs.lemmas.List.{get_or_default}
use Rattle.std.proofs.lemmas.List.Elements.{All-head, All-tail}
use Rattle.ideal_tri.specs.Words.{inverse_word, last_of}
use Rattle.ideal_tri.specs.LabelLaws.{LabelLaws}
use Rattle.ideal_tri.specs.SurfaceLaws.{TriangleLaws}
use Rattle.ideal_tri.specs.Triangulations.{IsLabel}
use Rattle.free_groupoid.specs.Walks.{DualWalk}
use Rattle.train_track.specs.Tracks.{IsLegal, is_switch, IsSingleInTriangles}
use Rattle.train_track.specs.Branches.{IsBranch, IsBranchList, TrainTrack, words_of}
use Rattle.train_track.specs.Passes.{Pass, letters_of, AreGlued, CanBeCut}
use Rattle.train_track.specs.inside.Passing.{CanBeCutInto}
use Rattle.train_track.proofs.Turns.{IsTurn, turn, one_is_switch}
use Rattle.train_track.proofs.Grown.{two_letters, three_letters, begun, grown_cases, Begun, settled, inverse_branch}
use Rattle.train_track.proofs.Grown.{inverse_twice}
use Rattle.train_track.proofs.Listed.{one_listed}
use Rattle.train_track.proofs.LegalWalks.{walk_labels}

module _ (ts : List (List ℤ)) (out : List ℤ) (labels : LabelLaws) (triangles : TriangleLaws ts)
    (single : IsSingleInTriangles ts out)
    (bs : List (List ℤ)) (list : IsBranchList ts out bs) where
  -- each branch is that of a pass
  pub pass_of : (b : List ℤ) → IsBranch ts out b → (p : Pass) × (p.branch < length bs) × (letters_of bs p ≡ b)
  pass_of b h = elim (one_listed ts out labels triangles single bs list b h) [
    | inl (k, within, is) ↦ (record { branch = k; forwards = true }, within, get_or_default bs k [] b within ∙ is)
    | inr (k, within, is) ↦ (
      record { branch = k; forwards = false },
      within,
      ap inverse_word (get_or_default bs k [] (inverse_word b) within ∙ is)
          ∙ inverse_twice ts out labels triangles single b h,
    )
  ]

  pub cut : (n : ℕ) (x : ℤ) (w : List ℤ) → length w ≤ n → All (IsLabel ts) (x ∷ w) → is_switch ts out x ≡ true
      → IsLegal ts out (x ∷ w)
      → is_switch ts out (last_of x w) ≡ true → (ps : List Pass) × AreGlued bs x ps w
  cut n x [] few are s legal e = ([], refl)
  cut zero x (y ∷ w) few are s legal e = absurd (omega arith)
  cut (suc n) x (y ∷ []) few are s legal e =
      let l : IsLabel ts x = All-head (IsLabel ts) x (y ∷ []) are in
      let m : IsLabel ts y = All-head (IsLabel ts) y [] (All-tail (IsLabel ts) x (y ∷ []) are) in
      let (p, within, is) =
      pass_of (x ∷ (y ∷ []))
      (two_letters ts out labels triangles x y l s (turn ts out labels triangles x y m legal.0) e) in
      (p ∷ [], (y ∷ [], [], within, is, refl, refl))
  cut (suc n) x (y ∷ (z ∷ w)) few are s legal e =
      let l : IsLabel ts x = All-head (IsLabel ts) x (y ∷ (z ∷ w)) are in
      let rest : All (IsLabel ts) (y ∷ (z ∷ w)) = All-tail (IsLabel ts) x (y ∷ (z ∷ w)) are in
      let m : IsLabel ts y = All-head (IsLabel ts) y (z ∷ w) rest in
      let rest' : All (IsLabel ts) (z ∷ w) = All-tail (IsLabel ts) y (z ∷ w) rest in
      let o : IsLabel ts z = All-head (IsLabel ts) z w rest' in
      let h : IsTurn ts out x y = turn ts out labels triangles x y m legal.0 in
      let g : IsTurn ts out y z = turn ts out labels triangles y z o legal.1.0 in
      elim (cases_Bool (is_switch ts out y)) [
        | inl t ↦
            (let (p, within, is) = pass_of (x ∷ (y ∷ [])) (two_letters ts out labels triangles x y l s h t) in
            let (ps, glued) = cut n y (z ∷ w) (omega arith) rest t legal.1 e in
            (p ∷ ps, (y ∷ [], z ∷ w, within, is, refl, glued)))
        | inr plain ↦
            (let t : is_switch ts out z ≡ true = one_is_switch ts out labels triangles single y z m g plain in
            let (p, within, is) =
            pass_of (x ∷ (y ∷ (z ∷ []))) (three_letters ts out labels triangles x y z l s h plain g t) in
            let (ps, glued) = cut n z w (omega arith) rest' t legal.1.1 e in
            (p ∷ ps, (y ∷ (z ∷ []), w, within, is, refl, glued)))
      ]

  -- the letters of a pass are a branch
  pub pass_branch : (p : Pass) → p.branch < length bs → IsBranch ts out (letters_of bs p)
  pass_branch p within = go p.forwards
    where
      go : (b : Bool) → IsBranch ts out (if b then get_or bs p.branch [] else inverse_word (get_or bs p.branch []))
      go true = list.branch p.branch [] within
      go false = inverse_branch ts out labels triangles single (get_or bs p.branch []) (list.branch p.branch [] within)

  pub long_branch : (b : List ℤ) → IsBranch ts out b → 2 ≤ length b
  long_branch b h =
      let g : Begun ts out b = begun ts out labels triangles single b h in
      subst (λ (w : List ℤ). 2 ≤ length w) (sym g.is)
      (grown_cases ts out g.first g.second (λ w. 2 ≤ length w) (λ e. omega arith) (λ e. omega arith))

  can_be_cut : (x y : ℤ) (w : List ℤ) → All (IsLabel ts) (x ∷ (y ∷ w)) → is_switch ts out x ≡ true
      → IsLegal ts out (x ∷ (y ∷ w))
      → is_switch ts out (last_of y w) ≡ true → CanBeCutInto bs (x ∷ (y ∷ w))
  can_be_cut x y w are s legal e =
      let (ps, glued) = cut (length (y ∷ w)) x (y ∷ w) (omega arith) are s legal e in
      record {
        some = omega arith;
        long = λ k d within. long_branch (get_or bs k d) (list.branch k d within);
        settled = λ p q u v within inside h g.
            settled ts out labels triangles single (letters_of bs p) (letters_of bs q) (pass_branch p within)
            (pass_branch q inside)
            (h.first ∙ sym g.first) (h.second ∙ sym g.second);
        passes = ps;
        cut = glued;
      }

pub walk_can_be_cut : LabelLaws → (track : TrainTrack) (w : DualWalk) (h : CanBeCut track w) → TriangleLaws h.triples
    → CanBeCutInto (words_of track.branches) w.letters
walk_can_be_cut labels track w h triangles =
    let k = h.walk in
    subst (CanBeCutInto (words_of track.branches)) (sym k.letters)
    (can_be_cut h.triples track.left_out labels triangles h.on.filling.single (words_of track.branches) h.on.branches
    k.first k.second k.rest
    (subst (All (IsLabel h.triples)) k.letters (walk_labels h.triples w.start w.letters k.walk.end k.walk.leads))
    k.begins
    (subst (IsLegal h.triples track.left_out) k.letters k.legal) k.ends)
