-- The passes of a walk are settled by the walk.
--
-- The first two letters settle a branch, and of a branch and its inverse just one is listed, once; so the first pass is
-- settled by the walk, and after it the next, to the end.
use Rattle.std.proofs.Common.{ℕ, ℤ, pos, Bool, true, false, List, [], ◌∷◌, ◌++◌, ◌≡◌, ◌<◌, inl, inr}
use Rattle.std.proofs.Common.{refl, sym, ◌∙◌, ap, subst, arith, length, length-append, get_or}
use Rattle.std.specs.List.{Contains}
use Rattle.std.proofs.lemmas.Bool.{true≢false, cases_order}
use Rattle.std.proofs.lemmas.List.{append_cancel_left, get_or_append_left}
use Rattle.std.proofs.lemmas.List.Elements.{Contains-get_or}
use Rattle.ideal_tri.specs.Words.{inverse_word, last_of}
use Rattle.ideal_tri.specs.LabelLaws.{LabelLaws}
use Rattle.ideal_tri.specs.SurfaceLaws.{TriangleLaws}
use Rattle.train_track.specs.Tracks.{IsSingleInTriangles}
use Rattle.train_track.specs.Branches.{IsBranch, IsBranchList, letter_at, is_before}
use Rattle.train_track.specs.Passes.{Pass, letters_of, AreGlued}
use Rattle.train_track.proofs.InOrder.{not_both}
use Rattle.train_track.proofs.Grown.{settled, inverse_twice}
use Rattle.train_track.proofs.Listed.{not_two_listed}
use Rattle.train_track.proofs.CutLegal.{pass_branch, long_branch}

abbrev pass : ℕ → Bool → Pass
pass n b = record { branch = n; forwards = b }

module _ (ts : List (List ℤ)) (out : List ℤ) (labels : LabelLaws) (triangles : TriangleLaws ts)
    (single : IsSingleInTriangles ts out)
    (bs : List (List ℤ)) (list : IsBranchList ts out bs) where
  -- ---- one pass

  -- the branches are listed in order, so none twice
  one_place : (i j : ℕ) → i < length bs → j < length bs → get_or bs i [] ≡ get_or bs j [] → i ≡ j
  one_place i j within inside e = elim (cases_order i j) [
    | inl same ↦ same
    | inr (inl less) ↦ absurd (not_before_itself (get_or bs j [])
        (subst (λ (b : List ℤ). is_before b (get_or bs j []) ≡ true) e (list.order i j [] less inside)))
    | inr (inr less) ↦ absurd (not_before_itself (get_or bs i [])
        (subst (λ (b : List ℤ). is_before b (get_or bs i []) ≡ true) (sym e) (list.order j i [] less within)))
  ]
    where
      not_before_itself : (b : List ℤ) → is_before b b ≡ true → ⊥
      not_before_itself b e =
          true≢false (sym e ∙ not_both labels (letter_at b 0) (letter_at b 1) (letter_at b 0) (letter_at b 1) e)

  -- a listed branch is not the inverse of one
  one_way : (i j : ℕ) → i < length bs → j < length bs → get_or bs i [] ≡ inverse_word (get_or bs j []) → ⊥
  one_way i j within inside e =
      not_two_listed ts out labels triangles single bs list (get_or bs j []) (list.branch j [] inside)
      (Contains-get_or bs j [] inside)
      (subst (Contains bs) e (Contains-get_or bs i [] within))

  -- the letters settle the pass
  same_pass : (i j : ℕ) (b c : Bool) → i < length bs → j < length bs
      → letters_of bs (pass i b) ≡ letters_of bs (pass j c) → pass i b ≡ pass j c
  same_pass i j true true within inside e = ap (λ (n : ℕ). pass n true) (one_place i j within inside e)
  same_pass i j false false within inside e =
      ap (λ (n : ℕ). pass n false)
      (one_place i j within inside
      (sym (twice (get_or bs i []) (list.branch i [] within)) ∙ ap inverse_word e
      ∙ twice (get_or bs j []) (list.branch j [] inside)))
    where
      twice : (b : List ℤ) → IsBranch ts out b → inverse_word (inverse_word b) ≡ b
      twice = inverse_twice ts out labels triangles single
  same_pass i j true false within inside e = absurd (one_way i j within inside e)
  same_pass i j false true within inside e = absurd (one_way j i inside within (sym e))

  pass_long : (p : Pass) (x : ℤ) (u : List ℤ) → p.branch < length bs → letters_of bs p ≡ x ∷ u → 0 < length u
  pass_long p x u within is =
      let long = long_branch ts out labels triangles single bs list (letters_of bs p)
      (pass_branch ts out labels triangles single bs list p within) in
      omega (arith, ap length is)

  -- of passes that begin one walk the letters are the same
  same_letters : (x : ℤ) (p q : Pass) (u v u' v' : List ℤ) → p.branch < length bs → q.branch < length bs
      → letters_of bs p ≡ x ∷ u → letters_of bs q ≡ x ∷ u' → u ++ v ≡ u' ++ v'
      → letters_of bs p ≡ letters_of bs q
  same_letters x p q u v u' v' within inside is is' e =
      settled ts out labels triangles single (letters_of bs p) (letters_of bs q)
      (pass_branch ts out labels triangles single bs list p within)
      (pass_branch ts out labels triangles single bs list q inside)
      (ap (λ (w : List ℤ). letter_at w 0) is ∙ sym (ap (λ (w : List ℤ). letter_at w 0) is'))
      (ap (λ (w : List ℤ). letter_at w 1) is
      ∙ sym (get_or_append_left u v (pos 0) 0 (pass_long p x u within is))
      ∙ ap (λ (w : List ℤ). letter_at w 0) e
      ∙ get_or_append_left u' v' (pos 0) 0 (pass_long q x u' inside is')
      ∙ sym (ap (λ (w : List ℤ). letter_at w 1) is'))

  -- ---- passes one after another

  pub only_passes : (x : ℤ) (first second : List Pass) (w : List ℤ) → AreGlued bs x first w → AreGlued bs x second w
      → first ≡ second
  only_passes x [] [] w h g = refl
  only_passes x [] (q ∷ second) w h (u, v, within, is, split, rest) =
      absurd (let long : 0 < length u = pass_long q x u within is in
      omega (arith, ap length h, ap length split, length-append u v))
  only_passes x (p ∷ first) [] w (u, v, within, is, split, rest) g =
      absurd (let long : 0 < length u = pass_long p x u within is in
      omega (arith, ap length g, ap length split, length-append u v))
  only_passes x (p ∷ first) (q ∷ second) w (u, v, within, is, split, rest) (u', v', inside, is', split', rest') =
      let letters : letters_of bs p ≡ letters_of bs q =
      same_letters x p q u v u' v' within inside is is' (sym split ∙ split') in
      let whole : x ∷ u ≡ x ∷ u' = sym is ∙ letters ∙ is' in
      let front : u ≡ u' = cc in
      let back : v ≡ v' =
      append_cancel_left u v v' (sym split ∙ split' ∙ ap (λ (z : List ℤ). z ++ v') (sym front)) in
      ap (λ (r : Pass). r ∷ first) (same_pass p.branch q.branch p.forwards q.forwards within inside letters)
      ∙ ap (λ (ps : List Pass). q ∷ ps)
      (only_passes (last_of x u) first second v rest
      (subst (λ (z : List ℤ). AreGlued bs (last_of x z) second v) (sym front)
      (subst (AreGlued bs (last_of x u') second) (sym back) rest')))
