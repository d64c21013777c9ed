-- The first place of a label in a list, and what stands beside it in another list.
--
-- What stands beside x in a second list of the same length is the entry at the first place of x: before it the labels
-- differ from x, and there they agree.
use Rattle.std.proofs.Common.{ℕ, zero, suc, ℤ, pos, negsuc, Bool, List, [], ◌∷◌, ◌++◌, ◌≡◌, ◌≢◌}
use Rattle.std.proofs.Common.{sym, ◌∙◌, ap, subst, arith, length, map, get_or, if◌then◌else◌, refl}
use Rattle.std.proofs.lemmas.List.{get_or-map, length-map, append-nil, append_assoc}
use Rattle.ideal_tri.specs.Labels.{inverse, edge_of, with_sign_of}
use Rattle.ideal_tri.specs.LabelLaws.{LabelLaws}
use Rattle.ideal_tri.specs.WordLaws.{WordLaws}
use Rattle.ideal_tri.specs.Words.{reduce}
use Rattle.free_groupoid.specs.GroupoidMaps.{reduced_image}
use Rattle.carry_map.specs.CarriedMaps.{Carrying, beside, connection, goes_to}
use Rattle.cert_text.specs.Certificates.{Anchored, anchor_seen, anchors_seen}
use Rattle.cert_text.specs.declared.carried_track.Anchor.{Anchor}
use Rattle.cert_checker.specs.inside.TrainPaths.{IsFirstAt}

beside_first : LabelLaws → {A : Type 0} → (none : A) (xs : List ℤ) (ys : List A) (x : ℤ) (i : ℕ) → IsFirstAt xs x i
    → length ys ≡ length xs → beside none xs ys x ≡ get_or ys i none
beside_first labels none [] ys x i at long = absurd (let w = at.within in omega arith)
beside_first labels none (s ∷ xs) [] x i at long = absurd (omega arith)
beside_first labels none (s ∷ xs) (y ∷ ys) x zero at long =
    ap (λ (b : Bool). if b then y else beside none xs ys x) (labels.test_same s x at.here)
beside_first labels none (s ∷ xs) (y ∷ ys) x (suc i) at long =
    ap (λ (b : Bool). if b then y else beside none xs ys x)
    (labels.test_other s x (at.before 0 (omega arith)))
    ∙ beside_first labels none xs ys x i
    (record {
      within = (let w = at.within in omega arith);
      here = at.here;
      before = λ k below. at.before (suc k) (omega arith);
    })
    (omega arith)

pub backwards : (x : ℤ) → x ≢ pos (edge_of x) → x ≡ negsuc (edge_of x)
backwards (pos n) other = absurd (other refl)
backwards (negsuc n) other = refl

-- ---- what these anchors carry the switches to

module _ (labels : LabelLaws) (switches : List ℤ) (anchors : List Anchored) (images : List (List ℤ))
    (as_many : length anchors ≡ length switches) where
  abbrev pub carried : Carrying
  carried = record { to = map (λ a. a.to) anchors; connect = map (λ a. a.connect) anchors; images = images }

  beside_label : (s : ℤ) (i : ℕ) (p : Anchored) → IsFirstAt switches s i → p ≡ get_or anchors i p
      → beside (pos 0) switches (map (λ (q : Anchored). q.to) anchors) s ≡ p.to
  beside_label s i p at e =
      beside_first labels (pos 0) switches (map (λ (q : Anchored). q.to) anchors) s i at
      (length-map anchors (λ (q : Anchored). q.to) ∙ as_many)
      ∙ get_or-map (λ (q : Anchored). q.to) anchors i p (pos 0) (let w = at.within in omega (arith, as_many))
      ∙ ap (λ (q : Anchored). q.to) (sym e)

  beside_walk : (s : ℤ) (i : ℕ) (p : Anchored) → IsFirstAt switches s i → p ≡ get_or anchors i p
      → beside [] switches (map (λ (q : Anchored). q.connect) anchors) s ≡ p.connect
  beside_walk s i p at e =
      beside_first labels [] switches (map (λ (q : Anchored). q.connect) anchors) s i at
      (length-map anchors (λ (q : Anchored). q.connect) ∙ as_many)
      ∙ get_or-map (λ (q : Anchored). q.connect) anchors i p [] (let w = at.within in omega (arith, as_many))
      ∙ ap (λ (q : Anchored). q.connect) (sym e)

  pub goes_by : (x : ℤ) (i : ℕ) (p : Anchored) → IsFirstAt switches (pos (edge_of x)) i → p ≡ get_or anchors i p
      → with_sign_of x p.to ≡ goes_to switches carried x
  goes_by (pos n) i p at e = sym (beside_label (pos n) i p at e)
  goes_by (negsuc n) i p at e = ap inverse (sym (beside_label (pos n) i p at e))

  -- the walk of a label that isn't negative, and that of a negative one
  pub connects_forwards : (f : ℤ → List ℤ) (x : ℤ) (i : ℕ) (p : Anchored) → x ≡ pos (edge_of x)
      → IsFirstAt switches (pos (edge_of x)) i → p ≡ get_or anchors i p
      → p.connect ≡ connection f switches carried x
  connects_forwards f x i p forwards at e =
      sym (beside_walk (pos (edge_of x)) i p at e) ∙ ap (connection f switches carried) (sym forwards)

  pub connects_back : WordLaws → (f : ℤ → List ℤ) (x : ℤ) (i : ℕ) (p : Anchored) → x ≡ negsuc (edge_of x)
      → IsFirstAt switches (pos (edge_of x)) i → p ≡ get_or anchors i p
      → reduce ((reduced_image f (x ∷ []) ++ p.connect) ++ (p.to ∷ [])) ≡ connection f switches carried x
  connects_back words f x i p back at e =
      ap reduce (append_assoc (reduced_image f (x ∷ [])) p.connect (p.to ∷ []))
      ∙ words.reduction.left (reduced_image f (x ∷ [])) (f x) (p.connect ++ (p.to ∷ []))
      (words.reduction.twice (f x ++ []) ∙ ap reduce (append-nil (f x)))
      ∙ ap (λ (w : List ℤ). reduce (f x ++ (w ++ (p.to ∷ [])))) (sym (beside_walk (pos (edge_of x)) i p at e))
      ∙ ap (λ (y : ℤ). reduce (f x ++ (beside [] switches (map (λ (q : Anchored). q.connect) anchors) (pos (edge_of x))
      ++ (y ∷ [])))) (sym (beside_label (pos (edge_of x)) i p at e))
      ∙ ap (λ (y : ℤ). reduce (f y ++ (beside [] switches (map (λ (q : Anchored). q.connect) anchors) (pos (edge_of x))
      ++ (beside (pos 0) switches (map (λ (q : Anchored). q.to) anchors) (pos (edge_of x)) ∷ [])))) back
      ∙ ap (connection f switches carried) (sym back)

-- ---- the place of a switch, as it is found

module _ (found switches : List ℤ) (anchors : List Anchor) (x s : ℤ) (i : ℕ) (a : Anchor)
    (listed : found ≡ switches) (forwards : s ≡ pos (edge_of x)) (first : IsFirstAt found s i)
    (as_many : length anchors ≡ length switches) (a_is : a ≡ get_or anchors i a) where
  pub found_first : IsFirstAt switches (pos (edge_of x)) i
  found_first =
      subst (λ (xs : List ℤ). IsFirstAt xs (pos (edge_of x)) i) listed
      (subst (λ (y : ℤ). IsFirstAt found y i) forwards first)

  pub found_many : length (anchors_seen anchors) ≡ length switches
  found_many = length-map anchors anchor_seen ∙ as_many

  pub found_anchor : anchor_seen a ≡ get_or (anchors_seen anchors) i (anchor_seen a)
  found_anchor =
      ap anchor_seen a_is
      ∙ sym (get_or-map anchor_seen anchors i a (anchor_seen a)
      (let within = found_first.within in omega (arith, as_many)))
