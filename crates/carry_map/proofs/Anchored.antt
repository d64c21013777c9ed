-- Where labels of switches go, and by which walks, read from a list of anchors.
use Rattle.std.proofs.Common.{ℕ, ℤ, pos, negsuc, List, [], ◌∷◌, ◌++◌, ◌≡◌, ◌≢◌, refl, sym, ◌∙◌, ap, arith, length, map}
use Rattle.std.proofs.Common.{get_or}
use Rattle.std.proofs.lemmas.List.{get_or-map, length-map, append-nil}
use Rattle.ideal_tri.specs.Labels.{inverse, edge_of, with_sign_of}
use Rattle.ideal_tri.specs.LabelLaws.{LabelLaws}
use Rattle.ideal_tri.specs.WordLaws.{WordLaws}
use Rattle.ideal_tri.specs.Words.{reduce}
use Rattle.free_groupoid.specs.GroupoidMaps.{reduced_image}
use Rattle.carry_map.specs.Anchors.{Place}
use Rattle.carry_map.specs.AnchorAnswers.{carrying_by}
use Rattle.carry_map.specs.CarriedMaps.{beside, goes_to, connection}
use Rattle.carry_map.specs.inside.Switches.{IsFirstAt}
use Rattle.carry_map.proofs.SwitchPlaces.{beside_first}

pub backwards : (x : ℤ) → x ≢ pos (edge_of x) → x ≡ negsuc (edge_of x)
backwards (pos n) other = absurd (other refl)
backwards (negsuc n) other = refl

module _ (labels : LabelLaws) (switches : List ℤ) (anchors : List Place) (as_many : length anchors ≡ length switches)
  where
    pub beside_label : (s : ℤ) (i : ℕ) (p : Place) → IsFirstAt switches s i → p ≡ get_or anchors i p
        → beside (pos 0) switches (map (λ (q : Place). q.label) anchors) s ≡ p.label
    beside_label s i p at e =
        beside_first labels (pos 0) switches (map (λ (q : Place). q.label) anchors) s i at
        (length-map anchors (λ (q : Place). q.label) ∙ as_many)
        ∙ get_or-map (λ (q : Place). q.label) anchors i p (pos 0) (let w = at.within in omega (arith, as_many))
        ∙ ap (λ (q : Place). q.label) (sym e)

    pub beside_walk : (s : ℤ) (i : ℕ) (p : Place) → IsFirstAt switches s i → p ≡ get_or anchors i p
        → beside [] switches (map (λ (q : Place). q.connect) anchors) s ≡ p.connect
    beside_walk s i p at e =
        beside_first labels [] switches (map (λ (q : Place). q.connect) anchors) s i at
        (length-map anchors (λ (q : Place). q.connect) ∙ as_many)
        ∙ get_or-map (λ (q : Place). q.connect) anchors i p [] (let w = at.within in omega (arith, as_many))
        ∙ ap (λ (q : Place). q.connect) (sym e)

    pub goes_by : (x : ℤ) (i : ℕ) (p : Place) → IsFirstAt switches (pos (edge_of x)) i → p ≡ get_or anchors i p
        → with_sign_of x p.label ≡ goes_to switches (carrying_by anchors) x
    goes_by (pos n) i p at e = sym (beside_label (pos n) i p at e)
    goes_by (negsuc n) i p at e = ap inverse (sym (beside_label (pos n) i p at e))

    -- the walk of a label that isn't negative, and that of a negative one
    pub connects_forwards : (f : ℤ → List ℤ) (x : ℤ) (i : ℕ) (p : Place) → x ≡ pos (edge_of x)
        → IsFirstAt switches (pos (edge_of x)) i → p ≡ get_or anchors i p
        → p.connect ≡ connection f switches (carrying_by anchors) x
    connects_forwards f x i p forwards at e =
        sym (beside_walk (pos (edge_of x)) i p at e)
        ∙ ap (connection f switches (carrying_by anchors)) (sym forwards)

    pub connects_back : WordLaws → (f : ℤ → List ℤ) (x : ℤ) (i : ℕ) (p : Place) → x ≡ negsuc (edge_of x)
        → IsFirstAt switches (pos (edge_of x)) i → p ≡ get_or anchors i p
        → reduce (reduced_image f (x ∷ []) ++ (p.connect ++ (p.label ∷ [])))
        ≡ connection f switches (carrying_by anchors) x
    connects_back words f x i p back at e =
        words.reduction.left (reduced_image f (x ∷ [])) (f x) (p.connect ++ (p.label ∷ []))
        (words.reduction.twice (f x ++ []) ∙ ap reduce (append-nil (f x)))
        ∙ ap (λ (w : List ℤ). reduce (f x ++ (w ++ (p.label ∷ [])))) (sym (beside_walk (pos (edge_of x)) i p at e))
        ∙ ap (λ (y : ℤ). reduce (f x ++ (beside [] switches (map (λ (q : Place). q.connect) anchors) (pos (edge_of x))
        ++ (y ∷ [])))) (sym (beside_label (pos (edge_of x)) i p at e))
        ∙ ap (λ (y : ℤ). reduce (f y ++ (beside [] switches (map (λ (q : Place). q.connect) anchors) (pos (edge_of x))
        ++ (beside (pos 0) switches (map (λ (q : Place). q.label) anchors) (pos (edge_of x)) ∷ [])))) back
        ∙ ap (connection f switches (carrying_by anchors)) (sym back)
