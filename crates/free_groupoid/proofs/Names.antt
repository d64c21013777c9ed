-- Equations between words, from equations between words of their names.
--
-- Give names to some words: the n-th has the name n, and its inverse the name -1 - n, so that names are letters
-- and a word of names spells a word. A substitution that respects inverses goes with free reduction, so two words
-- of names with the same reduction spell words with the same reduction. Where the names are numerals, the
-- reduction computes: an equation in the free group of the names is proved by `refl`. A known equation between
-- two spelled words is used inside a longer one by `by_fact`, which names the place where it stands.
use Rattle.std.proofs.Common.{ℤ, pos, negsuc, List, [], ◌∷◌, ◌++◌, ◌≡◌, refl, sym, ◌∙◌, ap, get_or}
use Rattle.std.specs.List.{flat_map}
use Rattle.std.proofs.lemmas.List.{append-nil}
use Rattle.std.proofs.lemmas.List.Concat.{flat_map-append}
use Rattle.ideal_tri.specs.Words.{inverse_word, reduce}
use Rattle.tri_atlas.specs.Maps.{IsOdd}
use Rattle.free_groupoid.proofs.Known.{Known}

-- ---- names

abbrev pub +0 : ℤ
+0 = pos 0

abbrev pub -0 : ℤ
-0 = negsuc 0

abbrev pub +1 : ℤ
+1 = pos 1

abbrev pub -1 : ℤ
-1 = negsuc 1

abbrev pub +2 : ℤ
+2 = pos 2

abbrev pub -2 : ℤ
-2 = negsuc 2

abbrev pub +3 : ℤ
+3 = pos 3

abbrev pub -3 : ℤ
-3 = negsuc 3

abbrev pub +4 : ℤ
+4 = pos 4

abbrev pub -4 : ℤ
-4 = negsuc 4

abbrev pub +5 : ℤ
+5 = pos 5

abbrev pub -5 : ℤ
-5 = negsuc 5

abbrev pub +6 : ℤ
+6 = pos 6

abbrev pub -6 : ℤ
-6 = negsuc 6

abbrev pub +7 : ℤ
+7 = pos 7

abbrev pub -7 : ℤ
-7 = negsuc 7

abbrev pub +8 : ℤ
+8 = pos 8

abbrev pub -8 : ℤ
-8 = negsuc 8

abbrev pub +9 : ℤ
+9 = pos 9

abbrev pub -9 : ℤ
-9 = negsuc 9

-- the words of a list by their numbers, and their inverses
abbrev pub named : List (List ℤ) → ℤ → List ℤ
named words (pos n) = get_or words n []
named words (negsuc n) = inverse_word (get_or words n [])

named-odd : Known → (words : List (List ℤ)) → IsOdd (named words)
named-odd known words (pos n) = refl
named-odd known words (negsuc n) = sym (known.words.inverses.twice (get_or words n []))

-- ---- spelled words

-- the word that a word of names spells
abbrev pub spell : (ℤ → List ℤ) → List ℤ → List ℤ
spell f [] = []
spell f (x ∷ []) = f x
spell f (x ∷ (y ∷ w)) = f x ++ spell f (y ∷ w)

spell-flat_map : (f : ℤ → List ℤ) (w : List ℤ) → spell f w ≡ flat_map f w
spell-flat_map f [] = refl
spell-flat_map f (x ∷ []) = sym (append-nil (f x))
spell-flat_map f (x ∷ (y ∷ w)) = ap (λ (z : List ℤ). f x ++ z) (spell-flat_map f (y ∷ w))

module _ (known : Known) where
  -- what stands inside a word may be replaced by any word with the same reduction
  pub reduce-inside : (a u v b : List ℤ) → reduce u ≡ reduce v → reduce (a ++ (u ++ b)) ≡ reduce (a ++ (v ++ b))
  reduce-inside a u v b e = known.words.reduction.right a (u ++ b) (v ++ b) (known.words.reduction.left u v b e)

  -- an odd substitution goes with reductions
  pub flat_map-respects : (f : ℤ → List ℤ) (u v : List ℤ) → IsOdd f → reduce u ≡ reduce v
      → reduce (flat_map f u) ≡ reduce (flat_map f v)
  flat_map-respects f u v odd e =
      sym (known.maps.substitutions.reduced_before f u odd) ∙ ap (λ (z : List ℤ). reduce (flat_map f z)) e
      ∙ known.maps.substitutions.reduced_before f v odd

  -- words of names with the same reduction
  pub by_name : (words : List (List ℤ)) (u v : List ℤ) → reduce u ≡ reduce v
      → reduce (spell (named words) u) ≡ reduce (spell (named words) v)
  by_name words u v e =
      ap reduce (spell-flat_map (named words) u)
      ∙ flat_map-respects (named words) u v (named-odd known words) e
      ∙ ap reduce (sym (spell-flat_map (named words) v))

  -- u is a p b, p and q spell words with the same reduction, and v is a q b
  pub by_fact : (words : List (List ℤ)) (u v a p q b : List ℤ) → reduce u ≡ reduce (a ++ (p ++ b))
      → reduce (spell (named words) p) ≡ reduce (spell (named words) q) → reduce (a ++ (q ++ b)) ≡ reduce v
      → reduce (spell (named words) u) ≡ reduce (spell (named words) v)
  by_fact words u v a p q b before fact after =
      by_name words u (a ++ (p ++ b)) before ∙ inside ∙ by_name words (a ++ (q ++ b)) v after
    where
      parts : (m : List ℤ)
          → spell (named words)
          (a ++ (m ++ b)) ≡ flat_map (named words) a ++ (spell (named words) m ++ flat_map (named words) b)
      parts m =
          spell-flat_map (named words) (a ++ (m ++ b))
          ∙ flat_map-append (named words) a (m ++ b)
          ∙ ap (λ (z : List ℤ). flat_map (named words) a ++ z) (flat_map-append (named words) m b)
          ∙ ap (λ (z : List ℤ). flat_map (named words) a ++ (z ++ flat_map (named words) b))
          (sym (spell-flat_map (named words) m))

      inside : reduce (spell (named words) (a ++ (p ++ b))) ≡ reduce (spell (named words) (a ++ (q ++ b)))
      inside =
          ap reduce (parts p)
          ∙ reduce-inside (flat_map (named words) a) (spell (named words) p) (spell (named words) q)
          (flat_map (named words) b) fact
          ∙ ap reduce (sym (parts q))
