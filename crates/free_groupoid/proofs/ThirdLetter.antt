-- The word shared by two letters carries each third letter too, and is made of letters of the two conjugators.
--
-- Let h be shared by x and y, and h' by x and z. Both are the conjugator of x but for letters of the edge of x, so h
-- h'⁻¹ is letters of that edge. As h carries y and h' carries z, it is also letters of the edge of y, followed by
-- letters of the edge of z. So no letter is left of it, and h carries z as h' does.
use Rattle.std.proofs.Common.{ℤ, List, [], ◌∷◌, ◌++◌, ◌≡◌, ◌≢◌, refl, sym, ◌∙◌, ap, subst}
use Rattle.std.specs.List.{All}
use Rattle.std.proofs.lemmas.List.Elements.{All-append}
use Rattle.ideal_tri.specs.Labels.{inverse, edge_of}
use Rattle.ideal_tri.specs.Words.{inverse_word, reduce}
use Rattle.free_groupoid.specs.inside.InnerPaths.{shared}
use Rattle.free_groupoid.proofs.Known.{Known}
use Rattle.free_groupoid.proofs.Names.{+0, +1, -1, +2, -3, +4, -4, by_fact}
use Rattle.free_groupoid.proofs.Carrying.{Carries, carries_by}
use Rattle.free_groupoid.proofs.Reduced.{All-parts, reduce-keeps, inverse_word-keeps}
use Rattle.free_groupoid.proofs.Powers.{Only, no_letter}
use Rattle.free_groupoid.proofs.Splits.{front, front_split}
use Rattle.free_groupoid.proofs.Shared.{IsPair, between, between_split, shared_carries_other}

-- a word is empty where its letters are of the edge of x, and also of that of y up to a place and of that of z from
-- there on
three_edges : (x y z : ℤ) (v p w : List ℤ) → edge_of x ≢ edge_of y → edge_of x ≢ edge_of z → v ≡ p ++ w → Only x v
    → Only y p → Only z w → v ≡ []
three_edges x y z v p w n m parts whole only_y only_z =
    let both = All-parts (λ l. edge_of l ≡ edge_of x) p w (subst (Only x) parts whole) in
    parts ∙ ap (λ (l : List ℤ). l ++ w) (no_letter x y p n both.0 only_y) ∙ no_letter x z w m both.1 only_z

module _ (known : Known) where
  -- two shared words of x differ by letters of its edge
  difference : (x : ℤ) (a b d : List ℤ) → Only x (between (shared x a b) (shared x a d))
  difference x a b d =
      subst (Only x) (sym same)
      (reduce-keeps (λ l. edge_of l ≡ edge_of x) known (inverse_word p ++ q)
      (All-append (λ l. edge_of l ≡ edge_of x) (inverse_word p) q
      (inverse_word-keeps (λ l. edge_of l ≡ edge_of x) (λ l e. known.labels.edge l ∙ e) p
      (front_split x (between a b)).only)
      (front_split x (between a d)).only))
    where
      p : List ℤ
      p = front x (between a b)

      q : List ℤ
      q = front x (between a d)

      names : List (List ℤ)
      names = shared x a b ∷ shared x a d ∷ a ∷ p ∷ q ∷ []

      same : between (shared x a b) (shared x a d) ≡ reduce (inverse_word p ++ q)
      same =
          by_fact known names (+0 ∷ -1 ∷ []) (-3 ∷ +2 ∷ -1 ∷ []) [] (+0 ∷ []) (-3 ∷ +2 ∷ []) (-1 ∷ []) refl
          (known.words.reduction.twice (inverse_word p ++ a)) refl
          ∙ by_fact known names (-3 ∷ +2 ∷ -1 ∷ []) (-3 ∷ +4 ∷ []) (-3 ∷ +4 ∷ []) (-4 ∷ +2 ∷ []) (+1 ∷ []) (-1 ∷ [])
          refl (sym (known.words.reduction.twice (inverse_word q ++ a))) refl

  -- the shared word of the first two letters carries each other letter too
  pub shared_carries_third : (x y z : ℤ) (a b d first second third : List ℤ) → IsPair x y a b first second
      → IsPair x z a d first third
      → (q : List ℤ) → edge_of y ≢ edge_of z → Carries q (y ∷ (z ∷ [])) (second ++ third)
      → Carries (shared x a b) (z ∷ []) third
  shared_carries_third x y z a b d first second third pair pair_z q apart product =
      carries_by known (shared x a d) (shared x a b) (z ∷ []) third (sym one)
      (shared_carries_other known x z a d first third pair_z)
    where
      pair_yz : IsPair y z (shared x a b) (shared x a d) second third
      pair_yz = record {
        apart = apart;
        one = shared_carries_other known x y a b first second pair;
        other = shared_carries_other known x z a d first third pair_z;
        both = q;
        product = product;
      }

      v : List ℤ
      v = between (shared x a b) (shared x a d)

      nothing : v ≡ []
      nothing =
          three_edges x y z v (front y v) (front_split y v).rest pair.apart pair_z.apart (front_split y v).parts
          (difference x a b d)
          (front_split y v).only (between_split known y z (shared x a b) (shared x a d) second third pair_yz)

      one : reduce (shared x a b) ≡ reduce (shared x a d)
      one =
          by_fact known (shared x a b ∷ shared x a d ∷ []) (+0 ∷ []) (+1 ∷ []) [] (+0 ∷ -1 ∷ []) [] (+1 ∷ []) refl
          nothing refl

  -- its letters are letters of the two words
  pub shared_keeps : (P : ℤ → Type 0) → ((x : ℤ) → P x → P (inverse x)) → (x : ℤ) (a b : List ℤ) → All P a → All P b
      → All P (shared x a b)
  shared_keeps P both x a b of_a of_b =
      reduce-keeps P known (inverse_word (front x (between a b)) ++ a)
      (All-append P (inverse_word (front x (between a b))) a
      (inverse_word-keeps P both (front x (between a b))
      (All-parts P (front x (between a b)) (front_split x (between a b)).rest
      (subst (All P) (front_split x (between a b)).parts
      (reduce-keeps P known (a ++ inverse_word b)
      (All-append P a (inverse_word b) of_a (inverse_word-keeps P both b of_b))))).0)
      of_a)
