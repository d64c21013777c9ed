-- The exchange of two edges as a list of images: it is a bijection of labels, and known backwards.
use Rattle.std.proofs.Common.{ℕ, ℤ, pos, negsuc, List, ◌≡◌, ◌<◌, inl, inr, refl, sym, ◌∙◌, ap, subst, arith}
use Rattle.std.proofs.Common.{length, get_or}
use Rattle.std.specs.List.{All}
use Rattle.std.proofs.lemmas.List.{ext_get_or, length-map, get_or-map}
use Rattle.std.proofs.lemmas.List.Elements.{All-from_get_or}
use Rattle.std.proofs.lemmas.List.FromFn.{get_or-map-range_with_len, length-map-range_with_len}
use Rattle.ideal_tri.specs.Labels.{inverse, edge_of}
use Rattle.ideal_tri.specs.Relabellings.{image_of, inverse_images, IsBijection}
use Rattle.ideal_tri.specs.Triangulations.{IsLabel, edge_count}
use Rattle.ideal_tri.specs.Vectors.{weight}
use Rattle.tri_atlas.specs.Moves.{relabel}
use Rattle.tri_atlas.specs.MovedVectors.{vector_after}
use Rattle.twist_compile.specs.TwistPaths.{exchanged, exchange_images}
use Rattle.twist_compile.proofs.LowerLaws.{LowerLaws}
use Rattle.twist_compile.proofs.Annuli.{AreApart, weight-inverse}
use Rattle.twist_compile.proofs.ExchangedLabels.{four, Which, which, is_p, is_p_back, is_q, is_q_back}
use Rattle.twist_compile.proofs.ExchangedLabels.{is_other, exchanged-p, exchanged-p_back, exchanged-q, exchanged-q_back}
use Rattle.twist_compile.proofs.ExchangedLabels.{exchanged-other, exchanged-inverse}

module _ (laws : LowerLaws) (p q : ℤ) (apart : AreApart p q) where
  -- q and p are apart, the other way round
  pub apart_back : AreApart q p
  apart_back = record { labels = (four laws.labels p q apart).p_q; edges = (four laws.labels p q apart).p_q_back }

  -- a fact of the exchanged label, from the five cases
  pub each_case : (P : ℤ → ℤ → Type 0) → P p (inverse q) → P (inverse p) q → P q p → P (inverse q) (inverse p)
      → (x : ℤ) → P x x → P x (exchanged p q x)
  each_case P at_p at_p_back at_q at_q_back x there = go (which laws.labels p q x)
    where
      at : (y z : ℤ) → x ≡ y → exchanged p q y ≡ z → P y z → P x (exchanged p q x)
      at y z is goes h =
          subst (λ (u : ℤ). P u (exchanged p q u)) (sym is) (subst (P y) (sym goes) h)

      go : Which p q x → P x (exchanged p q x)
      go (is_p is) = at p (inverse q) is (exchanged-p laws.labels p q apart) at_p
      go (is_p_back is) = at (inverse p) q is (exchanged-p_back laws.labels p q apart) at_p_back
      go (is_q is) = at q p is (exchanged-q laws.labels p q apart) at_q
      go (is_q_back is) = at (inverse q) (inverse p) is (exchanged-q_back laws.labels p q apart) at_q_back
      go (is_other a b c d) =
          subst (P x) (sym (exchanged-other laws.labels p q apart x a b c d)) there

  -- the weights of the two edges are the same, so each label keeps its own
  pub exchanged-weight : (w : List ℕ) (x : ℤ) → weight w p ≡ weight w q → weight w (exchanged p q x) ≡ weight w x
  exchanged-weight w x same =
      each_case (λ y z. weight w z ≡ weight w y) (weight-inverse laws w q ∙ sym same)
      (sym same ∙ sym (weight-inverse laws w p)) same
      (weight-inverse laws w p ∙ same ∙ sym (weight-inverse laws w q)) x refl

  pub exchanged-label : (triples : List (List ℤ)) (x : ℤ) → IsLabel triples p → IsLabel triples q → IsLabel triples x
      → IsLabel triples (exchanged p q x)
  exchanged-label triples x l k h =
      each_case (λ y z. IsLabel triples y → IsLabel triples z) (λ i. laws.labels.label triples q k) (λ i. k) (λ i. l)
      (λ i. laws.labels.label triples p l) x (λ i. i) h

module _ (laws : LowerLaws) (p q : ℤ) (apart : AreApart p q) where
  -- the exchange that undoes it
  pub exchanged-back : (x : ℤ) → exchanged q p (exchanged p q x) ≡ x
  exchanged-back x = go (which laws.labels p q x)
    where
      back : AreApart q p
      back = apart_back laws p q apart

      at : (y z : ℤ) → x ≡ y → exchanged p q y ≡ z → exchanged q p z ≡ y → exchanged q p (exchanged p q x) ≡ x
      at y z is goes h = ap (λ (u : ℤ). exchanged q p (exchanged p q u)) is ∙ ap (exchanged q p) goes ∙ h ∙ sym is

      go : Which p q x → exchanged q p (exchanged p q x) ≡ x
      go (is_p is) =
          at p (inverse q) is (exchanged-p laws.labels p q apart) (exchanged-p_back laws.labels q p back)
      go (is_p_back is) =
          at (inverse p) q is (exchanged-p_back laws.labels p q apart) (exchanged-p laws.labels q p back)
      go (is_q is) = at q p is (exchanged-q laws.labels p q apart) (exchanged-q laws.labels q p back)
      go (is_q_back is) =
          at (inverse q) (inverse p) is (exchanged-q_back laws.labels p q apart) (exchanged-q_back laws.labels q p back)
      go (is_other a b c d) =
          ap (exchanged q p) (exchanged-other laws.labels p q apart x a b c d)
          ∙ exchanged-other laws.labels q p back x c d a b

  exchanged-one : (x y : ℤ) → exchanged p q x ≡ exchanged p q y → x ≡ y
  exchanged-one x y h = sym (exchanged-back x) ∙ ap (exchanged q p) h ∙ exchanged-back y

  pub exchanged-one_edge : (x y : ℤ) → edge_of (exchanged p q x) ≡ edge_of (exchanged p q y) → edge_of x ≡ edge_of y
  exchanged-one_edge x y h =
      elim (laws.labels.of_edge (exchanged p q x) (exchanged p q y) h) [
        | inl is ↦ ap edge_of (exchanged-one x y is)
        | inr is ↦
            (ap edge_of
            (exchanged-one x (inverse y) (is ∙ sym (exchanged-inverse laws.labels p q apart y)))
            ∙ laws.labels.edge y)
      ]

-- ---- the list of the images

module _ (laws : LowerLaws) (p q : ℤ) (apart : AreApart p q) (triples : List (List ℤ)) (l : IsLabel triples p)
    (k : IsLabel triples q) where
  abbrev pub images : List ℤ
  images = exchange_images triples p q

  pub images-as_many : length (exchange_images triples p q) ≡ edge_count triples
  images-as_many = length-map-range_with_len (λ (e : ℕ). exchanged p q (pos e)) 0 (edge_count triples)

  entry : (e : ℕ) → e < edge_count triples → get_or (exchange_images triples p q) e (pos 0) ≡ exchanged p q (pos e)
  entry e below =
      get_or-map-range_with_len (λ (n : ℕ). exchanged p q (pos n)) 0 (edge_count triples) e e (pos 0) below
      (omega arith)

  pub image_of-exchange : (x : ℤ) → IsLabel triples x → image_of (exchange_images triples p q) x ≡ exchanged p q x
  image_of-exchange (pos e) below = entry e below
  image_of-exchange (negsuc e) below =
      ap inverse (entry e below) ∙ sym (exchanged-inverse laws.labels p q apart (pos e))

  images-below : All (λ x. edge_of x < length (exchange_images triples p q)) (exchange_images triples p q)
  images-below =
      All-from_get_or (λ x. edge_of x < length (exchange_images triples p q)) (exchange_images triples p q) (pos 0)
      (λ e inside.
      let below : e < edge_count triples = subst (λ (n : ℕ). e < n) images-as_many inside in
      subst (λ (n : ℕ). edge_of (get_or (exchange_images triples p q) e (pos 0)) < n) (sym images-as_many)
      (subst (IsLabel triples) (sym (entry e below)) (exchanged-label laws p q apart triples (pos e) l k below)))

  images-one_place : (e i j : ℕ) → i < length (exchange_images triples p q)
      → j < length (exchange_images triples p q) → edge_of (get_or (exchange_images triples p q) i (pos 0)) ≡ e
      → edge_of (get_or (exchange_images triples p q) j (pos 0)) ≡ e → i ≡ j
  images-one_place e i j i_in j_in at_i at_j =
      exchanged-one_edge laws p q apart (pos i) (pos j)
      (ap edge_of (sym (entry i (subst (λ (n : ℕ). i < n) images-as_many i_in)))
      ∙ at_i
      ∙ sym at_j
      ∙ ap edge_of (entry j (subst (λ (n : ℕ). j < n) images-as_many j_in)))

  pub images-bijection : IsBijection (exchange_images triples p q)
  images-bijection = record {
    labels = images-below;
    once =
        laws.hits.each_once (exchange_images triples p q) (length (exchange_images triples p q)) images-below refl
        (λ e. laws.hits.at_most_once (exchange_images triples p q) e (images-one_place e));
  }

  within : (x : ℤ) → IsLabel triples x → edge_of x < length (exchange_images triples p q)
  within x h = subst (λ (n : ℕ). edge_of x < n) (sym images-as_many) h

  -- ---- backwards

  pub image_of-exchange_back : (x : ℤ) → IsLabel triples x
      → image_of (inverse_images (exchange_images triples p q)) x ≡ exchanged q p x
  image_of-exchange_back x h =
      ap (image_of (inverse_images (exchange_images triples p q)))
      (sym (image_of-exchange (exchanged q p x) origin ∙ there_again))
      ∙ laws.bijections.there_and_back (exchange_images triples p q) (exchanged q p x) images-bijection
      (within (exchanged q p x) origin)
    where
      origin : IsLabel triples (exchanged q p x)
      origin = exchanged-label laws q p (apart_back laws p q apart) triples x k l h

      there_again : exchanged p q (exchanged q p x) ≡ x
      there_again = exchanged-back laws q p (apart_back laws p q apart) x

  -- a vector with the same number at both edges stays
  pub exchange-fixes : (w : List ℕ) → length w ≡ edge_count triples → weight w p ≡ weight w q
      → vector_after (relabel (exchange_images triples p q)) w ≡ w
  exchange-fixes w long same =
      ext_get_or 0 (vector_after (relabel (exchange_images triples p q)) w) w (as_long ∙ sym long)
      (λ e inside. at e (subst (λ (n : ℕ). e < n) as_long inside))
    where
      back_as_many : length (inverse_images (exchange_images triples p q)) ≡ edge_count triples
      back_as_many = laws.bijections.as_many (exchange_images triples p q) ∙ images-as_many

      as_long : length (vector_after (relabel (exchange_images triples p q)) w) ≡ edge_count triples
      as_long = length-map (inverse_images (exchange_images triples p q)) (weight w) ∙ back_as_many

      at : (e : ℕ) → e < edge_count triples
          → get_or (vector_after (relabel (exchange_images triples p q)) w) e 0 ≡ get_or w e 0
      at e below =
          get_or-map (weight w) (inverse_images (exchange_images triples p q)) e (pos 0) 0
          (subst (λ (n : ℕ). e < n) (sym back_as_many) below)
          ∙ ap (weight w) (image_of-exchange_back (pos e) below)
          ∙ exchanged-weight laws q p (apart_back laws p q apart) w (pos e) (sym same)
