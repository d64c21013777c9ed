-- Words with the same free reduction, and how equations between them are solved.
--
-- Two words are alike where their free reductions are the same word. This goes with joining and with inverses, and a
-- word followed by its way back is alike the empty word. So an equation can be solved for one of its parts as in a
-- group: what stands on the left of both sides may be taken off, or put on the other side as its way back.
--
-- A word W is carried to V along the walks a and b where W is alike a V b^-1. If W' is carried to V' along b and c,
-- then W W' is carried to V V' along a and c, since b^-1 b cancels.
use Rattle.std.proofs.Common.{ℤ, List, [], ◌∷◌, ◌++◌, ◌≡◌, sym, ◌∙◌, ap}
use Rattle.std.proofs.lemmas.List.{append_assoc, append-nil}
use Rattle.ideal_tri.specs.Labels.{inverse}
use Rattle.ideal_tri.specs.Words.{inverse_word, reduce}
use Rattle.ideal_tri.specs.WordLaws.{WordLaws}

module _ (words : WordLaws) where
  pub both : (u u' v v' : List ℤ) → reduce u ≡ reduce u' → reduce v ≡ reduce v' → reduce (u ++ v) ≡ reduce (u' ++ v')
  both u u' v v' e h = words.reduction.left u u' v e ∙ words.reduction.right u' v v' h

  -- back along a, and along a again
  pub there_again : (a u : List ℤ) → reduce (inverse_word a ++ (a ++ u)) ≡ reduce u
  there_again a u =
      ap (λ (z : List ℤ). reduce (inverse_word a ++ (z ++ u))) (sym (words.inverses.twice a))
      ∙ words.reduction.cancel [] (inverse_word a) u

  pub solved : (a u v : List ℤ) → reduce (a ++ u) ≡ reduce v → reduce u ≡ reduce (inverse_word a ++ v)
  solved a u v e = sym (there_again a u) ∙ words.reduction.right (inverse_word a) (a ++ u) v e

  pub taken_off : (a u v : List ℤ) → reduce (a ++ u) ≡ reduce (a ++ v) → reduce u ≡ reduce v
  taken_off a u v e = solved a u (a ++ v) e ∙ there_again a v

  -- there and back along b in the middle
  pub through : (a b c : List ℤ) → reduce ((a ++ inverse_word b) ++ (b ++ c)) ≡ reduce (a ++ c)
  through a b c =
      ap reduce (append_assoc a (inverse_word b) (b ++ c))
      ∙ words.reduction.right a (inverse_word b ++ (b ++ c)) c (there_again b c)

  pub inverses_alike : (u v : List ℤ) → reduce u ≡ reduce v → reduce (inverse_word u) ≡ reduce (inverse_word v)
  inverses_alike u v e =
      words.reduction.inverse u ∙ ap inverse_word e ∙ sym (words.reduction.inverse v)

  -- W and W' are carried to V and V' along a, b and b, c, so W W' to V V' along a, c
  pub chained : (w w' v v' a b c : List ℤ) → reduce w ≡ reduce (a ++ (v ++ inverse_word b))
      → reduce w' ≡ reduce (b ++ (v' ++ inverse_word c))
      → reduce (w ++ w') ≡ reduce (a ++ ((v ++ v') ++ inverse_word c))
  chained w w' v v' a b c e h =
      both w (a ++ (v ++ inverse_word b)) w' (b ++ (v' ++ inverse_word c)) e h
      ∙ ap (λ (z : List ℤ). reduce (z ++ (b ++ (v' ++ inverse_word c)))) (sym (append_assoc a v (inverse_word b)))
      ∙ through (a ++ v) b (v' ++ inverse_word c)
      ∙ ap reduce (append_assoc a v (v' ++ inverse_word c))
      ∙ ap (λ (z : List ℤ). reduce (a ++ z)) (sym (append_assoc v v' (inverse_word c)))

  -- the empty word
  pub nothing_carried : (a : List ℤ) → reduce [] ≡ reduce (a ++ ([] ++ inverse_word a))
  nothing_carried a =
      sym (words.reduction.cancel [] a [])
      ∙ ap (λ (z : List ℤ). reduce (a ++ z)) (append-nil (inverse_word a))

  -- ---- one letter, in both directions

  pub ended : (a : List ℤ) (y : ℤ) (u : List ℤ) → a ++ (y ∷ u) ≡ (a ++ (y ∷ [])) ++ u
  ended a y u = sym (append_assoc a (y ∷ []) u)

  pub inverse_ended : (a : List ℤ) (y : ℤ) → inverse_word (a ++ (y ∷ [])) ≡ inverse y ∷ inverse_word a
  inverse_ended a y = words.inverses.append a (y ∷ [])

  -- where b is along W, a and y, reduced, W is carried to the inverse of y along b and a
  pub carried_there : (w a : List ℤ) (y : ℤ)
      → reduce w ≡ reduce (reduce (w ++ (a ++ (y ∷ []))) ++ (inverse y ∷ inverse_word a))
  carried_there w a y =
      ap reduce (sym (append-nil w))
      ∙ sym (words.reduction.cancel w (a ++ (y ∷ [])) [])
      ∙ ap (λ (z : List ℤ). reduce (w ++ ((a ++ (y ∷ [])) ++ z))) (append-nil (inverse_word (a ++ (y ∷ []))))
      ∙ ap reduce (sym (append_assoc w (a ++ (y ∷ [])) (inverse_word (a ++ (y ∷ [])))))
      ∙ sym (words.reduction.left (reduce (w ++ (a ++ (y ∷ [])))) (w ++ (a ++ (y ∷ [])))
      (inverse_word (a ++ (y ∷ [])))
      (words.reduction.twice (w ++ (a ++ (y ∷ [])))))
      ∙ ap (λ (z : List ℤ). reduce (reduce (w ++ (a ++ (y ∷ []))) ++ z)) (inverse_ended a y)

  -- and the inverse of W to y along a and b
  pub carried_back : (w a : List ℤ) (y : ℤ)
      → reduce (inverse_word w) ≡ reduce (a ++ (y ∷ inverse_word (reduce (w ++ (a ++ (y ∷ []))))))
  carried_back w a y =
      let g : List ℤ = a ++ (y ∷ []) in
      sym (words.reduction.cancel [] g (inverse_word w))
      ∙ ap (λ (z : List ℤ). reduce (g ++ z)) (sym (words.inverses.append w g))
      ∙ words.reduction.right g (inverse_word (w ++ g)) (inverse_word (reduce (w ++ g)))
      (sym (words.reduction.twice (inverse_word (w ++ g)))
      ∙ ap reduce (words.reduction.inverse (w ++ g)))
      ∙ ap reduce (sym (ended a y (inverse_word (reduce (w ++ g)))))

  -- W U is also L W'. Where W, L and W' are carried to p along b and a, to z along b and c and to q along c and d, and
  -- z q is also p y: the way back along U is carried to that along y, along d and a
  pub carried_backwards : (w u l w' a b c d z y : List ℤ) (p q : ℤ) → w ++ u ≡ l ++ w' → z ++ (q ∷ []) ≡ p ∷ y
      → reduce w ≡ reduce (b ++ (p ∷ inverse_word a)) → reduce w' ≡ reduce (c ++ (q ∷ inverse_word d))
      → reduce l ≡ reduce (b ++ (z ++ inverse_word c))
      → reduce (inverse_word u) ≡ reduce (d ++ (inverse_word y ++ inverse_word a))
  carried_backwards w u l w' a b c d z y p q same path first last before =
      inverses_alike u (a ++ (y ++ inverse_word d)) rest
      ∙ ap reduce (words.inverses.append a (y ++ inverse_word d))
      ∙ ap (λ (v : List ℤ). reduce (v ++ inverse_word a))
      (words.inverses.append y (inverse_word d) ∙ ap (λ (v : List ℤ). v ++ inverse_word y) (words.inverses.twice d))
      ∙ ap reduce (append_assoc d (inverse_word y) (inverse_word a))
    where
      here : List ℤ
      here = b ++ (p ∷ [])

      left : reduce (here ++ (inverse_word a ++ u)) ≡ reduce (w ++ u)
      left =
          ap reduce (sym (append_assoc here (inverse_word a) u))
          ∙ ap (λ (v : List ℤ). reduce (v ++ u)) (sym (ended b p (inverse_word a)))
          ∙ sym (words.reduction.left w (b ++ (p ∷ inverse_word a)) u first)

      right : reduce (l ++ w') ≡ reduce (here ++ (y ++ inverse_word d))
      right =
          both l (b ++ (z ++ inverse_word c)) w' (c ++ (q ∷ inverse_word d)) before last
          ∙ ap (λ (v : List ℤ). reduce (v ++ (c ++ (q ∷ inverse_word d)))) (sym (append_assoc b z (inverse_word c)))
          ∙ through (b ++ z) c (q ∷ inverse_word d)
          ∙ ap reduce (append_assoc b z (q ∷ inverse_word d))
          ∙ ap (λ (v : List ℤ). reduce (b ++ v)) (ended z q (inverse_word d))
          ∙ ap (λ (v : List ℤ). reduce (b ++ (v ++ inverse_word d))) path
          ∙ ap reduce (ended b p (y ++ inverse_word d))

      rest : reduce u ≡ reduce (a ++ (y ++ inverse_word d))
      rest =
          solved (inverse_word a) u (y ++ inverse_word d)
          (taken_off here (inverse_word a ++ u) (y ++ inverse_word d) (left ∙ ap reduce same ∙ right))
          ∙ ap (λ (v : List ℤ). reduce (v ++ (y ++ inverse_word d))) (words.inverses.twice a)
