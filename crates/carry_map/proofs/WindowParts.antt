-- The windows round a switch are all pairs of a back word and a front word.
--
-- A window is the inverse of a legal walk of three letters that may follow the inverse of s, and then s and a legal
-- walk of three letters that may follow s. For the part up to s backwards begins with the inverse of s and is legal,
-- and so is the part from s on. Any two such walks make a window, since both parts are legal with s, which they share;
-- and the two walks are got back from its first three letters and from its last four.
-- There are some, since there are legal walks of any length.
use Rattle.std.proofs.Common.{ℤ, pos, List, [], ◌∷◌, ◌++◌, ◌≡◌, refl, sym, ◌∙◌, ap, subst}
use Rattle.std.proofs.Common.{arith, length, get_or, length-append}
use Rattle.std.specs.Prelude.{take, drop}
use Rattle.std.specs.List.{All, Contains}
use Rattle.std.proofs.lemmas.List.{take_at, drop_at, drop_more, length-take-le, length-drop, take-append-drop}
use Rattle.std.proofs.lemmas.List.{get_or_at}
use Rattle.std.proofs.lemmas.List.Elements.{All-cons, All-append, All-take, All-drop}
use Rattle.ideal_tri.specs.LabelLaws.{LabelLaws}
use Rattle.ideal_tri.specs.WordLaws.{WordLaws}
use Rattle.ideal_tri.specs.SurfaceLaws.{TriangleLaws}
use Rattle.ideal_tri.specs.Labels.{inverse}
use Rattle.ideal_tri.specs.Words.{inverse_word}
use Rattle.ideal_tri.specs.Triangulations.{IsLabel}
use Rattle.train_track.specs.TrackLaws.{TurnLaws}
use Rattle.train_track.specs.Tracks.{IsLegal}
use Rattle.carry_map.specs.Anchors.{IsWindow}
use Rattle.carry_map.specs.inside.Rays.{back_words, front_words}
use Rattle.carry_map.proofs.LegalWalks.{listed_onward, onward_listed, legal_back, some_walk, legal_joined}
use Rattle.carry_map.proofs.LegalWalks.{legal_front, legal_end}

module _ (ts : List (List ℤ)) (out : List ℤ) (labels : LabelLaws) (words : WordLaws) (triangles : TriangleLaws ts)
    (turns : TurnLaws ts out) (s : ℤ) (label : IsLabel ts s) where
  label_back : IsLabel ts (inverse s)
  label_back = labels.label ts s label

  -- ---- the words of a window

  window_is : (w : List ℤ) → IsWindow ts out s w → w ≡ take 3 w ++ (s ∷ drop 4 w)
  window_is w window =
      sym (take-append-drop 3 w)
      ∙ ap (λ (k : List ℤ). take 3 w ++ k)
      (drop_more w 3 (pos 0) (omega (arith, window.seven))
      ∙ ap (λ (z : ℤ). z ∷ drop 4 w) window.middle)

  front_is : (w : List ℤ) → IsWindow ts out s w → drop 3 w ≡ s ∷ drop 4 w
  front_is w window =
      drop_more w 3 (pos 0) (omega (arith, window.seven)) ∙ ap (λ (z : ℤ). z ∷ drop 4 w) window.middle

  pub window_front : (w : List ℤ) → IsWindow ts out s w → Contains (front_words ts out s) (drop 3 w)
  window_front w window =
      onward_listed ts out labels triangles s label (s ∷ []) (λ r. refl) (drop 3 w) (record {
        rest = drop 4 w;
        letters = front_is w window;
        count = length-drop 4 w ∙ omega (arith, window.seven);
        labels = All-drop (IsLabel ts) 4 w window.labels;
        legal =
            legal_end ts out labels triangles (take 3 w) s (drop 4 w)
            (subst (IsLegal ts out) (window_is w window) window.legal);
      })

  pub window_back : (w : List ℤ) → IsWindow ts out s w → Contains (back_words ts out s) (inverse_word (take 3 w))
  window_back w window =
      onward_listed ts out labels triangles (inverse s) label_back [] (λ r. refl) (inverse_word (take 3 w)) (record {
        rest = inverse_word (take 3 w);
        letters = refl;
        count = words.inverses.as_long (take 3 w) ∙ length-take-le 3 w (omega (arith, window.seven));
        labels = words.inverses.labels ts (take 3 w) (All-take (IsLabel ts) 3 w window.labels);
        legal =
            subst (IsLegal ts out) (words.inverses.append (take 3 w) (s ∷ []))
            (legal_back ts out turns (take 3 w ++ (s ∷ []))
            (legal_front ts out labels triangles (take 3 w) s (drop 4 w)
            (subst (IsLegal ts out) (window_is w window) window.legal)));
      })

  -- ---- the window of two words

  pub window_of : (v u : List ℤ) → Contains (back_words ts out s) v → Contains (front_words ts out s) u
      → IsWindow ts out s (inverse_word v ++ u)
  window_of v u back front =
      let b = listed_onward ts out labels triangles (inverse s) label_back [] (λ r. refl) v back in
      let g = listed_onward ts out labels triangles s label (s ∷ []) (λ r. refl) u front in
      let long : length (inverse_word v) ≡ 3
      = words.inverses.as_long v ∙ ap length b.letters ∙ b.count in
      let before : IsLegal ts out (inverse_word v ++ (s ∷ []))
      = subst (λ (z : ℤ). IsLegal ts out (inverse_word v ++ (z ∷ []))) (labels.twice s)
      (legal_back ts out turns (inverse s ∷ v)
      (subst (λ (k : List ℤ). IsLegal ts out (inverse s ∷ k)) (sym b.letters) b.legal)) in
      let is : inverse_word v ++ (s ∷ g.rest) ≡ inverse_word v ++ u
      = ap (λ (k : List ℤ). inverse_word v ++ k) (sym g.letters) in
      record {
        seven =
            sym (ap length is) ∙ length-append (inverse_word v) (s ∷ g.rest) ∙ omega (arith, long, g.count);
        labels =
            subst (All (IsLabel ts)) is
            (All-append (IsLabel ts) (inverse_word v) (s ∷ g.rest)
            (words.inverses.labels ts v (subst (All (IsLabel ts)) (sym b.letters) b.labels))
            (All-cons (IsLabel ts) s g.rest label g.labels));
        legal = subst (IsLegal ts out) is
            (legal_joined ts out labels triangles (inverse_word v) s g.rest before g.legal);
        middle =
            ap (λ (k : List ℤ). get_or k 3 (pos 0)) (sym is)
            ∙ get_or_at (inverse_word v) s g.rest (pos 0) 3 long;
      }

  pub back_of : (v u : List ℤ) → Contains (back_words ts out s) v → inverse_word (take 3 (inverse_word v ++ u)) ≡ v
  back_of v u back =
      let b = listed_onward ts out labels triangles (inverse s) label_back [] (λ r. refl) v back in
      ap inverse_word
      (take_at (inverse_word v) u 3 (words.inverses.as_long v ∙ ap length b.letters ∙ b.count))
      ∙ words.inverses.twice v

  pub front_of : (v u : List ℤ) → Contains (back_words ts out s) v → drop 3 (inverse_word v ++ u) ≡ u
  front_of v u back =
      let b = listed_onward ts out labels triangles (inverse s) label_back [] (λ r. refl) v back in
      drop_at (inverse_word v) u 3 (words.inverses.as_long v ∙ ap length b.letters ∙ b.count)

  -- ---- there are some

  pub some_back : (v : List ℤ) × Contains (back_words ts out s) v
  some_back =
      let (r, count, are, legal) = some_walk ts out turns 3 (inverse s) label_back in (
        r,
        onward_listed ts out labels triangles (inverse s) label_back [] (λ k. refl) r
            (record { rest = r; letters = refl; count = count; labels = are; legal = legal }),
      )

  pub some_front : (u : List ℤ) × Contains (front_words ts out s) u
  some_front =
      let (r, count, are, legal) = some_walk ts out turns 3 s label in (
        s ∷ r,
        onward_listed ts out labels triangles s label (s ∷ []) (λ k. refl) (s ∷ r)
            (record { rest = r; letters = refl; count = count; labels = are; legal = legal }),
      )
