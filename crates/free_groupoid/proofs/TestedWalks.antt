-- Test walks, made one by one from their letters.
use Rattle.std.proofs.Common.{suc, ℤ, List, [], ◌∷◌, ◌++◌, ◌≡◌, sym, ◌∙◌, ap, subst, append_assoc, append-nil, arith}
use Rattle.std.proofs.Common.{map, Vec}
use Rattle.std.specs.Global.{Global}
use Rattle.std.specs.List.{All}
use Rattle.std.proofs.lemmas.List.Elements.{All-push}
use Rattle.free_groupoid.specs.Walks.{DualWalk, IsClosedOn, walk_of_letters}
use Rattle.free_groupoid.specs.TestWalks.{test_walks}
use Rattle.free_groupoid.specs.InnerLaws.{IsReducedLoop}
use Rattle.free_groupoid.specs.inside.Images.{words_of}

-- these walks are made, and those of the words that are left are still to come
pub record IsUnderWay (triples : List (List ℤ)) (walks : List DualWalk) (left : List (Vec ℤ Global)) : Type 0 where
  pub taken : walks ++ map (walk_of_letters triples) (words_of left)
      ≡ map (walk_of_letters triples) (test_walks triples)
  pub loops : All (IsReducedLoop triples) (words_of left)
  pub closed : All (IsClosedOn triples) walks

module _ (triples : List (List ℤ)) (walks : List DualWalk) where
  pub first_walk : (left : List (Vec ℤ Global)) → walks ≡ [] → words_of left ≡ test_walks triples
      → All (IsReducedLoop triples) (test_walks triples)
      → IsUnderWay triples walks left
  first_walk left none words loops = record {
    taken = ap (λ (ws : List DualWalk). ws ++ map (walk_of_letters triples) (words_of left)) none
        ∙ ap (map (walk_of_letters triples)) words;
    loops = subst (All (IsReducedLoop triples)) (sym words) loops;
    closed = subst (All (IsClosedOn triples)) (sym none) (λ k d inside. absurd (omega arith));
  }

  -- the word that is next
  pub word_next : (left : List (Vec ℤ Global)) (word : Vec ℤ Global) (rest : List (Vec ℤ Global))
      → IsUnderWay triples walks left → left ≡ word ∷ rest
      → IsReducedLoop triples word.items
  word_next left word rest h is_left = subst (λ (vs : List (Vec ℤ Global)). All (IsReducedLoop triples) (words_of vs))
      is_left h.loops 0 [] (omega arith)

  pub walk_more : (left : List (Vec ℤ Global)) (word : Vec ℤ Global) (rest : List (Vec ℤ Global)) (w : DualWalk) (new :
      List DualWalk)
      → IsUnderWay triples walks left → left ≡ word ∷ rest
      → w ≡ walk_of_letters triples word.items → IsClosedOn triples w → new ≡ walks ++ (w ∷ [])
      → IsUnderWay triples new rest
  walk_more left word rest w new h is_left is_w closed is_new =
      let now = subst (λ (vs : List (Vec ℤ Global)). IsUnderWay triples walks vs) is_left h in
      record {
        taken =
            ap (λ (ws : List DualWalk). ws ++ map (walk_of_letters triples) (words_of rest)) (is_new
            ∙ ap (λ (v : DualWalk). walks ++ (v ∷ [])) is_w)
            ∙ append_assoc walks (walk_of_letters triples word.items ∷ []) (map (walk_of_letters triples) (words_of
            rest))
            ∙ now.taken;
        loops = λ k d inside. now.loops (suc k) d (omega arith);
        closed = subst (All (IsClosedOn triples)) (sym is_new) (All-push (IsClosedOn triples) walks w now.closed
            closed);
      }

  pub walks_all : (left : List (Vec ℤ Global)) → IsUnderWay triples walks left → left ≡ []
      → walks ≡ map (walk_of_letters triples) (test_walks triples)
  walks_all left h none =
      let now = subst (λ (vs : List (Vec ℤ Global)). IsUnderWay triples walks vs) none h in
      sym (append-nil walks) ∙ now.taken
