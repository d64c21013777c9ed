-- Anchors whose train paths all fit carry the track.
--
-- Where the switches go, and by which walks, doesn't rest on the train paths that are kept beside them. So the train
-- path of a branch for the anchors alone is the one for the anchors with all train paths, and it fits for the one
-- where it fits for the other. The walks that are answered have these words, branch by branch; so each branch has its
-- one path, and any such choice carries the track.
use Rattle.std.proofs.Common.{ℕ, ℤ, pos, negsuc, List, [], ◌∷◌, ◌++◌, ◌≡◌, ◌<◌, refl, sym, ◌∙◌, ap, subst, arith}
use Rattle.std.proofs.Common.{length}
use Rattle.std.proofs.Common.{map, get_or}
use Rattle.std.specs.List.{flat_map}
use Rattle.std.proofs.lemmas.List.{get_or-map, length-map}
use Rattle.ideal_tri.specs.Words.{inverse_word, reduce, but_last}
use Rattle.ideal_tri.specs.Triangulations.{IsTriangulation}
use Rattle.tri_atlas.specs.Maps.{IsMap}
use Rattle.free_groupoid.specs.Walks.{DualWalk}
use Rattle.train_track.specs.Tracks.{IsSingleInTriangles, switches_of}
use Rattle.train_track.specs.Branches.{IsBranchList, letter_at, words_of}
use Rattle.carry_map.specs.Anchors.{Place}
use Rattle.carry_map.specs.CarriedMaps.{Carrying, IsCarried, goes_to, connection, final}
use Rattle.carry_map.specs.CarryingWalks.{CarryingWalks, carrying_of}
use Rattle.carry_map.specs.AnchorAnswers.{carrying_by, train_path, Fits, walk_by, FitsBy}
use Rattle.carry_map.specs.AnchorLaws.{AreConnected, HavePaths, AllAnchorLaws}
use Rattle.std.specs.List.{All}

-- ---- the train paths that are kept change nothing at the switches

abbrev with_images : Carrying → List (List ℤ) → Carrying
with_images c images = record { to = c.to; connect = c.connect; images = images }

goes_alike : (switches : List ℤ) (c : Carrying) (images : List (List ℤ)) (x : ℤ)
    → goes_to switches c x ≡ goes_to switches (with_images c images) x
goes_alike switches c images (pos n) = refl
goes_alike switches c images (negsuc n) = refl

connected_alike : (f : ℤ → List ℤ) (switches : List ℤ) (c : Carrying) (images : List (List ℤ)) (x : ℤ)
    → connection f switches c x ≡ connection f switches (with_images c images) x
connected_alike f switches c images (pos n) = refl
connected_alike f switches c images (negsuc n) = refl

path_alike : (f : ℤ → List ℤ) (switches : List ℤ) (c : Carrying) (images : List (List ℤ)) (b : List ℤ)
    → train_path switches f c b ≡ train_path switches f (with_images c images) b
path_alike f switches c images b =
    ap (λ (u : List ℤ). reduce (inverse_word u ++ (flat_map f (but_last b)
    ++ (connection f switches c (final b) ++ (goes_to switches c (final b) ∷ [])))))
    (connected_alike f switches c images (letter_at b 0))
    ∙ ap (λ (u : List ℤ). reduce (inverse_word (connection f switches (with_images c images) (letter_at b 0))
    ++ (flat_map f (but_last b) ++ (u ++ (goes_to switches c (final b) ∷ [])))))
    (connected_alike f switches c images (final b))
    ∙ ap (λ (y : ℤ). reduce (inverse_word (connection f switches (with_images c images) (letter_at b 0))
    ++ (flat_map f (but_last b) ++ (connection f switches (with_images c images) (final b) ++ (y ∷ [])))))
    (goes_alike switches c images (final b))

fits_alike : (ts : List (List ℤ)) (out : List ℤ) (c : Carrying) (images : List (List ℤ)) (b p : List ℤ)
    → Fits ts out c b p → Fits ts out (with_images c images) b p
fits_alike ts out c images b p fits = record {
  long = fits.long;
  begins = fits.begins ∙ goes_alike (switches_of ts out) c images (letter_at b 0);
  ends = fits.ends ∙ goes_alike (switches_of ts out) c images (final b);
  legal = fits.legal;
}

-- ----

module _ (ts : List (List ℤ)) (out : List ℤ) (f : ℤ → List ℤ) (triangles : ℕ → ℕ) (anchors : List Place)
    (connected : AreConnected ts out triangles (carrying_by anchors)) (words : List (List ℤ))
    (fit : All (FitsBy ts out f anchors) words) where
  abbrev walks : List DualWalk
  walks = map (walk_by ts out f anchors) words

  abbrev whole : Carrying
  whole = with_images (carrying_by anchors) (words_of walks)

  letters_at : (j : ℕ) → j < length words
      → get_or (words_of walks) j [] ≡ train_path (switches_of ts out) f (carrying_by anchors) (get_or words j [])
  letters_at j less =
      get_or-map (λ (w : DualWalk). w.letters) walks j (walk_by ts out f anchors []) []
      (omega (arith, length-map words (walk_by ts out f anchors)))
      ∙ ap (λ (w : DualWalk). w.letters)
      (get_or-map (walk_by ts out f anchors) words j [] (walk_by ts out f anchors []) less)

  have_paths : HavePaths ts out words f whole
  have_paths = record {
    one_path_each =
        length-map walks (λ (w : DualWalk). w.letters) ∙ length-map words (walk_by ts out f anchors);
    paths = λ j less. letters_at j less
        ∙ path_alike f (switches_of ts out) (carrying_by anchors) (words_of walks) (get_or words j []);
    fit = λ j less. subst (Fits ts out whole (get_or words j [])) (sym (letters_at j less))
        (fits_alike ts out (carrying_by anchors) (words_of walks) (get_or words j []) _ (fit j [] less));
  }

  connected_whole : AreConnected ts out triangles whole
  connected_whole = record {
    one_label_each = connected.one_label_each;
    one_walk_each = connected.one_walk_each;
    labels = connected.labels;
    switches = connected.switches;
    walks = connected.walks;
    reduced = connected.reduced;
  }

  pub carried_whole : AllAnchorLaws → IsTriangulation ts → IsSingleInTriangles ts out → IsMap ts ts f triangles
      → IsBranchList ts out words → (c : CarryingWalks) → c.to ≡ map (λ (p : Place). p.label) anchors
      → words_of c.connect ≡ map (λ (p : Place). p.connect) anchors → c.images ≡ walks
      → IsCarried ts out words f triangles (carrying_of c)
  carried_whole laws tri single is list c to connect images =
      subst (λ (us : List ℤ). IsCarried ts out words f triangles
      (record { to = us; connect = words_of c.connect; images = words_of c.images })) (sym to)
      (subst (λ (us : List (List ℤ)). IsCarried ts out words f triangles
      (record { to = map (λ (p : Place). p.label) anchors; connect = us; images = words_of c.images })) (sym connect)
      (subst (λ (us : List DualWalk). IsCarried ts out words f triangles
      (record {
        to = map (λ (p : Place). p.label) anchors;
        connect = map (λ (p : Place). p.connect) anchors;
        images = words_of us;
      })) (sym images)
      ((laws ts out f triangles whole tri single is connected_whole).carried words list have_paths)))
