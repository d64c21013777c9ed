-- The list of the images of a vector, as it grows.
use Rattle.std.proofs.Common.{◌≡◌, ◌<◌, ◌+◌, ◌-◌, inl, inr, ℕ, zero, suc, List, [], ◌∷◌, ◌++◌, length}
use Rattle.std.proofs.Common.{Bool, true, false, get_or, refl, sym, ◌∙◌, ap, subst, arith}
use Rattle.std.proofs.lemmas.Bool.{cases_eq}
use Rattle.std.proofs.lemmas.List.{length-append, get_or_append_left, get_or_read}
use Rattle.std.proofs.Math.Seq.{get_or-append_seam}
use Rattle.ideal_tri.specs.Vectors.{IsMulticurve}
use Rattle.tri_atlas.specs.Arena.{Arena, triangulation}
use Rattle.tri_atlas.specs.Moves.{Move}
use Rattle.tri_atlas.specs.MovedVectors.{vector_along, OverflowsAt}
use Rattle.edge_coords.specs.Coordinates.{Coordinates, AreSmall}
use Rattle.edge_coords.specs.declared.coords.TheConstants.{COORDINATE_LIMIT}
use Rattle.multicurve_cert.specs.Candidates.{HasSmallImage, image_number}
use Rattle.multicurve_cert.specs.LastTests.{AreAtBase}
use Rattle.multicurve_cert.specs.inside.Images.{AreImages, AreImagesOf, IsImageNumber}
use Rattle.multicurve_cert.specs.Candidates.{Overflows}
use Rattle.multicurve_cert.specs.inside.Images.{coords_at, first_of}
use Rattle.multicurve_cert.specs.PowerLaws.{PowerLaws}

pub base_curve : (arena : Arena) (c : Coordinates) → AreAtBase arena c
    → IsMulticurve (triangulation arena 0) c.numbers
base_curve arena c h = subst (λ (t : ℕ). IsMulticurve (triangulation arena t) c.numbers) h.base h.coordinates.multicurve

-- an image, as it is read
pub read_image : (arena : Arena) (moves : List Move) (w : List ℕ) (list : List Coordinates)
    → AreImagesOf arena moves w list → (i n : ℕ) (image : Coordinates) → i ≡ n → i < length list
    → image ≡ get_or list i image → IsImageNumber arena moves w n image
read_image arena moves w list images i n image number within is =
    subst (λ (k : ℕ). IsImageNumber arena moves w k image) number
    (subst (IsImageNumber arena moves w i) (sym (get_or_read list i image within is _)) (images.each i within))

module _ (arena : Arena) (moves : List Move) (laws : PowerLaws (triangulation arena 0) moves) where
  first_image : (vector : Coordinates) → AreAtBase arena vector
      → IsImageNumber arena moves vector.numbers 0 vector
  first_image vector here = record {
    at_base = here;
    numbers = sym (laws.none vector.numbers (base_curve arena vector here));
    small = laws.none_small vector.numbers;
  }

  alone : (vector : Coordinates) → AreAtBase arena vector → (n : ℕ) → n < 1
      → IsImageNumber arena moves vector.numbers n (coords_at (vector ∷ []) n)
  alone vector here zero within = first_image vector here
  alone vector here (suc n) within = absurd (omega arith)

  -- the vector alone
  pub images_start : (vector : Coordinates) → AreAtBase arena vector → AreImages arena moves false (vector ∷ [])
  images_start vector here = record {
    images = record { some = omega arith; each = alone vector here };
    end = λ ended. absurd (let no : false ≡ true = ended in grind arith);
  }

  module _ (w : List ℕ) (list : List Coordinates) (images : AreImagesOf arena moves w list)
      (begins : w ≡ first_of list) where
    starts : AreAtBase arena (coords_at list 0)
    starts = (images.each 0 images.some).at_base

    pub first_curve : IsMulticurve (triangulation arena 0) w
    first_curve = subst (IsMulticurve (triangulation arena 0)) (sym begins) (base_curve arena _ starts)

    pub first_small : AreSmall w
    first_small = subst AreSmall (sym begins) starts.coordinates.small

    module _ (n : ℕ) (last : Coordinates) (there : IsImageNumber arena moves w n last) where
      small_there : AreSmall (image_number (triangulation arena 0) moves w n)
      small_there = subst AreSmall there.numbers there.at_base.coordinates.small

      next_image : (image : Coordinates) → AreAtBase arena image → image.numbers ≡ vector_along moves last.numbers
          → HasSmallImage (triangulation arena 0) moves last.numbers
          → IsImageNumber arena moves w (n + 1) image
      next_image image here is low = record {
        at_base = here;
        numbers = is ∙ ap (vector_along moves) there.numbers ∙ sym (laws.next w n first_curve);
        small = laws.next_small w n first_curve first_small small_there there.small
            (subst (HasSmallImage (triangulation arena 0) moves) there.numbers low);
      }

      next_overflows : (k : ℕ) → OverflowsAt COORDINATE_LIMIT (triangulation arena 0) last.numbers moves k
          → Overflows (triangulation arena 0) moves w (n + 1)
      next_overflows k large =
          laws.next_large w n k first_curve first_small small_there there.small
          (subst (λ (v : List ℕ). OverflowsAt COORDINATE_LIMIT (triangulation arena 0) v moves k) there.numbers large)

    -- one more at the end
    images_more : (image : Coordinates) → IsImageNumber arena moves w (length list) image
        → AreImagesOf arena moves w (list ++ image ∷ [])
    images_more image new = record {
      some = let some : 0 < length list = images.some in omega (arith, length-append list (image ∷ []));
      each = λ n within. elim (cases_eq n (length list)) [
        | inl e ↦ subst (λ (k : ℕ). IsImageNumber arena moves w k (coords_at (list ++ image ∷ []) k)) (sym e)
            (subst (IsImageNumber arena moves w (length list)) (sym (get_or-append_seam list image [] _)) new)
        | inr apart ↦
            let low : n < length list = omega (arith, length-append list (image ∷ []), apart) in
            subst (IsImageNumber arena moves w n) (sym (get_or_append_left list (image ∷ []) _ n low))
            (images.each n low)
      ];
    }

module _ (arena : Arena) (moves : List Move) (laws : PowerLaws (triangulation arena 0) moves) (ended : Bool)
    (list : List Coordinates) (images : AreImages arena moves ended list) where
  some : 0 < length list
  some = images.images.some

  last_place : length list ≡ length list - 1 + 1
  last_place = let many : 0 < length list = some in omega arith

  last_image : IsImageNumber arena moves (first_of list) (length list - 1) (coords_at list (length list - 1))
  last_image = images.images.each (length list - 1) (let many : 0 < length list = some in omega arith)

  -- the last image, as it is read
  pub is_last : (n : ℕ) (last : Coordinates) → n ≡ length list → last ≡ get_or list (n - 1) last
      → last ≡ coords_at list (length list - 1)
  is_last n last all is =
      get_or_read list (length list - 1) last (let many : 0 < length list = some in omega arith)
      (subst (λ (m : ℕ). last ≡ get_or list (m - 1) last) all is) _

  pub read_last : (last : Coordinates) → last ≡ coords_at list (length list - 1)
      → IsImageNumber arena moves (first_of list) (length list - 1) last
  read_last last is = subst (IsImageNumber arena moves (first_of list) (length list - 1)) (sym is) last_image

  first_stays : (image : Coordinates) → first_of list ≡ first_of (list ++ image ∷ [])
  first_stays image =
      ap (λ (c : Coordinates). c.numbers) (sym (get_or_append_left list (image ∷ []) _ 0 some))

  module _ (last : Coordinates) (is_there : last ≡ coords_at list (length list - 1)) where
    -- the image of the last is the next
    pub images_next : (image : Coordinates) → ended ≡ false → AreAtBase arena image
        → image.numbers ≡ vector_along moves last.numbers
        → HasSmallImage (triangulation arena 0) moves last.numbers
        → AreImages arena moves ended (list ++ image ∷ [])
    images_next image going here is low = record {
      images = subst (λ (w : List ℕ). AreImagesOf arena moves w (list ++ image ∷ [])) (first_stays image)
          (images_more arena moves laws (first_of list) list images.images refl image
          (subst (λ (n : ℕ). IsImageNumber arena moves (first_of list) n image) (sym last_place)
          (next_image arena moves laws (first_of list) list images.images refl (length list - 1) last
          (read_last last is_there) image here is low)));
      end = λ over. absurd (let no : true ≡ false = sym over ∙ going in grind arith);
    }

    -- or none is
    pub images_end : (k : ℕ) → OverflowsAt COORDINATE_LIMIT (triangulation arena 0) last.numbers moves k
        → AreImages arena moves true list
    images_end k large = record {
      images = images.images;
      end = λ over. subst (Overflows (triangulation arena 0) moves (first_of list)) (sym last_place)
          (next_overflows arena moves laws (first_of list) list images.images refl (length list - 1) last
          (read_last last is_there) k large);
    }
