-- The tree of a certificate has no float, so that it has one compact text.
use Rattle.std.proofs.Common.{◌≡◌, ℤ, pos, negsuc, List, [], ◌∷◌, map, Bool, false, ◌||◌, Option, Some, None, ℕ, refl}
use Rattle.std.specs.Fmt.{decimal}
use Rattle.serde_json.specs.Data.{Data, string}
use Rattle.serde_json.specs.Written.{has_float, items_have_float}
use Rattle.cert_text.specs.Certificates.{Anchored, Certificate, periodic, reducible, pseudo_anosov, unknown}
use Rattle.cert_text.specs.Texts.{list_of, integer, natural, walk_data, walks_data, lines_data, coords_data}
use Rattle.cert_text.specs.Texts.{numbers_data, rows_data, anchor_data, anchors_data}
use Rattle.cert_text.specs.Texts.{capped_data, certificate_data}
use Rattle.cert_text.specs.Texts.{curve_text, track_text}

neither : (a b : Bool) → a ≡ false → b ≡ false → (a || b) ≡ false
neither a b e h = rw (e, h) refl

list_without : {X : Type 0} (f : X → Data) (xs : List X) → ((x : X) → has_float (f x) ≡ false)
    → items_have_float (list_of (map f xs)) ≡ false
list_without f [] each = refl
list_without f (x ∷ xs) each = neither _ _ (each x) (list_without f xs each)

integer_without : (z : ℤ) → has_float (integer z) ≡ false
integer_without (pos n) = refl
integer_without (negsuc n) = refl

walk_without : (walk : List ℤ) → has_float (walk_data walk) ≡ false
walk_without walk = list_without integer walk integer_without

walks_without : (walks : List (List ℤ)) → has_float (walks_data walks) ≡ false
walks_without walks = list_without walk_data walks walk_without

lines_without : (lines : List (List ℕ)) → has_float (lines_data lines) ≡ false
lines_without lines = list_without string lines (λ line. refl)

coords_without : (coords : List ℕ) → has_float (coords_data coords) ≡ false
coords_without coords = list_without (λ n. string (decimal n)) coords (λ n. refl)

numbers_without : (numbers : List ℕ) → has_float (numbers_data numbers) ≡ false
numbers_without numbers = list_without natural numbers (λ n. refl)

rows_without : (rows : List (List ℕ)) → has_float (rows_data rows) ≡ false
rows_without rows = list_without numbers_data rows numbers_without

anchor_without : (a : Anchored) → has_float (anchor_data a) ≡ false
anchor_without a =
    neither _ _ (walk_without a.connect)
    (neither _ _ (integer_without a.switch) (neither _ _ (integer_without a.to) refl))

anchors_without : (anchors : List Anchored) → has_float (anchors_data anchors) ≡ false
anchors_without anchors = list_without anchor_data anchors anchor_without

capped_without : (capped : Option (ℕ × ℕ)) → has_float (capped_data capped) ≡ false
capped_without None = refl
capped_without (Some c) = refl

pub no_float : (c : Certificate) → has_float (certificate_data c) ≡ false
no_float (periodic order paths reasons) =
    neither _ _ (walks_without paths) (neither _ _ (walks_without reasons) refl)
no_float (reducible coords) = neither _ _ (coords_without coords) refl
no_float (pseudo_anosov track) =
    neither _ _ (anchors_without track.anchors)
    (neither _ _ (numbers_without track.flips)
    (neither _ _ (walks_without track.images)
    (neither _ _ (walk_without track.left_out)
    (neither _ _ (rows_without track.matrix) (neither _ _ (numbers_without track.u) refl)))))
no_float (unknown powers capped curves tracks) =
    neither _ _ (capped_without capped)
    (neither _ _ (lines_without (map curve_text curves))
    (neither _ _ (walks_without powers) (neither _ _ (lines_without (map track_text tracks)) refl)))
