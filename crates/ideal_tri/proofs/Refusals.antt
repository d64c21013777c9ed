-- Triples in which a label stands twice are no triangulation.
use Rattle.std.proofs.Common.{ℤ, pos, List, ◌≡◌, ◌<◌, sym, ◌∙◌, arith, length, take, get_or, length-take-le}
use Rattle.std.specs.List.{Contains}
use Rattle.std.proofs.lemmas.List.{get_or_default, get_or-take}
use Rattle.ideal_tri.specs.Triangulations.{labels_of, IsTriangulation}
use Rattle.ideal_tri.specs.Refusals.{IsFirstRepeated}
use Rattle.ideal_tri.proofs.Triangles.{IsOnce-triangulation}
use Rattle.ideal_tri.proofs.Tables.{distinct_of_counts}

-- a label read a second time stands at two places, but each label of a triangulation at one
pub repeated_no_gluing : (ts : List (List ℤ)) (x : ℤ) → IsFirstRepeated ts x → ¬ IsTriangulation ts
repeated_no_gluing ts x r h = two r.again
  where
    two : Contains (take r.place (labels_of ts)) x → ⊥
    two (k, below, is) =
        let within : r.place < length (labels_of ts) = r.within in
        let long : length (take r.place (labels_of ts)) ≡ r.place =
        length-take-le r.place (labels_of ts) (omega arith) in
        let first : get_or (labels_of ts) k (pos 0) ≡ x =
        get_or_default (labels_of ts) k (pos 0) x (omega arith)
        ∙ sym (get_or-take r.place (labels_of ts) k x (omega arith))
        ∙ is in
        let second : get_or (labels_of ts) r.place (pos 0) ≡ x =
        get_or_default (labels_of ts) r.place (pos 0) x r.within ∙ r.is in
        distinct_of_counts (labels_of ts) (IsOnce-triangulation ts h).once k r.place (omega arith) r.within
        (first ∙ sym second)
