-- What was found of a carried track and its matrix, told of the certificate, or by the line of a test that fails.
use Rattle.std.proofs.Common.{◌≡◌, ◌≤◌, ℕ, ℤ, List, map, refl, sym, ◌∙◌, ap, subst}
use Rattle.tri_atlas.specs.Moves.{Move}
use Rattle.tri_atlas.specs.Maps.{path_map}
use Rattle.train_track.specs.Branches.{TrainTrack, words_of}
use Rattle.transition_matrix.specs.Bounds.{IsBounds}
use Rattle.transition_matrix.specs.Matrices.{Square, IsLeastExponent}
use Rattle.carry_map.specs.AnchorAnswers.{letters_together}
use Rattle.carry_map.specs.CarriedMaps.{Carrying, IsCarried}
use Rattle.carry_map.specs.CarryingWalks.{CarryingWalks as Carried, carrying_of as carrying}
use Rattle.carry_map.specs.Iterates.{IsTransition}
use Rattle.cert_text.specs.Certificates.{Anchored, CarriedTrack}
use Rattle.cert_text.specs.Limits.{exponent_limit, letter_cap}
use Rattle.cert_text.specs.PseudoAnosov.{carrying_of, matrix_of}
use Rattle.cert_text.specs.declared.lines.TrackLine.{TrackLine}
use Rattle.cert_text.specs.declared.lines.TrackLine.TheVariants.{TwoLeftOut, VertexClosed, Cap, NoCommon}
use Rattle.cert_text.specs.declared.lines.TrackLine.TheVariants.{Illegal, PathsCap, NotPrimitive, NoBounds}
use Rattle.verdict_plan.specs.TrackTests.{IsCounted, IsRuledIn, IsTrackLine, train_paths}
use Rattle.verdict_plan.specs.declared.series.Series.{Series}
use Rattle.verdict_plan.specs.declared.track_growth.Growth.{Growth}
use Rattle.verdict_plan.specs.inside.Trials.{GrowsNot, GrowsSo, IsCarriedAlong, IsSoundPass, Tells}

module _ (series : Series) (triples : List (List ℤ)) (path : List Move) (track : TrainTrack) (c : Carried)
    (h : IsCarriedAlong series triples path track c) (m : Square)
    (transition : IsTransition (words_of track.branches) (words_of c.images) m) where
  counted : (n : Square) → n ≡ m → IsCounted series triples path track.left_out (words_of track.branches) h.anchors n
  counted n same = record {
    fitting = h.fitting;
    few_between = h.few_between;
    few_along = subst (λ (ws : List (List ℤ)). letters_together ws ≤ letter_cap) h.images h.few_along;
    matrix =
        subst (IsTransition (words_of track.branches)
        (train_paths triples path track.left_out (words_of track.branches) h.anchors)) (sym same)
        (subst (λ (ws : List (List ℤ)). IsTransition (words_of track.branches) ws m) h.images transition);
  }

  pub told_line : (line : TrackLine) → GrowsNot series m line → IsTrackLine series triples path track.left_out line
  told_line (TwoLeftOut t) never = absurd never
  told_line (VertexClosed v) never = absurd never
  told_line (Cap letters) never = absurd never
  told_line (NoCommon e) never = absurd never
  told_line (Illegal j) never = absurd never
  told_line (PathsCap letters) never = absurd never
  told_line NotPrimitive none = (words_of track.branches, h.anchors, m, counted m refl, none)
  told_line NoBounds none = (words_of track.branches, h.anchors, m, counted m refl, none.0, none.1)

  module _ (growth : Growth) (grows : GrowsSo series m growth) (p : CarriedTrack)
      (tells : Tells track c m growth p) where
    same_matrix : matrix_of p ≡ m
    same_matrix = tells.rows.matrix

    same_carrying : carrying_of p ≡ carrying c
    same_carrying =
        ap (λ (to : List ℤ). record {
          to = to;
          connect = map (λ (a : Anchored). a.connect) p.anchors;
          images = p.images;
        }) tells.to
        ∙ ap (λ (ws : List (List ℤ)). record { to = c.to; connect = ws; images = p.images }) tells.connect
        ∙ ap (λ (ws : List (List ℤ)). record { to = c.to; connect = words_of c.connect; images = ws }) tells.images

    pub sound_pass : IsSoundPass series triples path track.left_out p
    sound_pass = record {
      passing = record {
        branches = words_of track.branches;
        anchors = h.anchors;
        counted = counted (matrix_of p) same_matrix;
        corners = tells.left_out;
        switches = tells.switches ∙ h.on.switches;
        to = tells.to ∙ h.to;
        connect = tells.connect ∙ h.connect;
        images = tells.images ∙ h.images;
        rows = tells.rows.lengths;
        exponent =
            subst (IsLeastExponent (matrix_of p)) (sym tells.exponent)
            (subst (λ (n : Square). IsLeastExponent n growth.exponent) (sym same_matrix) grows.exponent);
        within_limit = subst (λ (k : ℕ). k ≤ exponent_limit) (sym tells.exponent) grows.within_limit;
        bounds = growth.bounds;
        ruled = subst (λ (n : Square). IsRuledIn series n growth.bounds) (sym same_matrix) grows.ruled;
        row = tells.row;
        low = tells.low;
        high = tells.high;
      };
      corners = h.on.labels;
      triangles = h.triangles;
      map = h.map;
      carried =
          subst (λ (k : Carrying). IsCarried triples track.left_out (words_of track.branches) (path_map path)
          h.triangles k) (sym same_carrying) h.carried;
      bounds =
          subst (λ (n : Square). IsBounds n p.u p.low p.high) (sym same_matrix)
          (subst (λ (u : List ℕ). IsBounds m u p.low p.high) (sym tells.row)
          (subst (λ (low : ℕ × ℕ). IsBounds m growth.bounds.u.items low p.high) (sym tells.low)
          (subst (λ (high : ℕ × ℕ). IsBounds m growth.bounds.u.items growth.bounds.low high) (sym tells.high)
          grows.bounds)));
    }
