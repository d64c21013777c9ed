-- What a certificate says.
use Rattle.std.specs.Prelude.{ℕ, ℤ, List, map, Option, Vec}
use Rattle.std.specs.Global.{Global}
use Rattle.edge_coords.specs.declared.lines.CurveLine.{CurveLine}
use Rattle.cert_text.specs.declared.carried_track.Anchor.{Anchor}
use Rattle.cert_text.specs.declared.carried_track.Pa.{Pa}
use Rattle.cert_text.specs.declared.certificate.Certificate.{Certificate as Declared}
use Rattle.cert_text.specs.declared.certificate.Certificate.TheVariants as declared
use Rattle.cert_text.specs.declared.lines.TrackLine.{TrackLine}

-- a label that a switch goes to, by the switch's label that is not negative, and a walk there
pub record Anchored : Type 0 where
  pub switch : ℤ
  pub to : ℤ
  pub connect : List ℤ

-- a train track that the map carries of the flips backwards, the word so many times, and the flips:
-- its left-out corners, where its switches go, a train path for each branch, the matrix of their
-- passes, row by row, an exponent that makes it positive, and a row with bounds of its growth
pub record CarriedTrack : Type 0 where
  pub power : ℕ
  pub flips : List ℕ
  pub left_out : List ℤ
  pub anchors : List Anchored
  pub images : List (List ℤ)
  pub matrix : List (List ℕ)
  pub exponent : ℕ
  pub u : List ℕ
  pub low : ℕ × ℕ
  pub high : ℕ × ℕ

-- a periodic word: its order, the walks by which the power is inner, and for each smaller power a
-- walk that it moves. A reducible word: the coordinates of a multicurve that it fixes. A
-- pseudo-Anosov word: a train track that is carried. And a word without a verdict: for each power
-- that was refuted a walk that it moves, where a map had too many letters the power and their
-- number, and a line for each candidate that failed
pub data Certificate : Type 0 where
  periodic : (order : ℕ) (paths reasons : List (List ℤ)) → Certificate
  reducible : (coords : List ℕ) → Certificate
  pseudo_anosov : (track : CarriedTrack) → Certificate
  unknown : (powers : List (List ℤ)) (capped : Option (ℕ × ℕ)) (curves : List CurveLine)
      (tracks : List TrackLine) → Certificate

-- what the declared certificate says
abbrev pub walks_of : List (Vec ℤ Global) → List (List ℤ)
walks_of walks = map (λ walk. walk.items) walks

abbrev pub rows_of : List (Vec ℕ Global) → List (List ℕ)
rows_of rows = map (λ row. row.items) rows

abbrev pub anchor_seen : Anchor → Anchored
anchor_seen a = record { switch = a.switch; to = a.to; connect = a.connect.items }

abbrev pub anchors_seen : List Anchor → List Anchored
anchors_seen anchors = map anchor_seen anchors

abbrev pub track_seen : Pa → CarriedTrack
track_seen t = record {
  power = t.power;
  flips = t.flips.items;
  left_out = t.left_out.items;
  anchors = anchors_seen t.anchors.items;
  images = walks_of t.images.items;
  matrix = rows_of t.matrix.items;
  exponent = t.exponent;
  u = t.u.items;
  low = t.low;
  high = t.high;
}

abbrev pub seen : Declared → Certificate
seen (declared.Periodic order paths reasons) =
    periodic order (walks_of paths.items) (walks_of reasons.items)
seen (declared.Reducible coords) = reducible coords.items
seen (declared.PseudoAnosov track) = pseudo_anosov (track_seen track)
seen (declared.Unknown powers capped curves tracks) =
    unknown (walks_of powers.items) capped curves.items tracks.items
