-- The tracks of one further candidate, one repair after another.
--
-- The sites grow at the end: where the last one is repaired, the repaired one goes behind it, and what held of each two
-- neighbours holds of the last two as well. With each repair there is one flip more.
use Rattle.std.proofs.Common.{Result, Ok, Err, IfOk}
use Rattle.std.proofs.Common.{◌≡◌, ◌<◌, ◌+◌, ◌++◌, ℕ, ℤ, List, [], ◌∷◌, length, inl, inr, refl, sym, ◌∙◌, ap, subst, arith}
use Rattle.std.proofs.lemmas.Bool.{cases_lt}
use Rattle.std.proofs.lemmas.List.{length-append, get_or_append_left}
use Rattle.std.proofs.Math.Seq.{get_or-append_seam}
use Rattle.tri_atlas.specs.Arena.{Arena, triangulation}
use Rattle.tri_atlas.specs.Moves.{Move}
use Rattle.cycle_stages.specs.KeptStages.{IsSame}
use Rattle.cycle_stages.specs.declared.stages.Stage.{Stage}
use Rattle.cert_text.specs.declared.carried_track.Pa.{Pa}
use Rattle.cert_text.specs.declared.lines.TrackLine.{TrackLine}
use Rattle.verdict_plan.specs.FurtherTracks.{Site, IsRepaired, most_tracks, site_at}
use Rattle.verdict_plan.specs.inside.FurtherSites.{IsOutcomeFrom, IsOutcomeThere, IsReached, site_of}

-- ---- the sites

pub same_site : (arena : Arena) (s t : Stage) → IsSame s t → site_of arena t ≡ site_of arena s
same_site arena s t same =
    λ i. record {
      edges = same.edges i;
      triangles = triangulation arena (same.coords i).tri;
      vector = (same.coords i).numbers;
    }

module _ (triples : List (List ℤ)) (moves : List Move) (power : ℕ) (first : Site) where
  pub reached_first : (last : Site) → last ≡ first → IsReached triples moves power first 0 last
  reached_first last same = record {
    sites = first ∷ [];
    as_many = refl;
    from = refl;
    to = sym same;
    repaired = λ i within. absurd (omega (arith, within));
  }

  module _ (repairs : ℕ) (s t : Site) (h : IsReached triples moves power first repairs s)
      (next : IsRepaired triples moves power s t) where
    abbrev more : List Site
    more = h.sites ++ t ∷ []

    as_before : (i : ℕ) → i < length h.sites → site_at more i ≡ site_at h.sites i
    as_before i within = get_or_append_left h.sites (t ∷ []) _ i within

    at_end : (i : ℕ) → i ≡ length h.sites → site_at more i ≡ t
    at_end i last = ap (site_at more) last ∙ get_or-append_seam h.sites t [] _

    step : (i : ℕ) → i + 1 < length more → IsRepaired triples moves power (site_at more i) (site_at more (i + 1))
    step i within = elim (cases_lt (i + 1) (length h.sites)) [
      | inl before ↦
          subst (λ (a : Site). IsRepaired triples moves power a (site_at more (i + 1)))
          (sym (as_before i (omega (arith, before))))
          (subst (IsRepaired triples moves power (site_at h.sites i)) (sym (as_before (i + 1) before))
          (h.repaired i before))
      | inr not_before ↦
          let last : i + 1 ≡ length h.sites =
          omega (arith, within, not_before, length-append h.sites (t ∷ [])) in
          let here : i ≡ repairs = omega (arith, last, h.as_many) in
          let old : site_at more i ≡ s =
          as_before i (omega (arith, last)) ∙ ap (site_at h.sites) here ∙ h.to in
          subst (λ (a : Site). IsRepaired triples moves power a (site_at more (i + 1))) (sym old)
          (subst (IsRepaired triples moves power s) (sym (at_end (i + 1) last)) next)
    ]

    pub reached_more : IsReached triples moves power first (repairs + 1) t
    reached_more = record {
      sites = more;
      as_many = omega (arith, h.as_many, length-append h.sites (t ∷ []));
      from = as_before 0 (omega (arith, h.as_many)) ∙ h.from;
      to = at_end (repairs + 1) (omega (arith, h.as_many));
      repaired = step;
    }

  -- one flip more
  pub flips_more : (s t : Site) → IsRepaired triples moves power s t → length t.edges ≡ length s.edges + 1
  flips_more s t h = ap length h.edges ∙ length-append s.edges (h.edge ∷ [])

-- ---- what the tests of the last track give

-- after the last repair
pub last_outcome : (triples : List (List ℤ)) (moves : List Move) (power : ℕ) (first last : Site) (repairs : ℕ)
    → repairs + 1 ≡ most_tracks → IsReached triples moves power first repairs last
    → {E : Type 0} (r : Result (Result Pa TrackLine) E) → IfOk r (IsOutcomeThere triples moves power last)
    → IfOk r (IsOutcomeFrom triples moves power first)
last_outcome triples moves power first last repairs all reached (Ok (Ok pa)) there = record {
  repairs = repairs;
  last = last;
  few = omega (arith, all);
  reached = reached;
  passes = there.0;
  holds = there.1;
}
last_outcome triples moves power first last repairs all reached (Ok (Err line)) there = record {
  repairs = repairs;
  last = last;
  few = omega (arith, all);
  reached = reached;
  fails = there;
  ended = inl all;
}
last_outcome triples moves power first last repairs all reached (Err e) there = tt
