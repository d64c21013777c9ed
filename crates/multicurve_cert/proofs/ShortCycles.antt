-- Each triangulation of at most 32 triangles has a cycle: a closed walk of one to eight letters with nothing to
-- reduce that visits no triangle twice, the least of those that run along its curve.
--
-- Two different reduced walks u, v of at most four letters lead from one triangle to one triangle. So u v⁻¹ is closed,
-- has at most eight letters and does not reduce to nothing. Its cyclic reduction has a part that visits no triangle
-- twice, and the least word of that part's curve is a cycle.
use Rattle.std.proofs.Common.{ℕ, ℤ, pos, List, [], ◌++◌, ◌≡◌, ◌≢◌, ◌<◌, ◌≤◌, inl, inr, sym, ◌∙◌, ap}
use Rattle.std.proofs.Common.{subst, append_assoc, arith, length, length-append}
use Rattle.std.proofs.lemmas.List.{append-nil, length-map, get_or-map}
use Rattle.ideal_tri.specs.LabelLaws.{LabelLaws}
use Rattle.ideal_tri.specs.WordLaws.{WordLaws}
use Rattle.ideal_tri.specs.SurfaceLaws.{SurfaceLaws}
use Rattle.ideal_tri.specs.Words.{inverse_word, IsReduced, reduce, cyclic_reduce}
use Rattle.ideal_tri.specs.Curves.{IsSameCurve}
use Rattle.ideal_tri.specs.Triangulations.{IsTriangulation, IsLabel, IsWalk, triangle_of}
use Rattle.free_groupoid.specs.InnerLaws.{IsReducedLoop}
use Rattle.multicurve_cert.specs.Cycles.{IsCycle, letter_at}
use Rattle.multicurve_cert.proofs.Distinct.{Distinct, Distinct-at}
use Rattle.multicurve_cert.proofs.Pigeonhole.{Shared}
use Rattle.multicurve_cert.proofs.Known.{Known, known}
use Rattle.multicurve_cert.proofs.ReducedWalks.{end_of, IsShort, two_walks}
use Rattle.multicurve_cert.proofs.ClosedWalks.{core_loop}
use Rattle.multicurve_cert.proofs.SimpleWalks.{starts, IsSimple, Simple, simple_walk, simple-same_curve}
use Rattle.multicurve_cert.proofs.LeastWords.{LeastOf, least_word}

-- edge 0 is an edge
first_label : (triples : List (List ℤ)) → IsTriangulation triples → IsLabel triples (pos 0)
first_label triples tri = let some : 0 < length triples = tri.some in omega (arith, tri.edges)

-- the triangles of two letters differ
once-at : (triples : List (List ℤ)) (w : List ℤ) → Distinct (starts triples w) → (i j : ℕ) → i < j → j < length w
    → triangle_of triples (letter_at w i) ≢ triangle_of triples (letter_at w j)
once-at triples w h i j before inside e =
    Distinct-at (starts triples w) i j 0 h before (omega (arith, length-map w (triangle_of triples)))
    (get_or-map (triangle_of triples) w i (pos 0) 0 (omega arith)
    ∙ e
    ∙ sym (get_or-map (triangle_of triples) w j (pos 0) 0 inside))

module _ (triples : List (List ℤ)) (k : Known triples) where
  -- reduced words are the same where one and the inverse of the other reduce to nothing
  no_remainder : (u v : List ℤ) → IsReduced u → IsReduced v → reduce (u ++ inverse_word v) ≡ [] → u ≡ v
  no_remainder u v h i e =
      sym (k.words.reduction.fixed u h)
      ∙ ap reduce (sym (append-nil u))
      ∙ sym (k.words.reduction.cancel u (inverse_word v) [])
      ∙ ap (λ (z : List ℤ). reduce (u ++ (inverse_word v ++ (z ++ [])))) (k.words.inverses.twice v)
      ∙ ap (λ (z : List ℤ). reduce (u ++ (inverse_word v ++ z))) (append-nil v)
      ∙ ap reduce (sym (append_assoc u (inverse_word v) v))
      ∙ k.words.reduction.left (u ++ inverse_word v) [] v e
      ∙ k.words.reduction.fixed v i

  -- a closed walk of at most eight letters with nothing to reduce
  record ShortLoop : Type 0 where
    word : List ℤ
    loop : IsReducedLoop triples word
    short : length word ≤ 8

  -- two ways from triangle s to one triangle, there and back
  there_and_back : (s : ℕ) → Shared (IsShort triples k s) (end_of triples s) → ShortLoop
  there_and_back s h = record {
    word = cyclic_reduce around;
    loop = core_loop triples k s around closed (λ e. h.apart (no_remainder u v h.of_first.reduced h.of_second.reduced e));
    short =
        let a : length u ≤ 4 = h.of_first.short in
        let b : length v ≤ 4 = h.of_second.short in
        omega (arith, k.words.cyclic.no_longer around, length-append u (inverse_word v), k.words.inverses.as_long v);
  }
    where
      u : List ℤ
      u = h.first

      v : List ℤ
      v = h.second

      around : List ℤ
      around = u ++ inverse_word v

      closed : IsWalk triples s around s
      closed =
          k.walks.join s (end_of triples s v) s u (inverse_word v)
          (subst (IsWalk triples s u) h.same h.of_first.walk)
          (k.walks.back s (end_of triples s v) v h.of_second.walk)

  short_loop : length triples ≤ 32 → ShortLoop
  short_loop few =
      let l : IsLabel triples (pos 0) = first_label triples k.triangulation in
      there_and_back (triangle_of triples (pos 0)) (two_walks triples k (pos 0) l few)

  -- the least word of the curve of a simple walk is a cycle
  least_cycle : (u : List ℤ) → IsSimple triples u → length u ≤ 8 → (w : List ℤ) × IsCycle triples w
  least_cycle u h few = (
    m.word,
    record {
      loop = simple.loop;
      short = as_short m.same;
      once = once-at triples m.word simple.once;
      least = λ v s. m.least v (k.words.curves.along u m.word v m.same s);
    },
  )
    where
      m : LeastOf u
      m = least_word k.labels u

      simple : IsSimple triples m.word
      simple = simple-same_curve triples k u m.word m.same h

      as_short : IsSameCurve u m.word → length m.word ≤ 8
      as_short (inl r) = omega (arith, k.words.rotations.as_long u m.word r)
      as_short (inr r) =
          omega (arith, k.words.rotations.as_long (inverse_word u) m.word r, k.words.inverses.as_long u)

-- there is a cycle
pub has_cycle : LabelLaws → WordLaws → SurfaceLaws → (triples : List (List ℤ)) → IsTriangulation triples
    → length triples ≤ 32 → (w : List ℤ) × IsCycle triples w
has_cycle labels words surface triples tri few =
    let k : Known triples = known labels words surface triples tri in
    let l : ShortLoop triples k = short_loop triples k few in
    let s : Simple triples k l.word = simple_walk triples k l.word l.loop in
    let as_short : length s.word ≤ length l.word = s.short in
    let bound : length l.word ≤ 8 = l.short in
    least_cycle triples k s.word s.simple (omega arith)
