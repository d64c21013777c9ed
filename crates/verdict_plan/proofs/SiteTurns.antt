-- The sites as the cycles take turns.
--
-- Of C cycles, candidate n + C is the next of the cycle of candidate n: n + C and n have the same remainder by C, and
-- the quotient of the former is one greater. From one round r to the next, r + 1, the power grows by one at the same
-- depth, where 4 doesn't divide r + 1, and otherwise begins anew one flip deeper. Of the last C candidates the sites
-- wait in their order, fewer where there have been fewer; the first of them is that of candidate n - C, and the new
-- site of candidate n goes behind the last.
use Rattle.std.proofs.Common.{◌≡◌, ◌<◌, ◌≤◌, ◌+◌, ◌/◌, ◌%◌, ◌++◌, ℕ, ℤ, List, [], ◌∷◌, length}
use Rattle.std.proofs.Common.{All, get_or, refl, sym, ◌∙◌, ap, subst, arith}
use Rattle.std.proofs.lemmas.List.{length-append, length-map, get_or-map}
use Rattle.std.proofs.Math.Nat.{add-div_right, add-mod_right, div-eq_of_lt, mod-eq_of_lt}
use Rattle.tri_atlas.specs.Arena.{Arena, triangulation}
use Rattle.tri_atlas.specs.Paths.{MovePath}
use Rattle.free_groupoid.specs.Walks.{DualWalk}
use Rattle.train_track.specs.Branches.{words_of}
use Rattle.multicurve_cert.specs.CurveAnswers.{vector_of}
use Rattle.multicurve_cert.specs.Cycles.{IsCycle, cycle_vector}
use Rattle.verdict_plan.specs.FirstTracks.{depth_of, power_of}
use Rattle.verdict_plan.specs.inside.Sites.{IsSite, IsSiteOf, AreSites, AreSitesFrom, IsNextDepth, IsNextPower}
use Rattle.verdict_plan.specs.inside.Sites.{IsProgress, IsStanding}
use Rattle.verdict_plan.specs.inside.Turns.{AreOtherSites, IsFollowing}
use Rattle.verdict_plan.specs.declared.progress.Progress.{Progress}
use Rattle.verdict_plan.specs.declared.progress.Progress.TheVariants.{Taken, Past}
use Rattle.verdict_plan.specs.declared.sites.Site.{Site}
use Rattle.verdict_plan.specs.declared.sites.Standing.{Standing}
use Rattle.verdict_plan.specs.declared.sites.Standing.TheVariants.{Failed, Open}
use Rattle.cycle_stages.specs.declared.stages.Stage.{Stage}

-- ---- rounds

module _ (before after : Arena) (word : MovePath) (round : ℕ) (old new : Site) where
  pub deeper_follows : round % 4 ≡ 0 → IsNextDepth before after word old new
      → IsFollowing before after word round old new
  deeper_follows fourth next w last one_more h =
      let depth : last / 4 + 1 ≡ round / 4 = omega arith in
      let power : 1 ≡ 1 + round % 4 = omega arith in
      subst (λ (d : ℕ). IsSite after word w d (1 + round % 4) new) depth
      (subst (λ (p : ℕ). IsSite after word w (last / 4 + 1) p new) power (next w (last / 4) (1 + last % 4) h))

pub power_follows : (arena : Arena) (word : MovePath) (round : ℕ) (old new : Site) → ¬ (round % 4 ≡ 0)
    → IsNextPower arena word old new → IsFollowing arena arena word round old new
power_follows arena word round old new no_fourth next w last one_more h =
    let depth : last / 4 ≡ round / 4 = omega arith in
    let power : 1 + last % 4 + 1 ≡ 1 + round % 4 = omega arith in
    subst (λ (d : ℕ). IsSite arena word w d (1 + round % 4) new) depth
    (subst (λ (p : ℕ). IsSite arena word w (last / 4) p new) power (next w (last / 4) (1 + last % 4) h))

-- ---- one stage

-- what serves for one power serves for the next
pub progress_on : (arena : Arena) (word : MovePath) (s : Stage) (power : ℕ) (progress : Progress)
    → IsProgress arena word s power progress → IsProgress arena word s (power + 1) progress
progress_on arena word s power (Taken way times) h = (omega (arith, h.0), h.1)
progress_on arena word s power (Past letters) h = λ any enough. h any (omega (arith, enough))

standing_on : (arena : Arena) (word : MovePath) (s : Stage) (power : ℕ) (standing : Standing)
    → IsStanding arena word s power standing → IsStanding arena word s (power + 1) standing
standing_on arena word s power (Failed line) h = h
standing_on arena word s power (Open track progress) h = (h.0, progress_on arena word s power progress h.1)

pub serves_on : (arena : Arena) (word : MovePath) (site : Site) → IsNextPower arena word site site
serves_on arena word site w depth power h = record {
  kept = h.kept;
  stage = h.stage;
  standing = standing_on arena word site.stage power site.standing h.standing;
}

-- ---- candidates

module _ (before after : Arena) (word : MovePath) (cycles : List (List ℤ)) (some : 0 < length cycles)
    (same : triangulation before 0 ≡ triangulation after 0) where
  pub follows_on : (k n : ℕ) (old new : Site) → k + length cycles ≡ n
      → IsFollowing before after word (n / length cycles) old new → IsSiteOf before word cycles k old
      → IsSiteOf after word cycles n new
  follows_on k n old new turn follows h =
      let one_more : k / length cycles + 1 ≡ n / length cycles =
      sym (add-div_right k some) ∙ ap (λ (m : ℕ). m / length cycles) turn in
      let cycle : k % length cycles ≡ n % length cycles =
      sym (add-mod_right k (length cycles)) ∙ ap (λ (m : ℕ). m % length cycles) turn in
      subst (λ (w : List ℕ). IsSite after word w (depth_of cycles n) (power_of cycles n) new)
      (ap (λ (i : ℕ). cycle_vector (triangulation before 0) (get_or cycles i [])) cycle
      ∙ ap (λ (ts : List (List ℤ)). vector_of ts cycles n) same)
      (follows (vector_of (triangulation before 0) cycles k) (k / length cycles) one_more h)

-- the first candidate of a cycle
pub first_of_cycle : (arena : Arena) (word : MovePath) (walks : List DualWalk) (n : ℕ) (walk : DualWalk)
    (w : List ℕ) (site : Site) → n < length walks → walk ≡ get_or walks n walk
    → w ≡ cycle_vector (triangulation arena 0) walk.letters → IsSite arena word w 0 1 site
    → IsSiteOf arena word (words_of walks) n site
first_of_cycle arena word walks n walk w site inside is vector h =
    let many : length (words_of walks) ≡ length walks = length-map walks (λ (v : DualWalk). v.letters) in
    let among : n < length (words_of walks) = omega (arith, many) in
    let none : 0 ≡ n / length (words_of walks) = sym (div-eq_of_lt among) in
    let cycle : n ≡ n % length (words_of walks) = sym (mod-eq_of_lt among) in
    let letters : walk.letters ≡ get_or (words_of walks) (n % length (words_of walks)) [] =
    ap (λ (v : DualWalk). v.letters) is
    ∙ sym (get_or-map (λ (v : DualWalk). v.letters) walks n walk [] inside)
    ∙ ap (λ (i : ℕ). get_or (words_of walks) i []) cycle in
    subst (λ (r : ℕ). IsSite arena word (vector_of (triangulation arena 0) (words_of walks) n) (r / 4) (1 + r % 4) site)
    none
    (subst (λ (v : List ℕ). IsSite arena word v 0 1 site)
    (vector ∙ ap (cycle_vector (triangulation arena 0)) letters) h)

-- ---- the queue

module _ (arena : Arena) (word : MovePath) (cycles : List (List ℤ)) where
  pub no_sites : (sites : List Site) → sites ≡ [] → AreSites arena word cycles 0 sites
  no_sites sites none = subst (AreSites arena word cycles 0) (sym none) (record {
    first = 0;
    from = tt;
    up_to = refl;
    one_each = omega arith;
  })

  from_more : (k n : ℕ) (sites : List Site) (site : Site) → k + length sites ≡ n
      → AreSitesFrom arena word cycles k sites → IsSiteOf arena word cycles n site
      → AreSitesFrom arena word cycles k (sites ++ site ∷ [])
  from_more k n [] site up_to h new =
      let here : n ≡ k = omega (arith, up_to) in
      (subst (λ (m : ℕ). IsSiteOf arena word cycles m site) here new, tt)
  from_more k n (first ∷ sites) site up_to h new =
      let on : k + 1 + length sites ≡ n = omega (arith, up_to) in
      (h.0, from_more (k + 1) n sites site on h.1 new)

  module _ (n : ℕ) (sites : List Site) where
    -- the site goes behind the last
    pub sites_more : (site : Site) (more : List Site) → AreOtherSites arena word cycles n sites
        → IsSiteOf arena word cycles n site → more ≡ sites ++ site ∷ []
        → AreSites arena word cycles (n + 1) more
    sites_more site more h new pushed = subst (AreSites arena word cycles (n + 1)) (sym pushed) (record {
      first = h.first;
      from = from_more h.first n sites site h.up_to h.from new;
      up_to = omega (arith, length-append sites (site ∷ []), h.up_to);
      one_each = omega (arith, length-append sites (site ∷ []), h.one_each);
    })

    module _ (h : AreSites arena word cycles n sites) where
      -- a cycle has none yet
      pub still_first : length sites < length cycles → n < length cycles
      still_first few = omega (arith, h.one_each, few)

      -- the first leaves
      module _ (full : length cycles ≤ length sites) (site : Site) (rest : List Site)
          (popped : sites ≡ site ∷ rest) where
        pub before_by_turn : h.first + length cycles ≡ n
        before_by_turn = omega (arith, h.one_each, h.up_to, full)

        leaves : AreSitesFrom arena word cycles h.first (site ∷ rest)
        leaves = subst (AreSitesFrom arena word cycles h.first) popped h.from

        pub first_leaves : IsSiteOf arena word cycles h.first site
        first_leaves = leaves.0

        pub others_left : AreOtherSites arena word cycles n rest
        others_left =
            let longer : length sites ≡ length (site ∷ rest) = ap length popped in record {
              first = h.first + 1;
              from = leaves.1;
              up_to = omega (arith, longer, h.up_to);
              one_each = omega (arith, longer, h.one_each, full);
            }

-- ---- the cycle of a site

module _ (arena : Arena) (word : MovePath) (walks : List DualWalk) (n : ℕ) (sites : List Site)
    (h : AreSites arena word (words_of walks) n sites) (len : ℕ) (is : len ≡ length sites) where
  many_words : length (words_of walks) ≡ length walks
  many_words = length-map walks (λ (v : DualWalk). v.letters)

  pub first_walk : len < length walks → n < length walks
  first_walk few = omega (arith, h.one_each, many_words, is, few)

  pub one_each_there : length walks ≤ len → length (words_of walks) ≤ length sites
  one_each_there full = omega (arith, many_words, is, full)

pub cycle_there : (triples : List (List ℤ)) (walks : List DualWalk) (n : ℕ) (walk : DualWalk) → n < length walks
    → walk ≡ get_or walks n walk → All (IsCycle triples) (words_of walks) → IsCycle triples walk.letters
cycle_there triples walks n walk inside is each =
    let among : n < length (words_of walks) = omega (arith, length-map walks (λ (v : DualWalk). v.letters), inside) in
    subst (IsCycle triples)
    (get_or-map (λ (v : DualWalk). v.letters) walks n walk [] inside ∙ sym (ap (λ (v : DualWalk). v.letters) is))
    (each n [] among)
