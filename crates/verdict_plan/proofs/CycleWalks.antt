-- The walks that are told of a triangulation's cycles have the letters of cycles.
use Rattle.std.proofs.Common.{◌≡◌, ◌∙◌, ap, refl, sym, subst, ℤ, List, [], ◌∷◌, map}
use Rattle.std.specs.List.{All}
use Rattle.std.proofs.lemmas.List.Elements.{All-map}
use Rattle.free_groupoid.specs.Walks.{DualWalk, walk_of_letters}
use Rattle.multicurve_cert.specs.Cycles.{AreCycles, AreCycleWalks, IsCycle}
use Rattle.train_track.specs.Branches.{words_of}

pub each_cycle : (triples words : List (List ℤ)) (walks : List DualWalk) → AreCycleWalks triples words walks
    → All (λ w. IsCycle triples w.letters) walks
each_cycle triples words walks h =
    subst (All (λ (w : DualWalk). IsCycle triples w.letters)) (sym h.1)
    (All-map (λ (w : DualWalk). IsCycle triples w.letters) (walk_of_letters triples) words h.0.each)

-- and their letters are all cycles, in their order
letters_back : (triples words : List (List ℤ)) → words_of (map (walk_of_letters triples) words) ≡ words
letters_back triples [] = refl
letters_back triples (w ∷ words) = ap (λ (ws : List (List ℤ)). w ∷ ws) (letters_back triples words)

pub cycle_words : (triples words : List (List ℤ)) (walks : List DualWalk) → AreCycleWalks triples words walks
    → AreCycles triples (words_of walks)
cycle_words triples words walks h =
    subst (AreCycles triples) (sym (ap words_of h.1 ∙ letters_back triples words)) h.0

-- the same where what is given is equal to what is meant
pub given_cycles : (triples given words : List (List ℤ)) (walks read : List DualWalk) → given ≡ triples → read ≡ walks
    → AreCycleWalks given words walks → AreCycles triples (words_of read)
given_cycles triples given words walks read e is h =
    cycle_words triples words read
    (subst (λ (ts : List (List ℤ)). AreCycleWalks ts words read) e (subst (AreCycleWalks given words) (sym is) h))
