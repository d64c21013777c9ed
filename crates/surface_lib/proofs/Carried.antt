-- Values in one target, carried to another: what holds of the parts of a word holds of the word.
use Rattle.std.proofs.Common.{◌≡◌, ℕ, zero, suc, List, [], ◌∷◌, Option, Some, None, refl, ap, ◌∙◌}
use Rattle.std.specs.Option.{option_map}
use Rattle.surface_lib.specs.Pieces.{Piece, empty, group, name, piece, pieces}
use Rattle.surface_lib.specs.Powers.{power}
use Rattle.surface_lib.specs.Words.{Names, Target, taken_if, named_if, value_of_piece, value_of_pieces}
use Rattle.surface_lib.specs.Words.{value_of_text}
use Rattle.surface_lib.specs.declared.power.Power.{Power}

-- ---- a map that keeps all that a target has, where f maps the moves of names

pub record IsCarried {M N V W : Type 0} (from : Target M V) (to : Target N W) (f : List M → List N) (h : V → W) : Type 0 where
  pub none : h from.none ≡ to.none
  pub joined : (a b : V) → h (from.joined a b) ≡ to.joined (h a) (h b)
  pub taken : (k : Power) (a : V) → h (from.taken k a) ≡ to.taken k (h a)
  pub named : (moves : List M) → h (from.named moves) ≡ to.named (f moves)

module _ {M N V W : Type 0} (from : Target M V) (to : Target N W) (f : List M → List N) (h : V → W)
    (c : IsCarried from to f h) where
  carried_taken : (a : V) (b : W) → h a ≡ b → (k : Option Power) → h (taken_if from a k) ≡ taken_if to b k
  carried_taken a b e None = c.none
  carried_taken a b e (Some k) = c.taken k a ∙ ap (to.taken k) e

  carried_named : (moves : Option (List M)) → h (named_if from moves) ≡ named_if to (option_map f moves)
  carried_named None = c.none
  carried_named (Some moves) = c.named moves

  module _ (names : Names M) (others : Names N) (same : (s : List ℕ) → option_map f (names s) ≡ others s) where
    carried_piece : (u : List ℕ → V) (v : List ℕ → W) → ((s : List ℕ) → h (u s) ≡ v s)
        → (q : Piece) → h (value_of_piece from names u q) ≡ value_of_piece to others v q
    carried_piece u v e empty = c.none
    carried_piece u v e (group s k) = carried_taken (u s) (v s) (e s) (power k)
    carried_piece u v e (name s k) =
        carried_taken _ _ (carried_named (names s) ∙ ap (λ (z : Option (List N)). named_if to z) (same s)) (power k)

    carried_pieces : (u : List ℕ → V) (v : List ℕ → W) → ((s : List ℕ) → h (u s) ≡ v s)
        → (qs : List (List ℕ)) (a : V) (b : W) → h a ≡ b
        → h (value_of_pieces from names u a qs) ≡ value_of_pieces to others v b qs
    carried_pieces u v e [] a b is = is
    carried_pieces u v e (q ∷ qs) a b is =
        carried_pieces u v e qs _ _
        (c.joined a (value_of_piece from names u (piece q))
        ∙ ap (λ z. to.joined z (h (value_of_piece from names u (piece q)))) is
        ∙ ap (to.joined b) (carried_piece u v e (piece q)))

    pub carried_text : (levels : ℕ) (s : List ℕ)
        → h (value_of_text from names levels s) ≡ value_of_text to others levels s
    carried_text zero s = c.none
    carried_text (suc k) s =
        carried_pieces (value_of_text from names k) (value_of_text to others k) (carried_text k) (pieces s) from.none
        to.none c.none

-- ---- over the same names

as_it_is : {A : Type 0} (o : Option A) → option_map (λ x. x) o ≡ o
as_it_is None = refl
as_it_is (Some x) = refl

pub carried_over_same : {M V W : Type 0} (from : Target M V) (to : Target M W) (h : V → W)
    → IsCarried from to (λ moves. moves) h → (names : Names M) (levels : ℕ) (s : List ℕ)
    → h (value_of_text from names levels s) ≡ value_of_text to names levels s
carried_over_same from to h c names levels s =
    carried_text from to (λ moves. moves) h c names names (λ t. as_it_is (names t)) levels s
