-- The first piece of a text ends before its first dot outside brackets.
use Rattle.std.proofs.Common.{◌≡◌, ◌<◌, ◌≤◌, ◌+◌, ℕ, Bool, true, false, List, [], ◌∷◌, length, take, drop, refl, arith}
use Rattle.std.specs.Prelude.{◌==◌, ◌&&◌, if◌then◌else◌}
use Rattle.std.proofs.lemmas.Grind.{common_steps}
use Rattle.surface_lib.specs.Pieces.{dot, before, parts, in_front, depth_after}

-- a dot outside brackets leaves no bracket open
outside_after : (d c : ℕ) → (c == dot && d == 0) ≡ true → depth_after d c ≡ 0
outside_after d c h = grind (arith, common_steps)

front : List (List ℕ) → ℕ → Bool → List (List ℕ)
front rest c b = if b then [] ∷ rest else in_front c rest

-- the pieces where the first ends at place n: with the text, or at a dot
record IsCut (d : ℕ) (s : List ℕ) (n : ℕ) : Type 0 where
  all : length s ≤ n → parts d s ≡ s ∷ []
  dotted : n < length s → parts d s ≡ take n s ∷ parts 0 (drop (n + 1) s)

is_cut : (d : ℕ) (s : List ℕ) → IsCut d s (before dot d s)
is_cut d [] = record { all = λ _. refl; dotted = λ h. absurd (omega arith) }
is_cut d (c ∷ s) = by (c == dot && d == 0) refl (is_cut (depth_after d c) s)
  where
    by : (b : Bool) → (c == dot && d == 0) ≡ b → IsCut (depth_after d c) s (before dot (depth_after d c) s)
        → IsCut d (c ∷ s) (before dot d (c ∷ s))
    by true h later = record {
      all = λ few. absurd (grind (arith, common_steps));
      dotted = λ more. grind (arith, common_steps, outside_after d c h);
    }
    by false h later = record {
      all = λ few. grind (arith, common_steps, later.all);
      dotted = λ more. grind (arith, common_steps, later.dotted);
    }

pub one_piece : (s : List ℕ) → length s ≤ before dot 0 s → parts 0 s ≡ s ∷ []
one_piece s = (is_cut 0 s).all

pub first_of_pieces : (s : List ℕ) → before dot 0 s < length s
    → parts 0 s ≡ take (before dot 0 s) s ∷ parts 0 (drop (before dot 0 s + 1) s)
first_of_pieces s = (is_cut 0 s).dotted
