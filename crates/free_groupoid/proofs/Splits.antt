-- A word split where its letters stop being of one edge: from its front on, and from its end back.
use Rattle.std.proofs.Common.{ℕ, ℤ, Bool, List, [], ◌∷◌, ◌++◌, ◌≡◌, ◌≢◌, ◌⊎◌, ◌+◌, inl, inr, refl, sym, ◌∙◌, ap, nat_eq}
use Rattle.std.proofs.Common.{cond, take, subst}
use Rattle.std.specs.List.{take_while, prefix_len}
use Rattle.std.proofs.Math.Numerals.{one-add}
use Rattle.std.proofs.lemmas.Bool.{cases_eq, eq-eqb, ne_eqb}
use Rattle.ideal_tri.specs.Labels.{edge_of}
use Rattle.free_groupoid.proofs.Powers.{Only, Only-nil, Only-cons, StartsApart}

-- ---- the front

-- the letters of the edge of x that a word begins with
abbrev pub front : ℤ → List ℤ → List ℤ
front x w = take_while (λ y. nat_eq (edge_of y) (edge_of x)) w

front-more : (x y : ℤ) (w : List ℤ) → edge_of y ≡ edge_of x → front x (y ∷ w) ≡ y ∷ front x w
front-more x y w e =
    ap (λ (b : Bool). take (cond b (1 + rest) 0) (y ∷ w)) (eq-eqb (edge_of y) (edge_of x) e)
    ∙ ap (λ (n : ℕ). take n (y ∷ w)) (one-add rest)
  where
    rest : ℕ
    rest = prefix_len (λ z. nat_eq (edge_of z) (edge_of x)) w

front-none : (x y : ℤ) (w : List ℤ) → edge_of y ≢ edge_of x → front x (y ∷ w) ≡ []
front-none x y w n =
    ap (λ (b : Bool). take (cond b (1 + prefix_len (λ z. nat_eq (edge_of z) (edge_of x)) w) 0) (y ∷ w))
    (ne_eqb (edge_of y) (edge_of x) n)

-- a word is its front and a rest that begins with another edge
pub record FrontSplit (x : ℤ) (w : List ℤ) : Type 0 where
  pub rest : List ℤ
  pub parts : w ≡ front x w ++ rest
  pub only : Only x (front x w)
  pub apart : StartsApart x rest

pub front_split : (x : ℤ) (w : List ℤ) → FrontSplit x w
front_split x [] = record { rest = []; parts = refl; only = Only-nil x; apart = tt }
front_split x (y ∷ w) =
    elim (cases_eq (edge_of y) (edge_of x)) [
      | inl e ↦
          (let split = front_split x w in
          record {
            rest = split.rest;
            parts =
                ap (λ (z : List ℤ). y ∷ z) split.parts ∙ ap (λ (z : List ℤ). z ++ split.rest)
                (sym (front-more x y w e));
            only = subst (Only x) (sym (front-more x y w e)) (Only-cons x y (front x w) e split.only);
            apart = split.apart;
          })
      | inr n ↦
          record {
            rest = y ∷ w;
            parts = ap (λ (z : List ℤ). z ++ (y ∷ w)) (sym (front-none x y w n));
            only = subst (Only x) (sym (front-none x y w n)) (Only-nil x);
            apart = n;
          }
    ]

-- ---- the end

-- a last letter l of another edge than y, and behind it letters of the edge of y alone
pub record EndSplit (y : ℤ) (w : List ℤ) : Type 0 where
  pub before : List ℤ
  pub last : ℤ
  pub end : List ℤ
  pub parts : w ≡ before ++ (last ∷ end)
  pub apart : edge_of last ≢ edge_of y
  pub only : Only y end

pub end_split : (y : ℤ) (w : List ℤ) → Only y w ⊎ EndSplit y w
end_split y [] = inl (Only-nil y)
end_split y (x ∷ w) =
    elim (end_split y w) [
      | inl only ↦
          elim (cases_eq (edge_of x) (edge_of y)) [
            | inl e ↦ inl (Only-cons y x w e only)
            | inr n ↦ inr (record { before = []; last = x; end = w; parts = refl; apart = n; only = only })
          ]
      | inr split ↦
          inr (record {
            before = x ∷ split.before;
            last = split.last;
            end = split.end;
            parts = ap (λ (z : List ℤ). x ∷ z) split.parts;
            apart = split.apart;
            only = split.only;
          })
    ]
