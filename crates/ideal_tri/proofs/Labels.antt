-- Laws of labels, and the test of equality.
use Rattle.std.proofs.Common.{ℤ, pos, negsuc, Bool, true, false, List, ◌≡◌, ◌≢◌, ◌⊎◌, inl, inr, refl, sym, ◌∙◌, ap}
use Rattle.std.specs.Ordering.{int_eq}
use Rattle.std.proofs.lemmas.Bool.Decides.{Decides-int_eq, not_from_Decides}
use Rattle.ideal_tri.specs.Labels.{inverse, edge_of, with_sign_of}
use Rattle.ideal_tri.specs.Triangulations.{IsLabel}
use Rattle.ideal_tri.specs.LabelLaws.{LabelLaws}
use Rattle.ideal_tri.proofs.Order.{order_laws}

pub inverse-inverse : (x : ℤ) → inverse (inverse x) ≡ x
inverse-inverse (pos n) = refl
inverse-inverse (negsuc n) = refl

pub not_own_inverse : (x : ℤ) → x ≢ inverse x
not_own_inverse (pos n) e = cc
not_own_inverse (negsuc n) e = cc

-- the inverse label goes both ways
pub inverse_turns : (x y : ℤ) → y ≡ inverse x → x ≡ inverse y
inverse_turns x y e = sym (inverse-inverse x) ∙ ap inverse (sym e)

pub same_or_not : (x y : ℤ) → (x ≡ y) ⊎ (x ≢ y)
same_or_not x y = go (int_eq x y) refl
  where
    go : (b : Bool) → int_eq x y ≡ b → (x ≡ y) ⊎ (x ≢ y)
    go true e = inl ((Decides-int_eq x y).0 e)
    go false e = inr (not_from_Decides _ (Decides-int_eq x y) e)

pub int_eq-same : (x y : ℤ) → x ≡ y → int_eq x y ≡ true
int_eq-same x y e = (Decides-int_eq x y).1 e

pub int_eq-other : (x y : ℤ) → x ≢ y → int_eq x y ≡ false
int_eq-other x y n = go (int_eq x y) refl
  where
    go : (b : Bool) → int_eq x y ≡ b → int_eq x y ≡ false
    go true e = absurd (n ((Decides-int_eq x y).0 e))
    go false e = e

-- an edge has two labels
pub two_labels : (x y : ℤ) → edge_of x ≡ edge_of y → (x ≡ y) ⊎ (x ≡ inverse y)
two_labels (pos m) (pos n) e = inl (ap pos e)
two_labels (pos m) (negsuc n) e = inr (ap pos e)
two_labels (negsuc m) (pos n) e = inr (ap negsuc e)
two_labels (negsuc m) (negsuc n) e = inl (ap negsuc e)

pub edge_of-inverse : (x : ℤ) → edge_of (inverse x) ≡ edge_of x
edge_of-inverse (pos n) = refl
edge_of-inverse (negsuc n) = refl

pub edge_of-with_sign_of : (x y : ℤ) → edge_of (with_sign_of x y) ≡ edge_of y
edge_of-with_sign_of (pos n) y = refl
edge_of-with_sign_of (negsuc n) y = edge_of-inverse y

pub with_sign_of-twice : (x y : ℤ) → with_sign_of x (with_sign_of x y) ≡ y
with_sign_of-twice (pos n) y = refl
with_sign_of-twice (negsuc n) y = inverse-inverse y

pub inverse_label : (triples : List (List ℤ)) (x : ℤ) → IsLabel triples x → IsLabel triples (inverse x)
inverse_label triples (pos n) h = h
inverse_label triples (negsuc n) h = h

pub label_laws : LabelLaws
label_laws = record {
  twice = inverse-inverse;
  apart = not_own_inverse;
  edge = edge_of-inverse;
  of_edge = two_labels;
  label = inverse_label;
  signed_edge = edge_of-with_sign_of;
  signed_twice = with_sign_of-twice;
  same_or_not = same_or_not;
  test_same = int_eq-same;
  test_other = int_eq-other;
  order = order_laws;
}
