-- The inverse images of a bijection, written in one pass: each label into the slot of the edge of its image.
use Rattle.std.proofs.Common.{ℕ, ℤ, pos, negsuc, List, ◌≡◌, ◌≢◌, ◌≤◌, ◌<◌, ◌+◌, ◌-◌, inl, inr, refl, sym, ◌∙◌, ap}
use Rattle.std.proofs.Common.{subst, arith, length, take, drop, set, get_or, replicate}
use Rattle.std.proofs.lemmas.Bool.{cases_lt}
use Rattle.std.proofs.lemmas.List.{get_or-set_same, get_or-set_other, get_or-take, length-take-le, length-set}
use Rattle.std.proofs.lemmas.List.{drop-set-lt, length-replicate, drop-replicate}
use Rattle.std.proofs.lemmas.List.FromFn.{fill_by_all}
use Rattle.ideal_tri.specs.declared.tri.TheConstants.{EDGES}
use Rattle.ideal_tri.specs.Labels.{inverse, edge_of, with_sign_of}
use Rattle.ideal_tri.specs.Relabellings.{IsBijection, origin_of, inverse_images}
use Rattle.ideal_tri.proofs.Hits.{place_of_hit, one_place}
use Rattle.ideal_tri.proofs.Bijections.{none_twice}
use Rattle.ideal_tri.proofs.InverseImages.{origin_of-inverse, origin_of-entry}

-- the labels of the first n images are written, and nothing past the edges
pub record AreWritten (images slots : List ℤ) (n : ℕ) : Type 0 where
  pub room : length slots ≡ EDGES
  pub written : (d : ℕ) → d < n
      → get_or slots (edge_of (get_or images d (pos 0))) (pos 0) ≡ with_sign_of (get_or images d (pos 0)) (pos d)
  pub rest : drop (length images) slots ≡ replicate (EDGES - length images) (pos 0)

pub none_written : (images : List ℤ) (x : ℤ) → x ≡ pos 0 → AreWritten images (replicate EDGES x) 0
none_written images x is = record {
  room = length-replicate EDGES x;
  written = λ d below. absurd (omega arith);
  rest = ap (λ (y : ℤ). drop (length images) (replicate EDGES y)) is ∙ drop-replicate (length images) EDGES (pos 0);
}

pub written_more : (images slots : List ℤ) (n : ℕ) → IsBijection images → length images ≤ EDGES → n < length images
    → AreWritten images slots n
    → AreWritten images (set slots (edge_of (get_or images n (pos 0))) (with_sign_of (get_or images n (pos 0)) (pos n)))
    (n + 1)
written_more images slots n h few below before = record {
  room = length-set slots edge label ∙ before.room;
  written = λ d d_below.
      elim (cases_lt d n) [
        | inl l ↦
            get_or-set_other slots edge (edge_of (get_or images d (pos 0))) label (pos 0) (apart d l)
            ∙ before.written d l
        | inr g ↦
            (let same : n ≡ d = omega arith in
            subst (λ (m : ℕ). get_or (set slots edge label) (edge_of (get_or images m (pos 0))) (pos 0) ≡ with_sign_of
            (get_or images m (pos 0)) (pos m)) same
            (get_or-set_same slots edge label (pos 0) (omega (arith, before.room, in_range))))
      ];
  rest = drop-set-lt (length images) slots edge label in_range ∙ before.rest;
}
  where
    edge : ℕ
    edge = edge_of (get_or images n (pos 0))

    label : ℤ
    label = with_sign_of (get_or images n (pos 0)) (pos n)

    in_range : edge_of (get_or images n (pos 0)) < length images
    in_range = h.labels n (pos 0) below

    apart : (d : ℕ) → d < n → edge_of (get_or images d (pos 0)) ≢ edge_of (get_or images n (pos 0))
    apart d l e =
        let same : d ≡ n =
        one_place images (edge_of (get_or images n (pos 0))) d n (none_twice images h _) (omega arith) below e refl in
        omega arith

-- what is written at an edge is the origin of its first label
origin_written : (images : List ℤ) (d : ℕ) (x : ℤ) → IsBijection images → d < length images
    → get_or images d (pos 0) ≡ x
    → origin_of images (pos (edge_of x)) ≡ with_sign_of x (pos d)
origin_written images d (pos e) h below is = ap (origin_of images) (sym is) ∙ origin_of-entry images d h below
origin_written images d (negsuc e) h below is =
    origin_of-inverse images (negsuc e)
    ∙ ap (λ (z : ℤ). inverse (origin_of images z)) (sym is)
    ∙ ap inverse (origin_of-entry images d h below)

pub all_written : (images slots : List ℤ) → IsBijection images → length images ≤ EDGES
    → AreWritten images slots (length images)
    → take (length images) slots ≡ inverse_images images
all_written images slots h few done =
    fill_by_all (λ n. origin_of images (pos n)) (take (length images) slots) (length images) (pos 0)
    (length-take-le (length images) slots (omega (arith, done.room)))
    (λ e below.
    let (d, d_in, is_e) = place_of_hit images e (omega (arith, h.once e below)) in
    get_or-take (length images) slots e (pos 0) below
    ∙ ap (λ (f : ℕ). get_or slots f (pos 0)) (sym is_e)
    ∙ done.written d d_in
    ∙ sym (origin_written images d (get_or images d (pos 0)) h d_in refl)
    ∙ ap (λ (f : ℕ). origin_of images (pos f)) is_e)
