-- Arrays of triangles, filled from the front.
use Rattle.std.proofs.Common.{ℕ, List, [], ◌∷◌, ◌++◌, ◌≡◌, ◌+◌, ◌<◌, ◌≤◌, sym, ◌∙◌, ap, arith, length, map, take, set}
use Rattle.std.proofs.Common.{get_or}
use Rattle.std.specs.List.{range_with_len}
use Rattle.std.proofs.lemmas.List.{take_more, take_all, take_more_set, length-set, length-map, get_or-map}
use Rattle.std.proofs.lemmas.List.FromFn.{length-range_with_len, get_or-range_with_len}
use Rattle.free_groupoid.specs.declared.triangles.TheConstants.{TRIANGLES}

-- the first k places hold the first k of these numbers
pub record IsFilled (numbers array : List ℕ) (k : ℕ) : Type 0 where
  pub room : length array ≡ TRIANGLES
  pub front : take k array ≡ take k numbers

pub filled_more : (numbers array : List ℕ) (k v : ℕ) → IsFilled numbers array k → k < TRIANGLES → k < length numbers
    → v ≡ get_or numbers k v
    → IsFilled numbers (set array k v) (k + 1)
filled_more numbers array k v h room inside is_v =
    let long : length array ≡ TRIANGLES = h.room in
    record {
      room = length-set array k v ∙ h.room;
      front = take_more_set array k v (omega arith) ∙ ap (λ (xs : List ℕ). xs ++ (v ∷ [])) h.front
          ∙ ap (λ (x : ℕ). take k numbers ++ (x ∷ [])) is_v ∙ sym (take_more numbers k v inside);
    }

pub filled_all : (numbers array : List ℕ) (k : ℕ) → IsFilled numbers array k → length numbers ≤ k
    → take k array ≡ numbers
filled_all numbers array k h all = h.front ∙ take_all k numbers all

-- ---- each number in its own place

pub counted_more : (array : List ℕ) (n k : ℕ) → IsFilled (range_with_len 0 n) array k → n ≤ TRIANGLES → k < n
    → IsFilled (range_with_len 0 n) (set array k k) (k + 1)
counted_more array n k h few inside =
    let place : k < length (range_with_len 0 n) = omega (arith, length-range_with_len 0 n) in
    filled_more (range_with_len 0 n) array k k h (omega arith) place (let same : k
    ≡ get_or (range_with_len 0 n) k k = omega (arith, get_or-range_with_len 0 n k k inside) in same)

pub counted_all : (array : List ℕ) (n k : ℕ) → IsFilled (range_with_len 0 n) array k → k ≡ n
    → take n array ≡ range_with_len 0 n
counted_all array n k h all =
    ap (λ (m : ℕ). take m array) (sym all) ∙ filled_all (range_with_len 0 n) array k h (omega (
      arith,
      length-range_with_len 0 n,
    ))

-- ---- a function of each number

pub mapped_more : (f : ℕ → ℕ) (numbers array : List ℕ) (k v : ℕ) → IsFilled (map f numbers) array k
    → length numbers ≤ TRIANGLES → k < length numbers
    → v ≡ f (get_or numbers k 0) → IsFilled (map f numbers) (set array k v) (k + 1)
mapped_more f numbers array k v h few inside is_v =
    filled_more (map f numbers) array k v h (omega arith) (omega (arith, length-map numbers f)) (is_v
    ∙ sym (get_or-map f numbers k 0 v inside))

pub mapped_all : (f : ℕ → ℕ) (numbers array : List ℕ) (k : ℕ) → IsFilled (map f numbers) array k → k ≡ length numbers
    → take (length numbers) array ≡ map f numbers
mapped_all f numbers array k h all =
    ap (λ (m : ℕ). take m array) (sym all) ∙ filled_all (map f numbers) array k h (omega (arith, length-map numbers f))
