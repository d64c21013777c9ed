-- Powers of inner paths are inner.
--
-- A path whose map is inner, taken several times, has an inner map again, since inner maps compose. So where the n-th
-- power of a path is inner, the n-th power of its m-th power is: it is the m-th power of the n-th.
use Rattle.std.proofs.Common.{◌≡◌, ◌+◌, ◌*◌, ◌++◌, ℕ, zero, suc, ℤ, List, [], sym, ◌∙◌, ap, subst, arith, mul_comm}
use Rattle.std.proofs.Common.{suc-mul}
use Rattle.std.specs.List.{repeat}
use Rattle.std.proofs.Math.Path.{fun_ext}
use Rattle.ideal_tri.specs.Triangulations.{IsTriangulation}
use Rattle.tri_atlas.specs.MapLaws.{RepeatLaws}
use Rattle.tri_atlas.specs.Maps.{IsMap, after, path_map}
use Rattle.tri_atlas.specs.Moves.{Move}
use Rattle.free_groupoid.specs.Inner.{IsInner}
use Rattle.free_groupoid.specs.Periodic.{IsInnerPath}
use Rattle.cert_checker.proofs.Known.{Known}

-- ---- lists taken several times

module _ (A : Type 0) (laws : RepeatLaws A) where
  pub repeat_times : (m n : ℕ) (xs : List A) → repeat m (repeat n xs) ≡ repeat (m * n) xs
  repeat_times zero n xs = ap (λ (k : ℕ). repeat k xs) (let none : 0 ≡ zero * n = omega arith in none)
  repeat_times (suc m) n xs =
      ap (λ (ys : List A). repeat n xs ++ ys) (repeat_times m n xs)
      ∙ sym (laws.join n (m * n) xs)
      ∙ ap (λ (k : ℕ). repeat k xs) (let more : n + m * n ≡ suc m * n = omega (arith, suc-mul m n) in more)

  pub repeat_exchange : (m n : ℕ) (xs : List A) → repeat m (repeat n xs) ≡ repeat n (repeat m xs)
  repeat_exchange m n xs =
      repeat_times m n xs
      ∙ ap (λ (k : ℕ). repeat k xs) (mul_comm m n)
      ∙ sym (repeat_times n m xs)

-- ---- inner paths

module _ (known : Known) (triples : List (List ℤ)) (sound : IsTriangulation triples) where
  inner_none : IsInnerPath triples []
  inner_none = (
    (λ t. []),
    record {
      triangles = λ t. t;
      map = known.maps.walks.identity triples;
      inner = known.inner.identity triples;
    },
  )

  inner_joined : (first second : List Move) → IsInnerPath triples first → IsInnerPath triples second
      → IsInnerPath triples (first ++ second)
  inner_joined first second (p, h) (q, k) =
      let same : after (path_map second) (path_map first) ≡ path_map (first ++ second) =
      fun_ext (λ x. sym (known.maps.paths.join first second x)) in (
        (λ t. p t ++ q (h.triangles t)),
        record {
          triangles = λ t. k.triangles (h.triangles t);
          map =
              subst (λ (f : ℤ → List ℤ). IsMap triples triples f (λ t. k.triangles (h.triangles t))) same
              (known.maps.walks.compose triples triples triples (path_map first) (path_map second) h.triangles
              k.triangles sound h.map k.map);
          inner =
              subst
              (λ (f : ℤ → List ℤ). IsInner triples f (λ t. k.triangles (h.triangles t))
              (λ t. p t ++ q (h.triangles t))) same
              (known.inner.compose triples (path_map first) (path_map second) h.triangles k.triangles p q sound h.map
              k.map h.inner k.inner);
        },
      )

  inner_often : (n : ℕ) (moves : List Move) → IsInnerPath triples moves → IsInnerPath triples (repeat n moves)
  inner_often zero moves h = inner_none
  inner_often (suc n) moves h = inner_joined moves (repeat n moves) h (inner_often n moves h)

  -- where the n-th power is inner, so is that of the m-th power
  pub inner_power : (m n : ℕ) (moves : List Move) → IsInnerPath triples (repeat n moves)
      → IsInnerPath triples (repeat n (repeat m moves))
  inner_power m n moves h =
      subst (IsInnerPath triples) (repeat_exchange Move known.maps.paths.repeats m n moves)
      (inner_often m (repeat n moves) h)
