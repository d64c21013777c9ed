-- Where a rule for certificates of periodic words fails, the certificate doesn't hold.
use Rattle.std.proofs.Common.{ℕ, zero, suc, ℤ, pos, List, [], ◌≡◌, ◌+◌, refl, subst, arith, get_or}
use Rattle.std.specs.List.{repeat}
use Rattle.ideal_tri.specs.SurfaceLaws.{SurfaceLaws}
use Rattle.ideal_tri.specs.Triangulations.{IsTriangulation, IsWalk}
use Rattle.tri_atlas.specs.MapLaws.{PathLaws}
use Rattle.tri_atlas.specs.Maps.{path_map}
use Rattle.tri_atlas.specs.Moves.{Move, ArePath}
use Rattle.cert_text.specs.Holds.{IsPeriodicCertificate}
use Rattle.cert_text.specs.Limits.{letter_cap}
use Rattle.cert_checker.specs.PeriodicRules.{IsPeriodicRefusal, by_order, by_paths, by_reasons, by_reason, by_cap}
use Rattle.cert_checker.specs.PeriodicRules.{by_path, by_equation, by_kept}
use Rattle.cert_checker.proofs.TriangleImages.{unique, nonempty}
use Rattle.cert_checker.proofs.WordTurns.{within_fewer}

-- a path from a triangulation to itself, several times
path_often : PathLaws → (triples : List (List ℤ)) (moves : List Move) (n : ℕ) → ArePath triples moves triples
    → ArePath triples (repeat n moves) triples
path_often laws triples moves zero path = refl
path_often laws triples moves (suc n) path =
    laws.append triples triples triples moves (repeat n moves) path (path_often laws triples moves n path)

pub excluded : SurfaceLaws → PathLaws → (triples : List (List ℤ)) (moves : List Move) (order : ℕ)
    (paths reasons : List (List ℤ)) (rule place : ℕ) → IsTriangulation triples → ArePath triples moves triples
    → IsPeriodicRefusal triples moves order paths reasons rule place
    → ¬ IsPeriodicCertificate triples moves order paths reasons
excluded surface laws triples moves order paths reasons rule place sound path (by_order is at fails) c =
    fails (c.positive, c.within_limit)
excluded surface laws triples moves order paths reasons rule place sound path (by_paths is at ordered fails) c =
    fails c.inner.one_per_triangle
excluded surface laws triples moves order paths reasons rule place sound path (by_reasons is at ordered one_each fails) c =
    fails c.one_reason_each
excluded surface laws triples moves order paths reasons rule place sound path (by_reason i is at counted first) c =
    first.fails (c.loops i first.within)
excluded surface laws triples moves order paths reasons rule place sound path (by_cap i is at counted loops first) c =
    first.fails
    (within_fewer laws.repeats triples letter_cap moves (i + 1) order (omega (arith, first.within)) c.within_cap)
excluded surface laws triples moves order paths reasons rule place sound path (by_path triangles is turned first) c =
    let along = c.inner.inner in
    let same : along.triangles place ≡ triangles place =
    unique surface triples triples (path_map (repeat order moves)) along.triangles triangles sound along.map turned.map
    (nonempty laws triples triples (repeat order moves) sound (path_often laws triples moves order path)) place
    first.within in
    first.fails (
      subst (λ (t : ℕ). IsWalk triples place (get_or paths place []) t) same (along.inner.walks place first.within),
      c.inner.reduced place first.within,
    )
excluded surface laws triples moves order paths reasons rule place sound path (by_equation triangles is turned walks first)
    c =
    first.fails (c.inner.inner.inner.equations (pos place) first.within)
excluded surface laws triples moves order paths reasons rule place sound path (by_kept triangles i is at turned inner first)
    c =
    first.fails (c.moved i first.within)
