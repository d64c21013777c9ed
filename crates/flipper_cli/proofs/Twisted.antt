-- What `twist` answers: the steps that are printed are those of the twist, and each refusal of a curve is shown
-- as itself.
use Rattle.std.proofs.Common.{◌≡◌, ◌⊎◌, inl, inr, ℕ, ℤ, List, Result, Ok, Err, Vec, IsErrAnd, refl, sym, ◌∙◌, subst, ap}
use Rattle.std.specs.declared.alloc.Global.{Global}
use Rattle.ideal_tri.specs.Labels.{edge_of}
use Rattle.ideal_tri.specs.Triangulations.{IsTriangulation}
use Rattle.ideal_tri.specs.Vectors.{IsMulticurve}
use Rattle.edge_coords.specs.Coordinates.{AreSmall}
use Rattle.surface_lib.specs.Described.{Described}
use Rattle.surface_lib.specs.declared.twister.Hand.{Hand}
use Rattle.surface_lib.specs.declared.twister.Hand.TheVariants.{Plus}
use Rattle.surface_lib.specs.declared.twister.TwistError.{TwistError}
use Rattle.surface_lib.specs.declared.twister.TwistError.TheVariants as error
use Rattle.twist_compile.specs.TwistLaws.{TwistLaws}
use Rattle.twist_compile.specs.TwistPaths.{IsCompiled, IsCompiledFrom, IsTwistable, exchange_images}
use Rattle.twist_compile.specs.declared.twist_path.TwistParts.{TwistParts}
use Rattle.flipper_cli.specs.Headline.{AreTwistSteps}
use Rattle.flipper_cli.specs.RefusalCauses.{for_twist}
use Rattle.flipper_cli.specs.Report.{IsTwistReport, IsVectorReport}
use Rattle.flipper_cli.specs.inside.Shown.{shown}
use Rattle.flipper_cli.specs.Twists.{twist_lines}
use Rattle.flipper_cli.specs.declared.refusal.Refusal.{Refusal}
use Rattle.flipper_cli.specs.declared.refusal.Refusal.TheVariants.{Memory}
use Rattle.flipper_cli.specs.declared.refusal.TwistFault.TheVariants.{TotalOver, NotOneCurve, Peripheral, Stuck}

-- ---- a curve that is refused

as_itself : (d : Described) (hand : Hand) (w : List ℕ) (e : TwistError) → IsCompiled d.triangles w Plus (Err e)
    → IsTwistReport d hand w (shown (Err (for_twist e))) ⊎ (for_twist e ≡ Memory)
as_itself d hand w (error.TotalOver n) is = inl (inl (TotalOver n, is, refl))
as_itself d hand w error.NotOneCurve is = inl (inl (NotOneCurve, is, refl))
as_itself d hand w error.Peripheral is = inl (inl (Peripheral, is, refl))
as_itself d hand w (error.Stuck at) is = inl (inl (Stuck _, (at, is, refl), refl))
as_itself d hand w error.Memory is = inr refl

pub twist_refused : (d : Described) (hand : Hand) (w : List ℕ) (e : TwistError) (r : Result (Vec ℕ Global) Refusal)
    → IsMulticurve d.triangles w → AreSmall w → IsCompiled d.triangles w Plus (Err e)
    → IsErrAnd r (λ z. z ≡ for_twist e)
    → IsVectorReport d (IsTwistReport d hand) w (shown r) ⊎ (r ≡ Err Memory)
twist_refused d hand w e (Ok bytes) multicurve small is h = absurd h
twist_refused d hand w e (Err z) multicurve small is h =
    elim (as_itself d hand w e is) [
      | inl report ↦
          inl (inr (
            multicurve,
            small,
            subst (λ (y : Refusal). IsTwistReport d hand w (shown (Err y))) (sym h) report,
          ))
      | inr short ↦ inr (ap (λ (y : Refusal). Err y) (h ∙ short))
    ]

-- ---- the steps

-- what is known of the steps of the twist of hand plus
abbrev pub AreParts : List (List ℤ) → List ℕ → TwistParts → Type 0
AreParts triangles w parts =
    IsTwistable triangles w
    × ((end : List (List ℤ)) × (p : ℤ) × (q : ℤ) × IsCompiledFrom triangles w parts.down.items end p q
    × (parts.flip ≡ edge_of q) × (parts.relabel.items ≡ exchange_images end p q))

pub are_steps : TwistLaws → (triangles : List (List ℤ)) (w : List ℕ) (hand : Hand) (parts : TwistParts)
    (printed : List ℕ) → IsTriangulation triangles → IsMulticurve triangles w → AreParts triangles w parts
    → printed ≡ twist_lines hand parts.down.items parts.flip parts.relabel.items
    → AreTwistSteps triangles w hand printed
are_steps laws triangles w hand parts printed triangulation multicurve (twistable, (end, p, q, from, flip, images)) is =
    record {
      down = parts.down.items;
      end = end;
      p = p;
      q = q;
      is_twistable = twistable;
      are_steps = from;
      is_twist =
          laws.twist triangles w parts.down.items end p q hand triangulation multicurve twistable from;
      is_printed =
          is
          ∙ ap (λ (n : ℕ). twist_lines hand parts.down.items n parts.relabel.items) flip
          ∙ ap (λ (xs : List ℤ). twist_lines hand parts.down.items (edge_of q) xs) images;
    }
