-- A generator with flips and a relabelling, from the parts that were read.
use Rattle.std.proofs.Common.{◌≡◌, ℤ, List, Result, Ok, Err, codes, sym, ◌∙◌, ap, subst}
use Rattle.std.specs.Prelude.{MatchResult}
use Rattle.serde_json.specs.Data.{Data}
use Rattle.tri_atlas.specs.Moves.{Move}
use Rattle.surface_lib.specs.Json.{numbers_in}
use Rattle.surface_lib.specs.Readings.{if_ok, read_at}
use Rattle.surface_lib.specs.FlipsForms.{Flipped, FlipsForm, flips_form, flips_in, IsClosedBy, IsReadAsFlips}
use Rattle.surface_lib.specs.inside.Faults.{IsFault}
use Rattle.surface_lib.specs.declared.refused.Refused.{Refused}
use Rattle.surface_lib.specs.declared.refused.Refused.TheVariants.{Fault, Memory}
use Rattle.surface_lib.specs.declared.surface_error.Key.TheVariants.{Flips, Relabel}
use Rattle.surface_lib.specs.declared.surface_error.GeneratorFault.{GeneratorFault}

-- the parts of an object
pub record AreParts (d : Data) (edges images : List ℤ) : Type 0 where
  pub at_flips : read_at Flips (codes "flips") numbers_in d ≡ Ok edges
  pub at_relabel : read_at Relabel (codes "relabel") numbers_in d ≡ Ok images

form_is : (d : Data) (edges images : List ℤ) → AreParts d edges images
    → flips_form d ≡ Ok (record { edges = edges; images = images })
form_is d edges images parts =
    ap (λ (r : Result (List ℤ) GeneratorFault). if_ok r (λ es.
    if_ok (read_at Relabel (codes "relabel") numbers_in d) (λ is.
    Ok (record { edges = es; images = is })))) parts.at_flips
    ∙ ap (λ (r : Result (List ℤ) GeneratorFault). if_ok r (λ is.
    Ok (record { edges = edges; images = is }))) parts.at_relabel

pub read_flips : (base : List (List ℤ)) (d : Data) (edges images : List ℤ) (f : Flipped)
    (result : Result (List Move) GeneratorFault)
    → AreParts d edges images → flips_in base edges ≡ Ok f → IsClosedBy base images f result
    → IsReadAsFlips base d result
read_flips base d edges images f result parts flips closed =
    subst (λ (r : Result FlipsForm GeneratorFault).
    MatchResult r
    (λ form. MatchResult (flips_in base form.edges) (λ g. IsClosedBy base form.images g result)
    (λ fault. result ≡ Err fault))
    (λ fault. result ≡ Err fault)) (sym (form_is d edges images parts))
    (subst (λ (r : Result Flipped GeneratorFault).
    MatchResult r (λ g. IsClosedBy base images g result) (λ fault. result ≡ Err fault)) (sym flips) closed)

pub refused_flips : (base : List (List ℤ)) (d : Data) (edges images : List ℤ) (f : Flipped) (refused : Refused)
    → AreParts d edges images → flips_in base edges ≡ Ok f
    → IsFault (λ fault. IsClosedBy base images f (Err fault)) refused
    → IsFault (λ fault. IsReadAsFlips base d (Err fault)) refused
refused_flips base d edges images f (Fault fault) parts flips closed =
    read_flips base d edges images f (Err fault) parts flips closed
refused_flips base d edges images f Memory parts flips closed = tt
