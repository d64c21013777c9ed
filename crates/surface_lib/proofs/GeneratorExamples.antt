-- A generator of the once-punctured torus: what is read of it, by computation.
use Rattle.std.proofs.Common.{◌≡◌, ℤ, pos, negsuc, List, [], ◌∷◌, Ok, Err, refl}
use Rattle.std.specs.Prelude.{codes}
use Rattle.serde_json.specs.Data.{Data, Items, no_items, item, no_members, member, array, number, object}
use Rattle.serde_json.specs.Data.{string, unsigned, negative}
use Rattle.tri_atlas.specs.Moves.{flip}
use Rattle.surface_lib.specs.Described.{NamedMoves}
use Rattle.surface_lib.specs.FlipsForms.{flips_form, flips_in}
use Rattle.surface_lib.specs.declared.version.Version.TheVariants.{One}
use Rattle.surface_lib.specs.GeneratorFiles.{new_name, form_of}
use Rattle.surface_lib.specs.TwistForms.{twist_form}
use Rattle.surface_lib.specs.declared.generators.Form.TheVariants.{Flips, Twist}
use Rattle.surface_lib.specs.declared.twister.Hand.TheVariants.{Minus}
use Rattle.surface_lib.specs.declared.surface_error.Key.TheVariants.{Name, Hand}
use Rattle.surface_lib.specs.declared.surface_error.GeneratorFault.TheVariants.{MissingKey, BadName}
use Rattle.surface_lib.specs.declared.surface_error.GeneratorFault.TheVariants.{SameName, NotEdge, NotFlippable}

abbrev whole : ℤ → Data
whole (pos n) = number (unsigned n)
whole (negsuc n) = number (negative (negsuc n))

abbrev items : List ℤ → Items
items [] = no_items
items (z ∷ zs) = item (whole z) (items zs)

abbrev wholes : List ℤ → Data
wholes zs = array (items zs)

abbrev torus : List (List ℤ)
torus = (pos 0 ∷ pos 1 ∷ pos 2 ∷ []) ∷ (negsuc 0 ∷ negsuc 1 ∷ negsuc 2 ∷ []) ∷ []

-- edges 0 and 1 have one triangle on both sides
abbrev folded : List (List ℤ)
folded = (pos 0 ∷ negsuc 0 ∷ pos 2 ∷ []) ∷ (pos 1 ∷ negsuc 1 ∷ negsuc 2 ∷ []) ∷ []

-- members stand in the order of their names
abbrev a : Data
a =
    object (member (codes "flips") (wholes (pos 0 ∷ []))
    (member (codes "name") (string (codes "a"))
    (member (codes "relabel") (wholes (pos 2 ∷ pos 1 ∷ negsuc 0 ∷ [])) no_members)))

abbrev t : Data
t =
    object (member (codes "hand") (string (codes "minus"))
    (member (codes "name") (string (codes "t"))
    (member (codes "twist") (wholes (pos 1 ∷ pos 1 ∷ pos 0 ∷ [])) no_members)))

abbrev earlier : List NamedMoves
earlier = record { spelt = codes "a"; moves = [] } ∷ []

-- ---- names and forms

name_is_read : new_name [] a ≡ Ok (codes "a")
name_is_read = refl

name_is_taken : new_name earlier a ≡ Err SameName
name_is_taken = refl

name_is_missing : new_name [] (object no_members) ≡ Err (MissingKey Name)
name_is_missing = refl

name_is_no_text : new_name [] (object (member (codes "name") (wholes []) no_members)) ≡ Err BadName
name_is_no_text = refl

flips_without_twist : form_of One a ≡ Flips
flips_without_twist = refl

twist_with_twist : form_of One t ≡ Twist
twist_with_twist = refl

-- ---- flips and twists

flips_are_read : flips_form a ≡ Ok (record { edges = pos 0 ∷ []; images = pos 2 ∷ pos 1 ∷ negsuc 0 ∷ [] })
flips_are_read = refl

-- (0, 1, 2) and (~0, ~1, ~2) become (0, ~2, 1) and (~0, 2, ~1)
one_flip : flips_in torus (pos 0 ∷ [])
    ≡ Ok (record {
      moves = flip (pos 0) (pos 1) (pos 2) (negsuc 1) (negsuc 2) ∷ [];
      reached = (pos 0 ∷ negsuc 2 ∷ pos 1 ∷ []) ∷ (negsuc 0 ∷ pos 2 ∷ negsuc 1 ∷ []) ∷ [];
    })
one_flip = refl

no_such_edge : flips_in torus (pos 0 ∷ pos 3 ∷ []) ≡ Err (NotEdge 1)
no_such_edge = refl

folded_edge : flips_in folded (pos 2 ∷ pos 2 ∷ pos 0 ∷ []) ≡ Err (NotFlippable 2)
folded_edge = refl

twist_is_read : twist_form t ≡ Ok (record { vector = 1 ∷ 1 ∷ 0 ∷ []; hand = Minus })
twist_is_read = refl

hand_is_missing : twist_form (object (member (codes "twist") (wholes []) no_members)) ≡ Err (MissingKey Hand)
hand_is_missing = refl
