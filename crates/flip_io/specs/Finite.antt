-- Only finitely many names have a file.
use Rattle.std.specs.Prelude.{◌≡◌, true, List, ℕ, Some}
use Rattle.std.specs.List.{list_any}
use Rattle.std.specs.Str.{bytes_eq}
use Rattle.flip_io.specs.Files.{Files}

-- each name that has a file is one of these
pub record IsFinite (files : Files) : Type 0 where
  pub names : List (List ℕ)
  pub all : (name file : List ℕ) → files name ≡ Some file → list_any (bytes_eq name) names ≡ true
