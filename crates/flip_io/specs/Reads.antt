-- Which names were read between two moments of a shelf.
use Rattle.std.specs.Prelude.{ℕ, List}

-- the shelf before and then reads of such names, one after another, give the shelf now. What the
-- shelf may be after a read of a name is the relation `after_read`
pub data AfterReads {S : Type 0} (after_read : S → List ℕ → S → Type 0) (IsName : List ℕ → Type 0)
    : S → S → Type 0 where
  no_read : (s : S) → AfterReads after_read IsName s s
  next_read : {r s t : S} (name : List ℕ) → AfterReads after_read IsName r s → IsName name
      → after_read s name t → AfterReads after_read IsName r t
