-- Words that begin alike.
--
-- A list taken apart at two places gives one part more between them. So a prefix of a word that is no longer than
-- another prefix is a prefix of that one.
-- A word is a prefix of the common prefix of several words exactly where it is a prefix of each: of two words by
-- induction on both, of several since each further word takes the common prefix so far to its own. Behind the common
-- prefix of two words the rests begin with different letters, or one is empty.
-- The number of letters that two words of two lists share is at most the greatest such number, which is at most any
-- bound of all of them.
use Rattle.std.proofs.Common.{ℕ, ℤ, Bool, List, [], ◌∷◌, ◌++◌, ◌≡◌, ◌≢◌, ◌≤◌, ◌⊎◌, inl, inr}
use Rattle.std.proofs.Common.{refl, sym, ◌∙◌, ap, subst, arith, length, append_assoc}
use Rattle.std.specs.Prelude.{if◌then◌else◌}
use Rattle.std.specs.List.{Contains}
use Rattle.std.proofs.lemmas.List.{append-nil, append_cancel_left}
use Rattle.ideal_tri.specs.LabelLaws.{LabelLaws}
use Rattle.carry_map.specs.inside.Rays.{common_prefix, common_with, common_of, shared, most_shared}
use Rattle.carry_map.proofs.ElementsAndPairs.{contains_here, contains_later, contains_cases, contains_none}

-- the second word is a prefix of the first
abbrev pub Begins : List ℤ → List ℤ → Type 0
Begins w p = (rest : List ℤ) × (w ≡ p ++ rest)

-- one is empty, or they begin with different letters
abbrev pub AreApart : List ℤ → List ℤ → Type 0
AreApart [] g = Unit {0}
AreApart (x ∷ b) [] = Unit {0}
AreApart (x ∷ b) (y ∷ g) = x ≢ y

-- ---- lists taken apart

-- the same list, taken apart at two places
pub front_of_front : (h g u v : List ℤ) → h ++ g ≡ u ++ v → length h ≤ length u
    → (m : List ℤ) × (u ≡ h ++ m) × (g ≡ m ++ v)
front_of_front [] g u v e short = (u, refl, e)
front_of_front (x ∷ h) g [] v e short = absurd (omega arith)
front_of_front (x ∷ h) g (y ∷ u) v e short =
    let tails : h ++ g ≡ u ++ v = append_cancel_left (x ∷ []) (h ++ g) (u ++ v) (e ∙ ap (λ (z : ℤ). z ∷ (u ++ v)) same)
    in
    let (m, is, rest) = front_of_front h g u v tails (omega arith) in
    (m, ap (λ (z : ℤ). z ∷ u) same ∙ ap (λ (w : List ℤ). x ∷ w) is, rest)
  where
    first : List ℤ → ℤ
    first [] = x
    first (z ∷ w) = z

    same : y ≡ x
    same = sym (ap first e)

-- a letter in the middle of the same list, taken apart at another place: it stands in the first part or the second
pub letter_in_parts : (u v s : List ℤ) (y : ℤ) (t : List ℤ) → u ++ v ≡ s ++ (y ∷ t)
    → ((m : List ℤ) × (u ≡ s ++ (y ∷ m)) × (t ≡ m ++ v)) ⊎ ((m : List ℤ) × (s ≡ u ++ m) × (v ≡ m ++ (y ∷ t)))
letter_in_parts [] v s y t e = inr (s, refl, e)
letter_in_parts (x ∷ u) v [] y t e =
    inl (
      u,
      ap (λ (z : ℤ). z ∷ u) same,
      sym (append_cancel_left (x ∷ []) (u ++ v) t (e ∙ ap (λ (z : ℤ). z ∷ t) (sym same))),
    )
  where
    first : List ℤ → ℤ
    first [] = x
    first (z ∷ w) = z

    same : x ≡ y
    same = ap first e
letter_in_parts (x ∷ u) v (z ∷ s) y t e =
    let tails : u ++ v ≡ s ++ (y ∷ t)
    = append_cancel_left (x ∷ []) (u ++ v) (s ++ (y ∷ t)) (e ∙ ap (λ (k : ℤ). k ∷ (s ++ (y ∷ t))) (sym same)) in
    elim (letter_in_parts u v s y t tails) [
      | inl (m, is, rest) ↦ inl (m, ap (λ (k : ℤ). k ∷ u) same ∙ ap (λ (w : List ℤ). z ∷ w) is, rest)
      | inr (m, is, rest) ↦ inr (m, ap (λ (k : ℤ). k ∷ s) (sym same) ∙ ap (λ (w : List ℤ). x ∷ w) is, rest)
    ]
  where
    first : List ℤ → ℤ
    first [] = x
    first (k ∷ w) = k

    same : x ≡ z
    same = ap first e

-- ---- common prefixes

module _ (labels : LabelLaws) where
  pub common_same : (x : ℤ) (u v : List ℤ) → common_prefix (x ∷ u) (x ∷ v) ≡ x ∷ common_prefix u v
  common_same x u v =
      ap (λ (b : Bool). if b then (x ∷ common_prefix u v) else []) (labels.test_same x x refl)

  pub common_other : (x y : ℤ) (u v : List ℤ) → x ≢ y → common_prefix (x ∷ u) (y ∷ v) ≡ []
  common_other x y u v other =
      ap (λ (b : Bool). if b then (x ∷ common_prefix u v) else []) (labels.test_other x y other)

  -- the two words behind it
  pub behind_common : (u v : List ℤ) → (b : List ℤ) × (g : List ℤ) × (u ≡ common_prefix u v ++ b)
      × (v ≡ common_prefix u v ++ g) × AreApart b g
  behind_common [] v = ([], v, refl, refl, tt)
  behind_common (x ∷ u) [] = (x ∷ u, [], refl, refl, tt)
  behind_common (x ∷ u) (y ∷ v) = elim (labels.same_or_not x y) [
    | inl e ↦
        subst (λ (z : ℤ). (b : List ℤ) × (g : List ℤ) × (x ∷ u ≡ common_prefix (x ∷ u) (z ∷ v) ++ b)
        × (z ∷ v ≡ common_prefix (x ∷ u) (z ∷ v) ++ g) × AreApart b g) e
        (let (b, g, is_u, is_v, apart) = behind_common u v in (
          b,
          g,
          ap (λ (w : List ℤ). x ∷ w) is_u ∙ ap (λ (w : List ℤ). w ++ b) (sym (common_same x u v)),
          ap (λ (w : List ℤ). x ∷ w) is_v ∙ ap (λ (w : List ℤ). w ++ g) (sym (common_same x u v)),
          apart,
        ))
    | inr other ↦ (
      x ∷ u,
      y ∷ v,
      ap (λ (w : List ℤ). w ++ (x ∷ u)) (sym (common_other x y u v other)),
      ap (λ (w : List ℤ). w ++ (y ∷ v)) (sym (common_other x y u v other)),
      other,
    )
  ]

  common_behind : (p a b : List ℤ) → common_prefix (p ++ a) (p ++ b) ≡ p ++ common_prefix a b
  common_behind [] a b = refl
  common_behind (x ∷ p) a b = common_same x (p ++ a) (p ++ b) ∙ ap (λ (w : List ℤ). x ∷ w) (common_behind p a b)

  pub common_greatest : (u v p : List ℤ) → Begins u p → Begins v p → Begins (common_prefix u v) p
  common_greatest u v p (a, is_u) (b, is_v) = (
    common_prefix a b,
    ap (λ (w : List ℤ). common_prefix w v) is_u ∙ ap (common_prefix (p ++ a)) is_v ∙ common_behind p a b,
  )

  pub begins_through : (w v p : List ℤ) → Begins w v → Begins v p → Begins w p
  begins_through w v p (a, is_w) (b, is_v) =
      (b ++ a, is_w ∙ ap (λ (z : List ℤ). z ++ a) is_v ∙ append_assoc p b a)

  pub common_left : (u v : List ℤ) → Begins u (common_prefix u v)
  common_left u v = let (b, g, is_u, is_v, apart) = behind_common u v in (b, is_u)

  pub common_right : (u v : List ℤ) → Begins v (common_prefix u v)
  common_right u v = let (b, g, is_u, is_v, apart) = behind_common u v in (g, is_v)

  -- ---- of several words

  pub common_with_greatest : (w : List ℤ) (words : List (List ℤ)) (p : List ℤ) → Begins w p
      → ((v : List ℤ) → Contains words v → Begins v p) → Begins (common_with w words) p
  common_with_greatest w [] p begins all = begins
  common_with_greatest w (v ∷ words) p begins all =
      common_with_greatest (common_prefix w v) words p
      (common_greatest w v p begins (all v (contains_here v words)))
      (λ z has. all z (contains_later v words z has))

  pub common_with_first : (w : List ℤ) (words : List (List ℤ)) → Begins w (common_with w words)
  common_with_first w [] = ([], sym (append-nil w))
  common_with_first w (v ∷ words) =
      begins_through w (common_prefix w v) (common_with (common_prefix w v) words) (common_left w v)
      (common_with_first (common_prefix w v) words)

  pub common_with_each : (w : List ℤ) (words : List (List ℤ)) (v : List ℤ) → Contains words v
      → Begins v (common_with w words)
  common_with_each w [] v has = absurd (contains_none v has)
  common_with_each w (z ∷ words) v has = elim (contains_cases z words v has) [
    | inl e ↦
        begins_through v (common_prefix w z) (common_with (common_prefix w z) words)
        (subst (λ (k : List ℤ). Begins k (common_prefix w z)) e (common_right w z))
        (common_with_first (common_prefix w z) words)
    | inr later ↦ common_with_each (common_prefix w z) words v later
  ]

  pub common_of_greatest : (words : List (List ℤ)) (p w : List ℤ) → Contains words w
      → ((v : List ℤ) → Contains words v → Begins v p) → Begins (common_of words) p
  common_of_greatest [] p w has all = absurd (contains_none w has)
  common_of_greatest (v ∷ words) p w has all =
      common_with_greatest v words p (all v (contains_here v words)) (λ z k. all z (contains_later v words z k))

  pub common_of_each : (words : List (List ℤ)) (v : List ℤ) → Contains words v → Begins v (common_of words)
  common_of_each [] v has = absurd (contains_none v has)
  common_of_each (z ∷ words) v has = elim (contains_cases z words v has) [
    | inl e ↦ subst (λ (k : List ℤ). Begins k (common_with z words)) e (common_with_first z words)
    | inr later ↦ common_with_each z words v later
  ]

-- ---- how many letters two words share at most

shared_bound : (u : List ℤ) (words : List (List ℤ)) (v : List ℤ) → Contains words v
    → length (common_prefix u v) ≤ shared u words
shared_bound u [] v has = absurd (contains_none v has)
shared_bound u (z ∷ words) v has = elim (contains_cases z words v has) [
  | inl e ↦
      subst (λ (k : List ℤ). length (common_prefix u k) ≤ shared u (z ∷ words)) e
      (omega arith)
  | inr later ↦ (let rest = shared_bound u words v later in omega arith)
]

pub most_shared_bound : (backs fronts : List (List ℤ)) (u v : List ℤ) → Contains backs u → Contains fronts v
    → length (common_prefix u v) ≤ most_shared backs fronts
most_shared_bound [] fronts u v back front = absurd (contains_none u back)
most_shared_bound (z ∷ backs) fronts u v back front = elim (contains_cases z backs u back) [
  | inl e ↦
      (let here : length (common_prefix u v) ≤ shared z fronts
      = subst (λ (k : List ℤ). length (common_prefix k v) ≤ shared z fronts) e (shared_bound z fronts v front) in
      omega arith)
  | inr later ↦ (let rest = most_shared_bound backs fronts u v later front in omega arith)
]

shared_least : (u : List ℤ) (words : List (List ℤ)) (n : ℕ)
    → ((v : List ℤ) → Contains words v → length (common_prefix u v) ≤ n) → shared u words ≤ n
shared_least u [] n all = omega arith
shared_least u (z ∷ words) n all =
    let here = all z (contains_here z words) in
    let rest = shared_least u words n (λ v has. all v (contains_later z words v has)) in
    omega arith

pub most_shared_least : (backs fronts : List (List ℤ)) (n : ℕ)
    → ((u v : List ℤ) → Contains backs u → Contains fronts v → length (common_prefix u v) ≤ n)
    → most_shared backs fronts ≤ n
most_shared_least [] fronts n all = omega arith
most_shared_least (z ∷ backs) fronts n all =
    let here = shared_least z fronts n (λ v has. all z v (contains_here z backs) has) in
    let rest = most_shared_least backs fronts n (λ u v has k. all u v (contains_later z backs u has) k) in
    omega arith
