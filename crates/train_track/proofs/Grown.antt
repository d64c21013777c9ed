-- Each branch has two or three letters, and the first two settle it.
--
-- A branch is a legal walk whose first and last letters alone are switches. Of two neighbours one is a switch, so at
-- most one letter lies between them, and that letter has one continuation. So the branch is grown from its first two
-- letters; and what is grown from a switch and a legal continuation is a branch. Its inverse is one too, with other
-- first two letters.
use Rattle.std.proofs.Common.{ℕ, ℤ, Bool, true, false, List, [], ◌∷◌, ◌++◌, ◌≡◌, ◌≢◌, inl}
use Rattle.std.proofs.Common.{inr, refl, sym, ◌∙◌, ap, subst, if◌then◌else◌}
use Rattle.std.specs.List.{All}
use Rattle.std.proofs.lemmas.Bool.{true≢false, cases_Bool}
use Rattle.std.proofs.lemmas.List.Elements.{All-nil, All-cons, All-head, All-tail}
use Rattle.ideal_tri.specs.Labels.{inverse}
use Rattle.ideal_tri.specs.Words.{inverse_word}
use Rattle.ideal_tri.specs.LabelLaws.{LabelLaws}
use Rattle.ideal_tri.specs.SurfaceLaws.{TriangleLaws}
use Rattle.ideal_tri.specs.Triangulations.{IsLabel, IsWalk, triangle_of}
use Rattle.train_track.specs.Tracks.{is_switch, IsLegalPair, IsLegal, IsSingleInTriangles}
use Rattle.train_track.specs.Branches.{IsBranch, letter_at}
use Rattle.train_track.specs.inside.Growing.{continuation, grow}
use Rattle.train_track.proofs.Turns.{IsTurn, legal_on, legal_back, legal_inverse, turn, turn_label, turn_triangle}
use Rattle.train_track.proofs.Turns.{switch_inverse}
use Rattle.train_track.proofs.Turns.{continues, only_continuation, one_is_switch}

-- the first two letters of a branch
pub record Begun (ts : List (List ℤ)) (out : List ℤ) (b : List ℤ) : Type 0 where
  pub first : ℤ
  pub second : ℤ
  pub label : IsLabel ts first
  pub switch : is_switch ts out first ≡ true
  pub turns : IsTurn ts out first second
  pub is : b ≡ grow ts out first second

pub grow-switch : (ts : List (List ℤ)) (out : List ℤ) (x y : ℤ) → is_switch ts out y ≡ true
    → grow ts out x y ≡ x ∷ (y ∷ [])
unfolding grow
grow-switch ts out x y e = ap (λ (b : Bool). if b then x ∷ (y ∷ []) else (x ∷ (y ∷ (continuation ts out y ∷ [])))) e

pub grow-other : (ts : List (List ℤ)) (out : List ℤ) (x y : ℤ) → is_switch ts out y ≡ false
    → grow ts out x y ≡ x ∷ (y ∷ (continuation ts out y ∷ []))
unfolding grow
grow-other ts out x y e = ap (λ (b : Bool). if b then x ∷ (y ∷ []) else (x ∷ (y ∷ (continuation ts out y ∷ [])))) e

-- what holds of the word in both cases holds of what is grown
pub grown_cases : (ts : List (List ℤ)) (out : List ℤ) (x y : ℤ) (P : List ℤ → Type 0)
    → (is_switch ts out y ≡ true → P (x ∷ (y ∷ [])))
    → (is_switch ts out y ≡ false → P (x ∷ (y ∷ (continuation ts out y ∷ []))))
    → P (grow ts out x y)
grown_cases ts out x y P one two = elim (cases_Bool (is_switch ts out y)) [
  | inl e ↦ subst P (sym (grow-switch ts out x y e)) (one e)
  | inr e ↦ subst P (sym (grow-other ts out x y e)) (two e)
]

pub grow-first : (ts : List (List ℤ)) (out : List ℤ) (x y : ℤ) → letter_at (grow ts out x y) 0 ≡ x
grow-first ts out x y = grown_cases ts out x y (λ b. letter_at b 0 ≡ x) (λ e. refl) (λ e. refl)

pub grow-second : (ts : List (List ℤ)) (out : List ℤ) (x y : ℤ) → letter_at (grow ts out x y) 1 ≡ y
grow-second ts out x y = grown_cases ts out x y (λ b. letter_at b 1 ≡ y) (λ e. refl) (λ e. refl)

module _ (ts : List (List ℤ)) (out : List ℤ) (labels : LabelLaws) (triangles : TriangleLaws ts) where
  pub legal_turn : (u v : ℤ) → IsLabel ts u → IsTurn ts out u v → IsLegalPair ts out u v
  legal_turn u v l h = elim h [
    | inl (e, k) ↦ legal_on ts out u v e k
    | inr (e, k) ↦ legal_back ts out labels triangles u v l e k
  ]

  pub inverse_turn : (u v : ℤ) → IsLabel ts u → IsTurn ts out u v → IsTurn ts out (inverse v) (inverse u)
  inverse_turn u v l h =
      turn ts out labels triangles (inverse v) (inverse u) (labels.label ts u l)
      (legal_inverse labels ts out u v (legal_turn u v l h))

  pub two_letters : (x y : ℤ) → IsLabel ts x → is_switch ts out x ≡ true → IsTurn ts out x y → is_switch ts out y ≡ true
      → IsBranch ts out (x ∷ (y ∷ []))
  two_letters x y l s h t = record {
    first = x;
    between = [];
    last = y;
    letters = refl;
    walk = (l, refl, (turn_label ts out labels triangles x y l h, turn_triangle ts out labels triangles x y l h, refl));
    legal = (legal_turn x y l h, tt);
    begins = s;
    ends = t;
    others = All-nil (λ x. is_switch ts out x ≡ false);
  }

  pub three_letters : (x y z : ℤ) → IsLabel ts x → is_switch ts out x ≡ true → IsTurn ts out x y
      → is_switch ts out y ≡ false
      → IsTurn ts out y z → is_switch ts out z ≡ true → IsBranch ts out (x ∷ (y ∷ (z ∷ [])))
  three_letters x y z l s h plain g t =
      let m : IsLabel ts y = turn_label ts out labels triangles x y l h in
      record {
        first = x;
        between = y ∷ [];
        last = z;
        letters = refl;
        walk = (
          l,
          refl,
          (
            m,
            turn_triangle ts out labels triangles x y l h,
            (turn_label ts out labels triangles y z m g, turn_triangle ts out labels triangles y z m g, refl),
          ),
        );
        legal = (legal_turn x y l h, (legal_turn y z m g, tt));
        begins = s;
        ends = t;
        others = All-cons (λ x. is_switch ts out x ≡ false) y [] plain (All-nil (λ x. is_switch ts out x ≡ false));
      }

  module _ (single : IsSingleInTriangles ts out) where
    -- the letter that is grown past an edge that is no switch
    ends_switch : (x y : ℤ) → IsLabel ts x → IsTurn ts out x y → is_switch ts out y ≡ false
        → IsTurn ts out y (continuation ts out y) × (is_switch ts out (continuation ts out y) ≡ true)
    ends_switch x y l h plain =
        let m : IsLabel ts y = turn_label ts out labels triangles x y l h in
        let g : IsTurn ts out y (continuation ts out y) = continues ts out labels triangles single y m in
        (g, one_is_switch ts out labels triangles single y (continuation ts out y) m g plain)

    pub grown : (x y : ℤ) → IsLabel ts x → is_switch ts out x ≡ true → IsTurn ts out x y
        → IsBranch ts out (grow ts out x y)
    grown x y l s h =
        grown_cases ts out x y (IsBranch ts out) (λ e. two_letters x y l s h e)
        (λ e. (let (g, t) = ends_switch x y l h e in three_letters x y (continuation ts out y) l s h e g t))

    begun_word : (x : ℤ) (between : List ℤ) (z : ℤ) (t : ℕ) → IsWalk ts (triangle_of ts x) (x ∷ (between ++ (z ∷ []))) t
        → IsLegal ts out (x ∷ (between ++ (z ∷ []))) → is_switch ts out x ≡ true → is_switch ts out z ≡ true
        → All (λ x. is_switch ts out x ≡ false) between → Begun ts out (x ∷ (between ++ (z ∷ [])))
    begun_word x [] z t walk legal s e others = record {
      first = x;
      second = z;
      label = walk.0;
      switch = s;
      turns = turn ts out labels triangles x z walk.2.0 legal.0;
      is = sym (grow-switch ts out x z e);
    }
    begun_word x (y ∷ []) z t walk legal s e others =
        let plain : is_switch ts out y ≡ false = All-head (λ x. is_switch ts out x ≡ false) y [] others in
        record {
          first = x;
          second = y;
          label = walk.0;
          switch = s;
          turns = turn ts out labels triangles x y walk.2.0 legal.0;
          is =
              ap (λ (u : ℤ). x ∷ (y ∷ (u ∷ [])))
              (only_continuation ts out labels triangles single y z walk.2.0 plain
              (turn ts out labels triangles y z walk.2.2.0 legal.1.0))
              ∙ sym (grow-other ts out x y plain);
        }
    begun_word x (y ∷ (y' ∷ between)) z t walk legal s e others =
        let plain : is_switch ts out y ≡ false = All-head (λ x. is_switch ts out x ≡ false) y (y' ∷ between) others in
        let plain' : is_switch ts out y' ≡ false =
        All-head (λ x. is_switch ts out x ≡ false) y' between
        (All-tail (λ x. is_switch ts out x ≡ false) y (y' ∷ between) others) in
        absurd (true≢false
        (sym (one_is_switch ts out labels triangles single y y' walk.2.0
        (turn ts out labels triangles y y' walk.2.2.0 legal.1.0) plain) ∙ plain'))

    pub begun : (b : List ℤ) → IsBranch ts out b → Begun ts out b
    begun b h =
        subst (Begun ts out) (sym h.letters)
        (begun_word h.first h.between h.last (triangle_of ts (inverse h.last))
        (subst (λ (w : List ℤ). IsWalk ts (triangle_of ts h.first) w (triangle_of ts (inverse h.last))) h.letters
        h.walk)
        (subst (IsLegal ts out) h.letters h.legal) h.begins h.ends h.others)

    -- two branches with the same first two letters are one
    pub settled : (b c : List ℤ) → IsBranch ts out b → IsBranch ts out c → letter_at b 0 ≡ letter_at c 0
        → letter_at b 1 ≡ letter_at c 1
        → b ≡ c
    settled b c h k e f =
        regrown b h
        ∙ ap (λ (x : ℤ). grow ts out x (letter_at b 1)) e
        ∙ ap (grow ts out (letter_at c 0)) f
        ∙ sym (regrown c k)
      where
        regrown : (b : List ℤ) → IsBranch ts out b → b ≡ grow ts out (letter_at b 0) (letter_at b 1)
        regrown b h =
            let g : Begun ts out b = begun b h in
            g.is
            ∙ ap (λ (x : ℤ). grow ts out x g.second)
            (sym (ap (λ (w : List ℤ). letter_at w 0) g.is ∙ grow-first ts out g.first g.second))
            ∙ ap (grow ts out (letter_at b 0))
            (sym (ap (λ (w : List ℤ). letter_at w 1) g.is ∙ grow-second ts out g.first g.second))

    inverse_grown : (x y : ℤ) → IsLabel ts x → is_switch ts out x ≡ true → IsTurn ts out x y
        → IsBranch ts out (inverse_word (grow ts out x y))
    inverse_grown x y l s h =
        let m : IsLabel ts y = turn_label ts out labels triangles x y l h in
        let s' : is_switch ts out (inverse x) ≡ true = switch_inverse labels ts out x ∙ s in
        grown_cases ts out x y (λ b. IsBranch ts out (inverse_word b))
        (λ e. two_letters (inverse y) (inverse x) (labels.label ts y m) (switch_inverse labels ts out y ∙ e)
        (inverse_turn x y l h) s')
        (λ e. (let (g, t) = ends_switch x y l h e in
        let z : ℤ = continuation ts out y in
        three_letters (inverse z) (inverse y) (inverse x)
        (labels.label ts z (turn_label ts out labels triangles y z m g))
        (switch_inverse labels ts out z ∙ t) (inverse_turn y z m g) (switch_inverse labels ts out y ∙ e)
        (inverse_turn x y l h) s'))

    -- the inverse of a branch is one
    pub inverse_branch : (b : List ℤ) → IsBranch ts out b → IsBranch ts out (inverse_word b)
    inverse_branch b h =
        let g : Begun ts out b = begun b h in
        subst (λ (w : List ℤ). IsBranch ts out (inverse_word w)) (sym g.is)
        (inverse_grown g.first g.second g.label g.switch g.turns)

    -- a turn is not back across the edge that was crossed
    pub turn_apart : (x y : ℤ) → IsLabel ts x → IsTurn ts out x y → y ≢ inverse x
    turn_apart x y l h = elim h [
      | inl (e, k) ↦ λ f. (triangles.moves (inverse x) (labels.label ts x l)).0 (sym e ∙ f)
      | inr (e, k) ↦ λ f. (triangles.moves (inverse x) (labels.label ts x l)).1 (sym e ∙ f)
    ]

    -- and begins with other letters
    pub begins_otherwise : (b : List ℤ) → IsBranch ts out b
        → ¬ ((letter_at (inverse_word b) 0 ≡ letter_at b 0) × (letter_at (inverse_word b) 1 ≡ letter_at b 1))
    begins_otherwise b h =
        let g : Begun ts out b = begun b h in
        subst (λ (w : List ℤ). ¬
        ((letter_at (inverse_word w) 0 ≡ letter_at w 0) × (letter_at (inverse_word w) 1 ≡ letter_at w 1)))
        (sym g.is)
        (grown_cases ts out g.first g.second
        (λ w. ¬ ((letter_at (inverse_word w) 0 ≡ letter_at w 0) × (letter_at (inverse_word w) 1 ≡ letter_at w 1)))
        (λ e (a, c). turn_apart g.first g.second g.label g.turns (sym c))
        (λ e (a, c). labels.apart g.second (sym c)))

    pub inverse_twice : (b : List ℤ) → IsBranch ts out b → inverse_word (inverse_word b) ≡ b
    inverse_twice b h =
        let g : Begun ts out b = begun b h in
        let x : ℤ = g.first in
        let y : ℤ = g.second in
        subst (λ (w : List ℤ). inverse_word (inverse_word w) ≡ w) (sym g.is)
        (grown_cases ts out x y (λ w. inverse_word (inverse_word w) ≡ w)
        (λ e. ap (λ (u : ℤ). u ∷ (inverse (inverse y) ∷ [])) (labels.twice x) ∙ ap (λ (u : ℤ). x ∷ (u ∷ []))
        (labels.twice y))
        (λ e. (let z : ℤ = continuation ts out y in
        ap (λ (u : ℤ). u ∷ (inverse (inverse y) ∷ (inverse (inverse z) ∷ []))) (labels.twice x)
        ∙ ap (λ (u : ℤ). x ∷ (u ∷ (inverse (inverse z) ∷ []))) (labels.twice y)
        ∙ ap (λ (u : ℤ). x ∷ (y ∷ (u ∷ []))) (labels.twice z))))
