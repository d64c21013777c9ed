-- Lists of words held in vectors, and a function of each of them.
use Rattle.std.proofs.Common.{ℕ, ℤ, List, [], ◌∷◌, ◌++◌, ◌≡◌, ◌+◌, ◌<◌, ◌≤◌, sym, ◌∙◌, ap, subst, length, map, take}
use Rattle.std.proofs.Common.{get_or, Vec, pos, negsuc, ◌≤ℤ◌, ◌<ℤ◌, arith}
use Rattle.std.specs.Global.{Global}
use Rattle.std.specs.List.{All}
use Rattle.std.proofs.lemmas.List.{take_all, map_push, map_more, get_or-map, length-map}
use Rattle.ideal_tri.specs.Labels.{edge_of}
use Rattle.ideal_tri.specs.Words.{inverse_word}
use Rattle.free_groupoid.specs.GroupoidMaps.{substitution}
use Rattle.free_groupoid.specs.inside.Images.{words_of}

-- a word that was read from the vectors, as it stands among the words
pub word_read : (vectors : List (Vec ℤ Global)) (word : Vec ℤ Global) (i : ℕ) (d : List ℤ) → i < length vectors
    → word ≡ get_or vectors i word
    → get_or (words_of vectors) i d ≡ word.items
word_read vectors word i d inside is_word =
    get_or-map (λ (v : Vec ℤ Global). v.items) vectors i word d inside
    ∙ ap (λ (v : Vec ℤ Global). v.items) (sym is_word)

pub inside_words : (vectors : List (Vec ℤ Global)) (i : ℕ) → i < length vectors → i < length (words_of vectors)
inside_words vectors i inside = subst (λ (n : ℕ). i < n) (sym (length-map vectors (λ (v : Vec ℤ Global). v.items)))
    inside

-- the image of a label is the word of its edge, or the way back along it
pub image_on : (vectors : List (Vec ℤ Global)) (word : Vec ℤ Global) (x : ℤ) (e : ℕ) → pos 0 ≤ℤ x → e ≡ edge_of x
    → e < length vectors → word ≡ get_or vectors e word → word.items ≡ substitution (words_of vectors) x
image_on vectors word (pos n) e high is_e inside is_word =
    sym (word_read vectors word e [] inside is_word) ∙ ap (λ (k : ℕ). get_or (words_of vectors) k []) is_e
image_on vectors word (negsuc n) e high is_e inside is_word = absurd (grind arith)

pub image_back : (vectors : List (Vec ℤ Global)) (word : Vec ℤ Global) (x : ℤ) (e : ℕ) → x <ℤ pos 0 → e ≡ edge_of x
    → e < length vectors → word ≡ get_or vectors e word → inverse_word word.items ≡ substitution (words_of vectors) x
image_back vectors word (pos n) e low is_e inside is_word = absurd (grind arith)
image_back vectors word (negsuc n) e low is_e inside is_word =
    ap inverse_word (sym (word_read vectors word e [] inside is_word)
    ∙ ap (λ (k : ℕ). get_or (words_of vectors) k []) is_e)

-- what holds of each of the words holds of one that was read
pub held_by_word : (P : List ℤ → Type 0) (vectors : List (Vec ℤ Global)) (word : Vec ℤ Global) (i : ℕ)
    → All P (words_of vectors) → i < length vectors
    → word ≡ get_or vectors i word → P word.items
held_by_word P vectors word i all inside is_word =
    subst P (word_read vectors word i [] inside is_word) (all i [] (inside_words vectors i inside))

-- one more word of a list that is made of another
pub one_more_word : (f : List ℤ → List ℤ) (vectors made : List (Vec ℤ Global)) (word v : Vec ℤ Global) (i : ℕ)
    → i < length vectors
    → word ≡ get_or vectors i word → v.items ≡ f word.items → words_of made ≡ map f (take i (words_of vectors))
    → words_of (made ++ (v ∷ [])) ≡ map f (take (i + 1) (words_of vectors))
one_more_word f vectors made word v i inside is_word is_v so_far =
    map_push (λ (u : Vec ℤ Global). u.items) made v
    ∙ ap (λ (ws : List (List ℤ)). ws ++ (v.items ∷ [])) so_far
    ∙ ap (λ (w : List ℤ). map f (take i (words_of vectors)) ++ (w ∷ [])) (is_v
    ∙ ap f (sym (word_read vectors word i [] inside is_word)))
    ∙ sym (map_more f (words_of vectors) i [] (inside_words vectors i inside))

pub all_words : (f : List ℤ → List ℤ) (vectors made : List (Vec ℤ Global)) (i : ℕ) → length vectors ≤ i
    → words_of made ≡ map f (take i (words_of vectors))
    → words_of made ≡ map f (words_of vectors)
all_words f vectors made i all so_far =
    so_far ∙ ap (map f) (take_all i (words_of vectors) (subst (λ (n : ℕ). n ≤ i) (sym (length-map vectors (λ (v : Vec ℤ
    Global). v.items))) all))

-- one more word behind those that were made
pub word_made : (made new : List (Vec ℤ Global)) (v : Vec ℤ Global) (w : List ℤ) (words : List (List ℤ))
    → new ≡ made ++ (v ∷ []) → v.items ≡ w
    → words_of made ≡ words → words_of new ≡ words ++ (w ∷ [])
word_made made new v w words is_new is_v so_far =
    ap words_of is_new
    ∙ map_push (λ (u : Vec ℤ Global). u.items) made v
    ∙ ap (λ (ws : List (List ℤ)). ws ++ (v.items ∷ [])) so_far
    ∙ ap (λ (u : List ℤ). words ++ (u ∷ [])) is_v
