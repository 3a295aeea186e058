-- A list turned word by word: how long it is, how one word more is laid into the room, and what is left when it is turned back. Both directions, text to
-- image and image to text, are instances. By induction over the words.
use Rattle.std.proofs.Common.{◌≡◌, ℕ, zero, suc, ◌+◌, ◌*◌, ◌<◌, ◌≤◌, List, ◌++◌, map, length, take, drop, sym, refl, ap, ◌∙◌, ap₂, append_assoc, append-nil}
use Rattle.std.proofs.Common.{add_comm, mul-zero, mul-suc, add-one, arith, length-append, length-drop, drop-drop, take_at, take-add, drop_at}
use mathlib.Core.List.{map-append}
use borrow.Rule.Slice.PartMut.{put_mid}
use Rattle.hex_text.specs.rules.Text.{each_word, laid}

-- a result goes on where it ended
laid_more : (front more room : List ℕ) (at count : ℕ) → length front ≡ at → length more ≡ count
    → put_mid at count (laid front room) more ≡ laid (front ++ more) room
unfolding laid
laid_more front more room at count starts ends =
    ap₂ (λ (before after : List ℕ). before ++ (more ++ drop count after))
    (take_at front (drop (length front) room) at starts)
    (drop_at front (drop (length front) room) at starts)
    ∙ ap (λ (rest : List ℕ). front ++ (more ++ rest)) (drop-drop count (length front) room)
    ∙ sym (append_assoc front more (drop (length front + count) room))
    ∙ ap (λ (n : ℕ). (front ++ more) ++ drop n room) (sym (length-append front more ∙ ap (λ (n : ℕ). length front + n) ends))

-- what a turn takes of a list is its next word, and what it leaves is the rest
pub word_taken : (size n : ℕ) (l left word rest : List ℕ) → left ≡ drop (size * n) l → left ≡ word ++ rest → length word ≡ size → size * n ≤ length l
    → (word ≡ take size (drop (size * n) l)) × (rest ≡ drop (size * (n + 1)) l) × (size * (n + 1) ≤ length l)
word_taken size n l left word rest standing parts whole counted =
    let both : drop (size * n) l ≡ word ++ rest = sym standing ∙ parts in
    let one_more : size * (n + 1) ≡ size * n + size = omega arith in (
      sym (ap (take size) both ∙ take_at word rest size whole),
      sym (ap (λ (k : ℕ). drop k l) one_more ∙ sym (drop-drop size (size * n) l) ∙ ap (drop size) both ∙ drop_at word rest size whole),
      omega (arith, simp (length-append, length-drop) at (ap length both)),
    )

module _ (size : ℕ) (turn : List ℕ → List ℕ) where
  -- the last word of one more
  each_suc : (n : ℕ) (l : List ℕ) → each_word size turn (suc n) l ≡ each_word size turn n l ++ turn (take size (drop (size * n) l))
  unfolding each_word
  each_suc zero l = append-nil (turn (take size l)) ∙ ap (λ (k : ℕ). turn (take size (drop k l))) (sym (mul-zero size))
  each_suc (suc n) l =
      ap (λ (rest : List ℕ). turn (take size l) ++ rest) (each_suc n (drop size l))
      ∙ ap (λ (last : List ℕ). turn (take size l) ++ (each_word size turn n (drop size l) ++ turn (take size last)))
      (drop-drop (size * n) size l ∙ ap (λ (k : ℕ). drop k l) (add_comm size (size * n) ∙ sym (mul-suc size n)))
      ∙ sym (append_assoc (turn (take size l)) (each_word size turn n (drop size l)) (turn (take size (drop (size * suc n) l))))

  -- where each word is turned into what a function of its elements gives, so is the whole
  pub each_same : (f : ℕ → ℕ) (n : ℕ) (l : List ℕ)
      → ((k : ℕ) → k < n → turn (take size (drop (size * k) l)) ≡ map f (take size (drop (size * k) l)))
      → each_word size turn n l ≡ map f (take (size * n) l)
  unfolding each_word
  each_same f zero l word = ap (λ (k : ℕ). map f (take k l)) (sym (mul-zero size))
  each_same f (suc n) l word =
      each_suc n l
      ∙ ap₂ ◌++◌ (each_same f n l (λ k h. word k (omega arith))) (word n (omega arith))
      ∙ sym (map-append f (take (size * n) l) (take size (drop (size * n) l)))
      ∙ ap (map f) (sym (take-add (size * n) size l) ∙ ap (λ (k : ℕ). take k l) (sym (mul-suc size n)))

  module _ (made : ℕ) (exact : (l : List ℕ) → length (turn l) ≡ made) where
    -- so many words are so long
    pub each_length : (n : ℕ) (l : List ℕ) → length (each_word size turn n l) ≡ made * n
    unfolding each_word
    each_length zero l = sym (mul-zero made)
    each_length (suc n) l =
        length-append (turn (take size l)) (each_word size turn n (drop size l))
        ∙ ap₂ ◌+◌ (exact (take size l)) (each_length n (drop size l))
        ∙ add_comm made (made * n)
        ∙ sym (mul-suc made n)

    -- one word more is laid into the room
    pub word_laid : (n at count : ℕ) (l room : List ℕ) → at ≡ made * n → count ≡ made
        → put_mid at count (laid (each_word size turn n l) room) (turn (take size (drop (size * n) l))) ≡ laid (each_word size turn (n + 1) l) room
    word_laid n at count l room starts ends =
        let more = turn (take size (drop (size * n) l)) in
        laid_more (each_word size turn n l) more room at count (each_length n l ∙ sym starts) (exact (take size (drop (size * n) l)) ∙ sym ends)
        ∙ ap (λ (all : List ℕ). laid all room) (sym (each_suc n l) ∙ ap (λ (k : ℕ). each_word size turn k l) (sym (add-one n)))

    -- turned and turned again is each word turned twice
    pub each_back : (back : List ℕ → List ℕ) (n : ℕ) (l : List ℕ)
        → each_word made back n (each_word size turn n l) ≡ each_word size (λ word. back (turn word)) n l
    unfolding each_word
    each_back back zero l = refl
    each_back back (suc n) l =
        let first = turn (take size l) in
        let rest = each_word size turn n (drop size l) in
        ap₂ (λ (word others : List ℕ). back word ++ each_word made back n others)
        (take_at first rest made (exact (take size l)))
        (drop_at first rest made (exact (take size l)))
        ∙ ap (λ (others : List ℕ). back first ++ others) (each_back back n (drop size l))
