-- Runs of words: what is written of them, and how they follow one another.
use Rattle.std.proofs.Common.{◌≡◌, ℕ, ◌+◌, ◌-◌, ◌*◌, ◌<◌, ◌≤◌, min, List, [], ◌∷◌, ◌++◌, length, get_or, take, drop, sym, refl, ap, ◌∙◌, inl, inr, suc-add, zero-add, arith}
use Rattle.std.proofs.lemmas.Bool.{cases_lt}
use Rattle.std.proofs.lemmas.List.{append_assoc, append-nil, length-drop, length-take-le, take_all, take-append-drop, take-append-le, take_more, take-take, drop_all, drop-append-le, drop-drop, drop-take}
use Rattle.codec.specs.Bytes.{word_bytes, words_bytes}
use Rattle.codec.specs.Over.{over}
use Rattle.codec.proofs.Writes.{over_more, over_nothing, length_words_bytes, words_step}

-- a run of words within the first l of them
pub run_within : (m n l : ℕ) (w : List ℕ) → m + n ≤ l → take n (drop m (take l w)) ≡ take n (drop m w)
run_within m n l w h =
    let e : m + (l - m) ≡ l = omega arith in
    let d = drop-take m (l - m) w in
    let t = take-take n (l - m) (drop m w) (omega arith) in
    cc

-- the first m of l words, and the others
run_split : (m l i : ℕ) (w : List ℕ) → m ≤ l → take l (drop i w) ≡ take m (drop i w) ++ take (l - m) (drop (i + m) w)
run_split m l i w h =
    let e : m + (l - m) ≡ l = omega arith in
    let a = take-append-drop m (take l (drop i w)) in
    let t = take-take m l (drop i w) h in
    let d = drop-take m (l - m) (drop i w) in
    let r = drop-drop m i w in
    cc

take_both : (xs ys : List ℕ) (n : ℕ) → take (length xs + n) (xs ++ ys) ≡ xs ++ take n ys
take_both [] ys n = rw zero-add
take_both (x ∷ xs) ys n = rw suc-add (ap (λ (zs : List ℕ). x ∷ zs) (take_both xs ys n))

drop_both : (xs ys : List ℕ) (n : ℕ) → drop (length xs + n) (xs ++ ys) ≡ drop n ys
drop_both [] ys n = rw zero-add
drop_both (x ∷ xs) ys n = rw suc-add (drop_both xs ys n)

-- n words of two lists, one after the other: m of the first, and the others of the second
take_two : (xs ys : List ℕ) (n m : ℕ) → m ≡ min n (length xs) → take n (xs ++ ys) ≡ take m xs ++ take (n - m) ys
take_two xs ys n m e =
    elim (cases_lt n (length xs)) [
      | inl h ↦
          let z : n - m ≡ 0 = omega arith in
          let s : m ≡ n = omega arith in
          let t = take-append-le n xs ys (omega arith) in
          rw (z, s) (t ∙ sym (append-nil (take n xs)))
      | inr h ↦
          let s : m ≡ length xs = omega arith in
          let q : length xs + (n - m) ≡ n = omega arith in
          let a = take_all m xs (omega arith) in
          let b = take_both xs ys (n - m) in
          cc
    ]

drop_two : (xs ys : List ℕ) (i : ℕ) → drop i (xs ++ ys) ≡ drop i xs ++ drop (i - length xs) ys
drop_two xs ys i =
    elim (cases_lt i (length xs)) [
      | inl h ↦
          let z : i - length xs ≡ 0 = omega arith in
          rw z (drop-append-le i xs ys (omega arith))
      | inr h ↦
          let q : length xs + (i - length xs) ≡ i = omega arith in
          let a = drop_all i xs h in
          let b = drop_both xs ys (i - length xs) in
          rw a (rw q at b)
    ]

pub run_two : (xs ys : List ℕ) (i n m : ℕ) → m ≡ min n (length xs - i) → take n (drop i (xs ++ ys)) ≡ take m (drop i xs) ++ take (n - m) (drop (i - length xs) ys)
run_two xs ys i n m e = ap (take n) (drop_two xs ys i) ∙ take_two (drop i xs) (drop (i - length xs) ys) n m (rw length-drop e)

pub words_bytes_both : (ns ms : List ℕ) → words_bytes (ns ++ ms) ≡ words_bytes ns ++ words_bytes ms
unfolding words_bytes
words_bytes_both [] ms = refl
words_bytes_both (n ∷ ns) ms = ap (λ (bs : List ℕ). word_bytes n ++ bs) (words_bytes_both ns ms) ∙ sym (append_assoc (word_bytes n) (words_bytes ns) (words_bytes ms))

-- nothing written
pub run_none : (o : List ℕ) (a n : ℕ) (ns : List ℕ) → n ≡ 0 → over o a (words_bytes (take n ns)) ≡ o
unfolding words_bytes
run_none o a n ns e = rw e (over_nothing o a)

-- one word more
pub run_more : (w o : List ℕ) (a i : ℕ) (o₁ o₂ : List ℕ) (a₁ : ℕ) → i < length w → o₁ ≡ over o a (words_bytes (take i w)) → a₁ ≡ a + 4 * i → a₁ ≤ length o
    → o₂ ≡ over o₁ a₁ (word_bytes (get_or w i 0)) → o₂ ≡ over o a (words_bytes (take (i + 1) w))
run_more w o a i o₁ o₂ a₁ h f p l g =
    let n = length-take-le i w (omega arith) in
    rw (take_more w i 0 h) (words_step o a [] (take i w) (get_or w i 0) f (omega arith) l g)

-- Of n words to be written from word i of ns on, l are still to be written, from word j on.
pub record Writing (ns o : List ℕ) (a i n : ℕ) (o' : List ℕ) (a' j l : ℕ) : Type 0 where
  pub bytes : over o' a' (words_bytes (take l (drop j ns))) ≡ over o a (words_bytes (take n (drop i ns)))
  pub place : a' + 4 * l ≡ a + 4 * n
  pub next : j + l ≡ i + n

-- m words more
pub writing_more : (ns o : List ℕ) (a i n : ℕ) (o' : List ℕ) (a' j l : ℕ) → Writing ns o a i n o' a' j l → (m : ℕ) → m ≤ l → j + l ≤ length ns → (o'' : List ℕ) (a'' : ℕ)
    → o'' ≡ over o' a' (words_bytes (take m (drop j ns))) → a'' ≡ a' + 4 * m → a'' ≤ length o' → Writing ns o a i n o'' a'' (j + m) (l - m)
writing_more ns o a i n o' a' j l h m s t o'' a'' f p r =
    let d = length-drop j ns in
    let k = length-take-le m (drop j ns) (omega arith) in
    let b = length_words_bytes (take m (drop j ns)) in
    let v = over_more o' a' (words_bytes (take m (drop j ns))) a'' (omega arith) r (words_bytes (take (l - m) (drop (j + m) ns))) in
    let w = words_bytes_both (take m (drop j ns)) (take (l - m) (drop (j + m) ns)) in
    let x = run_split m l j ns s in
    let y = h.bytes in
    let z = h.place in
    let q = h.next in
    record { bytes = cc; place = omega arith; next = omega arith }

pub writing_done : (ns o : List ℕ) (a i n : ℕ) (o' : List ℕ) (a' j l : ℕ) → Writing ns o a i n o' a' j l → l ≡ 0 → o' ≡ over o a (words_bytes (take n (drop i ns)))
writing_done ns o a i n o' a' j l h e = sym (run_none o' a' l (drop j ns) e) ∙ h.bytes
