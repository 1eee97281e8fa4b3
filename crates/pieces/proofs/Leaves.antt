-- What a change of a length does to the words of the order and the tree.
use Rattle.std.proofs.Common.{◌≡◌, ℕ, ◌+◌, ◌-◌, ◌<◌, ◌≤◌, ◌≢◌, List, ◌++◌, length, get_or, take, drop, set, sym, ap, ◌∙◌, arith}
use borrow.Rule.Slice.PartMut.{put_mid}
use Rattle.std.proofs.lemmas.List.{take_rest, length-set, length-append, length-drop, length-take-le, get_or-set_same, get_or-set_other, get_or_append_left, get_or-take, get_or-drop, drop-drop, drop-set-lt}
use Rattle.tree.proofs.Part.{lent_back, lent_word}
use Rattle.pieces.specs.Store.{slot, used}
use Rattle.pieces.specs.Edits.{Resized}

-- no word past the tree has changed
resized : (p q : List ℕ) (k n : ℕ) → length q ≡ length p → used q k ≡ n → ((j : ℕ) → j < 2048 → j ≢ k → used q j ≡ used p j)
    → ((j : ℕ) → j < 2048 → slot q j ≡ slot p j) → drop 6144 q ≡ drop 6144 p → Resized p q k n
resized p q k n long here others order past =
    record {
      long = long;
      here = here;
      others = others;
      order = order;
      has = λ i m l h.
          let e : 8192 + i ≡ 6144 + (2048 + i) = omega arith in
          let f : get_or q (8192 + i) 0 ≡ get_or p (8192 + i) 0 = ap (λ w. get_or q w 0) e ∙ word (2048 + i) ∙ ap (λ w. get_or p w 0) (sym e) in
          record { low = rw (word i) h.low; high = rw f h.high };
      past = sym (drop-drop 4096 6144 q) ∙ ap (drop 4096) past ∙ drop-drop 4096 6144 p;
    }
  where
    word : (i : ℕ) → get_or q (6144 + i) 0 ≡ get_or p (6144 + i) 0
    word i = sym (get_or-drop 6144 q i 0) ∙ ap (λ xs. get_or xs i 0) past ∙ get_or-drop 6144 p i 0

-- one leaf is written
pub set_resized : (p : List ℕ) (k n : ℕ) → k < 2048 → 6144 ≤ length p → Resized p (set p (4096 + k) n) k n
set_resized p k n l w =
    resized p (set p (4096 + k) n) k n (length-set p (4096 + k) n) (get_or-set_same p (4096 + k) n 0 (omega arith))
    (λ j m ne. get_or-set_other p (4096 + k) (4096 + j) n 0 (omega arith)) (λ j m. get_or-set_other p (4096 + k) j n 0 (omega arith))
    (drop-set-lt 6144 p (4096 + k) n (omega arith))

-- the words from a on were lent and came back as ys
module _ (a : ℕ) (xs ys : List ℕ) (start : a ≤ length xs) (long : length ys ≡ length xs - a) where
  lent_front : (j : ℕ) → j < a → get_or (put_mid a (length xs - a) xs ys) j 0 ≡ get_or xs j 0
  lent_front j l =
      let f : length (take a xs) ≡ a = length-take-le a xs start in
      get_or_append_left (take a xs) (ys ++ drop (length xs - a) (drop a xs)) 0 j (omega arith) ∙ get_or-take a xs j 0 l

  lent_length : length (put_mid a (length xs - a) xs ys) ≡ length xs
  lent_length =
      let f : length (take a xs) ≡ a = length-take-le a xs start in
      let p = length-append (take a xs) (ys ++ drop (length xs - a) (drop a xs)) in
      let q = length-append ys (drop (length xs - a) (drop a xs)) in
      let r = length-drop (length xs - a) (drop a xs) in
      let t = length-drop a xs in
      omega arith

  lent_past : (m : ℕ) → drop m ys ≡ drop m (drop a xs) → drop (a + m) (put_mid a (length xs - a) xs ys) ≡ drop (a + m) xs
  lent_past m e =
      sym (drop-drop m a (put_mid a (length xs - a) xs ys)) ∙ ap (drop m) (lent_back a xs ys start long) ∙ e ∙ drop-drop m a xs

-- the words from 2048 on were lent and came back as ys
module _ (p ys : List ℕ) (w : 6144 ≤ length p) (l : length ys ≡ length (take (length p - 2048) (drop 2048 p))) where
  part_long : length ys ≡ length p - 2048
  part_long =
      l ∙ length-take-le (length p - 2048) (drop 2048 p) (simp length-drop (omega arith))

  pub part_back : drop 2048 (put_mid 2048 (length p - 2048) p ys) ≡ ys
  part_back = lent_back 2048 p ys (omega arith) part_long

  part_leaf : (j : ℕ) → used (put_mid 2048 (length p - 2048) p ys) j ≡ get_or ys (2048 + j) 0
  part_leaf j =
      let e : 4096 + j ≡ 2048 + (2048 + j) = omega arith in
      ap (λ i. get_or (put_mid 2048 (length p - 2048) p ys) i 0) e ∙ lent_word 2048 p ys (omega arith) part_long (2048 + j)

  pub part_resized : (k n : ℕ) → get_or ys (2048 + k) 0 ≡ n → ((j : ℕ) → j < 2048 → j ≢ k → get_or ys (2048 + j) 0 ≡ used p j)
      → drop 4096 ys ≡ drop 4096 (take (length p - 2048) (drop 2048 p)) → Resized p (put_mid 2048 (length p - 2048) p ys) k n
  part_resized k n here others rest =
      resized p (put_mid 2048 (length p - 2048) p ys) k n (lent_length 2048 p ys (omega arith) part_long) (part_leaf k ∙ here)
      (λ j m ne. part_leaf j ∙ others j m ne) (λ j m. lent_front 2048 p ys (omega arith) part_long j m)
      (lent_past 2048 p ys (omega arith) part_long 4096 (rest ∙ ap (drop 4096) (take_rest p 2048)))
