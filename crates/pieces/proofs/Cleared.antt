-- A store that has just been cleared.
use Rattle.std.proofs.Common.{◌≡◌, ℕ, zero, suc, ◌+◌, ◌-◌, ◌*◌, ◌<◌, ◌≤◌, List, [], ◌∷◌, ◌++◌, length, get_or, drop, set, replicate, sym, ap, ◌∙◌, add-zero, suc-add, zero-add, arith}
use Rattle.std.specs.List.{range_with_len}
use Rattle.std.proofs.lemmas.List.FromFn.{length-range_with_len, get_or-range_with_len}
use Rattle.std.proofs.lemmas.List.{get_or_append_left, get_or-append_right, get_or-replicate, length-replicate, length-append, length-drop, set_at, drop_more, drop-append-le, drop-replicate, append_assoc, get_or-drop}
use Rattle.slots.specs.Cells.{cells_at}
use Rattle.pieces.specs.Store.{piece, cells_of, cleared_words, Marked, Table}
use Rattle.pieces.proofs.Strung.{strung_none}

counting_push : (a n : ℕ) → range_with_len a n ++ ((a + n) ∷ []) ≡ range_with_len a (n + 1)
counting_push a zero = rw add-zero
counting_push a (suc n) =
    let e : a + suc n ≡ a + 1 + n = omega arith in
    rw (suc-add, e) (ap (λ xs. a ∷ xs) (counting_push (a + 1) n))

pub counting_more : (n : ℕ) (d : List ℕ) → n < length d → set (range_with_len 0 n ++ drop n d) n n ≡ range_with_len 0 (n + 1) ++ drop (n + 1) d
counting_more n d l =
    let e = drop_more d n 0 l in
    let t = set_at (range_with_len 0 n) (get_or d n 0) (drop (n + 1) d) n n (length-range_with_len 0 n) in
    let m = append_assoc (range_with_len 0 n) (n ∷ []) (drop (n + 1) d) in
    let q : range_with_len 0 n ++ (n ∷ []) ≡ range_with_len 0 (n + 1) = simp zero-add at (counting_push 0 n) in
    cc

module _ (p : List ℕ) (s : ℕ) (l : s ≤ 2048) (w : 10240 ≤ length p) where
  pub cleared_order : (k : ℕ) → k < s → get_or (cleared_words p s) k 0 ≡ k
  cleared_order k h =
      let n = length-range_with_len 0 s in
      get_or_append_left (range_with_len 0 s) (replicate (10240 - s) 0 ++ drop 10240 p) 0 k (omega arith) ∙ get_or-range_with_len 0 s k 0 h ∙ zero-add k

  pub cleared_zero : (k : ℕ) → s ≤ k → k < 10240 → get_or (cleared_words p s) k 0 ≡ 0
  cleared_zero k h i =
      let n = length-replicate {A = ℕ} (10240 - s) 0 in
      get_or-append_right (range_with_len 0 s) (replicate (10240 - s) 0 ++ drop 10240 p) s k 0 (length-range_with_len 0 s) h
      ∙ get_or_append_left (replicate (10240 - s) 0) (drop 10240 p) 0 (k - s) (omega arith)
      ∙ get_or-replicate (10240 - s) (k - s) 0 0 (omega arith)

  pub cleared_long : length (cleared_words p s) ≡ length p
  cleared_long = simp (length-append, length-range_with_len, length-replicate, length-drop) (omega arith)

  pub cleared_table : 0 < s → Table (cleared_words p s) s
  cleared_table o = record {
    order = record {
      some = o;
      most = l;
      words = let e = cleared_long in omega arith;
      inside = λ k h. rw (cleared_order k h) h;
      apart = λ j k h i e. sym (cleared_order j h) ∙ e ∙ cleared_order k i;
      small = λ k h. rw (cleared_zero (4096 + k) (omega arith) (omega arith)) (omega arith);
      idle = λ k h i. cleared_zero (4096 + k) (omega arith) (omega arith);
    };
    sums = record {
      long = simp length-drop (let e = cleared_long in omega arith);
      sums = λ i h j.
          let a = leaf i (omega arith) in let b = leaf (2 * i) (omega arith) in let d = leaf (2 * i + 1) (omega arith) in
          omega arith;
      light = λ j h. let a = leaf (2048 + j) (omega arith) in omega arith;
    };
  }
    where
      leaf : (i : ℕ) → i < 4096 → get_or (drop 2048 (cleared_words p s)) i 0 ≡ 0
      leaf i h = get_or-drop 2048 (cleared_words p s) i 0 ∙ cleared_zero (2048 + i) (omega arith) (omega arith)

  pub cleared_text : (c : List ℕ) → cells_of c (cleared_words p s) s ≡ []
  unfolding piece cells_at
  cleared_text c = strung_none (piece c (cleared_words p s)) 0 s (λ i h. rw (cleared_zero (4096 + (0 + i)) (omega arith) (omega arith)))

  pub cleared_marked : (c : List ℕ) → Marked c (cleared_words p s) s
  unfolding piece cells_at
  cleared_marked c k h = rw (cleared_zero (4096 + k) (omega arith) (omega arith)) tt

-- first zeros, then the order
pub cleared_is : (p q r : List ℕ) (s : ℕ) → s ≤ 2048 → q ≡ replicate 10240 0 ++ drop 10240 p → r ≡ range_with_len 0 s ++ drop s q → r ≡ cleared_words p s
cleared_is p q r s l e f =
    let n = length-replicate {A = ℕ} 10240 0 in
    let d = drop-append-le s (replicate 10240 0) (drop 10240 p) (omega arith) in
    let z = drop-replicate {X = ℕ} s 10240 0 in
    cc
