-- What is kept of one piece made anew: a tree that was lent, a leaf of it, and a memo.
use Rattle.std.proofs.Common.{◌≡◌, ℕ, ◌+◌, ◌-◌, ◌*◌, ◌<◌, ◌≤◌, ◌≢◌, List, ◌++◌, length, get_or, take, drop, set, sym, ap, ◌∙◌, arith}
use borrow.Rule.Slice.PartMut.{put_mid}
use Rattle.std.proofs.lemmas.List.{take_rest, length-set, length-append, length-drop, length-take-le, get_or-set_same, get_or-set_other, get_or_append_left, get_or-take, get_or-drop, drop-drop, drop-set-lt}
use Rattle.tree.specs.Tree.{Sums}
use Rattle.tree.proofs.Part.{lent_back, lent_word}
use Rattle.model.specs.Paper.{Cell, view}
use Rattle.pieces.specs.Store.{slot, piece, Store}
use Rattle.kept.specs.declared.memo.Memo.{Memo}
use Rattle.kept.specs.Kept.{leaf, memo_of, Right, Tallied, Trees, Above, Counted}
use Rattle.kept.proofs.Remembered.{sums_same, above_piece}

-- words from t on that have not changed
pub word_same : (p q : List ℕ) (t w : ℕ) → drop t q ≡ drop t p → t ≤ w → get_or q w 0 ≡ get_or p w 0
word_same p q t w e l =
    let i : t + (w - t) ≡ w = omega arith in
    rw i at (sym (get_or-drop t q (w - t) 0) ∙ ap (λ xs. get_or xs (w - t) 0) e ∙ get_or-drop t p (w - t) 0)

pub drop_same : (p q : List ℕ) (t w : ℕ) → drop t q ≡ drop t p → t ≤ w → drop w q ≡ drop w p
drop_same p q t w e l =
    let i : t + (w - t) ≡ w = omega arith in
    rw i at (sym (drop-drop (w - t) t q) ∙ ap (drop (w - t)) e ∙ drop-drop (w - t) t p)

-- a memo whose words have not changed
pub memo_same : (p q : List ℕ) (i : ℕ) → ((w : ℕ) → 18432 + 8 * i ≤ w → w < 18440 + 8 * i → get_or q w 0 ≡ get_or p w 0) → memo_of q i ≡ memo_of p i
memo_same p q i h =
    let a = h (18432 + 8 * i) (omega arith) (omega arith) in
    let b = h (18432 + 8 * i + 1) (omega arith) (omega arith) in
    let c = h (18432 + 8 * i + 2) (omega arith) (omega arith) in
    let d = h (18432 + 8 * i + 3) (omega arith) (omega arith) in
    let e = h (18432 + 8 * i + 4) (omega arith) (omega arith) in
    let f = h (18432 + 8 * i + 5) (omega arith) (omega arith) in
    let g = h (18432 + 8 * i + 6) (omega arith) (omega arith) in
    rw (a, b, c, d, e, f, g)

right_same : (m n : Memo) (xs : List Cell) → m ≡ n → Right n xs → Right m xs
right_same m n xs e h = rw e h

-- what is kept of piece j of one store is kept of piece k of another
pub tallied_same : (c p d q : List ℕ) (j k : ℕ) → leaf q 10240 k ≡ leaf p 10240 j → leaf q 14336 k ≡ leaf p 14336 j → slot q k ≡ slot p j → piece d q k ≡ piece c p j
    → ((w : ℕ) → 18432 + 8 * slot p j ≤ w → w < 18440 + 8 * slot p j → get_or q w 0 ≡ get_or p w 0) → Tallied c p j → Tallied d q k
tallied_same c p d q j k a b n e same h =
    record {
      accepted = rw e (a ∙ h.accepted);
      rejected = rw e (b ∙ h.rejected);
      memo = rw (n, e) (right_same (memo_of q (slot p j)) (memo_of p (slot p j)) (piece c p j) (memo_same p q (slot p j) same) h.memo);
    }

-- from p to q only words of the tree that begins at word t may have changed, and its sums are right
pub record OneTree (p q : List ℕ) (t : ℕ) : Type 0 where
  pub long : length q ≡ length p
  pub sums : Sums (drop t q)
  pub before : (w : ℕ) → w < t → get_or q w 0 ≡ get_or p w 0
  pub behind : drop (t + 4096) q ≡ drop (t + 4096) p

-- and of its leaves only leaf k, which is n
pub record OneLeaf (p q : List ℕ) (t k n : ℕ) : Type 0 where
  pub tree : OneTree p q t
  pub here : leaf q t k ≡ n
  pub others : (j : ℕ) → j < 2048 → j ≢ k → leaf q t j ≡ leaf p t j

pub leaf_word : (p : List ℕ) (t j : ℕ) → get_or (drop t p) (2048 + j) 0 ≡ leaf p t j
leaf_word p t j = let e : t + (2048 + j) ≡ t + 2048 + j = omega arith in get_or-drop t p (2048 + j) 0 ∙ ap (λ i. get_or p i 0) e

-- the words from t on were lent and came back as ys
module _ (p ys : List ℕ) (t : ℕ) (w : t + 4096 ≤ length p) (l : length ys ≡ length (take (length p - t) (drop t p))) where
  lent_long : length ys ≡ length p - t
  lent_long = l ∙ length-take-le (length p - t) (drop t p) (simp length-drop (omega arith))

  pub lent_leaf : (j : ℕ) → leaf (put_mid t (length p - t) p ys) t j ≡ get_or ys (2048 + j) 0
  lent_leaf j =
      let e : t + 2048 + j ≡ t + (2048 + j) = omega arith in
      ap (λ i. get_or (put_mid t (length p - t) p ys) i 0) e ∙ lent_word t p ys (omega arith) lent_long (2048 + j)

  pub lent_tree : Sums ys → drop 4096 ys ≡ drop 4096 (take (length p - t) (drop t p)) → OneTree p (put_mid t (length p - t) p ys) t
  lent_tree u rest =
      let f : length (take t p) ≡ t = length-take-le t p (omega arith) in
      let back = lent_back t p ys (omega arith) lent_long in
      let q = put_mid t (length p - t) p ys in
      record {
        long = simp (length-append, length-drop) (omega (arith, lent_long));
        sums = rw back u;
        before = λ i a. get_or_append_left (take t p) (ys ++ drop (length p - t) (drop t p)) 0 i (omega arith) ∙ get_or-take t p i 0 a;
        behind = sym (drop-drop 4096 t q) ∙ ap (drop 4096) back ∙ (rest ∙ ap (drop 4096) (take_rest p t)) ∙ drop-drop 4096 t p;
      }

  pub leaf_set : (k n : ℕ) → k < 2048 → Sums ys → ((j : ℕ) → j < 2048 → get_or ys (2048 + j) 0 ≡ get_or (set (drop t p) (2048 + k) n) (2048 + j) 0)
      → drop 4096 ys ≡ drop 4096 (take (length p - t) (drop t p)) → OneLeaf p (put_mid t (length p - t) p ys) t k n
  leaf_set k n m u leaves rest =
      record {
        tree = lent_tree u rest;
        here = lent_leaf k ∙ leaves k m ∙ get_or-set_same (drop t p) (2048 + k) n 0 (simp length-drop (omega arith));
        others = λ j a ne. lent_leaf j ∙ leaves j a ∙ get_or-set_other (drop t p) (2048 + k) (2048 + j) n 0 (omega arith) ∙ leaf_word p t j;
      }

-- both leaves of piece k are written, first p to q and then q to r, and the width of the memo of its slot
module _ (p q r : List ℕ) (s k a b : ℕ) (u : Trees p s) (m : s ≤ 2048) (l : k < s) (i : slot p k < 2048) (g : OneLeaf p q 10240 k a) (h : OneLeaf q r 14336 k b) where
  abbrev last : List ℕ
  last = set r (18432 + 8 * slot p k) 0

  last_long : length last ≡ length p
  last_long = length-set r (18432 + 8 * slot p k) 0 ∙ h.tree.long ∙ g.tree.long

  last_word : (w : ℕ) → w ≢ 18432 + 8 * slot p k → get_or last w 0 ≡ get_or r w 0
  last_word w ne = get_or-set_other r (18432 + 8 * slot p k) w 0 0 ne

  last_above : Above p last
  last_above =
      record {
        long = last_long;
        below = λ w n. last_word w (omega arith) ∙ h.tree.before w (omega arith) ∙ g.tree.before w n;
        past =
            drop-set-lt 34816 r (18432 + 8 * slot p k) 0 (omega arith) ∙ drop_same q r 18432 34816 h.tree.behind (omega arith)
            ∙ drop_same p q 14336 34816 g.tree.behind (omega arith);
      }

  accepted_other : (j : ℕ) → j < 2048 → j ≢ k → leaf last 10240 j ≡ leaf p 10240 j
  accepted_other j n ne = last_word (12288 + j) (omega arith) ∙ h.tree.before (12288 + j) (omega arith) ∙ g.others j n ne

  rejected_other : (j : ℕ) → j < 2048 → j ≢ k → leaf last 14336 j ≡ leaf p 14336 j
  rejected_other j n ne = last_word (16384 + j) (omega arith) ∙ h.others j n ne ∙ word_same p q 14336 (16384 + j) g.tree.behind (omega arith)

  pub counted : Counted p last k a b
  counted =
      let v = u.long in
      let x = h.tree.long in
      let y = g.tree.long in
      record {
        above = last_above;
        accepted = last_word (12288 + k) (omega arith) ∙ h.tree.before (12288 + k) (omega arith) ∙ g.here;
        rejected = last_word (16384 + k) (omega arith) ∙ h.here;
        silent = get_or-set_same r (18432 + 8 * slot p k) 0 0 (omega arith);
        others_accepted = accepted_other;
        others_rejected = rejected_other;
        memos = λ w n ne. last_word w ne ∙ word_same q r 18432 w h.tree.behind n ∙ word_same p q 14336 w g.tree.behind (omega arith);
      }

  pub counted_trees : Trees last s
  counted_trees =
      let e = last_long in
      let n = u.long in
      record {
        long = omega arith;
        accepted = sums_same q last 10240 (length-set r (18432 + 8 * slot p k) 0 ∙ h.tree.long) (λ w x y. last_word w (omega arith) ∙ h.tree.before w (omega arith)) g.tree.sums;
        rejected = sums_same r last 14336 (length-set r (18432 + 8 * slot p k) 0) (λ w x y. last_word w (omega arith)) h.tree.sums;
        none_accepted = λ j x y. accepted_other j y (omega arith) ∙ u.none_accepted j x y;
        none_rejected = λ j x y. rejected_other j y (omega arith) ∙ u.none_rejected j x y;
      }

-- the counts are those of the cells of piece k
module _ (c p q : List ℕ) (s k a b : ℕ) (t : Store c p s) (l : k < s) (h : Counted p q k a b) where
  pub tally_here : a ≡ length (view 1 (piece c p k)) → b ≡ length (view 2 (piece c p k)) → Tallied c q k
  tally_here e f =
      let o = t.table.order in
      let m = o.most in
      let z = h.silent in
      let n : slot q k ≡ slot p k = h.above.below k (omega arith) in
      record {
        accepted = rw (above_piece c p q s t h.above k l) (h.accepted ∙ e);
        rejected = rw (above_piece c p q s t h.above k l) (h.rejected ∙ f);
        memo = rw n (λ w. absurd (omega arith));
      }

  pub tally_other : (j : ℕ) → j < s → j ≢ k → Tallied c p j → Tallied c q j
  tally_other j x ne =
      let o = t.table.order in
      let m = o.most in
      let d : slot p j ≢ slot p k = λ e. ne (o.apart j k x l e) in
      tallied_same c p c q j j (h.others_accepted j (omega arith) ne) (h.others_rejected j (omega arith) ne) (h.above.below j (omega arith))
      (above_piece c p q s t h.above j x)
      (λ w v z. h.memos w (omega arith) (omega arith))
