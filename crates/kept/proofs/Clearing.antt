-- Tables that have just been cleared, with what is kept of pieces.
use Rattle.std.proofs.Common.{◌≡◌, ℕ, ◌+◌, ◌-◌, ◌*◌, ◌<◌, ◌≤◌, List, [], ◌++◌, length, get_or, take, drop, replicate, sym, ap, ◌∙◌, arith}
use Rattle.std.specs.List.{range_with_len}
use borrow.Rule.Slice.PartMut.{put_mid}
use Rattle.std.proofs.lemmas.List.FromFn.{length-range_with_len}
use Rattle.std.proofs.lemmas.List.{get_or_append_left, get_or-append_right, get_or-replicate, length-replicate, replicate-append-replicate, length-append, length-drop, length-take-le, drop_at, drop-drop, append_assoc, get_or-drop}
use Rattle.model.specs.Paper.{view}
use Rattle.tree.specs.Tree.{Sums}
use Rattle.slots.specs.Cells.{cells_at}
use Rattle.pieces.specs.Store.{slot, piece, cleared_words, Store}
use Rattle.kept.specs.Kept.{cleared_tables, Kept, Tallied, Trees}
use Rattle.kept.proofs.Seen.{view_none}
use Rattle.kept.proofs.Whole.{whole}

-- zeros behind word a, and then before it
zeros_behind : (p z r : List ℕ) (a b s : ℕ) → s ≤ a → a ≤ length p → z ≡ replicate b 0
    → r ≡ range_with_len 0 s ++ (replicate (a - s) 0 ++ drop a (put_mid a b p z)) → r ≡ range_with_len 0 s ++ (replicate (a + b - s) 0 ++ drop (a + b) p)
zeros_behind p z r a b s l w e f =
    let front : length (take a p) ≡ a = length-take-le a p w in
    let d : drop a (put_mid a b p z) ≡ z ++ drop b (drop a p) = drop_at (take a p) (z ++ drop b (drop a p)) a front in
    let g = drop-drop b a p in
    let n : a - s + b ≡ a + b - s = omega arith in
    let m : replicate {A = ℕ} (a - s) 0 ++ replicate b 0 ≡ replicate (a + b - s) 0 = replicate-append-replicate (a - s) b 0 ∙ ap (λ k. replicate {A = ℕ} k 0) n in
    let h = append_assoc (replicate {A = ℕ} (a - s) 0) (replicate b 0) (drop (a + b) p) in
    cc

-- first the words behind the store's tables are cleared, then those
pub tables_is : (p z r : List ℕ) (s : ℕ) → s ≤ 2048 → 34816 ≤ length p → z ≡ replicate 24576 0 → r ≡ cleared_words (put_mid 10240 24576 p z) s → r ≡ cleared_tables p s
tables_is p z r s l w = zeros_behind p z r 10240 24576 s (omega arith) (omega arith)

module _ (p : List ℕ) (s : ℕ) (l : s ≤ 2048) (w : 34816 ≤ length p) where
  tables_zero : (k : ℕ) → s ≤ k → k < 34816 → get_or (cleared_tables p s) k 0 ≡ 0
  tables_zero k h i =
      let n = length-replicate {A = ℕ} (34816 - s) 0 in
      get_or-append_right (range_with_len 0 s) (replicate (34816 - s) 0 ++ drop 34816 p) s k 0 (length-range_with_len 0 s) h
      ∙ get_or_append_left (replicate (34816 - s) 0) (drop 34816 p) 0 (k - s) (omega arith)
      ∙ get_or-replicate (34816 - s) (k - s) 0 0 (omega arith)

  tables_long : length (cleared_tables p s) ≡ length p
  tables_long = simp (length-append, length-range_with_len, length-replicate, length-drop) (omega arith)

  -- a tree of zeros
  tables_sums : (t : ℕ) → s ≤ t → t + 4096 ≤ 34816 → Sums (drop t (cleared_tables p s))
  tables_sums t a b =
      record {
        long = simp length-drop (let e = tables_long in omega arith);
        sums = λ i h j.
            let x = word i (omega arith) in let y = word (2 * i) (omega arith) in let z = word (2 * i + 1) (omega arith) in
            omega arith;
        light = λ j h. let x = word (2048 + j) (omega arith) in omega arith;
      }
    where
      word : (i : ℕ) → i < 4096 → get_or (drop t (cleared_tables p s)) i 0 ≡ 0
      word i h = get_or-drop t (cleared_tables p s) i 0 ∙ tables_zero (t + i) (omega arith) (omega arith)

  tables_trees : Trees (cleared_tables p s) s
  tables_trees =
      record {
        long = let e = tables_long in omega arith;
        accepted = tables_sums 10240 (omega arith) (omega arith);
        rejected = tables_sums 14336 (omega arith) (omega arith);
        none_accepted = λ k a b. tables_zero (10240 + 2048 + k) (omega arith) (omega arith);
        none_rejected = λ k a b. tables_zero (14336 + 2048 + k) (omega arith) (omega arith);
      }

  tables_piece : (c : List ℕ) (k : ℕ) → k < s → piece c (cleared_tables p s) k ≡ []
  unfolding piece cells_at
  tables_piece c k h = rw (tables_zero (4096 + k) (omega arith) (omega arith))

  none_seen : (c : List ℕ) (k v : ℕ) → k < s → length (view v (piece c (cleared_tables p s) k)) ≡ 0
  none_seen c k v h = ap (λ xs. length (view v xs)) (tables_piece c k h) ∙ ap length (view_none v)

  tables_tallied : (c : List ℕ) → Store c (cleared_tables p s) s → (k : ℕ) → k < s → Tallied c (cleared_tables p s) k
  tables_tallied c t k h =
      let inside = t.table.order.inside k h in
      let i = slot (cleared_tables p s) k in
      record {
        accepted = tables_zero (10240 + 2048 + k) (omega arith) (omega arith) ∙ sym (none_seen c k 1 h);
        rejected = tables_zero (14336 + 2048 + k) (omega arith) (omega arith) ∙ sym (none_seen c k 2 h);
        memo = λ some. absurd (let z = tables_zero (18432 + 8 * i) (omega arith) (omega arith) in omega arith);
      }

  pub tables_kept : (c q : List ℕ) → q ≡ cleared_tables p s → Store c q s → Kept c q s
  tables_kept c q e t =
      let u : Store c (cleared_tables p s) s = rw e at t in
      rw e (whole u tables_trees (tables_tallied c u))
