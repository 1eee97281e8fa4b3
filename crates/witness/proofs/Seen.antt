-- The tables of a text whose cells fill the pieces one after the other, with what is kept of each piece behind them: a tree of counts for way 1, another for
-- way 2, and memos that say nothing. All that is kept is true. Assumes nothing.
use Rattle.std.proofs.Common.{◌≡◌, ℕ, suc, ◌+◌, ◌-◌, ◌*◌, ◌<◌, ◌≤◌, min, ltb, List, [], ◌∷◌, ◌++◌, length, get_or, take, drop, replicate, sym, refl, ap, ◌∙◌, ap₂, inl, inr, arith}
use Rattle.std.specs.List.{range_with_len}
use Rattle.std.proofs.lemmas.List.{append_assoc, drop-drop, drop_all, drop_at, ext_get_or, get_or-drop, get_or-replicate, get_or_past, length-append, length-drop, length-replicate, length-take, replicate-append-replicate, take_all, take_min}
use Rattle.std.proofs.lemmas.Bool.{cases_lt, lt-ltb, le-ltb}
use Rattle.model.specs.Paper.{pick, Cell, seen, view, cells_written}
use Rattle.model.proofs.Rows.{by_test}
use Rattle.slots.specs.Cells.{cells_at}
use Rattle.slots.proofs.Words.{length_cells, drop_cells, take_cells}
use Rattle.tree.specs.Tree.{Sums}
use Rattle.kept.specs.Kept.{Kept, Tallied, Trees}
use Rattle.kept.proofs.Whole.{whole}
use Rattle.pieces.specs.Store.{slot, piece, cells_of, Marked, Store, Table}
use Rattle.witness.proofs.Built.{built, length_built, get_or_built}
use Rattle.witness.proofs.Counts.{share, count, count_small, count_none, leaf_counts, sums_for, Begins, begins_before, table_for, marked_for, tables_for, length_tables, tables_fit, tables_none}
use Rattle.witness.proofs.Small.{Small, small_append}
use Rattle.witness.proofs.Written.{cells_back, piece_back, text_back}

-- the cells of piece k
abbrev pub part : List Cell → ℕ → List Cell
part xs k = take 1024 (drop (1024 * k) xs)

-- how many of them are seen in a way
abbrev seen_in : ℕ → List Cell → ℕ → ℕ
seen_in way xs k = length (view way (part xs k))

view_short : (way : ℕ) (xs : List Cell) → length (view way xs) ≤ length xs
unfolding view
view_short way [] = omega arith
view_short way (x ∷ xs) =
    let h = view_short way xs in
    by_test (seen way x) (x ∷ view way xs) (view way xs) (λ ys. length ys ≤ suc (length xs)) (λ _. omega arith) (λ _. omega arith)

seen_few : (way : ℕ) (xs : List Cell) (k : ℕ) → seen_in way xs k ≤ 1024
seen_few way xs k = omega (arith, view_short way (part xs k), length-take 1024 (drop (1024 * k) xs))

seen_none : (way : ℕ) (xs : List Cell) (k : ℕ) → length xs ≤ 1024 * k → seen_in way xs k ≡ 0
seen_none way xs k h = omega (arith, view_short way (part xs k), length-take 1024 (drop (1024 * k) xs), length-drop (1024 * k) xs)

-- word k: two trees of counts with the leaves f and g, and nothing behind them
kept_word : (ℕ → ℕ) → (ℕ → ℕ) → ℕ → ℕ
kept_word f g k = pick (ltb k 4096) (count f 11 k) (pick (ltb k 8192) (count g 11 (k - 4096)) 0)

pub kept_for : List Cell → List ℕ
kept_for xs = built (kept_word (seen_in 1 xs) (seen_in 2 xs)) 24576

module _ (xs : List Cell) where
  length_kept : length (kept_for xs) ≡ 24576
  unfolding kept_for
  length_kept = length_built (kept_word (seen_in 1 xs) (seen_in 2 xs)) 24576

  accepted_word : (i : ℕ) → i < 4096 → get_or (kept_for xs) i 0 ≡ count (seen_in 1 xs) 11 i
  unfolding kept_for kept_word
  accepted_word i h = get_or_built (kept_word (seen_in 1 xs) (seen_in 2 xs)) 24576 i (omega arith) ∙ rw (lt-ltb i 4096 h) refl

  rejected_word : (i : ℕ) → 4096 ≤ i → i < 8192 → get_or (kept_for xs) i 0 ≡ count (seen_in 2 xs) 11 (i - 4096)
  unfolding kept_for kept_word
  rejected_word i h j = get_or_built (kept_word (seen_in 1 xs) (seen_in 2 xs)) 24576 i (omega arith) ∙ rw (le-ltb i 4096 h, lt-ltb i 8192 j) refl

  memo_word : (i : ℕ) → 8192 ≤ i → get_or (kept_for xs) i 0 ≡ 0
  unfolding kept_for kept_word
  memo_word i h =
      elim (cases_lt i 24576) [
        | inl j ↦ get_or_built (kept_word (seen_in 1 xs) (seen_in 2 xs)) 24576 i j ∙ rw (le-ltb i 4096 (omega arith), le-ltb i 8192 h) refl
        | inr j ↦ get_or_past (kept_for xs) i 0 (omega (arith, length_kept))
      ]

  rejected_node : (i : ℕ) → i < 4096 → get_or (drop 4096 (kept_for xs)) i 0 ≡ count (seen_in 2 xs) 11 i
  rejected_node i h =
      let e : 4096 + i - 4096 ≡ i = omega arith in
      get_or-drop 4096 (kept_for xs) i 0 ∙ rejected_word (4096 + i) (omega arith) (omega arith) ∙ ap (count (seen_in 2 xs) 11) e

  kept_fit : Small (kept_for xs)
  kept_fit i =
      elim (cases_lt i 4096) [
        | inl h ↦ rw (accepted_word i h) (omega (arith, count_small (seen_in 1 xs) (seen_few 1 xs) 11 i))
        | inr h ↦ elim (cases_lt i 8192) [
          | inl j ↦ rw (rejected_word i h j) (omega (arith, count_small (seen_in 2 xs) (seen_few 2 xs) 11 (i - 4096)))
          | inr j ↦ rw (memo_word i j) (omega arith)
        ]
      ]

kept_zero : (i : ℕ) → get_or (kept_for []) i 0 ≡ 0
kept_zero i =
    elim (cases_lt i 4096) [
      | inl h ↦ accepted_word [] i h ∙ count_none (seen_in 1 []) (λ k. seen_none 1 [] k (omega arith)) 11 i
      | inr h ↦ elim (cases_lt i 8192) [
        | inl j ↦ rejected_word [] i h j ∙ count_none (seen_in 2 []) (λ k. seen_none 2 [] k (omega arith)) 11 (i - 4096)
        | inr j ↦ memo_word [] i j
      ]
    ]

zeros : (ws : List ℕ) (n : ℕ) → length ws ≡ n → ((i : ℕ) → get_or ws i 0 ≡ 0) → ws ≡ replicate n 0
zeros ws n long none =
    let rest = length-replicate {A = ℕ} n 0 in
    ext_get_or 0 ws (replicate n 0) (omega arith) λ i h. none i ∙ sym (get_or-replicate n i 0 0 (omega arith))

-- all tables of the cells xs in s slots
abbrev pub all_tables : List Cell → ℕ → List ℕ
all_tables xs s = tables_for (length xs) s ++ kept_for xs

module _ (xs : List Cell) (s : ℕ) where
  pub length_all : length (all_tables xs s) ≡ 34816
  length_all =
      let a = length-append (tables_for (length xs) s) (kept_for xs) in
      let b = length_tables (length xs) s in
      omega (arith, length_kept xs)

  begins_all : Begins (all_tables xs s) (length xs) s
  begins_all = begins_before (length xs) s (kept_for xs)

  kept_is : drop 10240 (all_tables xs s) ≡ kept_for xs
  kept_is = drop_at (tables_for (length xs) s) (kept_for xs) 10240 (length_tables (length xs) s)

  rejected_is : drop 14336 (all_tables xs s) ≡ drop 4096 (kept_for xs)
  rejected_is = sym (drop-drop 4096 10240 (all_tables xs s)) ∙ ap (drop 4096) kept_is

  behind : (n : ℕ) (ws : List ℕ) → drop n (all_tables xs s) ≡ ws → (i : ℕ) → get_or (all_tables xs s) (n + i) 0 ≡ get_or ws i 0
  behind n ws is i = sym (get_or-drop n (all_tables xs s) i 0) ∙ ap (λ (vs : List ℕ). get_or vs i 0) is

  accepted_sums : Sums (drop 10240 (all_tables xs s))
  accepted_sums = rw kept_is (sums_for (seen_in 1 xs) (kept_for xs) (accepted_word xs) (omega (arith, length_kept xs)) (seen_few 1 xs))

  rejected_sums : Sums (drop 14336 (all_tables xs s))
  rejected_sums =
      rw rejected_is (sums_for (seen_in 2 xs) (drop 4096 (kept_for xs)) (rejected_node xs) (omega (arith, length_kept xs, length-drop 4096 (kept_for xs)))
      (seen_few 2 xs))

  accepted_leaf : (k : ℕ) → k < 2048 → get_or (all_tables xs s) (10240 + 2048 + k) 0 ≡ length (view 1 (part xs k))
  accepted_leaf k h =
      let e : 10240 + (2048 + k) ≡ 10240 + 2048 + k = omega arith in
      rw e at (behind 10240 (kept_for xs) kept_is (2048 + k) ∙ leaf_counts (seen_in 1 xs) (kept_for xs) (accepted_word xs) k h)

  rejected_leaf : (k : ℕ) → k < 2048 → get_or (all_tables xs s) (14336 + 2048 + k) 0 ≡ length (view 2 (part xs k))
  rejected_leaf k h =
      let e : 14336 + (2048 + k) ≡ 14336 + 2048 + k = omega arith in
      rw e at (behind 14336 (drop 4096 (kept_for xs)) rejected_is (2048 + k) ∙
      leaf_counts (seen_in 2 xs) (drop 4096 (kept_for xs)) (rejected_node xs) k h)

  memo_zero : (i : ℕ) → 18432 ≤ i → get_or (all_tables xs s) i 0 ≡ 0
  memo_zero i h =
      let e : 10240 + (i - 10240) ≡ i = omega arith in
      rw e at (behind 10240 (kept_for xs) kept_is (i - 10240) ∙ memo_word xs (i - 10240) (omega arith))

  pub all_fit : s ≤ 2048 → Small (all_tables xs s)
  all_fit most = small_append (tables_for (length xs) s) (kept_for xs) (tables_fit (length xs) s most) (kept_fit xs)

  -- pieces past the cells count nothing
  module _ (room : length xs ≤ 1024 * s) (k : ℕ) (past : s ≤ k) (within : k < 2048) where
    accepted_none : get_or (all_tables xs s) (10240 + 2048 + k) 0 ≡ 0
    accepted_none = accepted_leaf k within ∙ seen_none 1 xs k (omega arith)

    rejected_none : get_or (all_tables xs s) (14336 + 2048 + k) 0 ≡ 0
    rejected_none = rejected_leaf k within ∙ seen_none 2 xs k (omega arith)

-- with no cells: the order, and nothing
pub all_none : (s : ℕ) → s ≤ 2048 → all_tables [] s ≡ range_with_len 0 s ++ replicate (34816 - s) 0
all_none s most =
    let kept : kept_for [] ≡ replicate 24576 0 = zeros (kept_for []) 24576 (length_kept []) kept_zero in
    let e : 10240 - s + 24576 ≡ 34816 - s = omega arith in
    ap₂ (λ (vs ws : List ℕ). vs ++ ws) (tables_none s most) kept ∙ append_assoc (range_with_len 0 s) (replicate (10240 - s) 0) (replicate 24576 0) ∙
    ap (λ (ws : List ℕ). range_with_len 0 s ++ ws) (replicate-append-replicate (10240 - s) 24576 0 ∙ ap (λ (n : ℕ). replicate n 0) e)

-- the store in front
module _ (xs : List Cell) (s : ℕ) (most : s ≤ 2048) where
  all_table : 0 < s → length xs ≤ 1024 * s → Table (all_tables xs s) s
  all_table = table_for (length xs) s most (all_tables xs s) (begins_all xs s)

  all_marked : (c : List ℕ) → Marked c (all_tables xs s) s
  all_marked = marked_for (length xs) s most (all_tables xs s) (begins_all xs s)

-- a part of cells in words
cells_part : (c : List ℕ) (m k : ℕ) → part (cells_at c 0 m) k ≡ cells_at c (1024 * k) (share m k)
unfolding cells_at
cells_part c m k =
    let ys : List Cell = drop (1024 * k) (cells_at c 0 m) in
    let long : length ys ≡ m - 1024 * k = omega (arith, length-drop (1024 * k) (cells_at c 0 m), length_cells c 0 m) in
    elim (cases_lt (1024 * k) m) [
      | inl h ↦
          let e : 0 + 1024 * k ≡ 1024 * k = omega arith in
          let here : ys ≡ cells_at c (1024 * k) (m - 1024 * k) = drop_cells c 0 m (1024 * k) (omega arith) ∙ ap (λ (a : ℕ). cells_at c a (m - 1024 * k)) e in
          let n : min 1024 (length ys) ≡ share m k = ap (min 1024) long in
          sym (take_min 1024 ys) ∙ ap₂ take n here ∙ take_cells c (1024 * k) (m - 1024 * k) (share m k) (omega arith)
      | inr h ↦
          let z : share m k ≡ 0 = omega arith in
          rw z (take_all 1024 ys (omega arith) ∙ drop_all (1024 * k) (cells_at c 0 m) (omega (arith, length_cells c 0 m)))
    ]

-- the words c begin with the cells: each piece has its part of them, and the text is all of them
module _ (c rest : List ℕ) (xs : List Cell) (s : ℕ) (most : s ≤ 2048) (written : c ≡ cells_written xs ++ rest) where
  piece_part : (k : ℕ) → k < s → piece c (all_tables xs s) k ≡ part xs k
  piece_part k h =
      piece_back c (length xs) s most (all_tables xs s) (begins_all xs s) k h ∙ sym (cells_part c (length xs) k) ∙
      ap (λ (ys : List Cell). part ys k) (cells_back c rest 0 xs written)

  pub all_text : length xs ≤ 1024 * s → cells_of c (all_tables xs s) s ≡ xs
  all_text room = text_back c rest xs s (all_tables xs s) most room written (begins_all xs s)

  -- all that always holds of a text holds
  module _ (some : 0 < s) (room : length xs ≤ 1024 * s) (long : 4096 * s ≤ length c) where
    store_all : Store c (all_tables xs s) s
    store_all = record { room = long; table = all_table xs s most some room; marked = all_marked xs s most c }

    trees_all : Trees (all_tables xs s) s
    trees_all = record {
      long = let e = length_all xs s in omega arith;
      accepted = accepted_sums xs s;
      rejected = rejected_sums xs s;
      none_accepted = accepted_none xs s room;
      none_rejected = rejected_none xs s room;
    }

    tallied_all : (k : ℕ) → k < s → Tallied c (all_tables xs s) k
    tallied_all k h =
        let e : piece c (all_tables xs s) k ≡ part xs k = piece_part k h in
        record {
          accepted = rw e (accepted_leaf xs s k (omega arith));
          rejected = rw e (rejected_leaf xs s k (omega arith));
          memo = λ pos. let z = memo_zero xs s (18432 + 8 * slot (all_tables xs s) k) (omega arith) in absurd (omega (arith, pos, z));
        }

    pub kept_all : Kept c (all_tables xs s) s
    kept_all = whole store_all trees_all tallied_all
