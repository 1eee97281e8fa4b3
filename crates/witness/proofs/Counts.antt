-- The tables of a store whose pieces are filled one after the other: piece k is slot k, and m cells fill the first pieces. Assumes nothing.
use Rattle.std.proofs.Common.{◌≡◌, ℕ, zero, suc, ◌+◌, ◌-◌, ◌*◌, ◌/◌, ◌%◌, ◌^◌, ◌<◌, ◌≤◌, min, ltb, leb, List, ◌++◌, length, get_or, drop, replicate, sym, refl, ap, ◌∙◌, inl, inr, arith, pow_pos}
use Rattle.std.specs.List.{range_with_len}
use Rattle.std.proofs.lemmas.List.FromFn.{length-range_with_len, get_or-range_with_len}
use Rattle.std.proofs.lemmas.List.{get_or-drop, length-drop, length-append, length-replicate, get_or_append_left, get_or-append_right, get_or-replicate, get_or_past, ext_get_or}
use Rattle.std.proofs.lemmas.Nat.{shr-shr}
use Rattle.std.proofs.ByRecursion.{All-from_get_or}
use Rattle.std.proofs.lemmas.Bool.{cases_lt, lt-ltb, le-ltb, le-leb, lt-leb}
use Rattle.model.specs.Paper.{pick}
use Rattle.tree.specs.Tree.{leftmost, Sums}
use Rattle.tree.proofs.Node.{double, leftmost_next}
use Rattle.slots.specs.Cells.{cells_at}
use Rattle.pieces.specs.Marks.{Bit, Has, Marks}
use Rattle.pieces.specs.Store.{slot, used, piece, no_cell, Marked, Table}
use Rattle.witness.proofs.Built.{built, length_built, get_or_built}

-- how many of m cells piece k has
abbrev pub share : ℕ → ℕ → ℕ
share m k = min 1024 (m - 1024 * k)

-- node i of a tree whose leaf k counts f k; the node is h levels or fewer above the leaves
pub count : (ℕ → ℕ) → ℕ → ℕ → ℕ
count f zero i = f (i - 2048)
count f (suc h) i = pick (leb 2048 i) (f (i - 2048)) (count f h (2 * i) + count f h (2 * i + 1))

count_leaf : (f : ℕ → ℕ) (h i : ℕ) → 2048 ≤ i → count f h i ≡ f (i - 2048)
unfolding count
count_leaf f zero i l = refl
count_leaf f (suc h) i l = rw (le-leb 2048 i l) refl

count_node : (f : ℕ → ℕ) (h i : ℕ) → i < 2048 → count f (suc h) i ≡ count f h (2 * i) + count f h (2 * i + 1)
unfolding count
count_node f h i l = rw (lt-leb 2048 i l) refl

-- more levels than there are make no difference
count_deeper : (f : ℕ → ℕ) (h i : ℕ) → 2048 ≤ leftmost i h → count f (suc h) i ≡ count f h i
unfolding leftmost
count_deeper f zero i l = count_leaf f 1 i l ∙ sym (count_leaf f 0 i l)
count_deeper f (suc h) i l =
    elim (cases_lt i 2048) [
      | inl inner ↦
          let next : leftmost (2 * i + 1) h ≡ leftmost (2 * i) h + 2 ^ h = leftmost_next (2 * i) h in
          let a = count_deeper f h (2 * i) l in
          let b = count_deeper f h (2 * i + 1) (omega arith) in
          omega (arith, count_node f (suc h) i inner, count_node f h i inner)
      | inr outer ↦ count_leaf f (suc (suc h)) i outer ∙ sym (count_leaf f (suc h) i outer)
    ]

-- where no leaf counts more than 1,024, no node counts more than all leaves below it can
pub count_small : (f : ℕ → ℕ) → ((k : ℕ) → f k ≤ 1024) → (h i : ℕ) → count f h i ≤ 1024 * 2 ^ h
unfolding count
count_small f few zero i = omega (arith, few (i - 2048))
count_small f few (suc h) i =
    let d : 2 ^ suc h ≡ 2 ^ h + 2 ^ h = double h in
    elim (cases_lt i 2048) [
      | inl inner ↦ omega (arith, count_node f h i inner, count_small f few h (2 * i), count_small f few h (2 * i + 1))
      | inr outer ↦ omega (arith, count_leaf f (suc h) i outer, few (i - 2048), pow_pos h)
    ]

pub count_none : (f : ℕ → ℕ) → ((k : ℕ) → f k ≡ 0) → (h i : ℕ) → count f h i ≡ 0
unfolding count
count_none f none zero i = none (i - 2048)
count_none f none (suc h) i =
    elim (cases_lt i 2048) [
      | inl inner ↦ omega (arith, count_node f h i inner, count_none f none h (2 * i), count_none f none h (2 * i + 1))
      | inr outer ↦ omega (arith, count_leaf f (suc h) i outer, none (i - 2048))
    ]

leaves : (i : ℕ) → 0 < i → 2048 ≤ leftmost i 11
unfolding leftmost
leaves i h = omega arith

-- every node is the sum of its children
count_sum : (f : ℕ → ℕ) (i : ℕ) → 0 < i → i < 2048 → count f 11 i ≡ count f 11 (2 * i) + count f 11 (2 * i + 1)
count_sum f i low high = sym (count_deeper f 11 i (leaves i low)) ∙ count_node f 11 i high

-- words that are the nodes of such a tree
module _ (f : ℕ → ℕ) (t : List ℕ) (nodes : (i : ℕ) → i < 4096 → get_or t i 0 ≡ count f 11 i) where
  pub leaf_counts : (k : ℕ) → k < 2048 → get_or t (2048 + k) 0 ≡ f k
  leaf_counts k h =
      let e : 2048 + k - 2048 ≡ k = omega arith in
      nodes (2048 + k) (omega arith) ∙ count_leaf f 11 (2048 + k) (omega arith) ∙ ap f e

  pub sums_for : 4096 ≤ length t → ((k : ℕ) → f k ≤ 1024) → Sums t
  sums_for long few = record {
    long = long;
    sums = λ i h j.
        let a = nodes i (omega arith) in let b = nodes (2 * i) (omega arith) in let d = nodes (2 * i + 1) (omega arith) in
        omega (arith, count_sum f i h j);
    light = λ k h. rw (leaf_counts k h) (few k);
  }

-- a word of a set of marks: all of them, if there are cells
abbrev set_of : ℕ → ℕ
set_of m = pick (ltb 0 m) 4294967295 0

-- word k of the tables of s pieces: the order, nothing, the tree of counts from word 2048 on, and the sets of marks from word 6144 on
table_word : ℕ → ℕ → ℕ → ℕ
table_word m s k = pick (ltb k s) k (pick (ltb k 2048) 0 (pick (ltb k 6144) (count (share m) 11 (k - 2048)) (set_of m)))

-- every bit of all ones is set
ones_bit : (n j : ℕ) → j < n → Bit (2 ^ n - 1) j
ones_bit zero j l = absurd (omega arith)
ones_bit (suc n) zero l = omega (arith, double n, pow_pos n)
ones_bit (suc n) (suc j) l =
    let e : (2 ^ suc n - 1) / 2 ≡ 2 ^ n - 1 = omega (arith, double n, pow_pos n) in
    let f : 1 + j ≡ suc j = omega arith in
    let h : (2 ^ suc n - 1) / 2 / 2 ^ j ≡ (2 ^ suc n - 1) / 2 ^ suc j = shr-shr (2 ^ suc n - 1) 1 j ∙ ap (λ (i : ℕ). (2 ^ suc n - 1) / 2 ^ i) f in
    rw (← h, e) (ones_bit n j (omega arith))

pub tables_for : ℕ → ℕ → List ℕ
tables_for m s = built (table_word m s) 10240

pub length_tables : (m s : ℕ) → length (tables_for m s) ≡ 10240
unfolding tables_for
length_tables m s = length_built (table_word m s) 10240

-- the words p begin with those tables
pub record Begins (p : List ℕ) (m s : ℕ) : Type 0 where
  long : 10240 ≤ length p
  words : (k : ℕ) → k < 10240 → get_or p k 0 ≡ table_word m s k

begins_alone : (m s : ℕ) → Begins (tables_for m s) m s
unfolding tables_for
begins_alone m s = record { long = let e = length_tables m s in omega arith; words = λ k h. get_or_built (table_word m s) 10240 k h }

pub begins_before : (m s : ℕ) (ws : List ℕ) → Begins (tables_for m s ++ ws) m s
begins_before m s ws =
    let long = length_tables m s in
    let both = length-append (tables_for m s) ws in
    let alone = begins_alone m s in
    record { long = omega arith; words = λ k h. get_or_append_left (tables_for m s) ws 0 k (omega arith) ∙ alone.words k h }

module _ (m s : ℕ) (most : s ≤ 2048) (p : List ℕ) (begins : Begins p m s) where
  pub order_word : (k : ℕ) → k < s → slot p k ≡ k
  unfolding table_word
  order_word k h = begins.words k (omega arith) ∙ rw (lt-ltb k s h) refl

  spare_word : (k : ℕ) → s ≤ k → k < 2048 → get_or p k 0 ≡ 0
  unfolding table_word
  spare_word k h i = begins.words k (omega arith) ∙ rw (le-ltb k s h, lt-ltb k 2048 i) refl

  tree_word : (k : ℕ) → 2048 ≤ k → k < 6144 → get_or p k 0 ≡ count (share m) 11 (k - 2048)
  unfolding table_word
  tree_word k h i = begins.words k (omega arith) ∙ rw (le-ltb k s (omega arith), le-ltb k 2048 h, lt-ltb k 6144 i) refl

  set_word : (k : ℕ) → 6144 ≤ k → k < 10240 → get_or p k 0 ≡ set_of m
  unfolding table_word
  set_word k h i = begins.words k i ∙ rw (le-ltb k s (omega arith), le-ltb k 2048 (omega arith), le-ltb k 6144 h) refl

  all_marks : 0 < m → (i n : ℕ) → i < 2048 → Has p i n
  all_marks some i n h =
      record {
        low = rw (set_word (6144 + i) (omega arith) (omega arith), lt-ltb 0 m some) (ones_bit 32 (n % 32) (omega arith), ones_bit 32 (n % 31) (omega arith));
        high = rw (set_word (8192 + i) (omega arith) (omega arith), lt-ltb 0 m some) (ones_bit 32 (n / 32 % 32) (omega arith), ones_bit 32 (n % 29) (omega arith));
      }

  node_word : (i : ℕ) → i < 4096 → get_or (drop 2048 p) i 0 ≡ count (share m) 11 i
  node_word i h =
      let e : 2048 + i - 2048 ≡ i = omega arith in
      get_or-drop 2048 p i 0 ∙ tree_word (2048 + i) (omega arith) (omega arith) ∙ ap (count (share m) 11) e

  pub used_word : (k : ℕ) → k < 2048 → used p k ≡ share m k
  used_word k h =
      let e : 2048 + (2048 + k) ≡ 4096 + k = omega arith in
      rw e at (sym (get_or-drop 2048 p (2048 + k) 0) ∙ leaf_counts (share m) (drop 2048 p) node_word k h)

  pub table_for : 0 < s → m ≤ 1024 * s → Table p s
  table_for some room = record {
    order = record {
      some = some;
      most = most;
      words = begins.long;
      inside = λ k h. rw (order_word k h) h;
      apart = λ j k h i e. sym (order_word j h) ∙ e ∙ order_word k i;
      small = λ k h. rw (used_word k (omega arith)) (omega arith);
      idle = λ k h i. used_word k i ∙ (let e : share m k ≡ 0 = omega arith in e);
    };
    sums = sums_for (share m) (drop 2048 p) node_word (let e = begins.long in omega (arith, length-drop 2048 p)) (λ k. omega arith);
  }

  pub marked_for : (c : List ℕ) → Marked c p s
  unfolding piece cells_at
  marked_for c k h =
      elim (cases_lt 0 m) [
        | inl some ↦ All-from_get_or (Marks p (slot p k)) (piece c p k) no_cell
            (λ i l. let e = order_word k h in record { put_in = λ x. all_marks some (slot p k) _ (omega arith); struck = λ x. all_marks some (slot p k) _ (omega arith) })
        | inr none ↦ let e : used p k ≡ 0 = used_word k (omega arith) ∙ (let f : share m k ≡ 0 = omega arith in f) in rw e tt
      ]

  words_fit : (i : ℕ) → i < 10240 → get_or p i 0 < 4294967296
  words_fit i h =
      elim (cases_lt i s) [
        | inl a ↦ rw (order_word i a) (omega arith)
        | inr a ↦ elim (cases_lt i 2048) [
          | inl b ↦ rw (spare_word i a b) (omega arith)
          | inr b ↦ elim (cases_lt i 6144) [
            | inl d ↦ rw (tree_word i b d) (omega (arith, count_small (share m) (λ k. omega arith) 11 (i - 2048)))
            | inr d ↦ rw (set_word i d h) (elim (cases_lt 0 m) [ inl f ↦ rw (lt-ltb 0 m f) (omega arith) | inr f ↦ rw (le-ltb 0 m f) (omega arith) ])
          ]
        ]
      ]

-- every word fits four bytes
pub tables_fit : (m s : ℕ) → s ≤ 2048 → (i : ℕ) → get_or (tables_for m s) i 0 < 4294967296
tables_fit m s most i =
    let long = length_tables m s in
    elim (cases_lt i 10240) [
      | inl h ↦ words_fit m s most (tables_for m s) (begins_alone m s) i h
      | inr h ↦ rw (get_or_past (tables_for m s) i 0 (omega arith)) (omega arith)
    ]

-- with no cells: the order, and nothing
pub tables_none : (s : ℕ) → s ≤ 2048 → tables_for 0 s ≡ range_with_len 0 s ++ replicate (10240 - s) 0
tables_none s most =
    let long = length_tables 0 s in
    let front = length-range_with_len 0 s in
    let rest = length-replicate {A = ℕ} (10240 - s) 0 in
    let both = length-append (range_with_len 0 s) (replicate (10240 - s) 0) in
    ext_get_or 0 (tables_for 0 s) (range_with_len 0 s ++ replicate (10240 - s) 0) (omega arith) λ i h. at i (omega arith)
  where
    zeros : (i : ℕ) → s ≤ i → i < 10240 → get_or (range_with_len 0 s ++ replicate (10240 - s) 0) i 0 ≡ 0
    zeros i a h = get_or-append_right (range_with_len 0 s) (replicate (10240 - s) 0) s i 0 (length-range_with_len 0 s) a ∙ get_or-replicate (10240 - s) (i - s) 0 0 (omega arith)

    here : Begins (tables_for 0 s) 0 s
    here = begins_alone 0 s

    at : (i : ℕ) → i < 10240 → get_or (tables_for 0 s) i 0 ≡ get_or (range_with_len 0 s ++ replicate (10240 - s) 0) i 0
    at i h =
        elim (cases_lt i s) [
          | inl a ↦
              let front = length-range_with_len 0 s in
              let e : get_or (range_with_len 0 s) i 0 ≡ 0 + i = get_or-range_with_len 0 s i 0 a in
              let f : get_or (range_with_len 0 s ++ replicate (10240 - s) 0) i 0 ≡ get_or (range_with_len 0 s) i 0 = get_or_append_left (range_with_len 0 s) (replicate (10240 - s) 0) 0 i (omega arith) in
              let g = order_word 0 s most (tables_for 0 s) here i a in
              omega arith
          | inr a ↦ elim (cases_lt i 2048) [
            | inl b ↦ spare_word 0 s most (tables_for 0 s) here i a b ∙ sym (zeros i a h)
            | inr b ↦ elim (cases_lt i 6144) [
              | inl d ↦ tree_word 0 s most (tables_for 0 s) here i b d ∙ count_none (share 0) (λ k. omega arith) 11 (i - 2048) ∙ sym (zeros i a h)
              | inr d ↦ set_word 0 s most (tables_for 0 s) here i d h ∙ sym (zeros i a h)
            ]
          ]
        ]
