-- What is kept of each piece of a text, so that not all of it has to be read: how many of its cells are seen in each way, and what it does to rows.
-- The tables of the store have 10,240 words. Behind them, from word 10240 on, stands a tree of counts whose leaf k says how many cells of piece k are seen in
-- way 1; from word 14336 on one for way 2. (The store's own tree of lengths is that of way 0.) From word 18432 on stand eight words for each slot, its memo:
-- a width, a way, the row that has begun before the piece, how many rows end in it, and the row that has begun behind it. Words from 34816 on are not touched.
-- Definitions only: nothing is assumed.
use Rattle.std.specs.Prelude.{◌≡◌, ℕ, ◌+◌, ◌-◌, ◌*◌, ◌<◌, ◌≤◌, ◌≢◌, List, ◌++◌, length, drop, replicate, slice_index}
use Rattle.std.specs.List.{range_with_len}
use Rattle.model.specs.Paper.{Cell, view}
use Rattle.breaks.specs.Breaks.{scan}
use Rattle.kept.specs.declared.memo.Memo.{Memo}
use Rattle.model.specs.declared.way.Way.{Way}
use Rattle.model.specs.declared.way.Way.TheVariants.{Everything, Accepted, Rejected}
use Rattle.tree.specs.Tree.{Sums}
use Rattle.pieces.specs.Store.{slot, piece, Store}

-- where the tree of a way begins
abbrev pub tree_at : Way → ℕ
tree_at Everything = 2048
tree_at Accepted = 10240
tree_at Rejected = 14336

-- leaf k of the tree that begins at word t
abbrev pub leaf : List ℕ → ℕ → ℕ → ℕ
leaf p t k = slice_index p (t + 2048 + k)

-- the memo of slot i
abbrev pub memo_of : List ℕ → ℕ → Memo
memo_of p i =
    record {
      width = slice_index p (18432 + 8 * i);
      way = slice_index p (18432 + 8 * i + 1);
      before = record { long = slice_index p (18432 + 8 * i + 2); space = slice_index p (18432 + 8 * i + 3) };
      reached = record {
        rows = slice_index p (18432 + 8 * i + 4);
        begun = record { long = slice_index p (18432 + 8 * i + 5); space = slice_index p (18432 + 8 * i + 6) };
      };
    }

-- what a memo says of the cells xs is true; with width 0 it says nothing
abbrev pub Right : Memo → List Cell → Type 0
Right m xs = 0 < m.width → scan m.width m.before (view m.way xs) ≡ m.reached

-- what is kept of piece k is true
pub record Tallied (c p : List ℕ) (k : ℕ) : Type 0 where
  pub accepted : leaf p 10240 k ≡ length (view 1 (piece c p k))
  pub rejected : leaf p 14336 k ≡ length (view 2 (piece c p k))
  pub memo : Right (memo_of p (slot p k)) (piece c p k)

-- both trees have their sums, and leaves past the s pieces count nothing
pub record Trees (p : List ℕ) (s : ℕ) : Type 0 where
  pub long : 34816 ≤ length p
  pub accepted : Sums (drop 10240 p)
  pub rejected : Sums (drop 14336 p)
  pub none_accepted : (k : ℕ) → s ≤ k → k < 2048 → leaf p 10240 k ≡ 0
  pub none_rejected : (k : ℕ) → s ≤ k → k < 2048 → leaf p 14336 k ≡ 0

-- all that is kept of a text in s slots is true
pub record AllTallied (c p : List ℕ) (s : ℕ) : Type 0 where
  pub trees : Trees p s
  pub tallied : (k : ℕ) → k < s → Tallied c p k

-- The same, shut: a search for a proof that has a text does not go into it.
unfoldable pub Tallies : List ℕ → List ℕ → ℕ → Type 0
Tallies c p s = AllTallied c p s

-- what always holds of a text in s slots
pub record Kept (c p : List ℕ) (s : ℕ) : Type 0 where
  pub store : Store c p s
  pub long : 34816 ≤ length p
  pub tallies : Tallies c p s

-- from p to q only what is kept of pieces may have changed
pub record Above (p q : List ℕ) : Type 0 where
  pub long : length q ≡ length p
  pub below : (w : ℕ) → w < 10240 → slice_index q w ≡ slice_index p w
  pub past : drop 34816 q ≡ drop 34816 p

-- from p to q what is kept of piece k became the counts a and b, and a memo that says nothing; what is kept of the other pieces has not changed
pub record Counted (p q : List ℕ) (k a b : ℕ) : Type 0 where
  pub above : Above p q
  pub accepted : leaf q 10240 k ≡ a
  pub rejected : leaf q 14336 k ≡ b
  pub silent : slice_index q (18432 + 8 * slot p k) ≡ 0
  pub others_accepted : (j : ℕ) → j < 2048 → j ≢ k → leaf q 10240 j ≡ leaf p 10240 j
  pub others_rejected : (j : ℕ) → j < 2048 → j ≢ k → leaf q 14336 j ≡ leaf p 14336 j
  pub memos : (w : ℕ) → 18432 ≤ w → w ≢ 18432 + 8 * slot p k → slice_index q w ≡ slice_index p w

-- leaf k of the tree that begins at word t counts what goes, and has room for what comes
pub record Room (p : List ℕ) (t k gone new : ℕ) : Type 0 where
  pub counts : gone ≤ leaf p t k
  pub fits : leaf p t k - gone + new ≤ 1024

-- what no change of a text in s slots touches: c and p before, d and q after
pub record Around (c p d q : List ℕ) (s : ℕ) : Type 0 where
  pub cells_long : length d ≡ length c
  pub words_long : length q ≡ length p
  -- words past the slots
  pub cells_past : drop (4096 * s) d ≡ drop (4096 * s) c
  -- words past what is kept
  pub words_past : drop 34816 q ≡ drop 34816 p
  -- words between the order and the tree
  pub spare : (k : ℕ) → s ≤ k → k < 2048 → slice_index q k ≡ slice_index p k

-- tables of s slots that have just been cleared, over memory that was p
abbrev pub cleared_tables : List ℕ → ℕ → List ℕ
cleared_tables p s = range_with_len 0 s ++ (replicate (34816 - s) 0 ++ drop 34816 p)
