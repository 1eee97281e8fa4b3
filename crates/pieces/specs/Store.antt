-- A paper's cells kept in pieces. The words `c` hold s slots of 1,024 cells. The words `p` hold the order, word k the slot of piece k, and from word 2048
-- on a tree of counts, whose leaf k, word 4096 + k, says how many cells piece k has: they stand at the front of its slot. Every slot is a piece, so
-- that one which is not used has no cells. The text is all pieces, one after the other. Words 6144 + i and 8192 + i are the set of marks of slot i, which has
-- at least the marks of the piece in it.
use Rattle.std.specs.Prelude.{◌≡◌, ℕ, zero, suc, ◌+◌, ◌-◌, ◌*◌, ◌<◌, ◌≤◌, List, [], ◌++◌, length, drop, replicate, slice_index}
use Rattle.std.specs.List.{range_with_len, AllByRecursion}
use Rattle.model.specs.Paper.{Cell}
use Rattle.slots.specs.Cells.{cells_at}
use Rattle.tree.specs.Tree.{Sums}
use Rattle.pieces.specs.Marks.{Marks}

-- the slot of piece k
abbrev pub slot : List ℕ → ℕ → ℕ
slot p k = slice_index p k

-- how many cells piece k has
abbrev pub used : List ℕ → ℕ → ℕ
used p k = slice_index p (4096 + k)

-- the number in `c` of cell j of piece k
abbrev pub number : List ℕ → ℕ → ℕ → ℕ
number p k j = 1024 * slot p k + j

-- the cells of piece k
unfoldable pub piece : List ℕ → List ℕ → ℕ → List Cell
piece c p k = cells_at c (1024 * slot p k) (used p k)

-- the n lists from f k on, one after the other
unfoldable pub strung : (ℕ → List Cell) → ℕ → ℕ → List Cell
strung f k zero = []
strung f k (suc n) = f k ++ strung f (suc k) n

-- the n pieces from k on, one after the other
abbrev pub pieces_from : List ℕ → List ℕ → ℕ → ℕ → List Cell
pieces_from c p k n = strung (piece c p) k n

-- the text: all s pieces
abbrev pub cells_of : List ℕ → List ℕ → ℕ → List Cell
cells_of c p s = pieces_from c p 0 s

-- how many cells stand before piece k
unfoldable pub before : List ℕ → ℕ → ℕ
before p zero = 0
before p (suc k) = before p k + used p k

-- the cell that stands for none
abbrev pub no_cell : Cell
no_cell = record { letter = 0; style = 0; put_in = 0; struck = 0 }

-- the order and the lengths of s pieces, before the counts above the leaves are right
pub record Order (p : List ℕ) (s : ℕ) : Type 0 where
  pub some : 0 < s
  pub most : s ≤ 2048
  pub words : 10240 ≤ length p
  -- each piece has a slot
  pub inside : (k : ℕ) → k < s → slot p k < s
  -- and no other piece has it
  pub apart : (j k : ℕ) → j < s → k < s → slot p j ≡ slot p k → j ≡ k
  -- a piece fits its slot
  pub small : (k : ℕ) → k < s → used p k ≤ 1024
  -- leaves past the pieces count nothing
  pub idle : (k : ℕ) → s ≤ k → k < 2048 → used p k ≡ 0

-- the same with the counts
pub record Table (p : List ℕ) (s : ℕ) : Type 0 where
  pub order : Order p s
  pub sums : Sums (drop 2048 p)

-- the set of each piece has the marks of its cells
abbrev pub Marked : List ℕ → List ℕ → ℕ → Type 0
Marked c p s = (k : ℕ) → k < s → AllByRecursion (Marks p (slot p k)) (piece c p k)

-- what always holds of a store of s slots
pub record Store (c p : List ℕ) (s : ℕ) : Type 0 where
  pub room : 4096 * s ≤ length c
  pub table : Table p s
  pub marked : Marked c p s

-- what no change of a store of s slots touches: c and p before, d and q after
pub record Frame (c p d q : List ℕ) (s : ℕ) : Type 0 where
  pub cells_long : length d ≡ length c
  pub words_long : length q ≡ length p
  -- words past the slots
  pub cells_past : drop (4096 * s) d ≡ drop (4096 * s) c
  -- words past the sets of marks
  pub words_past : drop 10240 q ≡ drop 10240 p
  -- words between the order and the tree
  pub spare : (k : ℕ) → s ≤ k → k < 2048 → slice_index q k ≡ slice_index p k

-- cell `place` of the text is cell o of piece k
pub record Located (p : List ℕ) (s place k o : ℕ) : Type 0 where
  pub here : k < s
  pub within : o < used p k
  pub sum : before p k + o ≡ place

-- a cell put in at `place` goes before cell o of piece k, or behind its last
pub record Gap (p : List ℕ) (s place k o : ℕ) : Type 0 where
  pub here : k < s
  pub within : o ≤ used p k
  pub sum : before p k + o ≡ place

-- a store of s slots that has just been cleared, over memory that was c and p
abbrev pub cleared_cells : List ℕ → ℕ → List ℕ
cleared_cells c s = replicate (4096 * s) 0 ++ drop (4096 * s) c

abbrev pub cleared_words : List ℕ → ℕ → List ℕ
cleared_words p s = range_with_len 0 s ++ (replicate (10240 - s) 0 ++ drop 10240 p)
