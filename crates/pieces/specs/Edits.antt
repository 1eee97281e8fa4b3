-- What the steps of an edit do: to the cells of one piece, to its length, and to one piece as a whole.
use Rattle.std.specs.Prelude.{◌≡◌, ℕ, ◌+◌, ◌-◌, ◌*◌, ◌<◌, ◌≤◌, ◌≢◌, List, [], ◌++◌, length, take, drop, slice_index, slice_index_or}
use Rattle.model.specs.Paper.{Cell}
use Rattle.slots.specs.Cells.{cells_at, Kept}
use Rattle.pieces.specs.Marks.{Has}
use Rattle.pieces.specs.Store.{slot, used, piece, cells_of, before, Marked, Order, Frame}

-- xs with the cells o to o + n - 1 replaced by ys
abbrev pub replaced : List Cell → ℕ → ℕ → List Cell → List Cell
replaced xs o n ys = take o xs ++ (ys ++ drop (o + n) xs)

-- the cells xs stand in the slot of piece k, and no word outside that slot has changed from c to d
pub record Filled (c d p : List ℕ) (k : ℕ) (xs : List Cell) : Type 0 where
  pub cells : cells_at d (1024 * slot p k) (length xs) ≡ xs
  pub kept : Kept c d (1024 * slot p k) 1024

-- from p to q piece k got the length n: the order and the other lengths have not changed, and no set has lost a mark
pub record Resized (p q : List ℕ) (k n : ℕ) : Type 0 where
  pub long : length q ≡ length p
  pub here : used q k ≡ n
  pub others : (j : ℕ) → j < 2048 → j ≢ k → used q j ≡ used p j
  pub order : (j : ℕ) → j < 2048 → slot q j ≡ slot p j
  pub has : (i m : ℕ) → i < 2048 → Has p i m → Has q i m
  pub past : drop 10240 q ≡ drop 10240 p

-- from p to q the order and all lengths stayed
abbrev pub Recounted : List ℕ → List ℕ → Type 0
Recounted p q = Resized p q 0 (used p 0)

-- piece k is now xs, and the others are as they were; the slots stay, and no set has lost a mark
pub record Changed (c p d q : List ℕ) (s k : ℕ) (xs : List Cell) : Type 0 where
  pub order : Order q s
  pub frame : Frame c p d q s
  pub here : piece d q k ≡ xs
  pub others : (j : ℕ) → j < s → j ≢ k → piece d q j ≡ piece c p j
  pub slots : (j : ℕ) → j < s → slot q j ≡ slot p j
  pub has : (i m : ℕ) → i < 2048 → Has p i m → Has q i m

-- n cells of piece j, from its cell o on, went behind the cells of piece i
pub record Shifted (c p d q : List ℕ) (s i j o n : ℕ) : Type 0 where
  pub order : Order q s
  pub frame : Frame c p d q s
  pub target : piece d q i ≡ piece c p i ++ take n (drop o (piece c p j))
  pub source : piece d q j ≡ replaced (piece c p j) o n []
  pub others : (k : ℕ) → k < s → k ≢ i → k ≢ j → piece d q k ≡ piece c p k
  pub slots : (k : ℕ) → k < s → slot q k ≡ slot p k
  pub marked : Marked c p s → Marked d q s

-- from p to q the word at `to` moved to `from`, and those between moved up by one
pub record Rotated (p q : List ℕ) (from to : ℕ) : Type 0 where
  pub long : length q ≡ length p
  pub first : slice_index_or q from 0 ≡ slice_index p to
  pub up : (w : ℕ) → from ≤ w → w < to → slice_index q (w + 1) ≡ slice_index p w
  pub below : (w : ℕ) → w < from → slice_index q w ≡ slice_index p w
  pub above : (w : ℕ) → to < w → slice_index q w ≡ slice_index p w

-- the text is the same, in a store that may be arranged another way
pub record SameText (c p d q : List ℕ) (s : ℕ) : Type 0 where
  pub order : Order q s
  pub frame : Frame c p d q s
  pub text : cells_of d q s ≡ cells_of c p s
  pub marked : Marked c p s → Marked d q s

-- the pieces up to k and their slots stayed where they are, but for the cells of piece k; the last slot is that of piece k + 1 now; and those after piece k
-- moved up by one
pub record Moved (c p d q : List ℕ) (s k : ℕ) : Type 0 where
  pub slots : (j : ℕ) → j ≤ k → slot q j ≡ slot p j
  pub last : slot q (k + 1) ≡ slot p (s - 1)
  pub slots_up : (j : ℕ) → k < j → j + 1 < s → slot q (j + 1) ≡ slot p j
  pub pieces : (j : ℕ) → j < k → piece d q j ≡ piece c p j
  pub pieces_up : (j : ℕ) → k < j → j + 1 < s → piece d q (j + 1) ≡ piece c p j

-- piece k was cut at its cell o, and what follows is piece k + 1
pub record Cut (c p d q : List ℕ) (s k o : ℕ) : Type 0 where
  pub same : SameText c p d q s
  pub place : before q k ≡ before p k
  pub here : used q k ≡ o
  pub next : used q (k + 1) ≡ used p k - o
  pub moved : Moved c p d q s k

-- the pieces before i are well filled, and those between i and j are empty
pub record Packed (p : List ℕ) (i j : ℕ) : Type 0 where
  pub full : (k : ℕ) → k < i → 768 ≤ used p k
  pub empty : (k : ℕ) → i < k → k < j → used p k ≡ 0
