-- A tree of counts in a list of words: node 1 is the root, node i has the children 2 i and 2 i + 1, and leaf k, of 2,048, is word 2048 + k.
use Rattle.std.specs.Prelude.{◌≡◌, ℕ, zero, suc, ◌+◌, ◌*◌, ◌^◌, ◌<◌, ◌≤◌, List, length, slice_index, slice_set}

-- the leftmost node h levels below the node n
unfoldable pub leftmost : ℕ → ℕ → ℕ
leftmost n zero = n
leftmost n (suc h) = leftmost (2 * n) h

-- the sum of the n words from word k on
unfoldable pub total : List ℕ → ℕ → ℕ → ℕ
total t k zero = 0
total t k (suc n) = slice_index t k + total t (k + 1) n

-- word i is the sum of its children
abbrev pub Sum : List ℕ → ℕ → Type 0
Sum t i = slice_index t i ≡ slice_index t (2 * i) + slice_index t (2 * i + 1)

-- word i made the sum of its children
abbrev pub added : List ℕ → ℕ → List ℕ
added t i = slice_set t i (slice_index t (2 * i) + slice_index t (2 * i + 1))

-- no leaf counts more than 1,024, so that no sum overflows
abbrev pub Light : List ℕ → Type 0
Light t = (j : ℕ) → j < 2048 → slice_index t (2048 + j) ≤ 1024

-- a whole tree: every node above the leaves is the sum of its children
pub record Sums (t : List ℕ) : Type 0 where
  pub long : 4096 ≤ length t
  pub sums : (i : ℕ) → 0 < i → i < 2048 → Sum t i
  pub light : Light t

-- the place falls in leaf k, at `offset` there
pub record Found (t : List ℕ) (place k offset : ℕ) : Type 0 where
  pub within : k < 2048
  pub sum : total t 2048 k + offset ≡ place
  pub inside : offset < slice_index t (2048 + k)

-- the node n stands h levels above the leaves, and counts more than the place
pub record Over (t : List ℕ) (n h place : ℕ) : Type 0 where
  pub sums : Sums t
  pub node : 0 < n
  pub first : 2048 ≤ leftmost n h
  pub last : leftmost n h + 2 ^ h ≤ 4096
  pub inside : place < slice_index t n
