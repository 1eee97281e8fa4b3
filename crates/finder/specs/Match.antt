-- How much of some letters ls stands at the end of a text t. Definitions only: nothing is assumed.
use Rattle.std.specs.Prelude.{◌≡◌, ℕ, ◌+◌, ◌<◌, ◌≤◌, List, [], ◌∷◌, ◌++◌, length, take, slice_index}

-- the text t ends with the first k of the letters ls
pub record Ends (ls t : List ℕ) (k : ℕ) : Type 0 where
  pub fits : k ≤ length ls
  pub front : List ℕ
  pub split : t ≡ front ++ take k ls

-- and with no more of them
pub record Matches (ls t : List ℕ) (k : ℕ) : Type 0 where
  pub ends : Ends ls t k
  pub longest : (j : ℕ) → Ends ls t j → j ≤ k

-- where k of the letters ls match, r match after the letter x
abbrev pub Step : List ℕ → ℕ → ℕ → ℕ → Type 0
Step ls k x r = (t : List ℕ) → Matches ls t k → Matches ls (t ++ (x ∷ [])) r

-- b is the length of the longest proper border of the first n of the letters ls: shorter than n, they begin and end with it
pub record Border (ls : List ℕ) (n b : ℕ) : Type 0 where
  pub proper : b < n
  pub ends : Ends ls (take n ls) b
  pub longest : (j : ℕ) → j < n → Ends ls (take n ls) j → j ≤ b

-- below n, the entry at k of a table is the border of the first k + 1 letters
abbrev pub Table : List ℕ → List ℕ → ℕ → Type 0
Table ls table n = (k : ℕ) → k < n → Border ls (k + 1) (slice_index table k)

-- the letters ls stand nowhere in t: no beginning of t ends with all of them
abbrev pub Unfound : List ℕ → List ℕ → Type 0
Unfound ls t = (i : ℕ) → Ends ls (take i t) (length ls) → ⊥

-- The state of a search for the letters ls in the letters ys, of which i were read: k match, and nothing was found so far.
pub record Seeking (ls ys : List ℕ) (i k : ℕ) : Type 0 where
  pub short : k < length ls
  pub matches : Matches ls (take i ys) k
  pub unfound : Unfound ls (take i ys)
