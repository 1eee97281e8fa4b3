-- Letters in a page: how a letter is written, and how what is written is read. Definitions only: nothing is assumed.
use Rattle.std.specs.Prelude.{ℕ, Bool, true, false, ◌&&◌, List, [], ◌∷◌, ◌++◌, codes, ◌==◌}
use Rattle.model.specs.Paper.{pick}

-- a letter that could be taken for markup is written by its name
abbrev pub escaped : ℕ → List ℕ
escaped l = pick (l == 60) (codes "&lt;") (pick (l == 62) (codes "&gt;") (pick (l == 38) (codes "&amp;") (pick (l == 34) (codes "&quot;") (l ∷ []))))

unfoldable pub all_escaped : List ℕ → List ℕ
all_escaped [] = []
all_escaped (l ∷ ls) = escaped l ++ all_escaped ls

-- the letter that a name stands for
unfoldable pub same : List ℕ → List ℕ → Bool
same [] [] = true
same [] (y ∷ ys) = false
same (x ∷ xs) [] = false
same (x ∷ xs) (y ∷ ys) = x == y && same xs ys

abbrev pub named : List ℕ → List ℕ
named n = pick (same n (codes "lt")) (60 ∷ []) (pick (same n (codes "gt")) (62 ∷ []) (pick (same n (codes "amp")) (38 ∷ []) (pick (same n (codes "quot")) (34 ∷ []) [])))

-- Where a reader is: among letters, between < and >, or between & and ;, after the letters of a name.
pub data Where : Type 0 where
  body : Where
  tag : Where
  name : List ℕ → Where

-- what a reader sees who passes over <...> and reads names
unfoldable pub plain_at : Where → List ℕ → List ℕ
plain_at body [] = []
plain_at body (c ∷ cs) = pick (c == 60) (plain_at tag cs) (pick (c == 38) (plain_at (name []) cs) (c ∷ plain_at body cs))
plain_at tag [] = []
plain_at tag (c ∷ cs) = pick (c == 62) (plain_at body cs) (plain_at tag cs)
plain_at (name n) [] = []
plain_at (name n) (c ∷ cs) = pick (c == 59) (named n ++ plain_at body cs) (plain_at (name (n ++ (c ∷ []))) cs)

abbrev pub plain : List ℕ → List ℕ
plain cs = plain_at body cs
