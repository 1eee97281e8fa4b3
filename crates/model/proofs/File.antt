-- A paper's file tells its changes and cells: two papers with the same file are one paper.
use Rattle.std.proofs.Common.{◌≡◌, ℕ, List, [], ◌∷◌, ◌++◌, length, refl, arith}
use Rattle.model.specs.Paper.{Cell, Change, Paper, cells_written, changes_written}
use Rattle.model.specs.Promise.{OneReading}

same_cell : (x y : Cell) → x.letter ≡ y.letter → x.style ≡ y.style → x.put_in ≡ y.put_in → x.struck ≡ y.struck → x ≡ y
same_cell x y l s p k = λ i. record { letter = l i; style = s i; put_in = p i; struck = k i }

same_change : (x y : Change) → x.author ≡ y.author → x.became ≡ y.became → x ≡ y
same_change x y a b = λ i. record { author = a i; became = b i }

same_cells : (xs ys : List Cell) → cells_written xs ≡ cells_written ys → xs ≡ ys
unfolding cells_written
same_cells [] [] e = refl
same_cells [] (y ∷ ys) e = cc
same_cells (x ∷ xs) [] e = cc
same_cells (x ∷ xs) (y ∷ ys) e =
    let k : x ≡ y = same_cell x y (cc) (cc) (cc) (cc) in
    let t : xs ≡ ys = same_cells xs ys (cc) in
    cc

-- of as many changes, what stands after them is told too
same_changes : (cs ds : List Change) (us vs : List ℕ) → length cs ≡ length ds → changes_written cs ++ us ≡ changes_written ds ++ vs → (cs ≡ ds) × (us ≡ vs)
unfolding changes_written
same_changes [] [] us vs n e = (refl, e)
same_changes [] (d ∷ ds) us vs n e = absurd (omega arith)
same_changes (c ∷ cs) [] us vs n e = absurd (omega arith)
same_changes (c ∷ cs) (d ∷ ds) us vs n e =
    let k : c ≡ d = same_change c d (cc) (cc) in
    let t : (cs ≡ ds) × (us ≡ vs) = same_changes cs ds us vs (omega arith) (cc) in
    (cc, t.1)

same_paper : (p q : Paper) → p.cells ≡ q.cells → p.changes ≡ q.changes → p ≡ q
same_paper p q x c = λ i. record { cells = x i; changes = c i }

pub one_reading : OneReading
unfolding OneReading
one_reading p q e =
    let t : (p.changes ≡ q.changes) × (cells_written p.cells ≡ cells_written q.cells) = same_changes p.changes q.changes _ _ (cc) (cc) in
    same_paper p q (same_cells p.cells q.cells t.1) t.0
