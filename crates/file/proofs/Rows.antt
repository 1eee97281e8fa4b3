-- The changes and cells in the numbers of a file.
use Rattle.std.proofs.Common.{◌≡◌, ℕ, zero, suc, ◌+◌, ◌*◌, ◌<◌, ◌≤◌, List, [], ◌∷◌, ◌++◌, length, get_or, take, drop, ◌-◌, sym, refl, ap, ◌∙◌, append-nil, add-zero, zero-add, arith}
use Rattle.std.proofs.lemmas.List.{take_rest, drop_more, drop_all, drop_at, drop-drop, get_or-drop, length-append}
use Rattle.changes.specs.Row as row
use Rattle.slots.specs.Cells as slot
use Rattle.model.specs.Paper.{Cell, Change, Paper, written, changes_written, cells_written}
use Rattle.file.specs.Paper.{change_at, changes_from, cell_at, cells_from, paper_of}

pub length_changes : (ns : List ℕ) (k n : ℕ) → length (changes_from ns k n) ≡ n
unfolding changes_from
length_changes ns k zero = refl
length_changes ns k (suc n) = ap suc (length_changes ns (suc k) n)

pub length_cells : (ns : List ℕ) (i m : ℕ) → length (cells_from ns i m) ≡ m
unfolding cells_from
length_cells ns i zero = refl
length_cells ns i (suc m) = ap suc (length_cells ns (i + 4) m)

-- change number k, and cell number k
pub change_in : (ns : List ℕ) (j n k : ℕ) (d : Change) → k < n → get_or (changes_from ns j n) k d ≡ change_at ns (j + k)
unfolding changes_from
change_in ns j zero k d h = absurd (omega arith)
change_in ns j (suc n) zero d h = rw add-zero refl
change_in ns j (suc n) (suc k) d h = let e : suc j + k ≡ j + suc k = omega arith in rw e at (change_in ns (suc j) n k d (omega arith))

pub cell_in : (ns : List ℕ) (i m k : ℕ) (d : Cell) → k < m → get_or (cells_from ns i m) k d ≡ cell_at ns (i + 4 * k)
unfolding cells_from
cell_in ns i zero k d h = absurd (omega arith)
cell_in ns i (suc m) zero d h = let e : i + 4 * 0 ≡ i = omega arith in rw e refl
cell_in ns i (suc m) (suc k) d h = let e : i + 4 + 4 * k ≡ i + 4 * suc k = omega arith in rw e at (cell_in ns (i + 4) m k d (omega arith))

-- the numbers are those that the changes and cells are written as
changes_split : (ns : List ℕ) (k n : ℕ) → 1 + 2 * (k + n) ≤ length ns → drop (1 + 2 * k) ns ≡ changes_written (changes_from ns k n) ++ drop (1 + 2 * (k + n)) ns
unfolding changes_from changes_written
changes_split ns k zero h = rw add-zero refl
changes_split ns k (suc n) h =
    let a = drop_more ns (1 + 2 * k) 0 (omega arith) in
    let e : 1 + 2 * k + 1 ≡ 2 + 2 * k = omega arith in
    let b = drop_more ns (2 + 2 * k) 0 (omega arith) in
    let f : 2 + 2 * k + 1 ≡ 1 + 2 * suc k = omega arith in
    let g : suc k + n ≡ k + suc n = omega arith in
    let t = changes_split ns (suc k) n (omega arith) in
    cc

cells_split : (ns : List ℕ) (i m : ℕ) → i + 4 * m ≤ length ns → drop i ns ≡ cells_written (cells_from ns i m) ++ drop (i + 4 * m) ns
unfolding cells_from cells_written
cells_split ns i zero h = let e : i + 4 * 0 ≡ i = omega arith in rw e refl
cells_split ns i (suc m) h =
    let a = drop_more ns i 0 (omega arith) in
    let b = drop_more ns (i + 1) 0 (omega arith) in
    let c = drop_more ns (i + 2) 0 (omega arith) in
    let d = drop_more ns (i + 3) 0 (omega arith) in
    let e : i + 1 + 1 ≡ i + 2 = omega arith in
    let f : i + 2 + 1 ≡ i + 3 = omega arith in
    let g : i + 3 + 1 ≡ i + 4 = omega arith in
    let j : i + 4 + 4 * m ≡ i + 4 * suc m = omega arith in
    let t = cells_split ns (i + 4) m (omega arith) in
    cc

pub is_written : (ns : List ℕ) (n m : ℕ) → length ns ≡ 1 + 2 * n + 4 * m → get_or ns 0 0 ≡ n → ns ≡ written (paper_of ns n m)
is_written ns n m long e =
    let a : ns ≡ get_or ns 0 0 ∷ drop 1 ns = drop_more ns 0 0 (omega arith) in
    let b : drop 1 ns ≡ changes_written (changes_from ns 0 n) ++ drop (1 + 2 * n) ns = rw zero-add at (changes_split ns 0 n (omega arith)) in
    let c = cells_split ns (1 + 2 * n) m (omega arith) in
    let d = drop_all (1 + 2 * n + 4 * m) ns (omega arith) in
    let f = append-nil (cells_written (cells_from ns (1 + 2 * n) m)) in
    let g = length_changes ns 0 n in
    cc

-- from the written changes and cells the same are read
changes_back : (ns : List ℕ) (k : ℕ) (cs : List Change) (us : List ℕ) → drop (1 + 2 * k) ns ≡ changes_written cs ++ us → changes_from ns k (length cs) ≡ cs
unfolding changes_from changes_written
changes_back ns k [] us e = refl
changes_back ns k (c ∷ cs) us e =
    let a : get_or ns (1 + 2 * k + 0) 0 ≡ c.author = sym (get_or-drop (1 + 2 * k) ns 0 0) ∙ ap (λ (vs : List ℕ). get_or vs 0 0) e in
    let b : get_or ns (1 + 2 * k + 1) 0 ≡ c.became = sym (get_or-drop (1 + 2 * k) ns 1 0) ∙ ap (λ (vs : List ℕ). get_or vs 1 0) e in
    let d : drop (1 + 2 * k + 2) ns ≡ changes_written cs ++ us = sym (drop-drop 2 (1 + 2 * k) ns) ∙ ap (λ (vs : List ℕ). drop 2 vs) e in
    let f : 1 + 2 * k + 0 ≡ 1 + 2 * k = omega arith in
    let g : 1 + 2 * k + 1 ≡ 2 + 2 * k = omega arith in
    let h : 1 + 2 * k + 2 ≡ 1 + 2 * suc k = omega arith in
    let t = changes_back ns (suc k) cs us (rw h at d) in
    let x : change_at ns k ≡ c = λ i. record { author = (rw f at a) i; became = (rw g at b) i } in
    cc

cells_back : (ns : List ℕ) (i : ℕ) (xs : List Cell) → drop i ns ≡ cells_written xs → cells_from ns i (length xs) ≡ xs
unfolding cells_from cells_written
cells_back ns i [] e = refl
cells_back ns i (x ∷ xs) e =
    let a : get_or ns (i + 0) 0 ≡ x.letter = sym (get_or-drop i ns 0 0) ∙ ap (λ (vs : List ℕ). get_or vs 0 0) e in
    let b : get_or ns (i + 1) 0 ≡ x.style = sym (get_or-drop i ns 1 0) ∙ ap (λ (vs : List ℕ). get_or vs 1 0) e in
    let c : get_or ns (i + 2) 0 ≡ x.put_in = sym (get_or-drop i ns 2 0) ∙ ap (λ (vs : List ℕ). get_or vs 2 0) e in
    let d : get_or ns (i + 3) 0 ≡ x.struck = sym (get_or-drop i ns 3 0) ∙ ap (λ (vs : List ℕ). get_or vs 3 0) e in
    let r : drop (i + 4) ns ≡ cells_written xs = sym (drop-drop 4 i ns) ∙ ap (λ (vs : List ℕ). drop 4 vs) e in
    let t = cells_back ns (i + 4) xs r in
    let y : cell_at ns i ≡ x = λ j. record { letter = (rw add-zero at a) j; style = b j; put_in = c j; struck = d j } in
    cc

length_changes_written : (cs : List Change) → length (changes_written cs) ≡ 2 * length cs
unfolding changes_written
length_changes_written [] = refl
length_changes_written (c ∷ cs) = let ih = length_changes_written cs in omega arith

length_cells_written : (xs : List Cell) → length (cells_written xs) ≡ 4 * length xs
unfolding cells_written
length_cells_written [] = refl
length_cells_written (x ∷ xs) = let ih = length_cells_written xs in omega arith

pub length_written : (p : Paper) → length (written p) ≡ 1 + 2 * length p.changes + 4 * length p.cells
length_written p =
    omega (arith, length-append (changes_written p.changes) (cells_written p.cells), length_changes_written p.changes, length_cells_written p.cells)

pub paper_back : (p : Paper) → paper_of (written p) (length p.changes) (length p.cells) ≡ p
paper_back p =
    let us : List ℕ = changes_written p.changes in
    let vs : List ℕ = cells_written p.cells in
    let c = changes_back (written p) 0 p.changes vs refl in
    let l : length (length p.changes ∷ us) ≡ 1 + 2 * length p.changes = omega (arith, length_changes_written p.changes) in
    let d = cells_back (written p) (1 + 2 * length p.changes) p.cells (drop_at (length p.changes ∷ us) vs (1 + 2 * length p.changes) l) in
    λ i. record { cells = d i; changes = c i }

-- change number k and cell number k, in the part of a file that has the changes or the cells
pub change_of_part : (ns : List ℕ) (n k : ℕ) (d : Change) → k < n → row.change_at (take (length ns - 1) (drop 1 ns)) k ≡ get_or (changes_from ns 0 n) k d
change_of_part ns n k d h =
    let r = take_rest ns 1 in
    let a = get_or-drop 1 ns (2 * k) 0 in
    let b = get_or-drop 1 ns (2 * k + 1) 0 in
    let e : 1 + (2 * k + 1) ≡ 2 + 2 * k = omega arith in
    let w = change_in ns 0 n k d h in
    let z : 0 + k ≡ k = omega arith in
    cc

pub cell_of_part : (ns : List ℕ) (i m k : ℕ) (d : Cell) → k < m → slot.cell_at (take (length ns - i) (drop i ns)) k ≡ get_or (cells_from ns i m) k d
unfolding slot.cell_at
cell_of_part ns i m k d h =
    let r = take_rest ns i in
    let a = get_or-drop i ns (4 * k) 0 in
    let b = get_or-drop i ns (4 * k + 1) 0 in
    let e = get_or-drop i ns (4 * k + 2) 0 in
    let f = get_or-drop i ns (4 * k + 3) 0 in
    let p : i + (4 * k + 1) ≡ i + 4 * k + 1 = omega arith in
    let q : i + (4 * k + 2) ≡ i + 4 * k + 2 = omega arith in
    let s : i + (4 * k + 3) ≡ i + 4 * k + 3 = omega arith in
    let w = cell_in ns i m k d h in
    cc
