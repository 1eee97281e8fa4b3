-- What the steps of an edit write into one slot.
use Rattle.std.proofs.Common.{◌≡◌, ℕ, ◌+◌, ◌-◌, ◌*◌, ◌<◌, ◌≤◌, List, [], ◌∷◌, ◌++◌, take, drop, refl, ◌∙◌, arith}
use Rattle.model.specs.Paper.{Cell}
use Rattle.slots.specs.Cells.{cell_at, cells_at, Kept}
use Rattle.slots.proofs.Words.{cells_split, take_cells, drop_cells, kept_cells_below, kept_cells_above, kept_wider, kept_twice}
use Rattle.pieces.specs.Store.{slot, used, piece}
use Rattle.pieces.specs.Edits.{replaced, Filled}
use Rattle.pieces.proofs.Change.{filled}

cells_one : (c : List ℕ) (a : ℕ) → cells_at c a 1 ≡ cell_at c a ∷ []
unfolding cells_at
cells_one c a = refl

-- n cells ys put in at cell o of u
pub inserted : (c d e p : List ℕ) (k o n at : ℕ) (ys : List Cell) → o ≤ used p k → used p k + n ≤ 1024 → at ≡ 1024 * slot p k + o
    → cells_at d (at + n) (used p k - o) ≡ cells_at c at (used p k - o) → Kept c d (at + n) (used p k - o)
    → cells_at e at n ≡ ys → Kept d e at n → Filled c e p k (replaced (piece c p k) o 0 ys)
unfolding piece
inserted c d e p k o n at ys l m w copied h written i =
    let a = 1024 * slot p k in
    let u = used p k in
    let t : u + n ≡ o + (n + (u - o)) = omega arith in
    let z : o + 0 ≡ o = omega arith in
    let s1 = cells_split e a o (n + (u - o)) in
    let s2 = cells_split e at n (u - o) in
    let front = kept_cells_below d e at n i a o (omega arith) ∙ kept_cells_below c d (at + n) (u - o) h a o (omega arith) in
    let back = kept_cells_above d e at n i (at + n) (u - o) (omega arith) in
    let tk = take_cells c a u o l in
    let dr = drop_cells c a u o l in
    filled c e p k (u + n) (replaced (cells_at c a u) o 0 ys) (cc)
    (kept_twice c d e a 1024 (kept_wider c d (at + n) (u - o) h a 1024 (omega arith) (omega arith)) (kept_wider d e at n i a 1024 (omega arith) (omega arith)))

-- n cells taken out from cell o on
pub removed : (c d p : List ℕ) (k o n at : ℕ) → o + n ≤ used p k → used p k ≤ 1024 → at ≡ 1024 * slot p k + o
    → cells_at d at (used p k - (o + n)) ≡ cells_at c (at + n) (used p k - (o + n)) → Kept c d at (used p k - (o + n))
    → Filled c d p k (replaced (piece c p k) o n [])
unfolding piece
removed c d p k o n at l m w copied h =
    let a = 1024 * slot p k in
    let u = used p k in
    let s1 = cells_split d a o (u - (o + n)) in
    let front = kept_cells_below c d at (u - (o + n)) h a o (omega arith) in
    let tk = take_cells c a u o (omega arith) in
    let dr = drop_cells c a u (o + n) l in
    let g : a + (o + n) ≡ at + n = omega arith in
    filled c d p k (o + (u - (o + n))) (replaced (cells_at c a u) o n []) (cc) (kept_wider c d at (u - (o + n)) h a 1024 (omega arith) (omega arith))

-- n cells of piece j put behind piece i
pub appended : (c d p : List ℕ) (i j o n at to : ℕ) → o + n ≤ used p j → used p i + n ≤ 1024 → at ≡ 1024 * slot p j + o → to ≡ 1024 * slot p i + used p i
    → cells_at d to n ≡ cells_at c at n → Kept c d to n → Filled c d p i (piece c p i ++ take n (drop o (piece c p j)))
unfolding piece
appended c d p i j o n at to l m w v copied h =
    let a = 1024 * slot p i in
    let b = 1024 * slot p j in
    let u = used p i in
    let s1 = cells_split d a u n in
    let front = kept_cells_below c d to n h a u (omega arith) in
    let dr = drop_cells c b (used p j) o (omega arith) in
    let tk = take_cells c (b + o) (used p j - o) n (omega arith) in
    filled c d p i (u + n) (cells_at c a u ++ take n (drop o (cells_at c b (used p j)))) (cc) (kept_wider c d to n h a 1024 (omega arith) (omega arith))

-- cell o written over
pub overwritten : (c d p : List ℕ) (k o at : ℕ) (x : Cell) → o < used p k → used p k ≤ 1024 → at ≡ 1024 * slot p k + o → cell_at d at ≡ x → Kept c d at 1
    → Filled c d p k (replaced (piece c p k) o 1 (x ∷ []))
unfolding piece
overwritten c d p k o at x l m w e h =
    let a = 1024 * slot p k in
    let u = used p k in
    let n = u - (o + 1) in
    let t : u ≡ o + (1 + n) = omega arith in
    let s1 = cells_split d a o (1 + n) in
    let s2 = cells_split d at 1 n in
    let one = cells_one d at in
    let front = kept_cells_below c d at 1 h a o (omega arith) in
    let back = kept_cells_above c d at 1 h (at + 1) n (omega arith) in
    let g : at + 1 ≡ a + (o + 1) = omega arith in
    let tk = take_cells c a u o (omega arith) in
    let dr = drop_cells c a u (o + 1) (omega arith) in
    filled c d p k u (replaced (cells_at c a u) o 1 (x ∷ [])) (cc) (kept_wider c d at 1 h a 1024 (omega arith) (omega arith))
