-- What the code writes, over plain lists.
use Rattle.std.proofs.Common.{◌≡◌, ℕ, suc, ◌+◌, ◌-◌, ◌*◌, ◌<◌, ◌≤◌, ◌≢◌, List, [], ◌∷◌, ◌++◌, length, get_or, take, set, refl, sym, ap, ◌∙◌, append-nil, add-zero, arith}
use Rattle.std.proofs.lemmas.List.{get_or-set_same, get_or-set_other, append_assoc, length-append, length-set, take_more}
use Rattle.model.specs.Paper as paper
use Rattle.model.specs.Paper.{new_cells}
use Rattle.model.specs.Values.{cell_of}
use Rattle.model.specs.declared.Cell.{Cell}
use Rattle.slots.specs.Cells.{cell_at, cells_at, Kept}
use Rattle.slots.proofs.Words.{length_cells, cells_same, cell_same, cells_more, kept_none, kept_cells_below, kept_wider, kept_twice, new_cells_more}

-- four words written from number b on
abbrev four : List ℕ → ℕ → Cell → List ℕ
four c b x = set (set (set (set c b x.letter) (b + 1) x.style) (b + 2) x.put_in) (b + 3) x.struck

four_other : (c : List ℕ) (b : ℕ) (x : Cell) (w : ℕ) → w ≢ b → w ≢ b + 1 → w ≢ b + 2 → w ≢ b + 3 → get_or (four c b x) w 0 ≡ get_or c w 0
four_other c b x w e f g h = rw (get_or-set_other, get_or-set_other, get_or-set_other, get_or-set_other)

four_same : (c : List ℕ) (b : ℕ) (x : Cell) → b + 4 ≤ length c
    → (get_or (four c b x) b 0 ≡ x.letter) × (get_or (four c b x) (b + 1) 0 ≡ x.style) × (get_or (four c b x) (b + 2) 0 ≡ x.put_in) × (get_or (four c b x) (b + 3) 0 ≡ x.struck)
four_same c b x l =
    let e : b ≢ b + 3 = omega arith in let f : b ≢ b + 2 = omega arith in let g : b ≢ b + 1 = omega arith in
    let h : b + 1 ≢ b + 3 = omega arith in let i : b + 1 ≢ b + 2 = omega arith in let j : b + 2 ≢ b + 3 = omega arith in
    let at0 : b < length c = omega arith in
    let at1 : b + 1 < length (set c b x.letter) = simp length-set (omega arith) in
    let at2 : b + 2 < length (set (set c b x.letter) (b + 1) x.style) = simp length-set (omega arith) in
    let at3 : b + 3 < length (set (set (set c b x.letter) (b + 1) x.style) (b + 2) x.put_in) = simp length-set (omega arith) in
    (rw (get_or-set_other, get_or-set_other, get_or-set_other, get_or-set_same), rw (get_or-set_other, get_or-set_other, get_or-set_same), rw (get_or-set_other, get_or-set_same), rw get_or-set_same)

-- four words written at cell a
pub written : (c : List ℕ) (a : ℕ) (x : Cell) → 4 * a + 4 ≤ length c
    → (cell_at (set (set (set (set c (4 * a) x.letter) (4 * a + 1) x.style) (4 * a + 2) x.put_in) (4 * a + 3) x.struck) a ≡ cell_of x)
    × Kept c (set (set (set (set c (4 * a) x.letter) (4 * a + 1) x.style) (4 * a + 2) x.put_in) (4 * a + 3) x.struck) a 1
unfolding cell_at
written c a x l =
    let s = four_same c (4 * a) x l in (
      cc,
      record {
        long = simp length-set;
        below = λ w h. four_other c (4 * a) x w (omega arith) (omega arith) (omega arith) (omega arith);
        above = λ w h. four_other c (4 * a) x w (omega arith) (omega arith) (omega arith) (omega arith);
      },
    )

-- n cells copied, word by word
pub copied : (c d : List ℕ) (from to n : ℕ) → length d ≡ length c
    → ((k : ℕ) (z : ℕ) → 4 * to ≤ k → k < 4 * to + (4 * (from + n) - 4 * from) → get_or d k z ≡ get_or c (4 * from + (k - 4 * to)) z)
    × ((k : ℕ) (z : ℕ) → k < 4 * to → get_or d k z ≡ get_or c k z)
    × ((k : ℕ) (z : ℕ) → 4 * to + (4 * (from + n) - 4 * from) ≤ k → get_or d k z ≡ get_or c k z)
    → (cells_at d to n ≡ cells_at c from n) × Kept c d to n
copied c d from to n e h = (
  cells_same d c to from n (λ i l. cell_same d c (to + i) (from + i) (simp add-zero at (word i 0 l (omega arith))) (word i 1 l (omega arith)) (word i 2 l (omega arith)) (word i 3 l (omega arith))),
  record { long = e; below = λ w l. h.1 w 0 l; above = λ w l. h.2 w 0 (omega arith) },
)
  where
    at : (i j : ℕ) → 4 * (from + i) + j ≡ 4 * from + (4 * (to + i) + j - 4 * to)
    at i j = omega arith

    word : (i j : ℕ) → i < n → j < 4 → get_or d (4 * (to + i) + j) 0 ≡ get_or c (4 * (from + i) + j) 0
    word i j l m = h.0 (4 * (to + i) + j) 0 (omega arith) (omega arith) ∙ ap (λ w. get_or c w 0) (sym (at i j))

-- one more cell written
added : (c d e : List ℕ) (a i : ℕ) (xs : List paper.Cell) (x : paper.Cell) → cells_at d a i ≡ xs → Kept c d a i → cell_at e (a + i) ≡ x → Kept d e (a + i) 1
    → (cells_at e a (i + 1) ≡ xs ++ (x ∷ [])) × Kept c e a (i + 1)
added c d e a i xs x f k w j =
    let same = kept_cells_below d e (a + i) 1 j a i (omega arith) in
    let one = cells_more e a i in (
      cc,
      kept_twice c d e a (i + 1) (kept_wider c d a i k a (i + 1) (omega arith) (omega arith)) (kept_wider d e (a + i) 1 j a (i + 1) (omega arith) (omega arith)),
    )

-- one more new cell
pub filled : (c d e : List ℕ) (a i : ℕ) (ls : List ℕ) (s ch l : ℕ) → i < length ls → l ≡ get_or ls i 0
    → cells_at d a i ≡ new_cells (take i ls) s ch → Kept c d a i
    → cell_at e (a + i) ≡ record { letter = l; style = s; put_in = suc ch; struck = 0 } → Kept d e (a + i) 1
    → (cells_at e a (i + 1) ≡ new_cells (take (i + 1) ls) s ch) × Kept c e a (i + 1)
filled c d e a i ls s ch l h g f k w j =
    let t = take_more ls i 0 h in
    let m = new_cells_more (take i ls) l s ch in
    let r = added c d e a i _ _ f k w j in
    let x = r.0 in (cc, r.1)

-- so many of the cells xs are pasted from number a on, and the rest is left
pub record Pasting (c d : List ℕ) (a : ℕ) (xs rest : List paper.Cell) (i : ℕ) : Type 0 where
  pub all : cells_at d a i ++ rest ≡ xs
  pub kept : Kept c d a i

pub pasting_start : (c : List ℕ) (a : ℕ) (xs rest : List paper.Cell) (i : ℕ) → rest ≡ xs → i ≡ 0 → Pasting c c a xs rest i
unfolding cells_at
pasting_start c a xs rest i e z = rw z (record { all = e; kept = kept_none c a })

pub pasting_few : {c d : List ℕ} {a : ℕ} {xs rest : List paper.Cell} {i : ℕ} → Pasting c d a xs rest i → i + length rest ≡ length xs
pasting_few {d = d} {a = a} {rest = rest} {i = i} g = omega (arith, length_cells d a i, length-append (cells_at d a i) rest, ap length g.all)

-- one more cell
pub pasting_more : {c d e : List ℕ} {a : ℕ} {xs rest left : List paper.Cell} {i : ℕ} {x : paper.Cell} → Pasting c d a xs rest i → rest ≡ x ∷ left
    → cell_at e (a + i) ≡ x → Kept d e (a + i) 1 → Pasting c e a xs left (i + 1)
pasting_more {c = c} {d = d} {e = e} {a = a} {left = left} {i = i} {x = x} g one w j =
    let r = added c d e a i _ x refl g.kept w j in
    record {
      all = ap (λ ys. ys ++ left) r.0 ∙ append_assoc (cells_at d a i) (x ∷ []) left ∙ ap (λ ys. cells_at d a i ++ ys) (sym one) ∙ g.all;
      kept = r.1;
    }

-- and no more is left
pub pasting_all : {c d : List ℕ} {a : ℕ} {xs rest : List paper.Cell} {i n : ℕ} → Pasting c d a xs rest i → rest ≡ [] → length xs ≡ n
    → (cells_at d a n ≡ xs) × Kept c d a n
pasting_all {c = c} {d = d} {a = a} {xs = xs} {i = i} {n = n} g none long =
    let e : i ≡ n = omega (arith, pasting_few g, ap length none) in
    (ap (cells_at d a) (sym e) ∙ sym (append-nil (cells_at d a i)) ∙ ap (λ ys. cells_at d a i ++ ys) (sym none) ∙ g.all, rw e at g.kept)
