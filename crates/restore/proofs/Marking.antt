-- Marked cells put back one after another.
use Rattle.std.proofs.Common.{◌≡◌, ℕ, zero, suc, ◌+◌, ◌-◌, ◌*◌, ◌/◌, ◌<◌, ◌≤◌, Bool, true, false, List, [], ◌∷◌, ◌++◌, length, get_or, take, drop, set, sym, refl, ap, ◌∙◌, subst, subst₂, arith}
use Rattle.std.proofs.lemmas.List.{length-append, length-set, length-take, length-take-le, length-drop, get_or-drop, get_or-take, get_or_append_left, drop_at, drop-take}
use Rattle.model.specs.Paper.{pick, Cell}
use Rattle.slots.specs.Cells.{all_cells, cell_at, cells_at}
use Rattle.kept.specs.Text.{Rewrites, cells_of_mut}
use Rattle.kept.specs.declared.text.TextMut.{TextMut}
use Rattle.history.specs.Entry.{Mark, mark_back, marks_back, Placed}
use Rattle.history.specs.Words.{marks_read}
use Rattle.model.specs.declared.verdict.Verdict.{Verdict}
use Rattle.restore.specs.Back.{goes, first_mark, marks_in, CanMark}
use Rattle.kept.proofs.Rewriting.{rewrites_as, rewrites_both, rewrites_none, rewrites_text}

-- the cell of a mark stands behind its place
pub first_cell : (ws : List ℕ) → cell_at (drop 1 ws) 0 ≡ (first_mark ws).cell
unfolding cell_at
first_cell ws =
    let w0 = get_or-drop 1 ws 0 0 in
    let w1 = get_or-drop 1 ws 1 0 in
    let w2 = get_or-drop 1 ws 2 0 in
    let w3 = get_or-drop 1 ws 3 0 in
    cc

-- whether it went
pub known : (ws : List ℕ) (x : Cell) (d : Verdict) (c : ℕ) (b v : Bool) → x ≡ cell_at (drop 1 ws) 0 → b ≡ goes d c x → b ≡ v → goes d c (first_mark ws).cell ≡ v
known ws x d c b v e is was = ap (goes d c) (sym (e ∙ first_cell ws)) ∙ sym is ∙ was

-- one that went, and one that stayed
pub mark_went : (t : List Cell) (ws : List ℕ) (b : Bool) (i : ℕ) → length ws ≡ 5 → b ≡ true → i ≡ get_or ws 0 0
    → take i t ++ (all_cells (drop 1 ws) ++ drop i t) ≡ mark_back b (first_mark ws) t
unfolding cells_at
mark_went t ws b i l e p =
    let n : length (drop 1 ws) / 4 ≡ 1 = omega (arith, length-drop 1 ws) in
    let one = ap (cells_at (drop 1 ws) 0) n in
    let h = first_cell ws in
    rw e (cc)

pub mark_stayed : (t : List Cell) (ws : List ℕ) (b : Bool) (i : ℕ) (x : Cell) → b ≡ false → i ≡ get_or ws 0 0 → x ≡ (first_mark ws).cell
    → set t i x ≡ mark_back b (first_mark ws) t
mark_stayed t ws b i x e p q = rw e (cc)

-- how long a text is with a mark put back, and with several
length_marked : (b : Bool) (m : Mark) (xs : List Cell) → length (mark_back b m xs) ≡ length xs + pick b 1 0
length_marked true m xs = simp (length-append, length-take, length-drop) (omega arith)
length_marked false m xs = simp length-set (omega arith)

marks_longer : (went : Cell → Bool) (ms : List Mark) (xs : List Cell) → length xs ≤ length (marks_back went ms xs)
unfolding marks_back
marks_longer went [] xs = omega arith
marks_longer went (m ∷ ms) xs = omega (arith, length_marked (went m.cell) m xs, marks_longer went ms (mark_back (went m.cell) m xs))

-- the first mark finds its place and its room, and the others do after it
pub first_placed : (went : Cell → Bool) (m : Mark) (ms : List Mark) (xs : List Cell) (s : ℕ) → CanMark went (m ∷ ms) xs s
    → (m.place + pick (went m.cell) 0 1 ≤ length xs) × (length xs + pick (went m.cell) 1 0 ≤ 768 * (s - 1))
unfolding Placed marks_back
first_placed went m ms xs s h =
    let f = h.fits in
    let a = length_marked (went m.cell) m xs in
    let b = marks_longer went ms (mark_back (went m.cell) m xs) in
    (h.placed.0, omega arith)

pub rest_placed : (went : Cell → Bool) (m : Mark) (ms : List Mark) (xs : List Cell) (s : ℕ) → CanMark went (m ∷ ms) xs s
    → CanMark went ms (mark_back (went m.cell) m xs) s
unfolding Placed marks_back
rest_placed went m ms xs s h =
    record { placed = subst (Placed went ms) (sym (length_marked (went m.cell) m xs)) h.placed.1; fits = h.fits }

-- the marks at the beginning of words
marks_begun : (part rest : List ℕ) (n : ℕ) → length part ≡ 5 → marks_read (suc n) (part ++ rest) ≡ first_mark part ∷ marks_read n rest
unfolding marks_read
marks_begun part rest n e =
    let w0 = get_or_append_left part rest 0 0 (omega arith) in
    let w1 = get_or_append_left part rest 0 1 (omega arith) in
    let w2 = get_or_append_left part rest 0 2 (omega arith) in
    let w3 = get_or_append_left part rest 0 3 (omega arith) in
    let w4 = get_or_append_left part rest 0 4 (omega arith) in
    let d = drop_at part rest 5 e in
    rw (w0, w1, w2, w3, w4, d)

pub marks_next : (ws part rest : List ℕ) → ws ≡ part ++ rest → length part ≡ 5 → marks_in ws ≡ first_mark part ∷ marks_in rest
marks_next ws part rest e l =
    let n : length ws / 5 ≡ suc (length rest / 5) = omega (arith, ap length e, length-append part rest) in
    ap (λ k. marks_read k ws) n ∙ ap (marks_read (suc (length rest / 5))) e ∙ marks_begun part rest (length rest / 5) l

pub marks_none : (ws : List ℕ) → length ws < 5 → marks_in ws ≡ []
unfolding marks_read
marks_none ws l = let n : length ws / 5 ≡ 0 = omega arith in ap (λ k. marks_read k ws) n

marks_read_take : (n : ℕ) (ws : List ℕ) (m : ℕ) → 5 * n ≤ m → marks_read n (take m ws) ≡ marks_read n ws
unfolding marks_read
marks_read_take zero ws m h = refl
marks_read_take (suc n) ws m h =
    let w0 = get_or-take m ws 0 0 (omega arith) in
    let w1 = get_or-take m ws 1 0 (omega arith) in
    let w2 = get_or-take m ws 2 0 (omega arith) in
    let w3 = get_or-take m ws 3 0 (omega arith) in
    let w4 = get_or-take m ws 4 0 (omega arith) in
    let e : 5 + (m - 5) ≡ m = omega arith in
    let d : drop 5 (take m ws) ≡ take (m - 5) (drop 5 ws) = ap (λ x. drop 5 (take x ws)) (sym e) ∙ drop-take 5 (m - 5) ws in
    rw (w0, w1, w2, w3, w4, d, marks_read_take n (drop 5 ws) (m - 5) (omega arith))

-- those whose words are taken from the beginning
pub marks_taken : (ws : List ℕ) (n : ℕ) → 5 * n ≤ length ws → marks_in (take (5 * n) ws) ≡ marks_read n ws
marks_taken ws n h =
    let l : length (take (5 * n) ws) / 5 ≡ n = omega (arith, length-take-le (5 * n) ws h) in
    ap (λ k. marks_read k (take (5 * n) ws)) l ∙ marks_read_take n ws (5 * n) (omega arith)

-- some of the marks in the words ws have been put back, and those in `rest` are left: they can be, and then all have been
pub record Going (went : Cell → Bool) (ws rest : List ℕ) (old new : TextMut) : Type 0 where
  pub rewrites : Rewrites old new (cells_of_mut new)
  pub can : CanMark went (marks_in rest) (cells_of_mut new) new.slots
  pub same : marks_back went (marks_in rest) (cells_of_mut new) ≡ marks_back went (marks_in ws) (cells_of_mut old)

pub going_none : (went : Cell → Bool) (ws rest : List ℕ) (t : TextMut) → rest ≡ ws → CanMark went (marks_in ws) (cells_of_mut t) t.slots → Going went ws rest t t
going_none went ws rest t e can = record { rewrites = rewrites_none t (cells_of_mut t) refl; can = rw e can; same = rw e refl }

module _ (went : Cell → Bool) (ws rest part left : List ℕ) (old new : TextMut) (e : rest ≡ part ++ left) (l : length part ≡ 5) (h : Going went ws rest old new) where
  next : CanMark went (first_mark part ∷ marks_in left) (cells_of_mut new) new.slots
  next = subst (λ ms. CanMark went ms (cells_of_mut new) new.slots) (marks_next rest part left e l) h.can

  pub going_place :
      ((first_mark part).place + pick (went (first_mark part).cell) 0 1 ≤ length (cells_of_mut new))
      × (length (cells_of_mut new) + pick (went (first_mark part).cell) 1 0 ≤ 768 * (new.slots - 1))
  going_place = first_placed went (first_mark part) (marks_in left) (cells_of_mut new) new.slots next

  pub going_more : (newer : TextMut) → Rewrites new newer (mark_back (went (first_mark part).cell) (first_mark part) (cells_of_mut new)) → Going went ws left old newer
  unfolding marks_back
  going_more newer g =
      let is = rewrites_text new newer _ g in
      let can = rest_placed went (first_mark part) (marks_in left) (cells_of_mut new) new.slots next in
      record {
        rewrites = rewrites_both old new newer _ _ _ h.rewrites g (sym is);
        can = subst₂ (λ xs s. CanMark went (marks_in left) xs s) (sym is) (sym g.same_slots) can;
        same = ap (marks_back went (marks_in left)) is ∙ ap (λ ms. marks_back went ms (cells_of_mut new)) (sym (marks_next rest part left e l)) ∙ h.same;
      }

-- all of them have been
pub going_all : (went : Cell → Bool) (ws rest : List ℕ) (old new : TextMut) → length rest < 5 → Going went ws rest old new
    → Rewrites old new (marks_back went (marks_in ws) (cells_of_mut old))
unfolding marks_back
going_all went ws rest old new l h =
    let none : cells_of_mut new ≡ marks_back went (marks_in rest) (cells_of_mut new) = ap (λ ms. marks_back went ms (cells_of_mut new)) (sym (marks_none rest l)) in
    rewrites_as old new _ _ h.rewrites (none ∙ h.same)
