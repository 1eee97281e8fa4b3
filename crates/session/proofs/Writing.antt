-- What a write to the store, and a change that is noted, leave in memory. Assumes nothing.
use Rattle.std.proofs.Common.{◌≡◌, ℕ, suc, ◌+◌, ◌-◌, ◌*◌, ◌<◌, ◌≤◌, List, [], ◌∷◌, ◌++◌, length, get_or, take, drop, set, sym, refl, ap, ◌∙◌, subst, ap₂, arith}
use borrow.Rule.Slice.PartMut.{put_mid}
use Rattle.std.proofs.lemmas.List.{length-append, length-take-le, length-drop, drop-drop, get_or-drop, get_or-take, take-append-drop, take_rest}
use Rattle.model.specs.Paper.{Cell, Change, Paper, new_cells}
use Rattle.model.specs.Calls.{Limits, with_became}
use Rattle.changes.specs.Row.{changes_of}
use Rattle.changes.proofs.Steps.{changes_same}
use Rattle.kept.specs.Kept.{Around, Kept}
use Rattle.kept.specs.Text.{Edited}
use Rattle.pieces.specs.Store.{cells_of}
use Rattle.session.specs.Memory.{cells_words, pieces_words, slots_for, slots_of, limits_of, tables, paper_of, Held}
use Rattle.session.specs.Acts.{Wrote, Rowed, row_of, with_cells, with_changes}
use Rattle.session.proofs.Heads.{judged, lent_before, lent_after, noted}

pub length_new : (ls : List ℕ) (s c : ℕ) → length (new_cells ls s c) ≡ length ls
unfolding new_cells
length_new [] s c = refl
length_new (l ∷ ls) s c = ap suc (length_new ls s c)

pub inserted_length : (xs : List Cell) (ls : List ℕ) (i s c : ℕ) → length (take i xs ++ (new_cells ls s c ++ drop i xs)) ≡ length xs + length ls
inserted_length xs ls i s c =
    let a = length-append (take i xs) (new_cells ls s c ++ drop i xs) in
    let b = length-append (new_cells ls s c) (drop i xs) in
    let d = length_new ls s c in
    let e : length (take i xs) + length (drop i xs) ≡ length xs = sym (length-append (take i xs) (drop i xs)) ∙ ap length (take-append-drop i xs) in
    omega arith

-- the store was written, and the words before its tables stayed
pub restored : {cs ps cs' t ds head td : List ℕ} {xs : List Cell} → Held cs ps → let b : ℕ = 16 + 2 * get_or ps 1 0 in
    Edited cs (tables ps) cs' t (slots_of ps) xs → length xs ≤ get_or ps 0 0 → head ≡ take b ps → ds ≡ cs' → td ≡ t →
    Wrote cs ps ds (head ++ td) (with_cells (paper_of cs ps) xs)
restored {cs = cs} {ps = ps} {cs' = cs'} {t = t} {ds = ds} {head = head} {td = td} {xs = xs} held edited few before here there =
    let q : List ℕ = head ++ td in
    let is : q ≡ take (16 + 2 * get_or ps 1 0) ps ++ t = ap₂ ◌++◌ before there in
    let n : ℕ = get_or ps 0 0 in
    let c : ℕ = get_or ps 1 0 in
    let b : ℕ = 16 + 2 * c in
    let s : ℕ = slots_for n in
    let store : Kept ds t s = rw here edited.kept in
    let frame : Around cs (tables ps) ds t s = rw here edited.around in
    let text : cells_of ds t s ≡ xs = rw here edited.text in
    let start : b ≤ length ps = omega (arith, held.pieces_long) in
    let same : (i : ℕ) → i < b → get_or q i 0 ≡ get_or ps i 0 = λ i h. ap (λ (ws : List ℕ). get_or ws i 0) is ∙ lent_before b ps t i start h in
    let g0 : get_or q 0 0 ≡ n = same 0 (omega arith) in
    let g1 : get_or q 1 0 ≡ c = same 1 (omega arith) in
    let g2 : get_or q 2 0 ≡ get_or ps 2 0 = same 2 (omega arith) in
    let g3 : get_or q 3 0 ≡ get_or ps 3 0 = same 3 (omega arith) in
    let back : drop b q ≡ t = ap (drop b) is ∙ lent_after b ps t start in
    let tab : tables q ≡ t = ap (λ (k : ℕ). drop (16 + 2 * k) q) g1 ∙ back in
    let slots : slots_for (get_or q 0 0) ≡ s = ap slots_for g0 in
    let lt : length t ≡ length ps - b = frame.words_long ∙ length-drop b ps in
    let lb : length (take b ps) ≡ b = length-take-le b ps start in
    let long : length q ≡ length ps = ap length is ∙ (length-append (take b ps) t ∙ omega arith) in
    let row : changes_of (drop 16 q) (get_or ps 3 0) ≡ changes_of (drop 16 ps) (get_or ps 3 0) =
    changes_same (drop 16 q) (drop 16 ps) 0 (get_or ps 3 0)
    (λ i low high. get_or-drop 16 q i 0 ∙ (same (16 + i) (omega (arith, held.changes_fit)) ∙ sym (get_or-drop 16 ps i 0))) in
    let row' : changes_of (drop 16 q) (get_or q 3 0) ≡ changes_of (drop 16 ps) (get_or ps 3 0) = ap (λ (k : ℕ). changes_of (drop 16 q) k) g3 ∙ row in
    let cells : cells_of ds (tables q) (slots_for (get_or q 0 0)) ≡ xs = rw (tab, slots) text in
    let e : 34832 + 2 * c ≡ b + 34816 = omega arith in
    let past : drop (34832 + 2 * c) q ≡ drop (34832 + 2 * c) ps =
    ap (λ (k : ℕ). drop k q) e ∙ (sym (drop-drop 34816 b q) ∙ (ap (drop 34816) back ∙ (frame.words_past ∙ (drop-drop 34816 b ps ∙ ap (λ (k : ℕ). drop k ps) (sym e))))) in
    let limits : limits_of q ≡ limits_of ps = cc in
    let size : length ds ≡ length cs = frame.cells_long in
    record {
      held = record {
        few_cells = omega (arith, held.few_cells);
        few_changes = omega (arith, held.few_changes);
        few_undos = omega (arith, held.few_undos);
        cells_long = rw slots (omega (arith, held.cells_long));
        pieces_long = omega (arith, held.pieces_long);
        kept = rw (tab, slots) store;
        cells_fit = rw (cells, g0) few;
        changes_fit = omega (arith, held.changes_fit);
      };
      limits = limits;
      paper = cc;
      cells_beyond = frame.cells_past;
      pieces_beyond = past;
      cells_length = size;
      pieces_length = long;
    }

-- the row of changes as it stands before the tables
pub row_before : (ps head : List ℕ) → head ≡ take (16 + 2 * get_or ps 1 0) ps → get_or ps 3 0 ≤ get_or ps 1 0 →
    changes_of (drop 16 head) (get_or head 3 0) ≡ changes_of (drop 16 ps) (get_or ps 3 0)
row_before ps head is few =
    let b : ℕ = 16 + 2 * get_or ps 1 0 in
    let at : (i : ℕ) → i < b → get_or head i 0 ≡ get_or ps i 0 = λ i h. ap (λ (ws : List ℕ). get_or ws i 0) is ∙ get_or-take b ps i 0 h in
    ap (λ (k : ℕ). changes_of (drop 16 head) k) (at 3 (omega arith))
    ∙ changes_same (drop 16 head) (drop 16 ps) 0 (get_or ps 3 0)
    (λ i low high. get_or-drop 16 head i 0 ∙ (at (16 + i) (omega arith) ∙ sym (get_or-drop 16 ps i 0)))

-- the row of changes was written
pub rowed : (cs ps qs : List ℕ) (rows : List Change) → Held cs ps → Rowed ps qs rows → Wrote cs ps cs qs (with_changes (paper_of cs ps) rows)
rowed cs ps qs rows held note =
    let g0 : get_or qs 0 0 ≡ get_or ps 0 0 = ap (λ (l : Limits). l.cells) note.limits in
    let g1 : get_or qs 1 0 ≡ get_or ps 1 0 = ap (λ (l : Limits). l.changes) note.limits in
    let g2 : get_or qs 2 0 ≡ get_or ps 2 0 = ap (λ (l : Limits). l.undos) note.limits in
    let slots : slots_for (get_or qs 0 0) ≡ slots_for (get_or ps 0 0) = ap slots_for g0 in
    let cells : cells_of cs (tables qs) (slots_for (get_or qs 0 0)) ≡ (paper_of cs ps).cells = rw (note.tables, slots) refl in
    let c : ℕ = get_or ps 1 0 in
    let b : ℕ = 16 + 2 * c in
    let e : 34832 + 2 * c ≡ b + 34816 = omega arith in
    let tq : drop b qs ≡ tables qs = ap (λ (k : ℕ). drop (16 + 2 * k) qs) (sym g1) in
    let past : drop (34832 + 2 * c) qs ≡ drop (34832 + 2 * c) ps =
    ap (λ (k : ℕ). drop k qs) e ∙ (sym (drop-drop 34816 b qs) ∙ (ap (drop 34816) (tq ∙ note.tables) ∙ (drop-drop 34816 b ps ∙ ap (λ (k : ℕ). drop k ps) (sym e)))) in
    record {
      held = record {
        few_cells = omega (arith, held.few_cells);
        few_changes = omega (arith, held.few_changes);
        few_undos = omega (arith, held.few_undos);
        cells_long = rw slots held.cells_long;
        pieces_long = omega (arith, held.pieces_long, note.words);
        kept = rw (note.tables, slots) held.kept;
        cells_fit = rw (cells, g0) held.cells_fit;
        changes_fit = note.fits;
      };
      limits = note.limits;
      paper = let ys = note.changes in cc;
      cells_beyond = refl;
      pieces_beyond = past;
      cells_length = refl;
      pieces_length = note.words;
    }

-- one change more was written
pub added : {cs ps : List ℕ} (w : List ℕ) (a : ℕ) → Held cs ps → let n : ℕ = get_or ps 3 0 in let xs : List ℕ = take (length ps - 16) (drop 16 ps) in
    n < get_or ps 1 0 → w ≡ set (set xs (2 * n) a) (2 * n + 1) 0 → changes_of w (n + 1) ≡ changes_of xs n ++ (record { author = a; became = 0 } ∷ []) →
    Wrote cs ps cs (set (put_mid 16 (length ps - 16) ps w) 3 (n + 1)) (with_changes (paper_of cs ps) (row_of ps ++ (record { author = a; became = 0 } ∷ [])))
added {cs} {ps} w a held less is row =
    let n : ℕ = get_or ps 3 0 in
    let long : 16 + 2 * get_or ps 1 0 ≤ length ps = omega (arith, held.pieces_long) in
    rowed cs ps (set (put_mid 16 (length ps - 16) ps w) 3 (n + 1)) (row_of ps ++ (record { author = a; became = 0 } ∷ [])) held
    (noted ps w a less long (simp take_rest at is) (simp take_rest at row))

-- what became of a change was written
pub decided : {cs ps : List ℕ} (w : List ℕ) (k b : ℕ) → Held cs ps → let n : ℕ = get_or ps 3 0 in let xs : List ℕ = take (length ps - 16) (drop 16 ps) in
    k < n → w ≡ set xs (2 * k + 1) b → changes_of w n ≡ with_became (changes_of xs n) k b →
    Wrote cs ps cs (put_mid 16 (length ps - 16) ps w) (with_changes (paper_of cs ps) (with_became (row_of ps) k b))
decided {cs} {ps} w k b held there is row =
    let long : 16 + 2 * get_or ps 1 0 ≤ length ps = omega (arith, held.pieces_long) in
    rowed cs ps (put_mid 16 (length ps - 16) ps w) (with_became (row_of ps) k b) held
    (judged ps w k b there held.changes_fit long (simp take_rest at is) (simp take_rest at row))

-- two writes, one after the other
wrote_twice : {cs ps cs' ps' ds qs : List ℕ} {p q : Paper} → Wrote cs ps cs' ps' p → Wrote cs' ps' ds qs q → Wrote cs ps ds qs q
wrote_twice {cs} {ps} {cs'} {ps'} {ds} {qs} v w =
    let g0 : get_or ps' 0 0 ≡ get_or ps 0 0 = ap (λ (l : Limits). l.cells) v.limits in
    let g1 : get_or ps' 1 0 ≡ get_or ps 1 0 = ap (λ (l : Limits). l.changes) v.limits in
    record {
      held = w.held;
      limits = w.limits ∙ v.limits;
      paper = w.paper;
      cells_beyond = subst (λ (n : ℕ). drop (cells_words n) ds ≡ drop (cells_words n) cs') g0 w.cells_beyond ∙ v.cells_beyond;
      pieces_beyond = subst (λ (n : ℕ). drop (pieces_words n) qs ≡ drop (pieces_words n) ps') g1 w.pieces_beyond ∙ v.pieces_beyond;
      cells_length = w.cells_length ∙ v.cells_length;
      pieces_length = w.pieces_length ∙ v.pieces_length;
    }

-- the cells were written, and then the row of changes
pub noted_too : {cs ps cs' ps' ds qs : List ℕ} {xs : List Cell} (p : Paper) (rows : List Change → List Change) → Wrote cs ps cs' ps' (with_cells p xs) →
    Wrote cs' ps' ds qs (with_changes (paper_of cs' ps') (rows (paper_of cs' ps').changes)) → Wrote cs ps ds qs (record { cells = xs; changes = rows p.changes })
noted_too {cs} {ps} {cs'} {ps'} {ds} {qs} p rows v w =
    subst (λ (r : Paper). Wrote cs ps ds qs (with_changes r (rows r.changes))) v.paper (wrote_twice v w)
