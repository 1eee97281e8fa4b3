-- What a piece does to rows, and the fronts of the pieces.
use Rattle.std.proofs.Common.{Bool, false, ◌≡◌, ℕ, suc, ◌+◌, ◌-◌, ◌<◌, ◌≤◌, true, eqb, ◌&&◌, List, [], ◌++◌, length, sym, refl, ap, ◌∙◌, subst, arith}
use Rattle.std.proofs.lemmas.Bool.{and_parts, eqb-true}
use Rattle.model.specs.Paper.{Cell, view}
use Rattle.model.specs.Values.{way_number}
use Rattle.breaks.specs.Breaks.{fresh, scan}
use Rattle.breaks.specs.declared.Begun.{Begun}
use Rattle.breaks.specs.declared.Reached.{Reached}
use Rattle.breaks.specs.Laws.{RowBegins}
use Rattle.breaks.proofs.Scan.{scan_append, scan_wide, scan_few}
use Rattle.breaks.proofs.Starts.{scan_rows}
use Rattle.kept.specs.Kept.{memo_of, Right}
use Rattle.kept.specs.Text.{cells_in}
use Rattle.kept.specs.declared.memo.Memo.{Memo}
use Rattle.kept.proofs.Seen.{view_append, view_more, view_none}
use Rattle.pieces.specs.Store.{slot, piece, strung}
use Rattle.pieces.proofs.Strung.{strung_more, strung_zero}
use Rattle.pieces.proofs.Texts.{length_before, length_piece}
use Rattle.layout.specs.Fronts.{MemoIs, FrontOf}
use Rattle.layout.specs.declared.sheet.Front.{Front}
use Rattle.layout.specs.declared.sheet.Sheet.{Sheet}
use Rattle.layout.proofs.Spots.{view_short, view_split, before_small}
use Rattle.kept.proofs.Whole.{tallied_of}

-- two rows that have begun are the same where the test of their fields says so
pub begun_same : (b d : Begun) → (eqb b.long d.long && eqb b.space d.space) ≡ true → b ≡ d
begun_same b d t =
    let e = and_parts (eqb b.long d.long) (eqb b.space d.space) t in
    ap (λ (n : ℕ). let r : Begun = record { long = n; space = b.space } in r) (eqb-true _ _ e.0)
    ∙ ap (λ (n : ℕ). let r : Begun = record { long = d.long; space = n } in r) (eqb-true _ _ e.1)

module _ (s : Sheet) where
  -- what is seen of piece k, and of the pieces before it
  abbrev of : ℕ → List Cell
  of k = view (way_number s.way) (piece s.text.cells.now s.text.tables.now k)

  abbrev front : ℕ → List Cell
  front k = view (way_number s.way) (strung (piece s.text.cells.now s.text.tables.now) 0 k)

  of_few : (k : ℕ) → k < s.text.slots → length (of k) ≤ 1024
  of_few k h =
      let v = view_short (way_number s.way) (piece s.text.cells.now s.text.tables.now k) in
      let l = length_piece s.text.cells.now s.text.tables.now k in
      let u = s.text.kept.store.table.order.small k h in
      omega arith

  front_few : (k : ℕ) → k ≤ s.text.slots → length (front k) ≤ 2097152
  front_few k h =
      let v = view_short (way_number s.way) (strung (piece s.text.cells.now s.text.tables.now) 0 k) in
      let l = length_before s.text.cells.now s.text.tables.now k in
      let b = before_small s.text.tables.now s.text.slots k s.text.kept.store.table.order h in
      let m = s.text.kept.store.table.order.most in
      omega arith

  front_more : (k : ℕ) → front (k + 1) ≡ front k ++ of k
  front_more k =
      let i : k + 1 ≡ suc k = omega arith in
      ap front i ∙ ap (view (way_number s.way)) (strung_more (piece s.text.cells.now s.text.tables.now) k)
      ∙ view_append (way_number s.way) (strung (piece s.text.cells.now s.text.tables.now) 0 k) (piece s.text.cells.now s.text.tables.now k)

  -- the memo that is kept, where it is one of this width, this way and this row
  pub memo_kept : (k : ℕ) (b : Begun) (m : Memo) → k < s.text.slots → b.long ≤ s.width → m ≡ memo_of s.text.tables.now (slot s.text.tables.now k)
      → m.width ≡ s.width → m.way ≡ way_number s.way → m.before ≡ b → MemoIs s k b m
  memo_kept k b m h l e width way before =
      let least = s.least in
      let r : Right m (piece s.text.cells.now s.text.tables.now k) = subst (λ (m : Memo). Right m (piece s.text.cells.now s.text.tables.now k)) (sym e) (tallied_of s.text.kept k h).memo in
      let g : scan s.width b (of k) ≡ m.reached = rw (width, way, before) at (r (omega arith)) in
      let w = scan_wide s.width b (of k) least l in
      let f = scan_few s.width b (of k) in
      let o = of_few k h in
      let gb = ap (λ (r : Reached). r.begun.long) g in
      let gr = ap (λ (r : Reached). r.rows) g in
      record { width = width; way = way; before = before; reached = sym g; wide = omega arith; few = omega arith }

  pub front_first : FrontOf s 0 (record { piece = 0; rows = 0; seen = 0; begun = fresh; anew = false })
  unfolding scan
  front_first =
      let e : front 0 ≡ [] = ap (view (way_number s.way)) (strung_zero (piece s.text.cells.now s.text.tables.now) 0) ∙ view_none (way_number s.way) in
      record { number = refl; here = omega arith; rows = rw e refl; seen = rw e refl; begun = rw e refl }

  module _ (k : ℕ) (f : Front) (h : FrontOf s k f) where
    pub front_wide : f.begun.long ≤ s.width
    front_wide =
        let w = scan_wide s.width fresh (front k) s.least (omega arith) in
        let e = ap (λ (b : Begun). b.long) h.begun in
        omega arith

    pub front_rows_few : f.rows ≤ 2097152
    front_rows_few =
        let w = scan_few s.width fresh (front k) in
        let e = h.rows in
        let o = front_few k h.here in
        omega arith

    pub front_seen_few : f.seen ≤ 2097152
    front_seen_few =
        let e = h.seen in
        let o = front_few k h.here in
        omega arith

    pub front_next : (m : Memo) (n : ℕ) (b : Bool) → k < s.text.slots → MemoIs s k f.begun m → n ≡ length (of k)
        → FrontOf s (k + 1) (record { piece = k + 1; rows = f.rows + m.reached.rows; seen = f.seen + n; begun = m.reached.begun; anew = b })
    front_next m n b l r e =
        let a = ap (scan s.width fresh) (front_more k) ∙ scan_append s.width fresh (front k) (of k) in
        let g : m.reached ≡ scan s.width (scan s.width fresh (front k)).begun (of k) = r.reached ∙ ap (λ (b : Begun). scan s.width b (of k)) h.begun in
        let v = view_more (way_number s.way) (piece s.text.cells.now s.text.tables.now) k in
        let w = h.seen in
        record {
          number = refl;
          here = omega arith;
          rows = sym (ap (λ (r : Reached). r.rows) a ∙ rw (sym g, sym h.rows) refl);
          seen = omega arith;
          begun = sym (ap (λ (r : Reached). r.begun) a ∙ ap (λ (r : Reached). r.begun) (sym g));
        }

    -- where the row begins that has begun there
    pub row_begins : RowBegins s.width (record { rows = f.rows; begun = f.begun }) f.seen (view (way_number s.way) (cells_in s.text))
    row_begins =
        let c = s.text.cells.now in
        let p = s.text.tables.now in
        let later : List Cell = view (way_number s.way) (strung (piece c p) k (s.text.slots - k)) in
        rw (h.rows, h.begun, h.seen, view_split c p s.text.slots (way_number s.way) k h.here) (scan_rows s.width (front k) later s.least)
