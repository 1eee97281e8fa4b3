-- The rows from a row on, by the spot at which that row begins, or a row before it.
use Rattle.std.proofs.Common.{◌≡◌, ℕ, ◌+◌, ◌-◌, ◌<◌, ◌≤◌, List, ◌++◌, length, take, drop, sym, refl, ap, ◌∙◌, arith}
use Rattle.std.proofs.lemmas.List.{length-drop, drop-drop}
use Rattle.model.specs.Paper.{Cell, view}
use Rattle.model.specs.Rows.{rows}
use Rattle.model.specs.Walk.{rest}
use Rattle.model.specs.Calls.{lines}
use Rattle.model.specs.Values.{way_number}
use Rattle.model.proofs.Rows.{rows_rest}
use Rattle.codec.specs.Bytes.{answer_bytes}
use Rattle.kept.specs.Text.{cells_in}
use Rattle.pieces.specs.declared.Spot.{Spot}
use Rattle.layout.specs.declared.sheet.Front.{Front}
use Rattle.layout.specs.declared.sheet.Sheet.{Sheet}
use Rattle.layout.specs.declared.seen.Seen.{Seen}
use Rattle.layout.specs.Seen.{still}
use Rattle.layout.specs.Fronts.{IsFront}
use Rattle.layout.specs.Found.{ahead, Passed}
use Rattle.layout.specs.Shown.{Shows, ShowsNone}
use Rattle.layout.proofs.Comes.{ahead_is}
use Rattle.layout.proofs.Fronts.{row_begins}

module _ (s : Sheet) where
  abbrev seen : List Cell
  seen = view (way_number s.way) (cells_in s.text)

  abbrev all : List (List Cell)
  all = rows s.width seen

  -- row number m goes from the spot
  pub record Begins (m : ℕ) (t : Spot) : Type 0 where
    pub left : ahead s t ≡ rest s.width m seen
    pub enough : m ≤ length all

  -- the row that has begun at the front of a piece goes from the spot so many letters before
  pub begins : (f : Front) (x : Seen) → IsFront s f → (text : x.text ≡ s.text) (way : x.way ≡ s.way) → still x ≡ drop (f.seen - f.begun.long) seen → Begins f.rows x.spot
  begins f x (k, h) text way e =
      let r = row_begins s k f h in
      record { left = sym (ahead_is s x text way x.spot) ∙ e ∙ sym r.start; enough = r.enough }

  -- so many letters stand there
  pub begun_inside : (f : Front) → IsFront s f → f.begun.long ≤ f.seen
  begun_inside f (k, h) = (row_begins s k f h).within

  module _ (m first : ℕ) (t : Spot) (b : Begins m t) (later : m ≤ first) where
    rows_at : rows s.width (ahead s t) ≡ drop m all
    rows_at = ap (rows s.width) b.left ∙ sym (rows_rest s.width m seen s.least)

    -- fewer rows than are to be passed
    pub too_few : (n : ℕ) (out : List ℕ) → length (rows s.width (ahead s t)) < first - m → ShowsNone all first n out out
    too_few n out h =
        let e = ap length rows_at in
        let d = length-drop m all in
        let k = b.enough in
        record { short = omega arith; same = refl }

    module _ (u : Spot) (h : Passed s t (first - m) u) where
      rows_from : rows s.width (ahead s u) ≡ drop first all
      rows_from =
          let e : m + (first - m) ≡ first = omega arith in
          ap (rows s.width) h.left ∙ sym (rows_rest s.width (first - m) (ahead s t) s.least) ∙ ap (drop (first - m)) rows_at
          ∙ drop-drop (first - m) m all ∙ ap (λ i. drop i all) e

      pub too_few_after : (n : ℕ) (out : List ℕ) → length (rows s.width (ahead s u)) < n → ShowsNone all first n out out
      too_few_after n out l =
          let e = ap length rows_from in
          let d = length-drop first all in
          record { short = omega arith; same = refl }

      pub shows : (n : ℕ) (out out' : List ℕ) (r : ℕ) → n ≤ length (rows s.width (ahead s u)) → out' ≡ answer_bytes (lines (take n (rows s.width (ahead s u)))) ++ drop r out
          → r ≡ length (answer_bytes (lines (take n (rows s.width (ahead s u))))) → Shows all first n out out' r
      shows n out out' r l w e =
          let f = ap length rows_from in
          let d = length-drop first all in
          let g = ap length rows_at in
          let o = length-drop m all in
          let k = h.enough in
          let i = b.enough in
          record { there = omega arith; bytes = rw (sym rows_from) w; long = rw (sym rows_from) e }
