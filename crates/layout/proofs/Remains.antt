-- Going over what is left of a piece, cell by cell.
use Rattle.std.proofs.Common.{◌≡◌, ℕ, ◌+◌, ◌-◌, ◌<◌, ◌≤◌, true, false, List, [], ◌∷◌, get_or, refl, sym, ◌∙◌, arith}
use Rattle.model.specs.Paper.{Cell, seen}
use Rattle.model.specs.Values.{way_number}
use Rattle.pieces.specs.Store.{number, used, cells_of, before, no_cell}
use Rattle.pieces.specs.declared.Spot.{Spot}
use Rattle.pieces.proofs.Texts.{text_at}
use Rattle.slots.specs.Cells.{all_cells, cells_at}
use Rattle.layout.specs.declared.sheet.Sheet.{Sheet}
use Rattle.layout.specs.Found.{ahead, Within}
use Rattle.layout.specs.Spots.{Rests}
use Rattle.layout.proofs.Spots.{first_of, none_of, left_seen, left_unseen, left_next, left_end}
use Rattle.layout.proofs.Found.{Reaches}

abbrev pub spot : ℕ → ℕ → Spot
spot k j = record { piece = k; offset = j }

-- the words are those of piece k from its cell j on
pub record Remains (s : Sheet) (k j : ℕ) (ws : List ℕ) : Type 0 where
  pub here : k < s.text.slots
  pub within : j ≤ used s.text.tables.now k
  pub cells : all_cells ws ≡ cells_at s.text.cells.now (number s.text.tables.now k j) (used s.text.tables.now k - j)

pub remains_start : (s : Sheet) (k j : ℕ) (ws : List ℕ) → k < s.text.slots → Within s (spot k j) → Rests s.text (spot k j) ws → Remains s k j ws
remains_start s k j ws l i r = record { here = l; within = i.offset; cells = r l }

-- one cell further
module _ (s : Sheet) (k j : ℕ) (ws : List ℕ) (h : Remains s k j ws) (x : Cell) (vs : List ℕ) (e : all_cells ws ≡ x ∷ all_cells vs) where
  first : (0 < used s.text.tables.now k - j) × (x ≡ get_or (cells_of s.text.cells.now s.text.tables.now s.text.slots) (before s.text.tables.now k + j) no_cell)
  first =
      let f = first_of _ _ _ _ _ (sym h.cells ∙ e) in
      let l = f.0 in
      (f.0, sym f.1 ∙ sym (text_at _ _ _ _ _ h.here (omega arith)))

  pub inside : j < used s.text.tables.now k
  inside = let l = first.0 in omega arith

  pub remains_more : Remains s k (j + 1) vs
  remains_more =
      let f = first_of _ _ _ _ _ (sym h.cells ∙ e) in
      let l = f.0 in
      record { here = h.here; within = omega arith; cells = f.2 _ _ (omega arith) (omega arith) }

  pub ahead_seen : true ≡ seen (way_number s.way) x → ahead s (spot k j) ≡ x ∷ ahead s (spot k (j + 1))
  ahead_seen t = left_seen _ _ _ _ _ _ x h.here inside first.1 t

  pub ahead_unseen : false ≡ seen (way_number s.way) x → ahead s (spot k j) ≡ ahead s (spot k (j + 1))
  ahead_unseen t = left_unseen _ _ _ _ _ _ x h.here inside first.1 t

  pub reaches_cell : true ≡ seen (way_number s.way) x → Reaches s (spot k j) x (ahead s (spot k (j + 1)))
  reaches_cell t =
      let l = h.here in
      let i = inside in
      record { in_at = record { piece = omega arith; offset = omega arith }; in_on = record { piece = omega arith; offset = omega arith }; from_at = ahead_seen t; from_on = refl }

-- from the end of a piece to the next
module _ (s : Sheet) (k j : ℕ) (ws : List ℕ) (h : Remains s k j ws) (e : all_cells ws ≡ []) where
  pub within_next : Within s (spot (k + 1) 0)
  within_next = let l = h.here in record { piece = omega arith; offset = omega arith }

  pub ahead_next : ahead s (spot k j) ≡ ahead s (spot (k + 1) 0)
  ahead_next =
      let n = none_of _ _ _ (sym h.cells ∙ e) in
      let w = h.within in
      sym (left_next _ _ _ _ _ _ (omega arith))

-- nothing is seen behind the last piece
pub ahead_none : (s : Sheet) (k j : ℕ) → Within s (spot k j) → s.text.slots ≤ k → ahead s (spot k j) ≡ []
ahead_none s k j i l =
    let p = i.piece in
    left_end _ _ _ _ _ _ (omega arith)
