-- The steps of a sweep within one slot.
use Rattle.std.proofs.Common.{◌≡◌, ℕ, ◌+◌, ◌-◌, ◌*◌, ◌≤◌, List, [], ◌∷◌, ◌++◌, length, take, drop, sym, ap, ◌∙◌, arith}
use Rattle.std.proofs.lemmas.List.{append-nil}
use Rattle.model.specs.Paper.{Cell, Change}
use Rattle.slots.specs.Cells.{cell_at, cells_at, Kept}
use Rattle.slots.proofs.Words.{length_cells, cells_split, cells_more, take_cells, drop_cells, kept_cell_above, kept_cells_below, kept_wider, kept_twice}
use Rattle.pieces.specs.Store.{slot, used, piece}
use Rattle.pieces.specs.Edits.{Filled}
use Rattle.pieces.proofs.Change.{filled}
use Rattle.sweep.specs.declared.Action.{Action}
use Rattle.sweep.specs.Sweep.{fate, swept, swept_run}
use Rattle.sweep.proofs.Laws.{swept_append}

-- one cell more
pub swept_more : (a : Action) (cs : List Change) (xs : List Cell) (x : Cell) → swept a cs (xs ++ (x ∷ [])) ≡ swept a cs xs ++ fate a cs x
unfolding swept
swept_more a cs xs x = swept_append a cs xs (x ∷ []) ∙ ap (λ ys. swept a cs xs ++ ys) (append-nil (fate a cs x))

-- a cell x written behind the first n
pub written_behind : (c d : List ℕ) (at n : ℕ) (x : Cell) → cell_at d (at + n) ≡ x → Kept c d (at + n) 1 → cells_at d at (n + 1) ≡ cells_at c at n ++ (x ∷ [])
written_behind c d at n x e h =
    let m = cells_more d at n in
    let b = kept_cells_below c d (at + n) 1 h at n (omega arith) in
    cc

-- a turn of the loop
pub swept_step : (c d e : List ℕ) (at i n m : ℕ) (a : Action) (cs : List Change) → n ≤ i → m ≤ i + 1
    → cells_at d at n ≡ swept a cs (cells_at c at i) → Kept c d at i
    → cells_at e at m ≡ cells_at d at n ++ fate a cs (cell_at d (at + i)) → Kept d e at m
    → (cells_at e at m ≡ swept a cs (cells_at c at (i + 1))) × Kept c e at (i + 1)
swept_step c d e at i n m a cs l le f h g k =
    let one = cells_more c at i in
    let same = kept_cell_above c d at i h (at + i) (omega arith) in
    let more = swept_more a cs (cells_at c at i) (cell_at c (at + i)) in (
      cc,
      kept_twice c d e at (i + 1) (kept_wider c d at i h at (i + 1) (omega arith) (omega arith)) (kept_wider d e at m k at (i + 1) (omega arith) (omega arith)),
    )

-- n cells of piece k swept from cell o on: r are left, and those behind them have moved down
module _ (c d p : List ℕ) (k o n at r : ℕ) (a : Action) (cs : List Change) (l : o + n ≤ used p k) (m : used p k ≤ 1024) (few : r ≤ n)
    (w : at ≡ 1024 * slot p k + o) (f : cells_at d at r ≡ swept a cs (cells_at c at n)) where
  swept_part : swept a cs (take n (drop o (piece c p k))) ≡ cells_at d at r
  unfolding piece
  swept_part =
      let b = 1024 * slot p k in
      let dr = drop_cells c b (used p k) o (omega arith) in
      let tk = take_cells c (b + o) (used p k - o) n (omega arith) in
      cc

  pub left_here : r ≡ length (swept a cs (take n (drop o (piece c p k))))
  left_here = sym (ap length swept_part ∙ length_cells d at r)

  pub swept_here : cells_at d (at + r) (used p k - (o + n)) ≡ cells_at c (at + n) (used p k - (o + n)) → Kept c d at (n + (used p k - (o + n)))
      → Filled c d p k (swept_run a cs (piece c p k) o n)
  unfolding piece
  swept_here moved h =
      let b = 1024 * slot p k in
      let u = used p k in
      let s1 = cells_split d b o (r + (u - (o + n))) in
      let s2 = cells_split d at r (u - (o + n)) in
      let front = kept_cells_below c d at (n + (u - (o + n))) h b o (omega arith) in
      let tk = take_cells c b u o (omega arith) in
      let dr = drop_cells c b u (o + n) l in
      let g : b + (o + n) ≡ at + n = omega arith in
      let part = swept_part in
      filled c d p k (o + (r + (u - (o + n)))) (swept_run a cs (cells_at c b u) o n) (cc)
      (kept_wider c d at (n + (u - (o + n))) h b 1024 (omega arith) (omega arith))
