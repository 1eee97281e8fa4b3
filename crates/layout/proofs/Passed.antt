-- From row to row.
use Rattle.std.proofs.Common.{◌≡◌, ℕ, ◌+◌, ◌<◌, ◌≤◌, [], length, sym, refl, ap, ◌∙◌, inl, inr, add-one, arith}
use Rattle.std.proofs.lemmas.Bool.{cases_lt}
use Rattle.model.specs.Rows.{rows}
use Rattle.model.specs.Walk.{rest}
use Rattle.model.proofs.Rows.{rows_left}
use Rattle.pieces.specs.declared.Spot.{Spot}
use Rattle.layout.specs.declared.sheet.Row.{Row}
use Rattle.layout.specs.declared.sheet.Sheet.{Sheet}
use Rattle.layout.specs.Found.{ahead, Within, Found, Passed}

pub pass_start : (s : Sheet) (t : Spot) → Within s t → Passed s t 0 t
unfolding rest
pass_start s t h = record { spot = h; enough = omega arith; left = refl }

module _ (s : Sheet) (t : Spot) (i : ℕ) (u : Spot) (wide : 0 < s.width) (h : Passed s t i u) where
  pub pass_none : ahead s u ≡ [] → length (rows s.width (ahead s t)) ≤ i
  pass_none e =
      let l = h.left in
      let n : length (rest s.width i (ahead s t)) ≡ 0 = ap length (sym l ∙ e) in
      let a = (rows_left s.width i (ahead s t) wide).0 in
      elim (cases_lt i (length (rows s.width (ahead s t)))) [ inl k ↦ absurd (let z = a k in omega arith) | inr k ↦ k ]

  pub pass_more : (r : Row) → Found s u r → Passed s t (i + 1) r.next
  unfolding rest
  pass_more r f =
      let l = h.left in
      let n : 0 < length (rest s.width i (ahead s t)) = rw (sym l) f.some in
      let a = (rows_left s.width i (ahead s t) wide).1 n in
      let b = f.next.rest in
      record { spot = f.next.spot; enough = omega arith; left = rw add-one (b ∙ rw l) }
