-- Going over cells: what was reached, with what is still to come, is what is reached at the end. Assumes nothing.
use Rattle.std.proofs.Common.{◌≡◌, ℕ, ◌+◌, ◌<◌, ◌≤◌, true, false, List, [], ◌∷◌, length, sym, add_assoc, zero-add, add-zero, subst, arith}
use Rattle.model.specs.Paper.{Cell, seen, view}
use Rattle.breaks.specs.declared.Begun.{Begun}
use Rattle.breaks.specs.declared.Reached.{Reached}
use Rattle.breaks.specs.Breaks.{passed, scan}
use Rattle.breaks.proofs.Scan.{passed_few, passed_wide}

-- n rows before
abbrev pub further : ℕ → Reached → Reached
further n t = record { rows = n + t.rows; begun = t.begun }

-- r is reached, the cells xs are to come, and with them `end` is reached
pub record Ahead (w way : ℕ) (r : Reached) (xs : List Cell) (end : Reached) : Type 0 where
  pub same : further r.rows (scan w r.begun (view way xs)) ≡ end
  pub wide : r.begun.long ≤ w
  pub few : r.rows + length xs ≤ 1024

pub ahead_start : (w way : ℕ) (b : Begun) (xs : List Cell) → b.long ≤ w → length xs ≤ 1024 → Ahead w way (record { rows = 0; begun = b }) xs (scan w b (view way xs))
ahead_start w way b xs h k = record { same = rw (zero-add (scan w b (view way xs)).rows); wide = h; few = omega arith }

module _ (w way : ℕ) (r : Reached) (x : Cell) (xs : List Cell) (end : Reached) (a : Ahead w way r (x ∷ xs) end) where
  pub ahead_room : (p : Reached) → p ≡ passed w r.begun x.letter → r.rows + p.rows ≤ 1024
  ahead_room p e =
      let t : p.rows ≤ 1 = rw e (passed_few w r.begun x.letter) in
      let f = a.few in
      omega arith

  pub ahead_seen : 0 < w → seen way x ≡ true → (p : Reached) → p ≡ passed w r.begun x.letter → Ahead w way (further r.rows p) xs end
  unfolding view scan
  ahead_seen h s p e =
      let q : Reached = passed w r.begun x.letter in
      let t = passed_few w r.begun x.letter in
      let f = a.few in
      subst (λ (p : Reached). Ahead w way (further r.rows p) xs end) (sym e) (record {
        same = rw (add_assoc r.rows q.rows (scan w q.begun (view way xs)).rows) (rw s at a.same);
        wide = passed_wide w r.begun x.letter h a.wide;
        few = omega arith;
      })

  pub ahead_unseen : seen way x ≡ false → Ahead w way r xs end
  unfolding view
  ahead_unseen s = record { same = rw s at a.same; wide = a.wide; few = let f = a.few in omega arith }

pub ahead_end : (w way : ℕ) (r end : Reached) → Ahead w way r [] end → r ≡ end
unfolding view scan
ahead_end w way r end a = rw (add-zero r.rows) at a.same
