-- Cells put in part by part.
use Rattle.std.proofs.Common.{◌≡◌, ℕ, ◌+◌, ◌-◌, ◌*◌, ◌/◌, ◌≤◌, min, List, [], ◌++◌, length, take, drop, sym, ap, ◌∙◌, refl, append_assoc, append-nil, add-zero, inl, inr, arith}
use Rattle.std.proofs.lemmas.Bool.{cases_lt}
use Rattle.std.proofs.lemmas.List.{length-append, nil_from_length, take_at, drop_at}
use Rattle.model.specs.Paper.{Cell}
use Rattle.slots.specs.Cells.{all_cells}
use Rattle.slots.proofs.Words.{all_halves, all_none, length_cells}
use Rattle.pieces.specs.Edits.{replaced}
use Rattle.pieces.proofs.Change.{length_replaced}
use Rattle.kept.specs.Text.{Rewrites, cells_of_mut}
use Rattle.kept.specs.declared.text.TextMut.{TextMut}
use Rattle.kept.proofs.Edits.{replaced_twice, removed_none, put_text}
use Rattle.kept.proofs.Rewriting.{rewrites_none, rewrites_as, rewrites_both, rewrites_text}

-- the cells whose words `ws` has are put in at a place: those in `rest` are left, and come at `at`
pub record Inserting (ws rest : List ℕ) (place at : ℕ) (old new : TextMut) : Type 0 where
  pub done : List Cell
  pub all : all_cells ws ≡ done ++ all_cells rest
  pub place_now : at ≡ place + length done
  pub rewrites : Rewrites old new (replaced (cells_of_mut old) place 0 done)

pub inserting_none : (ws rest : List ℕ) (place : ℕ) (t : TextMut) → rest ≡ ws → Inserting ws rest place place t t
inserting_none ws rest place t e =
    record { done = []; all = ap all_cells (sym e); place_now = sym (add-zero place); rewrites = rewrites_none t _ (removed_none (cells_of_mut t) place 0 refl) }

-- the first part, and what is left
parts_all : (ws part rest : List ℕ) → ws ≡ part ++ rest → length part ≡ min 1280 (length ws) → all_cells ws ≡ all_cells part ++ all_cells rest
parts_all ws part rest e h =
    let n = ap length e ∙ length-append part rest in
    elim (cases_lt (length ws) 1280) [
      | inl short ↦
          let none : rest ≡ [] = nil_from_length rest (omega arith) in
          let less = all_none rest (rw none (omega arith)) in
          ap all_cells (e ∙ ap (λ r. part ++ r) none ∙ append-nil part) ∙ sym (ap (λ xs. all_cells part ++ xs) less ∙ append-nil (all_cells part))
      | inr long ↦
          let t : take (4 * 320) ws ≡ part = ap (take 1280) e ∙ take_at part rest 1280 (omega arith) in
          let d : drop (4 * 320) ws ≡ rest = ap (drop 1280) e ∙ drop_at part rest 1280 (omega arith) in
          let a = all_halves ws 320 (omega arith) in
          cc
    ]

module _ (ws rest part left : List ℕ) (place at : ℕ) (old new : TextMut) (e : rest ≡ part ++ left) (l : length part ≡ min 1280 (length rest))
    (within : place ≤ length (cells_of_mut old)) (h : Inserting ws rest place at old new) where
  pub inserting_place : at ≤ length (cells_of_mut new)
  inserting_place =
      let n = ap length (rewrites_text old new _ h.rewrites) in
      let m = length_replaced (cells_of_mut old) place 0 h.done (omega arith) in
      omega (arith, h.place_now)

  pub inserting_fits : length (cells_of_mut old) + length ws / 4 ≤ 768 * (old.slots - 1) → length (cells_of_mut new) + length part / 4 ≤ 768 * (new.slots - 1)
  inserting_fits f =
      let n = ap length (rewrites_text old new _ h.rewrites) in
      let m = length_replaced (cells_of_mut old) place 0 h.done (omega arith) in
      let a = ap length h.all ∙ length-append h.done (all_cells rest) in
      let b = ap length (parts_all rest part left e l) ∙ length-append (all_cells part) (all_cells left) in
      let w = length_cells ws 0 (length ws / 4) in
      let p = length_cells part 0 (length part / 4) in
      let s = h.rewrites.same_slots in
      omega arith

  pub inserting_more : (newer : TextMut) → Rewrites new newer (replaced (cells_of_mut new) at 0 (all_cells part))
      → Inserting ws left place (at + length part / 4) old newer
  inserting_more newer g =
      let p = length_cells part 0 (length part / 4) in
      record {
        done = h.done ++ all_cells part;
        all = h.all ∙ ap (λ xs. h.done ++ xs) (parts_all rest part left e l) ∙ sym (append_assoc h.done (all_cells part) (all_cells left));
        place_now = omega (arith, h.place_now, length-append h.done (all_cells part));
        rewrites =
            rewrites_both old new newer _ _ _ h.rewrites g
            (ap (λ x. replaced x at 0 (all_cells part)) (rewrites_text old new _ h.rewrites) ∙ replaced_twice (cells_of_mut old) h.done (all_cells part) place at within h.place_now);
      }

pub inserting_all : (ws rest : List ℕ) (place at : ℕ) (old new : TextMut) → rest ≡ [] → Inserting ws rest place at old new
    → Rewrites old new (take place (cells_of_mut old) ++ (all_cells ws ++ drop place (cells_of_mut old)))
inserting_all ws rest place at old new e h =
    let none = all_none rest (rw e (omega arith)) in
    let all : all_cells ws ≡ h.done = h.all ∙ ap (λ xs. h.done ++ xs) none ∙ append-nil h.done in
    rewrites_as old new _ _ h.rewrites (put_text (cells_of_mut old) h.done place place refl ∙ ap (λ xs. take place (cells_of_mut old) ++ (xs ++ drop place (cells_of_mut old))) (sym all))
