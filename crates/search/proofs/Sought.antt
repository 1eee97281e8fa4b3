-- A search over the cells that are seen, cell by cell.
use Rattle.std.proofs.Common.{◌≡◌, ℕ, ◌+◌, ◌-◌, ◌^◌, ◌<◌, ◌≤◌, List, [], ◌∷◌, length, get_or, drop, sym, refl, ap, ◌∙◌, subst, arith}
use Rattle.std.proofs.lemmas.List.{drop-drop, get_or-drop, length-drop}
use Rattle.model.specs.Paper.{Cell, letters, view}
use Rattle.model.specs.Rows.{find_in}
use Rattle.kept.specs.Text.{cells_in}
use Rattle.kept.specs.declared.text.Text.{Text}
use Rattle.layout.proofs.Spots.{left_all, left_few}
use Rattle.finder.specs.Match.{Step, Seeking}
use Rattle.finder.proofs.Finding.{letters_length, letters_drop, seeking_none, seeking_more, seeking_read, seeking_full, seeking_all}

letters_more : (x : Cell) (xs : List Cell) → letters (x ∷ xs) ≡ x.letter ∷ letters xs
unfolding letters
letters_more x xs = refl

-- How far a search for the letters ls in the cells `all` from place `from` on has come: `passed` cells were passed, `matched` of the letters match, and
-- the cells `later` are to come.
pub record Sought (all : List Cell) (from : ℕ) (ls : List ℕ) (later : List Cell) (passed matched : ℕ) : Type 0 where
  pub rest : later ≡ drop passed (drop from all)
  pub within : passed ≤ length (drop from all)
  pub seeking : Seeking ls (letters (drop from all)) passed matched

module _ {all : List Cell} {from : ℕ} {ls : List ℕ} where
  pub sought_start : {later : List Cell} {passed : ℕ} → later ≡ drop from all → passed ≡ 0 → 0 < length ls → Sought all from ls later passed 0
  sought_start e p h =
      record { rest = rw p e; within = omega arith; seeking = rw p (seeking_none ls (letters (drop from all)) h) }

  module _ {before : List Cell} {passed matched : ℕ} (h : Sought all from ls before passed matched) where
    -- nothing is left
    pub sought_none : before ≡ [] → find_in all ls from 0 ≡ 0
    sought_none e =
        let l = ap length (sym e ∙ h.rest) in
        let d = length-drop passed (drop from all) in
        let n = length-drop from all in
        seeking_all all ls from passed matched (omega arith) h.seeking

    -- the count of cells stays small
    pub sought_few : length all ≤ 2097152 → passed + length before < 2 ^ 64
    sought_few f =
        let w = h.within in
        let l = ap length h.rest in
        let d = length-drop passed (drop from all) in
        let n = length-drop from all in
        omega arith

    -- one cell further
    module _ {x : Cell} {later : List Cell} (next : before ≡ x ∷ later) where
      pub sought_inside : from + passed < length all
      sought_inside =
          let l = ap length (sym next ∙ h.rest) in
          let d = length-drop passed (drop from all) in
          let n = length-drop from all in
          omega arith

      after : later ≡ drop (passed + 1) (drop from all)
      after = ap (drop 1) (sym next ∙ h.rest) ∙ drop-drop 1 passed (drop from all)

      letter : get_or (letters (drop from all)) passed 0 ≡ x.letter
      letter =
          let z : passed + 0 ≡ passed = omega arith in
          let l = letters_drop passed (drop from all) in
          let g = get_or-drop passed (letters (drop from all)) 0 0 in
          let t = ap letters (sym h.rest ∙ next) ∙ letters_more x later in
          let q = ap (λ (ys : List ℕ). get_or ys 0 0) t in
          cc

      module _ {r : ℕ} (steps : Step ls matched x.letter r) where
        steps_on : Step ls matched (get_or (letters (drop from all)) passed 0) r
        steps_on = subst (λ y. Step ls matched y r) (sym letter) steps

        pub sought_more : (r ≡ length ls → ⊥) → Sought all from ls later (passed + 1) r
        sought_more ne =
            let i = sought_inside in
            let n = length-drop from all in
            let l : passed < length (letters (drop from all)) = omega (arith, letters_length (drop from all)) in
            record { rest = after; within = omega arith; seeking = seeking_more l steps_on ne h.seeking }

        -- no more match than were passed
        pub sought_read : r ≤ passed + 1
        sought_read = seeking_read steps_on h.seeking

        pub sought_full : r ≡ length ls → find_in all ls from 0 ≡ from + passed + 1 - r + 1
        sought_full e =
            let f = seeking_full all ls from passed matched r sought_inside steps_on e h.seeking in
            omega arith

-- there are few cells
pub all_few : (t : Text) (way : ℕ) → length (view way (cells_in t)) ≤ 2097152
all_few t way =
    let f = left_few t.cells.now t.tables.now t.slots way 0 0 t.kept.store.table.order in
    let a = ap length (left_all t.cells.now t.tables.now t.slots way) in
    omega arith
