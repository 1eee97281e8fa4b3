-- What opening leaves in memory. Assumes nothing.
use Rattle.std.proofs.Common.{◌≡◌, ℕ, suc, ◌+◌, ◌-◌, ◌*◌, ◌≤◌, List, [], ◌∷◌, ◌++◌, length, get_or, take, drop, set, replicate, sym, refl, ap, ◌∙◌, subst, arith}
use borrow.Rule.Slice.PartMut.{put_mid}
use Rattle.std.specs.List.{range_with_len}
use Rattle.std.proofs.lemmas.List.FromFn.{length-range_with_len}
use Rattle.std.proofs.lemmas.List.{length-append, length-replicate, length-drop, take_at, drop_at, append_assoc, drop_all, drop-drop, append-nil}
use Rattle.model.specs.Paper.{Paper}
use Rattle.model.specs.Calls.{new_desk}
use Rattle.changes.specs.Row.{changes_from}
use Rattle.history.specs.Steps.{StandsFor}
use Rattle.history.specs.Log.{Log}
use Rattle.history.proofs.Stepping.{opens}
use Rattle.kept.specs.Kept.{Kept, cleared_tables}
use Rattle.pieces.specs.Store.{cells_of}
use Rattle.session.specs.Memory.{slots_for, cells_words, pieces_words, limits_of, tables, paper_of, Stands, opened_pieces}

length_cleared : (p : List ℕ) (s : ℕ) → s ≤ 2048 → 34816 ≤ length p → length (cleared_tables p s) ≡ length p
length_cleared p s m w = simp (length-append, length-range_with_len, length-replicate, length-drop) (omega arith)

-- the limits and no change
abbrev pub head : ℕ → ℕ → ℕ → List ℕ
head n c u = n ∷ (c ∷ (u ∷ replicate (13 + 2 * c) 0))

length_head : (n c u : ℕ) → length (head n c u) ≡ 16 + 2 * c
length_head n c u = let e = length-replicate {A = ℕ} (13 + 2 * c) 0 in omega arith

pub begun : (n c u : ℕ) (p q : List ℕ) → q ≡ replicate (16 + 2 * c) 0 ++ drop (16 + 2 * c) p →
    set (set (set q 0 n) 1 c) 2 u ≡ head n c u ++ drop (16 + 2 * c) p
begun n c u p q e =
    let k : 16 + 2 * c ≡ suc (suc (suc (13 + 2 * c))) = omega arith in
    let f : replicate {A = ℕ} (16 + 2 * c) 0 ≡ 0 ∷ (0 ∷ (0 ∷ replicate (13 + 2 * c) 0)) = ap (λ (m : ℕ). replicate m 0) k in
    let g : q ≡ (0 ∷ (0 ∷ (0 ∷ replicate (13 + 2 * c) 0))) ++ drop (16 + 2 * c) p = e ∙ ap (λ (xs : List ℕ). xs ++ drop (16 + 2 * c) p) f in
    ap (λ (xs : List ℕ). set (set (set xs 0 n) 1 c) 2 u) g

module _ (n c u : ℕ) (ps begun-words after-tables : List ℕ)
    (begins : begun-words ≡ head n c u ++ drop (16 + 2 * c) ps)
    (clears : after-tables ≡ cleared_tables (drop (16 + 2 * c) begun-words) (slots_for n)) where
  abbrev words : List ℕ
  words = put_mid (16 + 2 * c) (length begun-words - (16 + 2 * c)) begun-words after-tables

  pub words_are : words ≡ head n c u ++ after-tables
  words_are =
      let h = length_head n c u in
      let t : take (16 + 2 * c) begun-words ≡ head n c u = ap (take (16 + 2 * c)) begins ∙ take_at (head n c u) (drop (16 + 2 * c) ps) (16 + 2 * c) h in
      let d : drop (16 + 2 * c) begun-words ≡ drop (16 + 2 * c) ps = ap (drop (16 + 2 * c)) begins ∙ drop_at (head n c u) (drop (16 + 2 * c) ps) (16 + 2 * c) h in
      let l : length (drop (16 + 2 * c) begun-words) ≡ length begun-words - (16 + 2 * c) = length-drop (16 + 2 * c) begun-words in
      let none : drop (length begun-words - (16 + 2 * c)) (drop (16 + 2 * c) begun-words) ≡ [] =
      drop_all (length begun-words - (16 + 2 * c)) (drop (16 + 2 * c) begun-words) (omega arith) in
      let e : after-tables ++ drop (length begun-words - (16 + 2 * c)) (drop (16 + 2 * c) begun-words) ≡ after-tables =
      ap (λ (xs : List ℕ). after-tables ++ xs) none ∙ append-nil after-tables in
      cc

  pub pieces_are : words ≡ opened_pieces n c u ++ drop (pieces_words c) ps
  pieces_are =
      let s : ℕ = slots_for n in
      let h = length_head n c u in
      let d : drop (16 + 2 * c) begun-words ≡ drop (16 + 2 * c) ps = ap (drop (16 + 2 * c)) begins ∙ drop_at (head n c u) (drop (16 + 2 * c) ps) (16 + 2 * c) h in
      let k : 16 + 2 * c + 34816 ≡ 34832 + 2 * c = omega arith in
      let dd : drop 34816 (drop (16 + 2 * c) ps) ≡ drop (34832 + 2 * c) ps = drop-drop 34816 (16 + 2 * c) ps ∙ ap (λ (m : ℕ). drop m ps) k in
      let f : drop 34816 (drop (16 + 2 * c) begun-words) ≡ drop (34832 + 2 * c) ps = ap (drop 34816) d ∙ dd in
      let t : after-tables ≡ range_with_len 0 s ++ (replicate (34816 - s) 0 ++ drop (34832 + 2 * c) ps) =
      clears ∙ ap (λ (xs : List ℕ). range_with_len 0 s ++ (replicate (34816 - s) 0 ++ xs)) f in
      let a = append_assoc (range_with_len 0 s) (replicate (34816 - s) 0) (drop (34832 + 2 * c) ps) in
      let b = append_assoc (head n c u) (range_with_len 0 s ++ replicate (34816 - s) 0) (drop (34832 + 2 * c) ps) in
      words_are ∙ (ap (λ (xs : List ℕ). head n c u ++ xs) (t ∙ sym a) ∙ sym b)

  cleared_length : n ≤ 1000000 → pieces_words c ≤ length ps → length after-tables ≡ length ps - (16 + 2 * c)
  cleared_length small_n long-ps =
      let h = length_head n c u in
      let d : drop (16 + 2 * c) begun-words ≡ drop (16 + 2 * c) ps = ap (drop (16 + 2 * c)) begins ∙ drop_at (head n c u) (drop (16 + 2 * c) ps) (16 + 2 * c) h in
      let l : length (drop (16 + 2 * c) begun-words) ≡ length ps - (16 + 2 * c) = ap length d ∙ length-drop (16 + 2 * c) ps in
      ap length clears ∙ (length_cleared (drop (16 + 2 * c) begun-words) (slots_for n) (omega arith) (omega arith) ∙ l)

  pub stands : (cs us : List ℕ) → n ≤ 1000000 → c ≤ 65536 → u ≤ 1000000 → cells_words n ≤ length cs → pieces_words c ≤ length ps →
      Kept cs after-tables (slots_for n) → cells_of cs after-tables (slots_for n) ≡ [] → Log us u [] [] → Stands cs words us new_desk
  unfolding changes_from
  stands cs us small_n small-c small-u long-cs long-ps store empty log =
      let h = length_head n c u in
      let is : words ≡ head n c u ++ after-tables = words_are in
      let g0 : get_or words 0 0 ≡ n = ap (λ (xs : List ℕ). get_or xs 0 0) is in
      let g1 : get_or words 1 0 ≡ c = ap (λ (xs : List ℕ). get_or xs 1 0) is in
      let g2 : get_or words 2 0 ≡ u = ap (λ (xs : List ℕ). get_or xs 2 0) is in
      let k : 13 + 2 * c ≡ suc (12 + 2 * c) = omega arith in
      let g3 : get_or words 3 0 ≡ 0 = ap (λ (xs : List ℕ). get_or xs 3 0) is ∙ ap (λ (m : ℕ). get_or (replicate m 0 ++ after-tables) 0 0) k in
      let t : tables words ≡ after-tables =
      ap (λ (m : ℕ). drop (16 + 2 * m) words) g1 ∙ (ap (drop (16 + 2 * c)) is ∙ drop_at (head n c u) after-tables (16 + 2 * c) h) in
      let s : slots_for (get_or words 0 0) ≡ slots_for n = ap slots_for g0 in
      let w : length words ≡ length (head n c u) + length after-tables = ap length is ∙ length-append (head n c u) after-tables in
      let st : Kept cs (tables words) (slots_for (get_or words 0 0)) = rw (t, s) store in
      let none : cells_of cs (tables words) (slots_for (get_or words 0 0)) ≡ [] = rw (t, s) empty in
      let long : length after-tables ≡ length ps - (16 + 2 * c) = cleared_length small_n long-ps in
      let paper : paper_of cs words ≡ record { cells = []; changes = [] } = rw (none, g3) refl in
      let desk : StandsFor (limits_of words) (paper_of cs words) [] [] new_desk = subst (λ (p : Paper). StandsFor (limits_of words) p [] [] new_desk) (sym paper) (opens (limits_of words)) in
      record {
        sound = record {
          held = record {
            few_cells = omega arith;
            few_changes = omega arith;
            few_undos = omega arith;
            cells_long = rw s (omega arith);
            pieces_long = omega arith;
            kept = st;
            cells_fit = rw none (omega arith);
            changes_fit = omega arith;
          };
          undo_long = omega (arith, g2, log.long);
          back = [];
          ahead = [];
          log = subst (λ (m : ℕ). Log us m [] []) (sym g2) log;
          sane = desk.sane;
        };
        desk = desk;
      }
