-- Calls that only look: count, show, find and save. Assumes nothing.
use Rattle.std.proofs.Common.{◌≡◌, ℕ, suc, ◌+◌, ◌<◌, ◌≤◌, Bool, true, false, ◌&&◌, ltb, leb, List, [], ◌∷◌, length, get_or, take, drop, Some, None, Option, Result, refl, arith, ltb-true, le-leb, leb-true}
use borrow.Author.Tests.{lt-leb}
use Rattle.model.specs.Paper.{pick, Cell, seen, view, written}
use Rattle.model.specs.Rows.{rows, begins, find_in}
use Rattle.model.specs.Calls.{count, show, find, save, number, lines, numbers, refused, call_number, good_letters, good_fields, turned, turned_by, writes, rewritten, moved, fits, told, place}
use Rattle.changes.proofs.Steps.{length_changes}
use Rattle.session.specs.Memory.{limits_of, paper_of, Held}
use Rattle.session.specs.Acts.{desk_of, Acted, Wrote}
use Rattle.session.proofs.Acting.{turned_first, turned_not, refuses, looked}
use Rattle.session.specs.Contract.{Handled}
use Rattle.session.specs.Desks.{Ended, Said}
use Rattle.session.specs.declared.refusal.Refusal.{Refusal}
use Rattle.session.specs.declared.refusal.Refusal.TheVariants.{NoSuchNumbers}
use Rattle.std.specs.Prelude.{ok_or}
use Rattle.layout.specs.Shown.{Shows, ShowsNone}
use Rattle.saving.specs.Saved.{Saved}
use Rattle.codec.specs.Bytes.{answer_bytes}
use Rattle.session.proofs.Ranges.{both_true}
use Rattle.session.proofs.Serving.{kept_handled, looked_handled}
use Rattle.session.proofs.Saying.{said}

pub length_view : (k : ℕ) (xs : List Cell) → length (view k xs) ≤ length xs
unfolding view
length_view k [] = omega arith
length_view k (x ∷ xs) = kept (seen k x) x (view k xs) (length xs) (length_view k xs)
  where
    kept : (b : Bool) (x : Cell) (ys : List Cell) (n : ℕ) → length ys ≤ n → length (pick b (x ∷ ys) ys) ≤ suc n
    kept true x ys n h = omega arith
    kept false x ys n h = omega arith

-- a paper in memory is within its limits
pub fits_now : (cs ps : List ℕ) → Held cs ps → fits (limits_of ps) (paper_of cs ps) ≡ true
fits_now cs ps held =
    let n : length (paper_of cs ps).changes ≡ get_or ps 3 0 = length_changes (drop 16 ps) 0 (get_or ps 3 0) in
    let few : length (paper_of cs ps).changes ≤ get_or ps 1 0 = omega (arith, held.changes_fit) in
    let a = le-leb (length (paper_of cs ps).cells) (get_or ps 0 0) held.cells_fit in
    let b = le-leb (length (paper_of cs ps).changes) (get_or ps 1 0) few in
    simp (a, b)

pub counted : (cs ps : List ℕ) (k : ℕ) → Held cs ps → good_fields (count k) ≡ true → Acted cs ps (count k) cs ps (number (length (view k (paper_of cs ps).cells)))
unfolding call_number turned_by writes rewritten moved told
counted cs ps k held good = looked cs ps (count k) held (turned_not (limits_of ps) (desk_of cs ps) (count k) good refl (fits_now cs ps held)) refl refl

module _ (cs ps : List ℕ) (k w r n : ℕ) (held : Held cs ps) (good : good_fields (show k w r n) ≡ true) where
  abbrev all : List (List Cell)
  all = rows w (view k (paper_of cs ps).cells)

  goes : r + n ≤ length all → turned (limits_of ps) (desk_of cs ps) (show k w r n) ≡ 0
  unfolding call_number turned_by writes rewritten
  goes h =
      let there : turned_by (desk_of cs ps) (show k w r n) ≡ 0 = rw (le-leb (r + n) (length all) h) refl in
      turned_not (limits_of ps) (desk_of cs ps) (show k w r n) good there (fits_now cs ps held)

  shown : r + n ≤ length all → Acted cs ps (show k w r n) cs ps (lines (take n (drop r all)))
  unfolding call_number turned_by writes rewritten moved told
  shown h = looked cs ps (show k w r n) held (goes h) refl refl

  not_shown : length all < r + n → Acted cs ps (show k w r n) cs ps (refused 8 2)
  unfolding call_number turned_by place
  not_shown h =
      let gone : turned_by (desk_of cs ps) (show k w r n) ≡ 8 = rw (lt-leb (r + n) (length all) h) refl in
      refuses cs ps (show k w r n) 7 held (turned_first (limits_of ps) (desk_of cs ps) (show k w r n) 7 good gone)

  pub show_range : (k < 3) × (1 ≤ w) × (w ≤ 256) × (n ≤ 64)
  unfolding good_fields
  show_range =
      let a = both_true (ltb k 3) ((leb 1 w && leb w 256) && (leb 1 n && leb n 64)) good in
      let b = both_true (leb 1 w && leb w 256) (leb 1 n && leb n 64) a.1 in
      let c = both_true (leb 1 w) (leb w 256) b.0 in
      let d = both_true (leb 1 n) (leb n 64) b.1 in
      (ltb-true k 3 a.0, leb-true 1 w c.0, leb-true w 256 c.1, leb-true n 64 d.1)

  -- rows that were shown, and it was kept how they were found
  pub show_done : (us out out' : List ℕ) {cs' ps' : List ℕ} (long : ℕ) → Shows all r n out out' long → Wrote cs ps cs' ps' (paper_of cs ps) → length out' ≡ length out →
      Said cs ps us (show k w r n) cs' ps' us out out' long
  unfolding call_number
  show_done us out out' {cs'} {ps'} long s wrote fit =
      let a : Handled cs ps us (show k w r n) cs' ps' us (answer_bytes (lines (take n (drop r all)))) =
      kept_handled cs ps us (show k w r n) refl (lines (take n (drop r all))) (omega arith) (goes s.there) (shown s.there) wrote in
      said (answer_bytes (lines (take n (drop r all)))) a s.bytes s.long fit

  -- rows that are not all there
  pub show_refused : (us out out' : List ℕ) → ShowsNone all r n out out' → Handled cs ps us (show k w r n) cs ps us (answer_bytes (refused 8 2)) × (out' ≡ out)
  unfolding call_number
  show_refused us out out' s = (looked_handled cs ps us (show k w r n) refl (refused 8 2) (omega arith) (not_shown s.short), s.same)

-- letters that are found, or not
module _ (cs ps : List ℕ) (k i : ℕ) (ls : List ℕ) (held : Held cs ps) (good : good_fields (find k i ls) ≡ true) where
  pub found : Acted cs ps (find k i ls) cs ps (number (find_in (view k (paper_of cs ps).cells) ls i 0))
  unfolding call_number turned_by writes rewritten moved told
  found = looked cs ps (find k i ls) held (turned_not (limits_of ps) (desk_of cs ps) (find k i ls) good refl (fits_now cs ps held)) refl refl

  pub find_range : (k < 3) × (1 ≤ length ls) × (length ls ≤ 256)
  unfolding good_fields
  find_range =
      let a = both_true (ltb k 3) (good_letters ls && (leb 1 (length ls) && leb (length ls) 256)) good in
      let b = both_true (good_letters ls) (leb 1 (length ls) && leb (length ls) 256) a.1 in
      let c = both_true (leb 1 (length ls)) (leb (length ls) 256) b.1 in
      (ltb-true k 3 a.0, leb-true 1 (length ls) c.0, leb-true (length ls) 256 c.1)

-- numbers of the file
module _ (cs ps : List ℕ) (i n : ℕ) (held : Held cs ps) (good : good_fields (save i n) ≡ true) where
  abbrev file : List ℕ
  file = written (paper_of cs ps)

  pub saved : i + n ≤ length file → Acted cs ps (save i n) cs ps (numbers (take n (drop i file)))
  unfolding call_number turned_by writes rewritten moved told
  saved h =
      let there : turned_by (desk_of cs ps) (save i n) ≡ 0 = rw (le-leb (i + n) (length file) h) refl in
      looked cs ps (save i n) held (turned_not (limits_of ps) (desk_of cs ps) (save i n) good there (fits_now cs ps held)) refl refl

  pub not_saved : length file < i + n → Acted cs ps (save i n) cs ps (refused 8 0)
  unfolding call_number turned_by place
  not_saved h =
      let gone : turned_by (desk_of cs ps) (save i n) ≡ 8 = rw (lt-leb (i + n) (length file) h) refl in
      refuses cs ps (save i n) 7 held (turned_first (limits_of ps) (desk_of cs ps) (save i n) 7 good gone)

  pub save_few : n ≤ 1024
  unfolding good_fields
  save_few = leb-true n 1024 (both_true (leb 1 n) (leb n 1024) good).1

  -- what the numbers that were saved, or were not there, are
  pub save_ended : (us out out' : List ℕ) {e : Result ℕ Refusal} (s : Option ℕ) → e ≡ ok_or s NoSuchNumbers → length out' ≡ length out → Saved file i n out out' s →
      Ended cs ps us (save i n) cs ps us out out' e
  unfolding call_number
  save_ended us out out' (Some long) is fit s =
      let a : Handled cs ps us (save i n) cs ps us (answer_bytes (numbers (take n (drop i file)))) =
      looked_handled cs ps us (save i n) refl (numbers (take n (drop i file))) (omega arith) (saved s.there) in
      rw is (said (answer_bytes (numbers (take n (drop i file)))) a s.bytes s.long fit)
  save_ended us out out' None is fit s = rw is (looked_handled cs ps us (save i n) refl (refused 8 0) (omega arith) (not_saved s.short), s.same)

-- a place at which letters stand is one of the places, or the end
find_low : (xs : List Cell) (ls : List ℕ) (f i : ℕ) → find_in xs ls f i ≤ suc (i + length xs)
unfolding find_in
find_low [] ls f i = low (leb f i && begins [] ls)
  where
    low : (b : Bool) → pick b (suc i) 0 ≤ suc (i + 0)
    low true = omega arith
    low false = omega arith
find_low (x ∷ xs) ls f i = low (leb f i && begins (x ∷ xs) ls) (find_in xs ls f (suc i)) (find_low xs ls f (suc i))
  where
    low : (b : Bool) (n : ℕ) → n ≤ suc (suc i + length xs) → pick b (suc i) n ≤ suc (i + suc (length xs))
    low true n h = omega arith
    low false n h = omega arith

pub found_low : (cs ps : List ℕ) (k f : ℕ) (ls : List ℕ) → Held cs ps → find_in (view k (paper_of cs ps).cells) ls f 0 ≤ 1000001
found_low cs ps k f ls held =
    let a = find_low (view k (paper_of cs ps).cells) ls f 0 in
    let b = length_view k (paper_of cs ps).cells in
    omega (arith, held.cells_fit, held.few_cells)
