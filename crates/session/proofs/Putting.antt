-- When a put is turned away, and what it leaves. Assumes nothing.
use Rattle.std.proofs.Common.{◌≡◌, ℕ, suc, ◌+◌, ◌<◌, ◌≤◌, true, false, ◌&&◌, ltb, leb, List, [], ◌∷◌, ◌++◌, length, get_or, take, drop, sym, refl, ap, ◌∙◌, subst, ap₂, arith, ltb-true, leb-true}
use Rattle.std.proofs.lemmas.List.{length-append}
use Rattle.model.specs.Paper.{Paper, Cell, Change, new_cells}
use Rattle.model.specs.Calls.{put, number, refused, call_number, good_fields, good_call, good_letters, Limits, turned_by, writes, rewritten, fits, turned, told, place}
use Rattle.changes.proofs.Steps.{length_changes}
use Rattle.codec.specs.Bytes.{answer_bytes}
use Rattle.history.specs.Entry.{was_put, entry_of}
use Rattle.session.specs.Memory.{limits_of, paper_of, Held}
use Rattle.session.specs.Acts.{Recorded, Wrote, desk_of, allows, with_cells, with_changes}
use Rattle.session.specs.Contract.{Handled}
use Rattle.session.proofs.Acting.{turned_first, turned_last, turned_not}
use Rattle.session.proofs.Ranges.{both_true}
use Rattle.session.proofs.Serving.{refused_handled, wrote_handled}
use Rattle.session.proofs.Writing.{inserted_length, noted_too}

-- a put has few letters
pub put_few : (a i s : ℕ) (ls : List ℕ) → good_fields (put a i s ls) ≡ true → length ls ≤ 1024
unfolding good_fields
put_few a i s ls good =
    let e = (both_true (ltb a 256 && ltb s 256) (good_letters ls && (leb 1 (length ls) && leb (length ls) 1024)) good).1 in
    let f = (both_true (good_letters ls) (leb 1 (length ls) && leb (length ls) 1024) e).1 in
    leb-true (length ls) 1024 (both_true (leb 1 (length ls)) (leb (length ls) 1024) f).1

pub changes_counted : (cs ps : List ℕ) → length (paper_of cs ps).changes ≡ get_or ps 3 0
changes_counted cs ps = length_changes (drop 16 ps) 0 (get_or ps 3 0)

-- the number of changes is as it was while cells are written
pub still : {cs ps cs' ps' : List ℕ} {xs : List Cell} → Wrote cs ps cs' ps' (with_cells (paper_of cs ps) xs) → (get_or ps' 3 0 ≡ get_or ps 3 0) × (get_or ps' 1 0 ≡ get_or ps 1 0)
still {cs} {ps} {cs'} {ps'} w =
    let a : length (paper_of cs' ps').changes ≡ length (paper_of cs ps).changes = ap (λ (p : Paper). length p.changes) w.paper in
    (sym (changes_counted cs' ps') ∙ (a ∙ changes_counted cs ps), ap (λ (l : Limits). l.changes) w.limits)

-- the cells of a put and then its change were written
pub put_written : {cs ps cs' ps' ds qs : List ℕ} (a i s : ℕ) (ls : List ℕ) →
    Wrote cs ps cs' ps' (with_cells (paper_of cs ps) (take i (paper_of cs ps).cells ++ (new_cells ls s (get_or ps 3 0) ++ drop i (paper_of cs ps).cells))) →
    Wrote cs' ps' ds qs (with_changes (paper_of cs' ps') ((paper_of cs' ps').changes ++ (record { author = a; became = 0 } ∷ []))) →
    Wrote cs ps ds qs (rewritten (paper_of cs ps) (put a i s ls))
unfolding rewritten
put_written {cs} {ps} {ds = ds} {qs = qs} a i s ls w note =
    let p : Paper = paper_of cs ps in
    let new : Change = record { author = a; became = 0 } in
    subst (λ (m : ℕ). Wrote cs ps ds qs (record { cells = take i p.cells ++ (new_cells ls s m ++ drop i p.cells); changes = p.changes ++ (new ∷ []) }))
    (sym (changes_counted cs ps)) (noted_too p (λ (rs : List Change). rs ++ (new ∷ [])) w note)

-- The paper has n cells.
module _ {cs ps : List ℕ} (held : Held cs ps) {n : ℕ} (counts : n ≡ length (paper_of cs ps).cells) where
  pub cells_counted : length (paper_of cs ps).cells ≡ n
  cells_counted = sym counts

  pub put_room : (ls : List ℕ) → allows ps (n + length ls) ≡ true → (length (paper_of cs ps).cells + length ls ≤ get_or ps 0 0) × (get_or ps 3 0 < get_or ps 1 0)
  put_room ls k =
      let e = both_true (leb (n + length ls) (get_or ps 0 0)) (ltb (get_or ps 3 0) (get_or ps 1 0)) k in
      let m : n + length ls ≤ get_or ps 0 0 = leb-true (n + length ls) (get_or ps 0 0) e.0 in
      let l : get_or ps 3 0 < get_or ps 1 0 = ltb-true (get_or ps 3 0) (get_or ps 1 0) e.1 in
      (omega (arith, cells_counted), l)

module _ {cs ps : List ℕ} (held : Held cs ps) {n : ℕ} (counts : n ≡ length (paper_of cs ps).cells) (us : List ℕ) (a i s : ℕ) (ls : List ℕ) (good : good_fields (put a i s ls) ≡ true) where
  good_put : good_call (limits_of ps) (put a i s ls) ≡ true
  unfolding call_number
  good_put = good

  not_there : leb i n ≡ false → turned_by (desk_of cs ps) (put a i s ls) ≡ 4
  unfolding turned_by
  not_there h = rw (cells_counted held counts) (rw h refl)

  there : leb i n ≡ true → turned_by (desk_of cs ps) (put a i s ls) ≡ 0
  unfolding turned_by
  there h = rw (cells_counted held counts) (rw h refl)

  fit : fits (limits_of ps) (rewritten (paper_of cs ps) (put a i s ls)) ≡ allows ps (n + length ls)
  unfolding rewritten
  fit =
      let x : length (rewritten (paper_of cs ps) (put a i s ls)).cells ≡ n + length ls =
      inserted_length (paper_of cs ps).cells ls i s (length (paper_of cs ps).changes) ∙ ap (λ (m : ℕ). m + length ls) (cells_counted held counts) in
      let y : length (rewritten (paper_of cs ps) (put a i s ls)).changes ≡ suc (get_or ps 3 0) =
      length-append (paper_of cs ps).changes (record { author = a; became = 0 } ∷ []) ∙ omega (arith, changes_counted cs ps) in
      ap₂ (λ (m k : ℕ). leb m (get_or ps 0 0) && leb k (get_or ps 1 0)) x y

  pub put_nowhere : leb i n ≡ false → Handled cs ps us (put a i s ls) cs ps us (answer_bytes (refused 4 1))
  unfolding place
  put_nowhere h = refused_handled cs ps us (put a i s ls) refl 3 (turned_first (limits_of ps) (desk_of cs ps) (put a i s ls) 3 good_put (not_there h))

  pub put_too_much : leb i n ≡ true → allows ps (n + length ls) ≡ false → Handled cs ps us (put a i s ls) cs ps us (answer_bytes (refused 9 0))
  unfolding place
  put_too_much h k = refused_handled cs ps us (put a i s ls) refl 8 (turned_last (limits_of ps) (desk_of cs ps) (put a i s ls) good_put (there h) (fit ∙ k))

  pub put_done : {ds qs vs : List ℕ} {at m : ℕ} → at ≡ i → m ≡ get_or ps 3 0 → leb i n ≡ true → allows ps (n + length ls) ≡ true →
      Recorded us vs (get_or ps 2 0) (was_put a i s ls) → Wrote cs ps ds qs (rewritten (paper_of cs ps) (put a at s ls)) →
      Handled cs ps us (put a i s ls) ds qs vs (answer_bytes (number m))
  unfolding told writes entry_of
  put_done {ds} {qs} {vs} {m = m} e f h k note w =
      let t : turned (limits_of ps) (desk_of cs ps) (put a i s ls) ≡ 0 = turned_not (limits_of ps) (desk_of cs ps) (put a i s ls) good_put (there h) (fit ∙ k) in
      let new : m ≡ length (paper_of cs ps).changes = f ∙ sym (changes_counted cs ps) in
      rw new (wrote_handled cs ps us (put a i s ls) refl t refl note (rw e at w))
