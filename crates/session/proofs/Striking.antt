-- When a strike or a style is turned away, and what it leaves. Assumes nothing.
use Rattle.std.proofs.Common.{◌≡◌, ℕ, suc, ◌+◌, ◌≤◌, Bool, true, false, ◌&&◌, leb, List, [], ◌∷◌, ◌++◌, length, get_or, take, drop, sym, refl, ap, ◌∙◌, subst, ap₂, arith, le-leb, leb-true}
use Rattle.std.proofs.lemmas.List.{length-append, length-drop, length-take-le}
use Rattle.model.specs.Paper.{pick, Paper, Cell, Change}
use Rattle.model.specs.Calls.{strikes, styles, number, refused, call_number, good_fields, good_call, turned_by, writes, rewritten, fits, turned, told, place}
use Rattle.sweep.specs.declared.Action.{Action}
use Rattle.sweep.specs.declared.Action.TheVariants.{Strike, Style}
use Rattle.sweep.specs.Sweep.{goes, changed, fate, swept, swept_run}
use Rattle.sweep.proofs.Laws.{one_meaning}
use Rattle.changes.proofs.Steps.{length_changes}
use Rattle.codec.specs.Bytes.{answer_bytes}
use Rattle.history.specs.Entry.{entry_of}
use Rattle.session.specs.Memory.{limits_of, paper_of, Held}
use Rattle.session.specs.Acts.{Recorded, Wrote, desk_of, allows, with_cells, with_changes}
use Rattle.session.specs.Contract.{Handled}
use Rattle.session.proofs.Acting.{turned_first, turned_last, turned_not}
use Rattle.session.proofs.Serving.{refused_handled, wrote_handled}
use Rattle.session.proofs.Writing.{noted_too}

-- a sweep makes no text longer
pub length_swept : (a : Action) (cs : List Change) (xs : List Cell) → length (swept a cs xs) ≤ length xs
unfolding swept
length_swept a cs [] = omega arith
length_swept a cs (x ∷ xs) =
    let e = length-append (fate a cs x) (swept a cs xs) in
    let f : length (fate a cs x) ≤ 1 = one (goes a cs x) (changed a x) in
    let h = length_swept a cs xs in
    omega arith
  where
    one : (b : Bool) (y : Cell) → length (pick b [] (y ∷ [])) ≤ 1
    one true y = omega arith
    one false y = omega arith

pub length_swept_run : (a : Action) (cs : List Change) (xs : List Cell) (i n : ℕ) → i + n ≤ length xs → length (swept_run a cs xs i n) ≤ length xs
length_swept_run a cs xs i n h =
    let ys : List Cell = swept a cs (take n (drop i xs)) in
    let e = length-append (take i xs) (ys ++ drop (i + n) xs) in
    let f = length-append ys (drop (i + n) xs) in
    let g = length_swept a cs (take n (drop i xs)) in
    let d = length-drop i xs in
    let k : length (take n (drop i xs)) ≡ n = length-take-le n (drop i xs) (omega arith) in
    let l : length (take i xs) ≡ i = length-take-le i xs (omega arith) in
    let m = length-drop (i + n) xs in
    omega arith

module _ (cs ps : List ℕ) (held : Held cs ps) where
  changes_there : length (paper_of cs ps).changes ≡ get_or ps 3 0
  changes_there = length_changes (drop 16 ps) 0 (get_or ps 3 0)

  pub few_enough : (xs : List Cell) → length xs ≤ length (paper_of cs ps).cells → leb (length xs) (get_or ps 0 0) ≡ true
  few_enough xs h = le-leb (length xs) (get_or ps 0 0) (omega (arith, held.cells_fit))

  struck_is : (a i n : ℕ) → (rewritten (paper_of cs ps) (strikes a i n)).cells ≡ swept_run (Strike a (suc (get_or ps 3 0))) (paper_of cs ps).changes (paper_of cs ps).cells i n
  unfolding rewritten
  struck_is a i n =
      (one_meaning (paper_of cs ps).changes (paper_of cs ps).cells).2 i n a (length (paper_of cs ps).changes)
      ∙ ap (λ (m : ℕ). swept_run (Strike a (suc m)) (paper_of cs ps).changes (paper_of cs ps).cells i n) changes_there

  styled_is : (i n s : ℕ) → (rewritten (paper_of cs ps) (styles i n s)).cells ≡ swept_run (Style s) (paper_of cs ps).changes (paper_of cs ps).cells i n
  unfolding rewritten
  styled_is i n s = (one_meaning (paper_of cs ps).changes (paper_of cs ps).cells).3 i n s

  -- the cells of a strike and then its change were written; the cells of a style
  pub strike_written : (a i n : ℕ) {cs' ps' ds qs : List ℕ} {mark : ℕ} → mark ≡ suc (get_or ps 3 0) →
      Wrote cs ps cs' ps' (with_cells (paper_of cs ps) (swept_run (Strike a mark) (paper_of cs ps).changes (paper_of cs ps).cells i n)) →
      Wrote cs' ps' ds qs (with_changes (paper_of cs' ps') ((paper_of cs' ps').changes ++ (record { author = a; became = 0 } ∷ []))) →
      Wrote cs ps ds qs (rewritten (paper_of cs ps) (strikes a i n))
  unfolding rewritten
  strike_written a i n {ds = ds} {qs = qs} e w note =
      let p : Paper = paper_of cs ps in
      let new : Change = record { author = a; became = 0 } in
      subst (λ (ys : List Cell). Wrote cs ps ds qs (record { cells = ys; changes = p.changes ++ (new ∷ []) })) (sym (struck_is a i n))
      (noted_too p (λ (rs : List Change). rs ++ (new ∷ [])) (rw e at w) note)

  pub style_written : (i n s : ℕ) {cs' ps' : List ℕ} →
      Wrote cs ps cs' ps' (with_cells (paper_of cs ps) (swept_run (Style s) (paper_of cs ps).changes (paper_of cs ps).cells i n)) →
      Wrote cs ps cs' ps' (rewritten (paper_of cs ps) (styles i n s))
  unfolding rewritten
  style_written i n s {cs'} {ps'} w = subst (λ (ys : List Cell). Wrote cs ps cs' ps' (with_cells (paper_of cs ps) ys)) (sym (styled_is i n s)) w

  module _ (us : List ℕ) (a i n : ℕ) (good : good_fields (strikes a i n) ≡ true) where
    good_strike : good_call (limits_of ps) (strikes a i n) ≡ true
    unfolding call_number
    good_strike = good

    struck_there : (b : Bool) → leb (i + n) (length (paper_of cs ps).cells) ≡ b → turned_by (desk_of cs ps) (strikes a i n) ≡ pick b 0 4
    unfolding turned_by
    struck_there b h = rw h refl

    struck_fit : leb (i + n) (length (paper_of cs ps).cells) ≡ true → fits (limits_of ps) (rewritten (paper_of cs ps) (strikes a i n)) ≡ allows ps (length (paper_of cs ps).cells)
    unfolding rewritten
    struck_fit h =
        let inside : i + n ≤ length (paper_of cs ps).cells = omega (arith, leb-true (i + n) (length (paper_of cs ps).cells) h) in
        let ys : List Cell = (rewritten (paper_of cs ps) (strikes a i n)).cells in
        let short : length ys ≤ length (paper_of cs ps).cells =
        subst (λ (zs : List Cell). length zs ≤ length (paper_of cs ps).cells) (sym (struck_is a i n))
        (length_swept_run (Strike a (suc (get_or ps 3 0))) (paper_of cs ps).changes (paper_of cs ps).cells i n inside) in
        let x : leb (length ys) (get_or ps 0 0) ≡ leb (length (paper_of cs ps).cells) (get_or ps 0 0) =
        few_enough ys short ∙ sym (le-leb (length (paper_of cs ps).cells) (get_or ps 0 0) (omega (arith, held.cells_fit))) in
        let y : length (rewritten (paper_of cs ps) (strikes a i n)).changes ≡ suc (get_or ps 3 0) =
        length-append (paper_of cs ps).changes (record { author = a; became = 0 } ∷ []) ∙ omega (arith, changes_there) in
        ap₂ ◌&&◌ x (ap (λ (m : ℕ). leb m (get_or ps 1 0)) y)

    pub strike_nowhere : leb (i + n) (length (paper_of cs ps).cells) ≡ false → Handled cs ps us (strikes a i n) cs ps us (answer_bytes (refused 4 1))
    unfolding place
    strike_nowhere h = refused_handled cs ps us (strikes a i n) refl 3 (turned_first (limits_of ps) (desk_of cs ps) (strikes a i n) 3 good_strike (struck_there false h))

    pub strike_too_much : leb (i + n) (length (paper_of cs ps).cells) ≡ true → allows ps (length (paper_of cs ps).cells) ≡ false →
        Handled cs ps us (strikes a i n) cs ps us (answer_bytes (refused 9 0))
    unfolding place
    strike_too_much h k =
        refused_handled cs ps us (strikes a i n) refl 8 (turned_last (limits_of ps) (desk_of cs ps) (strikes a i n) good_strike (struck_there true h) (struck_fit h ∙ k))

    pub strike_done : {ds qs vs : List ℕ} {at m : ℕ} → at ≡ i → m ≡ get_or ps 3 0 → leb (i + n) (length (paper_of cs ps).cells) ≡ true → allows ps (length (paper_of cs ps).cells) ≡ true →
        Recorded us vs (get_or ps 2 0) (entry_of (paper_of cs ps) (strikes a i n)) → Wrote cs ps ds qs (rewritten (paper_of cs ps) (strikes a at n)) →
        Handled cs ps us (strikes a i n) ds qs vs (answer_bytes (number m))
    unfolding told writes
    strike_done {ds} {qs} {vs} {m = m} e f h k note w =
        let t : turned (limits_of ps) (desk_of cs ps) (strikes a i n) ≡ 0 =
        turned_not (limits_of ps) (desk_of cs ps) (strikes a i n) good_strike (struck_there true h) (struck_fit h ∙ k) in
        let new : m ≡ length (paper_of cs ps).changes = f ∙ sym changes_there in
        rw new (wrote_handled cs ps us (strikes a i n) refl t refl note (rw e at w))

  module _ (us : List ℕ) (i n s : ℕ) (good : good_fields (styles i n s) ≡ true) where
    good_style : good_call (limits_of ps) (styles i n s) ≡ true
    unfolding call_number
    good_style = good

    styled_there : (b : Bool) → leb (i + n) (length (paper_of cs ps).cells) ≡ b → turned_by (desk_of cs ps) (styles i n s) ≡ pick b 0 4
    unfolding turned_by
    styled_there b h = rw h refl

    styled_fit : leb (i + n) (length (paper_of cs ps).cells) ≡ true → fits (limits_of ps) (rewritten (paper_of cs ps) (styles i n s)) ≡ true
    unfolding rewritten
    styled_fit h =
        let inside : i + n ≤ length (paper_of cs ps).cells = omega (arith, leb-true (i + n) (length (paper_of cs ps).cells) h) in
        let ys : List Cell = (rewritten (paper_of cs ps) (styles i n s)).cells in
        let short : length ys ≤ length (paper_of cs ps).cells =
        subst (λ (zs : List Cell). length zs ≤ length (paper_of cs ps).cells) (sym (styled_is i n s))
        (length_swept_run (Style s) (paper_of cs ps).changes (paper_of cs ps).cells i n inside) in
        let y : leb (length (paper_of cs ps).changes) (get_or ps 1 0) ≡ true = le-leb (length (paper_of cs ps).changes) (get_or ps 1 0) (omega (arith, held.changes_fit, changes_there)) in
        ap₂ ◌&&◌ (few_enough ys short) y

    pub style_nowhere : leb (i + n) (length (paper_of cs ps).cells) ≡ false → Handled cs ps us (styles i n s) cs ps us (answer_bytes (refused 4 0))
    unfolding place
    style_nowhere h = refused_handled cs ps us (styles i n s) refl 3 (turned_first (limits_of ps) (desk_of cs ps) (styles i n s) 3 good_style (styled_there false h))

    pub style_done : {ds qs vs : List ℕ} {at : ℕ} → at ≡ i → leb (i + n) (length (paper_of cs ps).cells) ≡ true →
        Recorded us vs (get_or ps 2 0) (entry_of (paper_of cs ps) (styles i n s)) → Wrote cs ps ds qs (rewritten (paper_of cs ps) (styles at n s)) →
        Handled cs ps us (styles i n s) ds qs vs (answer_bytes (number n))
    unfolding told writes
    style_done {ds} {qs} {vs} e h note w =
        let t : turned (limits_of ps) (desk_of cs ps) (styles i n s) ≡ 0 =
        turned_not (limits_of ps) (desk_of cs ps) (styles i n s) good_style (styled_there true h) (styled_fit h) in
        wrote_handled cs ps us (styles i n s) refl t refl note (rw e at w)
