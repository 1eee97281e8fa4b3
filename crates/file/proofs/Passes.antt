-- The numbers of a file fit, each in its place, if and only if the paper fits.
use Rattle.std.proofs.Common.{◌≡◌, ℕ, zero, suc, ◌+◌, ◌-◌, ◌*◌, ◌/◌, ◌%◌, ◌<◌, ◌≤◌, true, List, length, get_or, sym, refl, ap, ◌∙◌, inl, inr, zero-add, arith}
use Rattle.std.proofs.lemmas.List.{get_or_past}
use Rattle.std.proofs.lemmas.Bool.{eqb-true, eq-eqb, cases_lt}
use Rattle.model.specs.Paper.{Change}
use Rattle.model.specs.Valid.{open_mark}
use Rattle.file.specs.Paper.{ChangeFits, CellFits, Fits, no_change, no_cell, change_at, changes_from, cell_at, paper_of}
use Rattle.file.specs.Places.{last, MarkFits, NumberFits}
use Rattle.file.proofs.Rows.{length_changes, length_cells, change_in, cell_in}

module _ (ns : List ℕ) (n m : ℕ) (long : length ns ≡ 1 + 2 * n + 4 * m) (first : get_or ns 0 0 ≡ n) where
  mark_open : (k : ℕ) → MarkFits ns k → open_mark (changes_from ns 0 n) k ≡ true
  unfolding open_mark
  mark_open zero f = refl
  mark_open (suc k) f =
      let g : (2 * suc k ≤ last ns) × (get_or ns (2 * suc k) 0 ≡ 0) = f (omega arith) in
      let z : Change = record { author = 0; became = 3 } in
      let e : get_or (changes_from ns 0 n) k z ≡ change_at ns k = rw zero-add at (change_in ns 0 n k z (omega arith)) in
      let d : 2 + 2 * k ≡ 2 * suc k = omega arith in
      eq-eqb _ 0 (ap (λ (c : Change). c.became) e ∙ (ap (λ (i : ℕ). get_or ns i 0) d ∙ g.1))

  open_mark_fits : (k : ℕ) → open_mark (changes_from ns 0 n) k ≡ true → MarkFits ns k
  unfolding open_mark
  open_mark_fits zero o h = absurd (omega arith)
  open_mark_fits (suc k) o h =
      let z : Change = record { author = 0; became = 3 } in
      let b : (get_or (changes_from ns 0 n) k z).became ≡ 0 = eqb-true _ _ o in
      elim (cases_lt k n) [
        | inl l ↦
            let e : get_or (changes_from ns 0 n) k z ≡ change_at ns k = rw zero-add at (change_in ns 0 n k z l) in
            let d : 2 * suc k ≡ 2 + 2 * k = omega arith in
            let a : 2 * suc k ≤ last ns = omega arith in
            (a, ap (λ (i : ℕ). get_or ns i 0) d ∙ (ap (λ (c : Change). c.became) (sym e) ∙ b))
        | inr l ↦
            let p : (get_or (changes_from ns 0 n) k z).became ≡ 3 = ap (λ (c : Change). c.became) (get_or_past (changes_from ns 0 n) k z (omega (arith, length_changes ns 0 n))) in
            absurd (omega arith)
      ]

  pub fitting : ((i : ℕ) → i < length ns → NumberFits ns i) → Fits (paper_of ns n m)
  fitting f =
      let lc = length_changes ns 0 n in
      let lx = length_cells ns (1 + 2 * n) m in
      record {
        few_changes = omega (arith, (f 0 (omega arith)).count refl);
        few_cells =
            elim (cases_lt 2048 m) [
              | inl l ↦ absurd (omega (arith, (f (1 + 2 * n + 4 * 2048) (omega arith)).few (omega arith)))
              | inr l ↦ omega arith
            ];
        changes = λ k h.
            let e : get_or (changes_from ns 0 n) k no_change ≡ change_at ns k = rw zero-add at (change_in ns 0 n k no_change (omega arith)) in
            rw e (record { author = (f (1 + 2 * k) (omega arith)).author (omega arith) (omega arith) (omega arith); became = (f (2 + 2 * k) (omega arith)).became (omega arith) (omega arith) (omega arith) });
        cells = λ k h.
            let i : ℕ = 1 + 2 * n + 4 * k in
            rw (cell_in ns (1 + 2 * n) m k no_cell (omega arith))
            (record {
              letter = (f i (omega arith)).letter (omega arith) (omega arith);
              style = (f (i + 1) (omega arith)).style (omega arith) (omega arith);
              put_in = mark_open _ ((f (i + 2) (omega arith)).mark (omega arith) (omega arith));
              struck = mark_open _ ((f (i + 3) (omega arith)).mark (omega arith) (omega arith));
            });
      }

  -- change number k and cell number k fit, as the numbers tell them
  change_fits : Fits (paper_of ns n m) → (k : ℕ) → k < n → ChangeFits (change_at ns k)
  change_fits g k h =
      let e : get_or (changes_from ns 0 n) k no_change ≡ change_at ns k = rw zero-add at (change_in ns 0 n k no_change h) in
      rw e at (g.changes k (omega (arith, length_changes ns 0 n)))

  cell_fits : Fits (paper_of ns n m) → (k : ℕ) → k < m → CellFits (changes_from ns 0 n) (cell_at ns (1 + 2 * n + 4 * k))
  cell_fits g k h = rw (cell_in ns (1 + 2 * n) m k no_cell h) at (g.cells k (omega (arith, length_cells ns (1 + 2 * n) m)))

  pub passes : Fits (paper_of ns n m) → (i : ℕ) → i < length ns → NumberFits ns i
  passes g i h =
      let lc = length_changes ns 0 n in
      let lx = length_cells ns (1 + 2 * n) m in
      let k : ℕ = (i - 1 - last ns) / 4 in
      record {
        count = λ e. rw e (omega (arith, g.few_changes));
        author = λ p q r.
            let e : i ≡ 1 + 2 * (i / 2) = omega arith in
            let c : get_or ns (1 + 2 * (i / 2)) 0 < 256 = (change_fits g (i / 2) (omega arith)).author in
            omega (arith, ap (λ (j : ℕ). get_or ns j 0) e);
        became = λ p q r.
            let e : i ≡ 2 + 2 * (i / 2 - 1) = omega arith in
            let c : get_or ns (2 + 2 * (i / 2 - 1)) 0 < 3 = (change_fits g (i / 2 - 1) (omega arith)).became in
            omega (arith, ap (λ (j : ℕ). get_or ns j 0) e);
        few = λ p. omega (arith, g.few_cells);
        letter = λ p r.
            let e : 1 + 2 * n + 4 * k ≡ i = omega arith in
            rw e at (cell_fits g k (omega arith)).letter;
        style = λ p r.
            let e : 1 + 2 * n + 4 * k + 1 ≡ i = omega arith in
            rw e at (cell_fits g k (omega arith)).style;
        mark = λ p r.
            elim (cases_lt ((i - 1 - last ns) % 4) 3) [
              | inl two ↦
                  let e : 1 + 2 * n + 4 * k + 2 ≡ i = omega arith in
                  rw e at (open_mark_fits _ (cell_fits g k (omega arith)).put_in)
              | inr three ↦
                  let e : 1 + 2 * n + 4 * k + 3 ≡ i = omega arith in
                  rw e at (open_mark_fits _ (cell_fits g k (omega arith)).struck)
            ];
      }

-- whether a number fits is told by those up to it
pub same : (ms ns : List ℕ) (i : ℕ) → ((k : ℕ) → k ≤ i → get_or ms k 0 ≡ get_or ns k 0) → NumberFits ms i → NumberFits ns i
same ms ns i e f =
    let first = e 0 (omega arith) in
    let here = e i (omega arith) in
    record {
      count = λ a. omega (arith, f.count a);
      author = λ a b c. omega (arith, f.author a (omega arith) c);
      became = λ a b c. omega (arith, f.became a (omega arith) c);
      few = λ a. omega (arith, f.few (omega arith));
      letter = λ a b. rw here at (f.letter (omega arith) (omega arith));
      style = λ a b. omega (arith, f.style (omega arith) (omega arith));
      mark = λ a b c.
          let g = f.mark (omega arith) (omega arith) (omega arith) in
          let t : 2 * get_or ns i 0 ≡ 2 * get_or ms i 0 = omega arith in
          let l : 2 * get_or ns i 0 ≤ last ns = omega arith in
          (l, ap (λ (j : ℕ). get_or ns j 0) t ∙ (sym (e (2 * get_or ms i 0) (omega arith)) ∙ g.1));
    }
