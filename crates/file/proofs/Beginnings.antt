-- Numbers that fit, each in its place, begin a file; and the numbers of a file fit.
use Rattle.std.proofs.Common.{◌≡◌, ℕ, zero, suc, ◌+◌, ◌-◌, ◌*◌, ◌/◌, ◌%◌, ◌<◌, ◌≤◌, min, List, [], ◌∷◌, ◌++◌, length, get_or, take, sym, refl, ap, ◌∙◌, inl, inr, arith}
use Rattle.std.proofs.lemmas.List.{length-take, length_push, length-take-le, get_or-take, get_or_append_left, get_or_push, take_all, take-take, take_at}
use Rattle.std.proofs.lemmas.Bool.{cases_lt, cases_eq, cases_order}
use Rattle.model.specs.Paper.{Paper, written}
use Rattle.file.specs.Paper.{Fits, paper_of, IsFile, Ceases}
use Rattle.file.specs.Places.{last, NumberFits}
use Rattle.file.specs.Laws.{ReadsBack, OneWay}
use Rattle.file.proofs.Rows.{length_changes, length_cells, is_written, length_written, paper_back}
use Rattle.file.proofs.Passes.{fitting, passes, same}

pub whole : (ns : List ℕ) (n m : ℕ) → length ns ≡ 1 + 2 * n + 4 * m → get_or ns 0 0 ≡ n → ((i : ℕ) → i < length ns → NumberFits ns i) → IsFile ns n m
whole ns n m long first f =
    record {
      fits = fitting ns n m long first f;
      is = is_written ns n m long first;
      changes = length_changes ns 0 n;
      cells = length_cells ns (1 + 2 * n) m;
      long = long;
    }

pub reads_back : ReadsBack
reads_back p g =
    let n : ℕ = length p.changes in
    let m : ℕ = length p.cells in
    let e = paper_back p in (
      e,
      record {
        fits = rw e g;
        is = ap written (sym e);
        changes = length_changes (written p) 0 n;
        cells = length_cells (written p) (1 + 2 * n) m;
        long = length_written p;
      },
    )

-- the numbers of a paper that fits fit
written_fits : (p : Paper) → Fits p → (i : ℕ) → i < length (written p) → NumberFits (written p) i
written_fits p g = passes (written p) (length p.changes) (length p.cells) (length_written p) refl (rw (paper_back p) g)

-- where one begins as another does, the numbers there are the same
alike : (ms ns : List ℕ) (n : ℕ) → take n ms ≡ take n ns → (k : ℕ) → k < n → get_or ms k 0 ≡ get_or ns k 0
alike ms ns n e k h = sym (get_or-take n ms k 0 h) ∙ (ap (λ (vs : List ℕ). get_or vs k 0) e ∙ get_or-take n ns k 0 h)

-- no file begins with numbers of which one does not fit
pub misfit : (ns : List ℕ) (i : ℕ) → i < length ns → (NumberFits ns i → ⊥) → (p : Paper) → Fits p → take (i + 1) (written p) ≡ take (i + 1) ns → ⊥
misfit ns i h bad p g e =
    let l : min (i + 1) (length (written p)) ≡ min (i + 1) (length ns) = simp length-take at (ap length e) in
    bad (same (written p) ns i (λ k b. alike (written p) ns (i + 1) e k (omega arith)) (written_fits p g i (omega arith)))

-- nor with numbers that are too few
pub short : (ns : List ℕ) → ((n m : ℕ) → get_or ns 0 0 ≡ n → length ns ≡ 1 + 2 * n + 4 * m → ⊥) →
    (p : Paper) → Fits p → take (length ns + 1) (written p) ≡ take (length ns + 1) ns → ⊥
short ns bad p g e =
    let l : min (length ns + 1) (length (written p)) ≡ min (length ns + 1) (length ns) = simp length-take at (ap length e) in
    let w = length_written p in
    bad (length p.changes) (length p.cells) (sym (alike (written p) ns (length ns + 1) e 0 (omega arith))) (omega arith)

-- where there is room, some number fits next: 32 for a letter, else 0
next : (ns : List ℕ) → 0 < length ns → (last ns < length ns → length ns - 1 - last ns < 8192) → (x : ℕ) × NumberFits (ns ++ (x ∷ [])) (length ns)
next ns pos few =
    let first : (x : ℕ) → get_or (ns ++ (x ∷ [])) 0 0 ≡ get_or ns 0 0 = λ x. get_or_append_left ns (x ∷ []) 0 0 pos in
    let here : (x : ℕ) → get_or (ns ++ (x ∷ [])) (length ns) 0 ≡ x = λ x. get_or_push ns x 0 (length ns) refl in
    let other : ((length ns - 1 - last ns) % 4 ≡ 0 → length ns ≤ last ns) → NumberFits (ns ++ (0 ∷ [])) (length ns) = λ no_letter.
    let a = first 0 in
    let b = here 0 in
    record {
      count = λ p. omega arith;
      author = λ p q r. omega arith;
      became = λ p q r. omega arith;
      few = λ p. omega (arith, few (omega arith));
      letter = λ p q. absurd (omega (arith, no_letter (omega arith)));
      style = λ p q. omega arith;
      mark = λ p q r. absurd (omega arith);
    } in
    elim (cases_lt (last ns) (length ns)) [
      | inr early ↦ (0, other (λ e. early))
      | inl late ↦
          elim (cases_eq ((length ns - 1 - last ns) % 4) 0) [
            | inr no_letter ↦ (0, other (λ e. absurd (no_letter e)))
            | inl letter ↦
                let a = first 32 in
                let b = here 32 in (
                  32,
                  record {
                    count = λ p. omega arith;
                    author = λ p q r. omega arith;
                    became = λ p q r. absurd (omega arith);
                    few = λ p. omega (arith, few late);
                    letter = λ p q. omega arith;
                    style = λ p q. omega arith;
                    mark = λ p q r. absurd (omega arith);
                  },
                )
          ]
    ]

-- the first n numbers of some file are ns
abbrev Begins : ℕ → List ℕ → Type 0
Begins n ns = (p : Paper) × Fits p × (take n (written p) ≡ ns)

fewer : (n l : ℕ) (ns ms : List ℕ) → n ≤ l → take n ms ≡ ns → Begins l ms → Begins n ns
fewer n l ns ms h e b = (b.0, b.1, sym (take-take n l (written b.0) h) ∙ (ap (take n) b.2 ∙ e))

-- numbers that fit, and are k short of a whole file
begun : (k : ℕ) (ns : List ℕ) (m : ℕ) → 0 < length ns → ((i : ℕ) → i < length ns → NumberFits ns i) → length ns + k ≡ 1 + last ns + 4 * m → m ≤ 2048
    → Begins (length ns) ns
begun zero ns m pos f long room =
    let w = whole ns (get_or ns 0 0) m (omega arith) refl f in
    (paper_of ns (get_or ns 0 0) m, w.fits, ap (take (length ns)) (sym w.is) ∙ take_all (length ns) ns (omega arith))
begun (suc k) ns m pos f long room =
    let x = next ns pos (λ h. omega arith) in
    let ms : List ℕ = ns ++ (x.0 ∷ []) in
    let l : length ms ≡ length ns + 1 = length_push ns x.0 in
    let first : get_or ms 0 0 ≡ get_or ns 0 0 = get_or_append_left ns (x.0 ∷ []) 0 0 pos in
    let fit : (i : ℕ) → i < length ms → NumberFits ms i = λ i h.
    elim (cases_lt i (length ns)) [
      | inl old ↦ same ns ms i (λ j b. sym (get_or_append_left ns (x.0 ∷ []) 0 j (omega arith))) (f i old)
      | inr new ↦ let e : i ≡ length ns = omega arith in rw e x.1
    ] in
    fewer (length ns) (length ms) ns ms (omega arith) (take_at ns (x.0 ∷ []) (length ns) refl) (begun k ms m (omega arith) fit (omega arith) room)

-- numbers that fit begin a file
pub begins : (ns : List ℕ) (i : ℕ) → i ≤ length ns → ((k : ℕ) → k < i → NumberFits ns k) → Begins i (take i ns)
begins ns zero h f =
    (record { cells = []; changes = [] }, record { few_changes = omega arith; few_cells = omega arith; changes = λ k l. absurd (omega arith); cells = λ k l. absurd (omega arith) }, refl)
begins ns (suc i) h f =
    let ms : List ℕ = take (suc i) ns in
    let l : length ms ≡ suc i = length-take-le (suc i) ns h in
    let at : (k : ℕ) → k < suc i → get_or ms k 0 ≡ get_or ns k 0 = λ k b. get_or-take (suc i) ns k 0 b in
    let fit : (k : ℕ) → k < length ms → NumberFits ms k = λ k b. same ns ms k (λ j c. sym (at j (omega arith))) (f k (omega arith)) in
    let few = (fit i (omega arith)).few in
    let m : ℕ = (i - last ms + 3) / 4 in
    let room : m ≤ 2048 =
    elim (cases_lt (last ms) i) [
      | inl late ↦ omega (arith, few late)
      | inr early ↦ omega arith
    ] in
    fewer (suc i) (length ms) ms ms (omega arith) (take_all (suc i) ms (omega arith)) (begun (1 + last ms + 4 * m - suc i) ms m (omega arith) fit (omega arith) room)

-- the place before which the numbers begin a file is one
not_later : (ns : List ℕ) (i j : ℕ) → Ceases ns i → Ceases ns j → i < j → ⊥
not_later ns i j a b h =
    let p : Paper = b.begins.0 in
    let t = take-take (i + 1) j (written p) (omega arith) in
    let u = take-take (i + 1) j ns (omega arith) in
    a.ends p b.begins.1 (sym t ∙ (ap (take (i + 1)) b.begins.2 ∙ u))

pub one_way : OneWay
one_way ns i j m n m' n' =
    let first : (n m : ℕ) → IsFile ns n m → get_or ns 0 0 ≡ n = λ n m f. ap (λ (vs : List ℕ). get_or vs 0 0) f.is ∙ f.changes in (
      λ f g. let a = first n m f in let b = first n' m' g in (omega arith, omega (arith, f.long, g.long)),
      λ a b.
          elim (cases_order i j) [
            | inl e ↦ e
            | inr (inl h) ↦ absurd (not_later ns i j a b h)
            | inr (inr h) ↦ absurd (not_later ns j i b a h)
          ],
      λ f a. a.ends (paper_of ns n m) f.fits (ap (take (i + 1)) (sym f.is)),
    )
