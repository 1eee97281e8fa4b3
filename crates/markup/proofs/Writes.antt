-- What is appended, step by step.
use Rattle.std.proofs.Common.{◌≡◌, ℕ, suc, ◌-◌, ◌<◌, ◌≤◌, List, [], ◌∷◌, ◌++◌, length, get_or, take, drop, codes, sym, ap, subst, ◌∙◌, arith}
use Rattle.std.proofs.lemmas.List.{append_assoc, append-nil, nil_from_length}
use Rattle.model.specs.Paper.{Cell, Change}
use Rattle.printing.specs.declared.reading.Cell as code
use Rattle.printing.specs.Values.{cell_of, cells_of}
use Rattle.markup.specs.Plain.{escaped}
use Rattle.markup.specs.Marked.{opened, closed, between, following, followed, marked}

following_more : (out : List ℕ) (cs : List Change) (x y : Cell) (ys : List Cell) →
    ((out ++ between cs x y) ++ escaped y.letter) ++ following cs y ys ≡ out ++ following cs x (y ∷ ys)
unfolding following
following_more out cs x y ys =
    append_assoc (out ++ between cs x y) (escaped y.letter) (following cs y ys) ∙ append_assoc out (between cs x y) (escaped y.letter ++ following cs y ys)

following_end : (out : List ℕ) (cs : List Change) (x : Cell) → (out ++ closed x.put_in x.struck) ++ codes "</p>" ≡ out ++ following cs x []
unfolding following
following_end out cs x = append_assoc out (closed x.put_in x.struck) (codes "</p>")

-- one window more: `last` is the last cell
pair_step : (out mid after whole : List ℕ) (cs : List Change) (s : List code.Cell) (last d : code.Cell) → 2 ≤ length s → get_or s (length s - 1) d ≡ last →
    out ++ followed cs (cells_of s) ≡ whole → mid ≡ out ++ between cs (cell_of (get_or (take 2 s) 0 d)) (cell_of (get_or (take 2 s) 1 d)) → after ≡ mid ++ escaped (get_or (take 2 s) 1 d).letter →
    (0 < length (drop 1 s)) × (get_or (drop 1 s) (length (drop 1 s) - 1) d ≡ last) × (after ++ followed cs (cells_of (drop 1 s)) ≡ whole)
pair_step out mid after whole cs [] last d h z q e f = absurd (omega arith)
pair_step out mid after whole cs (x ∷ []) last d h z q e f = absurd (omega arith)
pair_step out mid after whole cs (x ∷ (y ∷ ys)) last d h z q e f =
    let n : length (x ∷ (y ∷ ys)) - 1 ≡ suc (length (y ∷ ys) - 1) = omega arith in (
      omega arith,
      rw n at z,
      ap (λ ls. ls ++ following cs (cell_of y) (cells_of ys)) (f ∙ ap (λ ls. ls ++ escaped y.letter) e) ∙ (following_more out cs (cell_of x) (cell_of y) (cells_of ys) ∙ q),
    )

pub window_step : (out mid after whole : List ℕ) (cs : List Change) (s t w : List code.Cell) (n : ℕ) (last d : code.Cell) → n ≡ 2 → n ≤ length s → w ≡ take n s → t ≡ drop 1 s → get_or s (length s - 1) d ≡ last →
    out ++ followed cs (cells_of s) ≡ whole → mid ≡ out ++ between cs (cell_of (get_or w 0 d)) (cell_of (get_or w 1 d)) → after ≡ mid ++ escaped (get_or w 1 d).letter →
    (0 < length t) × (get_or t (length t - 1) d ≡ last) × (after ++ followed cs (cells_of t) ≡ whole)
window_step out mid after whole cs s t w n last d two h ew et z q e f =
    let v : w ≡ take 2 s = ew ∙ ap (λ (k : ℕ). take k s) two in
    let P : List code.Cell → Type 0 = λ u. (0 < length u) × (get_or u (length u - 1) d ≡ last) × (after ++ followed cs (cells_of u) ≡ whole) in
    subst P (sym et)
    (pair_step out mid after whole cs s last d (omega arith) z q
    (e ∙ ap (λ (u : List code.Cell). out ++ between cs (cell_of (get_or u 0 d)) (cell_of (get_or u 1 d))) v)
    (f ∙ ap (λ (u : List code.Cell). mid ++ escaped (get_or u 1 d).letter) v))

pub pair_end : (out whole : List ℕ) (cs : List Change) (s : List code.Cell) (last d : code.Cell) → 0 < length s → length s < 2 → get_or s (length s - 1) d ≡ last →
    out ++ followed cs (cells_of s) ≡ whole → (out ++ closed last.put_in last.struck) ++ codes "</p>" ≡ whole
pair_end out whole cs [] last d h k z q = absurd (omega arith)
pair_end out whole cs (x ∷ []) last d h k z q = ap (λ (y : code.Cell). (out ++ closed y.put_in y.struck) ++ codes "</p>") (sym z) ∙ (following_end out cs (cell_of x) ∙ q)
pair_end out whole cs (x ∷ (y ∷ ys)) last d h k z q = absurd (omega arith)

marked_none : (out : List ℕ) (cs : List Change) → out ≡ out ++ marked cs []
unfolding marked
marked_none out cs = sym (append-nil out)

-- all cells
pub no_cells : (out : List ℕ) (cs : List Change) (xs : List code.Cell) → length xs ≡ 0 → out ≡ out ++ marked cs (cells_of xs)
no_cells out cs xs h = marked_none out cs ∙ ap (λ (ys : List code.Cell). out ++ marked cs (cells_of ys)) (sym (nil_from_length xs h))

pub some_cells : (cs : List Change) (xs : List code.Cell) (x d : code.Cell) → 0 < length xs → x ≡ get_or xs 0 d →
    codes "<p>" ++ (opened cs (cell_of x) ++ (escaped x.letter ++ followed cs (cells_of xs))) ≡ marked cs (cells_of xs)
unfolding marked
some_cells cs [] x d h e = absurd (omega arith)
some_cells cs (y ∷ ys) x d h e = ap (λ (z : code.Cell). codes "<p>" ++ (opened cs (cell_of z) ++ (escaped z.letter ++ followed cs (cells_of (y ∷ ys))))) e
