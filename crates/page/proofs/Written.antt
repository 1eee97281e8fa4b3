-- What is appended to the page, step by step.
use Rattle.std.proofs.Common.{◌≡◌, ℕ, suc, ◌+◌, ◌-◌, ◌<◌, ◌≤◌, true, false, ◌||◌, eqb, Result, Ok, Err, Vec, vec_items, List, [], ◌∷◌, ◌++◌, map, length, get_or, drop, sym, refl, ap, ◌∙◌, arith}
use Rattle.std.proofs.lemmas.List.{append_assoc, append-nil, drop_more, drop_all}
use Rattle.model.specs.Paper as paper
use Rattle.model.specs.Paper.{pick, Change}
use Rattle.model.specs.declared.Change as code
use Rattle.model.specs.Values.{change_of}
use Rattle.std.specs.Prelude.{IfOk, OnOk, is_ok}
use Rattle.std.specs.List.{list_any}
use Rattle.printing.specs.declared.reading.Cell.{Cell}
use Rattle.printing.specs.Values.{cell_of, cells_of}
use Rattle.page.specs.Page.{bare, has_author, author_item, authors_from, change_row, change_rows, part}

-- whether an author made a change, as `any` finds it
pub has_any : (cs : List code.Change) (a : ℕ) → list_any (λ c. eqb c.author a) cs ≡ has_author (map change_of cs) a
unfolding has_author
has_any [] a = refl
has_any (c ∷ cs) a = ap (λ b. eqb c.author a || b) (has_any cs a)

-- the cells without their marks, as `map` makes them
twice : (xs : List Cell) → map (λ x. bare (cell_of x)) xs ≡ map bare (cells_of xs)
twice [] = refl
twice (x ∷ xs) = ap (λ ys. bare (cell_of x) ∷ ys) (twice xs)

pub bared : {Z E : Type 0} (xs : List Cell) (r : Result (Vec Cell Z) E) → IfOk r (λ v. map cell_of (vec_items v) ≡ map (λ x. bare (cell_of x)) xs)
    → IfOk r (λ v. cells_of (vec_items v) ≡ map bare (cells_of xs))
bared xs (Ok v) e = e ∙ twice xs
bared xs (Err e) t = t

-- author after author; n is how many there can be
module _ (out : List ℕ) (cs : List Change) (n a : ℕ) where
  authors_at : a < n → authors_from (n - a) a cs ≡ pick (has_author cs a) (author_item a) [] ++ authors_from (n - (a + 1)) (a + 1) cs
  unfolding authors_from
  authors_at h =
      let one : n - a ≡ suc (n - (a + 1)) = omega arith in
      let next : suc a ≡ a + 1 = omega arith in
      ap (λ m. authors_from m a cs) one ∙ ap (λ b. pick (has_author cs a) (author_item a) [] ++ authors_from (n - (a + 1)) b cs) next

  pub authors_more : a < n → has_author cs a ≡ true → (out ++ author_item a) ++ authors_from (n - (a + 1)) (a + 1) cs ≡ out ++ authors_from (n - a) a cs
  authors_more h e =
      append_assoc out (author_item a) (authors_from (n - (a + 1)) (a + 1) cs)
      ∙ ap (λ bs. out ++ bs) (ap (λ b. pick b (author_item a) [] ++ authors_from (n - (a + 1)) (a + 1) cs) (sym e) ∙ sym (authors_at h))

  pub authors_skip : a < n → has_author cs a ≡ false → out ++ authors_from (n - (a + 1)) (a + 1) cs ≡ out ++ authors_from (n - a) a cs
  authors_skip h e = ap (λ bs. out ++ bs) (ap (λ b. pick b (author_item a) [] ++ authors_from (n - (a + 1)) (a + 1) cs) (sym e) ∙ sym (authors_at h))

  pub authors_end : n ≤ a → out ++ authors_from (n - a) a cs ≡ out
  unfolding authors_from
  authors_end h = let z : n - a ≡ 0 = omega arith in ap (λ m. out ++ authors_from m a cs) z ∙ append-nil out

-- change after change
pub changes_more : (out : List ℕ) (cs : List Change) (i : ℕ) (d : Change) → i < length cs → (out ++ change_row i (get_or cs i d)) ++ change_rows (i + 1) (drop (i + 1) cs) ≡ out ++ change_rows i (drop i cs)
unfolding change_rows
changes_more out cs i d h =
    let next : i + 1 ≡ suc i = omega arith in
    append_assoc out (change_row i (get_or cs i d)) (change_rows (i + 1) (drop (i + 1) cs))
    ∙ (ap (λ k. out ++ (change_row i (get_or cs i d) ++ change_rows k (drop (i + 1) cs))) next
    ∙ ap (λ ys. out ++ change_rows i ys) (sym (drop_more cs i d h)))

pub changes_end : (out : List ℕ) (cs : List Change) (i : ℕ) → length cs ≤ i → out ++ change_rows i (drop i cs) ≡ out
unfolding change_rows
changes_end out cs i h = ap (λ ys. out ++ change_rows i ys) (drop_all i cs h) ∙ append-nil out

-- what was written, where the call's answer is good
pub was_ok : {X E : Type 0} (r : Result X E) {p : Type 0} → true ≡ is_ok r → OnOk r p → p
was_ok (Ok x) e h = h
was_ok (Err x) e h = absurd (cc)

-- a part of the changes and the cells that a paper has
pub part_of : (name : List ℕ) (a b : List code.Change) (ys zs : List paper.Cell) → a ≡ b → ys ≡ zs → part name (map change_of a) ys ≡ part name (map change_of b) zs
part_of name a b ys zs e f = ap (λ (cs : List code.Change). part name (map change_of cs) ys) e ∙ ap (λ (xs : List paper.Cell). part name (map change_of b) xs) f

-- what is read where there is no change
abbrev pub no_change : code.Change
no_change = record { author = 0; became = 0 }
