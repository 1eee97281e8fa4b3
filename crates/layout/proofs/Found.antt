-- From what a scan found to the row.
use Rattle.std.proofs.Common.{◌≡◌, ℕ, suc, ◌+◌, ◌-◌, ◌<◌, ◌≤◌, eqb, ◌⊎◌, List, [], ◌∷◌, length, is_some, true, Some, None, Option, unwrap_or, sym, refl, ap, ◌∙◌, subst, inl, inr, arith}
use Rattle.std.proofs.lemmas.Bool.{eq-eqb, ne_eqb}
use Rattle.model.specs.Paper.{pick, Cell}
use Rattle.model.specs.Rows.{Cut, cut, cut_after}
use Rattle.pieces.specs.declared.Spot.{Spot}
use Rattle.layout.specs.declared.sheet.Row.{Row}
use Rattle.layout.specs.declared.sheet.Sheet.{Sheet}
use Rattle.layout.specs.Seen.{behind}
use Rattle.layout.specs.Found.{ahead, Within, GoesOn, Found, RowIs}
use Rattle.layout.proofs.Scan.{Scan, scan_next, scan_some, scan_end, scan_more, scan_full, scan_all}

-- the last space so far: one more than its place, or 0 for none, and the row that goes to it
abbrev pub spaced : Option Row → ℕ
spaced None = 0
spaced (Some r) = suc r.long

abbrev pub SpaceRow : Sheet → Spot → Option Row → Type 0
SpaceRow s t None = Unit {0}
SpaceRow s t (Some r) = GoesOn s t (suc r.long) r

-- How far the search for the end of a row from the spot t has come: `long` letters, and the cells `now` are to come.
pub record Sought (s : Sheet) (t : Spot) (now : List Cell) (long : ℕ) (space : Option Row) : Type 0 where
  pub scan : Scan s.width (ahead s t) now long (spaced space)
  pub row : SpaceRow s t space

pub sought_start : (s : Sheet) (t : Spot) (now : List Cell) → now ≡ ahead s t → Sought s t now 0 None
sought_start s t now e =
    let z : suc s.width - 0 ≡ suc s.width = omega arith in
    record { scan = record { fits = omega arith; within = omega arith; rest = sym e; end = rw (e, z) refl; space = rw (e, z) refl }; row = tt }

-- the same cells by another name
pub sought_same : (s : Sheet) (t : Spot) (now later : List Cell) (long : ℕ) (space : Option Row) → now ≡ later → Sought s t now long space → Sought s t later long space
sought_same s t now later long space e h = subst (λ now. Sought s t now long space) e h

-- a row by its cut
found : (s : Sheet) (t : Spot) (r : Row) (k : ℕ) → cut s.width (ahead s t) ≡ record { long = r.long; skips = k } → 0 < length (ahead s t)
    → GoesOn s t (r.long + k) r → Found s t r
found s t r k e some g =
    record { some = some; long = sym (ap (λ (x : Cut). x.long) e); next = subst (λ n. GoesOn s t n r) (sym (ap (λ (x : Cut). x.long + x.skips) e)) g }

-- the row that goes to the last space, or else the full one
found_broken : (s : Sheet) (t : Spot) (space : Option Row) (full : Row) → cut s.width (ahead s t) ≡ cut_after s.width (spaced space)
    → 0 < length (ahead s t) → SpaceRow s t space → full.long ≡ s.width → GoesOn s t full.long full
    → (r : Row) → r ≡ unwrap_or space full → Found s t r
unfolding cut_after
found_broken s t None full e some h l g r is =
    let n : full.long ≡ full.long + 0 = omega arith in
    rw is (found s t full 0 (e ∙ rw l) some (subst (λ m. GoesOn s t m full) n g))
found_broken s t (Some x) full e some h l g r is =
    let n : suc x.long ≡ x.long + 1 = omega arith in
    rw is (found s t x 1 e some (subst (λ m. GoesOn s t m x) n h))

-- the last space after one more letter: r is the row that goes to that letter
abbrev pub Spaces : Cell → Row → Option Row → Option Row → Type 0
Spaces x r space next = ((x.letter ≡ 32) × (next ≡ Some r)) ⊎ ((x.letter ≡ 32 → ⊥) × (next ≡ space))

-- the cell x stands at the spot `at`, and the cells after it are seen from the spot behind it on
pub record Reaches (s : Sheet) (at : Spot) (x : Cell) (later : List Cell) : Type 0 where
  pub in_at : Within s at
  pub in_on : Within s (behind at)
  pub from_at : ahead s at ≡ x ∷ later
  pub from_on : ahead s (behind at) ≡ later

-- one letter further: the next row may go from where it stands, or from behind it
module _ (s : Sheet) (t : Spot) (x : Cell) (later : List Cell) (long : ℕ) (space : Option Row) (h : Sought s t (x ∷ later) long space)
    (at : Spot) (r : Reaches s at x later) where
  -- the row that goes to this letter
  abbrev to : Row
  to = record { long = long; next = behind at }

  abbrev full : Row
  full = record { long = s.width; next = at }

  some : 0 < length (ahead s t)
  some = let l = scan_some s.width (ahead s t) x later long (spaced space) h.scan in omega arith

  goes_to : GoesOn s t (long + 1) to
  goes_to = record { spot = r.in_on; rest = r.from_on ∙ sym (scan_next s.width (ahead s t) x later long (spaced space) h.scan) }

  goes_full : long ≡ s.width → GoesOn s t s.width full
  goes_full l = record { spot = r.in_at; rest = r.from_at ∙ rw (sym l) (sym h.scan.rest) }

  pub sought_end : x.letter ≡ 10 → Found s t to
  sought_end l = found s t to 1 (scan_end s.width (ahead s t) x later long (spaced space) h.scan l) some goes_to

  spaces_row : (next : Option Row) → Spaces x to space next → SpaceRow s t next
  spaces_row next (inl (l, is)) =
      let n : long + 1 ≡ suc long = omega arith in
      rw is (subst (λ m. GoesOn s t m to) n goes_to)
  spaces_row next (inr (l, is)) = rw is h.row

  spaces_at : (next : Option Row) → Spaces x to space next → pick (eqb x.letter 32) (suc long) (spaced space) ≡ spaced next
  spaces_at next (inl (l, is)) = rw (is, eq-eqb _ _ l)
  spaces_at next (inr (l, is)) = rw (is, ne_eqb _ _ l)

  pub sought_more : (x.letter ≡ 10 → ⊥) → long + 1 ≤ s.width → (next : Option Row) → Spaces x to space next → Sought s t later (long + 1) next
  sought_more ne lw next sp =
      record { scan = rw (sym (spaces_at next sp)) (scan_more s.width (ahead s t) x later long (spaced space) h.scan ne (omega arith)); row = spaces_row next sp }

  pub sought_full : (x.letter ≡ 10 → ⊥) → s.width < long + 1 → (next : Option Row) → Spaces x to space next → (row : Row) → row ≡ unwrap_or next full → Found s t row
  sought_full ne lw next sp row is =
      let f = h.scan.fits in
      let l : long ≡ s.width = omega arith in
      found_broken s t next full
      (scan_full s.width (ahead s t) x later long (spaced space) h.scan ne l ∙ ap (cut_after s.width) (spaces_at next sp)) some (spaces_row next sp) refl (goes_full l) row is

-- nothing is left
module _ (s : Sheet) (t : Spot) (long : ℕ) (space : Option Row) (h : Sought s t [] long space) where
  pub sought_none : long ≡ 0 → ahead s t ≡ []
  sought_none z = let r = h.scan.rest in rw z at r

  pub sought_all : (long ≡ 0 → ⊥) → (on : Spot) → Within s on → ahead s on ≡ [] → Found s t (record { long = long; next = on })
  sought_all nz on in_on e =
      let r : Row = record { long = long; next = on } in
      let l = h.scan.within in
      let n : long ≡ long + 0 = omega arith in
      found s t r 0 (scan_all s.width (ahead s t) long (spaced space) h.scan) (omega arith)
      (subst (λ m. GoesOn s t m r) n (record { spot = in_on; rest = e ∙ sym h.scan.rest }))

-- a row is found where something is left
pub is_found : (s : Sheet) (t : Spot) (o : Option Row) → RowIs s t o → 0 < length (ahead s t) → is_some o ≡ true
is_found s t None h some = absurd (let e = ap length h in omega arith)
is_found s t (Some r) h some = refl

pub found_row : (s : Sheet) (t : Spot) (o : Option Row) (r : Row) → RowIs s t o → o ≡ Some r → Found s t r
found_row s t o r h e = subst (RowIs s t) e h
