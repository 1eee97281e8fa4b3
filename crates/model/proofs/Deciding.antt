-- Deciding a change, cell by cell: which cells go, what is left of the others, and that two changes can be decided in either order.
use Rattle.std.proofs.Common.{◌≡◌, ℕ, suc, Bool, true, false, eqb, ◌≢◌, List, [], ◌∷◌, sym, refl, arith}
use Rattle.model.specs.Paper.{pick, Cell, accept, reject}
use Rattle.model.specs.Promise.{decided, AnyOrder}
use Rattle.model.proofs.Picks.{pick_true, pick_false}

-- a mark, once change number c has none any more
abbrev cleared : ℕ → ℕ → ℕ
cleared m c = pick (eqb m (suc c)) 0 m

-- the cell goes when change number c is accepted (true) or rejected (false), and else this is left of it
abbrev goes : Bool → Cell → ℕ → Bool
goes true x c = eqb x.struck (suc c)
goes false x c = eqb x.put_in (suc c)

abbrev left : Bool → Cell → ℕ → Cell
left true x c = record { letter = x.letter; style = x.style; put_in = cleared x.put_in c; struck = x.struck }
left false x c = record { letter = x.letter; style = x.style; put_in = x.put_in; struck = cleared x.struck c }

decided_goes : (a : Bool) (x : Cell) (xs : List Cell) (c : ℕ) → goes a x c ≡ true → decided a (x ∷ xs) c ≡ decided a xs c
unfolding decided accept reject
decided_goes true x xs c e = pick_true (goes true x c) _ _ e
decided_goes false x xs c e = pick_true (goes false x c) _ _ e

decided_left : (a : Bool) (x : Cell) (xs : List Cell) (c : ℕ) → goes a x c ≡ false → decided a (x ∷ xs) c ≡ left a x c ∷ decided a xs c
unfolding decided accept reject
decided_left true x xs c e = pick_false (goes true x c) _ _ e
decided_left false x xs c e = pick_false (goes false x c) _ _ e

decided_none : (a : Bool) (c : ℕ) → decided a [] c ≡ []
unfolding decided accept reject
decided_none true c = refl
decided_none false c = refl

-- clearing the mark of one change leaves the marks of another
other_mark : (m c d : ℕ) → c ≢ d → eqb (cleared m c) (suc d) ≡ eqb m (suc d)
other_mark m c d ne = grind arith

cleared_both : (m c d : ℕ) → c ≢ d → cleared (cleared m c) d ≡ cleared (cleared m d) c
cleared_both m c d ne = grind arith

goes_still : (a b : Bool) (x : Cell) (c d : ℕ) → c ≢ d → goes b (left a x c) d ≡ goes b x d
goes_still true true x c d ne = refl
goes_still true false x c d ne = other_mark x.put_in c d ne
goes_still false true x c d ne = other_mark x.struck c d ne
goes_still false false x c d ne = refl

left_both : (a b : Bool) (x : Cell) (c d : ℕ) → c ≢ d → left b (left a x c) d ≡ left a (left b x d) c
left_both true true x c d ne =
    λ i. record { letter = x.letter; style = x.style; put_in = cleared_both x.put_in c d ne i; struck = x.struck }
left_both true false x c d ne = refl
left_both false true x c d ne = refl
left_both false false x c d ne =
    λ i. record { letter = x.letter; style = x.style; put_in = x.put_in; struck = cleared_both x.struck c d ne i }

pub any_order : AnyOrder
unfolding AnyOrder
any_order a b [] c d ne =
    let e₁ = decided_none a c in
    let e₂ = decided_none b d in
    cc
any_order a b (x ∷ xs) c d ne =
    let ih = any_order a b xs c d ne in
    grind (arith, decided_goes, decided_left, goes_still a b x c d ne, goes_still b a x d c (λ e. ne (sym e)), left_both a b x c d ne)
