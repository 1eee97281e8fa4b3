-- What is seen of a paper in a way to look, and that it is what there is once all open changes are decided that way.
use Rattle.std.proofs.Common.{◌≡◌, ℕ, zero, suc, ◌≤◌, Bool, true, false, eqb, List, [], ◌∷◌, sym, refl, ap, ◌∙◌, arith}
use Rattle.model.specs.Paper.{pick, Cell, accept, reject, seen, view, letters}
use Rattle.model.specs.Promise.{decided, all_decided, AsIf}
use Rattle.model.proofs.Picks.{pick_true, pick_false}
use Rattle.model.proofs.Marks.{Marks, marks_decided, below_marks}

-- the letters that are seen in a way to look
abbrev pub seen_letters : ℕ → List Cell → List ℕ
seen_letters k xs = letters (view k xs)

pub seen_first : (k : ℕ) (x : Cell) (xs : List Cell) → seen k x ≡ true → seen_letters k (x ∷ xs) ≡ x.letter ∷ seen_letters k xs
unfolding view letters
seen_first k x xs e = ap letters (pick_true (seen k x) _ _ e)

pub unseen_first : (k : ℕ) (x : Cell) (xs : List Cell) → seen k x ≡ false → seen_letters k (x ∷ xs) ≡ seen_letters k xs
unfolding view letters
unseen_first k x xs e = ap letters (pick_false (seen k x) _ _ e)

-- a cell in place of another of which the same is seen
pub seen_alike : (k : ℕ) (x y : Cell) (xs ys : List Cell) → seen k y ≡ seen k x → y.letter ≡ x.letter → seen_letters k ys ≡ seen_letters k xs →
    seen_letters k (y ∷ ys) ≡ seen_letters k (x ∷ xs)
unfolding view letters
seen_alike k x y xs ys s l e = grind arith

-- the way to look that goes with accepting, and with rejecting
abbrev pub way : Bool → ℕ
way true = 1
way false = 2

-- a cell y in place of x, or neither where x is not seen
pub seen_or_gone : (k : ℕ) (t : Bool) (x y : Cell) (xs ys : List Cell) → (t ≡ true → seen k x ≡ false) → seen k y ≡ seen k x → y.letter ≡ x.letter →
    seen_letters k ys ≡ seen_letters k xs → seen_letters k (pick t ys (y ∷ ys)) ≡ seen_letters k (x ∷ xs)
seen_or_gone k true x y xs ys g s l e = e ∙ sym (unseen_first k x xs (g refl))
seen_or_gone k false x y xs ys g s l e = seen_alike k x y xs ys s l e

marked : (m c : ℕ) → eqb m (suc c) ≡ true → eqb m 0 ≡ false
marked m c e = grind arith

-- what goes was not seen, what is left is seen as before
pub decided_seen : (a : Bool) (xs : List Cell) (c : ℕ) → seen_letters (way a) (decided a xs c) ≡ seen_letters (way a) xs
unfolding decided accept reject seen
decided_seen true [] c = refl
decided_seen false [] c = refl
decided_seen true (x ∷ xs) c = seen_or_gone 1 _ x _ xs (accept xs c) (marked x.struck c) refl refl (decided_seen true xs c)
decided_seen false (x ∷ xs) c = seen_or_gone 2 _ x _ xs (reject xs c) (marked x.put_in c) refl refl (decided_seen false xs c)

-- where no cell has a mark, all is seen in every way
unmarked_seen : (a : Bool) (x : Cell) → x.put_in ≤ 0 → x.struck ≤ 0 → seen (way a) x ≡ true
unfolding seen
unmarked_seen true x p s = grind arith
unmarked_seen false x p s = grind arith

unmarked : (a : Bool) (xs : List Cell) → Marks (λ m. m ≤ 0) xs → letters xs ≡ seen_letters (way a) xs
unfolding letters view
unmarked a [] h = refl
unmarked a (x ∷ xs) h =
    ap (λ (v : List ℕ). x.letter ∷ v) (unmarked a xs h.1) ∙ sym (seen_first (way a) x xs (unmarked_seen a x h.0.0 h.0.1))

all_seen : (a : Bool) (xs : List Cell) (n : ℕ) → Marks (λ m. m ≤ n) xs → letters (all_decided a xs n) ≡ seen_letters (way a) xs
unfolding all_decided
all_seen a xs zero h = unmarked a xs h
all_seen a xs (suc n) h =
    all_seen a (decided a xs n) n (marks_decided (λ m. m ≤ suc n) (λ m. m ≤ n) n (omega arith) (λ m ne k. omega arith) a xs h) ∙ decided_seen a xs n

pub as_if : AsIf
unfolding AsIf
as_if xs n h = let m = below_marks xs n h in (all_seen true xs n m, all_seen false xs n m)
