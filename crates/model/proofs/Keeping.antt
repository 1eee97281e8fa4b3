-- The paper as it was: what each call does to the letters that are seen as if all open changes were rejected.
use Rattle.std.proofs.Common.{◌≡◌, ℕ, zero, suc, true, false, eqb, List, [], ◌∷◌, ◌++◌, length, take, drop, sym, refl, ap, ◌∙◌, arith}
use Rattle.std.proofs.lemmas.List.{take-append-drop}
use Rattle.std.proofs.lemmas.Bool.{ne_eqb}
use Rattle.model.specs.Paper.{Cell, Change, new_cells, author_of, strike, styled, seen, view, letters}
use Rattle.model.specs.Calls.{Call, put, strikes, accepts, rejects, styles, undo, redo, show, find, count, change, save, Desk, Limits, writes, rewritten, moved, changed, turned}
use Rattle.model.specs.Promise.{decided, open_only, AsItWas}
use Rattle.model.proofs.Picks.{pick_both}
use Rattle.model.proofs.Looking.{seen_letters, unseen_first, seen_alike, seen_or_gone, decided_seen}

seen_append : (k : ℕ) (xs ys : List Cell) → seen_letters k (xs ++ ys) ≡ seen_letters k xs ++ seen_letters k ys
unfolding view letters
seen_append k [] ys = refl
seen_append k (x ∷ xs) ys = let ih = seen_append k xs ys in grind arith

-- other cells from place i on, of which the same is seen
seen_from : (k i : ℕ) (xs zs : List Cell) → seen_letters k zs ≡ seen_letters k (drop i xs) → seen_letters k (take i xs ++ zs) ≡ seen_letters k xs
seen_from k i xs zs e =
    seen_append k (take i xs) zs
    ∙ (ap (λ (v : List ℕ). seen_letters k (take i xs) ++ v) e ∙ (sym (seen_append k (take i xs) (drop i xs)) ∙ ap (seen_letters k) (take-append-drop i xs)))

new_unseen : (ls : List ℕ) (s c : ℕ) (xs : List Cell) → seen_letters 2 (new_cells ls s c ++ xs) ≡ seen_letters 2 xs
unfolding new_cells seen
new_unseen [] s c xs = refl
new_unseen (l ∷ ls) s c xs =
    unseen_first 2 (record { letter = l; style = s; put_in = suc c; struck = 0 }) (new_cells ls s c ++ xs) (ne_eqb (suc c) 0 (omega arith)) ∙ new_unseen ls s c xs

-- only what was put in goes at once when it is struck out
own_put_in : (cs : List Change) (m a : ℕ) → eqb (author_of cs m) (suc a) ≡ true → eqb m 0 ≡ false
unfolding author_of
own_put_in cs zero a e = grind arith
own_put_in cs (suc m) a e = grind arith

strike_seen : (xs : List Cell) (n : ℕ) (cs : List Change) (a c : ℕ) → seen_letters 2 (strike xs n cs a c) ≡ seen_letters 2 xs
unfolding strike seen
strike_seen [] n cs a c = refl
strike_seen (x ∷ xs) zero cs a c = refl
strike_seen (x ∷ xs) (suc n) cs a c = seen_or_gone 2 _ x _ xs (strike xs n cs a c) (own_put_in cs x.put_in a) refl refl (strike_seen xs n cs a c)

styled_seen : (xs : List Cell) (n s : ℕ) → seen_letters 2 (styled xs n s) ≡ seen_letters 2 xs
unfolding styled seen
styled_seen [] n s = refl
styled_seen (x ∷ xs) zero s = refl
styled_seen (x ∷ xs) (suc n) s =
    seen_alike 2 x (record { letter = x.letter; style = s; put_in = x.put_in; struck = x.struck }) xs (styled xs n s) refl refl (styled_seen xs n s)

kept : (l : Limits) (d : Desk) (c : Call) → open_only c ≡ true → seen_letters 2 (changed l d c).now.cells ≡ seen_letters 2 d.now.cells
unfolding open_only writes rewritten moved decided
kept l d (put a i s ls) h = seen_from 2 i d.now.cells _ (new_unseen ls s (length d.now.changes) (drop i d.now.cells))
kept l d (strikes a i n) h = seen_from 2 i d.now.cells _ (strike_seen (drop i d.now.cells) n d.now.changes a (length d.now.changes))
kept l d (accepts c) h = let z : ◌≡◌ {A = ℕ} 0 1 = cc in absurd (omega arith)
kept l d (rejects c) h = decided_seen false d.now.cells c
kept l d (styles i n s) h = seen_from 2 i d.now.cells _ (styled_seen (drop i d.now.cells) n s)
kept l d undo h = let z : ◌≡◌ {A = ℕ} 0 1 = cc in absurd (omega arith)
kept l d redo h = let z : ◌≡◌ {A = ℕ} 0 1 = cc in absurd (omega arith)
kept l d (show k w r n) h = refl
kept l d (find k i ls) h = refl
kept l d (count k) h = refl
kept l d (change c) h = refl
kept l d (save i n) h = refl

pub as_it_was : AsItWas
unfolding AsItWas
as_it_was l d c h = pick_both (λ (e : Desk). seen_letters 2 e.now.cells ≡ seen_letters 2 d.now.cells) (eqb (turned l d c) 0) (changed l d c) d (kept l d c h) refl
