-- Nothing comes from nowhere: what holds of each letter that is put in holds of each letter of the paper, and of all papers that can be had back.
-- Assumes nothing.
use Rattle.std.proofs.Common.{◌≡◌, ℕ, zero, suc, Bool, true, false, List, [], ◌∷◌, ◌++◌, refl, ap, subst}
use Rattle.std.specs.List.{ContainsAt, AllByRecursion}
use Rattle.std.proofs.ByRecursion.{All-append, All-take, All-drop, All-weaker, all_has_itself}
use Rattle.model.specs.Paper.{pick, Cell, Change, Paper, new_cells, strike, accept, reject, styled}
use Rattle.model.specs.Calls.{Call, put, strikes, accepts, rejects, styles, undo, redo, show, find, count, change, save, Desk, Limits, rewritten, turned, after, ran, new_desk}
use Rattle.model.specs.Origin.{PutBy, NothingFromNowhere}
use Rattle.model.proofs.Desks.{OnDesk, after_all}

-- an element that goes by a test, and else stays
all_or_less : {X : Type 0} (Q : X → Type 0) (b : Bool) (y : X) (ys : List X) → Q y → AllByRecursion Q ys → AllByRecursion Q (pick b ys (y ∷ ys))
all_or_less Q true y ys h k = k
all_or_less Q false y ys h k = (h, k)

module _ (P : ℕ → Type 0) where
  -- what holds of a cell's letter
  abbrev Of : Cell → Type 0
  Of x = P x.letter

  new_cells_all : (ls : List ℕ) (s c : ℕ) → AllByRecursion P ls → AllByRecursion Of (new_cells ls s c)
  unfolding new_cells
  new_cells_all [] s c h = tt
  new_cells_all (l ∷ ls) s c h = (h.0, new_cells_all ls s c h.1)

  strike_all : (xs : List Cell) (n : ℕ) (cs : List Change) (a c : ℕ) → AllByRecursion Of xs → AllByRecursion Of (strike xs n cs a c)
  unfolding strike
  strike_all [] n cs a c h = tt
  strike_all (x ∷ xs) zero cs a c h = h
  strike_all (x ∷ xs) (suc n) cs a c h = all_or_less Of _ _ _ h.0 (strike_all xs n cs a c h.1)

  accept_all : (xs : List Cell) (c : ℕ) → AllByRecursion Of xs → AllByRecursion Of (accept xs c)
  unfolding accept
  accept_all [] c h = tt
  accept_all (x ∷ xs) c h = all_or_less Of _ _ _ h.0 (accept_all xs c h.1)

  reject_all : (xs : List Cell) (c : ℕ) → AllByRecursion Of xs → AllByRecursion Of (reject xs c)
  unfolding reject
  reject_all [] c h = tt
  reject_all (x ∷ xs) c h = all_or_less Of _ _ _ h.0 (reject_all xs c h.1)

  styled_all : (xs : List Cell) (n s : ℕ) → AllByRecursion Of xs → AllByRecursion Of (styled xs n s)
  unfolding styled
  styled_all [] n s h = tt
  styled_all (x ∷ xs) zero s h = h
  styled_all (x ∷ xs) (suc n) s h = (h.0, styled_all xs n s h.1)

  rewritten_all : (p : Paper) (c : Call) → ((a i s : ℕ) (ls : List ℕ) → c ≡ put a i s ls → AllByRecursion P ls) → AllByRecursion Of p.cells → AllByRecursion Of (rewritten p c).cells
  unfolding rewritten
  rewritten_all p (put a i s ls) f h =
      All-append Of _ _ (All-take Of i _ h) (All-append Of _ _ (new_cells_all ls s _ (f a i s ls refl)) (All-drop Of i _ h))
  rewritten_all p (strikes a i n) f h = All-append Of _ _ (All-take Of i _ h) (strike_all _ n _ a _ (All-drop Of i _ h))
  rewritten_all p (accepts c) f h = accept_all _ c h
  rewritten_all p (rejects c) f h = reject_all _ c h
  rewritten_all p (styles i n s) f h = All-append Of _ _ (All-take Of i _ h) (styled_all _ n s (All-drop Of i _ h))
  rewritten_all p undo f h = h
  rewritten_all p redo f h = h
  rewritten_all p (show k w r n) f h = h
  rewritten_all p (find k i ls) f h = h
  rewritten_all p (count k) f h = h
  rewritten_all p (change c) f h = h
  rewritten_all p (save i n) f h = h

  abbrev OfPaper : Paper → Type 0
  OfPaper p = AllByRecursion Of p.cells

  ran_all : (l : Limits) (d : Desk) (cs : List Call) →
      ((before later : List Call) (a i s : ℕ) (ls : List ℕ) → cs ≡ before ++ (put a i s ls ∷ later) → turned l (ran l d before) (put a i s ls) ≡ 0 → AllByRecursion P ls) →
      OnDesk OfPaper d → OnDesk OfPaper (ran l d cs)
  unfolding ran
  ran_all l d [] f k = k
  ran_all l d (c ∷ cs) f k =
      ran_all l (after l d c) cs (λ before later a i s ls e t. f (c ∷ before) later a i s ls (ap (λ (r : List Call). c ∷ r) e) t)
      (after_all OfPaper l d c
      (λ t. rewritten_all d.now c (λ a i s ls e. f [] cs a i s ls (ap (λ (r : Call). r ∷ cs) e) (subst (λ (r : Call). turned l d r ≡ 0) e t)) k.now) k)

pub nothing_from_nowhere : NothingFromNowhere
unfolding NothingFromNowhere
nothing_from_nowhere l cs =
    (ran_all (PutBy l cs) l new_desk cs
    (λ before later a i s ls e t.
    All-weaker (ContainsAt ls) (PutBy l cs)
    (λ x h. record { before = before; author = a; place = i; style = s; typed = ls; later = later; calls = e; done = t; has = h })
    ls (all_has_itself ls))
    (record { now = tt; past = tt; future = tt })).now
