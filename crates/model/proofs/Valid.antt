-- What holds of the empty paper and stays with every call: it fits the limits, and every mark is of an open change.
use Rattle.std.proofs.Common.{◌≡◌, ℕ, zero, suc, ◌<◌, ◌≤◌, true, false, eqb, ◌≢◌, List, [], ◌∷◌, ◌++◌, length, take, set, refl, ap, ◌∙◌, arith}
use Rattle.std.proofs.lemmas.List.{get_or_append_left, get_or_at, get_or-set_other, get_or_past}
use Rattle.std.proofs.lemmas.Bool.{le-leb, and_from}
use Rattle.model.specs.Paper.{Cell, Change, Paper, new_cells, strike, styled}
use Rattle.model.specs.Calls.{Call, put, strikes, accepts, rejects, styles, undo, redo, show, find, count, change, save, Desk, Limits, rewritten, fits, after, ran, new_desk}
use Rattle.model.specs.Promise.{decided}
use Rattle.model.specs.Valid.{open_mark, open_marks, ValidPapers}
use Rattle.model.proofs.Picks.{pick_both}
use Rattle.model.proofs.Marks.{Marks, marks_take, marks_drop, marks_pick, marks_map, marks_decided, marks_below}
use Rattle.model.proofs.Undoing.{fits_after}
use Rattle.model.proofs.Desks.{OnDesk, after_all}

-- what every act does to the marks
module _ (M : ℕ → Type 0) where
  marks_append : (xs ys : List Cell) → Marks M xs → Marks M ys → Marks M (xs ++ ys)
  marks_append [] ys h k = k
  marks_append (x ∷ xs) ys h k = (h.0, marks_append xs ys h.1 k)

  -- other cells from place i on
  marks_from : (i : ℕ) (xs zs : List Cell) → Marks M xs → Marks M zs → Marks M (take i xs ++ zs)
  marks_from i xs zs h k = marks_append (take i xs) zs (marks_take M i xs h) k

  marks_new : (ls : List ℕ) (s c : ℕ) → M (suc c) → M 0 → Marks M (new_cells ls s c)
  unfolding new_cells
  marks_new [] s c p z = tt
  marks_new (l ∷ ls) s c p z = ((p, z), marks_new ls s c p z)

  marks_strike : (xs : List Cell) (n : ℕ) (cs : List Change) (a c : ℕ) → M (suc c) → Marks M xs → Marks M (strike xs n cs a c)
  unfolding strike
  marks_strike [] n cs a c p h = tt
  marks_strike (x ∷ xs) zero cs a c p h = h
  marks_strike (x ∷ xs) (suc n) cs a c p h =
      marks_pick M _ _ (strike xs n cs a c) (λ e. (h.0.0, pick_both M (eqb x.struck 0) _ _ p h.0.1)) (marks_strike xs n cs a c p h.1)

  marks_styled : (xs : List Cell) (n s : ℕ) → Marks M xs → Marks M (styled xs n s)
  unfolding styled
  marks_styled [] n s h = tt
  marks_styled (x ∷ xs) zero s h = h
  marks_styled (x ∷ xs) (suc n) s h = (h.0, marks_styled xs n s h.1)

-- the mark of an open change
abbrev Open : List Change → ℕ → Type 0
Open cs m = open_mark cs m ≡ true

open_none : (cs : List Change) → Open cs 0
unfolding open_mark
open_none cs = refl

open_below : (cs : List Change) (m : ℕ) → Open cs m → m ≤ length cs
unfolding open_mark
open_below cs zero h = omega arith
open_below cs (suc c) h = grind (arith, get_or_past cs c (record { author = 0; became = 3 }))

open_more : (cs : List Change) (r : Change) (m : ℕ) → Open cs m → Open (cs ++ (r ∷ [])) m
unfolding open_mark
open_more cs r zero h = refl
open_more cs r (suc c) h = let k : c < length cs = open_below cs (suc c) h in ap (λ (v : Change). eqb v.became 0) (get_or_append_left cs (r ∷ []) _ c k) ∙ h

open_last : (cs : List Change) (a : ℕ) → Open (cs ++ (record { author = a; became = 0 } ∷ [])) (suc (length cs))
unfolding open_mark
open_last cs a = ap (λ (v : Change). eqb v.became 0) (get_or_at cs _ [] _ (length cs) refl)

open_other : (cs : List Change) (c : ℕ) (v : Change) (m : ℕ) → m ≢ suc c → Open cs m → Open (set cs c v) m
unfolding open_mark
open_other cs c v zero ne h = refl
open_other cs c v (suc d) ne h = let k : d ≢ c = omega arith in ap (λ (w : Change). eqb w.became 0) (get_or-set_other cs c d v _ k) ∙ h

abbrev AllOpen : Paper → Type 0
AllOpen p = Marks (Open p.changes) p.cells

still_open : (p : Paper) (c : Call) → AllOpen p → AllOpen (rewritten p c)
unfolding rewritten decided
still_open p (put a i s ls) h =
    let cs : List Change = p.changes ++ (record { author = a; became = 0 } ∷ []) in
    let k = marks_map (Open p.changes) (Open cs) (open_more p.changes _) p.cells h in
    marks_from (Open cs) i p.cells _ k (marks_append (Open cs) _ _ (marks_new (Open cs) ls s (length p.changes) (open_last p.changes a) (open_none cs)) (marks_drop (Open cs) i p.cells k))
still_open p (strikes a i n) h =
    let cs : List Change = p.changes ++ (record { author = a; became = 0 } ∷ []) in
    let k = marks_map (Open p.changes) (Open cs) (open_more p.changes _) p.cells h in
    marks_from (Open cs) i p.cells _ k (marks_strike (Open cs) _ n p.changes a (length p.changes) (open_last p.changes a) (marks_drop (Open cs) i p.cells k))
still_open p (accepts c) h = marks_decided (Open p.changes) _ c (open_none _) (open_other p.changes c _) true p.cells h
still_open p (rejects c) h = marks_decided (Open p.changes) _ c (open_none _) (open_other p.changes c _) false p.cells h
still_open p (styles i n s) h = marks_from (Open p.changes) i p.cells _ h (marks_styled (Open p.changes) _ n s (marks_drop (Open p.changes) i p.cells h))
still_open p undo h = h
still_open p redo h = h
still_open p (show k w r n) h = h
still_open p (find k i ls) h = h
still_open p (count k) h = h
still_open p (change c) h = h
still_open p (save i n) h = h

-- a paper that fits and has no mark but of open changes
abbrev Good : Limits → Paper → Type 0
Good l p = (fits l p ≡ true) × AllOpen p

good_ran : (l : Limits) (cs : List Call) (d : Desk) → OnDesk (Good l) d → OnDesk (Good l) (ran l d cs)
unfolding ran
good_ran l [] d g = g
good_ran l (c ∷ cs) d g = good_ran l cs (after l d c) (after_all (Good l) l d c (λ t. (fits_after l d c t, still_open d.now c g.now.1)) g)

all_open : (xs : List Cell) (cs : List Change) → Marks (Open cs) xs → open_marks xs cs ≡ true
unfolding open_marks
all_open [] cs h = refl
all_open (x ∷ xs) cs h = let ih = all_open xs cs h.1 in grind arith

pub valid_papers : ValidPapers
unfolding ValidPapers
valid_papers l cs =
    let p : Paper = (ran l new_desk cs).now in
    let g = good_ran l cs new_desk (record { now = (and_from _ _ (le-leb 0 l.cells (omega arith)) (le-leb 0 l.changes (omega arith)), tt); past = tt; future = tt }) in (
      g.now.0,
      marks_below p.cells (length p.changes) (marks_map (Open p.changes) (λ m. m ≤ length p.changes) (open_below p.changes) p.cells g.now.1),
      all_open p.cells p.changes g.now.1,
    )
