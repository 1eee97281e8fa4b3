-- A change that is made and then rejected leaves the cells as they were.
use Rattle.std.proofs.Common.{◌≡◌, ℕ, zero, suc, ◌≤◌, true, eqb, List, [], ◌∷◌, ◌++◌, length, take, drop, set, refl, ap, ◌∙◌, arith}
use Rattle.std.proofs.lemmas.List.{take-append-drop, set_at, get_or_at}
use Rattle.std.proofs.lemmas.Bool.{eq-eqb, ne_eqb, and_parts, not-true}
use Rattle.model.specs.Paper.{pick, Cell, Change, Paper, new_cells, strike, reject}
use Rattle.model.specs.Calls.{rejects, with_became, rewritten}
use Rattle.model.specs.Faults.{none_by, with_rejected, StrikeThenReject, PutThenReject}
use Rattle.model.proofs.Picks.{pick_true, pick_false}
use Rattle.model.proofs.Marks.{Marks, marks_take, marks_drop, below_marks}

abbrev unmarked_by : Cell → ℕ → Cell
unmarked_by x c = record { letter = x.letter; style = x.style; put_in = x.put_in; struck = pick (eqb x.struck (suc c)) 0 x.struck }

reject_append : (xs ys : List Cell) (c : ℕ) → reject (xs ++ ys) c ≡ reject xs c ++ reject ys c
unfolding reject
reject_append [] ys c = refl
reject_append (x ∷ xs) ys c = let ih = reject_append xs ys c in grind arith

-- a cell that stays, and is the same with its strike
reject_first : (x y : Cell) (ys : List Cell) (c : ℕ) → y.put_in ≤ c → unmarked_by y c ≡ x → reject (y ∷ ys) c ≡ x ∷ reject ys c
unfolding reject
reject_first x y ys c h e = pick_false _ _ _ (ne_eqb y.put_in (suc c) (omega arith)) ∙ ap (λ (v : Cell). v ∷ reject ys c) e

-- a cell but for its strike
restruck : (x : Cell) (m : ℕ) → m ≡ x.struck → ◌≡◌ {A = Cell} (record { letter = x.letter; style = x.style; put_in = x.put_in; struck = m }) x
restruck x m e = λ i. record { letter = x.letter; style = x.style; put_in = x.put_in; struck = e i }

reject_unmarked : (xs : List Cell) (c : ℕ) → Marks (λ m. m ≤ c) xs → reject xs c ≡ xs
unfolding reject
reject_unmarked [] c h = refl
reject_unmarked (x ∷ xs) c h =
    let b : x.struck ≤ c = h.0.1 in
    reject_first x x xs c h.0.0 (restruck x _ (pick_false _ _ _ (ne_eqb x.struck (suc c) (omega arith))))
    ∙ ap (λ (v : List Cell). x ∷ v) (reject_unmarked xs c h.1)

-- the mark of change number c goes again from what it struck first, and only from that
first_strike : (m c : ℕ) → m ≤ c → pick (eqb (pick (eqb m 0) (suc c) m) (suc c)) 0 (pick (eqb m 0) (suc c) m) ≡ m
first_strike m c h = grind arith

strike_reject : (xs : List Cell) (n : ℕ) (cs : List Change) (a c : ℕ) → Marks (λ m. m ≤ c) xs → none_by (take n xs) cs a ≡ true → reject (strike xs n cs a c) c ≡ xs
unfolding strike none_by reject
strike_reject [] n cs a c h o = refl
strike_reject (x ∷ xs) zero cs a c h o = reject_unmarked (x ∷ xs) c h
strike_reject (x ∷ xs) (suc n) cs a c h o =
    let others = and_parts _ _ o in
    ap (λ (v : List Cell). reject v c) (pick_false _ _ _ (not-true _ others.0))
    ∙ (reject_first x _ (strike xs n cs a c) c h.0.0 (restruck x _ (first_strike x.struck c h.0.1))
    ∙ ap (λ (v : List Cell). x ∷ v) (strike_reject xs n cs a c h.1 others.1))

new_reject : (ls : List ℕ) (s c : ℕ) (xs : List Cell) → reject (new_cells ls s c ++ xs) c ≡ reject xs c
unfolding new_cells reject
new_reject [] s c xs = refl
new_reject (l ∷ ls) s c xs = pick_true _ _ _ (eq-eqb (suc c) (suc c) refl) ∙ new_reject ls s c xs

-- cells from place i on, of which rejecting leaves those that stood there
rejected_from : (i : ℕ) (xs zs : List Cell) (c : ℕ) → Marks (λ m. m ≤ c) xs → reject zs c ≡ drop i xs → reject (take i xs ++ zs) c ≡ xs
rejected_from i xs zs c h e =
    let a = reject_append (take i xs) zs c in
    let b = reject_unmarked (take i xs) c (marks_take (λ m. m ≤ c) i xs h) in
    let t = take-append-drop i xs in
    cc

last_became : (cs : List Change) (a : ℕ) → with_became (cs ++ (record { author = a; became = 0 } ∷ [])) (length cs) 2 ≡ cs ++ (record { author = a; became = 2 } ∷ [])
last_became cs a =
    let r : Change = record { author = a; became = 0 } in
    let z : Change = record { author = 0; became = 0 } in
    ap (λ (v : Change). set (cs ++ (r ∷ [])) (length cs) (record { author = v.author; became = 2 })) (get_or_at cs r [] z (length cs) refl)
    ∙ set_at cs r [] (record { author = a; became = 2 }) (length cs) refl

rejected : (p : Paper) (a : ℕ) (xs : List Cell) → reject xs (length p.changes) ≡ p.cells →
    rewritten (record { cells = xs; changes = p.changes ++ (record { author = a; became = 0 } ∷ []) }) (rejects (length p.changes)) ≡ with_rejected p a
unfolding rewritten
rejected p a xs e = let k = last_became p.changes a in λ i. record { cells = e i; changes = k i }

pub strike_then_reject : StrikeThenReject
unfolding StrikeThenReject rewritten
strike_then_reject p a i n h o =
    let c : ℕ = length p.changes in
    let m = below_marks p.cells c h in
    rejected p a _ (rejected_from i p.cells _ c m (strike_reject (drop i p.cells) n p.changes a c (marks_drop (λ m. m ≤ c) i p.cells m) o))

pub put_then_reject : PutThenReject
unfolding PutThenReject rewritten
put_then_reject p a i s ls h =
    let c : ℕ = length p.changes in
    let m = below_marks p.cells c h in
    rejected p a _ (rejected_from i p.cells _ c m (new_reject ls s c (drop i p.cells) ∙ reject_unmarked (drop i p.cells) c (marks_drop (λ m. m ≤ c) i p.cells m)))
