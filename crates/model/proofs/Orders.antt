-- Any list of distinct changes can be decided in any order: what commutes for two commutes for a list.
use Rattle.std.proofs.Common.{◌≡◌, ℕ, ◌≤◌, Bool, true, false, not, ◌&&◌, ◌||◌, eqb, ltb, ◌≢◌, List, [], ◌∷◌, length, get_or, set, sym, refl, ap, ◌∙◌, arith}
use Rattle.std.proofs.lemmas.List.{length-set, get_or-set_other, set_comm}
use Rattle.std.proofs.lemmas.Bool.{and_parts}
use Rattle.model.specs.Paper.{pick, Cell, Change, Paper, accept, reject}
use Rattle.model.specs.Calls.{accepts, rejects, Desk, Limits, call_number, good_fields, became, turned_by, with_became, rewritten, writes, fits, after, ran}
use Rattle.model.specs.Promise.{decided, AnyOrder}
use Rattle.model.specs.Orders.{Decision, call_of, calls_of, all_done, all_rewritten, decides, distinct, Reordered, same, skip, swap, trans, AnyListOrder}
use Rattle.model.proofs.Picks.{pick_true, pick_false, pick_both}
use Rattle.model.proofs.Deciding.{any_order}

eqb_swap : (a b : ℕ) → eqb a b ≡ eqb b a
eqb_swap a b = grind arith

-- another order has the same changes, and they are distinct if they were
decides_same : {ds es : List Decision} → Reordered ds es → (c : ℕ) → decides ds c ≡ decides es c
unfolding decides
decides_same same c = refl
decides_same (skip {d} r) c = ap (λ t. eqb d.change c || t) (decides_same r c)
decides_same (swap {d} {e} {ds}) c = go (eqb d.change c) (eqb e.change c) (decides ds c)
  where
    go : (s t u : Bool) → (s || (t || u)) ≡ (t || (s || u))
    go s t u = grind arith
decides_same (trans r q) c = decides_same r c ∙ decides_same q c

distinct_same : {ds es : List Decision} → Reordered ds es → distinct ds ≡ distinct es
unfolding distinct decides
distinct_same same = refl
distinct_same (skip {d} r) = let e = decides_same r d.change in let k = distinct_same r in cc
distinct_same (swap {d} {e} {ds}) =
    ap (λ t. not (t || decides ds d.change) && (not (decides ds e.change) && distinct ds)) (eqb_swap e.change d.change)
    ∙ go (eqb d.change e.change) (decides ds d.change) (decides ds e.change) (distinct ds)
  where
    go : (b s t u : Bool) → (not (b || s) && (not t && u)) ≡ (not (b || t) && (not s && u))
    go b s t u = grind arith
distinct_same (trans r q) = distinct_same r ∙ distinct_same q

first_two : (d e : Decision) (ds : List Decision) → distinct (d ∷ (e ∷ ds)) ≡ true → d.change ≢ e.change
unfolding distinct decides
first_two d e ds h k = grind arith

-- decisions one after the other, of which a step says what one does
abbrev run : {S : Type 0} → (S → Decision → S) → List Decision → S → S
run step [] s = s
run step (d ∷ ds) s = run step ds (step s d)

module _ {S : Type 0} (Inv : S → Type 0) (step : S → Decision → S) (keeps : (s : S) (d : Decision) → Inv s → Inv (step s d))
    (commutes : (s : S) (d e : Decision) → Inv s → d.change ≢ e.change → step (step s d) e ≡ step (step s e) d) where
  same_end : {ds es : List Decision} → Reordered ds es → distinct ds ≡ true → (s : S) → Inv s → run step ds s ≡ run step es s
  unfolding distinct
  same_end same h s i = refl
  same_end (skip {d} r) h s i = same_end r (and_parts _ _ h).1 (step s d) (keeps s d i)
  same_end (swap {d} {e} {ds}) h s i = ap (run step ds) (commutes s d e i (first_two d e ds h))
  same_end (trans r q) h s i = same_end r h s i ∙ same_end q (sym (distinct_same r) ∙ h) s i

-- cells
on_cells : List Cell → Decision → List Cell
on_cells xs d = decided d.accepts xs d.change

done_run : (ds : List Decision) (xs : List Cell) → all_done ds xs ≡ run on_cells ds xs
unfolding all_done on_cells
done_run [] xs = refl
done_run (d ∷ ds) xs = done_run ds (decided d.accepts xs d.change)

cells_commute : (xs : List Cell) (d e : Decision) → Unit {0} → d.change ≢ e.change → on_cells (on_cells xs d) e ≡ on_cells (on_cells xs e) d
unfolding on_cells AnyOrder
cells_commute xs d e i ne = any_order d.accepts e.accepts xs d.change e.change ne

-- papers
on_paper : Paper → Decision → Paper
on_paper p d = record { cells = on_cells p.cells d; changes = with_became p.changes d.change (pick d.accepts 1 2) }

rewritten_is : (p : Paper) (d : Decision) → rewritten p (call_of d) ≡ on_paper p d
unfolding on_paper on_cells rewritten decided
rewritten_is p d = go d.accepts
  where
    go : (a : Bool) → rewritten p (pick a (accepts d.change) (rejects d.change)) ≡ record { cells = decided a p.cells d.change; changes = with_became p.changes d.change (pick a 1 2) }
    go true = refl
    go false = refl

rewritten_run : (ds : List Decision) (p : Paper) → all_rewritten ds p ≡ run on_paper ds p
unfolding all_rewritten
rewritten_run [] p = refl
rewritten_run (d ∷ ds) p = rewritten_run ds (rewritten p (call_of d)) ∙ ap (run on_paper ds) (rewritten_is p d)

changes_commute : (cs : List Change) (c d a b : ℕ) → c ≢ d → with_became (with_became cs c a) d b ≡ with_became (with_became cs d b) c a
changes_commute cs c d a b ne =
    let z : Change = record { author = 0; became = 0 } in
    let v : Change = record { author = (get_or cs c z).author; became = a } in
    let w : Change = record { author = (get_or cs d z).author; became = b } in
    ap (λ (t : Change). set (set cs c v) d (record { author = t.author; became = b })) (get_or-set_other cs c d v z (λ k. ne (sym k)))
    ∙ (set_comm cs c d v w ne ∙ ap (λ (t : Change). set (set cs d w) c (record { author = t.author; became = a })) (sym (get_or-set_other cs d c w z ne)))

papers_commute : (p : Paper) (d e : Decision) → Unit {0} → d.change ≢ e.change → on_paper (on_paper p d) e ≡ on_paper (on_paper p e) d
unfolding on_paper
papers_commute p d e i ne =
    let x = cells_commute p.cells d e tt ne in
    let y = changes_commute p.changes d.change e.change (pick d.accepts 1 2) (pick e.accepts 1 2) ne in
    λ j. record { cells = x j; changes = y j }

-- desks: a decision is made if its call can be done and its change is there and open
abbrev made : Limits → Paper → Decision → Bool
made l p d = l.calls_can (call_number (call_of d)) && (ltb d.change (length p.changes) && eqb (became p d.change) 0)

on_desk : Limits → Paper → Decision → Paper
on_desk l p d = pick (made l p d) (on_paper p d) p

made_on : (l : Limits) (p : Paper) (d : Decision) → made l p d ≡ true → on_desk l p d ≡ on_paper p d
unfolding on_desk
made_on l p d e = pick_true (made l p d) _ _ e

made_off : (l : Limits) (p : Paper) (d : Decision) → made l p d ≡ false → on_desk l p d ≡ p
unfolding on_desk
made_off l p d e = pick_false (made l p d) _ _ e

-- deciding leaves no more cells than there were, and as many changes
shorter : (a : Bool) (xs : List Cell) (c : ℕ) → length (decided a xs c) ≤ length xs
unfolding decided accept reject
shorter true [] c = omega arith
shorter false [] c = omega arith
shorter true (x ∷ xs) c = let ih = shorter true xs c in grind arith
shorter false (x ∷ xs) c = let ih = shorter false xs c in grind arith

fits_on : (l : Limits) (p : Paper) (d : Decision) → fits l p ≡ true → fits l (on_paper p d) ≡ true
unfolding on_paper on_cells
fits_on l p d f = grind (arith, length-set, shorter d.accepts p.cells d.change)

fits_kept : (l : Limits) (p : Paper) (d : Decision) → fits l p ≡ true → fits l (on_desk l p d) ≡ true
unfolding on_desk
fits_kept l p d f = pick_both (λ q. fits l q ≡ true) (made l p d) (on_paper p d) p (fits_on l p d f) f

-- a decision on another change changes nothing of whether this one is made
made_still : (l : Limits) (p : Paper) (d e : Decision) → d.change ≢ e.change → made l (on_desk l p d) e ≡ made l p e
unfolding on_desk on_paper
made_still l p d e ne = go (made l p d)
  where
    ne' : e.change ≢ d.change
    ne' = λ k. ne (sym k)

    go : (t : Bool) → made l (pick t (on_paper p d) p) e ≡ made l p e
    go true = simp length-set (ap (λ (v : Change). l.calls_can (call_number (call_of e)) && (ltb e.change (length p.changes) && eqb v.became 0)) (get_or-set_other p.changes d.change e.change _ _ ne'))
    go false = refl

desks_commute : (l : Limits) (p : Paper) (d e : Decision) → fits l p ≡ true → d.change ≢ e.change → on_desk l (on_desk l p d) e ≡ on_desk l (on_desk l p e) d
desks_commute l p d e f ne =
    let other : e.change ≢ d.change = λ k. ne (sym k) in
    grind (arith, made_on, made_off, made_still l p d e ne, made_still l p e d other, papers_commute p d e tt ne)

-- the checks of a call that decides, in their order: g it can be done, i the change is there, o it is open, f the paper after it fits
all_checks : (g i o f : Bool) (x y : Desk) → f ≡ true →
    (pick (eqb (pick (g && true) (pick (eqb (pick i (pick o 0 6) 5) 0) (pick f 0 9) (pick i (pick o 0 6) 5)) 2) 0) x y).now ≡ pick (g && (i && o)) x.now y.now
all_checks g i o f x y h = grind arith

after_is : (l : Limits) (b : Desk) (d : Decision) → fits l b.now ≡ true → (after l b (call_of d)).now ≡ on_desk l b.now d
unfolding on_desk on_paper on_cells decided rewritten writes call_number good_fields turned_by
after_is l b d f = go d.accepts
  where
    p : Paper
    p = b.now

    with : Bool → Decision
    with a = record { change = d.change; accepts = a }

    go : (a : Bool) → (after l b (call_of (with a))).now ≡ on_desk l p (with a)
    go true = all_checks (l.calls_can 2) (ltb d.change (length p.changes)) (eqb (became p d.change) 0) (fits l (rewritten p (accepts d.change))) _ b (fits_on l p (with true) f)
    go false = all_checks (l.calls_can 3) (ltb d.change (length p.changes)) (eqb (became p d.change) 0) (fits l (rewritten p (rejects d.change))) _ b (fits_on l p (with false) f)

ran_run : (l : Limits) (ds : List Decision) (b : Desk) → fits l b.now ≡ true → (ran l b (calls_of ds)).now ≡ run (on_desk l) ds b.now
unfolding ran calls_of
ran_run l [] b f = refl
ran_run l (d ∷ ds) b f =
    let a = after_is l b d f in
    ran_run l ds (after l b (call_of d)) (ap (fits l) a ∙ fits_kept l b.now d f) ∙ ap (run (on_desk l) ds) a

pub any_list_order : AnyListOrder
unfolding AnyListOrder
any_list_order ds es r h = (
  λ xs. done_run ds xs ∙ (same_end (λ s. Unit {0}) on_cells (λ s d i. tt) cells_commute r h xs tt ∙ sym (done_run es xs)),
  λ p. rewritten_run ds p ∙ (same_end (λ s. Unit {0}) on_paper (λ s d i. tt) papers_commute r h p tt ∙ sym (rewritten_run es p)),
  λ l b f. ran_run l ds b f ∙ (same_end (λ p. fits l p ≡ true) (on_desk l) (fits_kept l) (desks_commute l) r h b.now f ∙ sym (ran_run l es b f)),
)
