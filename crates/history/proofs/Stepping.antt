-- That entries stand for what the desk remembers, over every step.
use Rattle.std.proofs.Common.{◌≡◌, ℕ, zero, suc, ◌+◌, ◌-◌, ◌<◌, ◌≤◌, Bool, true, false, eqb, ltb, leb, List, [], ◌∷◌, ◌++◌, length, sym, refl, ap, ◌∙◌, subst, arith}
use lib.Dec.{eqb-suc-zero, leb-zero}
use Rattle.std.proofs.lemmas.Bool.{leb-true, leb-false, ltb-true, eqb-true, false≢true, and_parts}
use Rattle.model.specs.Paper.{pick, Paper}
use Rattle.model.specs.Calls.{Call, put, strikes, accepts, rejects, styles, undo, redo, show, find, count, change, save, number, Before, Desk, Limits, became, call_number, good_fields, good_call, turned_by, writes, rewritten, how_much, remembered, undone, redone, moved, changed, fits, turned, after, told, ran, new_desk}
use Rattle.history.specs.Entry.{Entry, was_put, was_struck, was_accepted, was_rejected, was_styled, counts, much_of, call_of, entry_of, undo_of, redo_of, Can, UndoCan}
use Rattle.history.specs.Steps.{past_of, future_of, desk_of, all_count, kept, Made, SaneBack, SaneAhead, Sane, StandsFor, KeptRemembered, KeptWithin, KeptAll, KeptForgets, Opens, WriteSteps, UndoSteps, RedoSteps, UndoTurned, RedoTurned, TurnedKeeps, LookingKeeps, AlwaysStands}
use Rattle.history.proofs.Undoing.{undo_brings_back, undo_finds, much_of_entry, call_of_entry}

-- A test, and what it says, as cases.
by_leb : (P : Bool → Type 0) (a b : ℕ) → (a ≤ b → P true) → (b < a → P false) → P (leb a b)
by_leb P a b f g = go (leb a b) refl
  where
    go : (t : Bool) → leb a b ≡ t → P t
    go true e = f (leb-true a b e)
    go false e = g (leb-false a b e)

-- What is kept.
pub kept_remembered : KeptRemembered
unfolding kept past_of remembered
kept_remembered u [] p = refl
kept_remembered u (e ∷ es) p =
    let q : Paper = undo_of e p in
    let b : Before = record { paper = q; much = much_of e } in
    let ih = kept_remembered (u - counts e) es q in
    elim (leb (counts e) u) as (λ t. past_of (pick t (e ∷ kept (u - counts e) es) []) p ≡ pick t (b ∷ remembered (u - counts e) (past_of es q)) [])
    [ true ↦ ap (λ bs. b ∷ bs) ih | false ↦ refl ]

pub kept_within : KeptWithin
unfolding kept all_count
kept_within u [] = omega arith
kept_within u (e ∷ es) =
    let ih = kept_within (u - counts e) es in
    by_leb (λ t. all_count (pick t (e ∷ kept (u - counts e) es) []) ≤ u) (counts e) u (λ h. omega arith) (λ h. omega arith)

pub kept_all : KeptAll
unfolding kept all_count
kept_all u [] h = refl
kept_all u (e ∷ es) h =
    let ih : kept (u - counts e) es ≡ es = kept_all (u - counts e) es (omega arith) in
    by_leb (λ t. pick t (e ∷ kept (u - counts e) es) [] ≡ e ∷ es) (counts e) u (λ k. ap (λ xs. e ∷ xs) ih) (λ k. absurd (omega arith))

pub kept_forgets : KeptForgets
unfolding kept all_count
kept_forgets u [] e h = by_leb (λ t. pick t (e ∷ []) [] ≡ []) (counts e) u (λ k. absurd (omega arith)) (λ k. refl)
kept_forgets u (x ∷ es) e h =
    by_leb (λ t. pick t (x ∷ kept (u - counts x) (es ++ (e ∷ []))) [] ≡ pick t (x ∷ kept (u - counts x) es) []) (counts x) u
    (λ k. ap (λ xs. x ∷ xs) (kept_forgets (u - counts x) es e (omega arith))) (λ k. refl)

kept_sane : (l : Limits) (u : ℕ) (es : List Entry) (p : Paper) → SaneBack l es p → SaneBack l (kept u es) p
unfolding kept SaneBack
kept_sane l u [] p h = tt
kept_sane l u (e ∷ es) p h =
    let ih = kept_sane l (u - counts e) es (undo_of e p) h.1 in
    elim (leb (counts e) u) as (λ t. SaneBack l (pick t (e ∷ kept (u - counts e) es) []) p) [ true ↦ (h.0, ih) | false ↦ tt ]

-- Lengths.
pub length_past : (es : List Entry) (p : Paper) → length (past_of es p) ≡ length es
unfolding past_of
length_past [] p = refl
length_past (e ∷ es) p = ap suc (length_past es (undo_of e p))

pub length_future : (es : List Entry) (p : Paper) → length (future_of es p) ≡ length es
unfolding future_of
length_future [] p = refl
length_future (e ∷ es) p = ap suc (length_future es (redo_of e p))

-- A call that is not turned away is a good call, finds what it is about, and leaves a paper within the limits.
parts : (g f : Bool) (t : ℕ) → pick g (pick (eqb t 0) (pick f 0 9) t) 2 ≡ 0 → (g ≡ true) × (t ≡ 0) × (f ≡ true)
parts false f t h = absurd (omega arith)
parts true true zero h = (refl, refl, refl)
parts true false zero h = absurd (omega arith)
parts true f (suc t) h = let e : suc t ≡ 0 = rw eqb-suc-zero at h in absurd (omega arith)

pub not_turned : (l : Limits) (d : Desk) (c : Call) → turned l d c ≡ 0 → (good_call l c ≡ true) × (turned_by d c ≡ 0) × (fits l (rewritten d.now c) ≡ true)
not_turned l d c h = parts (good_call l c) (fits l (rewritten d.now c)) (turned_by d c) h

found : (b : Bool) (n : ℕ) → pick b 0 (suc n) ≡ 0 → b ≡ true
found true n h = refl
found false n h = absurd (omega arith)

open_there : (b t : Bool) → pick {A = ℕ} b (pick t 0 6) 5 ≡ 0 → (b ≡ true) × (t ≡ true)
open_there true true h = (refl, refl)
open_there true false h = absurd (omega arith)
open_there false t h = absurd (omega arith)

pub can_there : (d : Desk) (c : Call) → writes c ≡ true → turned_by d c ≡ 0 → Can d.now c
unfolding writes turned_by Can
can_there d (put a i s ls) w h = leb-true _ _ (found _ 3 h)
can_there d (strikes a i n) w h = leb-true _ _ (found _ 3 h)
can_there d (accepts c) w h = let o = open_there _ _ h in (ltb-true _ _ o.0, eqb-true _ _ o.1)
can_there d (rejects c) w h = let o = open_there _ _ h in (ltb-true _ _ o.0, eqb-true _ _ o.1)
can_there d (styles i n s) w h = leb-true _ _ (found _ 3 h)
can_there d undo w h = absurd (false≢true w)
can_there d redo w h = absurd (false≢true w)
can_there d (show k w r n) v h = absurd (false≢true v)
can_there d (find k i ls) w h = absurd (false≢true w)
can_there d (count k) w h = absurd (false≢true w)
can_there d (change c) w h = absurd (false≢true w)
can_there d (save i n) w h = absurd (false≢true w)

-- whether a call that writes is turned away depends on the paper alone
turned_now : (d e : Desk) (c : Call) → writes c ≡ true → d.now ≡ e.now → turned_by d c ≡ turned_by e c
unfolding writes turned_by
turned_now d e (put a i s ls) w h = ap (λ (p : Paper). pick (leb i (length p.cells)) 0 4) h
turned_now d e (strikes a i n) w h = ap (λ (p : Paper). pick (leb (i + n) (length p.cells)) 0 4) h
turned_now d e (accepts c) w h = ap (λ (p : Paper). pick (ltb c (length p.changes)) (pick (eqb (became p c) 0) 0 6) 5) h
turned_now d e (rejects c) w h = ap (λ (p : Paper). pick (ltb c (length p.changes)) (pick (eqb (became p c) 0) 0 6) 5) h
turned_now d e (styles i n s) w h = ap (λ (p : Paper). pick (leb (i + n) (length p.cells)) 0 4) h
turned_now d e undo w h = absurd (false≢true w)
turned_now d e redo w h = absurd (false≢true w)
turned_now d e (show k w r n) v h = absurd (false≢true v)
turned_now d e (find k i ls) w h = absurd (false≢true w)
turned_now d e (count k) w h = absurd (false≢true w)
turned_now d e (change c) w h = absurd (false≢true w)
turned_now d e (save i n) w h = absurd (false≢true w)

-- the call of an entry writes
writes_call_of : (e : Entry) → writes (call_of e) ≡ true
unfolding writes call_of
writes_call_of (was_put a i s ls) = refl
writes_call_of (was_struck a i k old) = refl
writes_call_of (was_accepted c ms) = refl
writes_call_of (was_rejected c ms) = refl
writes_call_of (was_styled i s old) = refl

-- what a sane entry gives: plain bounds before and after, the paper before from the paper after, and a paper after that is within the limits
module _ (l : Limits) (e : Entry) (before next : Paper) (m : Made l e before next) where
  pub made_can : Can before (call_of e)
  made_can = can_there (desk_of before [] []) (call_of e) (writes_call_of e) (not_turned l (desk_of before [] []) (call_of e) m.allowed).1

  pub made_undone : undo_of e next ≡ before
  made_undone = let u = undo_brings_back before (call_of e) made_can in cc

  pub made_fits : fits l next ≡ true
  made_fits = subst (λ p. fits l p ≡ true) m.paper (not_turned l (desk_of before [] []) (call_of e) m.allowed).2

  pub made_finds : UndoCan e next
  made_finds =
      let u = undo_finds before (call_of e) made_can in
      subst (λ (x : Paper). UndoCan e x) m.paper (subst (λ (x : Entry). UndoCan x (rewritten before (call_of e))) m.entry u)

-- A desk that a paper and its entries stand for is that of the paper and the entries.
the_desk : (l : Limits) (p : Paper) (back ahead : List Entry) (d : Desk) → StandsFor l p back ahead d → desk_of p back ahead ≡ d
the_desk l p back ahead d h = λ i. record { now = sym h.now i; past = sym h.past i; future = sym h.future i }

itself : (l : Limits) (p : Paper) (back ahead : List Entry) → Sane l p back ahead → StandsFor l p back ahead (desk_of p back ahead)
itself l p back ahead h = record { now = refl; past = refl; future = refl; sane = h }

done : (l : Limits) (d : Desk) (c : Call) → turned l d c ≡ 0 → after l d c ≡ changed l d c
done l d c h = ap (λ n. pick (eqb n 0) (changed l d c) d) h

pub opens : Opens
unfolding past_of future_of SaneBack SaneAhead all_count
opens l =
    let fit : fits l (record { cells = []; changes = [] }) ≡ true = rw (leb-zero l.cells, leb-zero l.changes) in
    itself l (record { cells = []; changes = [] }) [] [] (record { fit = fit; behind = tt; before = tt; within = omega arith })

-- the entry of a call between the paper and what the call makes of it
made_now : (l : Limits) (d : Desk) (c : Call) → writes c ≡ true → turned l d c ≡ 0 → fits l d.now ≡ true →
    Made l (entry_of d.now c) d.now (rewritten d.now c)
made_now l d c w t f =
    let n = not_turned l d c t in
    let p : Paper = d.now in
    let e : call_of (entry_of p c) ≡ c = call_of_entry p c (can_there d c w n.1) in
    let alone : turned l (desk_of p [] []) c ≡ 0 =
    ap (λ k. pick (good_call l c) (pick (eqb k 0) (pick (fits l (rewritten p c)) 0 9) k) 2) (turned_now (desk_of p [] []) d c w refl) ∙ t in
    record {
      entry = ap (entry_of p) e;
      paper = ap (rewritten p) e;
      allowed = ap (turned l (desk_of p [] [])) e ∙ alone;
      fit = f;
    }

write_at : (l : Limits) (p : Paper) (back ahead : List Entry) (c : Call) → Sane l p back ahead → writes c ≡ true → turned l (desk_of p back ahead) c ≡ 0 →
    StandsFor l (rewritten p c) (kept l.undos (entry_of p c ∷ back)) [] (after l (desk_of p back ahead) c)
unfolding past_of future_of SaneBack SaneAhead all_count
write_at l p back ahead c h w t =
    let d : Desk = desk_of p back ahead in
    let e : Entry = entry_of p c in
    let q : Paper = rewritten p c in
    let u : ℕ = l.undos in
    let n = not_turned l d c t in
    let can : Can p c = can_there d c w n.1 in
    let back_is : undo_of e q ≡ p = undo_brings_back p c can in
    let much-is : much_of e ≡ how_much p c = much_of_entry p c can in
    let to : Desk = record { now = q; past = remembered u (record { paper = p; much = how_much p c } ∷ past_of back p); future = [] } in
    let is : to ≡ after l d c = sym (done l d c t ∙ ap (λ b. pick {A = Desk} b to (moved l d c)) w) in
    let begins : past_of (e ∷ back) q ≡ record { paper = p; much = how_much p c } ∷ past_of back p =
    λ i. record { paper = back_is i; much = much-is i } ∷ past_of back (back_is i) in
    let past : remembered u (record { paper = p; much = how_much p c } ∷ past_of back p) ≡ past_of (kept u (e ∷ back)) q =
    sym (kept_remembered u (e ∷ back) q ∙ ap (remembered u) begins) in
    let made : Made l e p q = made_now l d c w t h.fit in
    let sane : SaneBack l (e ∷ back) q = subst (λ x. Made l e x q × SaneBack l back x) (sym back_is) (made, h.behind) in
    subst (StandsFor l q (kept u (e ∷ back)) []) is
    (record {
      now = refl;
      past = past;
      future = refl;
      sane = record { fit = n.2; behind = kept_sane l u (e ∷ back) q sane; before = tt; within = omega (arith, kept_within u (e ∷ back)) };
    })

pub write_steps : WriteSteps
write_steps l p back ahead d c st w t =
    subst (λ (x : Desk). turned l x c ≡ 0 → StandsFor l (rewritten p c) (kept l.undos (entry_of p c ∷ back)) [] (after l x c))
    (the_desk l p back ahead d st) (write_at l p back ahead c st.sane w) t

-- undo and redo are not turned away but for want of entries
only_seven : (n : ℕ) → pick {A = ℕ} (eqb (pick (eqb n 0) 7 0) 0) 0 (pick (eqb n 0) 7 0) ≡ pick (eqb n 0) 7 0
only_seven n = elim (eqb n 0) as (λ b. pick {A = ℕ} (eqb (pick b 7 0) 0) 0 (pick b 7 0) ≡ pick b 7 0) [ true ↦ refl | false ↦ refl ]

undo_turned_at : (l : Limits) (p : Paper) (back ahead : List Entry) → Sane l p back ahead → l.calls_can 5 ≡ true →
    (turned l (desk_of p back ahead) undo ≡ pick (eqb (length back) 0) 7 0) × (told (desk_of p back ahead) undo ≡ number (length back))
unfolding call_number good_fields turned_by rewritten told
undo_turned_at l p back ahead h k =
    let g : good_call l undo ≡ true = rw k in
    let f = h.fit in
    (rw (g, f, length_past back p) (only_seven (length back)), ap number (length_past back p))

redo_turned_at : (l : Limits) (p : Paper) (back ahead : List Entry) → Sane l p back ahead → l.calls_can 6 ≡ true →
    (turned l (desk_of p back ahead) redo ≡ pick (eqb (length ahead) 0) 7 0) × (told (desk_of p back ahead) redo ≡ number (length ahead))
unfolding call_number good_fields turned_by rewritten told
redo_turned_at l p back ahead h k =
    let g : good_call l redo ≡ true = rw k in
    let f = h.fit in
    (rw (g, f, length_future ahead p) (only_seven (length ahead)), ap number (length_future ahead p))

pub undo_turned : UndoTurned
undo_turned l p back ahead d st k =
    subst (λ (x : Desk). (turned l x undo ≡ pick (eqb (length back) 0) 7 0) × (told x undo ≡ number (length back)))
    (the_desk l p back ahead d st) (undo_turned_at l p back ahead st.sane k)

pub redo_turned : RedoTurned
redo_turned l p back ahead d st k =
    subst (λ (x : Desk). (turned l x redo ≡ pick (eqb (length ahead) 0) 7 0) × (told x redo ≡ number (length ahead)))
    (the_desk l p back ahead d st) (redo_turned_at l p back ahead st.sane k)

undo_at : (l : Limits) (p : Paper) (e : Entry) (back ahead : List Entry) → Sane l p (e ∷ back) ahead → l.calls_can 5 ≡ true →
    StandsFor l (undo_of e p) back (e ∷ ahead) (after l (desk_of p (e ∷ back) ahead) undo)
unfolding past_of future_of SaneBack SaneAhead all_count writes moved undone
undo_at l p e back ahead h k =
    let d : Desk = desk_of p (e ∷ back) ahead in
    let q : Paper = undo_of e p in
    let t : turned l d undo ≡ 0 = (undo_turned_at l p (e ∷ back) ahead h k).0 ∙ ap (λ b. pick {A = ℕ} b 7 0) (eqb-suc-zero (length back)) in
    let m : Made l e q p = h.behind.0 in
    let again : p ≡ redo_of e q = sym m.paper in
    let future : record { paper = p; much = much_of e } ∷ future_of ahead p ≡ future_of (e ∷ ahead) q =
    ap (λ (x : Paper). record { paper = x; much = much_of e } ∷ future_of ahead x) again in
    let before : SaneAhead l (e ∷ ahead) q = subst (λ (x : Paper). Made l e q x × SaneAhead l ahead x) again (m, h.before) in
    subst (StandsFor l q back (e ∷ ahead)) (sym (done l d undo t))
    (record {
      now = refl;
      past = refl;
      future = future;
      sane = record { fit = m.fit; behind = h.behind.1; before = before; within = omega arith };
    })

redo_at : (l : Limits) (p : Paper) (e : Entry) (back ahead : List Entry) → Sane l p back (e ∷ ahead) → l.calls_can 6 ≡ true →
    StandsFor l (redo_of e p) (e ∷ back) ahead (after l (desk_of p back (e ∷ ahead)) redo)
unfolding past_of future_of SaneBack SaneAhead all_count writes moved redone
redo_at l p e back ahead h k =
    let d : Desk = desk_of p back (e ∷ ahead) in
    let q : Paper = redo_of e p in
    let t : turned l d redo ≡ 0 = (redo_turned_at l p back (e ∷ ahead) h k).0 ∙ ap (λ b. pick {A = ℕ} b 7 0) (eqb-suc-zero (length ahead)) in
    let m : Made l e p q = h.before.0 in
    let again : p ≡ undo_of e q = sym (made_undone l e p q m) in
    let past : record { paper = p; much = much_of e } ∷ past_of back p ≡ past_of (e ∷ back) q =
    ap (λ (x : Paper). record { paper = x; much = much_of e } ∷ past_of back x) again in
    let behind : SaneBack l (e ∷ back) q = subst (λ (x : Paper). Made l e x q × SaneBack l back x) again (m, h.behind) in
    subst (StandsFor l q (e ∷ back) ahead) (sym (done l d redo t))
    (record {
      now = refl;
      past = past;
      future = refl;
      sane = record { fit = made_fits l e p q m; behind = behind; before = h.before.1; within = omega arith };
    })

pub undo_steps : UndoSteps
undo_steps l p e back ahead d st k =
    subst (λ (x : Desk). StandsFor l (undo_of e p) back (e ∷ ahead) (after l x undo)) (the_desk l p (e ∷ back) ahead d st) (undo_at l p e back ahead st.sane k)

pub redo_steps : RedoSteps
redo_steps l p e back ahead d st k =
    subst (λ (x : Desk). StandsFor l (redo_of e p) (e ∷ back) ahead (after l x redo)) (the_desk l p back (e ∷ ahead) d st) (redo_at l p e back ahead st.sane k)

-- what changes nothing
kept_desk : (n : ℕ) (d x : Desk) → 0 < n → pick (eqb n 0) x d ≡ d
kept_desk zero d x h = absurd (omega arith)
kept_desk (suc n) d x h = ap (λ b. pick b x d) (eqb-suc-zero n)

pub turned_keeps : TurnedKeeps
turned_keeps l p back ahead d c st h = subst (StandsFor l p back ahead) (sym (kept_desk (turned l d c) d (changed l d c) h)) st

either_way : (b : Bool) (d : Desk) → pick b d d ≡ d
either_way true d = refl
either_way false d = refl

looked : (l : Limits) (d : Desk) (c : Call) → 6 < call_number c → changed l d c ≡ d
unfolding call_number writes moved
looked l d (put a i s ls) h = absurd (omega arith)
looked l d (strikes a i n) h = absurd (omega arith)
looked l d (accepts c) h = absurd (omega arith)
looked l d (rejects c) h = absurd (omega arith)
looked l d (styles i n s) h = absurd (omega arith)
looked l d undo h = absurd (omega arith)
looked l d redo h = absurd (omega arith)
looked l d (show k w r n) h = refl
looked l d (find k i ls) h = refl
looked l d (count k) h = refl
looked l d (change c) h = refl
looked l d (save i n) h = refl

pub looking_keeps : LookingKeeps
looking_keeps l p back ahead d c st h =
    let e : after l d c ≡ d = ap (λ x. pick (eqb (turned l d c) 0) x d) (looked l d c h) ∙ either_way (eqb (turned l d c) 0) d in
    subst (StandsFor l p back ahead) (sym e) st

-- The oldest of some entries, and what entries count with one more at the end.
pub oldest : (e : Entry) (es : List Entry) → (front : List Entry) × (last : Entry) × (e ∷ es ≡ front ++ (last ∷ []))
oldest e [] = ([], e, refl)
oldest e (f ∷ es) = let r = oldest f es in (e ∷ r.0, r.1, ap (λ xs. e ∷ xs) r.2)

pub all_count_push : (es : List Entry) (e : Entry) → all_count (es ++ (e ∷ [])) ≡ all_count es + counts e
unfolding all_count
all_count_push [] e = omega arith
all_count_push (x ∷ es) e = omega (arith, all_count_push es e)

-- Over all calls.
Standing : Limits → Desk → Type 0
Standing l d = (p : Paper) × (back : List Entry) × (ahead : List Entry) × StandsFor l p back ahead d

undo_one : (l : Limits) (p : Paper) (back ahead : List Entry) (d : Desk) → StandsFor l p back ahead d → turned l d undo ≡ 0 → Standing l (after l d undo)
unfolding Standing call_number good_fields
undo_one l p [] ahead d st t =
    let can : l.calls_can 5 ≡ true = (and_parts _ _ (not_turned l d undo t).0).0 in
    let x = (undo_turned l p [] ahead d st can).0 in
    absurd (omega arith)
undo_one l p (e ∷ back) ahead d st t =
    let can : l.calls_can 5 ≡ true = (and_parts _ _ (not_turned l d undo t).0).0 in
    (undo_of e p, back, e ∷ ahead, undo_steps l p e back ahead d st can)

redo_one : (l : Limits) (p : Paper) (back ahead : List Entry) (d : Desk) → StandsFor l p back ahead d → turned l d redo ≡ 0 → Standing l (after l d redo)
unfolding Standing call_number good_fields
redo_one l p back [] d st t =
    let can : l.calls_can 6 ≡ true = (and_parts _ _ (not_turned l d redo t).0).0 in
    let x = (redo_turned l p back [] d st can).0 in
    absurd (omega arith)
redo_one l p back (e ∷ ahead) d st t =
    let can : l.calls_can 6 ≡ true = (and_parts _ _ (not_turned l d redo t).0).0 in
    (redo_of e p, e ∷ back, ahead, redo_steps l p e back ahead d st can)

module _ (l : Limits) (p : Paper) (back ahead : List Entry) (d : Desk) (st : StandsFor l p back ahead d) where
  wrote : (c : Call) → writes c ≡ true → turned l d c ≡ 0 → Standing l (after l d c)
  unfolding Standing
  wrote c w t = (rewritten p c, kept l.undos (entry_of p c ∷ back), [], write_steps l p back ahead d c st w t)

  same : (c : Call) → 6 < call_number c → Standing l (after l d c)
  unfolding Standing
  same c h = (p, back, ahead, looking_keeps l p back ahead d c st h)

  step_done : (c : Call) → turned l d c ≡ 0 → Standing l (after l d c)
  unfolding writes call_number
  step_done (put a i s ls) t = wrote (put a i s ls) refl t
  step_done (strikes a i n) t = wrote (strikes a i n) refl t
  step_done (accepts c) t = wrote (accepts c) refl t
  step_done (rejects c) t = wrote (rejects c) refl t
  step_done (styles i n s) t = wrote (styles i n s) refl t
  step_done undo t = undo_one l p back ahead d st t
  step_done redo t = redo_one l p back ahead d st t
  step_done (show k w r n) t = same (show k w r n) (omega arith)
  step_done (find k i ls) t = same (find k i ls) (omega arith)
  step_done (count k) t = same (count k) (omega arith)
  step_done (change c) t = same (change c) (omega arith)
  step_done (save i n) t = same (save i n) (omega arith)

  step : (c : Call) (n : ℕ) → turned l d c ≡ n → Standing l (after l d c)
  unfolding Standing
  step c zero t = step_done c t
  step c (suc n) t = (p, back, ahead, turned_keeps l p back ahead d c st (omega arith))

stands_ran : (l : Limits) (cs : List Call) (d : Desk) → Standing l d → Standing l (ran l d cs)
unfolding ran Standing
stands_ran l [] d st = st
stands_ran l (c ∷ cs) d st = stands_ran l cs (after l d c) (step l st.0 st.1 st.2 d st.3 c (turned l d c) refl)

pub always_stands : AlwaysStands
unfolding Standing
always_stands l cs = stands_ran l cs new_desk (record { cells = []; changes = [] }, [], [], opens l)
